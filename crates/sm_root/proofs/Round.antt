-- Writing and reading undo each other.
use Rattle.std.proofs.Common.{◌≡◌, ℕ, ◌≤◌, List, ◌++◌, length, Result, Ok, refl, sym, ap, ◌∙◌, arith, length-append}
use Rattle.sm_fields.specs.Format.{bits32}
use Rattle.sm_fields.specs.Grammar.{digits}
use Rattle.sm_fields.specs.Reading.{whole}
use Rattle.sm_fields.proofs.Sizes.{length-digits}
use Rattle.sm_fields.proofs.Whole.{whole_again}
use Rattle.sm_root.specs.declared.root.Root.{Root}
use Rattle.sm_root.specs.declared.TheConstants.{MAGIC}
use Rattle.sm_root.specs.Condition.{IsRoot}
use Rattle.sm_root.specs.Layout.{root_record}
use Rattle.sm_root.specs.Spelling.{body_bytes, spelling}
use Rattle.sm_root.proofs.Lengths.{body_short}
use Rattle.sm_root.proofs.RootSpelled.{record_again}

pub spelling_short : (r : Root) → IsRoot r → length (spelling r) ≤ 4225204
spelling_short r is =
    let body = body_bytes r in
    omega (arith, length-append MAGIC (digits bits32 (length body) ++ body), length-append (digits bits32 (length body)) body, length-digits bits32 (length body), body_short r is)

pub written_is_read : (r : Root) → IsRoot r → whole (root_record (length (spelling r))) (spelling r) ≡ Ok r
written_is_read r is =
    let short = spelling_short r is in
    whole_again (root_record (length (spelling r))) (spelling r) r (record_again r (spelling r) is (omega (arith, short)) refl)

abbrev answer : Root → Result Root ℕ
answer r = Ok r

same_answer : (r s : Root) → answer r ≡ answer s → r ≡ s
same_answer r s e = cc

pub one_value : (r s : Root) → IsRoot r → IsRoot s → spelling r ≡ spelling s → r ≡ s
one_value r s a b e = same_answer r s (sym (written_is_read r a) ∙ ap (λ (x : List ℕ). whole (root_record (length x)) x) e ∙ written_is_read s b)

-- The spelling of a root is a record.
use Rattle.std.proofs.Common.{◌≡◌, ℕ, ◌≤◌, List, [], ◌∷◌, ◌++◌, length, refl, sym, ap, subst, arith}
use Rattle.std.proofs.lemmas.List.{length-append}
use Rattle.std.specs.Int.{w32, to_be_bytes}
use Rattle.sm_fields.specs.Grammar.{digits}
use Rattle.sm_root.specs.declared.root.Root.{Root}
use Rattle.sm_root.specs.Spelling.{spelling, body_bytes}
use Rattle.sm_slots.specs.Stored.{IsFramed}
use Rattle.sm_slots.proofs.Framed.{framed_record}

-- "SMROOT01"
magic : List ℕ
magic = 83 ∷ 77 ∷ 82 ∷ 79 ∷ 79 ∷ 84 ∷ 48 ∷ 49 ∷ []

pub framed_root : (r : Root) (bytes : List ℕ) → bytes ≡ spelling r → length bytes ≤ 4225204 → IsFramed bytes
unfolding digits magic
framed_root r bytes is short =
    let body = body_bytes r in
    let front = to_be_bytes w32 (length body) in
    let long : length (magic ++ (front ++ body)) ≤ 4225204 = subst (λ (n : ℕ). n ≤ 4225204) (ap length is) short in
    let outer = length-append magic (front ++ body) in
    let inner = length-append front body in
    subst IsFramed (sym is) (framed_record magic body refl refl (omega arith))

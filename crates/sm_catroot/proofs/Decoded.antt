-- What decoding answers, and that writing and reading undo each other.
use Rattle.std.proofs.Common.{◌≡◌, ℕ, ◌^◌, ◌<◌, List, [], ◌∷◌, ◌++◌, map, length, Result, Ok, Err, refl, sym, ap, ◌∙◌, arith}
use Rattle.std.specs.Prelude.{IfOk, IfErr, IfSome, Option, Some, None}
use Rattle.std.specs.List.{flat_map}
use Rattle.std.proofs.lemmas.List.Concat.{flat_map-cons}
use Rattle.sm_fields.specs.Format.{bits32}
use Rattle.sm_fields.specs.Grammar.{digits, option_digits, identity_digits, Spells, FirstFault}
use Rattle.sm_fields.specs.Place.{IsBytes}
use Rattle.sm_fields.specs.Reading.{whole}
use Rattle.sm_fields.specs.Reads.{Tells}
use Rattle.sm_fields.proofs.Whole.{whole_spelled, whole_again, whole_stops, tells_first}
use Rattle.sm_register.specs.declared.fault.DecodeFault.{DecodeFault}
use Rattle.sm_register.specs.declared.fault.DecodeFault.TheVariants.{Bad, NoMemory}
use Rattle.sm_register.specs.Answer.{bad_byte, OrNoMemory}
use Rattle.sm_relation.specs.declared.relation.Relation.{Relation}
use Rattle.sm_relation.specs.declared.relation.Standing.{Standing}
use Rattle.sm_catroot.specs.declared.TheConstants.{MAGIC}
use Rattle.sm_catroot.specs.Catalog.{Catalog}
use Rattle.sm_catroot.specs.Condition.{IsCatalog, transfer_again, relation_again, again}
use Rattle.sm_catroot.specs.Layout.{catalog_record}
use Rattle.sm_catroot.specs.Spelling.{numbers_digits, numbers_of, volumes_bytes, policies_bytes, relations_bytes, relation_head_digits, relation_head_of, relation_digits, transfer_digits, body_bytes, spelling}
use Rattle.sm_catroot.proofs.CatalogSpelled.{record_only, record_again}
use Rattle.sm_catroot.proofs.CatalogFits.{catalog_of, fits_again, length_again}
use Rattle.sm_catroot.proofs.Lengths.{spelling_short}

-- ---- whether a transfer runs is not spelled

same_transfer : (o : Option Standing) → option_digits transfer_digits (transfer_again o) ≡ option_digits transfer_digits o
unfolding transfer_digits
same_transfer None = refl
same_transfer (Some t) = refl

same_relation : (r : Relation) → relation_digits (relation_again r) ≡ relation_digits r
unfolding relation_digits
same_relation r = ap (λ (x : List ℕ). relation_head_digits (relation_head_of r) ++ (option_digits identity_digits r.base ++ x)) (same_transfer r.transfer)

same_each : (rs : List Relation) → flat_map relation_digits (map relation_again rs) ≡ flat_map relation_digits rs
same_each [] = refl
same_each (r ∷ rs) =
    flat_map-cons relation_digits (relation_again r) (map relation_again rs) ∙ rw (same_relation r, same_each rs) (sym (flat_map-cons relation_digits r rs))

same_relations : (rs : List Relation) → relations_bytes (map relation_again rs) ≡ relations_bytes rs
unfolding relations_bytes
same_relations rs = rw (length_again rs, same_each rs) refl

same_body : (k : Catalog) → body_bytes (again k) ≡ body_bytes k
unfolding body_bytes
same_body k = ap (λ (x : List ℕ). numbers_digits (numbers_of k) ++ (volumes_bytes k.volumes ++ (policies_bytes k.policies ++ x))) (same_relations k.relations)

pub same_spelling : (k : Catalog) → spelling (again k) ≡ spelling k
same_spelling k = ap (λ (body : List ℕ). MAGIC ++ (digits bits32 (length body) ++ body)) (same_body k)

-- ---- records

pub spells_is : (k : Catalog) (bytes : List ℕ) → Spells (catalog_record (length bytes)) k bytes → IsCatalog k × (again k ≡ k) × (bytes ≡ spelling k)
spells_is k bytes s =
    let r = record_only k bytes s in
    let c = catalog_of k r.0 in
    (c.0, c.1, r.1)

pub spells_again : (k : Catalog) (bytes : List ℕ) → IsCatalog k → length bytes < 2 ^ 32 → bytes ≡ spelling k → Spells (catalog_record (length bytes)) (again k) bytes
spells_again k bytes is small e = record_again (again k) bytes (fits_again k is) small (e ∙ sym (same_spelling k))

-- ---- answers

abbrev pub ToldBy : List ℕ → Result Catalog DecodeFault → Type 0
ToldBy bytes r = Tells bad_byte (λ x. x) r (whole (catalog_record (length bytes)) bytes)

pub is_found : (bytes : List ℕ) (r : Result Catalog DecodeFault) → IsBytes bytes → ToldBy bytes r → IfOk r (λ k. IsCatalog k × (again k ≡ k) × (bytes ≡ spelling k))
is_found bytes (Ok k) fits t = spells_is k bytes (whole_spelled (catalog_record (length bytes)) bytes k fits t)
is_found bytes (Err e) fits t = tt

answer_is : (r : Result Catalog DecodeFault) (x : Catalog) (read : Result Catalog ℕ) → read ≡ Ok x → Tells bad_byte (λ y. y) r read → OrNoMemory r (Ok x)
answer_is (Ok y) x read is t = cc
answer_is (Err (Bad at)) x read is t = absurd cc
answer_is (Err NoMemory) x read is t = tt

fault_is : (r : Result Catalog DecodeFault) (k : ℕ) (read : Result Catalog ℕ) → read ≡ Err k → Tells bad_byte (λ y. y) r read → OrNoMemory r (Err (Bad k))
fault_is (Ok y) k read is t = absurd cc
fault_is (Err (Bad at)) k read is t = cc
fault_is (Err NoMemory) k read is t = tt

pub is_read : (bytes : List ℕ) (r : Result Catalog DecodeFault) → length bytes < 2 ^ 32 → ToldBy bytes r → (k : Catalog) → IsCatalog k → bytes ≡ spelling k → OrNoMemory r (Ok (again k))
is_read bytes r small t k is e = answer_is r (again k) (whole (catalog_record (length bytes)) bytes) (whole_again (catalog_record (length bytes)) bytes (again k) (spells_again k bytes is small e)) t

pub is_first : (bytes : List ℕ) (r : Result Catalog DecodeFault) → IsBytes bytes → ToldBy bytes r → IfErr r (λ e. IfSome (bad_byte e) (FirstFault (catalog_record (length bytes)) bytes))
is_first bytes r fits t = tells_first bad_byte (λ x. x) (catalog_record (length bytes)) bytes r fits t

pub is_told : (bytes : List ℕ) (r : Result Catalog DecodeFault) → IsBytes bytes → ToldBy bytes r → (at : ℕ) → FirstFault (catalog_record (length bytes)) bytes at → OrNoMemory r (Err (Bad at))
is_told bytes r fits t at fault = fault_is r at (whole (catalog_record (length bytes)) bytes) (whole_stops (catalog_record (length bytes)) bytes at fits fault) t

-- ---- both ways

pub written_is_read : (k : Catalog) → IsCatalog k → whole (catalog_record (length (spelling k))) (spelling k) ≡ Ok (again k)
written_is_read k is =
    let short = spelling_short k is in
    whole_again (catalog_record (length (spelling k))) (spelling k) (again k) (spells_again k (spelling k) is (omega (arith, short)) refl)

abbrev answer : Catalog → Result Catalog ℕ
answer k = Ok k

same_answer : (j k : Catalog) → answer j ≡ answer k → j ≡ k
same_answer j k e = cc

pub one_value : (j k : Catalog) → IsCatalog j → IsCatalog k → spelling j ≡ spelling k → again j ≡ again k
one_value j k a b e = same_answer (again j) (again k) (sym (written_is_read j a) ∙ ap (λ (x : List ℕ). whole (catalog_record (length x)) x) e ∙ written_is_read k b)

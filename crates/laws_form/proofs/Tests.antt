-- What the tests of the answers mean.
use Rattle.std.proofs.Common.{◌≡◌, ◌<◌, ◌≤◌, ◌==◌, ℕ, Bool, true, false, List, arith, eq-eqb}
use Rattle.std.specs.List.{list_any}
use Rattle.std.specs.Str.{bytes_eq}
use Rattle.std.proofs.lemmas.Bool.{eqb-false, both_ways}
use Rattle.std.proofs.lemmas.Slice.Eq.{bytes_eq-Decides}
use Rattle.sm_defs.specs.Words.{Among}
use Rattle.sm_defs.specs.Volume.{Volume}
use Rattle.sm_defs.specs.Relationship.{Policy}
use Rattle.sm_defs.proofs.Members.{any_among}

-- no element of a list passes a test
pub none_pass : {X : Type 0} (p : X → Bool) (xs : List X) (x : X) → list_any p xs ≡ false → Among xs x → ¬ (p x ≡ true)
none_pass p xs x e m h = both_ways (list_any p xs) e (any_among p xs x m h)

pub no_such_path : (vs : List Volume) (path : List ℕ) → list_any (λ v. bytes_eq v.path path) vs ≡ false → (v : Volume) → Among vs v → ¬ (v.path ≡ path)
no_such_path vs path e v m h = none_pass (λ v. bytes_eq v.path path) vs v e m ((bytes_eq-Decides v.path path).1 h)

pub no_such_disk : (vs : List Volume) (disk : ℕ) → list_any (λ v. v.disk == disk) vs ≡ false → (v : Volume) → Among vs v → ¬ (v.disk ≡ disk)
no_such_disk vs disk e v m h = none_pass (λ v. v.disk == disk) vs v e m (eq-eqb v.disk disk h)

pub no_such_name : (ps : List Policy) (name : List ℕ) → list_any (λ p. bytes_eq p.name name) ps ≡ false → (p : Policy) → Among ps p → ¬ (p.name ≡ name)
no_such_name ps name e p m h = none_pass (λ p. bytes_eq p.name name) ps p e m ((bytes_eq-Decides p.name name).1 h)

-- below a bound that it does not pass and is not at
pub below_bound : (n most : ℕ) → n ≤ most → (n == most) ≡ false → n < most
below_bound n most h e = let k = eqb-false n most e in omega arith

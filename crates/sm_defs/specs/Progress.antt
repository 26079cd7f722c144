-- How far a transfer is.
use Rattle.std.specs.Prelude.{ℕ, zero, suc, cond, List, [], ◌∷◌, length, Some}
use Rattle.sm_base.specs.declared.numbers.Ident.{Ident}
use Rattle.sm_defs.specs.Image.{stands}
use Rattle.sm_defs.specs.Volume.{Snapshot, has}
use Rattle.sm_defs.specs.Relationship.{Relationship, Transfer}

-- the first number that has not landed, of those from k on
abbrev pub prefix_from : ℕ → ℕ → List ℕ → ℕ
prefix_from zero k landed = k
prefix_from (suc n) k landed = cond (stands k landed) (prefix_from n (suc k) landed) k

-- how many indexes landed before the first that did not
abbrev pub landed_prefix : List ℕ → ℕ
landed_prefix landed = prefix_from (length landed) 0 landed

-- the first leg is the base from now on
abbrev pub settled : Relationship → Transfer → Ident → List Ident → Relationship
settled r t i later = record r { base = Some i; transfer = Some (record t { legs = later; checkpoint = 0; landed = [] }) }

-- where the first leg is published, it is settled
abbrev pub settled_if_there : List Snapshot → Relationship → Transfer → List Ident → Relationship
settled_if_there there r t [] = r
settled_if_there there r t (i ∷ is) = cond (has there i) (settled r t i is) r

-- Volumes by their numbers.
use Rattle.std.proofs.Common.{◌≡◌, ◌==◌, ◌||◌, ℕ, false, List, [], ◌∷◌, map, nat_eq, refl, sym, ap₂}
use Rattle.std.proofs.lemmas.Bool.{both_ways, eq-eqb}
use Rattle.std.proofs.lemmas.Map.Keys.{IsDistinct-head, IsDistinct-tail}
use Rattle.std.specs.Cmp.{nat_eq_equiv}
use Rattle.std.specs.List.{list_any, IsDistinct, AllByRecursion}
use Rattle.sm_base.specs.declared.numbers.VolNo.{VolNo}
use Rattle.sm_defs.specs.Words.{KeysDiffer}
use Rattle.sm_graph.specs.Links.{volume}

pub any-numbered : (ks : List ℕ) (u : ℕ) → list_any (λ (v : VolNo). v.0 == u) (map volume ks) ≡ list_any (nat_eq u) ks
any-numbered [] u = refl
any-numbered (k ∷ ks) u = ap₂ (λ a b. a || b) (nat_eq_equiv.symm k u) (any-numbered ks u)

others_differ : (k : ℕ) (ks : List ℕ) → AllByRecursion (λ y. nat_eq k y ≡ false) ks → AllByRecursion (λ (v : VolNo). ¬ (v.0 ≡ k)) (map volume ks)
others_differ k [] h = tt
others_differ k (x ∷ xs) h = (λ e. both_ways (nat_eq k x) h.0 (eq-eqb k x (sym e)), others_differ k xs h.1)

pub numbered-differ : (ks : List ℕ) → IsDistinct nat_eq ks → KeysDiffer (λ (v : VolNo). v.0) (map volume ks)
numbered-differ [] d = tt
numbered-differ (k ∷ ks) d = (others_differ k ks (IsDistinct-head nat_eq k ks d), numbered-differ ks (IsDistinct-tail nat_eq k ks d))

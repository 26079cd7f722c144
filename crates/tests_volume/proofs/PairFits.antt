-- A new destination of two blocks and six physical ones, and a map of two different numbers.
use Rattle.std.proofs.Common.{◌≡◌, ◌||◌, ◌==◌, Bool, true, false, ℕ, zero, suc, ◌<◌, ◌≤◌, List, [], ◌∷◌, slice_index, refl, arith}
use Rattle.std.proofs.lemmas.Bool.Decides.{nat_tests}
use Rattle.sm_base.specs.declared.numbers.Kind.TheVariants.{Dp}
use Rattle.sm_defs.specs.Image.{hole, stands}
use Rattle.sm_defs.specs.Volume.{Volume, new_volume, tags_of}
use Rattle.sm_volume.specs.Assigned.{CanAdopt}

abbrev pub fresh : Volume
fresh = new_volume [] 0 Dp 0 2 6

four : (b : Bool) → b ≡ false → (b || (b || (b || (b || false)))) ≡ false
four true e = absurd (cc)
four false e = refl

pub free : (n : ℕ) → 1 ≤ n → stands n (tags_of fresh) ≡ false
unfolding hole
free n some = four (0 == n) (grind (arith, nat_tests))

abbrev pub pair : List ℕ
pair = 1 ∷ 2 ∷ []

pub at_most : (i : ℕ) → slice_index pair i ≤ 6
at_most zero = omega arith
at_most (suc zero) = omega arith
at_most (suc (suc i)) = omega arith

pub once : (i j : ℕ) → slice_index pair i ≡ slice_index pair j → 0 < slice_index pair i → i ≡ j
once zero zero e some = refl
once zero (suc zero) e some = absurd (omega arith)
once zero (suc (suc j)) e some = absurd (omega arith)
once (suc zero) zero e some = absurd (omega arith)
once (suc zero) (suc zero) e some = refl
once (suc zero) (suc (suc j)) e some = absurd (omega arith)
once (suc (suc i)) j e some = absurd (omega arith)

pub pair_fits : CanAdopt fresh pair []
pair_fits = record {
  long = refl;
  within = at_most;
  once = once;
  one_place = λ s is. absurd is;
}

-- What the record of a volume tells of its stable image.
use Rattle.std.proofs.Common.{◌≡◌, ◌||◌, ◌==◌, ℕ, Bool, true, false, List, [], ◌∷◌, ◌++◌, refl, ap, ◌∙◌}
use Rattle.sm_defs.specs.Image.{stands, tags}
use Rattle.sm_defs.specs.Volume.{Volume, tags_of}

or_true : (b : Bool) → (b || true) ≡ true
or_true true = refl
or_true false = refl

in_front : (n : ℕ) (xs ys : List ℕ) → stands n xs ≡ true → stands n (xs ++ ys) ≡ true
in_front n [] ys is = absurd (cc)
in_front n (x ∷ xs) ys is = by (x == n) (stands n xs) (stands n (xs ++ ys)) is (in_front n xs ys)
  where
    by : (a b c : Bool) → (a || b) ≡ true → (b ≡ true → c ≡ true) → (a || c) ≡ true
    by true b c is rest = refl
    by false b c is rest = rest is

behind : (n : ℕ) (xs ys : List ℕ) → stands n ys ≡ true → stands n (xs ++ ys) ≡ true
behind n [] ys is = is
behind n (x ∷ xs) ys is = ap (λ b. (x == n) || b) (behind n xs ys is) ∙ or_true (x == n)

-- what the stable image uses, an image of the volume uses
pub stable_stands : (v : Volume) (n : ℕ) → stands n (tags v.stable) ≡ true → stands n (tags_of v) ≡ true
stable_stands v n is = behind n (tags v.active) _ (in_front n (tags v.stable) _ is)

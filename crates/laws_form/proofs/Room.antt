-- Where not all blocks are used, a number is free.
use Rattle.std.proofs.Common.{◌≡◌, ◌≢◌, ◌⊎◌, ◌<◌, ◌≤◌, ℕ, zero, suc, ◌==◌, ◌||◌, Bool, true, false, not, cond, List, [], ◌∷◌, ◌++◌, length, Some, refl, inl, inr, eqb-true, arith}
use Rattle.std.specs.Prelude.{slice_get}
use Rattle.std.specs.List.{list_any, filter, flat_map}
use Rattle.std.proofs.lemmas.Bool.{or_cases, or_left, or_right, not-false}
use Rattle.sm_defs.specs.Words.{Among}
use Rattle.sm_defs.specs.Image.{Block, Image, tags, stands}
use Rattle.sm_defs.specs.Volume.{Volume, images_of, tags_of, numbers, free_tags, free, used}
use Rattle.sm_model.specs.TagsFit.{TagsFitIn}
use Rattle.sm_defs.specs.Missing.{first_number}
use Rattle.sm_defs.proofs.Members.{among_stands, any_left, any_right}
use Rattle.sm_defs.proofs.Numbers.{to_numbers}
use Rattle.laws_transfer.proofs.Landed.{free_ascend}
use Rattle.laws_form.proofs.Pigeonhole.{at_least, at_most, distinct_append}

none_go : (p : ℕ → Bool) (x t : ℕ) (xs : List ℕ) (b : Bool) → p x ≡ b → x ≢ 0 → first_number (cond b (x ∷ filter p xs) (filter p xs)) ≡ 0 →
    (first_number (filter p xs) ≡ 0 → Among xs t → p t ≡ false) → (t ≡ x) ⊎ Among xs t → p t ≡ false
none_go p x t xs true e n z h m = absurd (n z)
none_go p x t xs false e n z h (inl i) = rw i e
none_go p x t xs false e n z h (inr m) = h z m

none_passes : (p : ℕ → Bool) (n from t : ℕ) → first_number (filter p (numbers (suc from) n)) ≡ 0 → Among (numbers (suc from) n) t → p t ≡ false
none_passes p zero from t z m = absurd m
none_passes p (suc n) from t z m = none_go p (suc from) t (numbers (suc (suc from)) n) (p (suc from)) refl (λ e. omega arith) z (none_passes p n (suc from) t) m

stored_tag : (image : Image) (t : ℕ) → stands t (tags image) ≡ true → (p : ℕ) × (b : Block) × (slice_get image p ≡ Some b) × (b.tag ≡ t)
stored_tag [] t e = absurd (cc)
stored_tag (b ∷ bs) t e = go (or_cases (b.tag == t) (stands t (tags bs)) e) (stored_tag bs t)
  where
    go : ((b.tag == t) ≡ true) ⊎ (stands t (tags bs) ≡ true) → (stands t (tags bs) ≡ true → (p : ℕ) × (c : Block) × (slice_get bs p ≡ Some c) × (c.tag ≡ t)) →
        (p : ℕ) × (c : Block) × (slice_get (b ∷ bs) p ≡ Some c) × (c.tag ≡ t)
    go (inl k) ih = (0, b, refl, eqb-true b.tag t k)
    go (inr k) ih = let (p, c, f, i) = ih k in (suc p, c, f, i)

append_go : (a b c : Bool) → (b ≡ true) ⊎ (c ≡ true) → ((a || b) ≡ true) ⊎ (c ≡ true)
append_go a b c (inl e) = inl (or_right a b e)
append_go a b c (inr e) = inr e

append_cases : (a b c d : Bool) → (a ≡ true) ⊎ (d ≡ true) → (d ≡ true → (b ≡ true) ⊎ (c ≡ true)) → ((a || b) ≡ true) ⊎ (c ≡ true)
append_cases a b c d (inl e) ih = inl (or_left a b e)
append_cases a b c d (inr e) ih = append_go a b c (ih e)

any_append : {X : Type 0} (p : X → Bool) (xs ys : List X) → list_any p (xs ++ ys) ≡ true → (list_any p xs ≡ true) ⊎ (list_any p ys ≡ true)
any_append p [] ys e = inr e
any_append p (x ∷ xs) ys e = append_cases (p x) (list_any p xs) (list_any p ys) (list_any p (xs ++ ys)) (or_cases (p x) (list_any p (xs ++ ys)) e) (any_append p xs ys)

in_images : (images : List Image) (t : ℕ) → stands t (flat_map tags images) ≡ true → (image : Image) × Among images image × (stands t (tags image) ≡ true)
in_images [] t e = absurd (cc)
in_images (x ∷ xs) t e = go (any_append (λ u. u == t) (tags x) (flat_map tags xs) e) (in_images xs t)
  where
    go : (stands t (tags x) ≡ true) ⊎ (stands t (flat_map tags xs) ≡ true) → (stands t (flat_map tags xs) ≡ true → (image : Image) × Among xs image × (stands t (tags image) ≡ true)) →
        (image : Image) × Among (x ∷ xs) image × (stands t (tags image) ≡ true)
    go (inl k) ih = (x, inl refl, k)
    go (inr k) ih = let (image, m, q) = ih k in (image, inr m, q)

-- each number that stands is in range
stands_in_range : (v : Volume) → TagsFitIn v → (t : ℕ) → stands t (tags_of v) ≡ true → t ≤ v.physical
stands_in_range v f t e =
    let (image, m, k) = in_images (images_of v) t e in let (p, b, g, i) = stored_tag image t k in rw (← i) (f.in_range p b (image, m, g))

both_bounds : (a b : ℕ) → a ≤ b → b ≤ a → a ≡ b
both_bounds a b h k = omega arith

-- where no number is free, all blocks are used
pub none_free : (v : Volume) → TagsFitIn v → first_number (free_tags v) ≡ 0 → used v ≡ v.physical
none_free v f z = both_bounds (used v) v.physical (at_most v.physical (tags_of v) (stands_in_range v f)) (at_least v.physical (tags_of v) all)
  where
    all : (t : ℕ) → 0 < t → t ≤ v.physical → stands t (tags_of v) ≡ true
    all t a b = not-false (stands t (tags_of v)) (none_passes (λ t. not (stands t (tags_of v))) v.physical 0 t z (to_numbers v.physical 1 t (omega (arith, a)) (omega (arith, b))))

-- as many numbers are free as blocks are not used
pub free_long : (v : Volume) → free v ≤ length (free_tags v)
free_long v = let a = at_least v.physical (tags_of v ++ free_tags v) all in let b = distinct_append (tags_of v) (free_tags v) in omega arith
  where
    all : (t : ℕ) → 0 < t → t ≤ v.physical → stands t (tags_of v ++ free_tags v) ≡ true
    all t a b = go (stands t (tags_of v)) refl
      where
        go : (c : Bool) → stands t (tags_of v) ≡ c → stands t (tags_of v ++ free_tags v) ≡ true
        go true e = any_left (λ u. u == t) (tags_of v) (free_tags v) e
        go false e = any_right (λ u. u == t) (tags_of v) (free_tags v) (among_stands t (free_tags v) (((free_ascend v).1 t).1 (omega (arith, a), b, e)))

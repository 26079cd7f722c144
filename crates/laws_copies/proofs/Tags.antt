-- Tags still fit in a volume that was changed.
use Rattle.std.proofs.Common.{◌≡◌, ◌≢◌, ◌⊎◌, ◌≤◌, ℕ, zero, suc, ◌==◌, Bool, true, false, cond, not, List, [], ◌∷◌, ◌++◌, map, Some, refl, ap, sym, subst, ◌∙◌, inl, inr, eq-eqb, arith, zero-le}
use Rattle.std.proofs.lemmas.Bool.{or_left, or_right, both_ways, not-true}
use Rattle.std.proofs.lemmas.Option.{same_Some}
use Rattle.std.specs.Prelude.{slice_get}
use Rattle.std.specs.List.{filter}
use Rattle.sm_defs.specs.Words.{Among, KeysDiffer}
use Rattle.sm_defs.specs.Image.{Block, Image, tags, tag_of, stands, full_block}
use Rattle.sm_defs.specs.Volume.{Volume, Snapshot, ident_of, image_of, images_of, tags_of, free_tags, numbers}
use Rattle.sm_model.specs.Standing.{Stored}
use Rattle.sm_model.specs.TagsFit.{TagsFitIn}
use Rattle.sm_defs.specs.Operations.{with_snapshot}
use Rattle.sm_defs.specs.Missing.{first_number}
use Rattle.sm_model.specs.OfVolumes.{written}
use Rattle.sm_defs.specs.Thinned.{Thinned}
use Rattle.sm_defs.specs.Operations as operations
use Rattle.sm_defs.proofs.Members.{among_append, among_map, any_flat, from_map, get_set}
use Rattle.sm_defs.proofs.Numbers.{below_numbers}
use Rattle.sm_defs.proofs.Thinned.{thinned_among, thinned_differ, thinned_map}
use Rattle.sm_defs.proofs.Keys.{differ_push}

-- each image of u is one of v
abbrev pub ImagesFrom : Volume → Volume → Type 0
ImagesFrom v u = (image : Image) → Among (images_of u) image → Among (images_of v) image

pub stored_from : (v u : Volume) → ImagesFrom v u → (p : ℕ) (b : Block) → Stored u p b → Stored v p b
stored_from v u h p b (image, m, e) = (image, h image m, e)

pub fits_fewer : (v u : Volume) → ImagesFrom v u → u.physical ≡ v.physical → KeysDiffer ident_of u.snapshots → TagsFitIn v → TagsFitIn u
fits_fewer v u h e d f = record {
  one_place = λ p q b c s t. f.one_place p q b c (stored_from v u h p b s) (stored_from v u h q c t);
  in_range = λ p b s. rw e (f.in_range p b (stored_from v u h p b s));
  idents_differ = d;
}

pub pointed_from : (v : Volume) → ImagesFrom v (operations.settled v)
pointed_from v image (inl e) = inl e
pointed_from v image (inr (inl e)) = inl e
pointed_from v image (inr (inr m)) = inr (inr m)

pub pointed_fits : (v : Volume) → TagsFitIn v → TagsFitIn (operations.settled v)
pointed_fits v f = fits_fewer v (operations.settled v) (pointed_from v) refl f.idents_differ f

pub reopened_from : (v : Volume) → ImagesFrom v (operations.opened v)
reopened_from v image (inl e) = inr (inl e)
reopened_from v image (inr m) = inr m

pub reopened_fits : (v : Volume) → TagsFitIn v → TagsFitIn (operations.opened v)
reopened_fits v f = fits_fewer v (operations.opened v) (reopened_from v) refl f.idents_differ f

pub thinned_from : (v : Volume) (ss : List Snapshot) → Thinned ss v.snapshots → ImagesFrom v (record v { snapshots = ss })
thinned_from v ss t image (inl e) = inl e
thinned_from v ss t image (inr (inl e)) = inr (inl e)
thinned_from v ss t image (inr (inr m)) = inr (inr (thinned_among (thinned_map image_of t) image m))

pub thinned_fits : (v : Volume) (ss : List Snapshot) → Thinned ss v.snapshots → TagsFitIn v → TagsFitIn (record v { snapshots = ss })
thinned_fits v ss t f = fits_fewer v (record v { snapshots = ss }) (thinned_from v ss t) refl (thinned_differ ident_of t f.idents_differ) f

-- active and stable become an image of the volume
pub set_back_from : (v : Volume) (image : Image) → Among (images_of v) image → ImagesFrom v (record v { active = image; stable = image })
set_back_from v image m other (inl e) = subst (Among (images_of v)) (sym e) m
set_back_from v image m other (inr (inl e)) = subst (Among (images_of v)) (sym e) m
set_back_from v image m other (inr (inr k)) = inr (inr k)

pub set_back_fits : (v : Volume) (image : Image) → Among (images_of v) image → TagsFitIn v → TagsFitIn (record v { active = image; stable = image })
set_back_fits v image m f = fits_fewer v (record v { active = image; stable = image }) (set_back_from v image m) refl f.idents_differ f

-- a snapshot of the active image brings no other image
pub snapped_from : (v : Volume) (s : Snapshot) → s.image ≡ v.active → ImagesFrom v (with_snapshot v s)
snapped_from v s e = go
  where
    one : (image : Image) (t : Snapshot) → image ≡ t.image → Among v.snapshots t ⊎ Among (s ∷ []) t → Among (images_of v) image
    one image t i (inl m) = inr (inr (subst (Among (map image_of v.snapshots)) (sym i) (among_map image_of v.snapshots t m)))
    one image t i (inr (inl k)) = inl (i ∙ (ap image_of k ∙ e))
    one image t i (inr (inr k)) = elim k [ ]

    go : ImagesFrom v (with_snapshot v s)
    go image (inl e) = inl e
    go image (inr (inl e)) = inl e
    go image (inr (inr m)) = let (t, n, i) = from_map image_of (v.snapshots ++ s ∷ []) image m in one image t i (among_append v.snapshots (s ∷ []) t n)

pub snapped_fits : (v : Volume) (s : Snapshot) → s.image ≡ v.active → ((t : Snapshot) → Among v.snapshots t → ¬ (t.ident ≡ s.ident)) → TagsFitIn v → TagsFitIn (with_snapshot v s)
snapped_fits v s e d f = fits_fewer v (with_snapshot v s) (snapped_from v s e) refl (differ_push ident_of v.snapshots s f.idents_differ d) f

-- ---- a block at a fresh number

pub stands_tag : (image : Image) (p : ℕ) (b : Block) → slice_get image p ≡ Some b → stands b.tag (tags image) ≡ true
stands_tag [] p b e = absurd (cc)
stands_tag (c ∷ cs) zero b e = or_left _ _ (eq-eqb c.tag b.tag (ap tag_of (same_Some c b e)))
stands_tag (c ∷ cs) (suc p) b e = or_right _ _ (stands_tag cs p b e)

pub stored_stands : (v : Volume) (p : ℕ) (b : Block) → Stored v p b → stands b.tag (tags_of v) ≡ true
stored_stands v p b (image, m, e) = any_flat (λ u. u == b.tag) tags (images_of v) image m (stands_tag image p b e)

first_go : (p : ℕ → Bool) (x : ℕ) (xs : List ℕ) (b : Bool) → p x ≡ b → first_number (cond b (x ∷ filter p xs) (filter p xs)) ≢ 0 →
    (first_number (filter p xs) ≢ 0 → (p (first_number (filter p xs)) ≡ true) × Among xs (first_number (filter p xs))) →
    (p (first_number (cond b (x ∷ filter p xs) (filter p xs))) ≡ true) × Among (x ∷ xs) (first_number (cond b (x ∷ filter p xs) (filter p xs)))
first_go p x xs true e n ih = (e, inl refl)
first_go p x xs false e n ih = let q = ih n in (q.0, inr q.1)

first_passes : (p : ℕ → Bool) (xs : List ℕ) → first_number (filter p xs) ≢ 0 → (p (first_number (filter p xs)) ≡ true) × Among xs (first_number (filter p xs))
first_passes p [] n = absurd (n refl)
first_passes p (x ∷ xs) n = first_go p x xs (p x) refl n (first_passes p xs)

zero_or : (n : ℕ) → (n ≡ 0) ⊎ (n ≢ 0)
zero_or zero = inl refl
zero_or (suc n) = inr (λ e. omega arith)

pub fresh_tag : (v : Volume) (p : ℕ) (b : Block) → first_number (free_tags v) ≢ 0 → Stored v p b → b.tag ≢ first_number (free_tags v)
fresh_tag v p b n s e =
    let q = first_passes (λ t. not (stands t (tags_of v))) (numbers 1 v.physical) n in
    both_ways (stands (first_number (free_tags v)) (tags_of v)) (not-true _ q.0) (subst (λ t. stands t (tags_of v) ≡ true) e (stored_stands v p b s))

pub free_in_range : (v : Volume) → first_number (free_tags v) ≤ v.physical
free_in_range v = go (zero_or (first_number (free_tags v)))
  where
    go : (first_number (free_tags v) ≡ 0) ⊎ (first_number (free_tags v) ≢ 0) → first_number (free_tags v) ≤ v.physical
    go (inl e) = rw e zero-le
    go (inr n) = let h = below_numbers v.physical 1 _ (first_passes (λ t. not (stands t (tags_of v))) (numbers 1 v.physical) n).1 in omega arith

-- each block of u is one of v, or y at the place k
abbrev pub StoredOr : Volume → Volume → ℕ → Block → Type 0
StoredOr v u k y = (p : ℕ) (b : Block) → Stored u p b → ((p ≡ k) × (b ≡ y)) ⊎ Stored v p b

pub fits_fresh : (v u : Volume) (k : ℕ) (y : Block) → StoredOr v u k y → (y.tag ≢ 0 → (p : ℕ) (b : Block) → Stored v p b → b.tag ≢ y.tag) → y.tag ≤ u.physical →
    u.physical ≡ v.physical → KeysDiffer ident_of u.snapshots → TagsFitIn v → TagsFitIn u
fits_fresh v u k y h new small e d f = record {
  one_place = λ p q b c s t. both p q b c (h p b s) (h q c t);
  in_range = λ p b s. low p b (h p b s);
  idents_differ = d;
}
  where
    both : (p q : ℕ) (b c : Block) → ((p ≡ k) × (b ≡ y)) ⊎ Stored v p b → ((q ≡ k) × (c ≡ y)) ⊎ Stored v q c → b.tag ≡ c.tag → b.tag ≢ 0 → (p ≡ q) × (b ≡ c)
    both p q b c (inl (i, j)) (inl (l, m)) g n = (i ∙ sym l, j ∙ sym m)
    both p q b c (inl (i, j)) (inr t) g n = absurd (new (subst (λ x. x.tag ≢ 0) j n) q c t (sym g ∙ ap tag_of j))
    both p q b c (inr s) (inl (l, m)) g n = absurd (new (subst (λ x. x ≢ 0) (g ∙ ap tag_of m) n) p b s (g ∙ ap tag_of m))
    both p q b c (inr s) (inr t) g n = f.one_place p q b c s t g n

    low : (p : ℕ) (b : Block) → ((p ≡ k) × (b ≡ y)) ⊎ Stored v p b → b.tag ≤ u.physical
    low p b (inl (i, j)) = rw (ap tag_of j) small
    low p b (inr s) = rw e (f.in_range p b s)

pub tag_of_full : (t fill : ℕ) → (full_block t fill).tag ≡ t
unfolding full_block
tag_of_full t fill = refl

-- the new block, or one that was there
pub written_stored : (v : Volume) (block fill : ℕ) → StoredOr v (written v block fill) block (full_block (first_number (free_tags v)) fill)
written_stored v block fill = go
  where
    at : (image : Image) (p : ℕ) (b : Block) → ((p ≡ block) × (b ≡ full_block (first_number (free_tags v)) fill)) ⊎ (slice_get v.active p ≡ Some b) →
        ((p ≡ block) × (b ≡ full_block (first_number (free_tags v)) fill)) ⊎ Stored v p b
    at image p b (inl e) = inl e
    at image p b (inr e) = inr (v.active, inl refl, e)

    go : StoredOr v (written v block fill) block (full_block (first_number (free_tags v)) fill)
    go p b (image, inl m, e) = at image p b (get_set v.active block _ p b (subst (λ x. slice_get x p ≡ Some b) m e))
    go p b (image, inr m, e) = inr (image, inr m, e)

pub written_fits : (v : Volume) (block fill : ℕ) → TagsFitIn v → TagsFitIn (written v block fill)
written_fits v block fill f =
    let t = first_number (free_tags v) in let e : (full_block t fill).tag ≡ t = tag_of_full t fill in
    fits_fresh v (written v block fill) block (full_block t fill) (written_stored v block fill) (λ n p b s. rw e (fresh_tag v p b (subst (λ x. x ≢ 0) e n) s)) (rw e (free_in_range v)) refl f.idents_differ f

-- Tags fit what a step makes of a destination.
use Rattle.std.proofs.Common.{◌≡◌, ◌≢◌, ◌⊎◌, ◌==◌, ◌&&◌, ℕ, Bool, true, false, cond, not, List, [], ◌∷◌, Option, Some, None, refl, sym, ap, subst, ◌∙◌, inl, inr, true≢false, map}
use Rattle.std.proofs.lemmas.Bool.{eqb-false, and_from}
use Rattle.std.specs.Prelude.{slice_get}
use Rattle.sm_base.specs.declared.numbers.Kind.{Kind}
use Rattle.sm_base.specs.declared.numbers.Kind.TheVariants.{Rw, Dp}
use Rattle.sm_base.specs.declared.numbers.TransferKind.{TransferKind}
use Rattle.sm_base.specs.declared.numbers.TransferKind.TheVariants.{Resync}
use Rattle.sm_defs.specs.Words.{Among}
use Rattle.sm_defs.specs.Image.{Block, Image, hole}
use Rattle.sm_defs.specs.Volume.{Volume, Snapshot, ident_of, image_of, images_of, is_rw, free_tags}
use Rattle.sm_defs.specs.Relationship.{is_mirror, is_resync}
use Rattle.sm_defs.specs.Missing.{vault_landing}
use Rattle.sm_defs.specs.World.{Up}
use Rattle.sm_defs.proofs.Members.{among_append, among_map, from_map}
use Rattle.sm_defs.proofs.Thinned.{thinned_among, thinned_differ, thinned_map}
use Rattle.sm_defs.proofs.Keys.{differ_push}
use Rattle.sm_model.specs.Standing.{Stored}
use Rattle.sm_model.specs.TagsFit.{TagsFitIn}
use Rattle.sm_model.specs.LegsFit.{FitsSource}
use Rattle.sm_model.specs.DestinationsStand.{StandsAtSnapshot}
use Rattle.sm_model.specs.Sound.{SoundUp}
use Rattle.sm_model.specs.Running.{Running, IsRunning}
use Rattle.sm_model.specs.Steps.{landing, arrived, published, list_published, reverted, bases, snapshot_of, image_or_none}
use Rattle.sm_model.specs.Due.{is_unpruned, is_reverting}
use Rattle.laws_copies.proofs.Tags.{ImagesFrom, fits_fewer}
use Rattle.laws_cases.proofs.Steps.Parties.{relation_stands, source_stands, destination_stands, snapshot_is, lacked}
use Rattle.laws_cases.proofs.Steps.DueCases.{Ahead}
use Rattle.laws_cases.proofs.Steps.Landing.{reverted_thins, published_thins, in_snapshot, base_member}
use Rattle.laws_copies.proofs.Merged.{StoredIn, FitsTo, fits_merged, hole_tag}
use Rattle.laws_copies.proofs.VaultTags.{vault_fits}

-- ---- Revert

pub reverted_from : (x : Running) (base : Snapshot) → Among x.destination.snapshots base → ImagesFrom x.destination (reverted x base)
reverted_from x base m = go
  where
    at : Among (images_of x.destination) base.image
    at = inr (inr (among_map image_of x.destination.snapshots base m))

    go : ImagesFrom x.destination (reverted x base)
    go image (inl e) = subst (Among (images_of x.destination)) (sym e) at
    go image (inr (inl e)) = subst (Among (images_of x.destination)) (sym e) at
    go image (inr (inr k)) = inr (inr (thinned_among (thinned_map image_of (reverted_thins x.policy base.ident x.destination.snapshots)) image k))

pub reverted_fits : (x : Running) (base : Snapshot) → Among x.destination.snapshots base → TagsFitIn x.destination → TagsFitIn (reverted x base)
reverted_fits x base m f = fits_fewer x.destination (reverted x base) (reverted_from x base m) refl (thinned_differ ident_of (reverted_thins x.policy base.ident x.destination.snapshots) f.idents_differ) f

-- ---- Publish

-- each snapshot is one that stood, or the leg
pub published_among : (w : Up) (x : Running) (leg t : Snapshot) → Among (list_published w x (arrived x leg)) t → Among x.destination.snapshots t ⊎ (t ≡ arrived x leg)
published_among w x leg t m = go (among_append x.destination.snapshots (arrived x leg ∷ []) t (thinned_among (published_thins w x (arrived x leg)) t m))
  where
    go : Among x.destination.snapshots t ⊎ Among (arrived x leg ∷ []) t → Among x.destination.snapshots t ⊎ (t ≡ arrived x leg)
    go (inl n) = inl n
    go (inr (inl e)) = inr e
    go (inr (inr n)) = absurd n

-- each image is one that stood, or what landed
pub published_from : (w : Up) (x : Running) (leg : Snapshot) (image : Image) → Among (images_of (published w x leg)) image → (image ≡ landing x leg) ⊎ Among (images_of x.destination) image
published_from w x leg image (inl e) = inl e
published_from w x leg image (inr (inl e)) = inl e
published_from w x leg image (inr (inr m)) = let (t, n, i) = from_map image_of (list_published w x (arrived x leg)) image m in go t i (published_among w x leg t n)
  where
    go : (t : Snapshot) → image ≡ t.image → Among x.destination.snapshots t ⊎ (t ≡ arrived x leg) → (image ≡ landing x leg) ⊎ Among (images_of x.destination) image
    go t i (inl n) = inr (inr (inr (subst (Among (map image_of x.destination.snapshots)) (sym i) (among_map image_of x.destination.snapshots t n))))
    go t i (inr e) = inl (i ∙ ap image_of e)

pub published_stored : (w : Up) (x : Running) (leg : Snapshot) → StoredIn x.destination (published w x leg) (landing x leg)
published_stored w x leg p b (image, m, e) = go (published_from w x leg image m)
  where
    go : (image ≡ landing x leg) ⊎ Among (images_of x.destination) image → (slice_get (landing x leg) p ≡ Some b) ⊎ Stored x.destination p b
    go (inl i) = inl (subst (λ y. slice_get y p ≡ Some b) i e)
    go (inr n) = inr (image, n, e)

pub published_fits : (w : Up) (x : Running) (leg : Snapshot) → Ahead x leg → FitsTo x.destination (landing x leg) → TagsFitIn x.destination → TagsFitIn (published w x leg)
published_fits w x leg a k f = fits_merged x.destination (published w x leg) (landing x leg) (published_stored w x leg) k refl
    (thinned_differ ident_of (published_thins w x (arrived x leg)) (differ_push ident_of x.destination.snapshots (arrived x leg) f.idents_differ (λ t m e. lacked x.destination.snapshots a.i t a.lacks m (e ∙ same)))) f
  where
    same : leg.ident ≡ a.i
    same = (snapshot_is x.source.snapshots a.i leg a.source).1

-- ---- a mirror's leg fits its destination

-- what a read-only volume stores stands in its snapshots, or is a hole
dp_stored : (v : Volume) → StandsAtSnapshot v → (p : ℕ) (b : Block) → Stored v p b → (b ≡ hole) ⊎ ((t : Snapshot) × Among v.snapshots t × (slice_get t.image p ≡ Some b))
dp_stored v h p b s = go v.snapshots refl
  where
    in_one : v.snapshots ≢ [] → (image : Image) → Among (images_of v) image → slice_get image p ≡ Some b → (b ≡ hole) ⊎ ((t : Snapshot) × Among v.snapshots t × (slice_get t.image p ≡ Some b))
    in_one n image (inl i) e = let (t, m, a) = h.at n in inr (t, m, subst (λ y. slice_get y p ≡ Some b) (i ∙ a) e)
    in_one n image (inr (inl i)) e = let (t, m, a) = h.at n in inr (t, m, subst (λ y. slice_get y p ≡ Some b) (i ∙ (h.still n ∙ a)) e)
    in_one n image (inr (inr m)) e = let (t, k, i) = from_map image_of v.snapshots image m in inr (t, k, subst (λ y. slice_get y p ≡ Some b) i e)

    go : (ss : List Snapshot) → v.snapshots ≡ ss → (b ≡ hole) ⊎ ((t : Snapshot) × Among v.snapshots t × (slice_get t.image p ≡ Some b))
    go [] e = inl (h.blank e p b s)
    go (t ∷ ts) e = in_one (λ z. absurd (cc)) s.0 s.1 s.2

pub checked : (m p : Bool) (c : ℕ) → (m && not p && (c == 0)) ≡ false → m ≡ true → (p ≡ true) ⊎ (c ≢ 0)
checked true true c e h = inl refl
checked true false c e h = inr (eqb-false c 0 e)
checked false p c e h = absurd (cc)

base_stored : (v : Volume) (o : Option Snapshot) → ((t : Snapshot) → o ≡ Some t → Among v.snapshots t) → (p : ℕ) (b : Block) → slice_get (image_or_none o) p ≡ Some b → Stored v p b
base_stored v None h p b e = absurd (cc)
base_stored v (Some t) h p b e = in_snapshot v t p b (h t refl) e

mirror_fits : (w : Up) (k : ℕ) (x : Running) (leg : Snapshot) → SoundUp w → IsRunning w k x → Ahead x leg → is_unpruned x ≡ false → is_mirror x.policy.kind ≡ true → x.destination.kind ≡ Dp → FitsTo x.destination leg.image
mirror_fits w k x leg s r a u m d = record {
  itself = λ p q b c i j. (s.tags_fit x.source stands_there).one_place p q b c (in_snapshot x.source leg p b there i) (in_snapshot x.source leg q c there j);
  small = λ p b i. rw (sym same_size) ((s.tags_fit x.source stands_there).in_range p b (in_snapshot x.source leg p b there i));
  across = λ p q b c i t g n. go p q b c i g n (dp_stored x.destination (s.destinations_stand.volumes x.destination (destination_stands w k x r s.crossed) d) q c t);
}
  where
    there : Among x.source.snapshots leg
    there = (snapshot_is x.source.snapshots a.i leg a.source).0

    stands_there : Among w.volumes x.source
    stands_there = source_stands w k x r s.crossed

    same_size : x.source.physical ≡ x.destination.physical
    same_size = subst (λ y. is_mirror y.policy.kind ≡ true → y.source.physical ≡ y.destination.physical) (sym r.is) (s.crossed.relations x.relation (relation_stands w k x r)).physical m

    fit : FitsSource x
    fit = subst FitsSource (sym r.is)
        ((s.legs_fit x.relation x.transfer (relation_stands w k x r) r.transfer).mirror (subst (λ y. is_mirror y.policy.kind ≡ true) r.is m) (checked (is_mirror x.policy.kind) x.transfer.pruned x.transfer.checkpoint u m))

    go : (p q : ℕ) (b c : Block) → slice_get leg.image p ≡ Some b → b.tag ≡ c.tag → b.tag ≢ 0 → (c ≡ hole) ⊎ ((t : Snapshot) × Among x.destination.snapshots t × (slice_get t.image q ≡ Some c)) → (p ≡ q) × (b ≡ c)
    go p q b c i g n (inl e) = absurd (n (g ∙ (ap (λ y. y.tag) e ∙ hole_tag)))
    go p q b c i g n (inr (t, m, e)) = fit.agree leg t there (rw (snapshot_is x.source.snapshots a.i leg a.source).1 (rw a.legs (inl refl))) m p q b c i e g n

resync_is : (kind : TransferKind) → kind ≡ Resync → is_resync kind ≡ true
resync_is kind e = ap is_resync e

-- where Revert is not due the destination is read-only
pub dp_there : (w : Up) (k : ℕ) (x : Running) → SoundUp w → IsRunning w k x → is_reverting x ≡ false → (kind : Kind) → x.destination.kind ≡ kind → kind ≡ Dp
dp_there w k x s r n Dp e = refl
dp_there w k x s r n Rw e =
    let j = s.transfers_stand x.relation x.transfer (relation_stands w k x r) r.transfer in
    let q = (j.writable (ap (λ y. y.destination.kind) (sym r.is) ∙ e)).0 in
    absurd (true≢false (sym (and_from (is_resync x.transfer.kind) (is_rw x.destination.kind) (resync_is x.transfer.kind q) (ap is_rw e)) ∙ n))

pub landing_fits : (w : Up) (k : ℕ) (x : Running) (leg : Snapshot) → SoundUp w → IsRunning w k x → Ahead x leg → is_unpruned x ≡ false → FitsTo x.destination (landing x leg)
landing_fits w k x leg s r a u = go (is_mirror x.policy.kind) refl
  where
    go : (m : Bool) → is_mirror x.policy.kind ≡ m → FitsTo x.destination (cond m leg.image (vault_landing leg.image (bases x) (free_tags x.destination)))
    go true m = mirror_fits w k x leg s r a u m (dp_there w k x s r a.stays x.destination.kind refl)
    go false m = vault_fits x.destination leg.image (bases x)
        (base_stored x.destination (snapshot_of x.destination.snapshots x.relation.base) (base_member x.destination.snapshots x.relation.base)) (s.tags_fit x.destination (destination_stands w k x r s.crossed))

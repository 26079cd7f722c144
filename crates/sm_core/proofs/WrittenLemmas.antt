-- Which numbers of blocks come into use by an answer.
use Rattle.std.proofs.Common.{◌≡◌, ◌⊎◌, ⊎_elim, inl, inr, ℕ, zero, suc, Bool, true, false, List, [], ◌∷◌, ◌++◌, length, map, refl, sym, ◌∙◌, ap, subst, Option, Some, Ok, Err, true≢false, arith}
use Rattle.std.specs.Prelude.{slice_get, slice_set, slice_index_or, flat_map, filter, ◌==◌, not}
use Rattle.std.specs.Str.{bytes_eq}
use Rattle.std.proofs.lemmas.Option.{same_Some, slice_get_within}
use Rattle.sm_defs.specs.Image.{Image, tag_of, tags, stands, full_block}
use Rattle.sm_defs.specs.Operations as operations
use Rattle.sm_defs.specs.Operations.{least_free}
use Rattle.sm_defs.specs.Volume.{Volume, Snapshot, no_volume, image_of, images_of, tags_of, without}
use Rattle.sm_defs.specs.Words.{Among, Found, found}
use Rattle.sm_defs.specs.World.{Up, volume_at}
use Rattle.sm_defs.proofs.Members.{any_flat, among_append, among_filter, among_map, among_stands, from_map, get_set, stands_among}
use Rattle.sm_model.specs.declared.event.Event.{Event}
use Rattle.sm_model.specs.declared.event.Event.TheVariants as events
use Rattle.sm_model.specs.Answer.{answer}
use Rattle.sm_model.specs.Answers.{Answer, Reached, some_or, volume_named}
use Rattle.sm_model.specs.OfVolumes as volumes
use Rattle.sm_node.specs.Acts.{reached_of}
use Rattle.sm_node.specs.Blocks.{IsNewIn}
use Rattle.sm_events.specs.Served.{IsServed}
use Rattle.sm_seats.proofs.Lists.{one_value, last_or}
use Rattle.laws_cases.proofs.Answers.Walk.{past, with_found, with_ok, with_held, now}
use Rattle.laws_cases.proofs.Answers.OfAnswer.{OfAnswer}
use Rattle.laws_cases.proofs.Answers.Deeds.{from_answer}
use Rattle.laws_cases.proofs.Answers.OfVolumeEvents.{named_at_place}
use Rattle.laws_cases.proofs.Answers.Plainly.{volume_at_place}
use Rattle.sm_core.specs.Written.{IsWrittenBy, OnlyWrittenBlocksAreNew}

-- ---- the images of a volume

from_flat : {X Y : Type 0} (f : X → List Y) (xs : List X) (y : Y) → Among (flat_map f xs) y → (x : X) × Among xs x × Among (f x) y
from_flat f [] y m = absurd m
from_flat f (x ∷ xs) y m = ⊎_elim (λ here. (x, inl refl, here)) (λ later. let r = from_flat f xs y later in (r.0, inr r.1, r.2)) (among_append (f x) (flat_map f xs) y m)

-- where it has no other image, it uses no other number
images_within : (v v' : Volume) → ((image : Image) → Among (images_of v') image → Among (images_of v) image) → (k : ℕ) → stands k (tags_of v') ≡ true → stands k (tags_of v) ≡ true
images_within v v' within k e =
    let from = from_flat tags (images_of v') k (stands_among k (tags_of v') e) in
    any_flat (λ u. u == k) tags (images_of v) from.0 (within from.0 from.1) (among_stands k (tags from.0) from.2)

settled_within : (v : Volume) (image : Image) → Among (images_of (operations.settled v)) image → Among (images_of v) image
settled_within v image (inl e) = inl e
settled_within v image (inr (inl e)) = inl e
settled_within v image (inr (inr m)) = inr (inr m)

snapped_within : (number time : ℕ) (v : Volume) (name : List ℕ) (label : Option (List ℕ)) (image : Image) → Among (images_of (volumes.snapped number time v name label)) image → Among (images_of v) image
snapped_within number time v name label image (inl e) = inl e
snapped_within number time v name label image (inr (inl e)) = inl e
snapped_within number time v name label image (inr (inr m)) = go (from_map image_of (v.snapshots ++ taken ∷ []) image m)
  where
    taken : Snapshot
    taken = volumes.client_snapshot number time v name label

    at_end : (x : Snapshot) → image ≡ image_of x → Among (taken ∷ []) x → Among (images_of v) image
    at_end x e (inl same) = inl (e ∙ ap image_of same)
    at_end x e (inr none) = absurd none

    go : (x : Snapshot) × Among (v.snapshots ++ taken ∷ []) x × (image ≡ image_of x) → Among (images_of v) image
    go (x, a, e) = ⊎_elim (λ old. inr (inr (subst (Among (map image_of v.snapshots)) (sym e) (among_map image_of v.snapshots x old)))) (at_end x e) (among_append v.snapshots (taken ∷ []) x a)

without_within : (goes : Snapshot → Bool) (v : Volume) (image : Image) → Among (images_of (without goes v)) image → Among (images_of v) image
without_within goes v image (inl e) = inl e
without_within goes v image (inr (inl e)) = inr (inl e)
without_within goes v image (inr (inr m)) =
    let from = from_map image_of (filter (λ s. not (goes s)) v.snapshots) image m in
    inr (inr (subst (Among (map image_of v.snapshots)) (sym from.2) (among_map image_of v.snapshots from.0 (among_filter (λ s. not (goes s)) v.snapshots from.0 from.1).0)))

from_set : {X : Type 0} (xs : List X) (i : ℕ) (y x : X) → Among (slice_set xs i y) x → (x ≡ y) ⊎ Among xs x
from_set [] i y x m = absurd m
from_set (z ∷ xs) zero y x (inl e) = inl e
from_set (z ∷ xs) zero y x (inr m) = inr (inr m)
from_set (z ∷ xs) (suc i) y x (inl e) = inr (inl e)
from_set (z ∷ xs) (suc i) y x (inr m) = ⊎_elim inl (λ old. inr (inr old)) (from_set xs i y x m)

-- what a write uses anew is the least free number
written_uses : (v : Volume) (block fill k : ℕ) → stands k (tags_of v) ≡ false → stands k (tags_of (volumes.written v block fill)) ≡ true → k ≡ least_free v
unfolding full_block
written_uses v block fill k free e = go from.0 from.1 from.2
  where
    from : (image : Image) × Among (images_of (volumes.written v block fill)) image × Among (tags image) k
    from = from_flat tags (images_of (volumes.written v block fill)) k (stands_among k (tags_of (volumes.written v block fill)) e)

    used_before : (image : Image) → Among (images_of v) image → Among (tags image) k → ⊥
    used_before image a at = absurd (true≢false (sym (any_flat (λ u. u == k) tags (images_of v) image a (among_stands k (tags image) at)) ∙ free))

    in_active : Among (tags (slice_set v.active block (full_block (least_free v) fill))) k → k ≡ least_free v
    in_active at =
        let one = from_map tag_of (slice_set v.active block (full_block (least_free v) fill)) k at in
        ⊎_elim
        (λ new. one.2 ∙ ap tag_of new)
        (λ old. absurd (used_before v.active (inl refl) (subst (Among (tags v.active)) (sym one.2) (among_map tag_of v.active one.0 old))))
        (from_set v.active block (full_block (least_free v) fill) one.0 one.1)

    go : (image : Image) → Among (images_of (volumes.written v block fill)) image → Among (tags image) k → k ≡ least_free v
    go image (inl same) at = in_active (subst (λ (i : Image). Among (tags i) k) same at)
    go image (inr other) at = absurd (used_before image (inr other) at)

-- ---- the answers

abbrev OnlyTo : Up → Event → Up → Type 0
OnlyTo w e after = (i k : ℕ) → IsNewIn w after i k → IsWrittenBy w e i k

abbrev Only : Up → Event → Reached → Type 0
Only w e x = OnlyTo w e x.world

not_new : (w after : Up) (i k : ℕ) → (new : IsNewIn w after i k) → new.old ≡ new.new → ⊥
not_new w after i k new same = true≢false (sym new.used ∙ ap (λ (v : Volume). stands k (tags_of v)) (sym same) ∙ new.free)

by_same : (w : Up) (e : Event) (after : Up) → after.volumes ≡ w.volumes → OnlyTo w e after
by_same w e after same = λ i k new. absurd (not_new w after i k new
    (one_value (slice_get w.volumes i) new.old new.new new.was (ap (λ (vs : List Volume). slice_get vs i) (sym same) ∙ new.is)))

by_creation : (w : Up) (e : Event) (v : Volume) (after : Up) → after.volumes ≡ w.volumes ++ v ∷ [] → OnlyTo w e after
by_creation w e v after is = λ i k new. ⊎_elim
    (λ old. absurd (not_new w after i k new (one_value (slice_get w.volumes i) new.old new.new new.was old.1)))
    (λ last. absurd (let within = slice_get_within w.volumes i new.old new.was in let end : i ≡ length w.volumes = last.0 in omega (arith, within, end)))
    (last_or w.volumes v i new.new (ap (λ (vs : List Volume). slice_get vs i) (sym is) ∙ new.is))

index_of : {X : Type 0} (xs : List X) (i : ℕ) (x d : X) → slice_get xs i ≡ Some x → slice_index_or xs i d ≡ x
index_of [] i x d e = absurd (cc)
index_of (y ∷ xs) zero x d e = same_Some y x e
index_of (y ∷ xs) (suc i) x d e = index_of xs i x d e

by_volume : (w : Up) (e : Event) (v : Found Volume) → volume_at w v.at ≡ v.item → (next : Volume) (after : Up) → after.volumes ≡ slice_set w.volumes v.at next
    → ((k : ℕ) → stands k (tags_of v.item) ≡ false → stands k (tags_of next) ≡ true → IsWrittenBy w e v.at k) → OnlyTo w e after
by_volume w e v stands_there next after is only = λ i k new. ⊎_elim
    (λ here.
    let was : slice_get w.volumes v.at ≡ Some new.old = ap (slice_get w.volumes) (sym here.0) ∙ new.was in
    let old : new.old ≡ v.item = sym (index_of w.volumes v.at new.old no_volume was) ∙ stands_there in
    subst (λ (j : ℕ). IsWrittenBy w e j k) (sym here.0)
    (only k (ap (λ (u : Volume). stands k (tags_of u)) (sym old) ∙ new.free) (ap (λ (u : Volume). stands k (tags_of u)) (sym here.1) ∙ new.used)))
    (λ there. absurd (not_new w after i k new (one_value (slice_get w.volumes i) new.old new.new new.was there)))
    (get_set w.volumes v.at next i new.new (ap (λ (vs : List Volume). slice_get vs i) (sym is) ∙ new.is))

-- a volume that uses no other numbers than before
by_fewer : (w : Up) (e : Event) (v : Found Volume) → volume_at w v.at ≡ v.item → (next : Volume) (after : Up) → after.volumes ≡ slice_set w.volumes v.at next
    → ((image : Image) → Among (images_of next) image → Among (images_of v.item) image) → OnlyTo w e after
by_fewer w e v stands_there next after is within = by_volume w e v stands_there next after is (λ k free used. absurd (true≢false (sym (images_within v.item next within k used) ∙ free)))

named_by : (w : Up) (path : List ℕ) (v : Found Volume) → found (λ u. bytes_eq u.path path) w.volumes ≡ Some v → volume_named w path ≡ Ok v
unfolding some_or
named_by w path v e = rw e refl

of_served : (w : Up) (e : Event) → IsServed e → OfAnswer (Only w e) (answer w e)
unfolding answer OfAnswer
of_served w (events.CreateVolume path disk kind logical physical) s = past _ _ _ _ (λ _. past _ _ _ _ (λ _. with_found _ _ _ _ (λ len _. past _ _ _ _ (λ _. past _ _ _ _ (λ _. past _ _ _ _ (λ _. now (Only w (events.CreateVolume path disk kind logical physical)) _
    (by_creation w (events.CreateVolume path disk kind logical physical) _ _ refl)))))))
of_served w events.ShowVolumes s = now (Only w events.ShowVolumes) _ (by_same w events.ShowVolumes _ refl)
of_served w (events.Write path block fill) s = with_found _ _ _ _ (λ v is. past _ _ _ _ (λ _. past _ _ _ _ (λ _. past _ _ _ _ (λ _. now (Only w (events.Write path block fill)) _
    (by_volume w (events.Write path block fill) v (volume_at_place w _ v is).at _ _ refl (λ k free used. (v.item, named_by w path v is, written_uses v.item block fill k free used)))))))
of_served w (events.Snap path name label) s = with_found _ _ _ _ (λ v is. past _ _ _ _ (λ _. past _ _ _ _ (λ _. past _ _ _ _ (λ _. now (Only w (events.Snap path name label)) _
    (by_fewer w (events.Snap path name label) v (volume_at_place w _ v is).at _ _ refl (snapped_within v.at w.clock v.item name label))))))
of_served w (events.Unsnap path name) s = with_ok _ _ _ (λ v is. with_ok _ _ _ (λ t _. past _ _ _ _ (λ _. with_held _ _ _ (λ _. now (Only w (events.Unsnap path name)) _
    (by_fewer w (events.Unsnap path name) v (named_at_place w path v is).at _ _ refl (without_within _ v.item))))))
of_served w (events.ShowSnaps path) s = with_found _ _ _ _ (λ v _. now (Only w (events.ShowSnaps path)) _ (by_same w (events.ShowSnaps path) _ refl))
of_served w (events.CreatePolicy name kind) s = past _ _ _ _ (λ _. past _ _ _ _ (λ _. now (Only w (events.CreatePolicy name kind)) _ (by_same w (events.CreatePolicy name kind) _ refl)))
of_served w (events.AddRule name label keep preserve) s = with_found _ _ _ _ (λ p _. past _ _ _ _ (λ _. past _ _ _ _ (λ _. past _ _ _ _ (λ _. past _ _ _ _ (λ _. now (Only w (events.AddRule name label keep preserve)) _ (by_same w (events.AddRule name label keep preserve) _ refl))))))
of_served w events.ShowPolicies s = now (Only w events.ShowPolicies) _ (by_same w events.ShowPolicies _ refl)
of_served w (events.Relate source destination policy) s = with_found _ _ _ _ (λ v _. with_found _ _ _ _ (λ d _. with_found _ _ _ _ (λ p _. with_held _ _ _ (λ _. past _ _ _ _ (λ _. past _ _ _ _ (λ _. past _ _ _ _ (λ _. now (Only w (events.Relate source destination policy)) _
    (by_same w (events.Relate source destination policy) _ refl))))))))
of_served w events.ShowRelations s = now (Only w events.ShowRelations) _ (by_same w events.ShowRelations _ refl)
of_served w (events.Clock time) s = past _ _ _ _ (λ _. now (Only w (events.Clock time)) _ (by_same w (events.Clock time) _ refl))
of_served w (events.Cp path) s = with_found _ _ _ _ (λ v is. past _ _ _ _ (λ _. now (Only w (events.Cp path)) _ (by_fewer w (events.Cp path) v (volume_at_place w _ v is).at _ _ refl (settled_within v.item))))
of_served w (events.Read path name block) s = with_found _ _ _ _ (λ v _. with_ok _ _ _ (λ i _. past _ _ _ _ (λ _. now (Only w (events.Read path name block)) _ (by_same w (events.Read path name block) _ refl))))
of_served w events.Head s = now (Only w events.Head) _ (by_same w events.Head _ refl)
of_served w (events.VolumeLine volume) s = now (Only w (events.VolumeLine volume)) _ (by_same w (events.VolumeLine volume) _ refl)
of_served w (events.Digest volume place) s = now (Only w (events.Digest volume place)) _ (by_same w (events.Digest volume place) _ refl)
of_served w (events.RelationLine relation) s = now (Only w (events.RelationLine relation)) _ (by_same w (events.RelationLine relation) _ refl)
of_served w (events.Work shown) s = tt
of_served w events.Restart s = tt
of_served w (events.Initialize destination) s = absurd s
of_served w (events.Update destination) s = absurd s
of_served w (events.Quiesce destination) s = absurd s
of_served w (events.Resume destination) s = absurd s
of_served w (events.Abort destination hard) s = absurd s
of_served w (events.Break destination) s = absurd s
of_served w (events.Resync destination) s = absurd s
of_served w (events.Delete destination) s = absurd s
of_served w (events.Release source destination) s = absurd s

pub only_written : OnlyWrittenBlocksAreNew
only_written w e reached served says i k new = from_answer (Only w e) (answer w e) reached (of_served w e served) says i k new

-- the same of any answer
pub answer_writes : (w : Up) (e : Event) (a : Answer) → IsServed e → answer w e ≡ Some a → (i k : ℕ) → IsNewIn w (reached_of w a) i k → IsWrittenBy w e i k
answer_writes w e (Ok reached) served says i k new = only_written w e reached served says i k new
answer_writes w e (Err refusal) served says i k new = absurd (not_new w w i k new (one_value (slice_get w.volumes i) new.old new.new new.was new.is))

-- What lands has the leg's contents, and what steps leave of a destination's list.
use Rattle.std.proofs.Common.{◌≡◌, ◌≢◌, ℕ, zero, suc, Bool, true, false, cond, List, [], ◌∷◌, ◌++◌, map, Option, Some, None, refl, sym, ap, subst, ◌∙◌, inr}
use Rattle.std.specs.Prelude.{slice_get}
use Rattle.std.proofs.lemmas.Option.{same_Some}
use Rattle.sm_base.specs.declared.numbers.Ident.{Ident}
use Rattle.sm_defs.specs.Classes.{class_of}
use Rattle.sm_defs.specs.Words.{Among, up_to, same_ident}
use Rattle.sm_defs.specs.Image.{Block, Image, bytes_of, SameContents}
use Rattle.sm_defs.specs.Volume.{Volume, Snapshot, has, image_of, free_tags}
use Rattle.sm_defs.specs.Relationship.{Policy, is_mirror}
use Rattle.sm_defs.specs.Retention.{retained}
use Rattle.sm_defs.specs.Thinned.{Thinned}
use Rattle.sm_defs.specs.Missing.{vault_landing}
use Rattle.sm_defs.specs.Needed.{needed}
use Rattle.sm_defs.specs.World.{Up}
use Rattle.sm_defs.proofs.Members.{among_map}
use Rattle.sm_defs.proofs.Thinned.{all_kept, up_to_thins}
use Rattle.sm_model.specs.Standing.{Stored}
use Rattle.sm_model.specs.Sound.{SoundUp}
use Rattle.sm_model.specs.OfTransfers.{as_reverted}
use Rattle.sm_model.specs.Running.{Running, IsRunning}
use Rattle.sm_model.specs.Steps.{snapshot_of, image_or_none, bases, landing, list_published}
use Rattle.laws_transfer.specs.Costs.{tag_at}
use Rattle.laws_transfer.proofs.Kept.{thins}
use Rattle.laws_transfer.proofs.Landed.{same_bytes}
use Rattle.laws_cases.proofs.Steps.Parties.{relation_stands, source_stands, destination_stands, snapshot_is}
use Rattle.sm_model.proofs.Found.{found_one}

pub reverted_thins : (p : Policy) (i : Ident) (ss : List Snapshot) → Thinned (as_reverted p i ss) ss
reverted_thins p i ss = go (is_mirror p.kind)
  where
    go : (m : Bool) → Thinned (cond m (up_to (λ s. same_ident s.ident i) ss) ss) ss
    go true = up_to_thins _ ss
    go false = all_kept ss

pub published_thins : (w : Up) (x : Running) (s : Snapshot) → Thinned (list_published w x s) (x.destination.snapshots ++ s ∷ [])
published_thins w x s = go (is_mirror x.policy.kind)
  where
    go : (m : Bool) → Thinned (cond m (x.destination.snapshots ++ s ∷ []) (retained x.policy.rules (class_of x.policy) (needed w x.relation.destination) (x.destination.snapshots ++ s ∷ []))) (x.destination.snapshots ++ s ∷ [])
    go true = all_kept _
    go false = thins x.policy.rules (class_of x.policy) (needed w x.relation.destination) _

pub in_snapshot : (v : Volume) (s : Snapshot) (p : ℕ) (b : Block) → Among v.snapshots s → slice_get s.image p ≡ Some b → Stored v p b
in_snapshot v s p b m e = (s.image, inr (inr (among_map image_of v.snapshots s m)), e)

pub base_member : (ss : List Snapshot) (o : Option Ident) (s : Snapshot) → snapshot_of ss o ≡ Some s → Among ss s
base_member ss None s e = absurd (cc)
base_member ss (Some i) s e = (snapshot_is ss i s e).0

-- ---- the leg's blocks that stay are the base's

there_with_tag : (image : Image) (p : ℕ) → tag_at image p ≢ 0 → (c : Block) × (slice_get image p ≡ Some c) × (c.tag ≡ tag_at image p)
there_with_tag [] p n = absurd (n refl)
there_with_tag (c ∷ cs) zero n = (c, refl, refl)
there_with_tag (c ∷ cs) (suc p) n = there_with_tag cs p n

same_place : (x y : Image) → SameContents x y → (p : ℕ) (c : Block) → slice_get x p ≡ Some c → (d : Block) × (slice_get y p ≡ Some d) × (d.bytes ≡ c.bytes)
same_place [] y e p c i = absurd (cc)
same_place (a ∷ x) [] e p c i = absurd (cc)
same_place (a ∷ x) (b ∷ y) e zero c i = (b, refl, let h : a.bytes ≡ b.bytes = cc in let g : a ≡ c = same_Some a c i in sym h ∙ ap bytes_of g)
same_place (a ∷ x) (b ∷ y) e (suc p) c i = same_place x y (let h : map bytes_of x ≡ map bytes_of y = cc in h) p c i

bases_same : (w : Up) (k : ℕ) (x : Running) → SoundUp w → IsRunning w k x → (o : Option Ident) → x.relation.base ≡ o →
    SameContents (image_or_none (snapshot_of x.source.snapshots o)) (image_or_none (snapshot_of x.destination.snapshots o))
bases_same w k x s r None e = refl
bases_same w k x s r (Some i) e =
    let d = s.crossed.relations x.relation (relation_stands w k x r) in let t = s.crossed.transfers x.relation x.transfer (relation_stands w k x r) r.transfer in
    let at_source : has x.source.snapshots i ≡ true = subst (λ v. has v.snapshots i ≡ true) (sym (ap (λ y. y.source) r.is)) (d.base_at_source i e t.at_source) in
    let at_destination : has x.destination.snapshots i ≡ true = subst (λ v. has v.snapshots i ≡ true) (sym (ap (λ y. y.destination) r.is)) (d.base_at_destination i e t.at_destination) in
    let (a, f) = found_one x.source.snapshots i at_source in let (b, g) = found_one x.destination.snapshots i at_destination in
    let p = snapshot_is x.source.snapshots i a f in let q = snapshot_is x.destination.snapshots i b g in
    rw (f, g) (s.copies_agree x.source x.destination a b (source_stands w k x r s.crossed, p.0) (destination_stands w k x r s.crossed, q.0) (p.1 ∙ sym q.1)).contents

-- in one volume a number stands for the same bytes
same_tag_same_bytes : (w : Up) (v : Volume) (leg : Snapshot) (o : Option Snapshot) → SoundUp w → Among w.volumes v → Among v.snapshots leg → ((s : Snapshot) → o ≡ Some s → Among v.snapshots s) →
    (p : ℕ) (b c : Block) → slice_get leg.image p ≡ Some b → slice_get (image_or_none o) p ≡ Some c → b.tag ≢ 0 → b.tag ≡ c.tag → b.bytes ≡ c.bytes
same_tag_same_bytes w v leg None s m n h p b c e f z t = absurd (cc)
same_tag_same_bytes w v leg (Some u) s m n h p b c e f z t = ap bytes_of ((s.tags_fit v m).one_place p p b c (in_snapshot v leg p b n e) (in_snapshot v u p c (h u refl) f) t z).1

kept_agree : (w : Up) (k : ℕ) (x : Running) (leg : Snapshot) → SoundUp w → IsRunning w k x → Among x.source.snapshots leg → (p : ℕ) (b : Block) → slice_get leg.image p ≡ Some b → b.tag ≢ 0 → b.tag ≡ tag_at (bases x).at_source p →
    (d : Block) × (slice_get (bases x).at_destination p ≡ Some d) × (d.bytes ≡ b.bytes)
kept_agree w k x leg s r m p b e n t =
    let (c, f, g) = there_with_tag (bases x).at_source p (subst (λ y. y ≢ 0) t n) in
    let (d, h, i) = same_place (bases x).at_source (bases x).at_destination (bases_same w k x s r x.relation.base refl) p c f in
    (d, h, i ∙ sym (same_tag_same_bytes w x.source leg (snapshot_of x.source.snapshots x.relation.base) s (source_stands w k x r s.crossed) m (base_member x.source.snapshots x.relation.base) p b c e f n (t ∙ sym g)))

pub landing_same : (w : Up) (k : ℕ) (x : Running) (leg : Snapshot) → SoundUp w → IsRunning w k x → Among x.source.snapshots leg → SameContents (landing x leg) leg.image
landing_same w k x leg s r m = go (is_mirror x.policy.kind)
  where
    go : (b : Bool) → SameContents (cond b leg.image (vault_landing leg.image (bases x) (free_tags x.destination))) leg.image
    go true = refl
    go false = same_bytes leg.image (bases x) (free_tags x.destination) (record {
      holes_are_zeros = λ p b e z. sym (ap bytes_of ((s.formed.volumes x.source (source_stands w k x r s.crossed)).holes p b (in_snapshot x.source leg p b m e) z));
      kept_agree = kept_agree w k x leg s r m;
    })

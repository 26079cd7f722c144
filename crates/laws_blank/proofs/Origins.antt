-- What stands in a world whose blocks are read as zeros stands there for something in the world.
use Rattle.std.proofs.Common.{◌≡◌, ◌≢◌, ℕ, zero, suc, List, [], ◌∷◌, map, Some, refl, sym, ap, subst, ◌∙◌}
use Rattle.std.proofs.lemmas.Option.{same_Some}
use Rattle.std.specs.Prelude.{slice_get}
use Rattle.sm_defs.specs.Words.{Among}
use Rattle.sm_defs.specs.Image.{Block, Image}
use Rattle.sm_defs.specs.Volume.{Volume, Snapshot, images_of}
use Rattle.sm_defs.specs.World.{Up}
use Rattle.sm_defs.proofs.Members.{from_map}
use Rattle.sm_model.specs.Standing.{Stored, Stands}
use Rattle.sm_shape.specs.Blank.{blank_block}
use Rattle.sm_shape.specs.Blanked.{zeroed, zeroed_snapshot, zeroed_volume, blanked}
use Rattle.laws_blank.proofs.Zeroed.{zeroed_list, zeroed_images}

pub nothing_mapped : {X Y : Type 0} (f : X → Y) (xs : List X) → map f xs ≡ [] → xs ≡ []
nothing_mapped f [] e = refl
nothing_mapped f (x ∷ xs) e = absurd (cc)

-- y stands for x
pub record For {X Y : Type 0} (f : X → Y) (P : X → Type 0) (y : Y) : Type 0 where
  pub origin : X
  pub there : P origin
  pub is : y ≡ f origin

pub got_mapped : {X Y : Type 0} (f : X → Y) (xs : List X) (p : ℕ) (y : Y) → slice_get (map f xs) p ≡ Some y → For f (λ x. slice_get xs p ≡ Some x) y
got_mapped f [] p y e = absurd (cc)
got_mapped f (x ∷ xs) zero y e = record { origin = x; there = refl; is = sym (same_Some (f x) y e) }
got_mapped f (x ∷ xs) (suc p) y e = got_mapped f xs p y e

abbrev pub zeroed_block : Block → Block
zeroed_block b = blank_block b.tag

-- two blocks of one number that is not 0 stand at one place and are one where those that they stand for do
pub one_zeroed : {P : Type 0} (b c x y : Block) → b ≡ zeroed_block x → c ≡ zeroed_block y → b.tag ≡ c.tag → b.tag ≢ 0 → (x.tag ≡ y.tag → x.tag ≢ 0 → P × (x ≡ y)) → P × (b ≡ c)
one_zeroed b c x y is_x is_y same some one =
    let tag_x : b.tag ≡ x.tag = ap (λ (z : Block). z.tag) is_x in
    let tag_y : c.tag ≡ y.tag = ap (λ (z : Block). z.tag) is_y in
    let both = one (sym tag_x ∙ (same ∙ tag_y)) (λ e. some (tag_x ∙ e)) in
    (both.0, is_x ∙ (ap zeroed_block both.1 ∙ sym is_y))

pub stored_for : (v : Volume) (p : ℕ) (b : Block) → Stored (zeroed_volume v) p b → For zeroed_block (Stored v p) b
stored_for v p b st =
    let m = from_map zeroed (images_of v) st.0 (subst (λ (l : List Image). Among l st.0) (zeroed_images v) st.1) in
    let g = got_mapped zeroed_block m.0 p b (subst (λ (i : Image). slice_get i p ≡ Some b) m.2 st.2) in
    record { origin = g.origin; there = (m.0, m.1, g.there); is = g.is }

pub volume_for : (w : Up) (v : Volume) → Among (blanked w).volumes v → For zeroed_volume (Among w.volumes) v
volume_for w v a = let m = from_map zeroed_volume w.volumes v a in record { origin = m.0; there = m.1; is = m.2 }

pub snapshot_for : (ss : List Snapshot) (s : Snapshot) → Among (zeroed_list ss) s → For zeroed_snapshot (Among ss) s
snapshot_for ss s a = let m = from_map zeroed_snapshot ss s a in record { origin = m.0; there = m.1; is = m.2 }

-- a snapshot with its volume
pub record StandsFor (w : Up) (v : Volume) (s : Snapshot) : Type 0 where
  pub volume : Volume
  pub snapshot : Snapshot
  pub stands : Stands w volume snapshot
  pub is_volume : v ≡ zeroed_volume volume
  pub is_snapshot : s ≡ zeroed_snapshot snapshot

pub stands_for : (w : Up) (v : Volume) (s : Snapshot) → Stands (blanked w) v s → StandsFor w v s
stands_for w v s st =
    let u = volume_for w v st.0 in
    let t = snapshot_for u.origin.snapshots s (subst (λ (x : Volume). Among x.snapshots s) u.is st.1) in
    record { volume = u.origin; snapshot = t.origin; stands = (u.there, t.there); is_volume = u.is; is_snapshot = t.is }

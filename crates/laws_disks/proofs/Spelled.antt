-- What disks spell has room on them, and is as a restart leaves it.
use Rattle.std.proofs.Common.{◌≡◌, ℕ, suc, List, [], ◌∷◌, map, refl, sym, ap, subst, ◌∙◌, inl, inr}
use Rattle.std.specs.Prelude.{false, Option, Some, None}
use Rattle.sm_defs.specs.Words.{Among}
use Rattle.sm_defs.specs.Volume.{Volume}
use Rattle.sm_defs.specs.Operations as operations
use Rattle.sm_defs.specs.Relationship.{Relationship, Transfer}
use Rattle.sm_defs.specs.World.{Up}
use Rattle.sm_root.specs.declared.root.Root.{Root}
use Rattle.sm_relation.specs.declared.relation.Relation.{Relation}
use Rattle.sm_relation.specs.Shown.{relationship_of}
use Rattle.sm_catroot.specs.declared.placed.Placed.{Placed}
use Rattle.sm_catroot.specs.Catalog.{Catalog}
use Rattle.sm_model.specs.Opened.{restarted, rejoined, opened}
use Rattle.sm_opening.specs.OnDisk.{Disks, read_relation, read_volume, read_volumes, world_of, IsVolumeOn, AreVolumesOn, IsReadWorld, Spells}
use Rattle.sm_model.proofs.Restarts.{restarted_twice}
use Rattle.laws_disks.specs.Room.{HasRoomFor, HasRoom}

still_read : (rs : List Relation) → map rejoined (map read_relation rs) ≡ map read_relation rs
still_read [] = refl
still_read (r ∷ rs) =
    let one : Relationship = relationship_of [] false r in
    let here : rejoined (read_relation r) ≡ read_relation r = ap (λ (o : Option Transfer). let x : Relationship = record one { transfer = o } in x) (restarted_twice one.transfer) in
    let rest = still_read rs in
    cc

module _ (d : Disks) where
  still_there : (ps : List Placed) (rs : List Root) → map operations.opened (read_volumes d ps rs) ≡ read_volumes d ps rs
  still_there [] rs = refl
  still_there (p ∷ ps) [] = refl
  still_there (p ∷ ps) (r ∷ rs) = ap (λ (vs : List Volume). read_volume d p r ∷ vs) (still_there ps rs)

  module _ (k : Catalog) (roots : List Root) where
    still : opened (world_of d k roots) ≡ world_of d k roots
    still =
        ap (λ (vs : List Volume). let x : Up = record (world_of d k roots) { volumes = vs; relations = map rejoined (map read_relation k.relations) } in x) (still_there k.volumes roots)
        ∙ ap (λ (rs : List Relationship). let x : Up = record (world_of d k roots) { relations = rs } in x) (still_read k.relations)

    room_for : (before : List Placed) (i : ℕ) (ps : List Placed) (rs : List Root) → AreVolumesOn d before i ps rs → (v : Volume) → Among (read_volumes d ps rs) v → HasRoomFor (world_of d k roots) v
    room_for before i [] [] are v none = absurd none
    room_for before i [] (r ∷ rs) are v none = absurd are
    room_for before i (p ∷ ps) [] are v none = absurd are
    room_for before i (p ∷ ps) (r ∷ rs) are v (inl same) = subst (HasRoomFor (world_of d k roots)) (sym same) (here are.0)
      where
        here : IsVolumeOn d before i p r → HasRoomFor (world_of d k roots) (read_volume d p r)
        here on = record { behind = on.lies.behind; disk = record { size = on.size; is_disk = on.lies.is_disk; room = on.room } }
    room_for before i (p ∷ ps) (r ∷ rs) are v (inr later) = room_for _ (suc i) ps rs are.1 v later

    room_there : IsReadWorld d k roots → HasRoom (world_of d k roots)
    room_there read = record {
      catalog = record { size = read.catalog.size; is_disk = read.catalog.is_disk; room = read.catalog.room };
      volumes = room_for [] 0 k.volumes roots read.volumes;
    }

pub has_room : (d : Disks) (w : Up) → Spells d w → HasRoom w
has_room d w s = subst HasRoom (sym s.is) (room_there d s.catalog s.roots s.read)

pub is_still : (d : Disks) (w : Up) → Spells d w → opened w ≡ w
is_still d w s = subst (λ (x : Up). opened x ≡ x) (sym s.is) (still d s.catalog s.roots)

pub as_long : (d : Disks) (w : Up) → Spells d w → w.disks ≡ d.sizes
as_long d w s = ap (λ (x : Up). x.disks) s.is

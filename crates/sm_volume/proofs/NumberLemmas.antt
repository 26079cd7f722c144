-- The sets of numbers that are kept beside the maps are those of the volume that is seen.
use Rattle.std.proofs.Common.{◌≡◌, ℕ, not, Bool, List, [], map, flat_map, sym, ap, ◌∙◌}
use Rattle.sm_defs.specs.Image.{stands, tags, Image}
use Rattle.sm_defs.specs.Missing.{tags_in}
use Rattle.sm_disk.specs.Image as disk
use Rattle.sm_root.specs.declared.root.RootSnapshot.{RootSnapshot}
use Rattle.sm_root.specs.Condition.{map_of}
use Rattle.volume_store.specs.Maps.{Maps, AreFree, AreUsed, all_maps, held_maps, uses}
use Rattle.sm_volume.specs.Seen.{volume_of, seen_snapshot}
use Rattle.sm_volume.specs.Numbers.{AreFreeOn, AreHeldOn}
use Rattle.sm_volume.proofs.SeenLemmas.{images_seen, in_maps, maps_seen, uses_seen}

pub free_seen : (c : disk.Image) (m : Maps) (space : List Bool) → AreFree space m.root.physical (all_maps m.root m.active) → AreFreeOn space (volume_of [] 0 c m)
free_seen c m space are = record {
  long = are.long;
  hole = are.hole;
  each = λ n one within. are.each n one within ∙ ap not (sym (uses_seen [] 0 c m n));
}

held_at : (c : disk.Image) (ss : List RootSnapshot) (n : ℕ) → stands n (tags_in (map (seen_snapshot c) ss)) ≡ uses (map map_of ss) n
held_at c ss n = ap (λ (images : List Image). stands n (flat_map tags images)) (images_seen c ss) ∙ ap (stands n) (maps_seen c (map map_of ss)) ∙ in_maps n (map map_of ss)

pub held_seen : (c : disk.Image) (m : Maps) (held : List Bool) → AreUsed held m.root.physical (held_maps m.root) → AreHeldOn held (volume_of [] 0 c m)
held_seen c m held are = record {
  long = are.long;
  hole = are.hole;
  each = λ n one within. are.each n one within ∙ sym (held_at c m.root.snapshots n);
}

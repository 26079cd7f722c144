-- The form of a world, and its numbers in each volume, where blocks are read as zeros.
use Rattle.std.proofs.Common.{◌≡◌, ℕ, zero, suc, ◌≤◌, List, length, replicate, refl, sym, ap, subst, ◌∙◌, inl, inr, arith}
use Rattle.std.proofs.lemmas.List.{length-map, length-replicate}
use Rattle.sm_defs.specs.Words.{Among}
use Rattle.sm_defs.specs.Image.{Block, Image}
use Rattle.sm_defs.specs.Volume.{Volume, Snapshot, images_of, ident_of}
use Rattle.sm_defs.specs.World.{Up}
use Rattle.sm_defs.proofs.Members.{from_map}
use Rattle.sm_defs.proofs.Keys.{mapped_differ}
use Rattle.sm_model.specs.Formed.{FormedSnapshot, FormedVolume, Formed, path_of, disk_of}
use Rattle.sm_model.specs.TagsFit.{TagsFitIn, TagsFit}
use Rattle.sm_shape.specs.Blank.{zeros, blank_block}
use Rattle.sm_shape.specs.Blanked.{zeroed, zeroed_snapshot, zeroed_volume, blanked}
use Rattle.sm_shape.proofs.PlacesLemmas.{hole_is}
use Rattle.sm_shape.proofs.FormLemmas.{long_zeros, zero_byte}
use Rattle.laws_blank.proofs.Zeroed.{zeroed_images}
use Rattle.laws_blank.proofs.Origins.{zeroed_block, one_zeroed, stored_for, volume_for, snapshot_for}

snapshot_formed : (s : Snapshot) → FormedSnapshot s → FormedSnapshot (zeroed_snapshot s)
snapshot_formed s f = record { name = f.name; label = f.label; time = f.time }

volume_formed : (v : Volume) → FormedVolume v → FormedVolume (zeroed_volume v)
volume_formed v f = record {
  path = f.path;
  disk = f.disk;
  long = λ image a.
      let m = from_map zeroed (images_of v) image (subst (λ (l : List Image). Among l image) (zeroed_images v) a) in
      ap (λ (i : Image). length i) m.2 ∙ (length-map m.0 zeroed_block ∙ f.long m.0 m.1);
  whole = λ p b st. ap (λ (x : Block). length x.bytes) (stored_for v p b st).is ∙ long_zeros;
  bytes = λ p b st byte a.
      let zero_is = zero_byte byte (subst (λ (x : Block). Among x.bytes byte) (stored_for v p b st).is a) in
      omega (arith, zero_is);
  holes = λ p b st none.
      let x = stored_for v p b st in
      let tag : x.origin.tag ≡ 0 = sym (ap (λ (y : Block). y.tag) x.is) ∙ none in
      x.is ∙ (ap blank_block tag ∙ sym hole_is);
  some_blocks = f.some_blocks;
  few_blocks = f.few_blocks;
  room = f.room;
  few_places = f.few_places;
  few = omega (arith, f.few, length-map v.snapshots zeroed_snapshot);
  counted = f.counted;
  snapshots = λ s a.
      let t = snapshot_for v.snapshots s a in
      subst FormedSnapshot (sym t.is) (snapshot_formed t.origin (f.snapshots t.origin t.there));
}

pub formed_blanked : (w : Up) → Formed w → Formed (blanked w)
formed_blanked w f = record {
  volumes = λ v a. let u = volume_for w v a in subst FormedVolume (sym u.is) (volume_formed u.origin (f.volumes u.origin u.there));
  few = omega (arith, f.few, length-map w.volumes zeroed_volume);
  paths_differ = mapped_differ path_of zeroed_volume w.volumes (λ v. refl) f.paths_differ;
  disks_differ = mapped_differ disk_of zeroed_volume w.volumes (λ v. refl) f.disks_differ;
  policies = f.policies;
  few_policies = f.few_policies;
  names_differ = f.names_differ;
  relations = f.relations;
  few_relations = f.few_relations;
  ascending = f.ascending;
  relations_counted = f.relations_counted;
  transfers_counted = f.transfers_counted;
  clock = f.clock;
}

tags_fit_zeroed : (v : Volume) → TagsFitIn v → TagsFitIn (zeroed_volume v)
tags_fit_zeroed v f = record {
  one_place = λ p q b c sb sc same some.
      let x = stored_for v p b sb in
      let y = stored_for v q c sc in
      one_zeroed b c x.origin y.origin x.is y.is same some (f.one_place p q x.origin y.origin x.there y.there);
  in_range = λ p b st.
      let x = stored_for v p b st in
      subst (λ (z : Block). z.tag ≤ v.physical) (sym x.is) (f.in_range p x.origin x.there);
  idents_differ = mapped_differ ident_of zeroed_snapshot v.snapshots (λ s. refl) f.idents_differ;
}

pub tags_fit_blanked : (w : Up) → TagsFit w → TagsFit (blanked w)
tags_fit_blanked w f = λ v a. let u = volume_for w v a in subst TagsFitIn (sym u.is) (tags_fit_zeroed u.origin (f u.origin u.there))

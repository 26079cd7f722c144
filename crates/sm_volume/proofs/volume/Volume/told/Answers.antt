use Rattle.std.proofs.Common.{[], option_map, ⊎_elim, inl, inr, sym, ap, subst}
use Rattle.sm_base.specs.declared.numbers.Side.TheVariants.{Before, After}
use Rattle.sm_root.specs.Condition.{IsRoot}
use Rattle.volume_store.specs.Maps.{AreMapsOf}
use Rattle.sm_volume.specs.Seen.{volume_of}
use Rattle.sm_volume.specs.Kept.{IsKept}
use Rattle.sm_volume.proofs.SeenLemmas.{root_seen, all_tags}
use Rattle.sm_volume.proofs.CallLemmas.{kept_blocks, kept_holes}
use Rattle.sm_volume.proofs.RestartLemmas.{selects_side}
use Rattle.sm_volume.proofs.volume.Volume.told.Goals as goal

pub returns : goal.returns
returns g c =
    let state = g.D.Disk.state in
    let old = c.self.inside.store in
    let image = (state old.disk).seen in
    let held = c.told.ensures.held in
    subst (IsKept state) c.self.view_is (record {
      images = subst (AreMapsOf old.maps.root.logical old.maps.root.physical) (sym (all_tags [] 0 image old.maps)) c.told.ensures.maps;
      blocks = kept_blocks image old.maps;
      holes = kept_holes image old.maps;
      good = subst IsRoot (sym (root_seen [] 0 image old.maps)) c.told.ensures.good;
      room = held.room;
      one_of_two = held.one_of_two;
      decided = λ up. ap (option_map (volume_of [] 0 image)) (held.decided up);
      left = λ x may. ⊎_elim (λ before. inl (selects_side state old Before x held.as_large before)) (λ after. inr (selects_side state old After x held.as_large after)) (held.images x may);
    })

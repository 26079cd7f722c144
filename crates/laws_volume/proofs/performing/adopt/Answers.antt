use Rattle.laws_volume.proofs.DoneLemmas.{done_adopt, no_memory_adopt}
use Rattle.std.proofs.Common.{◌∙◌}
use Rattle.laws_volume.proofs.performing.adopt.Goals as goal

pub returns-in-Ok : goal.returns-in-Ok
returns-in-Ok g c =
    done_adopt g.D.Disk.state c.args.head.now c.in-Ok.head c.args.map.now c.in-Ok.map.items c.args.family c.args.drops.now c.deref-in-Ok.result.now c.args.v.now c.adopt.new.self c.adopt.result
    c.in-Ok.ensures.head (c.in-Ok.ensures.map ∙ c.deref.ensures.value) c.deref-in-Ok.ensures.value c.requires.up c.adopt.ensures.refused c.adopt.ensures.commits

pub returns-in-Err : goal.returns-in-Err
returns-in-Err g c = no_memory_adopt g.D.Disk.state c.args.head.now c.args.map.now c.args.family c.args.drops.now c.args.v.now

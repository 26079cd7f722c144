use Rattle.sm_node.specs.Nodes.{world_of}
use Rattle.sm_core.proofs.Opened.{sound_opened, opens_whole}
use Rattle.sm_core.proofs.catalogue.Catalogue.open.Goals as goal

pub new-requires : goal.new-requires
new-requires g c =
    let n = c.in-Ok.node in
    record { up = c.in-Ok.ensures.opens.made.up; sound = sound_opened c.a_shaped_world_is_sound.ensures (world_of n) (c.an_opened_node_has_its_shape.ensures c.args.disks.items n c.in-Ok.ensures.opens) }

pub returns-in-Ok-clause-opens : goal.returns-in-Ok-clause-opens
returns-in-Ok-clause-opens g c =
    let n = c.in-Ok.node in
    let opens = c.in-Ok.ensures.opens in
    opens_whole g.D.Disk.state c.args.disks.items n c.new.result c.new.ensures opens c.told.ensures.node (c.an_opened_node_is_spelled.ensures c.args.disks.items n opens)
    (sound_opened c.a_shaped_world_is_sound.ensures (world_of n) (c.an_opened_node_has_its_shape.ensures c.args.disks.items n opens))

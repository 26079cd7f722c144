use Rattle.sm_node.specs.Looking.{IsReadCall}
use Rattle.sm_node.proofs.MovedLemmas.{moved_at}
use Rattle.sm_node.proofs.reading.read_at.Goals as goal

pub returns : goal.returns
returns g c =
    let a = c.args in
    moved_at g.D.Disk.state (IsReadCall g.D.Disk.state a.disk a.view a.place c.read_on.result)
    a.at a.seats.now c.index-seats-at.result c.seat.inside.disk.0 c.seat.inside.volume c.read_on.new.volume c.requires.place c.seat.view_is c.read_on.ensures.call c.read_on.ensures.kept

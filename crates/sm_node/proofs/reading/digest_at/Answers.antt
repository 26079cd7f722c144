use Rattle.sm_node.specs.Looking.{IsDigestCall}
use Rattle.sm_node.specs.Served.{first_of}
use Rattle.sm_node.proofs.MovedLemmas.{moved_at}
use Rattle.sm_node.proofs.reading.digest_at.Goals as goal

pub returns-clause-moves : goal.returns-clause-moves
returns-clause-moves g c =
    let a = c.args in
    moved_at g.D.Disk.state (IsDigestCall g.D.Disk.state a.disk a.view a.lines.0 (first_of c.digest_on.result))
    a.at a.seats.now c.index-seats-at.result c.seat.inside.disk.0 c.seat.inside.volume c.digest_on.new.volume c.requires.place c.seat.view_is c.digest_on.ensures.call c.digest_on.ensures.kept

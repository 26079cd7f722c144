use Rattle.sm_node.specs.Turning.{RestartsAll}
use Rattle.sm_node.proofs.NodeTurning.{node_turned, long_turned}
use Rattle.sm_node.proofs.Counting.{counts_through, keeps_through, counts_trimmed, seat_rises}
use Rattle.sm_node.proofs.Returned.{returns_by, stays_down, side_stays}
use Rattle.sm_node.proofs.node.Node.restart.Goals as goal

pub returns-in-Err : goal.returns-in-Err
returns-in-Err g c =
    let state = g.D.Disk.state in
    let old = c.args.self.now in
    let new = c.restart_disks.new.self in
    let s = c.args.side.now in
    let t = c.restart_disks.new.side in
    record {
      returns = tt;
      stays = λ d half. stays_down state old new s t c.restart_disks.ensures.turns c.told.ensures.node d half;
      side = λ nothing. side_stays state old new s t c.restart_disks.ensures.turns nothing;
      failed = c.in-Err.ensures.failed;
      counts = counts_through state old new s t c.restart_disks.ensures.turns;
      rises = seat_rises state old new (node_turned state old new s t c.restart_disks.ensures.turns c.requires.long c.told.ensures.node).laid_out
          (keeps_through state old new s t c.restart_disks.ensures.turns) (counts_through state old new s t c.restart_disks.ensures.turns) c.in-Err.failed.0 c.in-Err.failed.1 c.in-Err.ensures.failed;
    }

pub trim-requires : goal.trim-requires
trim-requires g c = record { long = (long_turned g.D.Disk.state c.args.self.now c.restart_disks.new.self c.args.side.now c.restart_disks.new.side c.restart_disks.ensures.turns c.requires.long c.told.ensures.node).held }

pub returns : goal.returns
returns g c =
    let state = g.D.Disk.state in
    let old = c.args.self.now in
    let new = c.trim.new.self in
    let s = c.args.side.now in
    let t = c.restart_disks.new.side in
    let all : RestartsAll state old s new t = record { turned = c.restart_disks.new.self; turns = c.restart_disks.ensures.turns; back = c.in_default.ensures.back; trims = c.trim.ensures } in
    record {
      returns = λ d half. returns_by state old new s t all c.told.ensures.node c.told-2.ensures.root d half;
      stays = tt;
      side = λ nothing. side_stays state old c.restart_disks.new.self s t c.restart_disks.ensures.turns nothing;
      failed = tt;
      counts = λ counts has. counts_trimmed state c.trim.ensures (node_turned state old c.restart_disks.new.self s t c.restart_disks.ensures.turns c.requires.long c.told.ensures.node) counts
          (counts_through state old c.restart_disks.new.self s t c.restart_disks.ensures.turns counts has);
      rises = tt;
    }

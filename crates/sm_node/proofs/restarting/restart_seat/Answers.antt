use Rattle.std.proofs.Common.{refl, subst, Ok, Err}
use Rattle.sm_base.specs.declared.numbers.Side.TheVariants.{Before}
use Rattle.sm_volume.specs.Restarted.{IsRestarted}
use Rattle.sm_node.specs.Seats.{Seated, moved}
use Rattle.sm_node.specs.Turning.{SeatTurns}
use Rattle.sm_node.proofs.VolumeTurning.{turns_ok, turns_err, is_back, joined_none}
use Rattle.sm_node.proofs.restarting.restart_seat.Goals as goal

pub returns : goal.returns
returns g c =
    let state = g.D.Disk.state in
    let old : Seated _ = record { disk = c.seat.inside.disk.0; volume = c.seat.inside.volume } in
    let new = c.restart-done.new.self in
    let e = c.restart-done.ensures in
    let is : IsRestarted state old.volume c.in-Ok.read new = c.in-Ok.ensures.ok in
    subst (λ (s : Seated _). SeatTurns state c.args.side.now s (Ok tt) c.join.result (moved old new)) c.seat.view_is (record {
      r = c.in-Ok.read;
      volume = new;
      is = refl;
      side = c.join.ensures;
      turns = turns_ok state old.volume new c.told.ensures e.time e.synced e.image c.in-Ok.read is;
      back = is_back state old.volume new c.told.ensures e.time e.synced e.image c.in-Ok.read is;
      counted = tt;
    })

pub returns-in_default : goal.returns-in_default
returns-in_default g c =
    let state = g.D.Disk.state in
    let old : Seated _ = record { disk = c.seat.inside.disk.0; volume = c.seat.inside.volume } in
    let new = c.restart-done.new.self in
    let e = c.restart-done.ensures in
    subst (λ (s : Seated _). SeatTurns state c.args.side.now s (Err (c.seat.inside.disk, c.faults.result)) c.args.side.now (moved old new)) c.seat.view_is (record {
      r = Before;
      volume = new;
      is = refl;
      side = joined_none c.args.side.now;
      turns = turns_err state old.volume new c.told.ensures e.time e.synced e.image c.in_default.ensures.fault;
      back = tt;
      counted = (refl, c.in_default.ensures.counted, c.faults.ensures);
    })

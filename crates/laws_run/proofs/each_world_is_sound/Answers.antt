use Rattle.sm_model.specs.World.{up}
use Rattle.laws_run.proofs.Runs.{cut}
use Rattle.laws_run.proofs.AnyRuns.{run_keeps}
use Rattle.laws_run.proofs.each_world_is_sound.Goals as goal

pub returns : goal.returns
returns c start first others sides deeds new s r =
    let k = cut (up start) new first others sides deeds r in record {
      mid = k.mid;
      taken = k.taken;
      left = k.left;
      earlier = k.first;
      later = k.later;
      leads_there = k.front_runs;
      leads_on = k.back_runs;
      sides_are = k.sides_are;
      deeds_are = k.deeds_are;
      sound = run_keeps (up start) k.mid first k.taken k.first k.front_runs s;
    }

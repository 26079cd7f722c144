use Rattle.sm_defs.specs.Operations.{settled}
use Rattle.laws_volume.specs.declared.call.Call.TheVariants as calls
use Rattle.laws_volume.specs.Assigned.{Assigns}
use Rattle.laws_volume.specs.Answered.{Answers}
use Rattle.laws_volume.proofs.DoneLemmas.{done_commit}
use Rattle.laws_volume.proofs.performing.consistency_point.Goals as goal

pub returns : goal.returns
unfolding Assigns Answers
returns g c = done_commit g.D.Disk.state calls.ConsistencyPoint c.args.v.now c.cp.new.self (settled c.args.v.now.volume) c.cp.result c.requires.up c.cp.ensures.commits c.cp.ensures.refused (λ h. h)

use Rattle.sm_defs.specs.Operations.{writable}
use Rattle.laws_volume.specs.declared.call.Call.TheVariants as calls
use Rattle.laws_volume.specs.Assigned.{Assigns}
use Rattle.laws_volume.specs.Answered.{Answers}
use Rattle.laws_volume.proofs.DoneLemmas.{done_commit}
use Rattle.laws_volume.proofs.performing.make_writable.Goals as goal

pub returns : goal.returns
unfolding Assigns Answers
returns g c =
    done_commit g.D.Disk.state calls.MakeWritable c.args.v.now c.make_writable.new.self (writable c.args.v.now.volume) c.make_writable.result c.requires.up c.make_writable.ensures.commits c.make_writable.ensures.refused (λ h. h)

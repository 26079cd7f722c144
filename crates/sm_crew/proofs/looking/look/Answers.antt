use Rattle.std.proofs.Common.{sym, ap, ◌∙◌}
use Rattle.std.specs.Option.{option_map}
use Rattle.sm_base.specs.declared.numbers.DiskNo.{DiskNo}
use Rattle.sm_model.specs.declared.reply.Reply.{Reply}
use Rattle.sm_crew.proofs.Looks.{look_served_in, one_looked, one_down, one_cut}
use Rattle.sm_crew.proofs.looking.look.Goals as goal

pub act_for-requires-clause-served : goal.act_for-requires-clause-served
act_for-requires-clause-served g c = look_served_in c.args.catalogue.now.world c.args.event c.requires.look

pub returns-in-Some-clause-stopped : goal.returns-in-Some-clause-stopped
returns-in-Some-clause-stopped g c =
    one_down g.D.Disk.state c.args.catalogue.now c.act_for.new.catalogue c.args.event c.in-Ok.reply c.requires.look c.in-Ok.ensures.one c.in-Some.disk
    (sym c.disk_of.ensures ∙ ap (option_map (λ (disk : DiskNo). disk.0)) c.in-Some.is)

pub returns-in-None-clause-done : goal.returns-in-None-clause-done
returns-in-None-clause-done g c =
    (one_looked g.D.Disk.state c.args.catalogue.now c.act_for.new.catalogue c.args.event c.in-Ok.reply c.requires.look c.in-Ok.ensures.one
    (sym c.disk_of.ensures ∙ ap (option_map (λ (disk : DiskNo). disk.0)) c.in-None.is)).0

pub returns-in-None-clause-seen : goal.returns-in-None-clause-seen
returns-in-None-clause-seen g c =
    (one_looked g.D.Disk.state c.args.catalogue.now c.act_for.new.catalogue c.args.event c.in-Ok.reply c.requires.look c.in-Ok.ensures.one
    (sym c.disk_of.ensures ∙ ap (option_map (λ (disk : DiskNo). disk.0)) c.in-None.is)).1

pub returns-in-Err-clause-stopped : goal.returns-in-Err-clause-stopped
returns-in-Err-clause-stopped g c =
    one_cut g.D.Disk.state Reply c.args.catalogue.now c.act_for.new.catalogue c.args.event c.in-Err.fault c.in-Err.ensures.same c.in-Err.ensures.faults

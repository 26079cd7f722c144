use Rattle.std.proofs.Common.{◌∙◌}
use Rattle.sm_lab.proofs.Runs.{runs_over}
use Rattle.sm_lab.proofs.running.run_on.Goals as goal

pub returns-in-Ok : goal.returns-in-Ok
returns-in-Ok g c =
    let through = c.run_through-status in
    let parts = c.into_parts-disks in
    runs_over g.D.Disk.state c.args.commands.now c.args.disks.items parts.result.0.items c.into_entries.result.items parts.result.2.items through.result c.in-Ok.catalogue through.new.catalogue
    c.in-Ok.ensures.opens c.in-Ok.ensures.exact through.ensures parts.ensures.places parts.ensures.stands (c.into_entries.ensures ∙ parts.ensures.history) parts.ensures.sides

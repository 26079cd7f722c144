use Rattle.std.proofs.Common.{List, length, inr, sym, ap, subst, ◌∙◌}
use Rattle.sm_catroot.specs.Catalog.{Catalog}
use Rattle.sm_catroot.specs.declared.placed.Placed.{Placed}
use Rattle.sm_opening.specs.Finding.{LieApart}
use Rattle.sm_opening.specs.Syncing.{AllSynced}
use Rattle.sm_opening.proofs.LookLemmas.{only_kept, kept_then}
use Rattle.sm_opening.proofs.OpenLemmas.{disk_fails, ready_on}
use Rattle.sm_opening.proofs.Progress.{counted_since}
use Rattle.sm_opening.proofs.opening.prepare.Goals as goal

pub returns-in_default-with_capacity-clause-moves : goal.returns-in_default-with_capacity-clause-moves
returns-in_default-with_capacity-clause-moves g c = only_kept g.D.Disk.state c.args.disks.now c.look.new.disks c.in-Ok.ensures.looks.moves

pub sync_all-requires-clause-apart : goal.sync_all-requires-clause-apart
sync_all-requires-clause-apart g c = subst (λ (ps : List Placed). LieApart (length c.look.new.disks) ps) (sym (c.volumes_of.ensures ∙ ap (λ (k : Catalog). k.volumes) c.catalog.ensures)) c.in-Ok.ensures.found.apart

pub returns-in-Ok-sync_all-clause-moves : goal.returns-in-Ok-sync_all-clause-moves
returns-in-Ok-sync_all-clause-moves g c =
    kept_then g.D.Disk.state c.args.disks.now c.look.new.disks c.sync_all.new.disks (only_kept g.D.Disk.state c.args.disks.now c.look.new.disks c.in-Ok.ensures.looks.moves) c.in-Ok-sync_all.ensures.moves

pub returns-in-Ok-sync_all-clause-exact : goal.returns-in-Ok-sync_all-clause-exact
returns-in-Ok-sync_all-clause-exact g c = λ told f p. c.in-Ok.ensures.looks.exact told f p

pub returns-in-Ok-sync_all-clause-ready : goal.returns-in-Ok-sync_all-clause-ready
returns-in-Ok-sync_all-clause-ready g c =
    ready_on g.D.Disk.state c.args.disks.now c.look.new.disks c.sync_all.new.disks c.in-Ok.found.0 c.in-Ok.ensures.found c.in-Ok-sync_all.ensures.moves c.in-Ok.found.1.items c.in-Ok.ensures.lengths
    (subst (λ (ps : List Placed). AllSynced g.D.Disk.state ps c.sync_all.new.disks) (c.volumes_of.ensures ∙ ap (λ (k : Catalog). k.volumes) c.catalog.ensures) c.in-Ok-sync_all.ensures.synced)
    c.in-Ok.ensures.sound c.in-Ok.ensures.world

pub returns-in-Err-sync_all-clause-moves : goal.returns-in-Err-sync_all-clause-moves
returns-in-Err-sync_all-clause-moves g c =
    kept_then g.D.Disk.state c.args.disks.now c.look.new.disks c.sync_all.new.disks (only_kept g.D.Disk.state c.args.disks.now c.look.new.disks c.in-Ok.ensures.looks.moves) c.in-Err-sync_all.ensures.moves

pub returns-in-Err-sync_all-clause-counted : goal.returns-in-Err-sync_all-clause-counted
returns-in-Err-sync_all-clause-counted g c = counted_since g.D.Disk.state c.args.disks.now c.look.new.disks c.sync_all.new.disks c.in-Err-sync_all.fault c.in-Ok.ensures.looks.moves c.in-Err-sync_all.ensures.counted

pub returns-in-Err-sync_all-clause-faults : goal.returns-in-Err-sync_all-clause-faults
returns-in-Err-sync_all-clause-faults g c = λ told. inr (disk_fails c.in-Err-sync_all.fault c.in-Err-sync_all.ensures.faults)

use Rattle.std.proofs.Common.{◌+◌, ◌∙◌, [], List, Some, sym, ap, subst, arith}
use Rattle.std.proofs.lemmas.Option.{slice_get-get_or}
use Rattle.sm_catroot.specs.declared.placed.Placed.{Placed}
use Rattle.volume_store.specs.Opened.{FoundMaps}
use Rattle.sm_opening.specs.OnDisk.{IsFirstDamage}
use Rattle.sm_opening.specs.Looked.{disks_of}
use Rattle.sm_opening.proofs.Progress.{Progress, one_more, stops, stops_whole, no_room, all_apart}
use Rattle.sm_opening.proofs.LookLemmas.{looked_then}
use Rattle.sm_opening.proofs.volumes.find_volumes.Goals as goal

pub returns-in-Err-clause-looks : goal.returns-in-Err-clause-looks
returns-in-Err-clause-looks g c =
    stops g.D.Disk.state c.args.disks.now c.args.placed.now c.loop-at.at c.loop-at.disks c.loop-at.founds.items c.loop-at.invariant c.index-placed-at.result (slice_get-get_or c.args.placed.now c.loop-at.at c.index-placed-at.result c.loop-at-test.true ∙ ap (λ (p : Placed). Some p) (sym c.index-placed-at.is))
    c.find_volume.new.disks c.in-Err.fault c.in-Err.ensures.looks

pub returns-in-Err-clause-whole : goal.returns-in-Err-clause-whole
returns-in-Err-clause-whole g c =
    stops_whole g.D.Disk.state c.args.disks.now c.args.placed.now c.loop-at.at c.loop-at.disks c.loop-at.founds.items c.loop-at.invariant c.index-placed-at.result (slice_get-get_or c.args.placed.now c.loop-at.at c.index-placed-at.result c.loop-at-test.true ∙ ap (λ (p : Placed). Some p) (sym c.index-placed-at.is))
    c.find_volume.new.disks c.in-Err.fault c.in-Err.ensures.looks

pub returns-in_default-clause-looks : goal.returns-in_default-clause-looks
returns-in_default-clause-looks g c =
    no_room g.D.Disk.state c.args.disks.now (IsFirstDamage (disks_of g.D.Disk.state c.args.disks.now) [] 0 c.args.placed.now) c.find_volume.new.disks
    (looked_then g.D.Disk.state c.args.disks.now c.loop-at.disks c.find_volume.new.disks c.loop-at.invariant.moves c.in-Ok.ensures.looks.moves)

pub loop-at-preserved : goal.loop-at-preserved
loop-at-preserved g c =
    subst (λ (l : List FoundMaps). Progress g.D.Disk.state c.args.disks.now c.args.placed.now (c.loop-at.at + 1) c.find_volume.new.disks l) (sym c.in-Ok-push.ensures.items)
    (one_more g.D.Disk.state c.args.disks.now c.args.placed.now c.loop-at.at c.loop-at.disks c.loop-at.founds.items c.loop-at.invariant c.index-placed-at.result (slice_get-get_or c.args.placed.now c.loop-at.at c.index-placed-at.result c.loop-at-test.true ∙ ap (λ (p : Placed). Some p) (sym c.index-placed-at.is))
    c.find_volume.new.disks c.in-Ok.found c.in-Ok.ensures.looks c.in-Ok.ensures.apart c.in-Ok.ensures.found c.in-Ok.ensures.volume)

pub returns-clause-apart : goal.returns-clause-apart
returns-clause-apart g c =
    all_apart g.D.Disk.state c.args.disks.now c.args.placed.now c.loop-at.at c.loop-at.disks c.loop-at.founds.items c.loop-at.invariant (let past = c.loop-at-test.false in omega (arith, past)) (let past = c.loop-at-test.false in omega (arith, past))

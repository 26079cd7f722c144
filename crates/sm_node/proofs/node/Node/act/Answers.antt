use Rattle.std.proofs.Common.{refl, ap, subst}
use Rattle.sm_model.specs.Answer.{answer}
use Rattle.sm_model.specs.InRange.{IsGiven, IsThere}
use Rattle.sm_model.specs.OfReport as reports
use Rattle.sm_node.specs.Nodes.{world_of}
use Rattle.sm_node.specs.Served.{first_of}
use Rattle.sm_node.proofs.LookActs.{looks_acts, copied_acts, lies_within}
use Rattle.sm_node.proofs.node.Node.act.Goals as goal

pub clock_event-requires-clause-given : goal.clock_event-requires-clause-given
unfolding IsGiven
clock_event-requires-clause-given g c = subst IsGiven c.in-Clock.is c.requires.given

pub create_event-requires-clause-given : goal.create_event-requires-clause-given
unfolding IsGiven
create_event-requires-clause-given g c = subst IsGiven c.in-CreateVolume.is c.requires.given

pub returns-in-CreateVolume-clause-acts : goal.returns-in-CreateVolume-clause-acts
unfolding answer
returns-in-CreateVolume-clause-acts g c = (_, ap (answer (world_of c.args.self.now)) c.in-CreateVolume.is, c.create_event.ensures.acts)

pub returns-in-Clock-clause-acts : goal.returns-in-Clock-clause-acts
unfolding answer
returns-in-Clock-clause-acts g c = (_, ap (answer (world_of c.args.self.now)) c.in-Clock.is, c.clock_event.ensures.acts)

pub returns-in-Cp-clause-acts : goal.returns-in-Cp-clause-acts
unfolding answer
returns-in-Cp-clause-acts g c = (_, ap (answer (world_of c.args.self.now)) c.in-Cp.is, c.cp_event.ensures.acts)

pub returns-in-Write-clause-acts : goal.returns-in-Write-clause-acts
unfolding answer
returns-in-Write-clause-acts g c = (_, ap (answer (world_of c.args.self.now)) c.in-Write.is, c.write_event.ensures.acts)

pub returns-in-Snap-clause-acts : goal.returns-in-Snap-clause-acts
unfolding answer
returns-in-Snap-clause-acts g c = (_, ap (answer (world_of c.args.self.now)) c.in-Snap.is, c.snap_event.ensures.acts)

pub returns-in-Unsnap-clause-acts : goal.returns-in-Unsnap-clause-acts
unfolding answer
returns-in-Unsnap-clause-acts g c = (_, ap (answer (world_of c.args.self.now)) c.in-Unsnap.is, c.unsnap_event.ensures.acts)

pub returns-in-Read-clause-acts : goal.returns-in-Read-clause-acts
unfolding answer
returns-in-Read-clause-acts g c = (_, ap (answer (world_of c.args.self.now)) c.in-Read.is, c.read_event.ensures.acts)

pub report_digest-requires-clause-there : goal.report_digest-requires-clause-there
unfolding IsThere
report_digest-requires-clause-there g c = (subst (IsThere (world_of c.args.self.now)) c.in-Digest.is c.requires.there).0

pub report_digest-requires-clause-place : goal.report_digest-requires-clause-place
unfolding IsThere
report_digest-requires-clause-place g c = (subst (IsThere (world_of c.args.self.now)) c.in-Digest.is c.requires.there).1

pub returns-in-Digest-clause-acts : goal.returns-in-Digest-clause-acts
unfolding answer
returns-in-Digest-clause-acts g c =
    let w = world_of c.args.self.now in (
      _,
      ap (answer w) c.in-Digest.is,
      looks_acts g.D.Disk.state (reports.of_image w c.in-Digest.volume c.in-Digest.place) c.args.self.now c.report_digest.new.self (first_of c.report_digest.result) refl c.report_digest.ensures.looks,
    )

pub returns-in-ShowVolumes-clause-acts : goal.returns-in-ShowVolumes-clause-acts
unfolding answer
returns-in-ShowVolumes-clause-acts g c =
    let w = world_of c.args.self.now in (
      _,
      ap (answer w) c.in-ShowVolumes.is,
      copied_acts g.D.Disk.state c.args.self.now c.told_up.ensures (reports.show_volumes w) c.show_volumes.result c.copied.result c.copied.ensures.first c.show_volumes.ensures,
    )

pub returns-in-ShowSnaps-clause-acts : goal.returns-in-ShowSnaps-clause-acts
unfolding answer
returns-in-ShowSnaps-clause-acts g c =
    let w = world_of c.args.self.now in (
      _,
      ap (answer w) c.in-ShowSnaps.is,
      copied_acts g.D.Disk.state c.args.self.now c.told_up.ensures (reports.show_snapshots w c.in-ShowSnaps.path) c.show_snapshots.result c.copied-in-ShowSnaps.result c.copied-in-ShowSnaps.ensures.first c.show_snapshots.ensures,
    )

pub returns-in-Head-clause-acts : goal.returns-in-Head-clause-acts
unfolding answer
returns-in-Head-clause-acts g c =
    let w = world_of c.args.self.now in (
      _,
      ap (answer w) c.in-Head.is,
      copied_acts g.D.Disk.state c.args.self.now c.told_up.ensures (reports.head w) c.report_head.result c.copied-in-Head.result c.copied-in-Head.ensures.first c.report_head.ensures,
    )

pub report_volume-requires-clause-there : goal.report_volume-requires-clause-there
unfolding IsThere
report_volume-requires-clause-there g c = subst (IsThere (world_of c.args.self.now)) c.in-VolumeLine.is c.requires.there

pub returns-in-VolumeLine-clause-acts : goal.returns-in-VolumeLine-clause-acts
unfolding answer
returns-in-VolumeLine-clause-acts g c =
    let w = world_of c.args.self.now in (
      _,
      ap (answer w) c.in-VolumeLine.is,
      copied_acts g.D.Disk.state c.args.self.now c.told_up.ensures (reports.of_volume w c.in-VolumeLine.volume) c.report_volume.result c.copied-in-VolumeLine.result c.copied-in-VolumeLine.ensures.first c.report_volume.ensures,
    )

pub report_relation-requires-clause-within : goal.report_relation-requires-clause-within
report_relation-requires-clause-within g c = lies_within (world_of c.args.self.now) c.requires.sound

pub report_relation-requires-clause-there : goal.report_relation-requires-clause-there
unfolding IsThere
report_relation-requires-clause-there g c = subst (IsThere (world_of c.args.self.now)) c.in-RelationLine.is c.requires.there

pub returns-in-RelationLine-clause-acts : goal.returns-in-RelationLine-clause-acts
unfolding answer
returns-in-RelationLine-clause-acts g c =
    let w = world_of c.args.self.now in (
      _,
      ap (answer w) c.in-RelationLine.is,
      copied_acts g.D.Disk.state c.args.self.now c.told_up.ensures (reports.of_relation w c.in-RelationLine.relation) c.report_relation.result c.copied-in-RelationLine.result c.copied-in-RelationLine.ensures.first c.report_relation.ensures,
    )

-- What each event is answered.
use Rattle.std.specs.Prelude.{true, false, Option, Some, None}
use Rattle.sm_model.specs.declared.event.Event.{Event}
use Rattle.sm_model.specs.declared.event.Event.TheVariants as events
use Rattle.sm_defs.specs.World.{Up}
use Rattle.sm_model.specs.Answers.{Answer}
use Rattle.sm_model.specs.OfVolumes as volumes
use Rattle.sm_model.specs.OfPolicies as policies
use Rattle.sm_model.specs.OfRelations as relations
use Rattle.sm_model.specs.OfTransfers as transfers
use Rattle.sm_model.specs.OfReport as reports

-- A worker may choose its step, and a restart what it finds: the world alone does not answer these two.
unfoldable pub answer : Up → Event → Option Answer
answer w (events.CreateVolume path disk kind logical physical) = Some (volumes.create_volume w path disk kind logical physical)
answer w events.ShowVolumes = Some (reports.show_volumes w)
answer w (events.Write path block fill) = Some (volumes.write w path block fill)
answer w (events.Snap path name label) = Some (volumes.snap w path name label)
answer w (events.Unsnap path name) = Some (volumes.unsnap w path name)
answer w (events.ShowSnaps path) = Some (reports.show_snapshots w path)
answer w (events.CreatePolicy name kind) = Some (policies.create_policy w name kind)
answer w (events.AddRule name label keep preserve) = Some (policies.add_rule w name label keep preserve)
answer w events.ShowPolicies = Some (reports.show_policies w)
answer w (events.Relate source destination policy) = Some (relations.relate w source destination policy)
answer w (events.Initialize destination) = Some (transfers.initialize w destination)
answer w (events.Update destination) = Some (transfers.update w destination)
answer w (events.Quiesce destination) = Some (relations.set_quiesced w destination true)
answer w (events.Resume destination) = Some (relations.set_quiesced w destination false)
answer w (events.Abort destination hard) = Some (transfers.abort w destination hard)
answer w (events.Break destination) = Some (relations.break_off w destination)
answer w (events.Resync destination) = Some (transfers.resync w destination)
answer w (events.Delete destination) = Some (relations.delete w destination)
answer w (events.Release source destination) = Some (relations.release w source destination)
answer w events.ShowRelations = Some (reports.show_relations w)
answer w (events.Clock time) = Some (policies.set_clock w time)
answer w (events.Cp path) = Some (volumes.cp w path)
answer w (events.Read path name block) = Some (volumes.read w path name block)
answer w (events.Work shown) = None
answer w events.Restart = None
answer w events.Head = Some (reports.head w)
answer w (events.VolumeLine volume) = Some (reports.of_volume w volume)
answer w (events.Digest volume place) = Some (reports.of_image w volume place)
answer w (events.RelationLine relation) = Some (reports.of_relation w relation)

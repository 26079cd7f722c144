-- The words of lines: what is wrong with a line of a script, with a disk, and which event an entry has.
use Rattle.std.specs.Prelude.{ℕ, List, codes}
use Rattle.sm_grammar.specs.declared.fault.LineKind.{LineKind}
use Rattle.sm_grammar.specs.declared.fault.LineKind.TheVariants as kinds
use Rattle.sm_model.specs.declared.event.Event as the_event
use Rattle.sm_model.specs.declared.event.Event.TheVariants as events
use Rattle.sm_model.specs.declared.world.OpenKind.{OpenKind}
use Rattle.sm_model.specs.declared.world.OpenKind.TheVariants as faults

unfoldable pub line_word : LineKind → List ℕ
line_word kinds.TooLong = codes "TooLong"
line_word kinds.BadByte = codes "BadByte"
line_word kinds.UnknownCommand = codes "UnknownCommand"
line_word kinds.UnknownOption = codes "UnknownOption"
line_word kinds.RepeatedOption = codes "RepeatedOption"
line_word kinds.MissingValue = codes "MissingValue"
line_word kinds.BadName = codes "BadName"
line_word kinds.BadNumber = codes "BadNumber"
line_word kinds.BadTime = codes "BadTime"
line_word kinds.BadChoice = codes "BadChoice"
line_word kinds.MissingOption = codes "MissingOption"

unfoldable pub open_word : OpenKind → List ℕ
open_word faults.NoDisk = codes "NoDisk"
open_word faults.Short = codes "Short"
open_word faults.Record = codes "Record"
open_word faults.OldFormat = codes "OldFormat"
open_word faults.Number = codes "Number"
open_word faults.Cross = codes "Cross"
open_word faults.Shape = codes "Shape"
open_word faults.Differs = codes "Differs"
open_word faults.Fault = codes "Fault"

-- the words of the event's name
unfoldable pub event_words : the_event.Event → List ℕ
event_words (events.CreateVolume path disk kind logical physical) = codes "create volume"
event_words events.ShowVolumes = codes "show volumes"
event_words (events.Write path block fill) = codes "write"
event_words (events.Snap path name label) = codes "snap"
event_words (events.Unsnap path name) = codes "unsnap"
event_words (events.ShowSnaps path) = codes "show snaps"
event_words (events.CreatePolicy name kind) = codes "create policy"
event_words (events.AddRule name label keep preserve) = codes "add rule"
event_words events.ShowPolicies = codes "show policies"
event_words (events.Relate source destination policy) = codes "relate"
event_words (events.Initialize destination) = codes "initialize"
event_words (events.Update destination) = codes "update"
event_words (events.Quiesce destination) = codes "quiesce"
event_words (events.Resume destination) = codes "resume"
event_words (events.Abort destination hard) = codes "abort"
event_words (events.Break destination) = codes "break"
event_words (events.Resync destination) = codes "resync"
event_words (events.Delete destination) = codes "delete"
event_words (events.Release source destination) = codes "release"
event_words events.ShowRelations = codes "show relations"
event_words (events.Clock time) = codes "clock"
event_words (events.Cp path) = codes "cp"
event_words (events.Read path name block) = codes "read"
event_words (events.Work shown) = codes "work"
event_words events.Restart = codes "restart"
event_words events.Head = codes "head"
event_words (events.VolumeLine volume) = codes "volume line"
event_words (events.Digest volume place) = codes "digest"
event_words (events.RelationLine relation) = codes "relation line"

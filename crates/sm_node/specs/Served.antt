-- The events that a node does.
use Rattle.std.specs.Prelude.{◌≡◌, ℕ, List, Option, Some, Result, Ok, Err}
use Rattle.sm_model.specs.declared.event.Event as the_event
use Rattle.sm_model.specs.declared.event.Event.TheVariants as events
use Rattle.sm_base.specs.declared.refusal.Refusal.TheVariants as refusals
use Rattle.sm_model.specs.declared.reply.Reply as the_reply
use Rattle.sm_model.specs.declared.reply.Reply.TheVariants as replies
use Rattle.sm_node.specs.declared.fault.NodeFault.{NodeFault}
use Rattle.sm_node.specs.declared.fault.NodeFault.TheVariants.{NoMemory as OutOfMemory}

-- so far
abbrev pub IsServed : the_event.Event → Type 0
IsServed (events.CreateVolume path disk kind logical physical) = Unit {0}
IsServed events.ShowVolumes = Unit {0}
IsServed (events.Write path block fill) = Unit {0}
IsServed (events.Snap path name label) = Unit {0}
IsServed (events.Unsnap path name) = Unit {0}
IsServed (events.ShowSnaps path) = Unit {0}
IsServed (events.CreatePolicy name kind) = ⊥
IsServed (events.AddRule name label keep preserve) = ⊥
IsServed events.ShowPolicies = ⊥
IsServed (events.Relate source destination policy) = ⊥
IsServed (events.Initialize destination) = ⊥
IsServed (events.Update destination) = ⊥
IsServed (events.Quiesce destination) = ⊥
IsServed (events.Resume destination) = ⊥
IsServed (events.Abort destination hard) = ⊥
IsServed (events.Break destination) = ⊥
IsServed (events.Resync destination) = ⊥
IsServed (events.Delete destination) = ⊥
IsServed (events.Release source destination) = ⊥
IsServed events.ShowRelations = ⊥
IsServed (events.Clock time) = Unit {0}
IsServed (events.Cp path) = Unit {0}
IsServed (events.Read path name block) = Unit {0}
IsServed (events.Work shown) = ⊥
IsServed events.Restart = ⊥
IsServed events.Head = Unit {0}
IsServed (events.VolumeLine volume) = Unit {0}
IsServed (events.Digest volume place) = Unit {0}
IsServed (events.RelationLine relation) = Unit {0}

-- The reply owns no memory but the path or the name that it refuses, and that is the spare one.
abbrev pub IsSpared : Option (List ℕ) → Option (List ℕ) → the_reply.Reply → Type 0
IsSpared path name replies.Done = Unit {0}
IsSpared path name (replies.Snapped ident) = Unit {0}
IsSpared path name (replies.Created volume) = Unit {0}
IsSpared path name (replies.Refused (refusals.NoVolume refused)) = path ≡ Some refused
IsSpared path name (replies.Refused (refusals.NoSnapshot refused)) = name ≡ Some refused
IsSpared path name (replies.Refused (refusals.Held relation)) = Unit {0}
IsSpared path name (replies.Refused (refusals.ClockBack now)) = Unit {0}
IsSpared path name (replies.Refused refusals.NameTaken) = Unit {0}
IsSpared path name (replies.Refused refusals.ReadOnly) = Unit {0}
IsSpared path name (replies.Refused refusals.BadBlock) = Unit {0}
IsSpared path name (replies.Refused refusals.NoSpace) = Unit {0}
IsSpared path name (replies.Refused refusals.SnapFull) = Unit {0}
IsSpared path name (replies.Refused (refusals.NoDisk disk)) = Unit {0}
IsSpared path name (replies.Refused refusals.DiskTaken) = Unit {0}
IsSpared path name (replies.Refused (refusals.Full what)) = Unit {0}
IsSpared path name (replies.Refused (refusals.DiskSmall need len)) = Unit {0}
IsSpared path name _ = ⊥

-- or it is a block in a box, for which there is another
abbrev pub IsSparedOrBytes : Option (List ℕ) → Option (List ℕ) → the_reply.Reply → Type 0
IsSparedOrBytes path name (replies.Bytes block) = Unit {0}
IsSparedOrBytes path name reply = IsSpared path name reply

-- An event is answered twice: for whoever asked, and to keep. This is the first answer.
abbrev pub first_of : Result (the_reply.Reply × the_reply.Reply) NodeFault → Result the_reply.Reply NodeFault
first_of (Ok pair) = Ok pair.0
first_of (Err fault) = Err fault

-- The reply is the first, unless there was no memory for its copy; a fault stays.
abbrev pub IsCopied : Result the_reply.Reply NodeFault → Result (the_reply.Reply × the_reply.Reply) NodeFault → Type 0
IsCopied (Ok reply) (Ok pair) = pair.0 ≡ reply
IsCopied (Ok reply) (Err fault) = fault ≡ OutOfMemory
IsCopied (Err fault) both = both ≡ Err fault

-- What the commands of a script ask for.
use Rattle.std.specs.Prelude.{◌≡◌, ℕ, Option, IfSome}
use Rattle.sm_base.specs.declared.numbers.PolicyKind.TheVariants.{AsyncMirror}
use Rattle.sm_model.specs.declared.event.Event as the_event
use Rattle.sm_model.specs.declared.event.Event.TheVariants as events
use Rattle.sm_model.specs.declared.reply.Reply.{Reply}
use Rattle.sm_model.specs.LegalRun.{IsAsked}
use Rattle.sm_model.specs.World.{World}
use Rattle.sm_grammar.specs.declared.command.Task.{Task}
use Rattle.sm_grammar.specs.Events.{next_of}

-- the kinds of event that a command of the table has; a policy is a mirror's, so far
unfoldable pub IsCommand : the_event.Event → Type 0
IsCommand (events.CreateVolume path disk kind logical physical) = Unit {0}
IsCommand events.ShowVolumes = Unit {0}
IsCommand (events.Write path block fill) = Unit {0}
IsCommand (events.Snap path name label) = Unit {0}
IsCommand (events.Unsnap path name) = Unit {0}
IsCommand (events.ShowSnaps path) = Unit {0}
IsCommand (events.CreatePolicy name kind) = kind ≡ AsyncMirror
IsCommand (events.AddRule name label keep preserve) = Unit {0}
IsCommand events.ShowPolicies = Unit {0}
IsCommand (events.Relate source destination policy) = Unit {0}
IsCommand events.ShowRelations = Unit {0}
IsCommand (events.Clock time) = Unit {0}
IsCommand (events.Cp path) = Unit {0}
IsCommand (events.Read path name block) = Unit {0}
IsCommand _ = ⊥

-- the event can be asked for, whatever world it meets
abbrev pub IsAskable : the_event.Event → Type 0
IsAskable event = (w : World) → IsAsked w event

abbrev pub IsScripted : the_event.Event → Type 0
IsScripted event = IsCommand event × IsAskable event

-- each event of a command is so, by whatever replies it comes
abbrev pub AsksScripted : Task → Type 0
AsksScripted task = (done : ℕ) (last : Option Reply) → IfSome (next_of task done last) IsScripted

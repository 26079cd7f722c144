-- What a command of a script asks for, a catalogue does.
use Rattle.std.proofs.Common.{◌≡◌, ℕ, Option, Some, IfSome, subst}
use Rattle.sm_model.specs.declared.event.Event as the_event
use Rattle.sm_model.specs.declared.event.Event.TheVariants as events
use Rattle.sm_model.specs.declared.reply.Reply.{Reply}
use Rattle.sm_grammar.specs.declared.command.Task.{Task}
use Rattle.sm_grammar.specs.Asked.{IsCommand, IsScripted, AsksScripted}
use Rattle.sm_grammar.specs.Events.{next_of}
use Rattle.sm_events.specs.Served.{IsServed}
use Rattle.sm_crew.specs.Asked.{IsRunnable}

served : (e : the_event.Event) → IsCommand e → IsServed e
unfolding IsCommand
served (events.CreateVolume path disk kind logical physical) command = tt
served events.ShowVolumes command = tt
served (events.Write path block fill) command = tt
served (events.Snap path name label) command = tt
served (events.Unsnap path name) command = tt
served (events.ShowSnaps path) command = tt
served (events.CreatePolicy name kind) command = tt
served (events.AddRule name label keep preserve) command = tt
served events.ShowPolicies command = tt
served (events.Relate source destination policy) command = tt
served events.ShowRelations command = tt
served (events.Clock time) command = tt
served (events.Cp path) command = tt
served (events.Read path name block) command = tt
served e command = absurd command

pub next_runs : (task : Task) (done : ℕ) (last : Option Reply) (e : the_event.Event) → AsksScripted task → next_of task done last ≡ Some e → IsRunnable e
next_runs task done last e asks is = let h = subst (λ (o : Option the_event.Event). IfSome o IsScripted) is (asks done last) in (h.1, served e h.0)

-- The events that are done.
use Rattle.std.specs.Prelude.{Bool, true, false}
use Rattle.sm_model.specs.declared.event.Event as the_event
use Rattle.sm_model.specs.declared.event.Event.TheVariants as events
use Rattle.sm_node.specs.Served as node

-- an event on policies
abbrev pub is_of_policies : the_event.Event → Bool
is_of_policies (events.CreatePolicy name kind) = true
is_of_policies (events.AddRule name label keep preserve) = true
is_of_policies events.ShowPolicies = true
is_of_policies _ = false

-- an event on relationships, so far
abbrev pub is_of_relations : the_event.Event → Bool
is_of_relations (events.Relate source destination policy) = true
is_of_relations events.ShowRelations = true
is_of_relations _ = false

-- so far
abbrev pub IsServed : the_event.Event → Type 0
IsServed (events.CreatePolicy name kind) = Unit {0}
IsServed (events.AddRule name label keep preserve) = Unit {0}
IsServed events.ShowPolicies = Unit {0}
IsServed (events.Relate source destination policy) = Unit {0}
IsServed events.ShowRelations = Unit {0}
IsServed event = node.IsServed event

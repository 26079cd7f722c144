-- What may be asked of a catalogue.
use Rattle.sm_model.specs.declared.event.Event.{Event}
use Rattle.sm_grammar.specs.Asked.{IsAskable}
use Rattle.sm_events.specs.Served.{IsServed}

-- any world lets the event be asked for, and it is done
abbrev pub IsRunnable : Event → Type 0
IsRunnable event = IsAskable event × IsServed event

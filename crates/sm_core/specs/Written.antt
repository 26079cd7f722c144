-- Which block an event writes.
use Rattle.std.specs.Prelude.{◌≡◌, ℕ, Ok, Some}
use Rattle.sm_disk.specs.Disk.{DiskState}
use Rattle.sm_defs.specs.Operations.{least_free}
use Rattle.sm_defs.specs.Volume.{Volume}
use Rattle.sm_defs.specs.World.{Up}
use Rattle.sm_model.specs.declared.event.Event as the_event
use Rattle.sm_model.specs.declared.event.Event.TheVariants as events
use Rattle.sm_model.specs.Answer.{answer}
use Rattle.sm_model.specs.Answers.{Reached, volume_named}
use Rattle.sm_model.specs.World.{World, up, down}
use Rattle.sm_node.specs.Nodes.{Node}
use Rattle.sm_node.specs.Blocks.{IsNewIn, ChangesOnly}
use Rattle.sm_events.specs.Served.{IsServed}

-- a client's write writes at the least free number of its volume, and no other event writes a block
abbrev pub IsWrittenBy : Up → the_event.Event → ℕ → ℕ → Type 0
IsWrittenBy w (events.Write path block fill) place number = (v : Volume) × (volume_named w path ≡ Ok (record { at = place; item = v })) × (number ≡ least_free v)
IsWrittenBy w _ place number = ⊥

-- no other block comes into use
abbrev pub OnlyWrittenBlocksAreNew : Type 0
OnlyWrittenBlocksAreNew = (w : Up) (e : the_event.Event) (reached : Reached) → IsServed e → answer w e ≡ Some (Ok reached)
    → (place number : ℕ) → IsNewIn w reached.world place number → IsWrittenBy w e place number

-- what an event changes of the blocks; a node that is down is left alone
abbrev pub WritesOnly : {D : Type 0} → (D → DiskState) → World → the_event.Event → Node D → Node D → Type 0
WritesOnly state (up w) e old new = ChangesOnly state (IsWrittenBy w e) old new
WritesOnly state (down disk d) e old new = new ≡ old

-- What one event makes of a catalogue.
use Rattle.std.specs.Prelude.{◌≡◌, ◌⊎◌, ◌<◌, ℕ, List, [], ◌∷◌, ◌++◌, length, Option, Some}
use Rattle.sm_base.specs.declared.limits.TheConstants.{MOST_ENTRIES}
use Rattle.sm_base.specs.declared.numbers.DiskNo.{DiskNo}
use Rattle.sm_base.specs.declared.numbers.Side.{Side}
use Rattle.sm_disk.specs.Disk.{DiskState}
use Rattle.sm_defs.specs.World.{Up}
use Rattle.sm_model.specs.declared.event.Event.{Event}
use Rattle.sm_model.specs.declared.reply.Entry.{Entry}
use Rattle.sm_model.specs.declared.reply.Reply.{Reply}
use Rattle.sm_model.specs.Answers.{Answer}
use Rattle.sm_model.specs.Answer.{answer}
use Rattle.sm_model.specs.LegalRun.{Fits, IsRestart, fault, is_down}
use Rattle.sm_model.specs.Telling.{told_by}
use Rattle.sm_model.specs.World.{World, up, down, Deed}
use Rattle.sm_shape.specs.Blanked.{blanked}
use Rattle.sm_history.specs.Acts.{entry}
use Rattle.sm_node.specs.Nodes.{Node}
use Rattle.sm_node.specs.Parts.{AllTold}
use Rattle.sm_node.specs.ButBytes.{IsRepliedButBytes}
use Rattle.sm_node.specs.Acts.{IsAllowed, DiskHasFailed, GoesThrough, reached_of}
use Rattle.sm_events.specs.Served.{IsServed}
use Rattle.sm_core.specs.Deeds.{deed_of, next_of}
use Rattle.sm_core.specs.Kept.{Kept}
use Rattle.sm_core.specs.Falling.{world_now, IsCatalogue, IsSoundNow}
use Rattle.sm_core.specs.Written.{WritesOnly}
use Rattle.sm_core.specs.declared.down.Down.{Down}

-- a node that is up does these; one that is down answers every event but a restart
abbrev pub IsServedIn : World → Event → Type 0
IsServedIn (up w) e = IsServed e
IsServedIn (down disk d) e = ¬ IsRestart e

-- the entry leads from a world to a world, without a restart
abbrev pub Leads : World → Entry → World → Type 0
Leads old e new = (deeds : List Deed) × ((sides : List Side) → Fits old e sides deeds new sides)

-- the reply is the answer's, and the next world the one that it reaches, both but for the bytes of blocks
pub record IsReached (w : Up) (a : Answer) (reply : Reply) (next : World) : Type 0 where
  pub replied : IsRepliedButBytes a reply
  pub world : Up
  pub is : next ≡ up world
  pub without_bytes : blanked world ≡ blanked (reached_of w a)

-- a disk failed in an event that is no refusal, and the reply names it with its count of faults: the node is down with it, and
-- the pair is that of what the event would have done
pub record IsFailure {D : Type 0} (state : D → DiskState) (w : Up) (actor : ℕ) (e : Event) (a : Answer) (reply : Reply) (old new : Node D) (next : World) : Type 0 where
  pub disk : DiskNo
  pub count : ℕ
  pub allowed : IsAllowed a
  pub is : reply ≡ fault disk count
  pub failed : DiskHasFailed state w disk count old new
  pub down : next ≡ down disk.0 (deed_of w actor e)

module _ {D : Type 0} (state : D → DiskState) where
  -- What is answered and what the next world is, whether the disks tell their content or not: what the definitions say, but for
  -- the bytes of a read, of digests and of blocks, or that a disk failed. While the node is down, that it is, and it stays so.
  abbrev pub IsSaid : World → ℕ → Event → Reply → Node D → Node D → World → Type 0
  IsSaid (up w) actor e reply old new next = (a : Answer) × (answer w e ≡ Some a) × (IsReached w a reply next ⊎ IsFailure state w actor e a reply old new next)
  IsSaid (down disk d) actor e reply old new next = (reply ≡ is_down disk) × (next ≡ down disk d)

  -- The crash clause of an event. A node that is down is left alone.
  abbrev pub GoesAcross : World → Event → Node D → Node D → Type 0
  GoesAcross (up w) e old new = GoesThrough state w (next_of w (answer w e)) old new
  GoesAcross (down disk d) e old new = new ≡ old

  -- what one event makes of the fields
  pub record DoesOne (actor : ℕ) (e : Event) (reply : Reply) (since : Option (Down D)) (old : Node D) (since' : Option (Down D)) (new : Node D) : Type 0 where
    pub leads : AllTold state old.seats → (line : ℕ) → Leads (world_now since old) (entry actor line e reply) (world_now since' new)
    pub across : GoesAcross (world_now since old) e old new
    pub blocks : WritesOnly state (world_now since old) e old new
    pub said : IsSaid (world_now since old) actor e reply old new (world_now since' new)
    pub stands : IsCatalogue state since' new
    pub sound : IsSoundNow since' new

  -- One entry is added, for which there was room, whose reply tells what was answered. Where the disks tell their content it leads to the next world.
  pub record ActsOnce (old : Kept D) (actor line : ℕ) (e : Event) (reply : Reply) (new : Kept D) : Type 0 where
    pub kept : Reply
    pub tells : told_by kept ≡ told_by reply
    pub room : length old.history < MOST_ENTRIES
    pub grown : new.history ≡ old.history ++ entry actor line e kept ∷ []
    pub sides : new.sides ≡ old.sides
    pub leads : AllTold state old.node.seats → Leads old.world (entry actor line e kept) new.world
    pub across : GoesAcross old.world e old.node new.node
    pub blocks : WritesOnly state old.world e old.node new.node
    pub said : IsSaid old.world actor e kept old.node new.node new.world

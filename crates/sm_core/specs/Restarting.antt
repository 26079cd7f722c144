-- What a restart makes of a catalogue.
use Rattle.std.specs.Prelude.{◌≡◌, ◌⊎◌, ℕ, List, [], ◌∷◌, ◌++◌, Option, Result, Ok, Err}
use Rattle.sm_base.specs.declared.numbers.DiskNo.{DiskNo}
use Rattle.sm_base.specs.declared.numbers.Side.{Side}
use Rattle.sm_base.specs.declared.numbers.Side.TheVariants.{Before}
use Rattle.sm_disk.specs.Disk.{DiskState}
use Rattle.sm_defs.specs.World.{Up}
use Rattle.sm_model.specs.declared.event.Event.TheVariants as events
use Rattle.sm_model.specs.declared.reply.Entry.{Entry}
use Rattle.sm_model.specs.declared.reply.Reply.{Reply}
use Rattle.sm_model.specs.declared.reply.Reply.TheVariants as replies
use Rattle.sm_model.specs.LegalRun.{restart_deed, Fits, fault}
use Rattle.sm_model.specs.Opened.{opened}
use Rattle.sm_model.specs.World.{World, up, down, Deed}
use Rattle.sm_shape.specs.Blanked.{blanked}
use Rattle.sm_history.specs.Acts.{entry}
use Rattle.sm_node.specs.Nodes.{Node}
use Rattle.sm_node.specs.Parts.{devices}
use Rattle.sm_node.specs.Halved.{world_at}
use Rattle.sm_node.specs.Turning.{SeatFailed, AllDisksTold}
use Rattle.sm_node.specs.Returning.{GoesInPair}
use Rattle.sm_core.specs.Kept.{Kept}
use Rattle.sm_core.specs.Falling.{world_now, IsCatalogue, IsSoundNow}
use Rattle.sm_core.specs.FaultsRise.{FaultsRise}
use Rattle.sm_core.specs.declared.down.Down.{Down}

-- the pair of a world that is down; of one that is up the world itself, twice
abbrev pub pair_of : World → Deed
pair_of (up w) = restart_deed w
pair_of (down disk d) = d

abbrev pub restart_entry : ℕ → ℕ → Reply → Entry
restart_entry actor line reply = entry actor line events.Restart reply

-- what a restart is answered: that it is done, or the disk that failed with its count of faults
abbrev pub restart_reply : Result (Unit {0}) (DiskNo × ℕ) → Reply
restart_reply (Ok done) = replies.Done
restart_reply (Err failed) = fault failed.0 failed.1

-- the entry leads from a world to a world, and the sides are those before with the ones that it takes
abbrev pub LeadsOn : World → Entry → List Side → World → List Side → Type 0
LeadsOn old e sides new sides' = (deeds : List Deed) × (taken : List Side) × (sides' ≡ sides ++ taken) × ((rest : List Side) → Fits old e (taken ++ rest) deeds new rest)

-- the side of a node that was up
abbrev pub IsBeforeIfUp : World → Side → Type 0
IsBeforeIfUp (up w) side = side ≡ Before
IsBeforeIfUp (down disk d) side = Unit {0}

-- All disks restarted: one side more is kept, Before where the node was up, and whatever the disks tell, the world is that
-- side's as a restart leaves it, but for the bytes of blocks.
pub record RestartsDone (old : World) (sides : List Side) (reply : Reply) (new : World) (sides' : List Side) : Type 0 where
  pub is : reply ≡ replies.Done
  pub side : Side
  pub kept : sides' ≡ sides ++ side ∷ []
  pub before : IsBeforeIfUp old side
  pub world : Up
  pub reached : new ≡ up world
  pub without_bytes : blanked world ≡ blanked (opened (world_at side (pair_of old)))

module _ {D : Type 0} (state : D → DiskState) where
  -- A disk failed, which the reply names with its count of faults: the node is down with it, and has the same pair.
  pub record RestartFails (old : World) (n : Node D) (sides : List Side) (reply : Reply) (new : World) (n' : Node D) (sides' : List Side) : Type 0 where
    pub disk : DiskNo
    pub count : ℕ
    pub is : reply ≡ fault disk count
    pub failed : SeatFailed state n disk count n'
    pub same : sides' ≡ sides
    pub down : new ≡ down disk.0 (pair_of old)

  -- the crash clause; behind the disks that the node uses afterwards may be that of a volume whose creation came to nothing
  abbrev pub GoesAcrossRestart : World → Node D → Node D → Type 0
  GoesAcrossRestart w old new = (taken_off : List D) × GoesInPair state (pair_of w) (devices old) (devices new ++ taken_off)

  -- what a restart makes of the fields
  pub record DoesRestart (reply : Reply) (since : Option (Down D)) (old : Node D) (sides : List Side) (since' : Option (Down D)) (new : Node D) (sides' : List Side) : Type 0 where
    pub leads : AllDisksTold state old → (actor line : ℕ) → LeadsOn (world_now since old) (restart_entry actor line reply) sides (world_now since' new) sides'
    pub across : GoesAcrossRestart (world_now since old) old new
    pub said : RestartsDone (world_now since old) sides reply (world_now since' new) sides' ⊎ RestartFails (world_now since old) old sides reply (world_now since' new) new sides'
    pub stands : IsCatalogue state since' new
    pub sound : IsSoundNow since' new
    pub faults : (actor line : ℕ) → FaultsRise state old (restart_entry actor line reply ∷ []) new

  -- one entry is added
  pub record RestartsOnce (old : Kept D) (actor line : ℕ) (reply : Reply) (new : Kept D) : Type 0 where
    pub grown : new.history ≡ old.history ++ restart_entry actor line reply ∷ []
    pub leads : AllDisksTold state old.node → LeadsOn old.world (restart_entry actor line reply) old.sides new.world new.sides
    pub across : GoesAcrossRestart old.world old.node new.node
    pub said : RestartsDone old.world old.sides reply new.world new.sides ⊎ RestartFails old.world old.node old.sides reply new.world new.node new.sides
    pub faults : FaultsRise state old.node (restart_entry actor line reply ∷ []) new.node

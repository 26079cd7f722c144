-- What the steps make of their volumes and relationships, and what the definitions make of the world.
use Rattle.std.specs.Prelude.{◌≡◌, ℕ, true, false, List, [], ◌∷◌, Some, Ok, Err}
use Rattle.sm_base.specs.declared.numbers.Ident.{Ident}
use Rattle.sm_base.specs.declared.refusal.Reason.{Reason}
use Rattle.sm_defs.specs.World.{Up, volume_at, with_relation, with_volume}
use Rattle.sm_disk.specs.Disk.{DiskState}
use Rattle.sm_relation.specs.declared.relation.Relation.{Relation}
use Rattle.sm_relation.specs.Shown.{relationship_of}
use Rattle.sm_volume.specs.Mounted.{Mounted}
use Rattle.sm_volume.specs.Shown.{placed}
use Rattle.sm_model.specs.declared.reply.Reply.TheVariants as replies
use Rattle.sm_model.specs.Answers.{volno}
use Rattle.sm_model.specs.Due.{finish_effect, prepare_effect, prune_effect, settle_effect, tidy_effect}
use Rattle.sm_model.specs.Running.{Running}
use Rattle.sm_model.specs.Steps.{interrupts, number_of, with_destination, with_progress}
use Rattle.sm_transfer.specs.declared.fault.StepFault.TheVariants.{Stopped}
use Rattle.sm_publish.specs.Dropping.{Tidies, Prunes}
use Rattle.sm_publish.specs.Preparing.{Prepares}
use Rattle.sm_publish.specs.Settling.{Settles}

module _ {D : Type 0} (state : D → DiskState) where
  -- a volume at its place in the world, at its path and on its disk
  abbrev pub TidiesAsDefined : Type 0
  TidiesAsDefined = (w : Up) (path : List ℕ) (disk : ℕ) (n : ℕ) (old new : Mounted D) → volume_at w old.number.0 ≡ placed path disk old.volume → Tidies state w (Ok n) old new →
      tidy_effect w old.number.0 ≡ record { reply = replies.Tidied (volno old.number.0) n; world = with_volume w old.number.0 (placed path disk new.volume) }

  abbrev pub PrunesAsDefined : Type 0
  PrunesAsDefined = (w : Up) (k : ℕ) (x : Running) (path : List ℕ) (disk : ℕ) (n : ℕ) (old new : Mounted D) → x.destination ≡ placed path disk old.volume → Prunes state w x (Ok n) old new →
      prune_effect w k x ≡ record { reply = replies.Pruned (number_of x) n; world = with_progress (with_destination w x (placed path disk new.volume)) k x (record x.transfer { pruned = true }) }

  abbrev pub PruneStopsAsDefined : Type 0
  PruneStopsAsDefined = (w : Up) (k : ℕ) (x : Running) (reason : Reason) (old new : Mounted D) → Prunes state w x (Err (Stopped reason)) old new → prune_effect w k x ≡ interrupts w k x reason

  abbrev pub PreparesAsDefined : Type 0
  PreparesAsDefined = (w : Up) (k : ℕ) (x : Running) (path : List ℕ) (disk : ℕ) (i : Ident) (old new : Mounted D) → x.source ≡ placed path disk old.volume → Prepares state w x (Ok i) old new →
      prepare_effect w k x i ≡ record { reply = replies.Prepared (number_of x) i; world = with_volume w x.relation.source (placed path disk new.volume) }

  abbrev pub PrepareStopsAsDefined : Type 0
  PrepareStopsAsDefined = (w : Up) (k : ℕ) (x : Running) (i : Ident) (reason : Reason) (old new : Mounted D) → Prepares state w x (Err (Stopped reason)) old new → prepare_effect w k x i ≡ interrupts w k x reason

-- of a transfer with a first leg
abbrev pub SettlesAsDefined : Type 0
SettlesAsDefined = (w : Up) (k : ℕ) (x : Running) (i : Ident) (later : List Ident) (old new : Relation) → x.relation ≡ relationship_of x.transfer.landed x.transfer.pruned old → x.relation.transfer ≡ Some x.transfer →
    x.transfer.legs ≡ i ∷ later → Settles old new → settle_effect w k x i later ≡ record { reply = replies.Settled (number_of x) i false; world = with_relation w k (relationship_of [] x.transfer.pruned new) }

-- and of one without any
abbrev pub FinishesAsDefined : Type 0
FinishesAsDefined = (w : Up) (k : ℕ) (x : Running) (base : Ident) (old new : Relation) → x.relation ≡ relationship_of x.transfer.landed x.transfer.pruned old → x.relation.transfer ≡ Some x.transfer →
    x.transfer.legs ≡ [] → Settles old new → finish_effect w k x base ≡ record { reply = replies.Settled (number_of x) base true; world = with_relation w k (relationship_of [] x.transfer.pruned new) }

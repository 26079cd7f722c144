-- What a catalogue becomes by entries, one after another.
use Rattle.std.specs.Prelude.{◌≡◌, ℕ, List, [], ◌∷◌}
use Rattle.sm_disk.specs.Disk.{DiskState}
use Rattle.sm_model.specs.declared.event.Event.{Event}
use Rattle.sm_model.specs.declared.reply.Entry.{Entry}
use Rattle.sm_model.specs.declared.reply.Reply.{Reply}
use Rattle.sm_model.specs.LegalRun.{IsAsked, Run}
use Rattle.sm_model.specs.Telling.{told_by}
use Rattle.sm_model.specs.World.{Deed}
use Rattle.sm_history.specs.Acts.{entry}
use Rattle.sm_node.specs.Parts.{AllTold}
use Rattle.sm_core.specs.Doing.{ActsOnce}
use Rattle.sm_core.specs.Kept.{Kept, Stands}

module _ {D : Type 0} (state : D → DiskState) where
  -- It does one event, which the world that it meets lets be asked for, and the entry keeps what is answered. Whatever a
  -- restart of the disks may leave afterwards shows the next world, or one of its pair; `acts` has the crash clause until then.
  pub record Makes (old : Kept D) (e : Entry) (new : Kept D) : Type 0 where
    pub asked : IsAsked old.world e.event
    pub reply : Reply
    pub acts : ActsOnce state old e.actor e.line e.event reply new
    pub kept : acts.kept ≡ e.reply
    pub stands : Stands state new.world new.node

  -- it does an event of the script's actor, and its entry tells what is answered
  abbrev pub MakesOne : Kept D → ℕ → Event → Reply → Kept D → Type 0
  MakesOne old line event reply new = (kept : Reply) × (told_by kept ≡ told_by reply) × Makes old (entry 0 line event kept) new

  -- the second catalogue comes from the first by these entries and nothing else
  abbrev pub Comes : Kept D → List Entry → Kept D → Type 0
  Comes old [] new = new ≡ old
  Comes old (e ∷ es) new = (mid : Kept D) × Makes old e mid × Comes mid es new

  -- where the disks tell their content, also those on which volumes were made, the entries are a run, without a restart
  abbrev pub RunsOn : Kept D → List Entry → Kept D → Type 0
  RunsOn old es new = AllTold state new.node.seats → (deeds : List Deed) × Run old.world es [] deeds new.world

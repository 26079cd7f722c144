-- The laws, in words of the definitions.
use Rattle.std.specs.Prelude.{◌≡◌, ℕ, ◌≤◌, List, ◌++◌, map, Some, Err, slice_get}
use Rattle.sm_base.specs.declared.numbers.DiskNo.{DiskNo}
use Rattle.sm_base.specs.declared.numbers.Kind.{Kind}
use Rattle.sm_base.specs.declared.numbers.Side.{Side}
use Rattle.sm_base.specs.declared.refusal.Refusal.{Refusal}
use Rattle.sm_defs.specs.Volume.{new_volume, length_needed}
use Rattle.sm_defs.specs.World.{Up, empty_world}
use Rattle.sm_model.specs.declared.event.Event.{Event}
use Rattle.sm_model.specs.declared.event.Event.TheVariants as events
use Rattle.sm_model.specs.declared.reply.Entry.{Entry}
use Rattle.sm_model.specs.declared.reply.Reply.TheVariants as replies
use Rattle.sm_model.specs.Answers.{◌and◌, volno}
use Rattle.sm_model.specs.Answer.{answer}
use Rattle.sm_model.specs.OfVolumes.{with_new_volume}
use Rattle.sm_model.specs.World.{World, up, Deed}
use Rattle.sm_model.specs.LegalRun.{Fits, Run}
use Rattle.sm_model.specs.Sound.{SoundUp, Sound}
use Rattle.sm_model.specs.Asked.{asked_of}
use Rattle.sm_report.specs.Transcript.{transcript}
use Rattle.laws_contents.specs.Contents.{BeginSound}
use Rattle.laws_run.specs.Histories.{AllDecided, AllChosen, AllFaultless, IsFaultless}
use Rattle.laws_run.specs.Listed.{IsListed}

abbrev pub EmptyWorldIsSound : Type 0
EmptyWorldIsSound = (disks : List ℕ) → SoundUp (empty_world disks)

-- with any events, faults and restarts
abbrev pub RunsKeepSoundness : Type 0
RunsKeepSoundness = (old new : World) (es : List Entry) (sides : List Side) (deeds : List Deed) → Run old es sides deeds new → Sound old → Sound new

-- the run goes through a sound world between the first entries and the others
pub record PassesSound (start : Up) (first others : List Entry) (sides : List Side) (deeds : List Deed) (new : World) : Type 0 where
  pub mid : World
  pub taken : List Side
  pub left : List Side
  pub earlier : List Deed
  pub later : List Deed
  pub leads_there : Run (up start) first taken earlier mid
  pub leads_on : Run mid others left later new
  pub sides_are : sides ≡ taken ++ left
  pub deeds_are : deeds ≡ earlier ++ later
  pub sound : Sound mid

abbrev pub EachWorldIsSound : Type 0
EachWorldIsSound =
    (start : Up) (first others : List Entry) (sides : List Side) (deeds : List Deed) (new : World) → SoundUp start → Run (up start) (first ++ others) sides deeds new →
    PassesSound start first others sides deeds new

-- so each deed of a run begins in a sound world
abbrev pub DeedsBeginSound : Type 0
DeedsBeginSound = (old new : World) (es : List Entry) (sides : List Side) (deeds : List Deed) → Run old es sides deeds new → Sound old → BeginSound deeds

abbrev pub TextIsDetermined : Type 0
TextIsDetermined =
    (start new other : World) (es fs : List Entry) (sides : List Side) (deeds others : List Deed) → AllDecided es → AllFaultless es → AllFaultless fs →
    Run start es sides deeds new → Run start fs sides others other →
    map asked_of es ≡ map asked_of fs → (transcript es ≡ transcript fs) × (new ≡ other)

-- with workers' steps too, where each is the one that this program chooses for its actor
abbrev pub ChosenTextIsDetermined : Type 0
ChosenTextIsDetermined =
    (start new other : World) (es fs : List Entry) (sides : List Side) (deeds others : List Deed) → AllFaultless es → AllFaultless fs → AllChosen deeds → AllChosen others →
    Run start es sides deeds new → Run start fs sides others other →
    map asked_of es ≡ map asked_of fs → (transcript es ≡ transcript fs) × (new ≡ other)

abbrev pub RefusalsAreListed : Type 0
RefusalsAreListed = (w : Up) (e : Event) (r : Refusal) → answer w e ≡ Some (Err r) → IsListed e r

-- so is an entry that tells of no disk that failed and no node that is down
abbrev pub EntriesAreRefusedAsListed : Type 0
EntriesAreRefusedAsListed =
    (old new : World) (e : Entry) (sides left : List Side) (deeds : List Deed) (r : Refusal) → IsFaultless e.reply →
    Fits old e sides deeds new left → e.reply ≡ replies.Refused r → IsListed e.event r

abbrev pub FirstVolumeIsMade : Type 0
FirstVolumeIsMade =
    (disks : List ℕ) (path : List ℕ) (disk : DiskNo) (kind : Kind) (logical physical len : ℕ) → 1 ≤ disk.0 → slice_get disks disk.0 ≡ Some len → length_needed physical ≤ len →
    answer (empty_world disks) (events.CreateVolume path disk kind logical physical) ≡
    Some (replies.Created (volno 0) and with_new_volume (empty_world disks) (new_volume path disk.0 kind 0 logical physical))

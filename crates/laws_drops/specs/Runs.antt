-- What holds of each deed of a run.
use Rattle.std.specs.Prelude.{◌≡◌, ◌↔◌, ◌⊎◌, ℕ, true, false, List, []}
use Rattle.sm_base.specs.declared.numbers.Ident.{Ident}
use Rattle.sm_base.specs.declared.numbers.Side.{Side}
use Rattle.sm_model.specs.declared.reply.Entry.{Entry}
use Rattle.sm_defs.specs.Words.{Among}
use Rattle.sm_defs.specs.Volume.{has}
use Rattle.sm_defs.specs.World.{Up, volume_at}
use Rattle.sm_model.specs.World.{World, up, down, Deed}
use Rattle.sm_model.specs.Drops.{NamedFor}
use Rattle.sm_model.specs.LegalRun.{IsDeed, Fits, Run, restart_deed}
use Rattle.sm_model.specs.Sound.{Sound}
use Rattle.laws_cases.specs.Needs.{KeepsNeeded}

-- an answer or a step; or a restart of a world that was up, in which a disk failed, and which changed nothing
abbrev pub WasDone : Deed → Type 0
WasDone d = IsDeed d.event d ⊎ ((w : Up) × (d ≡ restart_deed w))

abbrev pub RunsDoDeeds : Type 0
RunsDoDeeds = (start : Up) (entries : List Entry) (sides : List Side) (deeds : List Deed) (last : World) → Run (up start) entries sides deeds last → (d : Deed) → Among deeds d → WasDone d

abbrev pub RunsKeepTheNeeded : Type 0
RunsKeepTheNeeded =
    (start : Up) (entries : List Entry) (sides : List Side) (deeds : List Deed) (last : World) → Run (up start) entries sides deeds last → (d : Deed) → Among deeds d → KeepsNeeded d.old d.new

-- ---- each entry, with a deed or without

-- the world that is up; of one that is down, the world before the deed that failed
abbrev pub known_world : World → Up
known_world (up w) = w
known_world (down disk d) = d.old

-- what a restart of a world that is down may find done could be done
abbrev pub WasGoing : World → Type 0
WasGoing (up w) = Unit {0}
WasGoing (down disk d) = WasDone d

abbrev pub EntriesGoOn : Type 0
EntriesGoOn = (old new : World) (e : Entry) (sides left : List Side) (deeds : List Deed) → WasGoing old → Fits old e sides deeds new left → WasGoing new

-- the volume has the identity before and not after
abbrev pub Loses : World → World → ℕ → Ident → Type 0
Loses old new v i = (has (volume_at (known_world old) v).snapshots i ≡ true) × (has (volume_at (known_world new) v).snapshots i ≡ false)

-- the rules name the identity on the volume for one of the deeds
abbrev pub NamedForSome : List Deed → ℕ → Ident → Type 0
NamedForSome deeds v i = (d : Deed) × Among deeds d × NamedFor d d.event v i

-- so a restart that finds a deed done drops what the rules name for the deed, and an entry without a deed drops nothing
abbrev pub EntriesDropWhatIsNamed : Type 0
EntriesDropWhatIsNamed =
    (old new : World) (e : Entry) (sides left : List Side) (deeds : List Deed) → Sound old → WasGoing old → Fits old e sides deeds new left →
    (v : ℕ) (i : Ident) → Loses old new v i ↔ NamedForSome deeds v i

-- an entry without a deed leaves all snapshots as they are, in every world
abbrev pub NoDeedKeepsSnapshots : Type 0
NoDeedKeepsSnapshots =
    (old new : World) (e : Entry) (sides left : List Side) → Fits old e sides [] new left →
    (v : ℕ) → (volume_at (known_world new) v).snapshots ≡ (volume_at (known_world old) v).snapshots

abbrev pub EntriesKeepTheNeeded : Type 0
EntriesKeepTheNeeded =
    (old new : World) (e : Entry) (sides left : List Side) (deeds : List Deed) → WasGoing old → Fits old e sides deeds new left → KeepsNeeded (known_world old) (known_world new)

-- What holds of each world, each entry and each deed of a run from a sound start, whatever is asked and whatever fails.
use Rattle.std.specs.Prelude.{◌≡◌, ◌⊎◌, ◌↔◌, ℕ, true, false, List, [], ◌∷◌, ◌++◌, Some, None}
use Rattle.sm_base.specs.declared.numbers.Ident.{Ident}
use Rattle.sm_base.specs.declared.numbers.Side.{Side}
use Rattle.sm_defs.specs.Words.{Among}
use Rattle.sm_defs.specs.Volume.{has}
use Rattle.sm_defs.specs.Relationship.{Relationship, Transfer}
use Rattle.sm_defs.specs.World.{Up, volume_at}
use Rattle.sm_model.specs.declared.reply.Entry.{Entry}
use Rattle.sm_model.specs.World.{World, up, down, Deed}
use Rattle.sm_model.specs.Standing.{EachRelation, EachTransfer}
use Rattle.sm_model.specs.Crossed.{IsReservedLeg}
use Rattle.sm_model.specs.Origin.{makes, origin}
use Rattle.sm_model.specs.Drops.{Drops, NamedFor}
use Rattle.sm_model.specs.LegalRun.{Run}
use Rattle.sm_model.specs.Sound.{SoundUp, Sound}
use Rattle.laws_cases.specs.Needs.{KeepsNeeded}
use Rattle.laws_contents.specs.Contents.{AllHaveOrigins}
use Rattle.laws_drops.specs.Runs.{known_world, Loses, NamedForSome}

-- P of each world that the run goes through, with the deeds before it: the first, those between entries, the last
abbrev pub AllWorlds : (List Deed → World → Type 0) → List Deed → (old : World) (es : List Entry) (sides : List Side) (deeds : List Deed) (new : World) → Run old es sides deeds new → Type 0
AllWorlds P before old [] sides deeds new r = P before old
AllWorlds P before old (e ∷ es) sides deeds new (first, later, left, mid, asked, f, r, q) = P before old × AllWorlds P (before ++ first) mid es left later new r

-- P of each entry, with the worlds before and after it and its deeds
abbrev pub AllEntries : (World → Entry → List Deed → World → Type 0) → (old : World) (es : List Entry) (sides : List Side) (deeds : List Deed) (new : World) → Run old es sides deeds new → Type 0
AllEntries P old [] sides deeds new r = Unit {0}
AllEntries P old (e ∷ es) sides deeds new (first, later, left, mid, asked, f, r, q) = P old e first mid × AllEntries P mid es left later new r

-- P of the world that is up, or of both that a restart may find
abbrev pub OfBoth : (Up → Type 0) → World → Type 0
OfBoth P (up w) = P w
OfBoth P (down disk d) = P d.old × P d.new

abbrev pub WorldsAreSound : Type 0
WorldsAreSound = (old new : World) (es : List Entry) (sides : List Side) (deeds : List Deed) (r : Run old es sides deeds new) → Sound old → AllWorlds (λ before w. Sound w) [] old es sides deeds new r

-- ---- contents

-- each snapshot has the contents that its origin held; after the deed that failed too
abbrev pub OriginsStand : Up → List Deed → World → Type 0
OriginsStand start before (up w) = AllHaveOrigins start before w
OriginsStand start before (down disk d) = AllHaveOrigins start before d.old × AllHaveOrigins start (before ++ d ∷ []) d.new

abbrev pub WorldsHaveOrigins : Type 0
WorldsHaveOrigins =
    (start : Up) (es : List Entry) (sides : List Side) (deeds : List Deed) (last : World) (r : Run (up start) es sides deeds last) → SoundUp start →
    AllWorlds (OriginsStand start) [] (up start) es sides deeds last r

-- so it is at the end
abbrev pub RunsEndWithOrigins : Type 0
RunsEndWithOrigins =
    (start : Up) (es : List Entry) (sides : List Side) (deeds : List Deed) (last : World) → Run (up start) es sides deeds last → SoundUp start → OriginsStand start deeds last

-- what a deed takes had no origin before: no copy at the start, and no earlier deed took it
abbrev pub RunsMakeOnce : Type 0
RunsMakeOnce =
    (start : Up) (es : List Entry) (sides : List Side) (earlier : List Deed) (d : Deed) (later : List Deed) (last : World) (i : Ident) →
    SoundUp start → Run (up start) es sides (earlier ++ d ∷ later) last → makes i d ≡ true → origin start earlier i ≡ None

-- ---- drops

abbrev pub RunsDropByRule : Type 0
RunsDropByRule =
    (start : Up) (es : List Entry) (sides : List Side) (deeds : List Deed) (last : World) → Run (up start) es sides deeds last → SoundUp start →
    (d : Deed) → Among deeds d → (v : ℕ) (i : Ident) → Drops d v i ↔ NamedFor d d.event v i

-- of each entry: a restart that finds a deed done drops what the rules name for the deed, an entry without a deed nothing
abbrev pub DropsByRule : World → Entry → List Deed → World → Type 0
DropsByRule old e deeds new = (v : ℕ) (i : Ident) → Loses old new v i ↔ NamedForSome deeds v i

abbrev pub EntriesDropByRule : Type 0
EntriesDropByRule =
    (start : Up) (es : List Entry) (sides : List Side) (deeds : List Deed) (last : World) (r : Run (up start) es sides deeds last) → SoundUp start →
    AllEntries DropsByRule (up start) es sides deeds last r

-- no needed snapshot goes, whatever the start is
abbrev pub NoneNeededGoes : Type 0
NoneNeededGoes =
    (start : Up) (es : List Entry) (sides : List Side) (deeds : List Deed) (last : World) (r : Run (up start) es sides deeds last) →
    AllEntries (λ old e deeds new. KeepsNeeded (known_world old) (known_world new)) (up start) es sides deeds last r

-- ---- bases and legs

-- the base is on each side that has its half
pub record BaseStands (w : Up) (r : Relationship) : Type 0 where
  pub at_source : (i : Ident) → r.base ≡ Some i → r.source_half ≡ true → has (volume_at w r.source).snapshots i ≡ true
  pub at_destination : (i : Ident) → r.base ≡ Some i → r.destination_half ≡ true → has (volume_at w r.destination).snapshots i ≡ true

-- a remaining leg is on the source; or it is the reserved one, which was not made yet
abbrev pub LegStands : Up → Relationship → Transfer → Ident → Type 0
LegStands w r t i =
    (has (volume_at w r.source).snapshots i ≡ true) ⊎ (IsReservedLeg r t i × (has (volume_at w r.source).snapshots i ≡ false))

pub record BasesAndLegsStand (w : Up) : Type 0 where
  pub bases : EachRelation (BaseStands w) w
  pub legs : EachTransfer (λ r t. (i : Ident) → Among t.legs i → LegStands w r t i) w

abbrev pub WorldsHaveBases : Type 0
WorldsHaveBases =
    (old new : World) (es : List Entry) (sides : List Side) (deeds : List Deed) (r : Run old es sides deeds new) → Sound old →
    AllWorlds (λ before w. OfBoth BasesAndLegsStand w) [] old es sides deeds new r

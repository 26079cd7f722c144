-- Contents and drops along runs from a sound start.
use Rattle.std.proofs.Common.{◌≡◌, ◌↔◌, ℕ, true, List, [], ◌∷◌, ◌++◌, None}
use Rattle.sm_base.specs.declared.numbers.Ident.{Ident}
use Rattle.sm_base.specs.declared.numbers.Side.{Side}
use Rattle.sm_defs.specs.Words.{Among}
use Rattle.sm_defs.specs.World.{Up}
use Rattle.sm_defs.proofs.Members.{among_each}
use Rattle.sm_model.specs.declared.reply.Entry.{Entry}
use Rattle.sm_model.specs.World.{World, up, down, Deed}
use Rattle.sm_model.specs.Origin.{makes, origin}
use Rattle.sm_model.specs.Drops.{Drops, NamedFor}
use Rattle.sm_model.specs.LegalRun.{Run}
use Rattle.sm_model.specs.Sound.{SoundUp, Sound}
use Rattle.laws_sound.proofs.Soundly.{entries_keep_sound}
use Rattle.laws_contents.proofs.Along.{along_deed, along_start}
use Rattle.laws_contents.proofs.Contents.{Ready, made_once, of_entry}
use Rattle.laws_drops.proofs.Runs.{runs_drop_named}
use Rattle.laws_run.specs.Worlds.{AllWorlds, OriginsStand}
use Rattle.laws_run.proofs.AnyRuns.{entry_begins, run_begins}

stand : (start : Up) (before : List Deed) (w : World) → Ready start before w → Sound w → OriginsStand start before w
stand start before (up w) r s = r.origins
stand start before (down disk d) r s = (r.0.origins, (along_deed start before d r.0 (r.1 s.0)).origins)

along_run : (start : Up) (before : List Deed) (old new : World) (es : List Entry) (sides : List Side) (deeds : List Deed) (r : Run old es sides deeds new) → Ready start before old → Sound old →
    AllWorlds (OriginsStand start) before old es sides deeds new r
along_run start before old new [] sides deeds r k s = stand start before old k s
along_run start before old new (e ∷ es) sides deeds (first, later, left, mid, asked, f, r, q) k s =
    (stand start before old k s, along_run start (before ++ first) mid new es left later r (of_entry start before f k (entry_begins f s)).ready (entries_keep_sound old mid e sides left first s asked f))

pub worlds_have_origins : (start : Up) (es : List Entry) (sides : List Side) (deeds : List Deed) (last : World) (r : Run (up start) es sides deeds last) → SoundUp start →
    AllWorlds (OriginsStand start) [] (up start) es sides deeds last r
worlds_have_origins start es sides deeds last r s = along_run start [] (up start) last es sides deeds r (along_start start s) s

pub runs_make_once : (start : Up) (es : List Entry) (sides : List Side) (earlier : List Deed) (d : Deed) (later : List Deed) (last : World) (i : Ident) →
    SoundUp start → Run (up start) es sides (earlier ++ d ∷ later) last → makes i d ≡ true → origin start earlier i ≡ None
runs_make_once start es sides earlier d later last i s r m = made_once start es sides earlier d later last i s r (run_begins (up start) last es sides (earlier ++ d ∷ later) r s) m

pub runs_drop_by_rule : (start : Up) (es : List Entry) (sides : List Side) (deeds : List Deed) (last : World) → Run (up start) es sides deeds last → SoundUp start →
    (d : Deed) → Among deeds d → (v : ℕ) (i : Ident) → Drops d v i ↔ NamedFor d d.event v i
runs_drop_by_rule start es sides deeds last r s d m = runs_drop_named start es sides deeds last r d m (among_each (λ d. SoundUp d.old) deeds d (run_begins (up start) last es sides deeds r s) m)

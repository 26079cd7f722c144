-- Each entry of a run.
use Rattle.std.proofs.Common.{List, [], ◌∷◌}
use Rattle.sm_base.specs.declared.numbers.Side.{Side}
use Rattle.sm_defs.specs.World.{Up}
use Rattle.sm_model.specs.declared.reply.Entry.{Entry}
use Rattle.sm_model.specs.World.{World, up, Deed}
use Rattle.sm_model.specs.LegalRun.{Run}
use Rattle.sm_model.specs.Sound.{SoundUp, Sound}
use Rattle.laws_cases.specs.Needs.{KeepsNeeded}
use Rattle.laws_drops.specs.Runs.{WasGoing, known_world}
use Rattle.laws_sound.proofs.Soundly.{entries_keep_sound}
use Rattle.laws_drops.proofs.EntryDrops.{entries_go_on, entries_drop_named, entries_keep_needed}
use Rattle.laws_run.specs.Worlds.{AllEntries, DropsByRule}

drop : (old new : World) (es : List Entry) (sides : List Side) (deeds : List Deed) (r : Run old es sides deeds new) → Sound old → WasGoing old → AllEntries DropsByRule old es sides deeds new r
drop old new [] sides deeds r s k = tt
drop old new (e ∷ es) sides deeds (first, later, left, mid, asked, f, r, q) s k =
    (entries_drop_named old mid e sides left first s k f, drop mid new es left later r (entries_keep_sound old mid e sides left first s asked f) (entries_go_on old mid e sides left first k f))

pub entries_drop_by_rule : (start : Up) (es : List Entry) (sides : List Side) (deeds : List Deed) (last : World) (r : Run (up start) es sides deeds last) → SoundUp start → AllEntries DropsByRule (up start) es sides deeds last r
entries_drop_by_rule start es sides deeds last r s = drop (up start) last es sides deeds r s tt

keep : (old new : World) (es : List Entry) (sides : List Side) (deeds : List Deed) (r : Run old es sides deeds new) → WasGoing old →
    AllEntries (λ old e deeds new. KeepsNeeded (known_world old) (known_world new)) old es sides deeds new r
keep old new [] sides deeds r k = tt
keep old new (e ∷ es) sides deeds (first, later, left, mid, asked, f, r, q) k =
    (entries_keep_needed old mid e sides left first k f, keep mid new es left later r (entries_go_on old mid e sides left first k f))

pub none_needed_goes : (start : Up) (es : List Entry) (sides : List Side) (deeds : List Deed) (last : World) (r : Run (up start) es sides deeds last) →
    AllEntries (λ old e deeds new. KeepsNeeded (known_world old) (known_world new)) (up start) es sides deeds last r
none_needed_goes start es sides deeds last r = keep (up start) last es sides deeds r tt

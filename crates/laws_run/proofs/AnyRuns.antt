-- Runs from any sound world keep it sound, with any events, faults and restarts.
use Rattle.std.proofs.Common.{List, [], ◌∷◌, sym, subst}
use Rattle.sm_base.specs.declared.numbers.Side.{Side}
use Rattle.sm_model.specs.declared.reply.Entry.{Entry}
use Rattle.sm_model.specs.World.{World, Deed}
use Rattle.sm_model.specs.LegalRun.{Fits, done, quiet, failed, down_still, restart_up, restart_before, restart_after, restart_failed_up, restart_failed, Run}
use Rattle.sm_model.specs.Sound.{SoundUp, Sound}
use Rattle.laws_contents.specs.Contents.{BeginSound}
use Rattle.laws_sound.proofs.Soundly.{entries_keep_sound}
use Rattle.laws_run.proofs.Entries.{all_joined}

pub run_keeps : (old new : World) (es : List Entry) (sides : List Side) (ds : List Deed) → Run old es sides ds new → Sound old → Sound new
run_keeps old new [] sides ds (a, b, c) s = subst Sound (sym c) s
run_keeps old new (e ∷ es) sides ds (first, later, left, mid, asked, f, r, q) s = run_keeps mid new es left later r (entries_keep_sound old mid e sides left first s asked f)

pub entry_begins : {old new : World} {e : Entry} {sides left : List Side} {ds : List Deed} → Fits old e sides ds new left → Sound old → BeginSound ds
entry_begins (done d o a b c i) s = (subst SoundUp (sym o) s, tt)
entry_begins (quiet i) s = tt
entry_begins (failed d disk count o a b i c k) s = tt
entry_begins (down_still n k) s = tt
entry_begins (restart_up side r k) s = tt
entry_begins (restart_before r k) s = tt
entry_begins (restart_after r k) s = (s.0, tt)
entry_begins (restart_failed_up disk count r k) s = tt
entry_begins (restart_failed disk count r k) s = tt

-- each deed of the run begins in a sound world
pub run_begins : (old new : World) (es : List Entry) (sides : List Side) (ds : List Deed) → Run old es sides ds new → Sound old → BeginSound ds
run_begins old new [] sides ds (a, b, c) s = subst BeginSound (sym b) tt
run_begins old new (e ∷ es) sides ds (first, later, left, mid, asked, f, r, q) s =
    subst BeginSound (sym q) (all_joined (λ d. SoundUp d.old) first later (entry_begins f s) (run_begins mid new es left later r (entries_keep_sound old mid e sides left first s asked f)))

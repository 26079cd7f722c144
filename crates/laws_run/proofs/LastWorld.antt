-- What holds of each world of a run holds of its last, and of one behind any of its entries.
use Rattle.std.proofs.Common.{List, [], ◌∷◌, ◌++◌, sym, ap, subst, ◌∙◌, append_assoc, append-nil}
use Rattle.sm_base.specs.declared.numbers.Side.{Side}
use Rattle.sm_defs.specs.World.{Up}
use Rattle.sm_model.specs.declared.reply.Entry.{Entry}
use Rattle.sm_model.specs.World.{World, up, Deed}
use Rattle.sm_model.specs.LegalRun.{Run}
use Rattle.sm_model.specs.Sound.{SoundUp}
use Rattle.laws_run.specs.Worlds.{AllWorlds, OriginsStand}
use Rattle.laws_run.proofs.RunLaws.{worlds_have_origins}

pub last_world : (P : List Deed → World → Type 0) (before : List Deed) (old new : World) (es : List Entry) (sides : List Side) (deeds : List Deed) (r : Run old es sides deeds new) →
    AllWorlds P before old es sides deeds new r → P (before ++ deeds) new
last_world P before old new [] sides deeds (a, b, c) h = subst (λ ds. P ds new) (sym (ap (λ ds. before ++ ds) b ∙ append-nil before)) (subst (P before) (sym c) h)
last_world P before old new (e ∷ es) sides deeds (first, later, left, mid, asked, f, r, q) (h, k) =
    subst (λ ds. P ds new) (append_assoc before first later ∙ ap (λ ds. before ++ ds) (sym q)) (last_world P (before ++ first) mid new es left later r k)

pub runs_end_with_origins : (start : Up) (es : List Entry) (sides : List Side) (deeds : List Deed) (last : World) → Run (up start) es sides deeds last → SoundUp start → OriginsStand start deeds last
runs_end_with_origins start es sides deeds last r s = last_world (OriginsStand start) [] (up start) last es sides deeds r (worlds_have_origins start es sides deeds last r s)

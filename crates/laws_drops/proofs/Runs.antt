-- Each deed of a run was done.
use Rattle.std.proofs.Common.{◌↔◌, ◌⊎◌, ℕ, List, [], ◌∷◌, refl, sym, subst, inl, inr, true≢false, ◌∙◌}
use Rattle.sm_base.specs.declared.numbers.Ident.{Ident}
use Rattle.sm_base.specs.declared.numbers.Side.{Side}
use Rattle.sm_model.specs.declared.event.Event.TheVariants as events
use Rattle.sm_model.specs.declared.reply.Entry.{Entry}
use Rattle.sm_defs.specs.Words.{Among}
use Rattle.sm_defs.specs.World.{Up}
use Rattle.sm_defs.proofs.Members.{among_append}
use Rattle.sm_model.specs.World.{World, up, down, Deed}
use Rattle.sm_model.specs.Drops.{Drops, NamedFor}
use Rattle.sm_model.specs.LegalRun as runs
use Rattle.sm_model.specs.LegalRun.{IsDeed, Fits, Run, restart_deed}
use Rattle.sm_model.specs.Sound.{SoundUp}
use Rattle.laws_cases.specs.Needs.{KeepsNeeded}
use Rattle.laws_drops.specs.Runs.{WasDone, WasGoing}
use Rattle.laws_cases.proofs.Needed.NeedsStay.{deeds_keep}
use Rattle.laws_drops.proofs.Dropping.{drops_are_named}

pub record Does (ds : List Deed) (new : World) : Type 0 where
  pub each : (d : Deed) → Among ds d → WasDone d
  pub known : WasGoing new

none_done : (new : World) → WasGoing new → Does [] new
none_done new k = record { each = λ d m. absurd m; known = k }

one_done : (d : Deed) (new : World) → WasDone d → WasGoing new → Does (d ∷ []) new
one_done d new w k = record { each = each; known = k }
  where
    each : (c : Deed) → Among (d ∷ []) c → WasDone c
    each c (inl e) = subst WasDone (sym e) w
    each c (inr m) = absurd m

pub of_entry : {old new : World} {e : Entry} {sides left : List Side} {ds : List Deed} → Fits old e sides ds new left → WasGoing old → Does ds new
of_entry (runs.done d o a b c i) k = one_done d (up d.new) (inl (subst (λ e. IsDeed e d) (sym b) i)) tt
of_entry (runs.quiet i) k = none_done _ tt
of_entry (runs.failed d disk count o a b i c g) k = none_done (down disk.0 d) (inl (subst (λ e. IsDeed e d) (sym b) i))
of_entry (runs.down_still a b) k = none_done _ k
of_entry (runs.restart_up side a b) k = none_done _ tt
of_entry (runs.restart_before a b) k = none_done _ tt
of_entry (runs.restart_after {d = d} a b) k = one_done d _ k tt
of_entry (runs.restart_failed_up {w = w} disk count a b) k = none_done (down disk.0 (restart_deed w)) (inr (w, refl))
of_entry (runs.restart_failed {d = d} disk count a b) k = none_done (down disk.0 d) k

of_run : (old new : World) (es : List Entry) (sides : List Side) (ds : List Deed) → Run old es sides ds new → WasGoing old → (d : Deed) → Among ds d → WasDone d
of_run old new [] sides ds (a, b, c) k d m = absurd (subst (λ xs. Among xs d) b m)
of_run old new (e ∷ es) sides ds (first, later, left, mid, asked, f, r, q) k d m =
    let does = of_entry f k in both does (λ n. of_run mid new es left later r does.known d n) (among_append first later d (subst (λ xs. Among xs d) q m))
  where
    both : Does first mid → (Among later d → WasDone d) → Among first d ⊎ Among later d → WasDone d
    both does h (inl n) = does.each d n
    both does h (inr n) = h n

pub runs_do_deeds : (start : Up) (es : List Entry) (sides : List Side) (ds : List Deed) (last : World) → Run (up start) es sides ds last → (d : Deed) → Among ds d → WasDone d
runs_do_deeds start es sides ds last r = of_run (up start) last es sides ds r tt

pub needed_kept : (d : Deed) → WasDone d → KeepsNeeded d.old d.new
needed_kept d (inl i) = deeds_keep d.event d i
needed_kept d (inr (w, e)) = subst (λ c. KeepsNeeded c.old c.new) (sym e) (λ v i h n. h)

pub runs_keep_needed : (start : Up) (es : List Entry) (sides : List Side) (ds : List Deed) (last : World) → Run (up start) es sides ds last → (d : Deed) → Among ds d → KeepsNeeded d.old d.new
runs_keep_needed start es sides ds last r d m = needed_kept d (runs_do_deeds start es sides ds last r d m)

-- a restart drops nothing, and nothing is named for it
restart_names_none : (w : Up) (v : ℕ) (i : Ident) → Drops (restart_deed w) v i ↔ NamedFor (restart_deed w) events.Restart v i
unfolding NamedFor
restart_names_none w v i = (λ l. absurd (true≢false (sym l.0 ∙ l.1)), λ m. absurd m)

pub drops_named : (d : Deed) → WasDone d → SoundUp d.old → (v : ℕ) (i : Ident) → Drops d v i ↔ NamedFor d d.event v i
drops_named d (inl h) s v i = drops_are_named d v i s h
drops_named d (inr (w, e)) s v i = subst (λ c. Drops c v i ↔ NamedFor c c.event v i) (sym e) (restart_names_none w v i)

pub runs_drop_named : (start : Up) (es : List Entry) (sides : List Side) (ds : List Deed) (last : World) → Run (up start) es sides ds last →
    (d : Deed) → Among ds d → SoundUp d.old → (v : ℕ) (i : Ident) → Drops d v i ↔ NamedFor d d.event v i
runs_drop_named start es sides ds last r d m = drops_named d (runs_do_deeds start es sides ds last r d m)

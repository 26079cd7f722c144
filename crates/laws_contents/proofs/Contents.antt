-- Along a run each snapshot has the contents of its origin, and each identity is made once.
use Rattle.std.proofs.Common.{◌≡◌, true, List, [], ◌∷◌, ◌++◌, None, refl, sym, ap, subst, append_assoc, append-nil}
use Rattle.std.specs.List.{AllByRecursion}
use Rattle.sm_base.specs.declared.numbers.Ident.{Ident}
use Rattle.sm_base.specs.declared.numbers.Side.{Side}
use Rattle.sm_model.specs.declared.event.Event.{Event}
use Rattle.sm_model.specs.declared.reply.Entry.{Entry}
use Rattle.sm_defs.specs.World.{Up}
use Rattle.sm_model.specs.World.{World, up, down, Deed}
use Rattle.sm_model.specs.Opened.{opened}
use Rattle.sm_model.specs.Origin.{makes, made_by, origin}
use Rattle.sm_model.specs.LegalRun as runs
use Rattle.sm_model.specs.LegalRun.{IsDeed, Fits, Run, restart_deed}
use Rattle.sm_model.specs.Sound.{SoundUp}
use Rattle.laws_contents.specs.Contents.{BeginSound}
use Rattle.laws_copies.proofs.Growing as growing
use Rattle.laws_copies.proofs.Growing.{deed_grown}
use Rattle.laws_cases.proofs.Needed.NeedsStay.{deeds_keep}
use Rattle.laws_copies.proofs.Spent.{reserved_stays}
use Rattle.laws_copies.proofs.Copies.{stays}
use Rattle.laws_copies.proofs.Brings.{Brings, copies, deed_brings}
use Rattle.laws_contents.proofs.Along.{Along, Progress, brought_progress, along_deed, along_opened, along_start, made_unknown}

deed_progress : (e : Event) (d : Deed) → SoundUp d.old → IsDeed e d → Progress d
deed_progress e d s i = brought_progress d (deed_brings e d s i) (deed_grown e d i) (reserved_stays d.old d.new s (deeds_keep e d i))

restart_brings : (w : Up) → Brings (restart_deed w).old (Unit {0}) (restart_deed w).reply (restart_deed w).new
unfolding made_by
restart_brings w = copies (stays w) refl

restart_progress : (w : Up) → Progress (restart_deed w)
restart_progress w = brought_progress (restart_deed w) (restart_brings w) (growing.grown_same w) (λ r t m e z k. k)

-- up, or down with a deed that would go on from a sound world
abbrev pub Ready : Up → List Deed → World → Type 0
Ready start ds (up w) = Along start ds w
Ready start ds (down disk d) = Along start ds d.old × (SoundUp d.old → Progress d)

-- what a deed makes had no origin before it
abbrev pub MadeOnce : Up → List Deed → List Deed → Type 0
MadeOnce start before [] = Unit {0}
MadeOnce start before (d ∷ ds) = ((i : Ident) → makes i d ≡ true → origin start before i ≡ None) × MadeOnce start (before ++ d ∷ []) ds

pub record LeadsOn (start : Up) (before ds : List Deed) (new : World) : Type 0 where
  pub ready : Ready start (before ++ ds) new
  pub once : MadeOnce start before ds

no_deed : (start : Up) (before : List Deed) (new : World) → Ready start before new → LeadsOn start before [] new
no_deed start before new r = record { ready = subst (λ ds. Ready start ds new) (sym (append-nil before)) r; once = tt }

one_deed : (start : Up) (before : List Deed) (d : Deed) → Along start before d.old → Progress d → LeadsOn start before (d ∷ []) (up d.new)
one_deed start before d a p = record { ready = along_deed start before d a p; once = (λ i m. made_unknown start before d i a p m, tt) }

pub of_entry : (start : Up) (before : List Deed) {old new : World} {e : Entry} {sides left : List Side} {ds : List Deed} → Fits old e sides ds new left → Ready start before old → BeginSound ds → LeadsOn start before ds new
of_entry start before (runs.done {e = e} d o a b c i) r h = one_deed start before d (subst (Along start before) (sym o) r) (deed_progress e.event d h.0 i)
of_entry start before (runs.quiet i) r h = no_deed start before _ r
of_entry start before (runs.failed {e = e} d disk count o a b i c g) r h = no_deed start before (down disk.0 d) (subst (Along start before) (sym o) r, λ s. deed_progress e.event d s i)
of_entry start before (runs.down_still a b) r h = no_deed start before _ r
of_entry start before (runs.restart_up {w = w} side a b) r h = no_deed start before (up (opened w)) (along_opened start before w r)
of_entry start before (runs.restart_before {d = d} a b) r h = no_deed start before (up (opened d.old)) (along_opened start before d.old r.0)
of_entry start before (runs.restart_after {d = d} a b) r h =
    let g = one_deed start before d r.0 (r.1 h.0) in record { ready = along_opened start (before ++ d ∷ []) d.new g.ready; once = g.once }
of_entry start before (runs.restart_failed_up {w = w} disk count a b) r h = no_deed start before (down disk.0 (restart_deed w)) (r, λ s. restart_progress w)
of_entry start before (runs.restart_failed {d = d} disk count a b) r h = no_deed start before (down disk.0 d) r

pub each_left : {X : Type 0} (P : X → Type 0) (xs ys : List X) → AllByRecursion P (xs ++ ys) → AllByRecursion P xs × AllByRecursion P ys
each_left P [] ys h = (tt, h)
each_left P (x ∷ xs) ys h = let q = each_left P xs ys h.1 in ((h.0, q.0), q.1)

once_joined : (start : Up) (before ds es : List Deed) → MadeOnce start before ds → MadeOnce start (before ++ ds) es → MadeOnce start before (ds ++ es)
once_joined start before [] es h k = subst (λ xs. MadeOnce start xs es) (append-nil before) k
once_joined start before (d ∷ ds) es h k = (h.0, once_joined start (before ++ d ∷ []) ds es h.1 (subst (λ xs. MadeOnce start xs es) (sym (append_assoc before (d ∷ []) ds)) k))

of_run : (start : Up) (before : List Deed) (old new : World) (es : List Entry) (sides : List Side) (ds : List Deed) → Run old es sides ds new → Ready start before old → BeginSound ds → LeadsOn start before ds new
of_run start before old new [] sides ds (a, b, c) r h = subst (λ xs. LeadsOn start before xs new) (sym b) (subst (LeadsOn start before []) (sym c) (no_deed start before old r))
of_run start before old new (e ∷ es) sides ds (first, later, left, mid, asked, f, k, q) r h =
    let parts = each_left (λ d. SoundUp d.old) first later (subst BeginSound q h) in
    let one = of_entry start before f r parts.0 in
    let rest = of_run start (before ++ first) mid new es left later k one.ready parts.1 in
    subst (λ xs. LeadsOn start before xs new) (sym q) (record {
      ready = subst (λ xs. Ready start xs new) (append_assoc before first later) rest.ready;
      once = once_joined start before first later one.once rest.once;
    })

once_at : (start : Up) (before earlier : List Deed) (d : Deed) (later : List Deed) (i : Ident) → MadeOnce start before (earlier ++ d ∷ later) → makes i d ≡ true → origin start (before ++ earlier) i ≡ None
once_at start before [] d later i h m = subst (λ xs. origin start xs i ≡ None) (sym (append-nil before)) (h.0 i m)
once_at start before (c ∷ earlier) d later i h m = subst (λ xs. origin start xs i ≡ None) (append_assoc before (c ∷ []) earlier) (once_at start (before ++ c ∷ []) earlier d later i h.1 m)

pub made_once : (start : Up) (es : List Entry) (sides : List Side) (earlier : List Deed) (d : Deed) (later : List Deed) (last : World) (i : Ident) →
    SoundUp start → Run (up start) es sides (earlier ++ d ∷ later) last → BeginSound (earlier ++ d ∷ later) → makes i d ≡ true → origin start earlier i ≡ None
made_once start es sides earlier d later last i s r h m = once_at start [] earlier d later i (of_run start [] (up start) last es sides (earlier ++ d ∷ later) r (along_start start s) h).once m

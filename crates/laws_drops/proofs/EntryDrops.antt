-- What an entry drops, with a deed or without.
use Rattle.std.proofs.Common.{◌≡◌, ◌↔◌, ℕ, true, false, List, [], ◌∷◌, refl, sym, ap, subst, ◌∙◌, inl, inr, true≢false}
use Rattle.sm_base.specs.declared.numbers.Ident.{Ident}
use Rattle.sm_base.specs.declared.numbers.Side.{Side}
use Rattle.sm_defs.specs.Words.{Among}
use Rattle.sm_defs.specs.Volume.{has}
use Rattle.sm_defs.specs.World.{Up, volume_at}
use Rattle.sm_model.specs.declared.reply.Entry.{Entry}
use Rattle.sm_model.specs.World.{World, up, down, Deed}
use Rattle.sm_model.specs.Drops.{Drops, NamedFor}
use Rattle.sm_model.specs.LegalRun as runs
use Rattle.sm_model.specs.LegalRun.{IsDeed, Fits}
use Rattle.sm_model.specs.Opened.{opened}
use Rattle.sm_model.specs.Sound.{SoundUp, Sound}
use Rattle.laws_cases.specs.Needs.{KeepsNeeded}
use Rattle.laws_drops.specs.Runs.{WasGoing, known_world, Loses, NamedForSome}
use Rattle.laws_cases.proofs.Needed.NeedsStay.{restarts_keep_snapshots}
use Rattle.laws_drops.proofs.Runs.{of_entry, needed_kept, drops_named}

pub entries_go_on : (old new : World) (e : Entry) (sides left : List Side) (deeds : List Deed) → WasGoing old → Fits old e sides deeds new left → WasGoing new
entries_go_on old new e sides left deeds k f = (of_entry f k).known

-- ---- without a deed

Same : World → World → Type 0
Same old new = (v : ℕ) → (volume_at (known_world new) v).snapshots ≡ (volume_at (known_world old) v).snapshots

failed_same : (disk : ℕ) (d : Deed) (w : Up) → d.old ≡ w → Same (up w) (down disk d)
unfolding Same
failed_same disk d w o v = ap (λ u. (volume_at u v).snapshots) o

without_deed : {old new : World} {e : Entry} {sides left : List Side} {ds : List Deed} → Fits old e sides ds new left → ds ≡ [] → Same old new
unfolding Same
without_deed (runs.done d o a b c i) n v = absurd (cc)
without_deed (runs.quiet i) n v = refl
without_deed (runs.failed {w = w} d disk count o a b i c g) n v = failed_same disk.0 d w o v
without_deed (runs.down_still a b) n v = refl
without_deed (runs.restart_up {w = w} side a b) n v = restarts_keep_snapshots w v
without_deed (runs.restart_before {d = d} a b) n v = restarts_keep_snapshots d.old v
without_deed (runs.restart_after {d = d} a b) n v = absurd (cc)
without_deed (runs.restart_failed_up disk count a b) n v = refl
without_deed (runs.restart_failed disk count a b) n v = refl

pub no_deed_keeps : (old new : World) (e : Entry) (sides left : List Side) → Fits old e sides [] new left → (v : ℕ) → (volume_at (known_world new) v).snapshots ≡ (volume_at (known_world old) v).snapshots
unfolding Same
no_deed_keeps old new e sides left f = without_deed f refl

-- ---- with one, or without

none_lost : (old new : World) (v : ℕ) (i : Ident) → Same old new → Loses old new v i ↔ NamedForSome [] v i
unfolding Same
none_lost old new v i h = (λ l. absurd (true≢false (sym l.0 ∙ (ap (λ ss. has ss i) (sym (h v)) ∙ l.1))), λ m. absurd m.1)

one_lost : (old new : World) (d : Deed) (v : ℕ) (i : Ident) → known_world old ≡ d.old → (volume_at (known_world new) v).snapshots ≡ (volume_at d.new v).snapshots →
    Drops d v i ↔ NamedFor d d.event v i → Loses old new v i ↔ NamedForSome (d ∷ []) v i
one_lost old new d v i o n h = (to, from)
  where
    to : Loses old new v i → NamedForSome (d ∷ []) v i
    to l = (d, inl refl, h.0 (subst (λ w. has (volume_at w v).snapshots i ≡ true) o l.0, subst (λ ss. has ss i ≡ false) n l.1))

    named : (c : Deed) → Among (d ∷ []) c → NamedFor c c.event v i → NamedFor d d.event v i
    named c (inl e) m = subst (λ b. NamedFor b b.event v i) e m
    named c (inr m) k = absurd m

    from : NamedForSome (d ∷ []) v i → Loses old new v i
    from (c, m, k) = let l = h.1 (named c m k) in (subst (λ w. has (volume_at w v).snapshots i ≡ true) (sym o) l.0, subst (λ ss. has ss i ≡ false) (sym n) l.1)

pub entries_drop_named : (old new : World) (e : Entry) (sides left : List Side) (deeds : List Deed) → Sound old → WasGoing old → Fits old e sides deeds new left →
    (v : ℕ) (i : Ident) → Loses old new v i ↔ NamedForSome deeds v i
unfolding Same
entries_drop_named old new e sides left deeds s k (runs.done {w = w} d o a b c f) v i =
    one_lost (up w) (up d.new) d v i (sym o) refl (drops_named d (inl (subst (λ e. IsDeed e d) (sym b) f)) (subst SoundUp (sym o) s) v i)
entries_drop_named old new e sides left deeds s k (runs.quiet {w = w} f) v i = none_lost (up w) (up w) v i (λ u. refl)
entries_drop_named old new e sides left deeds s k (runs.failed {w = w} d disk count o a b f c g) v i = none_lost (up w) (down disk.0 d) v i (failed_same disk.0 d w o)
entries_drop_named old new e sides left deeds s k (runs.down_still {disk = disk} {d = d} a b) v i = none_lost (down disk d) (down disk d) v i (λ u. refl)
entries_drop_named old new e sides left deeds s k (runs.restart_up {w = w} side a b) v i = none_lost (up w) (up (opened w)) v i (restarts_keep_snapshots w)
entries_drop_named old new e sides left deeds s k (runs.restart_before {disk = disk} {d = d} a b) v i = none_lost (down disk d) (up (opened d.old)) v i (restarts_keep_snapshots d.old)
entries_drop_named old new e sides left deeds s k (runs.restart_after {disk = disk} {d = d} a b) v i =
    one_lost (down disk d) (up (opened d.new)) d v i refl (restarts_keep_snapshots d.new v) (drops_named d k s.0 v i)
entries_drop_named old new e sides left deeds s k (runs.restart_failed_up {w = w} disk count a b) v i = none_lost (up w) (down disk.0 (runs.restart_deed w)) v i (λ u. refl)
entries_drop_named old new e sides left deeds s k (runs.restart_failed {old = n} {d = d} disk count a b) v i = none_lost (down n d) (down disk.0 d) v i (λ u. refl)

-- ---- what is needed stays

all_kept : (w u : Up) → ((v : ℕ) → (volume_at u v).snapshots ≡ (volume_at w v).snapshots) → KeepsNeeded w u
all_kept w u h v i g n = subst (λ ss. has ss i ≡ true) (sym (h v)) g

pub entries_keep_needed : (old new : World) (e : Entry) (sides left : List Side) (deeds : List Deed) → WasGoing old → Fits old e sides deeds new left → KeepsNeeded (known_world old) (known_world new)
entries_keep_needed old new e sides left deeds k (runs.done {w = w} d o a b c f) = subst (λ x. KeepsNeeded x d.new) o (needed_kept d (inl (subst (λ e. IsDeed e d) (sym b) f)))
entries_keep_needed old new e sides left deeds k (runs.quiet f) = λ v i g n. g
entries_keep_needed old new e sides left deeds k (runs.failed {w = w} d disk count o a b f c g) = all_kept w d.old (λ v. ap (λ u. (volume_at u v).snapshots) o)
entries_keep_needed old new e sides left deeds k (runs.down_still a b) = λ v i g n. g
entries_keep_needed old new e sides left deeds k (runs.restart_up {w = w} side a b) = all_kept w (opened w) (restarts_keep_snapshots w)
entries_keep_needed old new e sides left deeds k (runs.restart_before {d = d} a b) = all_kept d.old (opened d.old) (restarts_keep_snapshots d.old)
entries_keep_needed old new e sides left deeds k (runs.restart_after {d = d} a b) = λ v i g n. subst (λ ss. has ss i ≡ true) (sym (restarts_keep_snapshots d.new v)) (needed_kept d k v i g n)
entries_keep_needed old new e sides left deeds k (runs.restart_failed_up disk count a b) = λ v i g n. g
entries_keep_needed old new e sides left deeds k (runs.restart_failed disk count a b) = λ v i g n. g

-- No answer and no step drops what is needed.
use Rattle.std.proofs.Common.{◌≡◌, ◌⊎◌, ◌<◌, ◌≤◌, ℕ, Bool, true, false, cond, List, [], ◌∷◌, ◌++◌, map, length, Option, Some, None, Ok, refl, sym, ap, subst, ◌∙◌, inl, inr}
use Rattle.std.proofs.lemmas.Bool.{and_left, and_right, not_from_true, both_ways, false_from_ne_true}
use Rattle.sm_base.specs.declared.numbers.Ident.{Ident}
use Rattle.sm_model.specs.declared.event.Event.{Event}
use Rattle.sm_defs.specs.Classes.{class_of}
use Rattle.sm_defs.specs.Words.{Among, same_ident, up_to}
use Rattle.sm_defs.specs.Volume.{Volume, Snapshot, no_volume, has, without, past}
use Rattle.sm_defs.specs.Relationship.{Policy, is_mirror}
use Rattle.sm_defs.specs.Retention.{retained}
use Rattle.sm_defs.specs.Needed.{needed, holder}
use Rattle.sm_defs.specs.World.{Up, volume_at, with_volume}
use Rattle.sm_model.specs.World.{Deed}
use Rattle.sm_model.specs.Answers.{Reached, Told}
use Rattle.sm_model.specs.Answer.{answer}
use Rattle.sm_model.specs.OfTransfers.{first_held, Holding}
use Rattle.sm_model.specs.Opened.{opened}
use Rattle.sm_model.specs.Running.{Running, IsRunning}
use Rattle.sm_model.specs.Steps.{Effect, reverted, arrived, published}
use Rattle.sm_model.specs.Due.{StepKind, revert, finish, settle, prepare, prune, publish, checkpoint, ship, IsEffect, IsStep, by_transfer, by_tidy, is_tidied, goes, held_reason}
use Rattle.sm_model.specs.LegalRun.{IsStepDeed, IsDeed}
use Rattle.laws_transfer.proofs.Lists.{copy_from_has, has_from_copy}
use Rattle.laws_transfer.proofs.Kept.{keeps_needed}
use Rattle.laws_cases.specs.Needs.{KeepsNeeded}
use Rattle.laws_cases.proofs.Answers.Walk.{going}
use Rattle.laws_cases.proofs.Answers.Changes as answers
use Rattle.laws_cases.proofs.Answers.Changes.{IsChange, IsAnswer, Is}
use Rattle.laws_cases.proofs.Answers.OfAnswer.{of_answer}
use Rattle.laws_cases.proofs.Answers.Deeds.{IsAnswered, from_answer, deed_cases}
use Rattle.laws_cases.proofs.Needed.Needs.{keeps_set, push_within, beyond, within_or_beyond, has_within, mapped_at, mapped_length, without_keeps, split_at, no_holder, none_held}
use Rattle.sm_defs.specs.Operations as operations
use Rattle.sm_defs.proofs.Idents.{same_is}
use Rattle.sm_defs.proofs.Members.{among_left}

same_volumes : (w u : Up) → u.volumes ≡ w.volumes → KeepsNeeded w u
same_volumes w u e v i h n = subst (λ vs. has (Rattle.std.specs.Prelude.slice_index_or vs v no_volume).snapshots i ≡ true) (sym e) h

-- a volume that keeps all its snapshots
all_stay : (w : Up) (k : ℕ) (v u : Volume) → volume_at w k ≡ v → u.snapshots ≡ v.snapshots → KeepsNeeded w (with_volume w k u)
all_stay w k v u e f = keeps_set w k u (λ i h n. subst (λ ss. has ss i ≡ true) (sym f) (subst (λ y. has y.snapshots i ≡ true) e h))

-- a volume that gains one
one_more : (w : Up) (k : ℕ) (v u : Volume) (s : Snapshot) → volume_at w k ≡ v → u.snapshots ≡ v.snapshots ++ s ∷ [] → KeepsNeeded w (with_volume w k u)
one_more w k v u s e f = keeps_set w k u (λ i h n. let (t, m, q) = copy_from_has v.snapshots i (subst (λ y. has y.snapshots i ≡ true) e h) in
    subst (λ ss. has ss i ≡ true) (sym f) (has_from_copy (v.snapshots ++ s ∷ []) i (t, among_left v.snapshots (s ∷ []) t m, q)))

of_change : (w u : Up) (ev : Event) → IsChange w ev u → KeepsNeeded w u
of_change w u ev (answers.elsewhere other e f g j) = same_volumes w other e
of_change w u ev (answers.creates path disk kind logical physical) = λ v i h n.
    subst (λ y. has y.snapshots i ≡ true) (sym (push_within w.volumes _ no_volume v (has_within w v i h))) h
of_change w u ev (answers.writes v a block fill) = all_stay w v.at v.item _ a.at refl
of_change w u ev (answers.drops path name so v is a s named free) = keeps_set w v.at _ (λ j h n. without_keeps (λ t. same_ident t.ident s.ident) v.item j (subst (λ y. has y.snapshots j ≡ true) a.at h)
    (λ t e. false_from_ne_true _ (λ z. both_ways (needed w v.at j) (subst (λ y. needed w v.at y ≡ false) (sym (same_is t.ident s.ident z) ∙ e) (no_holder w v.at s.ident free)) n)))
of_change w u ev (answers.points v a) = all_stay w v.at v.item _ a.at refl
of_change w u ev (answers.breaks v a) = all_stay w v.at v.item _ a.at refl
of_change w u ev (answers.relates s d p) = λ v i h n. h
of_change w u ev (answers.changes r a q f) = λ v i h n. h
of_change w u ev (answers.halves r a q f) = λ v i h n. h
of_change w u ev (answers.starts r a q f) = λ v i h n. h

of_kind : (w u : Up) (ev : Event) (t : Told) → IsAnswer w ev t u → KeepsNeeded w u
of_kind w u ev t (answers.plain p c) = of_change w u ev c
of_kind w u ev t (answers.snaps v a p is path name label so) = one_more w v.at v.item _ _ a.at refl

pub answers_keep : (w : Up) (e : Event) (reached : Reached) → answer w e ≡ Some (Ok reached) → KeepsNeeded w reached.world
answers_keep w e reached i = of_kind w reached.world e reached.reply (from_answer (Is w e) (answer w e) reached (of_answer w e) i)

-- ---- steps

reason_none : (o : Option Holding) → held_reason o None ≡ None → o ≡ None
reason_none None e = refl
reason_none (Some h) e = absurd (cc)

reverted_keeps : (w : Up) (d : ℕ) (b : Ident) (ss : List Snapshot) (m : Bool) → cond m (held_reason (first_held (holder w d) (past b ss)) None) None ≡ None →
    (i : Ident) → has ss i ≡ true → needed w d i ≡ true → has (cond m (up_to (λ s. same_ident s.ident b) ss) ss) i ≡ true
reverted_keeps w d b ss false e i h n = h
reverted_keeps w d b ss true e i h n = let (s, m, q) = copy_from_has ss i h in go s q (split_at (λ t. same_ident t.ident b) ss s m)
  where
    go : (s : Snapshot) → s.ident ≡ i → Among (up_to (λ t. same_ident t.ident b) ss) s ⊎ Among (past b ss) s → has (up_to (λ t. same_ident t.ident b) ss) i ≡ true
    go s q (inl k) = has_from_copy _ i (s, k, q)
    go s q (inr k) = absurd (both_ways (needed w d i) (subst (λ y. needed w d y ≡ false) q (no_holder w d s.ident (none_held (holder w d) (past b ss) (reason_none _ e) s k))) n)

published_keeps : (w : Up) (d : ℕ) (p : Policy) (ss : List Snapshot) (a : Snapshot) (m : Bool) → (i : Ident) → has ss i ≡ true → needed w d i ≡ true →
    has (cond m (ss ++ a ∷ []) (retained p.rules (class_of p) (needed w d) (ss ++ a ∷ []))) i ≡ true
published_keeps w d p ss a true i h n = let (s, m, q) = copy_from_has ss i h in has_from_copy _ i (s, among_left ss (a ∷ []) s m, q)
published_keeps w d p ss a false i h n = let (s, m, q) = copy_from_has ss i h in
    has_from_copy _ i (s, keeps_needed p.rules (class_of p) (needed w d) (ss ++ a ∷ []) s (among_left ss (a ∷ []) s m) (subst (λ y. needed w d y ≡ true) (sym q) n), q)

abbrev Keeps : Up → Effect → Type 0
Keeps w e = KeepsNeeded w e.world

at_destination : (w : Up) (k : ℕ) (x : Running) (u : Volume) → IsRunning w k x → ((i : Ident) → has x.destination.snapshots i ≡ true → needed w x.relation.destination i ≡ true → has u.snapshots i ≡ true) →
    KeepsNeeded w (with_volume w x.relation.destination u)
at_destination w k x u r h = keeps_set w x.relation.destination u (λ i g. h i (subst (λ y. has y.snapshots i ≡ true) (sym (ap (λ y. y.destination) r.is)) g))

of_effect : (w : Up) (k : ℕ) (x : Running) (kind : StepKind) (e : Effect) → IsRunning w k x → IsEffect w k x kind e → Keeps w e
of_effect w k x (revert base) e r i = subst (Keeps w) (sym i) (going (Keeps w) w k x _ _ (λ _ v j h n. h)
    (λ o. at_destination w k x (reverted x base) r (reverted_keeps w x.relation.destination base.ident x.destination.snapshots (is_mirror x.policy.kind) o)))
of_effect w k x (finish base) e r i = subst (Keeps w) (sym i) (λ v j h n. h)
of_effect w k x (settle j later) e r i = subst (Keeps w) (sym i) (λ v j h n. h)
of_effect w k x (prepare j) e r i = subst (Keeps w) (sym i) (going (Keeps w) w k x _ _ (λ _ v j h n. h)
    (λ _. one_more w x.relation.source x.source _ _ (sym (ap (λ y. y.source) r.is)) refl))
of_effect w k x prune e r i = subst (Keeps w) (sym i) (going (Keeps w) w k x _ _ (λ _ v j h n. h)
    (λ _. at_destination w k x (without (goes w x) x.destination) r (λ i h n. without_keeps (goes w x) x.destination i h (λ s q. and_left _ _ (not_from_true _ (subst (λ y. needed w x.relation.destination y ≡ true) (sym q) n))))))
of_effect w k x (publish leg) e r i = subst (Keeps w) (sym i) (going (Keeps w) w k x _ _ (λ _ v j h n. h)
    (λ _. at_destination w k x (published w x leg) r (published_keeps w x.relation.destination x.policy x.destination.snapshots (arrived x leg) (is_mirror x.policy.kind))))
of_effect w k x checkpoint e r i = subst (Keeps w) (sym i) (λ v j h n. h)
of_effect w k x (ship leg) e r (n, m, i) = subst (Keeps w) (sym i) (going (Keeps w) w k x _ _ (λ _ v j h n. h) (λ _ v j h n. h))

pub steps_keep : (w : Up) (e : Effect) → IsStep w e → KeepsNeeded w e.world
steps_keep w e (by_transfer k x kind r d i) = of_effect w k x kind e r i
steps_keep w e (by_tidy k d i) = subst (Keeps w) (sym i) (keeps_set w k (without (is_tidied w k) (volume_at w k)) (λ j h n. without_keeps (is_tidied w k) (volume_at w k) j h
    (λ s q. and_right _ _ (not_from_true _ (subst (λ y. needed w k y ≡ true) (sym q) n)))))

pub deeds_keep : (e : Event) (d : Deed) → IsDeed e d → KeepsNeeded d.old d.new
deeds_keep e d i = go (deed_cases e d i)
  where
    go : IsStepDeed d ⊎ IsAnswered e d → KeepsNeeded d.old d.new
    go (inl s) = steps_keep d.old _ s
    go (inr a) = of_kind d.old d.new e a.tells a.is

pub restarts_keep : (w : Up) (v : ℕ) (i : Ident) → has (volume_at w v).snapshots i ≡ true → has (volume_at (opened w) v).snapshots i ≡ true
restarts_keep w v i h = subst (λ u. has u.snapshots i ≡ true) (sym (mapped_at operations.opened w.volumes no_volume v (has_within w v i h))) h

pub restarts_keep_snapshots : (w : Up) (v : ℕ) → (volume_at (opened w) v).snapshots ≡ (volume_at w v).snapshots
restarts_keep_snapshots w v = go (within_or_beyond v (length w.volumes))
  where
    go : (v < length w.volumes) ⊎ (length w.volumes ≤ v) → (volume_at (opened w) v).snapshots ≡ (volume_at w v).snapshots
    go (inl h) = ap (λ u. u.snapshots) (mapped_at operations.opened w.volumes no_volume v h)
    go (inr h) = ap (λ u. u.snapshots) (beyond (map operations.opened w.volumes) no_volume v (rw (mapped_length operations.opened w.volumes) h) ∙ sym (beyond w.volumes no_volume v h))

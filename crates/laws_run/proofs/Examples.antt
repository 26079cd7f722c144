-- Courses to a running transfer of each kind.
use Rattle.std.proofs.Common.{◌≡◌, ◌<◌, ℕ, List, [], ◌∷◌, ◌++◌, length, Option, Some, None, refl, sym, ap, subst, arith}
use Rattle.std.specs.List.{AllByRecursion}
use Rattle.std.specs.Prelude.{codes, true, slice_index_or, false}
use Rattle.sm_base.specs.declared.numbers.Kind.TheVariants.{Rw, Dp}
use Rattle.sm_base.specs.declared.numbers.PolicyKind.{PolicyKind}
use Rattle.sm_base.specs.declared.numbers.PolicyKind.TheVariants.{AsyncMirror, Vault}
use Rattle.sm_base.specs.declared.numbers.TransferKind.{TransferKind}
use Rattle.sm_base.specs.declared.numbers.TransferKind.TheVariants.{Initialize, Update, Resync}
use Rattle.sm_base.specs.declared.refusal.Reason.{Reason}
use Rattle.sm_defs.specs.Relationship.{Relationship, Transfer}
use Rattle.sm_defs.specs.World.{Up, empty_world, no_relation, policy_at}
use Rattle.sm_model.specs.declared.event.Event.{Event}
use Rattle.sm_model.specs.declared.event.Event.TheVariants as events
use Rattle.sm_defs.specs.Image as images
use Rattle.sm_model.specs.Answers as answers
use Rattle.sm_model.specs.Due as due
use Rattle.sm_model.specs.OfRelations as related
use Rattle.sm_model.specs.OfTransfers as transfers
use Rattle.sm_defs.specs.May.{refused}
use Rattle.sm_model.specs.Answers.{and_then, refused_if, allowed, some_or}
use Rattle.sm_model.specs.Answer.{answer}
use Rattle.sm_model.specs.OfTransfers.{resume_or_start}
use Rattle.sm_model.specs.Running.{Running, running_in, IsRunning}
use Rattle.sm_model.specs.InRange.{IsGiven, IsCreation, IsSnap, IsRuleGiven}
use Rattle.sm_model.specs.Sound.{SoundUp}
use Rattle.laws_run.proofs.Empty.{empty_sound}
use Rattle.laws_run.proofs.Entries.{all_joined}
use Rattle.laws_run.proofs.Courses.{course, course_sound}

kind_if : Transfer → Option Reason → Option TransferKind
kind_if t None = Some t.kind
kind_if t (Some reason) = None

kind_of : Option Transfer → Option TransferKind
kind_of None = None
kind_of (Some t) = kind_if t t.stopped

-- the kind of the first relationship's transfer, if it runs
first_kind : List Relationship → Option TransferKind
first_kind [] = None
first_kind (r ∷ rs) = kind_of r.transfer

disks : List ℕ
disks = 0 ∷ 1000000000 ∷ 1000000000 ∷ []

to_initialize : List Event
to_initialize =
    events.CreateVolume (codes "s:a") (record { 0 = 1 }) Rw 1 4 ∷ events.CreateVolume (codes "s:b") (record { 0 = 2 }) Dp 1 4 ∷ events.CreatePolicy (codes "p") AsyncMirror ∷
    events.Relate (codes "s:a") (codes "s:b") (codes "p") ∷ events.Initialize (codes "s:b") ∷ []

work : Event
work = events.Work true

-- the first is prepared, pruned for, published and settled; then a further one begins
to_update : List Event
to_update = to_initialize ++ work ∷ work ∷ work ∷ work ∷ work ∷ events.Update (codes "s:b") ∷ []

to_resync : List Event
to_resync = to_initialize ++ work ∷ work ∷ work ∷ work ∷ work ∷ events.Break (codes "s:b") ∷ events.Resync (codes "s:b") ∷ []

-- a vault sends what has a rule's label
to_vault : List Event
to_vault =
    events.CreateVolume (codes "s:a") (record { 0 = 1 }) Rw 1 4 ∷ events.CreateVolume (codes "s:b") (record { 0 = 2 }) Dp 1 4 ∷ events.CreatePolicy (codes "p") Vault ∷
    events.AddRule (codes "p") (codes "d") 2 false ∷ events.Relate (codes "s:a") (codes "s:b") (codes "p") ∷ events.Snap (codes "s:a") (codes "n") (Some (codes "d")) ∷
    events.Initialize (codes "s:b") ∷ []

to_vault_update : List Event
to_vault_update = to_vault ++ work ∷ work ∷ work ∷ work ∷ work ∷ events.Snap (codes "s:a") (codes "m") (Some (codes "d")) ∷ events.Update (codes "s:b") ∷ []

to_vault_resync : List Event
to_vault_resync = to_vault ++ work ∷ work ∷ work ∷ work ∷ work ∷ events.Break (codes "s:b") ∷ events.Resync (codes "s:b") ∷ []

first_policy : Up → List Relationship → PolicyKind
first_policy w [] = AsyncMirror
first_policy w (r ∷ rs) = (policy_at w r.policy).kind

initializes : first_kind (course (empty_world disks) to_initialize).relations ≡ Some Initialize
unfolding first_kind kind_of kind_if first_policy disks work to_initialize answer and_then refused_if allowed refused some_or resume_or_start answers.target_named related.already transfers.refused_rule answers.whether◌then◌otherwise◌ due.unless images.hole transfers.held_downstream
initializes = refl

initializes_by : first_policy (course (empty_world disks) to_initialize) (course (empty_world disks) to_initialize).relations ≡ AsyncMirror
unfolding first_kind kind_of kind_if first_policy disks work to_initialize answer and_then refused_if allowed refused some_or resume_or_start answers.target_named related.already transfers.refused_rule answers.whether◌then◌otherwise◌ due.unless images.hole transfers.held_downstream
initializes_by = refl

updates : first_kind (course (empty_world disks) to_update).relations ≡ Some Update
unfolding first_kind kind_of kind_if first_policy disks work to_initialize to_update answer and_then refused_if allowed refused some_or resume_or_start answers.target_named related.already transfers.refused_rule answers.whether◌then◌otherwise◌ due.unless images.hole transfers.held_downstream
updates = refl

updates_by : first_policy (course (empty_world disks) to_update) (course (empty_world disks) to_update).relations ≡ AsyncMirror
unfolding first_kind kind_of kind_if first_policy disks work to_initialize to_update answer and_then refused_if allowed refused some_or resume_or_start answers.target_named related.already transfers.refused_rule answers.whether◌then◌otherwise◌ due.unless images.hole transfers.held_downstream
updates_by = refl

resyncs : first_kind (course (empty_world disks) to_resync).relations ≡ Some Resync
unfolding first_kind kind_of kind_if first_policy disks work to_initialize to_resync answer and_then refused_if allowed refused some_or resume_or_start answers.target_named related.already transfers.refused_rule answers.whether◌then◌otherwise◌ due.unless images.hole transfers.held_downstream
resyncs = refl

resyncs_by : first_policy (course (empty_world disks) to_resync) (course (empty_world disks) to_resync).relations ≡ AsyncMirror
unfolding first_kind kind_of kind_if first_policy disks work to_initialize to_resync answer and_then refused_if allowed refused some_or resume_or_start answers.target_named related.already transfers.refused_rule answers.whether◌then◌otherwise◌ due.unless images.hole transfers.held_downstream
resyncs_by = refl

vault_initializes : first_kind (course (empty_world disks) to_vault).relations ≡ Some Initialize
unfolding first_kind kind_of kind_if first_policy disks work to_vault answer and_then refused_if allowed refused some_or resume_or_start answers.target_named related.already transfers.refused_rule answers.whether◌then◌otherwise◌ due.unless images.hole transfers.held_downstream
vault_initializes = refl

vault_initializes_by : first_policy (course (empty_world disks) to_vault) (course (empty_world disks) to_vault).relations ≡ Vault
unfolding first_kind kind_of kind_if first_policy disks work to_vault answer and_then refused_if allowed refused some_or resume_or_start answers.target_named related.already transfers.refused_rule answers.whether◌then◌otherwise◌ due.unless images.hole transfers.held_downstream
vault_initializes_by = refl

vault_updates : first_kind (course (empty_world disks) to_vault_update).relations ≡ Some Update
unfolding first_kind kind_of kind_if first_policy disks work to_vault to_vault_update answer and_then refused_if allowed refused some_or resume_or_start answers.target_named related.already transfers.refused_rule answers.whether◌then◌otherwise◌ due.unless images.hole transfers.held_downstream
vault_updates = refl

vault_updates_by : first_policy (course (empty_world disks) to_vault_update) (course (empty_world disks) to_vault_update).relations ≡ Vault
unfolding first_kind kind_of kind_if first_policy disks work to_vault to_vault_update answer and_then refused_if allowed refused some_or resume_or_start answers.target_named related.already transfers.refused_rule answers.whether◌then◌otherwise◌ due.unless images.hole transfers.held_downstream
vault_updates_by = refl

vault_resyncs : first_kind (course (empty_world disks) to_vault_resync).relations ≡ Some Resync
unfolding first_kind kind_of kind_if first_policy disks work to_vault to_vault_resync answer and_then refused_if allowed refused some_or resume_or_start answers.target_named related.already transfers.refused_rule answers.whether◌then◌otherwise◌ due.unless images.hole transfers.held_downstream
vault_resyncs = refl

vault_resyncs_by : first_policy (course (empty_world disks) to_vault_resync) (course (empty_world disks) to_vault_resync).relations ≡ Vault
unfolding first_kind kind_of kind_if first_policy disks work to_vault to_vault_resync answer and_then refused_if allowed refused some_or resume_or_start answers.target_named related.already transfers.refused_rule answers.whether◌then◌otherwise◌ due.unless images.hole transfers.held_downstream
vault_resyncs_by = refl

-- ---- they are courses that can be asked for

first_given : IsCreation (codes "s:a") 1 1 4
first_given = record { path_given = refl; disk_given = omega arith; some_blocks = omega arith; few_blocks = omega arith; room = omega arith; few_places = omega arith }

second_given : IsCreation (codes "s:b") 2 1 4
second_given = record { path_given = refl; disk_given = omega arith; some_blocks = omega arith; few_blocks = omega arith; room = omega arith; few_places = omega arith }

to_initialize_given : AllByRecursion IsGiven to_initialize
unfolding to_initialize IsGiven
to_initialize_given = (first_given, (second_given, (refl, (record { source_given = refl; destination_given = refl; policy_given = refl }, (refl, tt)))))

to_update_given : AllByRecursion IsGiven to_update
unfolding to_update work IsGiven
to_update_given = all_joined IsGiven to_initialize (work ∷ work ∷ work ∷ work ∷ work ∷ events.Update (codes "s:b") ∷ []) to_initialize_given (tt, (tt, (tt, (tt, (tt, (refl, tt))))))

to_resync_given : AllByRecursion IsGiven to_resync
unfolding to_resync work IsGiven
to_resync_given = all_joined IsGiven to_initialize (work ∷ work ∷ work ∷ work ∷ work ∷ events.Break (codes "s:b") ∷ events.Resync (codes "s:b") ∷ []) to_initialize_given (tt, (tt, (tt, (tt, (tt, (refl, (refl, tt)))))))

snap_given : IsSnap (codes "s:a") (codes "n") (Some (codes "d"))
snap_given = record { path_given = refl; name_given = refl; clients = refl; label_given = refl }

later_snap_given : IsSnap (codes "s:a") (codes "m") (Some (codes "d"))
later_snap_given = record { path_given = refl; name_given = refl; clients = refl; label_given = refl }

rule_given : IsRuleGiven (codes "p") (codes "d") 2
rule_given = record { policy_given = refl; label_given = refl; keep_given = omega arith }

to_vault_given : AllByRecursion IsGiven to_vault
unfolding to_vault IsGiven
to_vault_given = (first_given, (second_given, (refl, (rule_given, (record { source_given = refl; destination_given = refl; policy_given = refl }, (snap_given, (refl, tt)))))))

to_vault_update_given : AllByRecursion IsGiven to_vault_update
unfolding to_vault_update work IsGiven
to_vault_update_given =
    all_joined IsGiven to_vault (work ∷ work ∷ work ∷ work ∷ work ∷ events.Snap (codes "s:a") (codes "m") (Some (codes "d")) ∷ events.Update (codes "s:b") ∷ []) to_vault_given (tt, (tt, (tt, (tt, (tt, (later_snap_given, (refl, tt)))))))

to_vault_resync_given : AllByRecursion IsGiven to_vault_resync
unfolding to_vault_resync work IsGiven
to_vault_resync_given = all_joined IsGiven to_vault (work ∷ work ∷ work ∷ work ∷ work ∷ events.Break (codes "s:b") ∷ events.Resync (codes "s:b") ∷ []) to_vault_given (tt, (tt, (tt, (tt, (tt, (refl, (refl, tt)))))))

-- ---- the transfer that runs

Runs : Up → PolicyKind → TransferKind → Type 0
Runs w policy kind = (k : ℕ) × (x : Running) × IsRunning w k x × (x.policy.kind ≡ policy) × (x.transfer.kind ≡ kind)

same_kind : (a b : TransferKind) → ◌≡◌ {A = Option TransferKind} (Some a) (Some b) → a ≡ b
same_kind a b e = cc

if_runs : (w : Up) (r : Relationship) (rs : List Relationship) (t : Transfer) (policy : PolicyKind) (kind : TransferKind) (o : Option Reason) →
    w.relations ≡ r ∷ rs → r.transfer ≡ Some t → t.stopped ≡ o → kind_if t o ≡ Some kind → (policy_at w r.policy).kind ≡ policy → Runs w policy kind
unfolding kind_if Runs
if_runs w r rs t policy kind None l f g h p = (
  0,
  running_in w r t,
  record {
    place = subst (λ xs. 0 < length xs) (sym l) (omega arith);
    stands = ap (λ xs. slice_index_or xs 0 no_relation) l;
    transfer = f;
    runs = g;
    is = refl;
  },
  p,
  same_kind t.kind kind h,
)
if_runs w r rs t policy kind (Some reason) l f g h p = absurd (cc)

of_runs : (w : Up) (r : Relationship) (rs : List Relationship) (policy : PolicyKind) (kind : TransferKind) (o : Option Transfer) →
    w.relations ≡ r ∷ rs → r.transfer ≡ o → kind_of o ≡ Some kind → (policy_at w r.policy).kind ≡ policy → Runs w policy kind
unfolding kind_of
of_runs w r rs policy kind None l f h p = absurd (cc)
of_runs w r rs policy kind (Some t) l f h p = if_runs w r rs t policy kind t.stopped l f refl h p

first_runs : (w : Up) (policy : PolicyKind) (kind : TransferKind) (rs : List Relationship) → w.relations ≡ rs → first_kind rs ≡ Some kind → first_policy w rs ≡ policy → Runs w policy kind
unfolding first_kind first_policy
first_runs w policy kind [] l h p = absurd (cc)
first_runs w policy kind (r ∷ rs) l h p = of_runs w r rs policy kind r.transfer l refl h p

example : (policy : PolicyKind) (kind : TransferKind) (es : List Event) → AllByRecursion IsGiven es → first_kind (course (empty_world disks) es).relations ≡ Some kind →
    first_policy (course (empty_world disks) es) (course (empty_world disks) es).relations ≡ policy →
    (w : Up) × (k : ℕ) × (x : Running) × SoundUp w × IsRunning w k x × (x.policy.kind ≡ policy) × (x.transfer.kind ≡ kind)
unfolding Runs
example policy kind es g h p =
    let (k, x, r, e, f) = first_runs (course (empty_world disks) es) policy kind (course (empty_world disks) es).relations refl h p in
    (course (empty_world disks) es, k, x, course_sound (empty_world disks) es g (empty_sound disks), r, e, f)

pub transfers_run : (policy : PolicyKind) (kind : TransferKind) → (w : Up) × (k : ℕ) × (x : Running) × SoundUp w × IsRunning w k x × (x.policy.kind ≡ policy) × (x.transfer.kind ≡ kind)
transfers_run AsyncMirror Initialize = example AsyncMirror Initialize to_initialize to_initialize_given initializes initializes_by
transfers_run AsyncMirror Update = example AsyncMirror Update to_update to_update_given updates updates_by
transfers_run AsyncMirror Resync = example AsyncMirror Resync to_resync to_resync_given resyncs resyncs_by
transfers_run Vault Initialize = example Vault Initialize to_vault to_vault_given vault_initializes vault_initializes_by
transfers_run Vault Update = example Vault Update to_vault_update to_vault_update_given vault_updates vault_updates_by
transfers_run Vault Resync = example Vault Resync to_vault_resync to_vault_resync_given vault_resyncs vault_resyncs_by

-- Of the events of clients and administrators, Unsnap alone drops a snapshot, and it drops the one it names.
use Rattle.std.proofs.Common.{◌≡◌, ◌↔◌, ◌⊎◌, ℕ, Bool, true, false, not, List, [], ◌∷◌, ◌++◌, Option, Some, None, Ok, refl, sym, ap, subst, ◌∙◌, inl, inr, true≢false}
use Rattle.std.specs.Prelude.{slice_index_or}
use Rattle.std.specs.Str.{bytes_eq}
use Rattle.std.proofs.lemmas.Option.{same_Some}
use Rattle.std.proofs.Common.{Result}
use Rattle.sm_base.specs.declared.refusal.Refusal.{Refusal}
use Rattle.sm_base.specs.declared.refusal.Refusal.TheVariants as refusals
use Rattle.std.proofs.lemmas.Bool.{cases_Bool, false_from_ne_true, both_ways, not-true}
use Rattle.sm_base.specs.declared.numbers.Ident.{Ident}
use Rattle.sm_model.specs.declared.event.Event.{Event}
use Rattle.sm_model.specs.declared.event.Event.TheVariants as events
use Rattle.sm_defs.specs.Words.{Among, Found, same_ident, last_that, or_earlier}
use Rattle.sm_defs.specs.Volume.{Volume, Snapshot, no_volume, has}
use Rattle.sm_defs.specs.World.{Up, volume_at, with_volume}
use Rattle.sm_defs.proofs.Idents.{is_same, same_is}
use Rattle.sm_defs.proofs.Members.{among_filter, among_left}
use Rattle.sm_model.specs.World.{Deed}
use Rattle.sm_model.specs.Answers.{Told, volume_named, some_or}
use Rattle.sm_model.specs.OfVolumes.{unsnap, snapshot_named, without_snapshot}
use Rattle.sm_model.specs.Answer.{answer}
use Rattle.sm_model.specs.Drops.{Drops, NamedByUnsnap}
use Rattle.sm_model.specs.LegalRun.{IsDone}
use Rattle.laws_transfer.proofs.Lists.{copy_from_has, has_from_copy}
use Rattle.laws_cases.proofs.Answers.Walk.{OfOk, past, with_ok, with_held, now}
use Rattle.laws_cases.proofs.Answers.Changes as answers
use Rattle.laws_cases.proofs.Answers.Changes.{IsChange, IsAnswer}
use Rattle.laws_cases.proofs.Answers.OfVolumeEvents.{named_at_place}
use Rattle.laws_cases.proofs.Answers.OfAnswer.{OfAnswer}
use Rattle.laws_cases.proofs.Needed.Needs.{set_cases, push_within, has_within, without_keeps}
use Rattle.laws_cases.proofs.Needed.Leaving.{Lost, KeepsAll, lost_there, lost_here}
use Rattle.laws_cases.proofs.Answers.Deeds.{done_gives}

-- ---- events that drop nothing

unfoldable pub IsUnsnap : Event → Type 0
IsUnsnap (events.Unsnap path name) = Unit {0}
IsUnsnap _ = ⊥

is_unsnap : (path name : List ℕ) → IsUnsnap (events.Unsnap path name)
unfolding IsUnsnap
is_unsnap path name = tt

keeps_all_set : (w : Up) (k : ℕ) (u : Volume) → ((i : Ident) → has (volume_at w k).snapshots i ≡ true → has u.snapshots i ≡ true) → KeepsAll w (with_volume w k u)
keeps_all_set w k u h v i m = go (set_cases w.volumes k v u no_volume)
  where
    go : (volume_at (with_volume w k u) v ≡ volume_at w v) ⊎ ((v ≡ k) × (volume_at (with_volume w k u) v ≡ u)) → has (volume_at (with_volume w k u) v).snapshots i ≡ true
    go (inl e) = subst (λ y. has y.snapshots i ≡ true) (sym e) m
    go (inr (e, f)) = subst (λ y. has y.snapshots i ≡ true) (sym f) (h i (subst (λ y. has (volume_at w y).snapshots i ≡ true) e m))

all_stay : (w : Up) (k : ℕ) (v u : Volume) → volume_at w k ≡ v → u.snapshots ≡ v.snapshots → KeepsAll w (with_volume w k u)
all_stay w k v u e f = keeps_all_set w k u (λ i h. subst (λ ss. has ss i ≡ true) (sym f) (subst (λ y. has y.snapshots i ≡ true) e h))

pub one_more : (w : Up) (k : ℕ) (v u : Volume) (s : Snapshot) → volume_at w k ≡ v → u.snapshots ≡ v.snapshots ++ s ∷ [] → KeepsAll w (with_volume w k u)
one_more w k v u s e f = keeps_all_set w k u (λ i h. let (t, m, q) = copy_from_has v.snapshots i (subst (λ y. has y.snapshots i ≡ true) e h) in
    subst (λ ss. has ss i ≡ true) (sym f) (has_from_copy (v.snapshots ++ s ∷ []) i (t, among_left v.snapshots (s ∷ []) t m, q)))

of_change : (w u : Up) (ev : Event) → ¬ (IsUnsnap ev) → IsChange w ev u → KeepsAll w u
of_change w u ev n (answers.elsewhere other e f g j) = λ v i h. subst (λ vs. has (slice_index_or vs v no_volume).snapshots i ≡ true) (sym e) h
of_change w u ev n (answers.creates path disk kind logical physical) = λ v i h. subst (λ y. has y.snapshots i ≡ true) (sym (push_within w.volumes _ no_volume v (has_within w v i h))) h
of_change w u ev n (answers.writes v a block fill) = all_stay w v.at v.item _ a.at refl
of_change w u ev n (answers.drops path name so v is a s named free) = absurd (n (subst IsUnsnap (sym so) (is_unsnap path name)))
of_change w u ev n (answers.points v a) = all_stay w v.at v.item _ a.at refl
of_change w u ev n (answers.breaks v a) = all_stay w v.at v.item _ a.at refl
of_change w u ev n (answers.relates s d p) = λ v i h. h
of_change w u ev n (answers.changes r a q f) = λ v i h. h
of_change w u ev n (answers.halves r a q f) = λ v i h. h
of_change w u ev n (answers.starts r a q f) = λ v i h. h

pub answer_keeps_all : (w u : Up) (ev : Event) (t : Told) → ¬ (IsUnsnap ev) → IsAnswer w ev t u → KeepsAll w u
answer_keeps_all w u ev t n (answers.plain p c) = of_change w u ev n c
answer_keeps_all w u ev t n (answers.snaps v a p is path name label so) = one_more w v.at v.item _ _ a.at refl

-- ---- Unsnap

record Unsnapped (w : Up) (path name : List ℕ) (u : Up) : Type 0 where
  volume : Found Volume
  snapshot : Snapshot
  path_is : volume_named w path ≡ Ok volume
  name_is : snapshot_named volume.item name ≡ Ok snapshot
  new : u ≡ with_volume w volume.at (without_snapshot volume.item snapshot.ident)

of_unsnap : (w : Up) (path name : List ℕ) → OfOk (λ d. Unsnapped w path name d.world) (unsnap w path name)
of_unsnap w path name = with_ok _ _ _ (λ v is. with_ok _ _ _ (λ s named. past _ _ _ _ (λ _. with_held _ _ _ (λ _.
    now _ _ (record { volume = v; snapshot = s; path_is = is; name_is = named; new = refl })))))

unsnap_answer : (w : Up) (path name : List ℕ) → OfAnswer (λ r. Unsnapped w path name r.world) (answer w (events.Unsnap path name))
unfolding OfAnswer answer
unsnap_answer w path name = of_unsnap w path name

-- without the snapshots of an identity the list lacks that one alone
lacks_it : (v : Volume) (i : Ident) → has (without_snapshot v i).snapshots i ≡ false
lacks_it v i = false_from_ne_true _ (λ h. let (t, m, e) = copy_from_has (without_snapshot v i).snapshots i h in
    let q = among_filter (λ t. not (same_ident t.ident i)) v.snapshots t m in both_ways (same_ident t.ident i) (not-true _ q.1) (is_same t.ident i e))

only_it : (v : Volume) (i j : Ident) → has v.snapshots i ≡ true → has (without_snapshot v j).snapshots i ≡ false → i ≡ j
only_it v i j h k = go (cases_Bool (same_ident i j))
  where
    go : (same_ident i j ≡ true) ⊎ (same_ident i j ≡ false) → i ≡ j
    go (inl e) = same_is i j e
    go (inr e) = absurd (true≢false (sym (without_keeps (λ t. same_ident t.ident j) v i h (λ t f. subst (λ y. same_ident y j ≡ false) (sym f) e)) ∙ k))

unsnap_drops : (w u : Up) (path name : List ℕ) (v : ℕ) (i : Ident) → Unsnapped w path name u → Lost w u v i → NamedByUnsnap w path name v i
unsnap_drops w u path name v i x l =
    let a = named_at_place w path x.volume x.path_is in
    let (e, h, k) = lost_there w x.volume.at (without_snapshot x.volume.item x.snapshot.ident) v i (subst (λ y. Lost w y v i) x.new l) in record {
      volume = x.volume;
      snapshot = x.snapshot;
      path_is = x.path_is;
      name_is = x.name_is;
      there = e;
      this = only_it x.volume.item i x.snapshot.ident (subst (λ y. has y.snapshots i ≡ true) a.at h) k;
    }

same_found : {A : Type 0} (m : Result A Refusal) (x y : A) → m ≡ Ok x → m ≡ Ok y → x ≡ y
same_found m x y e f = cc

named_there : (w : Up) (path name : List ℕ) (v : ℕ) (i : Ident) (q : Found Volume) (s : Snapshot) → volume_named w path ≡ Ok q → snapshot_named q.item name ≡ Ok s → v ≡ q.at → i ≡ s.ident → Among q.item.snapshots s →
    Lost w (with_volume w q.at (without_snapshot q.item s.ident)) v i
named_there w path name v i q s e f g h m =
    let a = named_at_place w path q e in
    lost_here w q.at (without_snapshot q.item s.ident) v i g (subst (λ y. has y.snapshots i ≡ true) (sym a.at) (has_from_copy q.item.snapshots i (s, m, sym h)))
    (subst (λ j. has (without_snapshot q.item s.ident).snapshots j ≡ false) (sym h) (lacks_it q.item s.ident))

last_go : (p : Snapshot → Bool) (z : Snapshot) (ss : List Snapshot) (s : Snapshot) (b : Bool) (o : Option Snapshot) → or_earlier o b z ≡ Some s → (o ≡ Some s → Among ss s) → Among (z ∷ ss) s
last_go p z ss s b (Some y) e h = inr (h e)
last_go p z ss s true None e h = inl (sym (same_Some z s e))
last_go p z ss s false None e h = absurd (cc)

last_among : (p : Snapshot → Bool) (ss : List Snapshot) (s : Snapshot) → last_that p ss ≡ Some s → Among ss s
last_among p [] s e = absurd (cc)
last_among p (z ∷ ss) s e = last_go p z ss s (p z) (last_that p ss) e (last_among p ss s)

named_go : (ss : List Snapshot) (name : List ℕ) (s : Snapshot) (o : Option Snapshot) → (o ≡ Some s → Among ss s) → some_or (refusals.NoSnapshot name) o ≡ Ok s → Among ss s
unfolding some_or
named_go ss name s None h e = absurd (cc)
named_go ss name s (Some t) h e = h (ap Some (same_ok t s e))
  where
    same_ok : (y x : Snapshot) → ◌≡◌ {A = Result Snapshot Refusal} (Ok y) (Ok x) → y ≡ x
    same_ok y x e = cc

named_among : (v : Volume) (name : List ℕ) (s : Snapshot) → snapshot_named v name ≡ Ok s → Among v.snapshots s
named_among v name s e = named_go v.snapshots name s (last_that (λ s. bytes_eq s.name name) v.snapshots) (last_among (λ s. bytes_eq s.name name) v.snapshots s) e

unsnap_named : (w u : Up) (path name : List ℕ) (v : ℕ) (i : Ident) → Unsnapped w path name u → NamedByUnsnap w path name v i → Lost w u v i
unsnap_named w u path name v i x n =
    let f : x.volume ≡ n.volume = same_found (volume_named w path) x.volume n.volume x.path_is n.path_is in
    let named : snapshot_named n.volume.item name ≡ Ok x.snapshot = subst (λ y. snapshot_named y.item name ≡ Ok x.snapshot) f x.name_is in
    let g : x.snapshot ≡ n.snapshot = same_found (snapshot_named n.volume.item name) x.snapshot n.snapshot named n.name_is in
    subst (λ y. Lost w y v i) (sym x.new)
    (named_there w path name v i x.volume x.snapshot x.path_is x.name_is (n.there ∙ ap (λ y. y.at) (sym f)) (n.this ∙ ap (λ y. y.ident) (sym g)) (named_among x.volume.item name x.snapshot x.name_is))

pub unsnap_exact : (d : Deed) (path name : List ℕ) (v : ℕ) (i : Ident) → IsDone (answer d.old (events.Unsnap path name)) d → Drops d v i ↔ NamedByUnsnap d.old path name v i
unsnap_exact d path name v i h =
    let x = done_gives (Unsnapped d.old path name) (answer d.old (events.Unsnap path name)) d (unsnap_answer d.old path name) h in
    (unsnap_drops d.old d.new path name v i x, unsnap_named d.old d.new path name v i x)

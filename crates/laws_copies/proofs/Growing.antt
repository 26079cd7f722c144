-- Counters do not go back, and no transfer gets a number that was given.
use Rattle.std.proofs.Common.{◌≡◌, ◌⊎◌, ◌<◌, ◌≤◌, ℕ, List, [], ◌∷◌, ◌++◌, map, length, Option, Some, None, refl, sym, ap, subst, ◌∙◌, inl, inr, arith}
use Rattle.std.specs.Prelude.{slice_index_or}
use Rattle.std.proofs.lemmas.Option.{same_Some}
use Rattle.sm_base.specs.declared.numbers.Ident.{Ident}
use Rattle.sm_defs.specs.Words.{Among}
use Rattle.sm_defs.specs.Volume.{Volume, no_volume}
use Rattle.sm_defs.specs.Relationship.{Relationship, Transfer}
use Rattle.sm_model.specs.declared.event.Event.{Event}
use Rattle.sm_defs.specs.World.{Up, volume_at, with_volume, with_relation}
use Rattle.sm_model.specs.Standing.{EachTransfer}
use Rattle.sm_model.specs.Answers.{Told}
use Rattle.sm_model.specs.OfRelations.{has_a_half, new_relation}
use Rattle.sm_model.specs.OfTransfers.{with_transfer}
use Rattle.sm_model.specs.Opened.{opened, rejoined, restarted}
use Rattle.sm_model.specs.Running.{Running, IsRunning}
use Rattle.sm_model.specs.Steps.{Effect, with_destination}
use Rattle.sm_model.specs.Due.{StepKind, revert, finish, settle, prepare, prune, publish, checkpoint, ship, settled_relation, IsEffect, IsStep, by_transfer, by_tidy}
use Rattle.sm_model.specs.World.{Deed}
use Rattle.sm_model.specs.LegalRun.{IsDeed, IsStepDeed}
use Rattle.laws_cases.proofs.Answers.Walk.{going}
use Rattle.laws_cases.proofs.Steps.Parties.{relation_stands}
use Rattle.laws_cases.proofs.Needed.Needs.{set_cases, push_within, mapped_at}
use Rattle.laws_cases.proofs.Answers.Changes as answers
use Rattle.laws_cases.proofs.Answers.Changes.{IsChange, IsAnswer, Follows, Starts}
use Rattle.laws_cases.proofs.Answers.Deeds.{IsAnswered, deed_cases}
use Rattle.sm_defs.specs.Operations as operations
use Rattle.sm_defs.proofs.Members.{among_append, among_filter, among_set, from_map}
use Rattle.std.proofs.lemmas.List.{length-set}

-- a relationship's transfer has a new number, or stood before from the same source
pub data FromOld (old : Up) (r : Relationship) (t : Transfer) : Type 0 where
  new_one : old.next_transfer ≤ t.number → FromOld old r t
  old_one : (q : Relationship) (u : Transfer) → Among old.relations q → q.transfer ≡ Some u → t.number ≡ u.number → t.reserved ≡ u.reserved → r.source ≡ q.source → r.number ≡ q.number → FromOld old r t

pub record Grown (old new : Up) : Type 0 where
  pub count : length old.volumes ≤ length new.volumes
  pub next : (v : ℕ) → v < length old.volumes → (volume_at old v).next ≤ (volume_at new v).next
  pub next_transfer : old.next_transfer ≤ new.next_transfer
  pub next_relation : old.next_relation ≤ new.next_relation
  pub transfers : EachTransfer (FromOld old) new

stays_from : (w : Up) → EachTransfer (FromOld w) w
stays_from w r t m e = old_one r t m e refl refl refl refl

pub grown_same : (w : Up) → Grown w w
grown_same w = record { count = omega arith; next = λ v h. omega arith; next_transfer = omega arith; next_relation = omega arith; transfers = stays_from w }

-- one volume is changed, and its number does not go back
pub grown_volume : (w : Up) (k : ℕ) (u : Volume) → (volume_at w k).next ≤ u.next → Grown w (with_volume w k u)
grown_volume w k u h = record { count = let e = length-set w.volumes k u in omega arith; next = λ v l. go v (set_cases w.volumes k v u no_volume); next_transfer = omega arith; next_relation = omega arith; transfers = stays_from w }
  where
    go : (v : ℕ) → (volume_at (with_volume w k u) v ≡ volume_at w v) ⊎ ((v ≡ k) × (volume_at (with_volume w k u) v ≡ u)) → (volume_at w v).next ≤ (volume_at (with_volume w k u) v).next
    go v (inl e) = rw e (omega arith)
    go v (inr (e, f)) = rw (f, e) h

pub grown_relation : (w : Up) (k : ℕ) (q : Relationship) → ((t : Transfer) → q.transfer ≡ Some t → FromOld w q t) → Grown w (with_relation w k q)
grown_relation w k q h = record { count = omega arith; next = λ v l. omega arith; next_transfer = omega arith; next_relation = omega arith; transfers = λ r t m e. go r t e (among_set w.relations k q r m) }
  where
    go : (r : Relationship) (t : Transfer) → r.transfer ≡ Some t → (r ≡ q) ⊎ Among w.relations r → FromOld w r t
    go r t e (inl f) = subst (λ y. FromOld w y t) (sym f) (h t (ap (λ y. y.transfer) (sym f) ∙ e))
    go r t e (inr m) = stays_from w r t m e

from_trans : (old mid : Up) (r : Relationship) (t : Transfer) → Grown old mid → FromOld mid r t → FromOld old r t
from_trans old mid r t g (new_one h) = new_one (let k = g.next_transfer in omega arith)
from_trans old mid r t g (old_one q u m e a b c d) = go (g.transfers q u m e)
  where
    go : FromOld old q u → FromOld old r t
    go (new_one h) = new_one (rw a h)
    go (old_one p v n f i j l o) = old_one p v n f (a ∙ i) (b ∙ j) (c ∙ l) (d ∙ o)

pub grown_trans : (old mid new : Up) → Grown old mid → Grown mid new → Grown old new
grown_trans old mid new g h = record {
  count = let a = g.count in let b = h.count in omega arith;
  next = λ v l. let c = g.count in let a = g.next v l in let b = h.next v (omega arith) in omega arith;
  next_transfer = let a = g.next_transfer in let b = h.next_transfer in omega arith;
  next_relation = let a = g.next_relation in let b = h.next_relation in omega arith;
  transfers = λ r t m e. from_trans old mid r t g (h.transfers r t m e);
}

-- ---- answers

follows_from : (w : Up) (r q : Relationship) → Among w.relations r → Follows r q → (t : Transfer) → q.transfer ≡ Some t → FromOld w q t
follows_from w r q m f t e = let (u, g, a, b) = f.transfer t e in old_one r u m g a b f.source f.number

pub grown_pushed : (w : Up) (v : Volume) → Grown w (record w { volumes = w.volumes ++ v ∷ [] })
grown_pushed w v = record {
  count = longer w.volumes;
  next = λ i l. rw (push_within w.volumes v no_volume i l) (omega arith);
  next_transfer = omega arith;
  next_relation = omega arith;
  transfers = stays_from w;
}
  where
    longer : (vs : List Volume) → length vs ≤ length (vs ++ v ∷ [])
    longer [] = omega arith
    longer (u ∷ us) = let h = longer us in omega arith

grown_related : (w : Up) (n s d p : ℕ) → (r : Relationship) (t : Transfer) → Among (w.relations ++ new_relation n s d p ∷ []) r → r.transfer ≡ Some t → FromOld w r t
grown_related w n s d p r t m e = go (among_append w.relations (new_relation n s d p ∷ []) r m)
  where
    go : Among w.relations r ⊎ Among (new_relation n s d p ∷ []) r → FromOld w r t
    go (inl k) = stays_from w r t k e
    go (inr (inl f)) = absurd (let g : (new_relation n s d p).transfer ≡ Some t = ap (λ y. y.transfer) (sym f) ∙ e in cc)
    go (inr (inr k)) = absurd k

starts_from : (w : Up) (r q : Relationship) → Starts w r q → (t : Transfer) → q.transfer ≡ Some t → FromOld w q t
starts_from w r q f t e = new_one (let n = f.transfer t e in omega arith)

pub of_change : (w u : Up) (ev : Event) → IsChange w ev u → Grown w u
of_change w u ev (answers.elsewhere other e f g j) = record {
  count = rw e (omega arith);
  next = λ v l. subst (λ vs. (volume_at w v).next ≤ (slice_index_or vs v no_volume).next) (sym e) (omega arith);
  next_transfer = rw g (omega arith);
  next_relation = rw j (omega arith);
  transfers = λ r t m i. stays_from w r t (subst (λ rs. Among rs r) f m) i;
}
of_change w u ev (answers.creates path disk kind logical physical) = grown_pushed w _
of_change w u ev (answers.writes v a block fill) = grown_volume w v.at _ (rw a.at (omega arith))
of_change w u ev (answers.drops path name so v is a s named free) = grown_volume w v.at _ (rw a.at (omega arith))
of_change w u ev (answers.points v a) = grown_volume w v.at _ (rw a.at (omega arith))
of_change w u ev (answers.breaks v a) = grown_volume w v.at _ (rw a.at (omega arith))
of_change w u ev (answers.relates s d p) = record { count = omega arith; next = λ v l. omega arith; next_transfer = omega arith; next_relation = omega arith; transfers = grown_related w w.next_relation s d p }
of_change w u ev (answers.changes r a q f) = grown_relation w r.at q (follows_from w r.item q a.among f)
of_change w u ev (answers.halves r a q f) = record {
  count = omega arith;
  next = λ v l. omega arith;
  next_transfer = omega arith;
  next_relation = omega arith;
  transfers = λ p t m e. (grown_relation w r.at q (follows_from w r.item q a.among f)).transfers p t (among_filter has_a_half _ p m).0 e;
}
of_change w u ev (answers.starts r a q f) = record {
  count = omega arith;
  next = λ v l. omega arith;
  next_transfer = omega arith;
  next_relation = omega arith;
  transfers = (grown_relation w r.at q (starts_from w r.item q f)).transfers;
}

pub of_answer : (w u : Up) (ev : Event) (t : Told) → IsAnswer w ev t u → Grown w u
of_answer w u ev t (answers.plain p c) = of_change w u ev c
of_answer w u ev t (answers.snaps v a p is path name label so) = grown_volume w v.at _ (rw a.at (omega arith))

-- ---- steps

-- the relationship has x's transfer with its number and mark
progress : (w : Up) (k : ℕ) (x : Running) (t : Transfer) → Among w.relations x.relation → x.relation.transfer ≡ Some x.transfer → t.number ≡ x.transfer.number → t.reserved ≡ x.transfer.reserved → Grown w (with_relation w k (with_transfer x.relation t))
progress w k x t m e a b = grown_relation w k (with_transfer x.relation t) (λ u f. old_one x.relation x.transfer m e (ap (λ y. y.number) (sym (same_Some t u f)) ∙ a) (ap (λ y. y.reserved) (sym (same_Some t u f)) ∙ b) refl refl)

settles : (w : Up) (k : ℕ) (x : Running) (i : Ident) (later : List Ident) → Among w.relations x.relation → x.relation.transfer ≡ Some x.transfer → Grown w (with_relation w k (settled_relation x i later))
settles w k x i [] m e = grown_relation w k _ (λ u f. absurd (cc))
settles w k x i (j ∷ is) m e = grown_relation w k _ (λ u f. old_one x.relation x.transfer m e (ap (λ y. y.number) (sym (same_Some _ u f))) (ap (λ y. y.reserved) (sym (same_Some _ u f))) refl refl)

destination_grown : (w : Up) (k : ℕ) (x : Running) (u : Volume) → IsRunning w k x → u.next ≡ x.destination.next → Grown w (with_destination w x u)
destination_grown w k x u r e = grown_volume w x.relation.destination u (rw (e, ap (λ y. y.destination.next) r.is) (omega arith))

abbrev By : Up → Effect → Type 0
By w e = Grown w e.world

of_effect : (w : Up) (k : ℕ) (x : Running) (kind : StepKind) (e : Effect) → IsRunning w k x → Among w.relations x.relation → IsEffect w k x kind e → By w e
of_effect w k x (revert base) e r m i = subst (By w) (sym i) (going (By w) w k x _ _ (λ _. progress w k x _ m r.transfer refl refl) (λ _. destination_grown w k x _ r refl))
of_effect w k x (finish base) e r m i = subst (By w) (sym i) (grown_relation w k _ (λ u f. absurd (cc)))
of_effect w k x (settle j later) e r m i = subst (By w) (sym i) (settles w k x j later m r.transfer)
of_effect w k x (prepare j) e r m i = subst (By w) (sym i) (going (By w) w k x _ _ (λ _. progress w k x _ m r.transfer refl refl)
    (λ _. grown_volume w x.relation.source _ (rw (ap (λ y. y.source.next) r.is) (omega arith))))
of_effect w k x prune e r m i = subst (By w) (sym i) (going (By w) w k x _ _ (λ _. progress w k x _ m r.transfer refl refl)
    (λ _. grown_trans w _ _ (destination_grown w k x _ r refl) (progress (with_destination w x _) k x _ m r.transfer refl refl)))
of_effect w k x (publish leg) e r m i = subst (By w) (sym i) (going (By w) w k x _ _ (λ _. progress w k x _ m r.transfer refl refl) (λ _. destination_grown w k x _ r refl))
of_effect w k x checkpoint e r m i = subst (By w) (sym i) (progress w k x _ m r.transfer refl refl)
of_effect w k x (ship leg) e r m (n, l, i) = subst (By w) (sym i) (going (By w) w k x _ _ (λ _. progress w k x _ m r.transfer refl refl) (λ _. progress w k x _ m r.transfer refl refl))

pub of_step : (w : Up) (e : Effect) → IsStep w e → Grown w e.world
of_step w e (by_transfer k x kind r d i) = of_effect w k x kind e r (relation_stands w k x r) i
of_step w e (by_tidy n d i) = subst (By w) (sym i) (grown_volume w n _ (omega arith))

-- ---- restarts

restarted_from : (w : Up) (q : Relationship) (t : Transfer) (o : Option Transfer) → Among w.relations q → q.transfer ≡ o → restarted o ≡ Some t → FromOld w (rejoined q) t
restarted_from w q t None m e f = absurd (cc)
restarted_from w q t (Some u) m e f = old_one q u m e (ap (λ y. y.number) (sym (same_Some _ t f))) (ap (λ y. y.reserved) (sym (same_Some _ t f))) refl refl

length_mapped : {X : Type 0} (f : X → X) (xs : List X) → length xs ≤ length (map f xs)
length_mapped f [] = omega arith
length_mapped f (x ∷ xs) = let h = length_mapped f xs in omega arith

pub of_opened : (w : Up) → Grown w (opened w)
of_opened w = record {
  count = length_mapped operations.opened w.volumes;
  next = λ v l. rw (mapped_at operations.opened w.volumes no_volume v l) (omega arith);
  next_transfer = omega arith;
  next_relation = omega arith;
  transfers = λ r t m e. let (q, n, f) = from_map rejoined w.relations r m in
      subst (λ y. FromOld w y t) (sym f) (restarted_from w q t q.transfer n refl (ap (λ y. y.transfer) (sym f) ∙ e));
}

pub deed_grown : (e : Event) (d : Deed) → IsDeed e d → Grown d.old d.new
deed_grown e d i = go (deed_cases e d i)
  where
    go : IsStepDeed d ⊎ IsAnswered e d → Grown d.old d.new
    go (inl s) = of_step d.old _ s
    go (inr a) = of_answer d.old d.new e a.tells a.is

-- A transfer without a base keeps a leg.
use Rattle.std.proofs.Common.{◌≡◌, ◌≢◌, ◌⊎◌, ℕ, List, [], ◌∷◌, ◌++◌, Option, Some, None, refl, sym, ap, subst, ◌∙◌, inl, inr}
use Rattle.std.proofs.lemmas.Option.{same_Some}
use Rattle.sm_base.specs.declared.numbers.Ident.{Ident}
use Rattle.sm_model.specs.declared.event.Event.{Event}
use Rattle.sm_defs.specs.Words.{Among}
use Rattle.sm_defs.specs.Relationship.{Relationship, Transfer}
use Rattle.sm_defs.specs.World.{Up, with_relation}
use Rattle.sm_defs.proofs.Members.{among_append, among_filter, among_set, from_map}
use Rattle.sm_model.specs.World.{Deed}
use Rattle.sm_model.specs.Answers.{Told}
use Rattle.sm_model.specs.OfRelations.{has_a_half, new_relation}
use Rattle.sm_model.specs.OfTransfers.{with_transfer}
use Rattle.sm_model.specs.Opened.{opened, rejoined, restarted}
use Rattle.sm_model.specs.Running.{Running, IsRunning}
use Rattle.sm_model.specs.Steps.{Effect}
use Rattle.sm_model.specs.Due.{StepKind, revert, finish, settle, prepare, prune, publish, checkpoint, ship, settled_relation, IsEffect, IsStep, by_transfer, by_tidy}
use Rattle.sm_model.specs.LegalRun.{IsStepDeed, IsDeed}
use Rattle.laws_idle.specs.Idling.{EndsAtBase}
use Rattle.laws_cases.proofs.Answers.Walk.{going}
use Rattle.laws_cases.proofs.Steps.Parties.{relation_stands}
use Rattle.laws_cases.proofs.Answers.Changes as answers
use Rattle.laws_cases.proofs.Answers.Changes.{IsChange, IsAnswer, Follows}
use Rattle.laws_cases.proofs.Answers.Deeds.{IsAnswered, deed_cases}

abbrev EndsSo : Relationship → Type 0
EndsSo q = (t : Transfer) → q.transfer ≡ Some t → q.base ≡ None → t.legs ≢ []

ends_relation : (w : Up) (k : ℕ) (q : Relationship) → EndsAtBase w → EndsSo q → EndsAtBase (with_relation w k q)
ends_relation w k q h f r t m e b = go (among_set w.relations k q r m)
  where
    go : (r ≡ q) ⊎ Among w.relations r → t.legs ≢ []
    go (inl i) = f t (ap (λ y. y.transfer) (sym i) ∙ e) (ap (λ y. y.base) (sym i) ∙ b)
    go (inr n) = h r t n e b

-- ---- answers

follows_so : (w : Up) (r q : Relationship) → EndsAtBase w → Among w.relations r → Follows r q → EndsSo q
follows_so w r q h m f u e b = let (t, g, c, d) = f.ends u e b in subst (λ is. is ≢ []) (sym d) (h r t m g c)

ends_related : (w : Up) (n s d p : ℕ) → EndsAtBase w → (r : Relationship) (t : Transfer) → Among (w.relations ++ new_relation n s d p ∷ []) r → r.transfer ≡ Some t → r.base ≡ None → t.legs ≢ []
ends_related w n s d p h r t m e b = go (among_append w.relations (new_relation n s d p ∷ []) r m)
  where
    go : Among w.relations r ⊎ Among (new_relation n s d p ∷ []) r → t.legs ≢ []
    go (inl k) = h r t k e b
    go (inr (inl f)) = absurd (let g : (new_relation n s d p).transfer ≡ Some t = ap (λ y. y.transfer) (sym f) ∙ e in cc)
    go (inr (inr k)) = absurd k

of_change : (w u : Up) (ev : Event) → EndsAtBase w → IsChange w ev u → EndsAtBase u
of_change w u ev h (answers.elsewhere other e f g j) = λ r t m. h r t (subst (λ rs. Among rs r) f m)
of_change w u ev h (answers.creates path disk kind logical physical) = h
of_change w u ev h (answers.writes v a block fill) = h
of_change w u ev h (answers.drops path name so v is a s named free) = h
of_change w u ev h (answers.points v a) = h
of_change w u ev h (answers.breaks v a) = h
of_change w u ev h (answers.relates s d p) = ends_related w w.next_relation s d p h
of_change w u ev h (answers.changes r a q f) = ends_relation w r.at q h (follows_so w r.item q h a.among f)
of_change w u ev h (answers.halves r a q f) = λ p t m. ends_relation w r.at q h (follows_so w r.item q h a.among f) p t (among_filter has_a_half _ p m).0
of_change w u ev h (answers.starts r a q f) = ends_relation w r.at q h f.ends

of_answer : (w u : Up) (ev : Event) (t : Told) → EndsAtBase w → IsAnswer w ev t u → EndsAtBase u
of_answer w u ev t h (answers.plain p c) = of_change w u ev h c
of_answer w u ev t h (answers.snaps v a p is path name label so) = h

-- ---- steps

abbrev By : Effect → Type 0
By e = EndsAtBase e.world

progress : (w : Up) (k : ℕ) (x : Running) (t : Transfer) → EndsAtBase w → Among w.relations x.relation → x.relation.transfer ≡ Some x.transfer → t.legs ≡ x.transfer.legs → EndsAtBase (with_relation w k (with_transfer x.relation t))
progress w k x t h m e a = ends_relation w k (with_transfer x.relation t) h (λ u f b. subst (λ is. is ≢ []) (sym a ∙ ap (λ y. y.legs) (same_Some t u f)) (h x.relation x.transfer m e b))

settles : (w : Up) (k : ℕ) (x : Running) (i : Ident) (later : List Ident) → EndsAtBase w → EndsAtBase (with_relation w k (settled_relation x i later))
settles w k x i [] h = ends_relation w k _ h (λ u f b. absurd (cc))
settles w k x i (j ∷ is) h = ends_relation w k _ h (λ u f b. absurd (cc))

of_effect : (w : Up) (k : ℕ) (x : Running) (kind : StepKind) (e : Effect) → EndsAtBase w → IsRunning w k x → Among w.relations x.relation → IsEffect w k x kind e → By e
of_effect w k x (revert base) e h r m i = subst By (sym i) (going By w k x _ _ (λ _. progress w k x _ h m r.transfer refl) (λ _. h))
of_effect w k x (finish base) e h r m i = subst By (sym i) (ends_relation w k _ h (λ u f b. absurd (cc)))
of_effect w k x (settle j later) e h r m i = subst By (sym i) (settles w k x j later h)
of_effect w k x (prepare j) e h r m i = subst By (sym i) (going By w k x _ _ (λ _. progress w k x _ h m r.transfer refl) (λ _. h))
of_effect w k x prune e h r m i = subst By (sym i) (going By w k x _ _ (λ _. progress w k x _ h m r.transfer refl) (λ _. progress w k x _ h m r.transfer refl))
of_effect w k x (publish leg) e h r m i = subst By (sym i) (going By w k x _ _ (λ _. progress w k x _ h m r.transfer refl) (λ _. h))
of_effect w k x checkpoint e h r m i = subst By (sym i) (progress w k x _ h m r.transfer refl)
of_effect w k x (ship leg) e h r m (n, l, i) = subst By (sym i) (going By w k x _ _ (λ _. progress w k x _ h m r.transfer refl) (λ _. progress w k x _ h m r.transfer refl))

of_step : (w : Up) (e : Effect) → EndsAtBase w → IsStep w e → By e
of_step w e h (by_transfer k x kind r d i) = of_effect w k x kind e h r (relation_stands w k x r) i
of_step w e h (by_tidy n d i) = subst By (sym i) h

pub deeds_keep_ends : (e : Event) (d : Deed) → EndsAtBase d.old → IsDeed e d → EndsAtBase d.new
deeds_keep_ends e d h i = go (deed_cases e d i)
  where
    go : IsStepDeed d ⊎ IsAnswered e d → EndsAtBase d.new
    go (inl s) = of_step d.old _ h s
    go (inr a) = of_answer d.old d.new e a.tells h a.is

-- ---- restarts

restarted_so : (w : Up) (q : Relationship) (t : Transfer) (o : Option Transfer) → EndsAtBase w → Among w.relations q → q.transfer ≡ o → restarted o ≡ Some t → q.base ≡ None → t.legs ≢ []
restarted_so w q t None h m e f b = absurd (cc)
restarted_so w q t (Some u) h m e f b = subst (λ is. is ≢ []) (ap (λ y. y.legs) (same_Some _ t f)) (h q u m e b)

pub restarts_keep_ends : (w : Up) → EndsAtBase w → EndsAtBase (opened w)
restarts_keep_ends w h r t m e b = let (q, n, f) = from_map rejoined w.relations r m in
    restarted_so w q t q.transfer h n refl (ap (λ y. y.transfer) (sym f) ∙ e) (ap (λ y. y.base) (sym f) ∙ b)

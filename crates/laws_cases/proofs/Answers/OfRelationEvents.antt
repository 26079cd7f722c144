-- What answers to events on relationships and transfers change.
use Rattle.std.proofs.Common.{◌≡◌, ◌≢◌, ◌⊎◌, ℕ, List, [], ◌∷◌, Bool, true, false, cond, Option, Some, None, refl, sym, ap, subst, ◌∙◌, inl, inr, ◌==◌, eqb-true, ◌&&◌, ◌||◌}
use Rattle.std.proofs.lemmas.Option.{same_Some}
use Rattle.std.proofs.lemmas.Bool.{and_parts}
use Rattle.std.specs.Prelude.{is_none}
use Rattle.sm_base.specs.declared.numbers.Ident.{Ident}
use Rattle.sm_base.specs.declared.numbers.TransferKind.{TransferKind}
use Rattle.sm_base.specs.declared.numbers.TransferKind.TheVariants.{Initialize, Update, Resync}
use Rattle.sm_model.specs.declared.event.Event.{Event}
use Rattle.sm_defs.specs.Words.{Found, found, or_else, Among}
use Rattle.sm_defs.specs.Volume.{Snapshot, has, Volume}
use Rattle.sm_defs.specs.Relationship.{Relationship, Transfer}
use Rattle.sm_defs.specs.Legs.{Legs}
use Rattle.sm_defs.specs.Edges.{is_empty}
use Rattle.sm_defs.specs.World.{Up, volume_at}
use Rattle.sm_model.specs.Origin.{made_by}
use Rattle.sm_model.specs.OfRelations as relations
use Rattle.sm_model.specs.OfTransfers as transfers
use Rattle.sm_model.specs.Answers.{goes_to, Target}
use Rattle.laws_cases.proofs.Answers.Walk.{OfOk, past, with_found, with_held, with_target, whether_so, passing, passed}
use Rattle.laws_cases.proofs.Answers.Changes.{RelationAt, Follows, Starts, Is, breaks, relates, changes, halves, starts}
use Rattle.laws_cases.proofs.Answers.Plainly.{volume_at_place, relation_at_place, by_told, by_done, same}
use Rattle.sm_defs.specs.Progress as progress
use Rattle.sm_defs.proofs.Searches.{found_passes}

-- ---- relationships

pub relate : (w : Up) (ev : Event) (s d p : List ℕ) → OfOk (Is w ev) (relations.relate w s d p)
unfolding made_by
relate w ev s d p = with_found _ _ _ _ (λ s _. with_found _ _ _ _ (λ d _. with_found _ _ _ _ (λ p _. with_held _ _ _ (λ _. past _ _ _ _ (λ _. past _ _ _ _ (λ _. past _ _ _ _ (λ _.
    by_told w _ ev _ (record { makes_none = refl; accepted = λ r e. cc }) (relates s.at d.at p.at))))))))

pub same_transfer : (r q : Relationship) → q.number ≡ r.number → q.source ≡ r.source → q.transfer ≡ r.transfer → q.base ≡ r.base → Follows r q
same_transfer r q n e f b = record { number = n; source = e; transfer = λ u g. (u, sym f ∙ g, refl, refl); ends = λ u g h. (u, sym f ∙ g, sym b ∙ h, refl) }

pub set_quiesced : (w : Up) (ev : Event) (d : List ℕ) (flag : Bool) → OfOk (Is w ev) (relations.set_quiesced w d flag)
set_quiesced w ev d flag = with_target _ _ _ _ (λ t _ is. by_done w _ ev (changes t.relation (relation_at_place w _ t.relation is) _ (same_transfer t.relation.item _ refl refl refl refl)))

pub break_off : (w : Up) (ev : Event) (d : List ℕ) → OfOk (Is w ev) (relations.break_off w d)
break_off w ev d = with_target _ _ _ _ (λ t is _. passing _ _ _ _ _ (λ _. passing _ _ _ _ _ (λ _. passed _ _ _ _ (λ _. by_done w _ ev (breaks t.destination (volume_at_place w _ t.destination is))))))

pub delete : (w : Up) (ev : Event) (d : List ℕ) → OfOk (Is w ev) (relations.delete w d)
delete w ev d = with_target _ _ _ _ (λ t _ is. passed _ _ _ _ (λ _. by_done w _ ev (halves t.relation (relation_at_place w _ t.relation is) _ (same_transfer t.relation.item _ refl refl refl refl))))

pub either : {X : Type 0} (o q : Option X) (x : X) → or_else o q ≡ Some x → (o ≡ Some x) ⊎ (q ≡ Some x)
either (Some y) q x e = inl e
either None q x e = inr e

pub released_at : (w : Up) (o q : (Relationship → Bool)) (r : Found Relationship) → or_else (found o w.relations) (found q w.relations) ≡ Some r → RelationAt w r
released_at w o q r e = go (either (found o w.relations) (found q w.relations) r e)
  where
    go : (found o w.relations ≡ Some r) ⊎ (found q w.relations ≡ Some r) → RelationAt w r
    go (inl f) = relation_at_place w o r f
    go (inr f) = relation_at_place w q r f

pub release : (w : Up) (ev : Event) (s d : List ℕ) → OfOk (Is w ev) (relations.release w s d)
release w ev s d = with_found _ _ _ _ (λ s _. with_found _ _ _ _ (λ d _. with_found _ _ _ _ (λ r is. passing _ _ _ _ _ (λ _. passed _ _ _ _ (λ _.
    by_done w _ ev (halves r (released_at w _ _ r is) _ (same_transfer r.item _ refl refl refl refl)))))))

-- ---- transfers

pub resumed_follows : (r : Relationship) (t : Transfer) → r.transfer ≡ Some t → Follows r (transfers.with_transfer r (transfers.resumed t))
resumed_follows r t e = record {
  number = refl;
  source = refl;
  transfer = λ u f. (t, e, ap (λ y. y.number) (sym (same_Some _ u f)), ap (λ y. y.reserved) (sym (same_Some _ u f)));
  ends = λ u f b. (t, e, b, ap (λ y. y.legs) (sym (same_Some _ u f)));
}

-- a list with members is not empty
pub filled : {X : Type 0} (xs : List X) → is_empty xs ≡ false → xs ≢ []
filled [] e f = absurd (cc)
filled (x ∷ xs) e f = cc

pub started : (w : Up) (r q : Relationship) (kind : TransferKind) (ls : Legs) → q.number ≡ r.number → q.source ≡ r.source → q.transfer ≡ Some (transfers.new_transfer w.next_transfer kind ls) → (q.base ≡ None → ls.idents ≢ []) → Starts w r q
started w r q kind ls m e f n = record {
  number = m;
  source = e;
  transfer = λ u g. ap (λ y. y.number) (sym (same_Some _ u (sym f ∙ g)));
  ends = λ u g b. subst (λ is. is ≢ []) (ap (λ y. y.legs) (same_Some _ u (sym f ∙ g))) (n b);
}

pub start_it : (w : Up) (ev : Event) (r : Found Relationship) (kind : TransferKind) → RelationAt w r → OfOk (Is w ev) (transfers.start_it w r.at r.item kind)
unfolding made_by
start_it w ev r kind a = with_held _ _ _ (λ _. whether_so _ _ _ _ (λ _. by_told w w ev _ (record { makes_none = refl; accepted = λ r e. cc }) (same w ev)) (λ some. past _ _ _ _ (λ _.
    by_told w _ ev _ (record { makes_none = refl; accepted = λ r e. cc }) (starts r a _ (started w r.item _ kind _ refl refl refl (λ _. filled _ some))))))

pub start : (w : Up) (ev : Event) (r : Found Relationship) (kind : TransferKind) (t : Option Transfer) → RelationAt w r → r.item.transfer ≡ t → OfOk (Is w ev) (transfers.resume_or_start w r.at r.item kind t)
unfolding transfers.resume_or_start made_by
start w ev r kind (Some t) a e = by_told w _ ev _ (record { makes_none = refl; accepted = λ r e. cc }) (changes r a _ (resumed_follows r.item t e))
start w ev r kind None a e = start_it w ev r kind a

pub initialize : (w : Up) (ev : Event) (d : List ℕ) → OfOk (Is w ev) (transfers.initialize w d)
initialize w ev d = with_target _ _ _ _ (λ t _ is. passing _ _ _ _ _ (λ _. passing _ _ _ _ _ (λ _. passing _ _ _ _ _ (λ _. passed _ _ _ _ (λ _. start w ev t.relation Initialize _ (relation_at_place w _ t.relation is) refl)))))

pub update : (w : Up) (ev : Event) (d : List ℕ) → OfOk (Is w ev) (transfers.update w d)
update w ev d = with_target _ _ _ _ (λ t _ is. passing _ _ _ _ _ (λ _. passing _ _ _ _ _ (λ _. passing _ _ _ _ _ (λ _. passing _ _ _ _ _ (λ _. passed _ _ _ _ (λ _. start w ev t.relation Update _ (relation_at_place w _ t.relation is) refl))))))

-- a settled leg leaves the number and the mark, and is the base
pub settled_follows : (there : List Snapshot) (r : Relationship) (t : Transfer) (is : List Ident) → r.transfer ≡ Some t → Follows r (progress.settled_if_there there r t is)
settled_follows there r t [] e = same_transfer r r refl refl refl refl
settled_follows there r t (i ∷ is) e = go (has there i)
  where
    go : (b : Bool) → Follows r (cond b (progress.settled r t i is) r)
    go true = record {
      number = refl;
      source = refl;
      transfer = λ u f. (t, e, ap (λ y. y.number) (sym (same_Some _ u f)), ap (λ y. y.reserved) (sym (same_Some _ u f)));
      ends = λ u f b. absurd (cc);
    }
    go false = same_transfer r r refl refl refl refl

pub settled_transfer : (there : List Snapshot) (r : Relationship) (t : Transfer) (is : List Ident) → r.transfer ≡ Some t → (v : Transfer) × ((progress.settled_if_there there r t is).transfer ≡ Some v)
settled_transfer there r t [] e = (t, e)
settled_transfer there r t (i ∷ is) e = go (has there i)
  where
    go : (b : Bool) → (v : Transfer) × ((cond b (progress.settled r t i is) r).transfer ≡ Some v)
    go true = (_, refl)
    go false = (t, e)

pub ended_follows : (r q : Relationship) → Follows r q → Follows r (transfers.without_transfer q)
ended_follows r q f = record { number = f.number; source = f.source; transfer = λ u e. absurd (cc); ends = λ u e b. absurd (cc) }

pub halted_follows : (r q : Relationship) (t : Transfer) → Follows r q → (v : Transfer) × (q.transfer ≡ Some v) → Follows r (transfers.with_transfer q (transfers.halted (transfers.transfer_or t q.transfer)))
halted_follows r q t f (v, g) = subst (λ o. Follows r (transfers.with_transfer q (transfers.halted (transfers.transfer_or t o)))) (sym g) (record {
  number = f.number;
  source = f.source;
  transfer = λ u h. let (a, b, c, d) = f.transfer v g in (a, b, ap (λ y. y.number) (sym (same_Some _ u h)) ∙ c, ap (λ y. y.reserved) (sym (same_Some _ u h)) ∙ d);
  ends = λ u h n. let (a, b, c, d) = f.ends v g n in (a, b, c, ap (λ y. y.legs) (sym (same_Some _ u h)) ∙ d);
})

pub abort : (w : Up) (ev : Event) (d : List ℕ) (hard : Bool) → OfOk (Is w ev) (transfers.abort w d hard)
unfolding made_by
abort w ev d hard = with_target _ _ _ _ (λ d _ is. with_found _ _ _ _ (λ t e. passed _ _ _ _ (λ _.
    let a = relation_at_place w _ d.relation is in let f = settled_follows d.destination.item.snapshots d.relation.item t t.legs e in
    whether_so _ _ _ _ (λ _. by_told w _ ev _ (record { makes_none = refl; accepted = λ r e. cc }) (changes d.relation a _ (ended_follows d.relation.item _ f)))
    (λ _. by_told w _ ev _ (record { makes_none = refl; accepted = λ r e. cc }) (changes d.relation a _ (halted_follows d.relation.item _ t f (settled_transfer d.destination.item.snapshots d.relation.item t t.legs e)))))))

pub resync : (w : Up) (ev : Event) (d : List ℕ) → OfOk (Is w ev) (transfers.resync w d)
unfolding made_by
resync w ev d = with_target _ _ _ _ (λ t _ is. passing _ _ _ _ _ (λ _. passing _ _ _ _ _ (λ _. passing _ _ _ _ _ (λ _. passed _ _ _ _ (λ _. with_found _ _ _ _ (λ c _. with_held _ _ _ (λ _. with_held _ _ _ (λ _. past _ _ _ _ (λ _.
    by_told w _ ev _ (record { makes_none = refl; accepted = λ r e. cc }) (starts t.relation (relation_at_place w _ t.relation is) _ (started w t.relation.item _ Resync _ refl refl refl (λ b. absurd (cc)))))))))))))

pub goes_there : (w : Up) (i : ℕ) (r : Found Relationship) → found (goes_to i) w.relations ≡ Some r → r.item.destination ≡ i
goes_there w i r e = eqb-true r.item.destination i (and_parts r.item.destination_half (r.item.destination == i) (found_passes (goes_to i) w.relations r e)).1

pub goes_half : (w : Up) (i : ℕ) (r : Found Relationship) → found (goes_to i) w.relations ≡ Some r → r.item.destination_half ≡ true
goes_half w i r e = (and_parts r.item.destination_half (r.item.destination == i) (found_passes (goes_to i) w.relations r e)).0

pub at_target : (w : Up) (t : Target) (p : Volume → Bool) → found p w.volumes ≡ Some t.destination → found (goes_to t.destination.at) w.relations ≡ Some t.relation → volume_at w t.relation.item.destination ≡ t.destination.item
at_target w t p at is = ap (volume_at w) (goes_there w t.destination.at t.relation is) ∙ (volume_at_place w p t.destination at).at

pub none_empty : (ss : List Snapshot) → is_empty ss ≡ true → (t : Snapshot) → ¬ (Among ss t)
none_empty [] e t m = m
none_empty (s ∷ ss) e t m = absurd (cc)

pub some_base : (e : Bool) (b : Option Ident) (o : Option Transfer) → (e || (is_none b && is_none o)) ≡ false → o ≡ None → b ≡ None → ⊥
some_base true b o f g h = cc
some_base false (Some i) o f g h = cc
some_base false None (Some t) f g h = cc
some_base false None None f g h = cc

-- Relationships still fit their volumes and each other after each answer.
use Rattle.std.proofs.Common.{◌≡◌, ◌⊎◌, ◌≤◌, ◌<◌, ◌==◌, ◌&&◌, not, ℕ, suc, Bool, true, false, List, [], ◌∷◌, ◌++◌, length, Option, Some, None, refl, sym, ◌∙◌, ap, subst, inl, inr, arith, eqb-true, eq-eqb}
use Rattle.std.specs.Prelude.{slice_get, slice_set, slice_index_or}
use Rattle.std.specs.List.{filter, filter_map}
use Rattle.std.specs.Option.{option_map}
use Rattle.std.proofs.lemmas.Bool.{or_parts, not-false, eqb-false, both_ways, and_from}
use Rattle.std.proofs.lemmas.List.{length-append, length-set}
use Rattle.std.proofs.lemmas.Option.{same_Some, get_or_from_slice_get}
use Rattle.sm_base.specs.declared.numbers.Ident.{Ident}
use Rattle.sm_base.specs.declared.numbers.TransferKind.{TransferKind}
use Rattle.sm_defs.specs.Words.{Among, KeysDiffer, Found}
use Rattle.sm_defs.specs.Volume.{Volume, Snapshot, has, no_volume, new_volume}
use Rattle.sm_defs.specs.Relationship.{Policy, Relationship, Transfer, is_mirror}
use Rattle.sm_defs.specs.Legs.{made_ident}
use Rattle.sm_defs.specs.World.{Up, volume_at, policy_at, with_relation, no_relation}
use Rattle.sm_model.specs.Answers.{goes_to}
use Rattle.sm_model.specs.OfVolumes.{with_new_volume}
use Rattle.sm_model.specs.OfRelations.{has_a_half, without_destination, without_source, new_relation, with_new_relation, quiesced_as, with_halves}
use Rattle.sm_model.specs.OfTransfers.{with_transfer, without_transfer, halted, resumed, new_transfer, next_legs, as_reverted, with_next_transfer}
use Rattle.sm_model.specs.Crossed.{IsReservedLeg, CrossedRelation, CrossedTransfer, transfer_number, Crossed}
use Rattle.sm_model.specs.Sound.{SoundUp}
use Rattle.laws_cases.specs.Needs.{KeepsNeeded}
use Rattle.laws_cases.proofs.Needed.Needs.{push_within}
use Rattle.laws_cases.proofs.Answers.Changes.{RelationAt}
use Rattle.sm_defs.proofs.Members as members
use Rattle.laws_cases.proofs.Moves.Moves.{Aside, Turn, Start, Halve, Relates, IsMove, nothing, clock, new_policy, rule, creates, writes, drops, points, breaks, snaps, quiesces, resumes, ends, ends_settled, halts, halts_settled, starts, resyncs, deletes, releases, aside, relates, turns, begins, halves}
use Rattle.laws_crossed.proofs.CrossedParts.{Differ, dest_key, to_apart, keys_thin, keys_fewer, keys_same, keys_new, crossed_volumes, crossed_set, counted, crossed_list, relation_counted, transfer_counted, SameEnds, relation_with, transfer_with}
use Rattle.laws_crossed.proofs.CrossedKeys.{keys_push_none, keys_push_new, key_from, dest_is}
use Rattle.laws_crossed.proofs.CrossedSteps.{apart_set, relation_set}
use Rattle.laws_crossed.proofs.CrossedLegs.{legs_differ, legs_at_source, common_on_both}
use Rattle.laws_cases.proofs.Answers.Plainly.{not_both}
use Rattle.laws_cases.proofs.Moves.PoliciesStay.{aside_policies}
use Rattle.laws_cases.proofs.Steps.LegsThere.{leg_on_both}
use Rattle.sm_defs.specs.Rules.{with_rule}
use Rattle.sm_defs.specs.Progress.{settled}
use Rattle.sm_defs.proofs.Members.{among_append, among_filter, among_set}
use Rattle.sm_defs.proofs.Thinned.{filter_thins, thinned_differ}
use Rattle.sm_defs.proofs.Searches.{found_none}

-- ---- volumes, policies and the clock

-- only policies and the clock changed
aside_same : (w u : Up) → u.relations ≡ w.relations → u.volumes ≡ w.volumes → u.next_relation ≡ w.next_relation → u.next_transfer ≡ w.next_transfer → length w.policies ≤ length u.policies →
    ((k : ℕ) → k < length w.policies → (policy_at u k).kind ≡ (policy_at w k).kind) → KeepsNeeded w u → Crossed w → Crossed u
aside_same w u e v a b l p n c = crossed_volumes w u (record {
  relations = e;
  volumes = rw v (omega arith);
  policies = l;
  next_relation = rw a (omega arith);
  next_transfer = rw b (omega arith);
  sizes = λ i k. (ap (λ vs. (slice_index_or vs i no_volume).logical) v, ap (λ vs. (slice_index_or vs i no_volume).physical) v);
  kinds = p;
  needed = n;
}) (λ r m h d. (c.relations r m).halves h (ap (λ vs. (slice_index_or vs r.destination no_volume).kind) (sym v) ∙ d)) c

created : (w : Up) (v : Volume) → KeepsNeeded w (with_new_volume w v) → Crossed w → Crossed (with_new_volume w v)
created w v n c = crossed_volumes w (with_new_volume w v) (record {
  relations = refl;
  volumes = let e = length-append w.volumes (v ∷ []) in omega arith;
  policies = omega arith;
  next_relation = omega arith;
  next_transfer = omega arith;
  sizes = λ i l. (ap (λ u. u.logical) (push_within w.volumes v no_volume i l), ap (λ u. u.physical) (push_within w.volumes v no_volume i l));
  kinds = λ k _. refl;
  needed = n;
}) (λ r m h d. (c.relations r m).halves h (ap (λ u. u.kind) (sym (push_within w.volumes v no_volume r.destination (c.relations r m).destination)) ∙ d)) c

of_aside : (w u : Up) → SoundUp w → Aside w u → KeepsNeeded w u → Crossed u
of_aside w u s nothing n = s.crossed
of_aside w u s (clock time) n = aside_same w _ refl refl refl refl (omega arith) (λ k l. refl) n s.crossed
of_aside w u s (new_policy p) n = aside_same w _ refl refl refl refl (let e = length-append w.policies (p ∷ []) in omega arith) (aside_policies w _ (new_policy p)).kinds n s.crossed
of_aside w u s (rule p a r) n = aside_same w _ refl refl refl refl (let e = length-set w.policies p.at (with_rule p.item r) in omega arith) (aside_policies w _ (rule p a r)).kinds n s.crossed
of_aside w u s (creates path disk kind logical physical) n = created w (new_volume path disk kind (length w.volumes) logical physical) n s.crossed
of_aside w u s (writes v a block fill) n = crossed_set w v.at v.item _ a.at refl refl (λ d. d) n s.crossed
of_aside w u s (drops v a t free) n = crossed_set w v.at v.item _ a.at refl refl (λ d. d) n s.crossed
of_aside w u s (points v a) n = crossed_set w v.at v.item _ a.at refl refl (λ d. d) n s.crossed
of_aside w u s (breaks v a dp some r is none) n = crossed_set w v.at v.item _ a.at refl refl (λ d. dp) n s.crossed
of_aside w u s (snaps v a p is name label) n = crossed_set w v.at v.item _ a.at refl refl (λ d. d) n s.crossed

-- ---- Relate

same_at : (a b : ℕ) → not (a == b) ≡ false → a ≡ b
same_at a b e = eqb-true a b (not-false (a == b) e)

mirror_same : (m : Bool) (a b : ℕ) → (m && not (a == b)) ≡ false → m ≡ true → a ≡ b
mirror_same true a b e f = same_at a b e
mirror_same false a b e f = absurd (cc)

new_crossed : (w : Up) (s d : Found Volume) (p : Found Policy) → SoundUp w → Relates w s d p → CrossedRelation (counted w (suc w.next_relation) w.next_transfer) (new_relation w.next_relation s.at d.at p.at)
new_crossed w s d p h f =
    let sizes = or_parts (not (s.item.logical == d.item.logical)) (is_mirror p.item.kind && not (s.item.physical == d.item.physical)) f.sizes in record {
      source = f.source_within;
      destination = f.destination_within;
      policy = f.policy.within;
      apart = eqb-false s.at d.at (or_parts (s.at == d.at) _ f.no_walk).0;
      counts = h.formed.relations_counted.0;
      given = omega arith;
      halves = λ _ _. refl;
      base_at_source = λ i e. absurd (cc);
      base_at_destination = λ i e. absurd (cc);
      logical = ap (λ v. v.logical) f.source.at ∙ (same_at _ _ sizes.0 ∙ ap (λ v. v.logical) (sym f.destination.at));
      physical = λ m. ap (λ v. v.physical) f.source.at ∙ (mirror_same (is_mirror p.item.kind) _ _ sizes.1 (ap (λ q. is_mirror q.kind) (sym f.policy.at) ∙ m) ∙ ap (λ v. v.physical) (sym f.destination.at));
    }

related : (w : Up) (s d : Found Volume) (p : Found Policy) → SoundUp w → Relates w s d p → Crossed (with_new_relation w s.at d.at p.at)
related w s d p h f = crossed_list w (suc w.next_relation) w.next_transfer (w.relations ++ q ∷ [])
    (members.each_push (CrossedRelation (counted w (suc w.next_relation) w.next_transfer)) w.relations q (λ r m. relation_counted w _ _ r (omega arith) (h.crossed.relations r m)) (new_crossed w s d p h f))
    (λ r t m e. transfer r t e (among_append w.relations (q ∷ []) r m))
    (record {
      destinations = keys_push_new dest_key w.relations q d.at refl no_other (to_apart w h.crossed).destinations;
      transfers = subst Differ (sym (keys_push_none transfer_number w.relations q refl)) (to_apart w h.crossed).transfers;
    })
  where
    q : Relationship
    q = new_relation w.next_relation s.at d.at p.at

    transfer : (r : Relationship) (t : Transfer) → r.transfer ≡ Some t → Among w.relations r ⊎ Among (q ∷ []) r → CrossedTransfer (counted w (suc w.next_relation) w.next_transfer) r t
    transfer r t e (inl m) = transfer_counted w _ _ r t (omega arith) (h.crossed.transfers r t m e)
    transfer r t e (inr (inl i)) = absurd (let g : None ≡ Some t = ap (λ y. y.transfer) (sym i) ∙ e in cc)
    transfer r t e (inr (inr m)) = absurd m

    no_other : (m : ℕ) → Among (filter_map dest_key w.relations) m → ¬ (m ≡ d.at)
    no_other m k e = let (r, n, g) = key_from dest_key w.relations m k in let (b, c) = dest_is r m g in
        both_ways (goes_to d.at r) (found_none (goes_to d.at) w.relations r f.no_other n) (and_from r.destination_half (r.destination == d.at) b (eq-eqb r.destination d.at (c ∙ e)))

-- ---- the relationship goes on

numbered : (r q : Relationship) (t u : Transfer) → r.transfer ≡ Some t → q.transfer ≡ Some u → u.number ≡ t.number → transfer_number q ≡ transfer_number r
numbered r q t u e f n = ap (option_map (λ (v : Transfer). v.number)) f ∙ (ap Some n ∙ sym (ap (option_map (λ (v : Transfer). v.number)) e))

same_ends : {r q : Relationship} → q.source ≡ r.source → q.destination ≡ r.destination → q.policy ≡ r.policy → q.number ≡ r.number → SameEnds r q
same_ends a b c d = record { source = a; destination = b; policy = c; number = d }

-- the same number and mark, and some of the legs
abbrev Legs : Transfer → Transfer → Type 0
Legs t u = (u.number ≡ t.number) × (u.reserved ≡ t.reserved) × KeysDiffer (λ (i : Ident). i) u.legs × ((i : Ident) → Among u.legs i → Among t.legs i)

-- with the same halves, and some of its legs
turned : (w : Up) (r : Found Relationship) (q : Relationship) → SoundUp w → RelationAt w r → SameEnds r.item q → q.source_half ≡ r.item.source_half → q.destination_half ≡ r.item.destination_half → CrossedRelation w q →
    ((u : Transfer) → q.transfer ≡ Some u → (t : Transfer) × (r.item.transfer ≡ Some t) × Legs t u) →
    (transfer_number q ≡ transfer_number r.item) ⊎ (transfer_number q ≡ None) → Crossed (with_relation w r.at q)
turned w r q s a e x y c h n = relation_set w r.at q s.crossed c
    (λ u f. let (t, g, (i, j, k, l)) = h u f in transfer_with w r.item q t u e.source x y i j k l (s.crossed.transfers r.item t a.among g))
    (apart_set w r.at r.item q a.at (same_key q r.item y e.destination) n (to_apart w s.crossed))
  where
    same_key : (q r : Relationship) → q.destination_half ≡ r.destination_half → q.destination ≡ r.destination → dest_key q ≡ dest_key r
    same_key q r b d = rw (b, d) refl

-- the same base
same_base : (w : Up) (r q : Relationship) → SameEnds r q → q.source_half ≡ r.source_half → q.destination_half ≡ r.destination_half → q.base ≡ r.base → CrossedRelation w r → CrossedRelation w q
same_base w r q e x y b o = relation_with w r q e (λ h d. x ∙ o.halves (sym y ∙ h) (ap (λ i. (volume_at w i).kind) (sym e.destination) ∙ d))
    (λ i f h. subst (λ v. has (volume_at w v).snapshots i ≡ true) (sym e.source) (o.base_at_source i (sym b ∙ f) (sym x ∙ h)))
    (λ i f h. subst (λ v. has (volume_at w v).snapshots i ≡ true) (sym e.destination) (o.base_at_destination i (sym b ∙ f) (sym y ∙ h))) o

-- a leg that the destination has is the base
leg_base : (w : Up) (r q : Relationship) (t : Transfer) (i : Ident) → SoundUp w → Among w.relations r → r.transfer ≡ Some t → Among t.legs i → has (volume_at w r.destination).snapshots i ≡ true → SameEnds r q → q.source_half ≡ r.source_half → q.base ≡ Some i → CrossedRelation w q
leg_base w r q t i s m f l d e x b = relation_with w r q e (λ _ _. x ∙ (s.crossed.transfers r t m f).at_source)
    (λ j g _. subst (λ v. has (volume_at w v).snapshots j ≡ true) (sym e.source) (subst (λ k. has (volume_at w r.source).snapshots k ≡ true) (same_Some i j (sym b ∙ g)) (leg_on_both w r t i s m f l d)))
    (λ j g _. subst (λ v. has (volume_at w v).snapshots j ≡ true) (sym e.destination) (subst (λ k. has (volume_at w r.destination).snapshots k ≡ true) (same_Some i j (sym b ∙ g)) d)) (s.crossed.relations r m)

-- its one transfer
one_transfer : (r q : Relationship) (t v : Transfer) → r.transfer ≡ Some t → q.transfer ≡ Some v → Legs t v → (u : Transfer) → q.transfer ≡ Some u → (t : Transfer) × (r.transfer ≡ Some t) × Legs t u
one_transfer r q t v e f l u g = (t, e, subst (Legs t) (same_Some v u (sym f ∙ g)) l)

no_transfer : (r q : Relationship) → q.transfer ≡ None → (u : Transfer) → q.transfer ≡ Some u → (t : Transfer) × (r.transfer ≡ Some t) × Legs t u
no_transfer r q e u f = absurd (let g : ◌≡◌ {A = Option Transfer} None (Some u) = sym e ∙ f in cc)

first_leg : (t : Transfer) (i : Ident) (later : List Ident) → t.legs ≡ i ∷ later → Among t.legs i
first_leg t i later l = subst (λ is. Among is i) (sym l) (inl refl)

-- with the same base
turned_same : (w : Up) (r : Found Relationship) (q : Relationship) → SoundUp w → RelationAt w r → SameEnds r.item q → q.source_half ≡ r.item.source_half → q.destination_half ≡ r.item.destination_half → q.base ≡ r.item.base →
    ((u : Transfer) → q.transfer ≡ Some u → (t : Transfer) × (r.item.transfer ≡ Some t) × Legs t u) → (transfer_number q ≡ transfer_number r.item) ⊎ (transfer_number q ≡ None) → Crossed (with_relation w r.at q)
turned_same w r q s a e x y b = turned w r q s a e x y (same_base w r.item q e x y b (s.crossed.relations r.item a.among))

-- on, with the same legs
turned_on : (w : Up) (r : Found Relationship) (t u : Transfer) → SoundUp w → RelationAt w r → r.item.transfer ≡ Some t → u.number ≡ t.number → u.reserved ≡ t.reserved → u.legs ≡ t.legs → Crossed (with_relation w r.at (with_transfer r.item u))
turned_on w r t u s a e n z l = turned_same w r (with_transfer r.item u) s a (same_ends refl refl refl refl) refl refl refl
    (one_transfer r.item (with_transfer r.item u) t u e refl (n, z, subst (KeysDiffer (λ (i : Ident). i)) (sym l) (s.crossed.transfers r.item t a.among e).legs_differ, λ i m. subst (λ is. Among is i) l m))
    (inl (numbered r.item (with_transfer r.item u) t u e refl n))

-- with its first leg settled
turned_settled : (w : Up) (r : Found Relationship) (q : Relationship) (t : Transfer) (i : Ident) (later : List Ident) → SoundUp w → RelationAt w r → r.item.transfer ≡ Some t → t.legs ≡ i ∷ later → has (volume_at w r.item.destination).snapshots i ≡ true →
    SameEnds r.item q → q.source_half ≡ r.item.source_half → q.destination_half ≡ r.item.destination_half → q.base ≡ Some i →
    ((u : Transfer) → q.transfer ≡ Some u → (t : Transfer) × (r.item.transfer ≡ Some t) × Legs t u) → (transfer_number q ≡ transfer_number r.item) ⊎ (transfer_number q ≡ None) → Crossed (with_relation w r.at q)
turned_settled w r q t i later s a e l h o x y b = turned w r q s a o x y (leg_base w r.item q t i s a.among e (first_leg t i later l) h o x b)

of_turn : (w : Up) (r : Found Relationship) (q : Relationship) → SoundUp w → RelationAt w r → Turn w r.item q → Crossed (with_relation w r.at q)
of_turn w r q s a (quiesces flag) = turned_same w r (quiesced_as flag r.item) s a (same_ends refl refl refl refl) refl refl refl
    (λ u e. (u, e, (refl, refl, (s.crossed.transfers r.item u a.among e).legs_differ, λ i m. m))) (inl refl)
of_turn w r q s a (resumes t e dp) = turned_on w r t (resumed t) s a e refl refl refl
of_turn w r q s a (ends t e n) = turned_same w r (without_transfer r.item) s a (same_ends refl refl refl refl) refl refl refl (no_transfer r.item (without_transfer r.item) refl) (inr refl)
of_turn w r q s a (ends_settled t i later e l h) = turned_settled w r (without_transfer (settled r.item t i later)) t i later s a e l h (same_ends refl refl refl refl) refl refl refl
    (no_transfer r.item (without_transfer (settled r.item t i later)) refl) (inr refl)
of_turn w r q s a (halts t i later e l h) = turned_on w r t (halted t) s a e refl refl refl
of_turn w r q s a (halts_settled t i later e l some h) = let v : Transfer = halted (record t { legs = later; checkpoint = 0; landed = [] }) in
    turned_settled w r (with_transfer (settled r.item t i later) v) t i later s a e l h (same_ends refl refl refl refl) refl refl refl
    (one_transfer r.item (with_transfer (settled r.item t i later) v) t v e refl
    (refl, refl, (subst (KeysDiffer (λ (n : Ident). n)) l (s.crossed.transfers r.item t a.among e).legs_differ).1, λ n m. subst (λ ks. Among ks n) (sym l) (inr m)))
    (inl (numbered r.item (with_transfer (settled r.item t i later) v) t v e refl refl))

-- ---- the next transfer

-- the relationship has the same ends, and the next transfer
begun : (w : Up) (r : Found Relationship) (q : Relationship) (kind : TransferKind) (base : Option Ident) (there : List Snapshot) → SoundUp w → RelationAt w r → SameEnds r.item q → q.source_half ≡ true → q.destination_half ≡ true → r.item.destination_half ≡ true →
    q.transfer ≡ Some (new_transfer w.next_transfer kind (next_legs w r.item base there)) → CrossedRelation w q → Crossed (with_next_transfer w r.at q)
begun w r q kind base there s a e x y half f o = crossed_list w w.next_relation (suc w.next_transfer) (slice_set w.relations r.at q)
    (λ p m. relation p (among_set w.relations r.at q p m)) (λ p u m. transfer p u (among_set w.relations r.at q p m))
    (record {
      destinations = subst Differ (sym (keys_same dest_key w.relations r.at q (λ p g. same_key ∙ ap dest_key (here p g)))) (to_apart w s.crossed).destinations;
      transfers = keys_new transfer_number w.relations r.at q w.next_transfer (ap (option_map (λ (v : Transfer). v.number)) f) older (to_apart w s.crossed).transfers;
    })
  where
    here : (p : Relationship) → slice_get w.relations r.at ≡ Some p → r.item ≡ p
    here p g = sym a.at ∙ get_or_from_slice_get w.relations r.at p no_relation g

    same_key : dest_key q ≡ dest_key r.item
    same_key = rw (y, half, e.destination) refl

    older : (n : ℕ) → Among (filter_map transfer_number w.relations) n → ¬ (n ≡ w.next_transfer)
    older n m i = let (p, l, g) = key_from transfer_number w.relations n m in by p l p.transfer refl g
      where
        by : (p : Relationship) → Among w.relations p → (o : Option Transfer) → p.transfer ≡ o → option_map (λ (v : Transfer). v.number) o ≡ Some n → ⊥
        by p l None g h = absurd (cc)
        by p l (Some v) g h = let k = (s.crossed.transfers p v l g).given in let j = same_Some v.number n h in omega (arith, k, j, i)

    relation : (p : Relationship) → (p ≡ q) ⊎ Among w.relations p → CrossedRelation (counted w w.next_relation (suc w.next_transfer)) p
    relation p (inl i) = subst (CrossedRelation (counted w w.next_relation (suc w.next_transfer))) (sym i) (relation_counted w _ _ q (omega arith) o)
    relation p (inr m) = relation_counted w _ _ p (omega arith) (s.crossed.relations p m)

    first : CrossedTransfer (counted w w.next_relation (suc w.next_transfer)) q (new_transfer w.next_transfer kind (next_legs w r.item base there))
    first = record {
      at_source = x;
      at_destination = y;
      counts = s.formed.transfers_counted.0;
      given = omega arith;
      legs_differ = legs_differ w r.item base there s a.among;
      legs_at_source = λ i m. by i (legs_at_source w r.item kind base there i m);
    }
      where
        by : (i : Ident) → (has (volume_at w r.item.source).snapshots i ≡ true) ⊎ IsReservedLeg r.item (new_transfer w.next_transfer kind (next_legs w r.item base there)) i →
            (has (volume_at w q.source).snapshots i ≡ true) ⊎ IsReservedLeg q (new_transfer w.next_transfer kind (next_legs w r.item base there)) i
        by i (inl h) = inl (subst (λ j. has (volume_at w j).snapshots i ≡ true) (sym e.source) h)
        by i (inr (z, h)) = inr (z, h ∙ ap (λ j. made_ident j w.next_transfer) (sym e.source))

    transfer : (p : Relationship) (u : Transfer) → (p ≡ q) ⊎ Among w.relations p → p.transfer ≡ Some u → CrossedTransfer (counted w w.next_relation (suc w.next_transfer)) p u
    transfer p u (inl i) g = subst (λ z. CrossedTransfer (counted w w.next_relation (suc w.next_transfer)) z u) (sym i)
        (subst (CrossedTransfer (counted w w.next_relation (suc w.next_transfer)) q) (same_Some _ u (sym f ∙ (ap (λ z. z.transfer) (sym i) ∙ g))) first)
    transfer p u (inr m) g = transfer_counted w _ _ p u (omega arith) (s.crossed.transfers p u m g)

of_start : (w : Up) (r : Found Relationship) (q : Relationship) → SoundUp w → RelationAt w r → r.item.destination_half ≡ true → Start w r.item q → Crossed (with_next_transfer w r.at q)
of_start w r q s a half (starts kind k none dp first some) = begun w r _ kind r.item.base (volume_at w r.item.destination).snapshots s a (same_ends refl refl refl refl) ((s.crossed.relations r.item a.among).halves half dp) half half refl
    (same_base w r.item _ (same_ends refl refl refl refl) refl refl refl (s.crossed.relations r.item a.among))
of_start w r q s a half (resyncs c e rw_there same) = begun w r _ _ (Some c.ident) (as_reverted (policy_at w r.item.policy) c.ident (volume_at w r.item.destination).snapshots) s a (same_ends refl refl refl refl) refl half half refl
    (relation_with w r.item _ (same_ends refl refl refl refl) (λ _ _. refl)
    (λ i f _. subst (λ j. has (volume_at w r.item.source).snapshots j ≡ true) (same_Some c.ident i f) both.0)
    (λ i f _. subst (λ j. has (volume_at w r.item.destination).snapshots j ≡ true) (same_Some c.ident i f) both.1) (s.crossed.relations r.item a.among))
  where
    both : (has (volume_at w r.item.source).snapshots c.ident ≡ true) × (has (volume_at w r.item.destination).snapshots c.ident ≡ true)
    both = common_on_both (volume_at w r.item.source).snapshots (volume_at w r.item.destination).snapshots c e

-- ---- a half goes

-- without a transfer, with the same end where its destination half stays
halved : (w : Up) (r : Found Relationship) (q : Relationship) → SoundUp w → RelationAt w r → q.transfer ≡ None → r.item.transfer ≡ None → (dest_key q ≡ dest_key r.item) ⊎ (dest_key q ≡ None) → CrossedRelation w q → Crossed (with_halves w r.at q)
halved w r q s a e f d o = crossed_list w w.next_relation w.next_transfer (filter has_a_half (slice_set w.relations r.at q))
    (λ p m. relation p (among_set w.relations r.at q p (among_filter has_a_half (slice_set w.relations r.at q) p m).0))
    (λ p u m. transfer p u (among_set w.relations r.at q p (among_filter has_a_half (slice_set w.relations r.at q) p m).0))
    (record {
      destinations = thinned_differ (λ (n : ℕ). n) (keys_thin dest_key (filter_thins has_a_half (slice_set w.relations r.at q))) (ends_apart d);
      transfers = thinned_differ (λ (n : ℕ). n) (keys_thin transfer_number (filter_thins has_a_half (slice_set w.relations r.at q)))
          (thinned_differ (λ (n : ℕ). n) (keys_fewer transfer_number w.relations r.at q (ap (option_map (λ (v : Transfer). v.number)) e)) (to_apart w s.crossed).transfers);
    })
  where
    here : (p : Relationship) → slice_get w.relations r.at ≡ Some p → r.item ≡ p
    here p g = sym a.at ∙ get_or_from_slice_get w.relations r.at p no_relation g

    ends_apart : (dest_key q ≡ dest_key r.item) ⊎ (dest_key q ≡ None) → Differ (filter_map dest_key (slice_set w.relations r.at q))
    ends_apart (inl k) = subst Differ (sym (keys_same dest_key w.relations r.at q (λ p g. k ∙ ap dest_key (here p g)))) (to_apart w s.crossed).destinations
    ends_apart (inr k) = thinned_differ (λ (n : ℕ). n) (keys_fewer dest_key w.relations r.at q k) (to_apart w s.crossed).destinations

    relation : (p : Relationship) → (p ≡ q) ⊎ Among w.relations p → CrossedRelation (counted w w.next_relation w.next_transfer) p
    relation p (inl i) = subst (CrossedRelation (counted w w.next_relation w.next_transfer)) (sym i) (relation_counted w _ _ q (omega arith) o)
    relation p (inr m) = relation_counted w _ _ p (omega arith) (s.crossed.relations p m)

    transfer : (p : Relationship) (u : Transfer) → (p ≡ q) ⊎ Among w.relations p → p.transfer ≡ Some u → CrossedTransfer (counted w w.next_relation w.next_transfer) p u
    transfer p u (inl i) g = absurd (let h : ◌≡◌ {A = Option Transfer} None (Some u) = sym e ∙ (ap (λ z. z.transfer) (sym i) ∙ g) in cc)
    transfer p u (inr m) g = transfer_counted w _ _ p u (omega arith) (s.crossed.transfers p u m g)

of_halve : (w : Up) (r : Found Relationship) (q : Relationship) → SoundUp w → RelationAt w r → Halve w r.item q → Crossed (with_halves w r.at q)
of_halve w r q s a (deletes half none) = let o = s.crossed.relations r.item a.among in halved w r (without_destination r.item) s a none none (inr refl)
    (relation_with w r.item (without_destination r.item) (same_ends refl refl refl refl) (λ h. absurd (cc)) o.base_at_source (λ i f h. absurd (cc)) o)
of_halve w r q s a (releases writable none) = let o = s.crossed.relations r.item a.among in halved w r (without_source r.item) s a none none (inl refl)
    (relation_with w r.item (without_source r.item) (same_ends refl refl refl refl) (λ h d. absurd (not_both _ (writable h) d)) (λ i f h. absurd (cc)) o.base_at_destination o)

pub of_move : (w u : Up) → SoundUp w → IsMove w u → KeepsNeeded w u → Crossed u
of_move w u s (aside a) n = of_aside w u s a n
of_move w u s (relates a b p f) n = related w a b p s f
of_move w u s (turns r a h q f) n = of_turn w r q s a f
of_move w u s (begins r a h q f) n = of_start w r q s a h f
of_move w u s (halves r a q f) n = of_halve w r q s a f

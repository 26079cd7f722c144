-- What was shipped still fits after each answer.
use Rattle.std.proofs.Common.{◌≡◌, ◌⊎◌, ◌<◌, ℕ, true, false, [], length, Option, Some, None, refl, sym, ◌∙◌, ap, subst, inl, inr, true≢false}
use Rattle.sm_base.specs.declared.numbers.Ident.{Ident}
use Rattle.sm_base.specs.declared.numbers.Kind.TheVariants.{Rw}
use Rattle.sm_defs.specs.Needed.{needed}
use Rattle.sm_defs.specs.Words.{Among}
use Rattle.sm_defs.specs.Volume.{Volume, Snapshot, ident_of, has, numbers, no_volume}
use Rattle.sm_defs.specs.Relationship.{Relationship, Transfer}
use Rattle.sm_defs.specs.World.{Up, volume_at, policy_at, with_volume}
use Rattle.sm_model.specs.OfRelations.{without_destination, without_source, new_relation, quiesced_as}
use Rattle.sm_model.specs.OfTransfers.{with_transfer, without_transfer, halted, resumed}
use Rattle.sm_model.specs.Running.{running_in}
use Rattle.sm_model.specs.Steps.{snapshot_of}
use Rattle.sm_model.specs.LegsFit.{LegsFitFor, LegsFit}
use Rattle.sm_model.specs.Sound.{SoundUp}
use Rattle.laws_cases.specs.Needs.{KeepsNeeded}
use Rattle.laws_cases.proofs.Needed.Needs.{set_cases, push_within}
use Rattle.laws_cases.proofs.Needed.NeededHere.{base_at_source, leg_at_source}
use Rattle.laws_cases.proofs.Needed.Leaving.{same_member}
use Rattle.sm_model.proofs.Found.{found_one}
use Rattle.laws_cases.proofs.Steps.Parties.{snapshot_is}
use Rattle.laws_cases.proofs.Answers.Plainly.{relation_at_place}
use Rattle.laws_cases.proofs.Steps.Costs.{prefix_at_most}
use Rattle.laws_cases.proofs.Moves.Moves.{Aside, Turn, Start, Halve, IsMove, nothing, clock, new_policy, rule, creates, writes, drops, points, breaks, snaps, quiesces, resumes, ends, ends_settled, halts, halts_settled, starts, resyncs, deletes, releases, aside, relates, turns, begins, halves}
use Rattle.laws_cases.proofs.Moves.OfMoves.{aside_relations}
use Rattle.laws_cases.proofs.Lists.MoveFrames.{OfOne, each_set, each_push, each_halved, none_of, one_of}
use Rattle.laws_copies.proofs.Arriving as arriving
use Rattle.laws_copies.proofs.Arriving.{IsOldOrNew, Arrives}
use Rattle.laws_legs.proofs.FitParts.{Alike, Rests, fits_rested, fits_alike, fits_unbegun}
use Rattle.laws_cases.proofs.Answers.OfRelationEvents.{goes_there, goes_half}
use Rattle.laws_cases.proofs.Moves.PoliciesStay.{PoliciesStay, aside_policies}
use Rattle.laws_cases.proofs.Steps.RunningTransfers.{one_destination}
use Rattle.sm_defs.specs.Operations.{writable}
use Rattle.sm_defs.specs.Progress.{settled, landed_prefix}
use Rattle.sm_defs.proofs.Members.{among_get_or}

abbrev pub FitsIn : Up → Relationship → Transfer → Type 0
FitsIn w r t = LegsFitFor (running_in w r t)

-- ---- what is needed on a volume is there as it was

pub keeps_found : (w u : Up) → SoundUp w → Arrives w u → KeepsNeeded w u → (v : ℕ) → v < length w.volumes → (i : Ident) → needed w v i ≡ true → has (volume_at w v).snapshots i ≡ true →
    snapshot_of (volume_at u v).snapshots (Some i) ≡ snapshot_of (volume_at w v).snapshots (Some i)
keeps_found w u s a k v l i n h =
    let (x, e) = found_one (volume_at u v).snapshots i (k v i h n) in let (y, f) = found_one (volume_at w v).snapshots i h in
    let p = snapshot_is (volume_at u v).snapshots i x e in let q = snapshot_is (volume_at w v).snapshots i y f in
    e ∙ (ap Some (same x y p.1 q.0 q.1 (a v l x p.0)) ∙ sym f)
  where
    same : (x y : Snapshot) → x.ident ≡ i → Among (volume_at w v).snapshots y → y.ident ≡ i → IsOldOrNew (volume_at w v).snapshots x → x ≡ y
    same x y e m f (inl o) = same_member ident_of (volume_at w v).snapshots x y (s.tags_fit (volume_at w v) (among_get_or w.volumes v no_volume l)).idents_differ o m (e ∙ sym f)
    same x y e m f (inr o) = absurd (true≢false (sym (subst (λ j. has (volume_at w v).snapshots j ≡ true) (sym e) h) ∙ o))

-- a transfer sees the same where its destination is the same
pub alike_framed : (w u : Up) → SoundUp w → PoliciesStay w u → Arrives w u → KeepsNeeded w u → (r : Relationship) (t : Transfer) → Among w.relations r → r.transfer ≡ Some t → volume_at u r.destination ≡ volume_at w r.destination → Alike (running_in w r t) (running_in u r t)
alike_framed w u s p a k r t m e d = record {
  destination = d;
  kind = p.kinds r.policy (s.crossed.relations r m).policy;
  base = refl;
  base_there = base r.base refl;
  legs = λ i l h. keeps_found w u s a k r.source within i (leg_at_source w r t i m half e l) h;
  stay = λ i l h. k r.source i h (leg_at_source w r t i m half e l);
  from = λ x n l h. old x h (a r.source within x n);
}
  where
    within : r.source < length w.volumes
    within = (s.crossed.relations r m).source

    half : r.source_half ≡ true
    half = (s.crossed.transfers r t m e).at_source

    base : (o : Option Ident) → r.base ≡ o → snapshot_of (volume_at u r.source).snapshots o ≡ snapshot_of (volume_at w r.source).snapshots o
    base None f = refl
    base (Some i) f = keeps_found w u s a k r.source within i (base_at_source w r i m half f) ((s.crossed.relations r m).base_at_source i f half)

    old : (x : Snapshot) → has (volume_at w r.source).snapshots x.ident ≡ true → IsOldOrNew (volume_at w r.source).snapshots x → Among (volume_at w r.source).snapshots x
    old x h (inl o) = o
    old x h (inr o) = absurd (true≢false (sym h ∙ o))

-- its destination is as it was, or was writable, so that nothing was shipped
abbrev pub Untouched : Up → Up → Relationship → Type 0
Untouched w u r = (volume_at u r.destination ≡ volume_at w r.destination) ⊎ ((volume_at w r.destination).kind ≡ Rw)

pub fits_framed : (w u : Up) → SoundUp w → PoliciesStay w u → Arrives w u → KeepsNeeded w u → (r : Relationship) (t : Transfer) → Among w.relations r → r.transfer ≡ Some t → Untouched w u r → FitsIn u r t
fits_framed w u s p a k r t m e (inl d) = fits_alike (running_in w r t) (running_in u r t) (alike_framed w u s p a k r t m e d) refl (s.legs_fit r t m e)
fits_framed w u s p a k r t m e (inr d) = let b = s.transfers_stand r t m e in let (x, c, l, y) = b.writable d in
    fits_unbegun (running_in u r t) c l (λ _ z. absurd (true≢false (sym z ∙ b.unpruned d)))

pub untouched_rw : (w : Up) (i : ℕ) (v u : Volume) (r : Relationship) → volume_at w i ≡ v → v.kind ≡ Rw → Untouched w (with_volume w i u) r
untouched_rw w i v u r a k = go (set_cases w.volumes i r.destination u no_volume)
  where
    go : (volume_at (with_volume w i u) r.destination ≡ volume_at w r.destination) ⊎ ((r.destination ≡ i) × (volume_at (with_volume w i u) r.destination ≡ u)) → Untouched w (with_volume w i u) r
    go (inl e) = inl e
    go (inr (d, e)) = inr (ap (λ y. y.kind) (ap (volume_at w) d ∙ a) ∙ k)

untouched : (w u : Up) (r : Relationship) (t : Transfer) → SoundUp w → Among w.relations r → r.transfer ≡ Some t → Aside w u → Untouched w u r
untouched w u r t s m e nothing = inl refl
untouched w u r t s m e (clock time) = inl refl
untouched w u r t s m e (new_policy p) = inl refl
untouched w u r t s m e (rule p a x) = inl refl
untouched w u r t s m e (creates path disk kind logical physical) = inl (push_within w.volumes _ no_volume r.destination (s.crossed.relations r m).destination)
untouched w u r t s m e (writes v a block fill) = untouched_rw w v.at v.item _ r a.at a.is_rw
untouched w u r t s m e (drops v a x free) = untouched_rw w v.at v.item _ r a.at a.is_rw
untouched w u r t s m e (points v a) = untouched_rw w v.at v.item _ r a.at a.is_rw
untouched w u r t s m e (breaks v a dp some q is none) = go (set_cases w.volumes v.at r.destination _ no_volume)
  where
    no_transfer : r.destination ≡ v.at → ⊥
    no_transfer d = let b = relation_at_place w _ q is in
        let same = one_destination w r q.item s m b.among (s.crossed.transfers r t m e).at_destination (goes_half w v.at q is) (d ∙ sym (goes_there w v.at q is)) in
        let f : ◌≡◌ {A = Option Transfer} None (Some t) = sym none ∙ (ap (λ y. y.transfer) (sym same) ∙ e) in cc

    go : (volume_at (with_volume w v.at (writable v.item)) r.destination ≡ volume_at w r.destination) ⊎ ((r.destination ≡ v.at) × (volume_at (with_volume w v.at (writable v.item)) r.destination ≡ writable v.item)) →
        Untouched w (with_volume w v.at (writable v.item)) r
    go (inl f) = inl f
    go (inr (d, f)) = absurd (no_transfer d)
untouched w u r t s m e (snaps v a p is name label) = untouched_rw w v.at v.item _ r a.at a.is_rw

of_aside : (w u : Up) → SoundUp w → Aside w u → KeepsNeeded w u → LegsFit u
of_aside w u s a k r t m e = let here = subst (λ rs. Among rs r) (aside_relations w u a) m in
    fits_framed w u s (aside_policies w u a) (arriving.of_aside w u s a) k r t here e (untouched w u r t s here e a)

-- ---- the relationship goes on

-- with the same ends, policy and base
pub alike_turned : (w : Up) (r q : Relationship) (t u : Transfer) → q.source ≡ r.source → q.destination ≡ r.destination → q.policy ≡ r.policy → q.base ≡ r.base → Alike (running_in w r t) (running_in w q u)
alike_turned w r q t u es ed ep eb = record {
  destination = ap (volume_at w) ed;
  kind = ap (λ k. (policy_at w k).kind) ep;
  base = eb;
  base_there = ap (λ o. snapshot_of (volume_at w q.source).snapshots o) eb ∙ ap (λ n. snapshot_of (volume_at w n).snapshots r.base) es;
  legs = λ i _ _. ap (λ n. snapshot_of (volume_at w n).snapshots (Some i)) es;
  stay = λ i _ h. subst (λ n. has (volume_at w n).snapshots i ≡ true) (sym es) h;
  from = λ x m _ _. subst (λ n. Among (volume_at w n).snapshots x) es m;
}

pub resumed_rests : (t u : Transfer) → u.legs ≡ t.legs → u.checkpoint ≡ t.checkpoint → u.landed ≡ numbers 0 t.checkpoint → u.pruned ≡ false → Rests t u
resumed_rests t u l c d p = record { legs = l; landed = d ∙ ap (numbers 0) (sym c); unpruned = p; began = λ n. inl (λ z. n (c ∙ z)); near = λ far h _. rw c h }

halted_rests : (t : Transfer) → Rests t (halted t)
halted_rests t = record { legs = refl; landed = refl; unpruned = refl; began = λ n. inr (λ z. n (ap landed_prefix z)); near = λ far _ h. prefix_at_most t.landed far h }

of_turn : (w : Up) (r q : Relationship) → SoundUp w → Among w.relations r → Turn w r q → OfOne (FitsIn w) q
of_turn w r q s m (quiesces flag) = λ t e. fits_alike (running_in w r t) (running_in w (quiesced_as flag r) t) (alike_turned w r (quiesced_as flag r) t t refl refl refl refl) refl (s.legs_fit r t m e)
of_turn w r q s m (resumes t e dp) = one_of (FitsIn w) (with_transfer r (resumed t)) (resumed t) refl
    (fits_rested (running_in w r t) (running_in w (with_transfer r (resumed t)) (resumed t)) (alike_turned w r (with_transfer r (resumed t)) t (resumed t) refl refl refl refl) (resumed_rests t (resumed t) refl refl refl refl) (s.legs_fit r t m e))
of_turn w r q s m (ends t e n) = none_of (FitsIn w) (without_transfer r) refl
of_turn w r q s m (ends_settled t i later e l h) = none_of (FitsIn w) (without_transfer (settled r t i later)) refl
of_turn w r q s m (halts t i later e l h) = one_of (FitsIn w) (with_transfer r (halted t)) (halted t) refl
    (fits_rested (running_in w r t) (running_in w (with_transfer r (halted t)) (halted t)) (alike_turned w r (with_transfer r (halted t)) t (halted t) refl refl refl refl) (halted_rests t) (s.legs_fit r t m e))
of_turn w r q s m (halts_settled t i later e l n h) = let v : Transfer = halted (record t { legs = later; checkpoint = 0; landed = [] }) in
    one_of (FitsIn w) (with_transfer (settled r t i later) v) v refl (fits_unbegun (running_in w (with_transfer (settled r t i later) v) v) refl refl (λ _ p. absurd (true≢false (sym p))))

of_start : (w : Up) (r q : Relationship) → Start w r q → OfOne (FitsIn w) q
of_start w r q (starts kind k none dp first some) = one_of (FitsIn w) _ _ refl (fits_unbegun _ refl refl (λ _ p. absurd (true≢false (sym p))))
of_start w r q (resyncs c e rw_there same) = one_of (FitsIn w) _ _ refl (fits_unbegun _ refl refl (λ _ p. absurd (true≢false (sym p))))

of_halve : (w : Up) (r q : Relationship) → Halve w r q → OfOne (FitsIn w) q
of_halve w r q (deletes h none) = none_of (FitsIn w) (without_destination r) none
of_halve w r q (releases h none) = none_of (FitsIn w) (without_source r) none

pub of_move : (w u : Up) → SoundUp w → IsMove w u → KeepsNeeded w u → LegsFit u
of_move w u s (aside a) n = of_aside w u s a n
of_move w u s (relates a b p f) n = each_push (FitsIn w) w.relations _ s.legs_fit (none_of (FitsIn w) (new_relation w.next_relation a.at b.at p.at) refl)
of_move w u s (turns r a h q f) n = each_set (FitsIn w) w.relations r.at q s.legs_fit (of_turn w r.item q s a.among f)
of_move w u s (begins r a h q f) n = each_set (FitsIn w) w.relations r.at q s.legs_fit (of_start w r.item q f)
of_move w u s (halves r a q f) n = each_halved (FitsIn w) w.relations r.at q s.legs_fit (of_halve w r.item q f)

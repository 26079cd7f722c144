-- Events that start, resume or stop a transfer, where blocks are read as zeros.
use Rattle.std.proofs.Common.{◌≡◌, ℕ, ◌||◌, ◌==◌, not, cond, Bool, List, [], ◌∷◌, length, Option, None, Some, refl, ap, ◌∙◌}
use Rattle.std.specs.List.{filter}
use mathlib.Core.Path.{fun_ext}
use Rattle.sm_base.specs.declared.numbers.Ident.{Ident}
use Rattle.sm_base.specs.declared.numbers.TransferKind.{TransferKind}
use Rattle.sm_base.specs.declared.numbers.TransferKind.TheVariants.{Initialize, Update, Resync}
use Rattle.sm_base.specs.declared.refusal.Refusal.TheVariants as refusals
use Rattle.sm_base.specs.declared.refusal.What.TheVariants.{Transfers}
use Rattle.sm_model.specs.declared.reply.Reply.TheVariants as replies
use Rattle.sm_defs.specs.Words.{last_that}
use Rattle.sm_defs.specs.Volume.{Volume, Snapshot, has}
use Rattle.sm_defs.specs.Relationship.{Relationship, Transfer}
use Rattle.sm_defs.specs.Progress.{landed_prefix, settled, settled_if_there}
use Rattle.sm_defs.specs.May.{may_update, may_resync, layouts_differ}
use Rattle.sm_defs.specs.Common.{common}
use Rattle.sm_defs.specs.Edges.{is_empty, upstream}
use Rattle.sm_defs.specs.Legs.{Legs}
use Rattle.sm_defs.specs.World.{Up, volume_at, policy_at, with_relation}
use Rattle.sm_model.specs.Answers.{told, allowed, some_or}
use Rattle.sm_model.specs.OfTransfers.{next_legs, of_idents, room_for, new_transfer, resumed, with_transfer, without_transfer, with_next_transfer, start_of, start_it, resume_or_start, initialize, has_other_layout, update, transfer_or, halted, abort_it, abort_settled, abort, as_reverted, held_downstream, closes_again, resynced, resync_with, resync_from, resync}
use Rattle.sm_shape.specs.Blanked.{zeroed_snapshot, blanked}
use Rattle.laws_blank.specs.Blanking.{blanked_reached, blanked_answer}
use Rattle.laws_blank.proofs.Mapped.{last_mapped}
use Rattle.laws_blank.proofs.Results.{changed, some_changed, finds, passes, tested, either, ends}
use Rattle.laws_blank.proofs.Zeroed.{zeroed_list, zeroed_has, at_blanked, has_blanked, edges_blanked}
use Rattle.laws_blank.proofs.Legs.{next_legs_blanked, room_blanked, reverted_zeroed, held_after_blanked}
use Rattle.laws_blank.proofs.OfRelations.{zeroed_target, target_named_blanked, may_initialize_zeroed, may_update_zeroed}

-- ---- a start

start_of_blanked : (w : Up) (k : ℕ) (r : Relationship) (kind : TransferKind) (ls : Legs) → start_of (blanked w) k r kind ls ≡ blanked_answer (start_of w k r kind ls)
start_of_blanked w k r kind ls =
    let started : Relationship = with_transfer r (new_transfer w.next_transfer kind ls) in
    passes blanked_reached _ _ _ _
    (ap (λ (v : Volume). room_for (policy_at w r.policy) v.snapshots (of_idents ls.idents (volume_at (blanked w) r.source).snapshots)) (at_blanked w r.destination)
    ∙ room_blanked w (policy_at w r.policy) r.source (volume_at w r.destination).snapshots ls.idents) (λ _.
    either (is_empty ls.idents) _ _ _ _ (ends (told replies.Nothing) (told replies.Nothing) w (blanked w) refl refl)
    (tested (refusals.Full Transfers) _ _ _ _ refl
    (ends (told (replies.Started w.next_transfer (length ls.idents))) (told (replies.Started w.next_transfer (length ls.idents))) (with_next_transfer w k started) (with_next_transfer (blanked w) k started) refl refl)))

start_it_blanked : (w : Up) (k : ℕ) (r : Relationship) (kind : TransferKind) → start_it (blanked w) k r kind ≡ blanked_answer (start_it w k r kind)
start_it_blanked w k r kind =
    let there : List Snapshot = (volume_at w r.destination).snapshots in
    ap (λ (v : Volume). start_of (blanked w) k r kind (next_legs (blanked w) r r.base v.snapshots)) (at_blanked w r.destination)
    ∙ (ap (start_of (blanked w) k r kind) (next_legs_blanked w r r.base there)
    ∙ start_of_blanked w k r kind (next_legs w r r.base there))

resume_or_start_blanked : (w : Up) (k : ℕ) (r : Relationship) (kind : TransferKind) (o : Option Transfer) → resume_or_start (blanked w) k r kind o ≡ blanked_answer (resume_or_start w k r kind o)
unfolding resume_or_start
resume_or_start_blanked w k r kind (Some t) =
    ends (told (replies.Resumed t.number t.checkpoint)) (told (replies.Resumed t.number t.checkpoint)) (with_relation w k (with_transfer r (resumed t))) (with_relation (blanked w) k (with_transfer r (resumed t))) refl refl
resume_or_start_blanked w k r kind None = start_it_blanked w k r kind

pub initialize_blanked : (w : Up) (destination : List ℕ) → initialize (blanked w) destination ≡ blanked_answer (initialize w destination)
initialize_blanked w destination =
    finds blanked_reached zeroed_target _ _ _ _ (target_named_blanked w destination) (λ t.
    passes blanked_reached _ _ _ _ (ap allowed (may_initialize_zeroed refusals.Writable refusals.Initialized refusals.Quiesced refusals.Transferring t.destination.item t.relation.item)) (λ _.
    resume_or_start_blanked w t.relation.at t.relation.item Initialize t.relation.item.transfer))

other_layout_blanked : (w : Up) (r : Relationship) → has_other_layout (blanked w) r ≡ has_other_layout w r
other_layout_blanked w r = λ t. layouts_differ (policy_at w r.policy) (at_blanked w r.source t) (at_blanked w r.destination t)

pub update_blanked : (w : Up) (destination : List ℕ) → update (blanked w) destination ≡ blanked_answer (update w destination)
update_blanked w destination =
    finds blanked_reached zeroed_target _ _ _ _ (target_named_blanked w destination) (λ t.
    let r : Relationship = t.relation.item in
    passes blanked_reached _ _ _ _
    (ap allowed (may_update_zeroed refusals.Writable refusals.Uninitialized refusals.Quiesced refusals.Transferring refusals.OtherLayout (has_other_layout (blanked w) r) t.destination.item r
    ∙ (λ s. may_update refusals.Writable refusals.Uninitialized refusals.Quiesced refusals.Transferring refusals.OtherLayout (other_layout_blanked w r s) t.destination.item r))) (λ _.
    resume_or_start_blanked w t.relation.at r Update r.transfer))

-- ---- a stop

settled_zeroed : (there : List Snapshot) (r : Relationship) (t : Transfer) (is : List Ident) → settled_if_there (zeroed_list there) r t is ≡ settled_if_there there r t is
settled_zeroed there r t [] = refl
settled_zeroed there r t (i ∷ is) = ap (λ (b : Bool). cond b (settled r t i is) r) (zeroed_has there i)

abort_it_blanked : (w : Up) (k : ℕ) (hard : Bool) (r : Relationship) (t : Transfer) → abort_it (blanked w) k hard r t ≡ blanked_answer (abort_it w k hard r t)
abort_it_blanked w k hard r t =
    either (hard || is_empty t.legs) _ _ _ _
    (ends (told replies.Ended) (told replies.Ended) (with_relation w k (without_transfer r)) (with_relation (blanked w) k (without_transfer r)) refl refl)
    (ends (told (replies.Kept (landed_prefix t.landed))) (told (replies.Kept (landed_prefix t.landed))) (with_relation w k (with_transfer r (halted t))) (with_relation (blanked w) k (with_transfer r (halted t))) refl refl)

pub abort_blanked : (w : Up) (destination : List ℕ) (hard : Bool) → abort (blanked w) destination hard ≡ blanked_answer (abort w destination hard)
abort_blanked w destination hard =
    finds blanked_reached zeroed_target _ _ _ _ (target_named_blanked w destination) (λ d.
    passes blanked_reached _ _ _ _ refl (λ t.
    passes blanked_reached _ _ _ _ refl (λ _.
    let r : Relationship = settled_if_there d.destination.item.snapshots d.relation.item t t.legs in
    ap (λ q. abort_settled (blanked w) d.relation.at hard q t) (settled_zeroed d.destination.item.snapshots d.relation.item t t.legs)
    ∙ abort_it_blanked w d.relation.at hard r (transfer_or t r.transfer))))

-- ---- a resync

closes_again_blanked : (w : Up) (r : Relationship) → closes_again (blanked w) r ≡ closes_again w r
closes_again_blanked w r = ap (λ es. upstream es r.destination r.source) (edges_blanked (record w { relations = filter (λ q. not (q.number == r.number)) w.relations }))

common_blanked : (w : Up) (source : ℕ) (there : List Snapshot) → some_or refusals.NoCommon (common (volume_at (blanked w) source).snapshots (zeroed_list there)) ≡ changed zeroed_snapshot (some_or refusals.NoCommon (common (volume_at w source).snapshots there))
common_blanked w source there =
    (λ t. some_or refusals.NoCommon (last_that (λ s. fun_ext (has_blanked w source) t s.ident) (zeroed_list there)))
    ∙ (ap (some_or refusals.NoCommon) (last_mapped zeroed_snapshot (λ s. has (volume_at w source).snapshots s.ident) there)
    ∙ some_changed zeroed_snapshot refusals.NoCommon (common (volume_at w source).snapshots there))

resync_with_blanked : (w : Up) (k : ℕ) (r : Relationship) (c : Ident) (left : List Snapshot) (ls : Legs) → resync_with (blanked w) k r c (zeroed_list left) ls ≡ blanked_answer (resync_with w k r c left ls)
resync_with_blanked w k r c left ls =
    let started : Relationship = resynced r c (new_transfer w.next_transfer Resync ls) in
    passes blanked_reached _ _ _ _ (room_blanked w (policy_at w r.policy) r.source left ls.idents) (λ _.
    tested (refusals.Full Transfers) _ _ _ _ refl
    (ends (told (replies.Resyncing w.next_transfer c (length ls.idents))) (told (replies.Resyncing w.next_transfer c (length ls.idents))) (with_next_transfer w k started) (with_next_transfer (blanked w) k started) refl refl))

resync_from_blanked : (w : Up) (k : ℕ) (r : Relationship) (c : Ident) (left : List Snapshot) → resync_from (blanked w) k r c (zeroed_list left) ≡ blanked_answer (resync_from w k r c left)
resync_from_blanked w k r c left =
    ap (resync_with (blanked w) k r c (zeroed_list left)) (next_legs_blanked w r (Some c) left)
    ∙ resync_with_blanked w k r c left (next_legs w r (Some c) left)

pub resync_blanked : (w : Up) (destination : List ℕ) → resync (blanked w) destination ≡ blanked_answer (resync w destination)
resync_blanked w destination =
    finds blanked_reached zeroed_target _ _ _ _ (target_named_blanked w destination) (λ d.
    let r : Relationship = d.relation.item in
    let there : List Snapshot = d.destination.item.snapshots in
    passes blanked_reached _ _ _ _ (λ t. allowed (may_resync refusals.NotBroken refusals.Transferring refusals.OtherLayout refusals.Cycle (other_layout_blanked w r t) (closes_again_blanked w r t) d.destination.item r)) (λ _.
    finds blanked_reached zeroed_snapshot _ _ _ _ (common_blanked w r.source there) (λ c.
    passes blanked_reached _ _ _ _ (ap held_downstream (held_after_blanked w r c.ident there)) (λ _.
    ap (resync_from (blanked w) d.relation.at r c.ident) (reverted_zeroed (policy_at w r.policy) c.ident there)
    ∙ resync_from_blanked w d.relation.at r c.ident (as_reverted (policy_at w r.policy) c.ident there)))))

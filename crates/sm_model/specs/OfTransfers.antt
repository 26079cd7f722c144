-- What events that start, resume or stop a transfer are answered.
use Rattle.std.specs.Prelude.{ℕ, suc, ◌==◌, ◌||◌, not, Bool, true, false, cond, List, [], ◌∷◌, length, slice_set, Option, Some, None, Result, Ok, Err}
use Rattle.std.specs.List.{find, filter}
use Rattle.sm_base.specs.declared.numbers.Ident.{Ident}
use Rattle.sm_base.specs.declared.numbers.TransferKind.{TransferKind}
use Rattle.sm_base.specs.declared.numbers.TransferKind.TheVariants.{Initialize, Update, Resync}
use Rattle.sm_base.specs.declared.refusal.Reason.TheVariants.{Aborted}
use Rattle.sm_base.specs.declared.refusal.What.TheVariants.{Transfers}
use Rattle.sm_base.specs.declared.refusal.Refusal.{Refusal}
use Rattle.sm_base.specs.declared.refusal.Refusal.TheVariants as refusals
use Rattle.sm_model.specs.declared.reply.Reply.TheVariants as replies
use Rattle.sm_base.specs.declared.limits.TheConstants.{LAST_NUMBER}
use Rattle.sm_defs.specs.Words.{has_ident, or_else}
use Rattle.sm_defs.specs.Volume.{Snapshot, past, until, numbers}
use Rattle.sm_defs.specs.Relationship.{Policy, Rule, Relationship, Transfer, is_mirror}
use Rattle.sm_defs.specs.Progress.{landed_prefix, settled_if_there}
use Rattle.sm_defs.specs.May.{may_initialize, may_update, may_abort, may_resync, layouts_differ}
use Rattle.sm_defs.specs.Retention.{labels, keep_reached}
use Rattle.sm_defs.specs.Common.{common}
use Rattle.sm_defs.specs.Legs.{Legs, Source, legs}
use Rattle.sm_defs.specs.World.{Up, volume_at, policy_at, with_relation}
use Rattle.sm_defs.specs.Needed.{needed_for, needed_at_source}
use Rattle.sm_defs.specs.Edges.{edges, upstream, is_empty, Edge}
use Rattle.sm_model.specs.Answers.{Answer, ◌>>=◌, ◌>>◌, ◌when◌, ◌and◌, whether◌then◌otherwise◌, allowed, some_or, target_named, relno}

-- the source as a transfer from it sees it
abbrev pub source_of : Up → Relationship → Source
source_of w r = let v = volume_at w r.source in record { number = r.source; kind = v.kind; snapshots = v.snapshots }

-- what the next transfer would send, against a base and a list
abbrev pub next_legs : Up → Relationship → Option Ident → List Snapshot → Legs
next_legs w r base there = legs w.next_transfer (policy_at w r.policy) base (source_of w r) there

-- the snapshots of these identities
abbrev pub of_idents : List Ident → List Snapshot → List Snapshot
of_idents is ss = filter (λ s. has_ident is s.ident) ss

unfoldable pub refused_rule : Option Rule → Result (Unit {0}) Refusal
refused_rule None = Ok tt
refused_rule (Some rule) = Err (refusals.KeepReached rule.label)

-- a vault's rule that preserves has no room for the legs
abbrev pub room_for : Policy → List Snapshot → List Snapshot → Result (Unit {0}) Refusal
room_for p there sent = refused_rule (cond (is_mirror p.kind) None (keep_reached p.rules (labels there) (labels sent)))

abbrev pub new_transfer : ℕ → TransferKind → Legs → Transfer
new_transfer number kind ls = record {
  number = number;
  kind = kind;
  reserved = ls.reserved;
  checkpoint = 0;
  legs = ls.idents;
  stopped = None;
  landed = [];
  pruned = false;
}

-- it runs on from its checkpoint
abbrev pub resumed : Transfer → Transfer
resumed t = record t { stopped = None; landed = numbers 0 t.checkpoint; pruned = false }

abbrev pub with_transfer : Relationship → Transfer → Relationship
with_transfer r t = record r { transfer = Some t }

abbrev pub without_transfer : Relationship → Relationship
without_transfer r = record r { transfer = None }

-- the relationship at a place has the next transfer, whose number is never given again
abbrev pub with_next_transfer : Up → ℕ → Relationship → Up
with_next_transfer w k r = record w { next_transfer = suc w.next_transfer; relations = slice_set w.relations k r }

abbrev pub resume_it : Up → ℕ → Relationship → Transfer → Answer
resume_it w k r t = replies.Resumed t.number t.checkpoint and with_relation w k (with_transfer r (resumed t))

abbrev pub start_of : Up → ℕ → Relationship → TransferKind → Legs → Answer
start_of w k r kind ls = do
  room_for (policy_at w r.policy) (volume_at w r.destination).snapshots (of_idents ls.idents (volume_at w r.source).snapshots)
  whether is_empty ls.idents then replies.Nothing and w otherwise do
    refusals.Full Transfers when w.next_transfer == LAST_NUMBER
    replies.Started w.next_transfer (length ls.idents) and with_next_transfer w k (with_transfer r (new_transfer w.next_transfer kind ls))

abbrev pub start_it : Up → ℕ → Relationship → TransferKind → Answer
start_it w k r kind = start_of w k r kind (next_legs w r r.base (volume_at w r.destination).snapshots)

unfoldable pub resume_or_start : Up → ℕ → Relationship → TransferKind → Option Transfer → Answer
resume_or_start w k r kind (Some t) = resume_it w k r t
resume_or_start w k r kind None = start_it w k r kind

abbrev pub initialize : Up → List ℕ → Answer
initialize w destination = do
  t ← target_named w destination
  allowed (may_initialize refusals.Writable refusals.Initialized refusals.Quiesced refusals.Transferring t.destination.item t.relation.item)
  resume_or_start w t.relation.at t.relation.item Initialize t.relation.item.transfer

abbrev pub has_other_layout : Up → Relationship → Bool
has_other_layout w r = layouts_differ (policy_at w r.policy) (volume_at w r.source) (volume_at w r.destination)

abbrev pub update : Up → List ℕ → Answer
update w destination = do
  t ← target_named w destination
  allowed (may_update refusals.Writable refusals.Uninitialized refusals.Quiesced refusals.Transferring refusals.OtherLayout (has_other_layout w t.relation.item) t.destination.item t.relation.item)
  resume_or_start w t.relation.at t.relation.item Update t.relation.item.transfer

abbrev pub transfer_or : Transfer → Option Transfer → Transfer
transfer_or t None = t
transfer_or t (Some u) = u

-- it keeps what landed without a gap
abbrev pub halted : Transfer → Transfer
halted t = record t { checkpoint = landed_prefix t.landed; landed = numbers 0 (landed_prefix t.landed); stopped = Some Aborted; pruned = false }

-- r with its transfer t, whose published leg is settled
abbrev pub abort_it : Up → ℕ → Bool → Relationship → Transfer → Answer
abort_it w k hard r t =
    whether hard || is_empty t.legs then replies.Ended and with_relation w k (without_transfer r)
    otherwise replies.Kept (landed_prefix t.landed) and with_relation w k (with_transfer r (halted t))

abbrev pub abort_settled : Up → ℕ → Bool → Relationship → Transfer → Answer
abort_settled w k hard r t = abort_it w k hard r (transfer_or t r.transfer)

abbrev pub abort : Up → List ℕ → Bool → Answer
abort w destination hard = do
  d ← target_named w destination
  t ← some_or refusals.NoTransfer d.relation.item.transfer
  allowed (may_abort refusals.NoTransfer hard t)
  abort_settled w d.relation.at hard (settled_if_there d.destination.item.snapshots d.relation.item t t.legs) t

-- what a Revert to the identity leaves: a mirror's snapshots up to it, and all of a vault's
abbrev pub as_reverted : Policy → Ident → List Snapshot → List Snapshot
as_reverted p i ss = cond (is_mirror p.kind) (until i ss) ss

-- q needs it on the volume, for another reason than as r's base at r's destination
abbrev pub needed_otherwise : Up → ℕ → Ident → Relationship → Relationship → Bool
needed_otherwise w v i r q = cond (q.number == r.number) (needed_at_source w v i q) (needed_for w v i q)

-- a snapshot with a relationship that needs it
pub record Holding : Type 0 where
  pub ident : Ident
  pub relation : Relationship

abbrev pub holding : Ident → Option Relationship → Option Holding
holding i None = None
holding i (Some r) = Some (record { ident = i; relation = r })

-- the first of these that somebody needs, with who does
abbrev pub first_held : (Ident → Option Relationship) → List Snapshot → Option Holding
first_held who [] = None
first_held who (s ∷ ss) = or_else (holding s.ident (who s.ident)) (first_held who ss)

unfoldable pub held_downstream : Option Holding → Result (Unit {0}) Refusal
held_downstream None = Ok tt
held_downstream (Some h) = Err (refusals.HeldDownstream h.ident (relno h.relation.number))

abbrev pub other_edges : Up → Relationship → List Edge
other_edges w r = edges (record w { relations = filter (λ q. not (q.number == r.number)) w.relations })

-- with the relationship's edge again, a walk would come back
abbrev pub closes_again : Up → Relationship → Bool
closes_again w r = upstream (other_edges w r) r.destination r.source

-- of a mirror, the first snapshot after the common one that is needed for another reason
abbrev pub held_after : Up → Relationship → Ident → List Snapshot → Option Holding
held_after w r c there = cond (is_mirror (policy_at w r.policy).kind) (first_held (λ i. find (needed_otherwise w r.destination i r) w.relations) (past c there)) None

abbrev pub resynced : Relationship → Ident → Transfer → Relationship
resynced r c t = record r { base = Some c; source_half = true; quiesced = false; transfer = Some t }

abbrev pub resync_with : Up → ℕ → Relationship → Ident → List Snapshot → Legs → Answer
resync_with w k r c left ls = do
  room_for (policy_at w r.policy) left (of_idents ls.idents (volume_at w r.source).snapshots)
  refusals.Full Transfers when w.next_transfer == LAST_NUMBER
  replies.Resyncing w.next_transfer c (length ls.idents) and with_next_transfer w k (resynced r c (new_transfer w.next_transfer Resync ls))

-- from the common snapshot, over what the Revert leaves
abbrev pub resync_from : Up → ℕ → Relationship → Ident → List Snapshot → Answer
resync_from w k r c left = resync_with w k r c left (next_legs w r (Some c) left)

abbrev pub resync : Up → List ℕ → Answer
resync w destination = do
  d ← target_named w destination
  allowed (may_resync refusals.NotBroken refusals.Transferring refusals.OtherLayout refusals.Cycle (has_other_layout w d.relation.item) (closes_again w d.relation.item) d.destination.item d.relation.item)
  c ← some_or refusals.NoCommon (common (volume_at w d.relation.item.source).snapshots d.destination.item.snapshots)
  held_downstream (held_after w d.relation.item c.ident d.destination.item.snapshots)
  resync_from w d.relation.at d.relation.item c.ident (as_reverted (policy_at w d.relation.item.policy) c.ident d.destination.item.snapshots)

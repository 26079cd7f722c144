-- Which steps are due, and what they do.
use Rattle.std.specs.Prelude.{◌≡◌, ℕ, suc, ◌-◌, ◌==◌, ◌&&◌, not, nat_lt, Bool, true, false, List, [], ◌∷◌, length, Option, Some, None, if◌then◌else◌}
use Rattle.std.specs.List.{list_any, filter}
use Rattle.sm_base.specs.declared.numbers.Ident.{Ident}
use Rattle.sm_base.specs.declared.refusal.Reason.{Reason}
use Rattle.sm_base.specs.declared.refusal.Reason.TheVariants as reasons
use Rattle.sm_model.specs.declared.reply.Reply.TheVariants as replies
use Rattle.sm_base.specs.declared.limits.TheConstants.{MOST_SNAPSHOTS}
use Rattle.sm_defs.specs.Volume.{Snapshot, is_rw, has, past, without, free}
use Rattle.sm_defs.specs.Relationship.{Relationship, is_mirror, is_resync}
use Rattle.sm_defs.specs.Progress.{landed_prefix, settled}
use Rattle.sm_defs.specs.Legs.{made_ident}
use Rattle.sm_defs.specs.Pruning.{is_pruned, is_made}
use Rattle.sm_defs.specs.World.{Up, volume_at, with_volume, with_relation}
use Rattle.sm_defs.specs.Needed.{needed, holder}
use Rattle.sm_defs.specs.Edges.{is_empty}
use Rattle.sm_model.specs.Answers.{relno, volno}
use Rattle.sm_defs.specs.Operations.{with_snapshot}
use Rattle.sm_model.specs.OfTransfers.{without_transfer, Holding, first_held}
use Rattle.sm_model.specs.Running.{Running, IsRunning}
use Rattle.sm_model.specs.Steps.{Effect, number_of, with_destination, with_progress, interrupts, reverted, prepared_snapshot, snapshot_of, cost, arrived, published, list_published, may_ship, all_landed, at_checkpoint}

-- ---- which kind of step is due

-- The kinds of a transfer's steps. A Revert has the base as the destination has it; Finish is the Settle that
-- finds no leg; what is published, checked or shipped is the first leg as the source has it.
pub data StepKind : Type 0 where
  revert : Snapshot → StepKind
  finish : Ident → StepKind
  settle : Ident → List Ident → StepKind
  prepare : Ident → StepKind
  prune : StepKind
  publish : Snapshot → StepKind
  checkpoint : StepKind
  ship : Snapshot → StepKind

-- a mirror that has to be pruned first
abbrev pub is_unpruned : Running → Bool
is_unpruned x = is_mirror x.policy.kind && not x.transfer.pruned && (x.transfer.checkpoint == 0)

-- of a first leg that the destination lacks, and that the source has
abbrev pub kind_for_leg : Running → Snapshot → StepKind
kind_for_leg x leg =
    if is_unpruned x then prune else
    if all_landed x (cost x leg) then publish leg else
    if at_checkpoint x (cost x leg) then checkpoint else ship leg

abbrev pub kind_at_source : Running → Option Snapshot → Option StepKind
kind_at_source x None = None
kind_at_source x (Some leg) = Some (kind_for_leg x leg)

abbrev pub reserved_leg : Running → Ident
reserved_leg x = made_ident x.relation.source x.transfer.number

-- the leg that is still to be made, whichever leg is first
abbrev pub lacks_reserved : Running → Bool
lacks_reserved x = x.transfer.reserved && not (has x.source.snapshots (reserved_leg x))

abbrev pub kind_finishing : Option Ident → Option StepKind
kind_finishing None = None
kind_finishing (Some base) = Some (finish base)

abbrev pub kind_for : Running → List Ident → Option StepKind
kind_for x [] = kind_finishing x.relation.base
kind_for x (i ∷ is) =
    if has x.destination.snapshots i then Some (settle i is) else
    if lacks_reserved x then Some (prepare (reserved_leg x)) else kind_at_source x (snapshot_of x.source.snapshots (Some i))

abbrev pub kind_reverting : Option Snapshot → Option StepKind
kind_reverting None = None
kind_reverting (Some base) = Some (revert base)

abbrev pub is_reverting : Running → Bool
is_reverting x = is_resync x.transfer.kind && is_rw x.destination.kind

-- The one kind of step that is due for a running transfer. None is due only where a base or a leg is not where
-- every sound world has it.
abbrev pub kind_due : Running → Option StepKind
kind_due x = if is_reverting x then kind_reverting (snapshot_of x.destination.snapshots x.relation.base) else kind_for x x.transfer.legs

-- ---- what the steps do

-- a step goes on, or is interrupted by the first reason that holds
unfoldable pub unless : Up → ℕ → Running → Option Reason → Effect → Effect
unless w k x None e = e
unless w k x (Some reason) e = interrupts w k x reason

abbrev pub reason_if : Bool → Reason → Option Reason → Option Reason
reason_if true r o = Some r
reason_if false r o = o

abbrev pub held_reason : Option Holding → Option Reason → Option Reason
held_reason None o = o
held_reason (Some h) o = Some (reasons.HeldDownstream h.ident (relno h.relation.number))

-- how many snapshots went
abbrev pub dropped : List Snapshot → List Snapshot → ℕ
dropped old new = length old - length new

-- Revert: a mirror's later snapshots would go
abbrev pub revert_reason : Up → Running → Ident → Option Reason
revert_reason w x base =
    if is_mirror x.policy.kind then held_reason (first_held (holder w x.relation.destination) (past base x.destination.snapshots)) None else None

abbrev pub revert_effect : Up → ℕ → Running → Snapshot → Effect
revert_effect w k x base = unless w k x (revert_reason w x base.ident) (record {
  reply = replies.Reverted (number_of x) (dropped x.destination.snapshots (reverted x base).snapshots);
  world = with_destination w x (reverted x base);
})

-- Settle: a published leg becomes the base, and with the last leg the transfer ends
abbrev pub finish_effect : Up → ℕ → Running → Ident → Effect
finish_effect w k x base = record { reply = replies.Settled (number_of x) base true; world = with_relation w k (without_transfer x.relation) }

abbrev pub settled_relation : Running → Ident → List Ident → Relationship
settled_relation x i [] = record x.relation { base = Some i; transfer = None }
settled_relation x i (j ∷ is) = settled x.relation x.transfer i (j ∷ is)

abbrev pub settle_effect : Up → ℕ → Running → Ident → List Ident → Effect
settle_effect w k x i later = record { reply = replies.Settled (number_of x) i false; world = with_relation w k (settled_relation x i later) }

-- Prepare
abbrev pub prepare_reason : Running → Option Reason
prepare_reason x =
    reason_if (not (is_rw x.source.kind)) reasons.SourceReadOnly
    (reason_if (length x.source.snapshots == MOST_SNAPSHOTS) reasons.SnapFull None)

abbrev pub prepare_effect : Up → ℕ → Running → Ident → Effect
prepare_effect w k x i = unless w k x (prepare_reason x) (record {
  reply = replies.Prepared (number_of x) i;
  world = with_volume w x.relation.source (with_snapshot x.source (prepared_snapshot w x i));
})

-- a mirror whose destination has snapshots has the source's family
abbrev pub has_other_family : Running → Bool
has_other_family x = is_mirror x.policy.kind && not (is_empty x.destination.snapshots) && not (x.source.family == x.destination.family)

-- Prune
abbrev pub goes : Up → Running → Snapshot → Bool
goes w x = is_pruned x.policy (needed w x.relation.destination) x.source.snapshots

abbrev pub lost : Running → List Snapshot
lost x = filter (λ s. not (has x.source.snapshots s.ident)) x.destination.snapshots

abbrev pub prune_reason : Up → Running → Option Reason
prune_reason w x =
    held_reason (first_held (holder w x.relation.destination) (lost x)) (reason_if (has_other_family x) reasons.OtherLayout None)

abbrev pub prune_effect : Up → ℕ → Running → Effect
prune_effect w k x = let v = without (goes w x) x.destination in unless w k x (prune_reason w x) (record {
  reply = replies.Pruned (number_of x) (dropped x.destination.snapshots v.snapshots);
  world = with_progress (with_destination w x v) k x (record x.transfer { pruned = true });
})

-- Publish
abbrev pub publish_reason : Up → Running → Snapshot → Option Reason
publish_reason w x leg =
    reason_if (nat_lt MOST_SNAPSHOTS (length (list_published w x (arrived x leg)))) reasons.SnapFull
    (reason_if (has_other_family x) reasons.OtherLayout None)

abbrev pub publish_effect : Up → ℕ → Running → Snapshot → Effect
publish_effect w k x leg = unless w k x (publish_reason w x leg) (record {
  reply = replies.Published (number_of x) leg.ident (suc (length x.destination.snapshots) - length (published w x leg).snapshots);
  world = with_destination w x (published w x leg);
})

-- Checkpoint
abbrev pub checkpoint_effect : Up → ℕ → Running → Effect
checkpoint_effect w k x = record {
  reply = replies.Checked (number_of x) (landed_prefix x.transfer.landed);
  world = with_progress w k x (record x.transfer { checkpoint = landed_prefix x.transfer.landed });
}

-- Ship
abbrev pub insert_landed : ℕ → List ℕ → List ℕ
insert_landed k [] = k ∷ []
insert_landed k (l ∷ ls) = if nat_lt k l then k ∷ l ∷ ls else l ∷ insert_landed k ls

-- a vault has no room for the leg; where something of it has landed it had
abbrev pub ship_reason : Running → ℕ → Option Reason
ship_reason x need =
    reason_if (not (is_mirror x.policy.kind) && is_empty x.transfer.landed && nat_lt (free x.destination) need) (reasons.NoSpace need (free x.destination)) None

abbrev pub ship_effect : Up → ℕ → Running → Snapshot → ℕ → Effect
ship_effect w k x leg index = unless w k x (ship_reason x (cost x leg)) (record {
  reply = replies.Shipped (number_of x) index (cost x leg);
  world = with_progress w k x (record x.transfer { landed = insert_landed index x.transfer.landed });
})

-- the effect is one of this step: any index that may be shipped may be
abbrev pub IsEffect : Up → ℕ → Running → StepKind → Effect → Type 0
IsEffect w k x (revert base) e = e ≡ revert_effect w k x base
IsEffect w k x (finish base) e = e ≡ finish_effect w k x base
IsEffect w k x (settle i later) e = e ≡ settle_effect w k x i later
IsEffect w k x (prepare i) e = e ≡ prepare_effect w k x i
IsEffect w k x prune e = e ≡ prune_effect w k x
IsEffect w k x (publish leg) e = e ≡ publish_effect w k x leg
IsEffect w k x checkpoint e = e ≡ checkpoint_effect w k x
IsEffect w k x (ship leg) e = (index : ℕ) × (may_ship x (cost x leg) index ≡ true) × (e ≡ ship_effect w k x leg index)

-- ---- Tidy

-- a transfer made it there, and nobody needs it
abbrev pub is_tidied : Up → ℕ → Snapshot → Bool
is_tidied w i s = is_made s && (s.ident.origin == i) && not (needed w i s.ident)

abbrev pub tidy_due : Up → ℕ → Bool
tidy_due w i = nat_lt i (length w.volumes) && is_rw (volume_at w i).kind && list_any (is_tidied w i) (volume_at w i).snapshots

abbrev pub tidy_effect : Up → ℕ → Effect
tidy_effect w i = let v = without (is_tidied w i) (volume_at w i) in record {
  reply = replies.Tidied (volno i) (dropped (volume_at w i).snapshots v.snapshots);
  world = with_volume w i v;
}

-- ---- all due steps

-- some due step has this effect
pub data IsStep (w : Up) (e : Effect) : Type 0 where
  by_transfer : (k : ℕ) (x : Running) (kind : StepKind) → IsRunning w k x → kind_due x ≡ Some kind → IsEffect w k x kind e → IsStep w e
  by_tidy : (i : ℕ) → tidy_due w i ≡ true → e ≡ tidy_effect w i → IsStep w e

-- nothing is due
abbrev pub IsIdle : Up → Type 0
IsIdle w = (e : Effect) → ¬ IsStep w e

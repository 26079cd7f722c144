-- What a plain change makes of a world.
use Rattle.std.specs.Prelude.{◌≡◌, ℕ, List, [], ◌∷◌, nat_lt, Option, None, Some, if◌then◌else◌}
use Rattle.sm_base.specs.declared.numbers.Ident.{Ident}
use Rattle.sm_base.specs.declared.refusal.Reason.{Reason}
use Rattle.sm_base.specs.declared.refusal.Reason.TheVariants as reasons
use Rattle.sm_base.specs.declared.limits.TheConstants.{MOST_SNAPSHOTS}
use Rattle.sm_defs.specs.Volume.{Snapshot}
use Rattle.sm_defs.specs.Relationship.{Relationship, Transfer, is_mirror}
use Rattle.sm_defs.specs.World.{Up, with_volume, with_relation}
use Rattle.sm_model.specs.OfTransfers.{first_held}
use Rattle.sm_model.specs.Running.{Running}
use Rattle.sm_model.specs.Steps.{Effect}
use Rattle.sm_model.specs.Due.{held_reason, reason_if, has_other_family}
use Rattle.oracle_steps.specs.declared.change.PlainPlaced.{PlainPlaced}
use Rattle.oracle_steps.specs.declared.change.PlainChange.{PlainChange}
use Rattle.sm_defs.specs.Made.{family_of_transfer}

abbrev pub changed_volume : Up → Option PlainPlaced → Up
changed_volume w None = w
changed_volume w (Some placed) = with_volume w placed.at placed.volume

abbrev pub changed_relation : Up → ℕ → Option Relationship → Up
changed_relation w k None = w
changed_relation w k (Some r) = with_relation w k r

-- the volume first, then the relationship at the place
abbrev pub changed : Up → ℕ → PlainChange → Up
changed w k change = changed_relation (changed_volume w change.volume) k change.relation

-- it is told what the effect tells, and makes its world
pub record IsChange (w : Up) (k : ℕ) (change : PlainChange) (effect : Effect) : Type 0 where
  pub reply : change.reply ≡ effect.reply
  pub world : changed w k change ≡ effect.world

-- what is left of a transfer behind its first leg
abbrev pub transfer_behind : Transfer → List Ident → Option Transfer
transfer_behind t [] = None
transfer_behind t (i ∷ is) = Some (record t { legs = i ∷ is; checkpoint = 0; landed = [] })

-- why the first of some snapshots may not go that somebody needs
abbrev pub reason_of_held : (Ident → Option Relationship) → List Snapshot → Option Reason
reason_of_held who ss = held_reason (first_held who ss) None

-- of the destination that goes back to its base
abbrev pub family_reverted : Running → ℕ
family_reverted x = if is_mirror x.policy.kind then x.destination.family else family_of_transfer x.transfer.number

-- a destination whose list would be this long
abbrev pub reason_of_count : Running → ℕ → Option Reason
reason_of_count x count = reason_if (nat_lt MOST_SNAPSHOTS count) reasons.SnapFull (reason_if (has_other_family x) reasons.OtherLayout None)

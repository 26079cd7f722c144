-- The steps on a transfer, and those of the definitions.
use Rattle.std.specs.Prelude.{◌≡◌, ℕ, None}
use Rattle.sm_base.specs.declared.refusal.Reason.{Reason}
use Rattle.sm_defs.specs.Progress.{landed_prefix}
use Rattle.sm_defs.specs.Relationship.{Transfer}
use Rattle.sm_defs.specs.Volume.{Snapshot, numbers}
use Rattle.sm_defs.specs.World.{Up}
use Rattle.sm_model.specs.declared.reply.Reply.TheVariants as replies
use Rattle.sm_model.specs.Due.{insert_landed, ship_effect}
use Rattle.sm_model.specs.Running.{Running}
use Rattle.sm_model.specs.Steps.{cost, interrupted, number_of, with_progress}
use Rattle.sm_transfer.specs.Beginning.{IsBegun, IsLegPlan}
use Rattle.sm_transfer.specs.Sending.{Sending, with_landed, checked, stopped_by}

-- it tells how far the transfer of the definitions is
pub record IsOf (t : Sending) (x : Transfer) : Type 0 where
  pub landed : t.landed ≡ x.landed
  pub checkpoint : t.checkpoint ≡ x.checkpoint
  pub stopped : t.stopped ≡ x.stopped

-- a transfer that runs and has landed its checkpoint's prefix begins so
abbrev pub BeginsAsDefined : Type 0
BeginsAsDefined = (x : Running) (leg : Snapshot) (t : Sending) → IsBegun x leg t → x.transfer.landed ≡ numbers 0 x.transfer.checkpoint → x.transfer.stopped ≡ None → IsOf t x.transfer

-- the effect of a Ship by a leg's plan is the one without a reason
abbrev pub ShipsAsDefined : Type 0
ShipsAsDefined = (w : Up) (k : ℕ) (x : Running) (leg : Snapshot) (t : Sending) (index : ℕ) → IsLegPlan x leg t.plan → IsOf t x.transfer →
    (ship_effect w k x leg index ≡ record { reply = replies.Shipped (number_of x) index (cost x leg); world = with_progress w k x (record x.transfer { landed = insert_landed index x.transfer.landed }) })
    × IsOf (with_landed t index) (record x.transfer { landed = insert_landed index x.transfer.landed })

abbrev pub ChecksAsDefined : Type 0
ChecksAsDefined = (t : Sending) (x : Transfer) → IsOf t x → IsOf (checked t) (record x { checkpoint = landed_prefix x.landed })

abbrev pub StopsAsDefined : Type 0
StopsAsDefined = (t : Sending) (x : Transfer) (reason : Reason) → IsOf t x → IsOf (stopped_by reason t) (interrupted reason x)

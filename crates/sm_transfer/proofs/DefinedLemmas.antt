-- The steps on a transfer are those of the definitions.
use Rattle.std.proofs.Common.{◌≡◌, ℕ, Bool, true, false, not, Option, None, inl, inr, refl, sym, ◌∙◌, ap, arith}
use Rattle.std.specs.Prelude.{nat_lt, ◌&&◌}
use Rattle.std.proofs.lemmas.Bool.{cases_Bool}
use Rattle.std.proofs.lemmas.Bool.Decides.{nat_tests}
use Rattle.sm_base.specs.declared.refusal.Reason.{Reason}
use Rattle.sm_base.specs.declared.refusal.Reason.TheVariants as reasons
use Rattle.sm_defs.specs.Edges.{is_empty}
use Rattle.sm_defs.specs.Progress.{landed_prefix}
use Rattle.sm_defs.specs.Relationship.{is_mirror}
use Rattle.sm_defs.specs.Volume.{Snapshot, free, numbers}
use Rattle.sm_defs.specs.World.{Up}
use Rattle.sm_model.specs.declared.reply.Reply.TheVariants as replies
use Rattle.sm_model.specs.Due.{insert_landed, ship_reason, reason_if, unless}
use Rattle.sm_model.specs.Running.{Running}
use Rattle.sm_model.specs.Steps.{Effect, cost, number_of, with_progress}
use Rattle.sm_select.specs.Planned.{Planned}
use Rattle.sm_transfer.specs.Beginning.{IsLegPlan}
use Rattle.sm_transfer.specs.Defined.{BeginsAsDefined, ShipsAsDefined, ChecksAsDefined, StopsAsDefined}
use Rattle.sm_transfer.specs.Sending.{Sending}

-- with a plan there is room
no_reason : (x : Running) (leg : Snapshot) (plan : Planned) → IsLegPlan x leg plan → ship_reason x (cost x leg) ≡ None
no_reason x leg plan is = elim (cases_Bool (is_mirror x.policy.kind)) [
  | inl mirror ↦ ap (λ (b : Bool). reason_if (not b && is_empty x.transfer.landed && nat_lt (free x.destination) (cost x leg)) (reasons.NoSpace (cost x leg) (free x.destination)) None) mirror
  | inr vault ↦
      let room = is.room vault in
      let full : nat_lt (free x.destination) (cost x leg) ≡ false = grind (arith, nat_tests, room) in
      ap (λ (b : Bool). reason_if (not (is_mirror x.policy.kind) && is_empty x.transfer.landed && b) (reasons.NoSpace (cost x leg) (free x.destination)) None) full
      ∙ neither (not (is_mirror x.policy.kind)) (is_empty x.transfer.landed) (reasons.NoSpace (cost x leg) (free x.destination))
]
  where
    neither : (a b : Bool) (r : Reason) → reason_if (a && b && false) r None ≡ None
    neither true true r = refl
    neither true false r = refl
    neither false b r = refl

goes_on : (w : Up) (k : ℕ) (x : Running) (reason : Option Reason) (e : Effect) → reason ≡ None → unless w k x reason e ≡ e
unfolding unless
goes_on w k x reason e is = ap (λ (o : Option Reason). unless w k x o e) is

pub begins : BeginsAsDefined
begins = λ x leg t is landed runs. record {
  landed = ap (λ (u : Sending). u.landed) is.runs ∙ sym landed;
  checkpoint = ap (λ (u : Sending). u.checkpoint) is.runs;
  stopped = ap (λ (u : Sending). u.stopped) is.runs ∙ sym runs;
}

pub ships : ShipsAsDefined
ships = λ w k x leg t index plan is. (
  goes_on w k x (ship_reason x (cost x leg)) (record {
    reply = replies.Shipped (number_of x) index (cost x leg);
    world = with_progress w k x (let u = x.transfer in record u { landed = insert_landed index u.landed });
  }) (no_reason x leg t.plan plan),
  record { landed = ap (insert_landed index) is.landed; checkpoint = is.checkpoint; stopped = is.stopped },
)

pub checks : ChecksAsDefined
checks = λ t x is. record { landed = is.landed; checkpoint = ap landed_prefix is.landed; stopped = is.stopped }

pub stops : StopsAsDefined
stops = λ t x reason is. record { landed = ap (numbers 0) is.checkpoint; checkpoint = is.checkpoint; stopped = refl }

-- The clock is set.
use Rattle.std.proofs.Common.{◌≡◌, ℕ, ◌<◌, ◌≤◌, Bool, true, false, nat_lt, refl, sym, ap, ◌∙◌, Ok, Err, arith}
use Rattle.std.proofs.lemmas.Bool.Decides.{nat_tests}
use Rattle.sm_base.specs.declared.refusal.Refusal.{Refusal}
use Rattle.sm_base.specs.declared.refusal.Refusal.TheVariants as refusals
use Rattle.sm_defs.specs.World.{Up}
use Rattle.sm_model.specs.declared.reply.Reply.TheVariants as replies
use Rattle.sm_model.specs.Answers.{Answer, and_then, refused_if, told}
use Rattle.sm_model.specs.OfPolicies as policies

refused_by : (b : Bool) (a : Answer) (g : Refusal) → b ≡ true → and_then (refused_if b g) (λ _. a) ≡ Err g
unfolding and_then refused_if
refused_by true a g e = refl
refused_by false a g e = absurd (cc)

goes_by : (b : Bool) (a : Answer) (g : Refusal) → b ≡ false → and_then (refused_if b g) (λ _. a) ≡ a
unfolding and_then refused_if
goes_by true a g e = absurd (cc)
goes_by false a g e = refl

pub clock_back : (w : Up) (time now : ℕ) → now ≡ w.clock → time < now → policies.set_clock w time ≡ Err (refusals.ClockBack now)
clock_back w time now is back =
    refused_by (nat_lt time w.clock) (Ok (record { reply = told replies.Done; world = policies.at_time w time })) (refusals.ClockBack w.clock) (let less : time < w.clock = omega (arith, is, back) in grind (arith, nat_tests))
    ∙ ap (λ (k : ℕ). Err (refusals.ClockBack k)) (sym is)

pub clock_goes : (w : Up) (time : ℕ) → w.clock ≤ time → policies.set_clock w time ≡ Ok (record { reply = told replies.Done; world = policies.at_time w time })
clock_goes w time on =
    goes_by (nat_lt time w.clock) (Ok (record { reply = told replies.Done; world = policies.at_time w time })) (refusals.ClockBack w.clock) (grind (arith, nat_tests))

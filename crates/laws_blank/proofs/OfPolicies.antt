-- Events on policies and the clock, where blocks are read as zeros: they look at no volume.
use Rattle.std.proofs.Common.{◌≡◌, ℕ, Bool, List, refl}
use Rattle.sm_base.specs.declared.numbers.PolicyKind.{PolicyKind}
use Rattle.sm_base.specs.declared.refusal.Refusal.TheVariants as refusals
use Rattle.sm_base.specs.declared.refusal.What.TheVariants.{Policies}
use Rattle.sm_model.specs.declared.reply.Reply.TheVariants as replies
use Rattle.sm_defs.specs.Rules.{new_policy, with_rule}
use Rattle.sm_defs.specs.World.{Up}
use Rattle.sm_model.specs.Answers.{told}
use Rattle.sm_model.specs.OfPolicies.{with_new_policy, create_policy, with_policy, add_rule, at_time, set_clock}
use Rattle.sm_shape.specs.Blanked.{blanked}
use Rattle.laws_blank.specs.Blanking.{blanked_reached, blanked_answer}
use Rattle.laws_blank.proofs.Results.{passes, tested, ends}

pub create_policy_blanked : (w : Up) (name : List ℕ) (kind : PolicyKind) → create_policy (blanked w) name kind ≡ blanked_answer (create_policy w name kind)
create_policy_blanked w name kind =
    tested refusals.NameTaken _ _ _ _ refl
    (tested (refusals.Full Policies) _ _ _ _ refl
    (ends (told replies.Done) (told replies.Done) (with_new_policy w (new_policy name kind)) (with_new_policy (blanked w) (new_policy name kind)) refl refl))

pub add_rule_blanked : (w : Up) (name label : List ℕ) (keep : ℕ) (preserve : Bool) → add_rule (blanked w) name label keep preserve ≡ blanked_answer (add_rule w name label keep preserve)
add_rule_blanked w name label keep preserve =
    passes blanked_reached _ _ _ _ refl (λ p.
    tested refusals.WrongRule _ _ _ _ refl
    (tested refusals.BadKeep _ _ _ _ refl
    (tested refusals.RuleTaken _ _ _ _ refl
    (tested refusals.RulesFull _ _ _ _ refl
    (ends (told replies.Done) (told replies.Done) (with_policy w p.at (with_rule p.item (record { label = label; keep = keep; preserve = preserve }))) (with_policy (blanked w) p.at (with_rule p.item (record { label = label; keep = keep; preserve = preserve }))) refl refl)))))

pub set_clock_blanked : (w : Up) (time : ℕ) → set_clock (blanked w) time ≡ blanked_answer (set_clock w time)
set_clock_blanked w time =
    tested (refusals.ClockBack w.clock) _ _ _ _ refl
    (ends (told replies.Done) (told replies.Done) (at_time w time) (at_time (blanked w) time) refl refl)

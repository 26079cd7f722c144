-- What events on policies and the clock are answered.
use Rattle.std.specs.Prelude.{ℕ, ◌==◌, nat_lt, Bool, List, [], ◌∷◌, ◌++◌, length, slice_set}
use Rattle.std.specs.List.{list_any}
use Rattle.std.specs.Str.{bytes_eq}
use Rattle.sm_base.specs.declared.numbers.PolicyKind.{PolicyKind}
use Rattle.sm_base.specs.declared.refusal.What.TheVariants.{Policies}
use Rattle.sm_base.specs.declared.refusal.Refusal.TheVariants as refusals
use Rattle.sm_model.specs.declared.reply.Reply.TheVariants as replies
use Rattle.sm_base.specs.declared.limits.TheConstants.{MOST_POLICIES}
use Rattle.sm_defs.specs.Relationship.{Policy}
use Rattle.sm_defs.specs.Rules.{new_policy, is_wrong_rule, is_bad_keep, is_ruled, are_rules_full, with_rule}
use Rattle.sm_defs.specs.World.{Up}
use Rattle.sm_model.specs.Answers.{Answer, ◌>>=◌, ◌>>◌, ◌when◌, ◌and◌, policy_named}

abbrev pub with_new_policy : Up → Policy → Up
with_new_policy w p = record w { policies = w.policies ++ p ∷ [] }

abbrev pub create_policy : Up → List ℕ → PolicyKind → Answer
create_policy w name kind = do
  refusals.NameTaken when list_any (λ p. bytes_eq p.name name) w.policies
  refusals.Full Policies when length w.policies == MOST_POLICIES
  replies.Done and with_new_policy w (new_policy name kind)

-- the policy at a place is changed, and nothing else
abbrev pub with_policy : Up → ℕ → Policy → Up
with_policy w at p = record w { policies = slice_set w.policies at p }

abbrev pub add_rule : Up → List ℕ → List ℕ → ℕ → Bool → Answer
add_rule w name label keep preserve = do
  p ← policy_named w name
  refusals.WrongRule when is_wrong_rule p.item.kind label preserve
  refusals.BadKeep when is_bad_keep p.item.kind keep
  refusals.RuleTaken when is_ruled p.item label
  refusals.RulesFull when are_rules_full p.item
  replies.Done and with_policy w p.at (with_rule p.item (record { label = label; keep = keep; preserve = preserve }))

abbrev pub at_time : Up → ℕ → Up
at_time w time = record w { clock = time }

-- the clock does not go back
abbrev pub set_clock : Up → ℕ → Answer
set_clock w time = do
  refusals.ClockBack w.clock when nat_lt time w.clock
  replies.Done and at_time w time

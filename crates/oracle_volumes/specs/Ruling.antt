-- What an answer to a further rule makes of what the policy answers.
use Rattle.std.specs.Prelude.{◌≡◌, Result, Ok, Err}
use Rattle.sm_base.specs.declared.refusal.Refusal.TheVariants as refusals
use Rattle.sm_model.specs.declared.reply.Reply.TheVariants as replies
use Rattle.sm_defs.specs.World.{Up}
use Rattle.sm_model.specs.Answers.{Answer, told}
use Rattle.sm_policy.specs.declared.adding.RuleFault.{RuleFault}
use Rattle.sm_policy.specs.declared.adding.RuleFault.TheVariants.{WrongRule, BadKeep, RuleTaken, RulesFull, NoMemory as OutOfMemory}

-- the rule is there in the new world, or the answer is the refusal
abbrev pub IsRuled : Answer → Result (Unit {0}) RuleFault → Up → Type 0
IsRuled answer (Ok done) new = answer ≡ Ok (record { reply = told replies.Done; world = new })
IsRuled answer (Err WrongRule) new = answer ≡ Err refusals.WrongRule
IsRuled answer (Err BadKeep) new = answer ≡ Err refusals.BadKeep
IsRuled answer (Err RuleTaken) new = answer ≡ Err refusals.RuleTaken
IsRuled answer (Err RulesFull) new = answer ≡ Err refusals.RulesFull
IsRuled answer (Err OutOfMemory) new = Unit {0}

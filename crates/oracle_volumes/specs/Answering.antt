-- What an answer makes of a reply and of the world after it.
use Rattle.std.specs.Prelude.{◌≡◌, Option, Some, None, Ok, Err}
use Rattle.sm_model.specs.declared.reply.Reply.{Reply}
use Rattle.sm_model.specs.declared.reply.Reply.TheVariants as replies
use Rattle.sm_defs.specs.World.{Up}
use Rattle.sm_model.specs.Answers.{Answer, Tells, told, bytes}

-- the reply that the answer tells, with its world; a refusal leaves the old one
abbrev pub IsAnswered : Up → Answer → Reply → Up → Type 0
IsAnswered old (Ok reached) reply new = Tells reached.reply reply × (new ≡ reached.world)
IsAnswered old (Err refusal) reply new = (reply ≡ replies.Refused refusal) × (new ≡ old)

-- the same, by the reply: which answer this is
abbrev pub Answers : Up → Answer → Reply → Up → Type 0
Answers old answer (replies.Refused refusal) new = (answer ≡ Err refusal) × (new ≡ old)
Answers old answer (replies.Bytes block) new = answer ≡ Ok (record { reply = bytes block.value.0; world = new })
Answers old answer reply new = answer ≡ Ok (record { reply = told reply; world = new })

-- no reply where there is no answer, and else the reply that the answer tells
abbrev pub IsReplied : Up → Option Answer → Option Reply → Up → Type 0
IsReplied old None reply new = (reply ≡ None) × (new ≡ old)
IsReplied old (Some answer) None new = ⊥
IsReplied old (Some answer) (Some reply) new = IsAnswered old answer reply new

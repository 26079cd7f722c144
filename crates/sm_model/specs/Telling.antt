-- What a reply tells, whichever box the bytes of a block lie in.
use Rattle.sm_model.specs.declared.reply.Reply as the_reply
use Rattle.sm_model.specs.declared.reply.Reply.TheVariants as replies
use Rattle.sm_model.specs.Answers.{Told, told, bytes}

unfoldable pub told_by : the_reply.Reply → Told
told_by (replies.Bytes block) = bytes block.value.0
told_by reply = told reply

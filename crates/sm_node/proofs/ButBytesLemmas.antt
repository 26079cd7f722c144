-- What is replied exactly is replied but for bytes.
use Rattle.std.proofs.Common.{refl, Ok, Err}
use Rattle.sm_model.specs.declared.reply.Line.{Line}
use Rattle.sm_model.specs.declared.reply.Line.TheVariants as lines
use Rattle.sm_model.specs.declared.reply.Reply.{Reply}
use Rattle.sm_model.specs.declared.reply.Reply.TheVariants as replies
use Rattle.sm_node.specs.ButBytes.{LineButDigest, ReplyButDigest}

line_itself : (line : Line) → LineButDigest line (replies.Line line)
line_itself (lines.Active number d) = (d, refl)
line_itself (lines.Snapshot number name ident label time made d) = (d, refl)
line_itself line = refl

pub reply_itself : (reply : Reply) → ReplyButDigest reply reply
reply_itself (replies.Line line) = line_itself line
reply_itself reply = refl

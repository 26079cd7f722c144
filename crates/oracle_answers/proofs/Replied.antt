-- A reply that tells an answer is an answer's reply.
use Rattle.std.proofs.Common.{refl}
use Rattle.sm_model.specs.declared.reply.Reply.{Reply}
use Rattle.sm_model.specs.declared.reply.Reply.TheVariants as replies
use Rattle.sm_defs.specs.World.{Up}
use Rattle.sm_model.specs.Answers.{Answer}
use Rattle.oracle_volumes.specs.Answering.{IsAnswered, Answers}

pub is_answered : (old new : Up) (a : Answer) (reply : Reply) → Answers old a reply new → IsAnswered old a reply new
is_answered old new a (replies.Refused refusal) h = rw h.0 (refl, h.1)
is_answered old new a (replies.Bytes block) h = rw h ((block, refl, refl), refl)
is_answered old new a replies.Done h = rw h (refl, refl)
is_answered old new a (replies.Created v) h = rw h (refl, refl)
is_answered old new a (replies.Snapped i) h = rw h (refl, refl)
is_answered old new a (replies.Related r) h = rw h (refl, refl)
is_answered old new a (replies.Started t l) h = rw h (refl, refl)
is_answered old new a (replies.Resumed t c) h = rw h (refl, refl)
is_answered old new a replies.Nothing h = rw h (refl, refl)
is_answered old new a (replies.Kept c) h = rw h (refl, refl)
is_answered old new a replies.Ended h = rw h (refl, refl)
is_answered old new a (replies.Resyncing t c l) h = rw h (refl, refl)
is_answered old new a (replies.Line l) h = rw h (refl, refl)
is_answered old new a (replies.Table l) h = rw h (refl, refl)
is_answered old new a (replies.Reverted r d) h = rw h (refl, refl)
is_answered old new a (replies.Prepared r i) h = rw h (refl, refl)
is_answered old new a (replies.Pruned r d) h = rw h (refl, refl)
is_answered old new a (replies.Shipped r i c) h = rw h (refl, refl)
is_answered old new a (replies.Checked r p) h = rw h (refl, refl)
is_answered old new a (replies.Published r i d) h = rw h (refl, refl)
is_answered old new a (replies.Settled r b e) h = rw h (refl, refl)
is_answered old new a (replies.Tidied v d) h = rw h (refl, refl)
is_answered old new a (replies.Interrupted r s) h = rw h (refl, refl)
is_answered old new a replies.Idle h = rw h (refl, refl)

-- Replies that tell the same go on with the same event.
use Rattle.std.proofs.Common.{◌≡◌, ℕ, ◌&&◌, Bool, true, false, not, nat_lt, cond, List, [], ◌∷◌, ◌++◌, map, Option, Some, None, refl, sym, ap, ◌∙◌}
use Rattle.sm_model.specs.declared.event.Event.TheVariants as events
use Rattle.sm_model.specs.declared.reply.Entry.{Entry}
use Rattle.sm_model.specs.declared.reply.Reply.{Reply}
use Rattle.sm_model.specs.declared.reply.Reply.TheVariants as replies
use Rattle.sm_model.specs.Answers.{Told, told, bytes}
use Rattle.sm_model.specs.Telling.{told_by}
use Rattle.sm_grammar.specs.declared.command.Task.{Task}
use Rattle.sm_grammar.specs.declared.command.Task.TheVariants.{Once, Writes, Steps, Settle}
use Rattle.sm_grammar.specs.Events.{is_last, next_of}
use Rattle.sm_grammar.specs.Follows.{done_of}
use Rattle.sm_grammar.proofs.FollowLemmas.{last_of}
use Rattle.sm_crew.specs.Ended.{last_reply}

last_told : Told → Bool
last_told (told reply) = is_last reply
last_told (bytes bs) = false

last_is : (reply : Reply) → is_last reply ≡ last_told (told_by reply)
unfolding is_last told_by last_told
last_is (replies.Bytes block) = refl
last_is reply = refl

same_last : (a b : Reply) → told_by a ≡ told_by b → is_last a ≡ is_last b
same_last a b e = last_is a ∙ (ap last_told e ∙ sym (last_is b))

pub same_next : (task : Task) (done : ℕ) (a b : Reply) → told_by a ≡ told_by b → next_of task done (Some a) ≡ next_of task done (Some b)
unfolding next_of
same_next (Once event) done a b e = refl
same_next (Writes path block count fill) done a b e = refl
same_next (Steps count) done a b e = ap (λ t. cond (nat_lt done count && not t) (Some (events.Work true)) None) (same_last a b e)
same_next Settle done a b e = ap (λ t. cond t None (Some (events.Work false))) (same_last a b e)

pub last_done : (last : Option Reply) (es : List Entry) → last_of last (map done_of es) ≡ last_reply last es
last_done last [] = refl
last_done last (e ∷ es) = last_done (Some e.reply) es

pub last_behind : (last : Option Reply) (es : List Entry) (e : Entry) → last_reply last (es ++ e ∷ []) ≡ Some e.reply
last_behind last [] e = refl
last_behind last (x ∷ es) e = last_behind (Some x.reply) es e

-- What is refused leaves the world.
use Rattle.std.proofs.Common.{◌≡◌, ℕ, List, [], refl, sym, ◌∙◌, subst}
use Rattle.sm_base.specs.declared.numbers.Side.{Side}
use Rattle.sm_base.specs.declared.numbers.DiskNo.{DiskNo}
use Rattle.sm_base.specs.declared.refusal.Refusal.{Refusal}
use Rattle.sm_base.specs.declared.refusal.Refusal.TheVariants as refusals
use Rattle.sm_model.specs.declared.reply.Entry.{Entry}
use Rattle.sm_model.specs.declared.reply.Reply.{Reply}
use Rattle.sm_model.specs.declared.reply.Reply.TheVariants as replies
use Rattle.sm_model.specs.World.{World, Deed}
use Rattle.sm_model.specs.LegalRun as runs
use Rattle.sm_model.specs.LegalRun.{Fits}
use Rattle.laws_cases.specs.Answering.{IsFault}
use Rattle.laws_cases.proofs.Answers.Deeds.{deeds_are_no_refusals}

pub same_refusal : (r s : Refusal) → replies.Refused r ≡ replies.Refused s → r ≡ s
same_refusal r s e = cc

no_fault : (reply : Reply) (r : Refusal) (disk : DiskNo) (count : ℕ) → reply ≡ runs.fault disk count → reply ≡ replies.Refused r → ¬ (IsFault r) → ⊥
unfolding IsFault
no_fault reply r disk count e f n = n (subst IsFault (same_refusal (refusals.DiskFault disk count) r (sym e ∙ f)) tt)

done_is_none : (reply : Reply) (r : Refusal) → reply ≡ replies.Done → reply ≡ replies.Refused r → ⊥
done_is_none reply r e f = cc

pub of_entry : (old new : World) (e : Entry) (sides left : List Side) (ds : List Deed) (r : Refusal) →
    Fits old e sides ds new left → e.reply ≡ replies.Refused r → ¬ (IsFault r) → (new ≡ old) × (ds ≡ []) × (left ≡ sides)
of_entry old new e sides left ds r (runs.done d o a b c i) f n = absurd (deeds_are_no_refusals e.event d r i (c ∙ f))
of_entry old new e sides left ds r (runs.quiet i) f n = (refl, refl, refl)
of_entry old new e sides left ds r (runs.failed d disk count o a b i c g) f n = absurd (no_fault e.reply r disk count g f n)
of_entry old new e sides left ds r (runs.down_still a b) f n = (refl, refl, refl)
of_entry old new e sides left ds r (runs.restart_up side a b) f n = absurd (done_is_none e.reply r b f)
of_entry old new e sides left ds r (runs.restart_before a b) f n = absurd (done_is_none e.reply r b f)
of_entry old new e sides left ds r (runs.restart_after a b) f n = absurd (done_is_none e.reply r b f)
of_entry old new e sides left ds r (runs.restart_failed_up disk count a b) f n = absurd (no_fault e.reply r disk count b f n)
of_entry old new e sides left ds r (runs.restart_failed disk count a b) f n = absurd (no_fault e.reply r disk count b f n)

-- No disk fails in what a world answers, and how such entries follow each other.
use Rattle.std.proofs.Common.{◌≡◌, inl, inr, ℕ, Bool, true, false, List, [], ◌∷◌, Some, Ok, Err, sym, ap, subst, refl, ◌∙◌, true≢false}
use Rattle.std.specs.List.{AllByRecursion}
use Rattle.sm_base.specs.declared.numbers.DiskNo.{DiskNo}
use Rattle.sm_base.specs.declared.refusal.Refusal.{Refusal}
use Rattle.sm_base.specs.declared.refusal.Refusal.TheVariants as refusals
use Rattle.sm_base.specs.declared.refusal.What.TheVariants.{Volumes, Policies, Relations, Transfers}
use Rattle.sm_defs.specs.Words.{Among}
use Rattle.sm_defs.specs.World.{Up}
use Rattle.sm_defs.proofs.Members.{among_each}
use Rattle.sm_model.specs.declared.event.Event.{Event}
use Rattle.sm_model.specs.declared.event.Event.TheVariants as events
use Rattle.sm_model.specs.declared.reply.Entry.{Entry}
use Rattle.sm_model.specs.declared.reply.Reply.{Reply}
use Rattle.sm_model.specs.declared.reply.Reply.TheVariants as replies
use Rattle.sm_model.specs.Answers.{Reached, Tells}
use Rattle.sm_model.specs.Answer.{answer}
use Rattle.sm_model.specs.LegalRun.{Counts, Rises, FaultsRise}
use Rattle.laws_run.specs.Histories.{IsFaultless, AllFaultless}
use Rattle.laws_run.specs.Listed.{IsListed}
use Rattle.laws_cases.proofs.Answers.Deeds.{ok_is_no_refusal}
use Rattle.laws_run.proofs.Listing.{refusal_listed}
use Rattle.laws_cases.proofs.Answers.Refused.{same_refusal}

-- ---- answers

tells_disk : Refusal → Bool
tells_disk (refusals.DiskFault disk count) = true
tells_disk (refusals.Down disk) = true
tells_disk refusal = false

tells_none : List Refusal → Type 0
tells_none rs = AllByRecursion (λ r. tells_disk r ≡ false) rs

among_tells_none : (rs : List Refusal) (r : Refusal) → tells_none rs → Among rs r → tells_disk r ≡ false
unfolding tells_none
among_tells_none rs r h m = among_each (λ r. tells_disk r ≡ false) rs r h m

-- no refusal that is listed tells of a disk that failed
listed_tells_none : (e : Event) (r : Refusal) → IsListed e r → tells_disk r ≡ false
unfolding IsListed tells_disk tells_none
listed_tells_none (events.CreateVolume path disk kind logical physical) r (inl m) = among_tells_none (refusals.NameTaken ∷ refusals.NoDisk disk ∷ refusals.DiskTaken ∷ refusals.Full Volumes ∷ []) r (refl, (refl, (refl, (refl, tt)))) m
listed_tells_none (events.CreateVolume path disk kind logical physical) r (inr (len, small, e)) = ap tells_disk e
listed_tells_none (events.Write path block fill) r m = among_tells_none (refusals.NoVolume path ∷ refusals.ReadOnly ∷ refusals.BadBlock ∷ refusals.NoSpace ∷ []) r (refl, (refl, (refl, (refl, tt)))) m
listed_tells_none (events.Snap path name label) r m = among_tells_none (refusals.NoVolume path ∷ refusals.ReadOnly ∷ refusals.NameTaken ∷ refusals.SnapFull ∷ []) r (refl, (refl, (refl, (refl, tt)))) m
listed_tells_none (events.Unsnap path name) r (inl m) = among_tells_none (refusals.NoVolume path ∷ refusals.NoSnapshot name ∷ refusals.ReadOnly ∷ []) r (refl, (refl, (refl, tt))) m
listed_tells_none (events.Unsnap path name) r (inr (relation, e)) = ap tells_disk e
listed_tells_none (events.ShowSnaps path) r e = ap tells_disk e
listed_tells_none (events.CreatePolicy name kind) r m = among_tells_none (refusals.NameTaken ∷ refusals.Full Policies ∷ []) r (refl, (refl, tt)) m
listed_tells_none (events.AddRule name label keep preserve) r m = among_tells_none (refusals.NoPolicy name ∷ refusals.WrongRule ∷ refusals.BadKeep ∷ refusals.RuleTaken ∷ refusals.RulesFull ∷ []) r (refl, (refl, (refl, (refl, (refl, tt))))) m
listed_tells_none (events.Relate source destination policy) r (inl m) = among_tells_none (refusals.NoVolume source ∷ refusals.NoVolume destination ∷ refusals.NoPolicy policy ∷ refusals.SizeMismatch ∷ refusals.Cycle ∷ refusals.Full Relations ∷ []) r (refl, (refl, (refl, (refl, (refl, (refl, tt)))))) m
listed_tells_none (events.Relate source destination policy) r (inr (relation, e)) = ap tells_disk e
listed_tells_none (events.Initialize destination) r (inl m) = among_tells_none (refusals.NoVolume destination ∷ refusals.NoRelation destination ∷ refusals.Writable ∷ refusals.Initialized ∷ refusals.Quiesced ∷ refusals.Transferring ∷ refusals.Full Transfers ∷ []) r (refl, (refl, (refl, (refl, (refl, (refl, (refl, tt))))))) m
listed_tells_none (events.Initialize destination) r (inr (kept, e)) = ap tells_disk e
listed_tells_none (events.Update destination) r (inl m) = among_tells_none (refusals.NoVolume destination ∷ refusals.NoRelation destination ∷ refusals.Writable ∷ refusals.Uninitialized ∷ refusals.Quiesced ∷ refusals.Transferring ∷ refusals.OtherLayout ∷ refusals.Full Transfers ∷ []) r (refl, (refl, (refl, (refl, (refl, (refl, (refl, (refl, tt)))))))) m
listed_tells_none (events.Update destination) r (inr (kept, e)) = ap tells_disk e
listed_tells_none (events.Quiesce destination) r m = among_tells_none (refusals.NoVolume destination ∷ refusals.NoRelation destination ∷ []) r (refl, (refl, tt)) m
listed_tells_none (events.Resume destination) r m = among_tells_none (refusals.NoVolume destination ∷ refusals.NoRelation destination ∷ []) r (refl, (refl, tt)) m
listed_tells_none (events.Abort destination hard) r m = among_tells_none (refusals.NoVolume destination ∷ refusals.NoRelation destination ∷ refusals.NoTransfer ∷ []) r (refl, (refl, (refl, tt))) m
listed_tells_none (events.Break destination) r m = among_tells_none (refusals.NoVolume destination ∷ refusals.NoRelation destination ∷ refusals.Writable ∷ refusals.Uninitialized ∷ refusals.Transferring ∷ []) r (refl, (refl, (refl, (refl, (refl, tt))))) m
listed_tells_none (events.Resync destination) r (inl m) = among_tells_none (refusals.NoVolume destination ∷ refusals.NoRelation destination ∷ refusals.NotBroken ∷ refusals.Transferring ∷ refusals.OtherLayout ∷ refusals.Cycle ∷ refusals.NoCommon ∷ refusals.Full Transfers ∷ []) r (refl, (refl, (refl, (refl, (refl, (refl, (refl, (refl, tt)))))))) m
listed_tells_none (events.Resync destination) r (inr (inl (ident, relation, e))) = ap tells_disk e
listed_tells_none (events.Resync destination) r (inr (inr (kept, e))) = ap tells_disk e
listed_tells_none (events.Delete destination) r m = among_tells_none (refusals.NoVolume destination ∷ refusals.NoRelation destination ∷ refusals.Transferring ∷ []) r (refl, (refl, (refl, tt))) m
listed_tells_none (events.Release source destination) r m = among_tells_none (refusals.NoVolume source ∷ refusals.NoVolume destination ∷ refusals.NoRelation destination ∷ refusals.Active ∷ refusals.Transferring ∷ []) r (refl, (refl, (refl, (refl, (refl, tt))))) m
listed_tells_none (events.Clock time) r (now, past, e) = ap tells_disk e
listed_tells_none (events.Cp path) r m = among_tells_none (refusals.NoVolume path ∷ refusals.ReadOnly ∷ []) r (refl, (refl, tt)) m
listed_tells_none (events.Read path name block) r (inl m) = among_tells_none (refusals.NoVolume path ∷ refusals.BadBlock ∷ []) r (refl, (refl, tt)) m
listed_tells_none (events.Read path name block) r (inr (given, is, e)) = ap tells_disk e
listed_tells_none e r h = absurd h

no_fault_listed : (e : Event) (disk : DiskNo) (count : ℕ) → ¬ IsListed e (refusals.DiskFault disk count)
unfolding tells_disk
no_fault_listed e disk count h = true≢false (listed_tells_none e (refusals.DiskFault disk count) h)

no_down_listed : (e : Event) (disk : DiskNo) → ¬ IsListed e (refusals.Down disk)
unfolding tells_disk
no_down_listed e disk h = true≢false (listed_tells_none e (refusals.Down disk) h)

pub refused_faultless : (w : Up) (e : Event) (reply : Reply) (r : Refusal) → answer w e ≡ Some (Err r) → reply ≡ replies.Refused r → IsFaultless reply
refused_faultless w e reply r i k =
    let listed = refusal_listed w e r i in record {
      no_fault = λ disk count f. no_fault_listed e disk count (subst (IsListed e) (same_refusal r (refusals.DiskFault disk count) (sym k ∙ f)) listed);
      is_up = λ disk f. no_down_listed e (record { 0 = disk }) (subst (IsListed e) (same_refusal r (refusals.Down (record { 0 = disk })) (sym k ∙ f)) listed);
    }

pub done_faultless : (w : Up) (e : Event) (reached : Reached) (reply : Reply) → answer w e ≡ Some (Ok reached) → Tells reached.reply reply → IsFaultless reply
done_faultless w e reached reply i t = record {
  no_fault = λ disk count. ok_is_no_refusal w e reached reply (refusals.DiskFault disk count) i t;
  is_up = λ disk. ok_is_no_refusal w e reached reply (refusals.Down (record { 0 = disk })) i t;
}

-- ---- entries

counts : (reply : Reply) → IsFaultless reply → Counts reply
unfolding Counts
counts (replies.Refused (refusals.DiskFault disk count)) n = absurd (n.no_fault disk count refl)
counts reply n = tt

rises : (earlier later : Reply) → IsFaultless earlier → Rises earlier later
unfolding Rises
rises (replies.Refused (refusals.DiskFault disk count)) later n = absurd (n.no_fault disk count refl)
rises earlier later n = tt

all_rise : (reply : Reply) (es : List Entry) → IsFaultless reply → AllByRecursion (λ l. Rises reply l.reply) es
all_rise reply [] n = tt
all_rise reply (e ∷ es) n = (rises reply e.reply n, all_rise reply es n)

-- where no disk fails, counts of faults rise
pub faults_rise : (es : List Entry) → AllFaultless es → FaultsRise es
faults_rise [] n = tt
faults_rise (e ∷ es) n = (counts e.reply n.0, all_rise e.reply es n.0, faults_rise es n.1)

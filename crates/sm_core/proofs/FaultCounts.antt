-- The counts of failures that entries tell, one entry after another.
use Rattle.std.proofs.Common.{◌≡◌, ℕ, ◌<◌, ◌≤◌, ◌+◌, ◌-◌, ◌^◌, ◌==◌, min, max, List, [], ◌∷◌, ◌++◌, refl, sym, ◌∙◌, ap, subst, inl, inr, true, false, Bool, cond, arith}
use Rattle.std.specs.List.{AllByRecursion}
use Rattle.std.proofs.Math.Nat.{le-max_left, le-max_right}
use Rattle.std.proofs.lemmas.Bool.{cases_eq, eqb-false}
use Rattle.sm_base.specs.declared.numbers.DiskNo.{DiskNo}
use Rattle.sm_base.specs.declared.refusal.Refusal.{Refusal}
use Rattle.sm_base.specs.declared.refusal.Refusal.TheVariants as refusals
use Rattle.sm_defs.specs.Words.{Among}
use Rattle.sm_disk.specs.Disk.{DiskState}
use Rattle.sm_model.specs.declared.reply.Entry.{Entry}
use Rattle.sm_model.specs.declared.reply.Reply.{Reply}
use Rattle.sm_model.specs.declared.reply.Reply.TheVariants as replies
use Rattle.sm_model.specs.LegalRun.{fault, Rises, Counts}
use Rattle.sm_node.specs.Nodes.{Node}
use Rattle.sm_node.specs.Counted.{with_count, HasCounted, CountsStay, CountRises}
use Rattle.sm_core.specs.FaultsRise.{IsAbove, Raises, told_beside, counts_after, Rise, FaultsRise, FaultsJoin, FaultsAreCounted, FaultsAreLegal}

-- ---- counts

itself : (n : ℕ) → n ≤ n
itself n = omega arith

no_less : (counts : ℕ → ℕ) (disk count number : ℕ) → counts number ≤ with_count counts disk count number
no_less counts disk count number = go (number == disk)
  where
    go : (b : Bool) → counts number ≤ cond b (max count (counts number)) (counts number)
    go true = le-max_right count (counts number)
    go false = itself (counts number)

at_least : (counts : ℕ → ℕ) (disk count number : ℕ) → number ≡ disk → count ≤ with_count counts disk count number
at_least counts disk count number same = go (number == disk) refl
  where
    go : (b : Bool) → (number == disk) ≡ b → count ≤ cond b (max count (counts number)) (counts number)
    go true e = le-max_left count (counts number)
    go false e = absurd (eqb-false number disk e same)

-- a reply lowers no count
told_more : (counts : ℕ → ℕ) (reply : Reply) (number : ℕ) → counts number ≤ told_beside counts reply number
unfolding told_beside
told_more counts (replies.Refused (refusals.DiskFault disk count)) number = no_less counts disk.0 count number
told_more counts reply number = itself (counts number)

counts_more : (es : List Entry) (counts : ℕ → ℕ) (number : ℕ) → counts number ≤ counts_after counts es number
counts_more [] counts number = itself (counts number)
counts_more (e ∷ es) counts number = let first = told_more counts e.reply number in let rest = counts_more es (told_beside counts e.reply) number in omega (arith, first, rest)

told_at_least : (counts : ℕ → ℕ) (reply : Reply) (disk : DiskNo) (count : ℕ) → reply ≡ fault disk count → count ≤ told_beside counts reply disk.0
unfolding told_beside
told_at_least counts reply disk count is = subst (λ (r : Reply). count ≤ told_beside counts r disk.0) (sym is) (at_least counts disk.0 count disk.0 refl)

raised_above : (counts : ℕ → ℕ) (reply : Reply) (disk : DiskNo) (count : ℕ) → reply ≡ fault disk count → Raises counts reply → IsAbove (counts disk.0) count
unfolding Raises
raised_above counts reply disk count is h = subst (λ (r : Reply). Raises counts r) is h

-- above a count is above each lower one
above_less : (low high count : ℕ) → low ≤ high → IsAbove high count → IsAbove low count
above_less low high count le (inl lt) = inl (omega (arith, le, lt))
above_less low high count le (inr last) = inr last

-- ---- in plain words

pub are_counted : FaultsAreCounted
are_counted counts [] h e a disk count is = absurd a
are_counted counts (x ∷ es) h e (inl same) disk count is =
    let reply_is : x.reply ≡ fault disk count = ap (λ (y : Entry). y.reply) (sym same) ∙ is in (
      raised_above counts x.reply disk count reply_is h.0,
      let first = told_at_least counts x.reply disk count reply_is in let rest = counts_more es (told_beside counts x.reply) disk.0 in omega (arith, first, rest),
    )
are_counted counts (x ∷ es) h e (inr later) disk count is =
    let rest = are_counted (told_beside counts x.reply) es h.1 e later disk count is in
    (above_less (counts disk.0) (told_beside counts x.reply disk.0) count (told_more counts x.reply disk.0) rest.0, rest.1)

-- ---- as a legal run asks

-- a reply tells more of a disk that has counted so much
behind_one : (counts : ℕ → ℕ) (reply : Reply) (disk : DiskNo) (count : ℕ) → count ≤ counts disk.0 → Raises counts reply → Rises (fault disk count) reply
unfolding Rises Raises
behind_one counts (replies.Refused (refusals.DiskFault other more)) disk count le h = λ same. above_less count (counts other.0) more (subst (λ (k : DiskNo). count ≤ counts k.0) same le) h
behind_one counts reply disk count le h = tt

-- all entries behind tell more of a disk that has counted so much
behind : (counts : ℕ → ℕ) (es : List Entry) (disk : DiskNo) (count : ℕ) → count ≤ counts disk.0 → Rise counts es → AllByRecursion (λ l. Rises (fault disk count) l.reply) es
behind counts [] disk count le h = tt
behind counts (e ∷ es) disk count le h = (
  behind_one counts e.reply disk count le h.0,
  behind (told_beside counts e.reply) es disk count (let more = told_more counts e.reply disk.0 in omega (arith, le, more)) h.1,
)

-- nothing is asked behind a reply that tells no failure
behind_each : (counts : ℕ → ℕ) (es : List Entry) (reply : Reply) → Rise (told_beside counts reply) es → AllByRecursion (λ l. Rises reply l.reply) es
unfolding told_beside Rises
behind_each counts es (replies.Refused (refusals.DiskFault disk count)) h = behind (with_count counts disk.0 count) es disk count (at_least counts disk.0 count disk.0 refl) h
behind_each counts es reply h = none es
  where
    none : (ls : List Entry) → AllByRecursion (λ l. Unit {0}) ls
    none [] = tt
    none (l ∷ ls) = (tt, none ls)

counts_one : (counts : ℕ → ℕ) (reply : Reply) → Raises counts reply → Counts reply
unfolding Counts Raises
counts_one counts (replies.Refused (refusals.DiskFault disk count)) (inl lt) = omega (arith, lt)
counts_one counts (replies.Refused (refusals.DiskFault disk count)) (inr last) = omega (arith, last)
counts_one counts reply h = tt

pub are_legal : FaultsAreLegal
are_legal counts [] h = tt
are_legal counts (e ∷ es) h = (counts_one counts e.reply h.0, behind_each counts es e.reply h.1, are_legal (told_beside counts e.reply) es h.1)

-- ---- a reply that tells of no failure

quiet_raises : (counts : ℕ → ℕ) (reply : Reply) → ((disk : DiskNo) (count : ℕ) → ¬ (reply ≡ fault disk count)) → Raises counts reply
unfolding Raises
quiet_raises counts (replies.Refused (refusals.DiskFault disk count)) quiet = absurd (quiet disk count refl)
quiet_raises counts reply quiet = tt

quiet_same : (counts : ℕ → ℕ) (reply : Reply) → ((disk : DiskNo) (count : ℕ) → ¬ (reply ≡ fault disk count)) → told_beside counts reply ≡ counts
unfolding told_beside
quiet_same counts (replies.Refused (refusals.DiskFault disk count)) quiet = absurd (quiet disk count refl)
quiet_same counts reply quiet = refl

-- ---- entries behind one another

after_joined : (es fs : List Entry) (counts : ℕ → ℕ) → counts_after counts (es ++ fs) ≡ counts_after (counts_after counts es) fs
after_joined [] fs counts = refl
after_joined (e ∷ es) fs counts = after_joined es fs (told_beside counts e.reply)

rise_joined : (es fs : List Entry) (counts : ℕ → ℕ) → Rise counts es → Rise (counts_after counts es) fs → Rise counts (es ++ fs)
rise_joined [] fs counts h k = k
rise_joined (e ∷ es) fs counts h k = (h.0, rise_joined es fs (told_beside counts e.reply) h.1 k)

module _ {D : Type 0} (state : D → DiskState) where
  pub none_rise : (n : Node D) → FaultsRise state n [] n
  none_rise n = λ counts has. (tt, has)

  pub faults_join : FaultsJoin state
  faults_join a b c es fs h k = λ counts has.
      let first = h counts has in
      let rest = k (counts_after counts es) first.1 in
      (rise_joined es fs counts first.0 rest.0, subst (λ (f : ℕ → ℕ). HasCounted state f c) (sym (after_joined es fs counts)) rest.1)

  -- ---- one entry

  -- no failure is told
  pub quiet_rises : (old new : Node D) (e : Entry) → ((disk : DiskNo) (count : ℕ) → ¬ (e.reply ≡ fault disk count)) → CountsStay state old new → FaultsRise state old (e ∷ []) new
  quiet_rises old new e quiet stay = λ counts has. ((quiet_raises counts e.reply quiet, tt), subst (λ (f : ℕ → ℕ). HasCounted state f new) (sym (quiet_same counts e.reply quiet)) (stay counts has))

  -- a failure is told with the disk's count
  pub failure_rises : (old new : Node D) (e : Entry) (disk : DiskNo) (count : ℕ) → count < 2 ^ 64 → e.reply ≡ fault disk count → CountRises state disk count old new → FaultsRise state old (e ∷ []) new
  unfolding Raises told_beside
  failure_rises old new e disk count small is rises = λ counts has.
      let risen = rises counts has in
      subst (λ (r : Reply). (Raises counts r × Unit {0}) × HasCounted state (told_beside counts r) new) (sym is) ((above (counts disk.0) risen.0, tt), risen.1)
    where
      above : (before : ℕ) → min (before + 1) (2 ^ 64 - 1) ≤ count → IsAbove before count
      above before le = elim (cases_eq count (2 ^ 64 - 1)) [
        | inl last ↦ inr last
        | inr less ↦ inl (omega (arith, small, le, less))
      ]

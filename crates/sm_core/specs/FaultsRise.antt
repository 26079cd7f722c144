-- The failures that entries tell, beside the counts of the disks.
use Rattle.std.specs.Prelude.{◌≡◌, ◌⊎◌, ◌<◌, ◌≤◌, ◌-◌, ◌^◌, ℕ, List, [], ◌∷◌, ◌++◌, Some, slice_get}
use Rattle.sm_base.specs.declared.numbers.DiskNo.{DiskNo}
use Rattle.sm_base.specs.declared.refusal.Refusal.TheVariants as refusals
use Rattle.sm_defs.specs.Words.{Among}
use Rattle.sm_disk.specs.Disk.{DiskState}
use Rattle.sm_model.specs.declared.reply.Entry.{Entry}
use Rattle.sm_model.specs.declared.reply.Reply.{Reply}
use Rattle.sm_model.specs.declared.reply.Reply.TheVariants as replies
use Rattle.sm_model.specs.LegalRun as runs
use Rattle.sm_node.specs.Nodes.{Node}
use Rattle.sm_node.specs.Counted.{with_count, HasCounted}

-- the count is above what was counted before, or the greatest that there is
abbrev pub IsAbove : ℕ → ℕ → Type 0
IsAbove before count = (before < count) ⊎ (count ≡ 2 ^ 64 - 1)

-- a reply that tells that a disk failed tells a count above that disk's
unfoldable pub Raises : (ℕ → ℕ) → Reply → Type 0
Raises counts (replies.Refused (refusals.DiskFault disk count)) = IsAbove (counts disk.0) count
Raises counts reply = Unit {0}

-- the counts, and what a reply tells beside them
unfoldable pub told_beside : (ℕ → ℕ) → Reply → ℕ → ℕ
told_beside counts (replies.Refused (refusals.DiskFault disk count)) = with_count counts disk.0 count
told_beside counts reply = counts

-- what entries tell beside them
abbrev pub counts_after : (ℕ → ℕ) → List Entry → ℕ → ℕ
counts_after counts [] = counts
counts_after counts (e ∷ es) = counts_after (told_beside counts e.reply) es

-- each entry tells a count above that disk's at the start, and above those that entries before it tell of the disk
abbrev pub Rise : (ℕ → ℕ) → List Entry → Type 0
Rise counts [] = Unit {0}
Rise counts (e ∷ es) = Raises counts e.reply × Rise (told_beside counts e.reply) es

-- The entries stand between two states of a node: so is it with each count that they tell, and the disk has counted that much
-- at the end. No count falls.
abbrev pub FaultsRise : {D : Type 0} → (D → DiskState) → Node D → List Entry → Node D → Type 0
FaultsRise state old es new = (counts : ℕ → ℕ) → HasCounted state counts old → Rise counts es × HasCounted state (counts_after counts es) new

-- each disk, by its number, has failed at least as often as the counts say
abbrev pub DisksHaveCounted : {D : Type 0} → (D → DiskState) → (ℕ → ℕ) → List D → Type 0
DisksHaveCounted state counts disks = (k : ℕ) (x : _) → slice_get disks k ≡ Some x → counts k ≤ (state x).faults

-- ---- laws

-- entries behind one another
abbrev pub FaultsJoin : {D : Type 0} → (D → DiskState) → Type 0
FaultsJoin state = (a b c : Node _) (es fs : List Entry) → FaultsRise state a es b → FaultsRise state b fs c → FaultsRise state a (es ++ fs) c

-- in plain words: a count that is told of a disk is above the disk's at the start, and at most what is counted at the end
abbrev pub FaultsAreCounted : Type 0
FaultsAreCounted = (counts : ℕ → ℕ) (es : List Entry) → Rise counts es → (e : Entry) → Among es e → (disk : DiskNo) (count : ℕ) → e.reply ≡ runs.fault disk count
    → IsAbove (counts disk.0) count × (count ≤ counts_after counts es disk.0)

-- and each is above those that are told of the disk before it, as a legal run asks
abbrev pub FaultsAreLegal : Type 0
FaultsAreLegal = (counts : ℕ → ℕ) (es : List Entry) → Rise counts es → runs.FaultsRise es

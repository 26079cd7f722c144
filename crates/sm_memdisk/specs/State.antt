-- The state of a disk that keeps what it did.
use Rattle.std.specs.Prelude.{ℕ, ◌≤◌, true, refl, List, [], ◌∷◌, length}
use Rattle.std.proofs.Common.{inl, inr, arith}
use Rattle.sm_disk.specs.Image.{Image}
use Rattle.sm_disk.specs.Disk.{DiskState}
use Rattle.sm_memdisk.specs.Past.{Moment, Note, MayLeave, LeftSince, now_of, earlier_of}
use Rattle.sm_memdisk.specs.Content.{Content, seen_of}
use Rattle.sm_memdisk.specs.Placed.{pending_or_read}

none_later : (ms : List Moment) (t : ℕ) (c : Image) → length ms ≤ t → LeftSince ms t c → ⊥
none_later [] t c le left = left
none_later (m ∷ ms) t c le (inl now) = absurd (let h = now.0 in omega arith)
none_later (m ∷ ms) t c le (inr left) = none_later ms t c (omega arith) left

pub only_last : (m : Moment) (ms : List Moment) (c : Image) → LeftSince (m ∷ ms) (length ms) c → MayLeave m c
only_last m ms c (inl now) = now.1
only_last m ms c (inr left) = absurd (none_later ms (length ms) c (omega arith) left)

pub since_sooner : (ms : List Moment) (t u : ℕ) (c : Image) → t ≤ u → LeftSince ms u c → LeftSince ms t c
since_sooner [] t u c le left = left
since_sooner (m ∷ ms) t u c le (inl now) = inl (let h = now.0 in omega arith, now.1)
since_sooner (m ∷ ms) t u c le (inr left) = inr (since_sooner ms t u c le left)

-- what a disk means of this length, where a read gives c, after these calls and so many failures
abbrev pub state_from : ℕ → Image → List Note → ℕ → DiskState
state_from size c past faults = record {
  size = size;
  told = true;
  seen = c;
  may_leave = MayLeave (now_of past c);
  moment = length (earlier_of past c);
  left_since = LeftSince (now_of past c ∷ earlier_of past c);
  faults = faults;
  counts_now = λ t d le may. inl (le, may);
  only_now = only_last (now_of past c) (earlier_of past c);
  since_earlier = since_sooner (now_of past c ∷ earlier_of past c);
  only_told = λ t d left. refl;
  seen_may_stay = λ told. pending_or_read past c;
}

abbrev pub meant_by : Content → ℕ → DiskState
meant_by s faults = state_from s.size (seen_of s) s.past faults

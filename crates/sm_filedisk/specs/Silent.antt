-- A disk that tells nothing of its content.
use Rattle.std.specs.Prelude.{◌≡◌, ℕ, ◌+◌, ◌-◌, ◌^◌, min, Bool, false, IsTrue, Option, if◌then◌else◌}
use Rattle.std.specs.declared.fs.File.{File}
use Rattle.sm_disk.specs.Disk.{DiskState}
use Rattle.sm_filedisk.specs.declared.disk.FileDisk.{FileDisk}

abbrev pub file_of : FileDisk → Option File
file_of d = d.file

abbrev pub len_of : FileDisk → ℕ
len_of d = d.len

abbrev pub faults_of : FileDisk → ℕ
faults_of d = d.faults

pub untold : IsTrue false → ⊥
untold told = cc

abbrev pub silent_state : ℕ → ℕ → DiskState
silent_state size faults = record {
  size = size;
  told = false;
  seen = λ place. 0;
  may_leave = λ c. ⊥;
  moment = 0;
  left_since = λ t c. ⊥;
  faults = faults;
  counts_now = λ t c le may. may;
  only_now = λ c left. left;
  since_earlier = λ t u c le left. left;
  only_told = λ t c left. absurd left;
  seen_may_stay = λ told. untold told;
}

abbrev pub state_of : FileDisk → DiskState
state_of d = silent_state d.len d.faults

-- the count of faults rose by one exactly where the call failed, but for a count that stands at its end
abbrev pub Counts : FileDisk → Bool → FileDisk → Type 0
Counts old succeeded new = new.faults ≡ (if succeeded then old.faults else min (old.faults + 1) (2 ^ 64 - 1))

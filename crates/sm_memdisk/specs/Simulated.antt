-- What a disk in memory means, and which of its calls fail.
use Rattle.std.specs.Prelude.{◌≡◌, ℕ, ◌+◌, ◌-◌, ◌^◌, ◌≤◌, ◌||◌, nat_le, Bool, false, min, List, [], Option, Some, None, if◌then◌else◌}
use Rattle.std.specs.Ordering.{nat_cmp}
use Rattle.std.specs.BTreeSet as set
use Rattle.sm_disk.specs.Disk.{DiskState}
use Rattle.sm_memdisk.specs.declared.disk.MemDisk.{MemDisk}
use Rattle.sm_memdisk.specs.declared.disk.Stop.{Stop}
use Rattle.sm_memdisk.specs.declared.Image.{Image as Choice}
use Rattle.sm_memdisk.specs.declared.Image.TheVariants.{Old}
use Rattle.sm_memdisk.specs.Content.{seen_of, IsSame, DoesWrite, DoesSync, DoesRestart}
use Rattle.sm_memdisk.specs.State.{meant_by}

abbrev pub state_of : MemDisk → DiskState
state_of m = meant_by m.store m.faults

-- a count that has risen by one, but for one that stands at its end
abbrev pub raised : ℕ → ℕ
raised count = min (count + 1) (2 ^ 64 - 1)

-- the number of the next call of read, write or sync
abbrev pub next_call : MemDisk → ℕ
next_call m = raised m.calls

-- whether that call and all later ones are to fail
abbrev pub stop_names : Option Stop → ℕ → Bool
stop_names None call = false
stop_names (Some stop) call = nat_le stop.from call

-- whether the disk was told to fail that call
abbrev pub is_named : MemDisk → ℕ → Bool
is_named m call = stop_names m.stop call || set.contains nat_cmp m.failing call

-- a stop, after a call that it let fail if `named`
abbrev pub stop_after : Option Stop → Bool → Option Stop
stop_after None named = None
stop_after (Some stop) named = Some (record { from = stop.from; has_failed = stop.has_failed || named })

-- a restart lifts a stop that has let a call fail, and no other
abbrev pub stop_lifted : Option Stop → Option Stop
stop_lifted None = None
stop_lifted (Some stop) = if stop.has_failed then None else Some stop

-- the disk with this stop, which has let no call fail yet, in place of an earlier one
abbrev pub with_stop : MemDisk → ℕ → MemDisk
with_stop m call = record m { stop = Some (record { from = call; has_failed = false }) }

-- the disk with this choice for its restarts
abbrev pub with_choice : MemDisk → Choice → MemDisk
with_choice m choice = record m { chosen = choice }

abbrev pub starved_of : MemDisk → ℕ
starved_of m = m.starved

-- a disk of zeros that no call has been made of
pub record IsFresh (len : ℕ) (m : MemDisk) : Type 0 where
  pub size : m.store.size ≡ len
  pub zeros : (place : ℕ) → seen_of m.store place ≡ 0
  pub past : m.store.past ≡ []
  pub calls : m.calls ≡ 0
  pub faults : m.faults ≡ 0
  pub starved : m.starved ≡ 0
  pub chosen : m.chosen ≡ Old
  pub none_named : (call : ℕ) → is_named m call ≡ false

-- the disk is the same but for the calls that it was told to fail, which are these
pub record IsTold (old : MemDisk) (names : ℕ → Bool) (new : MemDisk) : Type 0 where
  pub named : (call : ℕ) → is_named new call ≡ names call
  pub rest : new ≡ record old { failing = new.failing }

-- the disk after it counted its next call
abbrev pub counted : MemDisk → MemDisk
counted m = record m {
  calls = next_call m;
  stop = stop_after m.stop (stop_names m.stop (next_call m));
  faults = if is_named m (next_call m) then raised m.faults else m.faults;
}

-- a write that was counted and recorded
pub record HasWritten (old : MemDisk) (at : ℕ) (bytes : List ℕ) (new : MemDisk) : Type 0 where
  pub content : DoesWrite old.store at bytes new.store
  pub rest : new ≡ record (counted old) { store = new.store }

-- a sync that was counted and recorded
pub record HasSynced (old new : MemDisk) : Type 0 where
  pub content : DoesSync old.store new.store
  pub rest : new ≡ record (counted old) { store = new.store }

-- a call that found no memory for its record: content and record stay, and both counts rise
pub record IsStarved (old new : MemDisk) : Type 0 where
  pub content : IsSame old.store new.store
  pub rest : new ≡ record (counted old) { store = new.store; starved = raised old.starved; faults = raised old.faults }

-- a call found no memory for its record; a count at its end counts as one that rose
abbrev pub HasStarved : MemDisk → MemDisk → Type 0
HasStarved old new = raised old.starved ≤ new.starved

-- the pending ranges have what was chosen, and a stop that has let a call fail is lifted
pub record HasRestarted (old new : MemDisk) : Type 0 where
  pub content : DoesRestart old.store old.chosen new.store
  pub rest : new ≡ record old { store = new.store; stop = stop_lifted old.stop }

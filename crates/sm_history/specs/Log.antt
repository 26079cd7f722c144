-- A history that grows up to a limit.
use Rattle.std.specs.Prelude.{◌≡◌, ℕ, ◌<◌, ◌==◌, if◌then◌else◌, List, length, Option, Some, None, Result, Err, OnErr}
use Rattle.sm_model.specs.declared.reply.Entry.{Entry}
use Rattle.sm_history.specs.declared.fault.ActFault.{ActFault}
use Rattle.sm_history.specs.declared.fault.ActFault.TheVariants.{HistoryFull, NoMemory as OutOfMemory}

-- room is how many places are kept free behind the entries
pub record Log : Type 0 where
  pub limit : ℕ
  pub entries : List Entry
  pub room : ℕ

-- one more entry needs no memory
pub record HasPlace (log : Log) : Type 0 where
  pub below : length log.entries < log.limit
  pub room : 0 < log.room

abbrev pub reserve_fault : Log → Option ActFault
reserve_fault log = if length log.entries == log.limit then Some HistoryFull else None

-- the fault comes exactly where it stands; without one the call answers Ok or finds no memory
abbrev pub Refuses : Option ActFault → Result (Unit {0}) ActFault → Type 0
Refuses (Some fault) result = result ≡ Err fault
Refuses None result = OnErr result (result ≡ Err OutOfMemory)

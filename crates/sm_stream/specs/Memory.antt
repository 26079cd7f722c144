-- What a source and a sink in memory are, and what one call does to them.
use Rattle.std.specs.Prelude.{ℕ, ◌-◌, ◌==◌, ◌&&◌, ◌||◌, nat_lt, min, Bool, List, ◌++◌, length, take, drop}
use Rattle.std.specs.List.{list_any}
use Rattle.sm_stream.specs.Causes.{counted}

-- the bytes left, how many a call gives at most, the calls made, those that are to fail, and how many failed
pub record MemorySource : Type 0 where
  pub bytes : List ℕ
  pub piece : ℕ
  pub calls : ℕ
  pub failing : List ℕ
  pub faults : ℕ

-- the bytes held and how many there may be, how many a call takes at most, the calls made, those that are to fail, and how many failed
pub record MemorySink : Type 0 where
  pub bytes : List ℕ
  pub room : ℕ
  pub piece : ℕ
  pub calls : ℕ
  pub failing : List ℕ
  pub faults : ℕ

-- a call was told to fail
abbrev pub is_named : ℕ → List ℕ → Bool
is_named call failing = list_any (λ c. c == call) failing

-- the next read fails
abbrev pub read_fails : MemorySource → Bool
read_fails s = is_named (counted s.calls) s.failing

-- how many bytes the next read gives, for a piece of this length
abbrev pub given : MemorySource → ℕ → ℕ
given s len = min (min len s.piece) (length s.bytes)

-- the source after a read that gave n bytes
abbrev pub source_read : MemorySource → ℕ → MemorySource
source_read s n = record s { bytes = drop n s.bytes; calls = counted s.calls }

-- the source after a read that failed
abbrev pub source_failed : MemorySource → MemorySource
source_failed s = record s { calls = counted s.calls; faults = counted s.faults }

-- the next write of these bytes fails: it was told to, or it has no room for any of them
abbrev pub write_fails : MemorySink → List ℕ → Bool
write_fails s bytes = is_named (counted s.calls) s.failing || (nat_lt 0 (length bytes) && (length s.bytes == s.room))

-- how many of these bytes the next write takes
abbrev pub taken : MemorySink → List ℕ → ℕ
taken s bytes = min (min (length bytes) s.piece) (s.room - length s.bytes)

-- the sink after a write that took the first n of these bytes
abbrev pub sink_written : MemorySink → List ℕ → ℕ → MemorySink
sink_written s bytes n = record s { bytes = s.bytes ++ take n bytes; calls = counted s.calls }

-- the sink after a write that failed
abbrev pub sink_failed : MemorySink → MemorySink
sink_failed s = record s { calls = counted s.calls; faults = counted s.faults }

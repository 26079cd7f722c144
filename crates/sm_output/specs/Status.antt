-- The number of each status.
use Rattle.std.specs.Prelude.{ℕ}
use Rattle.sm_output.specs.declared.status.Status as the_status
use Rattle.sm_output.specs.declared.status.Status.TheVariants as statuses

-- the exit status of the process
abbrev pub exit_number : the_status.Status → ℕ
exit_number statuses.Fine = 0
exit_number statuses.Usage = 2
exit_number (statuses.BadLine line kind) = 3
exit_number statuses.ScriptTooLong = 3
exit_number statuses.ReadFault = 4
exit_number statuses.WriteFault = 5
exit_number (statuses.Unopened disk kind) = 6
exit_number statuses.NoMemory = 7
exit_number statuses.HistoryFull = 8
exit_number (statuses.DownAtEnd disk) = 9

-- The exit code and the line of each status, and what it tells of a script that was worked. Contracts cite it.
use Rattle.std.specs.Prelude.{ℕ, Bool, true, false, List, [], ◌++◌, codes, decimal, Option, None, Some, is_some}
use Rattle.ca_keys.specs.Spelling.{queue_text}
use Rattle.ca_script_order.specs.OfScript as machine
use Rattle.ca_outside.specs.declared.transfer.ReadStop.{ReadStop}
use Rattle.ca_outside.specs.declared.transfer.ReadStop.TheVariants as stops
use Rattle.ca_run.specs.declared.status.Status.{Status}
use Rattle.ca_run.specs.declared.status.Status.TheVariants as statuses
use Rattle.ca_script.specs.declared.script_error.ScriptError.{ScriptError}
use Rattle.ca_script.specs.declared.script_error.ScriptError.TheVariants as errors
use Rattle.ca_script_lex.specs.Causes.{cause_text}
use Rattle.ca_trace_output.specs.declared.stop.WriteStop.{WriteStop}
use Rattle.ca_trace_output.specs.declared.stop.WriteStop.TheVariants as write_stops

abbrev pub exit_code : Status → ℕ
exit_code statuses.Fine = 0
exit_code (statuses.Script line cause) = 1
exit_code statuses.Usage = 2
exit_code statuses.ReadFault = 3
exit_code statuses.WriteFault = 4
exit_code (statuses.Stalled consumer line) = 5
exit_code (statuses.BudgetSpent count) = 6
exit_code statuses.Memory = 7
exit_code (statuses.NotClosed queue) = 8

-- the line that tells of a status; there is none of Fine
abbrev pub status_line : Status → List ℕ
status_line statuses.Fine = []
status_line (statuses.Script line cause) = codes "script: line " ++ (decimal line ++ (codes ": " ++ (cause_text cause ++ codes "\n")))
status_line statuses.Usage = codes "usage\n"
status_line statuses.ReadFault = codes "read fault\n"
status_line statuses.WriteFault = codes "write fault\n"
status_line (statuses.Stalled consumer line) = codes "stalled: consumer " ++ (decimal consumer ++ (codes " line " ++ (decimal line ++ codes "\n")))
status_line (statuses.BudgetSpent count) = codes "budget spent: " ++ (decimal count ++ codes "\n")
status_line statuses.Memory = codes "memory\n"
status_line (statuses.NotClosed queue) = codes "not closed: " ++ (queue_text queue ++ codes "\n")

-- how the script ended that was worked, where its whole output was written
abbrev pub ended_as : Status → Option machine.Status
ended_as statuses.Fine = Some machine.Fine
ended_as (statuses.Stalled consumer line) = Some (machine.Stalled consumer line)
ended_as (statuses.BudgetSpent count) = Some (machine.BudgetSpent count)
ended_as (statuses.Script line cause) = None
ended_as statuses.Usage = None
ended_as statuses.ReadFault = None
ended_as statuses.WriteFault = None
ended_as statuses.Memory = None
ended_as (statuses.NotClosed queue) = None

-- whether the whole output was written
abbrev pub is_whole : Status → Bool
is_whole (statuses.NotClosed queue) = true
is_whole status = is_some (ended_as status)

-- whether anything may have been written
abbrev pub writes : Status → Bool
writes statuses.WriteFault = true
writes statuses.Memory = true
writes status = is_whole status

-- whether a run may end so before a script is read to its end
abbrev pub ends_reading : Status → Bool
ends_reading (statuses.Script line cause) = true
ends_reading statuses.ReadFault = true
ends_reading statuses.Memory = true
ends_reading status = false

-- whether a run of a made script may end so
abbrev pub may_end_made : Status → Bool
may_end_made statuses.WriteFault = true
may_end_made statuses.Memory = true
may_end_made status = is_some (ended_as status)

-- the status of a script that is not read and worked
abbrev pub status_of_error : ScriptError → Status
status_of_error (errors.Refused line cause) = statuses.Script line cause
status_of_error errors.Memory = statuses.Memory

-- the status of bytes that did not all come
abbrev pub status_of_stop : ReadStop → Status
status_of_stop stops.Failed = statuses.ReadFault
status_of_stop stops.Memory = statuses.Memory

-- the status of a text that was not all written
abbrev pub status_of_write : WriteStop → Status
status_of_write write_stops.Failed = statuses.WriteFault
status_of_write write_stops.Memory = statuses.Memory

-- the status of a script that was worked and whose output was written
abbrev pub status_of_end : machine.Status → Status
status_of_end machine.Fine = statuses.Fine
status_of_end (machine.Stalled consumer line) = statuses.Stalled consumer line
status_of_end (machine.BudgetSpent count) = statuses.BudgetSpent count

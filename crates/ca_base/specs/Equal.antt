-- Tests of completions, part by part. Contracts cite it.
use Rattle.std.specs.Prelude.{ℕ, Bool, ◌==◌, ◌&&◌}
use Rattle.std.specs.Option.{option_eq}
use Rattle.ca_base.specs.declared.completion.Completion.{Completion}
use Rattle.ca_base.specs.declared.completion.WcOp.{WcOp}
use Rattle.ca_base.specs.declared.completion.WcOp.TheVariants as operations
use Rattle.ca_base.specs.declared.completion.WcStatus.{WcStatus}
use Rattle.ca_base.specs.declared.completion.WcStatus.TheVariants as statuses
use Rattle.ca_keys.specs.Equal.{key_eq, queue_eq, bool_eq}

-- each operation by a number of its own
abbrev pub operation_number : WcOp → ℕ
operation_number operations.Send = 0
operation_number operations.Write = 1
operation_number operations.Read = 2
operation_number operations.CmpSwap = 3
operation_number operations.FetchAdd = 4
operation_number operations.Bind = 5
operation_number operations.FastReg = 6
operation_number operations.LocalInv = 7
operation_number operations.Recv = 8
operation_number operations.RecvImm = 9

abbrev pub operation_eq : WcOp → WcOp → Bool
operation_eq a b = operation_number a == operation_number b

-- each status by a number of its own
abbrev pub status_number : WcStatus → ℕ
status_number statuses.Success = 0
status_number statuses.LocalLength = 1
status_number statuses.LocalProtection = 2
status_number statuses.Flushed = 3
status_number statuses.MemoryManagement = 4
status_number statuses.BadResponse = 5
status_number statuses.RemoteInvalidRequest = 6
status_number statuses.RemoteAccess = 7
status_number statuses.RemoteOperation = 8
status_number statuses.RetryExceeded = 9
status_number statuses.RnrRetryExceeded = 10

abbrev pub status_eq : WcStatus → WcStatus → Bool
status_eq a b = status_number a == status_number b

abbrev pub completion_eq : Completion → Completion → Bool
completion_eq a b =
    (a.id == b.id) && queue_eq a.queue b.queue && bool_eq a.receive b.receive && (a.place == b.place)
    && status_eq a.status b.status && operation_eq a.op b.op && (a.bytes == b.bytes)
    && option_eq (λ m n. m == n) a.imm b.imm && option_eq key_eq a.invalidated b.invalidated

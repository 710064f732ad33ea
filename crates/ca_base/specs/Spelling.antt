-- The one spelling of each name, in a script and in a trace. Contracts cite it.
use Rattle.std.specs.Prelude.{ℕ, List, ◌++◌, codes, decimal}
use Rattle.ca_base.specs.declared.change.Field.{Field}
use Rattle.ca_base.specs.declared.change.Field.TheVariants as fields
use Rattle.ca_base.specs.declared.change.State.{State}
use Rattle.ca_base.specs.declared.change.State.TheVariants as states
use Rattle.ca_base.specs.declared.completion.WcOp.{WcOp}
use Rattle.ca_base.specs.declared.completion.WcOp.TheVariants as operations
use Rattle.ca_base.specs.declared.completion.WcStatus.{WcStatus}
use Rattle.ca_base.specs.declared.completion.WcStatus.TheVariants as statuses
use Rattle.ca_base.specs.declared.lot.Lot.{Lot}
use Rattle.ca_base.specs.declared.lot.Lot.TheVariants as lots
use Rattle.ca_base.specs.declared.refusals.OpRefusal.{OpRefusal}
use Rattle.ca_base.specs.declared.refusals.OpRefusal.TheVariants as refusals
use Rattle.ca_base.specs.declared.refusals.RegionError.{RegionError}
use Rattle.ca_base.specs.declared.refusals.RegionError.TheVariants as regions
use Rattle.ca_base.specs.declared.refusals.WindowError.{WindowError}
use Rattle.ca_base.specs.declared.refusals.WindowError.TheVariants as windows
use Rattle.ca_base.specs.declared.request.Piece.{Piece}
use Rattle.ca_keys.specs.Spelling.{key_text, address_text}

-- KEY:ADDRESS:LENGTH
abbrev pub piece_text : Piece → List ℕ
piece_text p = key_text p.key ++ codes ":" ++ address_text p.address ++ codes ":" ++ decimal p.length

-- what the weather does to a packet
abbrev pub lot_text : Lot → List ℕ
lot_text lots.Pass = codes "pass"
lot_text lots.Lose = codes "lose"
lot_text (lots.Repeat count) = codes "repeat:" ++ decimal count
lot_text (lots.Hold count) = codes "hold:" ++ decimal count

-- the state of a queue pair
abbrev pub state_text : State → List ℕ
state_text states.Reset = codes "reset"
state_text states.Init = codes "init"
state_text states.Rtr = codes "rtr"
state_text states.Rts = codes "rts"
state_text states.Sqd = codes "sqd"
state_text states.Error = codes "error"

-- a field that is out of its range
abbrev pub field_text : Field → List ℕ
field_text fields.Peer = codes "peer"
field_text fields.Incarnation = codes "incarnation"
field_text fields.Psn = codes "psn"
field_text fields.Mtu = codes "mtu"
field_text fields.RnrCode = codes "rnr-code"
field_text fields.Retry = codes "retry"
field_text fields.RnrRetry = codes "rnr-retry"
field_text fields.Reads = codes "reads"
field_text fields.Depth = codes "depth"
field_text fields.Capacity = codes "capacity"
field_text fields.Pages = codes "pages"
field_text fields.Length = codes "length"
field_text fields.List = codes "list"
field_text fields.Kind = codes "kind"

-- what the request of a completion asked for
abbrev pub operation_text : WcOp → List ℕ
operation_text operations.Send = codes "send"
operation_text operations.Write = codes "write"
operation_text operations.Read = codes "read"
operation_text operations.CmpSwap = codes "cmp-swap"
operation_text operations.FetchAdd = codes "fetch-add"
operation_text operations.Bind = codes "bind"
operation_text operations.FastReg = codes "fast-reg"
operation_text operations.LocalInv = codes "local-inv"
operation_text operations.Recv = codes "recv"
operation_text operations.RecvImm = codes "recv-imm"

-- how a request ended
abbrev pub status_text : WcStatus → List ℕ
status_text statuses.Success = codes "success"
status_text statuses.LocalLength = codes "local-length"
status_text statuses.LocalProtection = codes "local-protection"
status_text statuses.Flushed = codes "flushed"
status_text statuses.MemoryManagement = codes "memory-management"
status_text statuses.BadResponse = codes "bad-response"
status_text statuses.RemoteInvalidRequest = codes "remote-invalid-request"
status_text statuses.RemoteAccess = codes "remote-access"
status_text statuses.RemoteOperation = codes "remote-operation"
status_text statuses.RetryExceeded = codes "retry-exceeded"
status_text statuses.RnrRetryExceeded = codes "rnr-retry-exceeded"

-- why a call on a region is refused
abbrev pub region_error_text : RegionError → List ℕ
region_error_text regions.Empty = codes "empty"
region_error_text regions.OutsideBuffer = codes "outside-buffer"
region_error_text regions.RightsNeedLocalWrite = codes "rights-need-local-write"
region_error_text regions.NotFree = codes "not-free"
region_error_text regions.BadPages = codes "bad-pages"
region_error_text regions.NotValid = codes "not-valid"
region_error_text regions.KeyDiffers = codes "key-differs"
region_error_text regions.NotFastRegistered = codes "not-fast-registered"
region_error_text regions.WindowsBound = codes "windows-bound"
region_error_text regions.Vacant = codes "vacant"

-- why a call on a window is refused
abbrev pub window_error_text : WindowError → List ℕ
window_error_text windows.NoWindow = codes "no-window"
window_error_text windows.WrongType = codes "wrong-type"
window_error_text windows.RegionNotValid = codes "region-not-valid"
window_error_text windows.NoBindRight = codes "no-bind-right"
window_error_text windows.RightsNeedLocalWrite = codes "rights-need-local-write"
window_error_text windows.OutsideRegion = codes "outside-region"
window_error_text windows.StillBound = codes "still-bound"
window_error_text windows.Empty = codes "empty"
window_error_text windows.Type1 = codes "type1"
window_error_text windows.NotBound = codes "not-bound"
window_error_text windows.KeyDiffers = codes "key-differs"
window_error_text windows.WrongQueue = codes "wrong-queue"

-- why a bind, a fast registration or an invalidation is refused
abbrev pub op_refusal_text : OpRefusal → List ℕ
op_refusal_text (refusals.Region error) = codes "region:" ++ region_error_text error
op_refusal_text (refusals.Window error) = codes "window:" ++ window_error_text error

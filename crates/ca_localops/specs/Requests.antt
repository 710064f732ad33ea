-- What a bind asks for. Contracts cite it.
use Rattle.std.specs.Prelude.{ℕ, Option, None}
use Rattle.ca_keys.specs.declared.names.QueueId.{QueueId}
use Rattle.ca_base.specs.declared.request.SendOp.{SendOp}
use Rattle.ca_base.specs.declared.request.SendOp.TheVariants as ops
use Rattle.ca_base.specs.objects.Region.{no_rights}
use Rattle.ca_localops.specs.declared.request.BindKind.TheVariants.{Type1, Type2}
use Rattle.ca_localops.specs.declared.request.BindRequest.{BindRequest}

-- the operation is a bind
abbrev pub IsBind : SendOp → Type 0
IsBind (ops.Bind1 window key address count rights) = Unit {0}
IsBind (ops.Bind2 window key low address count rights) = Unit {0}
IsBind op = ⊥

-- what a bind asks for, with the byte that it drew, posted at a queue pair
abbrev pub request_of : SendOp → Option ℕ → QueueId → BindRequest
request_of (ops.Bind1 window key address count rights) drawn queue =
    record { key = key; kind = Type1 drawn; address = address; length = count; rights = rights }
request_of (ops.Bind2 window key low address count rights) drawn queue =
    record { key = key; kind = Type2 low queue; address = address; length = count; rights = rights }
request_of op drawn queue =
    record { key = record { 0 = 0 }; kind = Type1 None; address = 0; length = 0; rights = no_rights }

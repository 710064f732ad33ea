-- Which send requests are copied by themselves. Contracts cite it.
use Rattle.std.specs.Prelude.{Bool, false, Option, None, Some, if◌then◌else◌, ◌==◌, length}
use Rattle.ca_base.specs.declared.request.SendOp.{SendOp}
use Rattle.ca_base.specs.declared.request.SendOp.TheVariants as ops
use Rattle.ca_base.specs.declared.request.SendRequest.{SendRequest}

-- a WRITE of one piece
abbrev pub is_small : SendOp → Bool
is_small (ops.Write address key list) = length list.items == 1
is_small op = false

-- the copy of such a request, and none of any other
abbrev pub small : SendRequest → Option SendRequest
small request = if is_small request.op then Some request else None

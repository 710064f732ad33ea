use Rattle.std.proofs.Common.{arith}
use Rattle.ca_base.specs.declared.limits.TheConstants.{MIN_PATH_MTU, MAX_MESSAGE_PACKETS}
use Rattle.ca_connection.proofs.LayoutLemmas.{segments-most}
use Rattle.ca_connection.proofs.numbers.longest_message.Goals as goal

pub returns : goal.returns
returns c = λ mtu bytes wide short. segments-most mtu bytes MAX_MESSAGE_PACKETS MIN_PATH_MTU (omega arith) wide (omega arith) (omega arith)

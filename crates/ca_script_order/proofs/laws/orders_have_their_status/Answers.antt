use Rattle.ca_script_order.proofs.StatusLemmas.{one-status, order-counted, order-status}
use Rattle.ca_script_order.specs.OfScript.{status_of}
use Rattle.ca_script_order.specs.Order.{ending}
use Rattle.ca_script_order.proofs.laws.orders_have_their_status.Goals as goal

pub returns : goal.returns
returns c = record {
  status = order-status;
  alone = λ s status has. one-status s (ending s) status (status_of s (ending s)) has (order-status s);
  count = order-counted;
}

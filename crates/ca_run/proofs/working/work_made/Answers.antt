use Rattle.std.proofs.Common.{sym, subst}
use Rattle.std.proofs.lemmas.Result.{IfOk-weaker}
use Rattle.ca_script_seed.specs.Made.{made_script}
use Rattle.ca_script_order.specs.OfScript as machine
use Rattle.ca_script_order.specs.Order.{ending}
use Rattle.ca_run.proofs.working.work_made.Goals as goal

pub returns-clause-worked : goal.returns-clause-worked
returns-clause-worked c = let s = made_script c.args.seed in IfOk-weaker c.make.result _ _ (λ made is. record {
  lawful = c.make.ensures.lawful;
  status = subst (machine.HasStatus s (ending s)) (sym is) (c.orders_have_their_status.ensures.status s);
}) c.make.ensures.status

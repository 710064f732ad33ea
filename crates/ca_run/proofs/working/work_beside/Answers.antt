use Rattle.std.proofs.Common.{sym, subst}
use Rattle.ca_script_order.specs.OfScript as machine
use Rattle.ca_script_order.specs.Order.{ending}
use Rattle.ca_run.specs.Run.{IsTextOf}
use Rattle.ca_script.specs.Script.{script_value}
use Rattle.ca_trace.specs.Trace.{text}
use Rattle.ca_run.proofs.working.work_beside.Goals as goal

pub work_alone-requires : goal.work_alone-requires
work_alone-requires c = c.can_be_worked.ensures c.requires.0 (script_value c.args.script) c.requires.1

pub returns-clause-worked : goal.returns-clause-worked
returns-clause-worked c = let s = script_value c.args.script in record {
  lawful = c.orders_of_texts_are_lawful.ensures c.requires.0 s c.requires.1;
  status = subst (machine.HasStatus s (ending s)) (sym c.in_ok-lone.ensures.status) (c.orders_have_their_status.ensures.status s);
}

pub returns-clause-text : goal.returns-clause-text
returns-clause-text c = subst (λ es. IsTextOf (text c.in_ok-lone.lone.history) es) c.in_ok-lone.ensures.history c.has_one_text.ensures

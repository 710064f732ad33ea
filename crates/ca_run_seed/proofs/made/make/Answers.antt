use Rattle.std.proofs.Common.{◌∙◌, ap, subst, sym}
use Rattle.ca_run_seed.proofs.TextLemmas.{row-stands, summary-made}
use Rattle.ca_script.specs.Script.{script_value}
use Rattle.ca_script_run.specs.Working.{IsWorkable}
use Rattle.ca_script_seed.specs.Text.{summary_text}
use Rattle.ca_run_seed.proofs.made.make.Goals as goal

pub work_script-requires : goal.work_script-requires
work_script-requires c = subst IsWorkable (sym c.in_ok-script.ensures) (c.made_scripts_can_be_worked.ensures.workable c.args.seed)

pub byte_sum-requires : goal.byte_sum-requires
byte_sum-requires c = row-stands _ _ _ c.in_ok-worked.ensures.row

pub returns-in_err-sum-clause-lawful : goal.returns-in_err-sum-clause-lawful
returns-in_err-sum-clause-lawful c = c.orders_of_made_scripts_are_lawful.ensures c.args.seed

pub returns-in_err-text-clause-lawful : goal.returns-in_err-text-clause-lawful
returns-in_err-text-clause-lawful c = c.orders_of_made_scripts_are_lawful.ensures c.args.seed

pub returns-clause-text : goal.returns-clause-text
returns-clause-text c = rw c.into_bytes.ensures.value (c.in_ok-text.ensures.ok
    ∙ ap summary_text (summary-made c.args.seed (script_value c.in_ok-script.script) c.in_ok-worked.worked.row c.in_ok-worked.worked.history c.in_ok-sum.sum c.summary_of-summary.result
    c.marks_tell_the_memory_of_orders.ensures c.in_ok-script.ensures c.in_ok-worked.ensures.history c.in_ok-worked.ensures.row c.in_ok-sum.ensures c.summary_of-summary.ensures))

pub returns-clause-lawful : goal.returns-clause-lawful
returns-clause-lawful c = c.orders_of_made_scripts_are_lawful.ensures c.args.seed

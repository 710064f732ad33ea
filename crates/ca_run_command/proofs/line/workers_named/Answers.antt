use Rattle.std.proofs.Common.{◌∙◌, arith, sym}
use Rattle.ca_run_command.proofs.SeedLemmas.{workers-parsed, workers-unread}
use Rattle.ca_run_command.proofs.line.workers_named.Goals as goal

pub returns-in_err-workers-clause-value : goal.returns-in_err-workers-clause-value
returns-in_err-workers-clause-value c = c.from_residual.ensures ∙ workers-unread c.parse.result c.args.text.now c.parse.ensures.value.0 (sym c.in_err-workers.was ∙ c.ok.ensures.value)

pub returns-clause-value : goal.returns-clause-value
returns-clause-value c = workers-parsed c.parse.result c.args.text.now c.in_ok-workers.workers c.parse.ensures.value.0 (sym c.in_ok-workers.was ∙ c.ok.ensures.value)
    (omega (arith, c.if-workers-eq0.false)) (omega (arith, c.if-workers-gt-MAX_WORKERS.false))

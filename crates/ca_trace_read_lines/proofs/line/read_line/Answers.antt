use Rattle.ca_trace_read_lines.proofs.ExactLemmas.{none_fits}
use Rattle.ca_trace_read_lines.proofs.line.read_line.Goals as goal

pub returns-clause-outside : goal.returns-clause-outside
returns-clause-outside c = none_fits c.exact_line.result c.args.text.now c.exact_line.ensures.exact

use Rattle.ca_law_parts.proofs.Numbers.LimitLemmas.{can-step, narrow-queue}
use Rattle.ca_law_parts.proofs.laws.numbers.queue_pair_can_step.Goals as goal

pub returns-clause-narrow : goal.returns-clause-narrow
returns-clause-narrow c = narrow-queue

pub returns-clause-step : goal.returns-clause-step
returns-clause-step c = can-step

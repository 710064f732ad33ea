use Rattle.ca_law_once.proofs.Ties.TimerLemmas.{timeout-ties, wake-ties}
use Rattle.ca_law_once.proofs.laws.ties.timers_keep_ties.Goals as goal

pub returns-clause-timeout : goal.returns-clause-timeout
returns-clause-timeout c = timeout-ties

pub returns-clause-wake : goal.returns-clause-wake
returns-clause-wake c = wake-ties

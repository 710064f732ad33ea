use Rattle.ca_engine.proofs.QuietLemmas.{quiet-told}
use Rattle.ca_engine.proofs.laws.engine.quiet_comes_when_all_are_not_ready.Goals as goal

pub returns : goal.returns
returns c = quiet-told

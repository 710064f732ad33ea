use Rattle.ca_law_once.proofs.Once.WholeLemmas.{whole-along}
use Rattle.ca_law_once.proofs.laws.once.machine_is_once.Goals as goal

pub returns : goal.returns
returns c = whole-along

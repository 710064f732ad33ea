use Rattle.ca_law_once.proofs.Written.WrittenLemmas.{once-whole}
use Rattle.ca_law_once.proofs.laws.written.machine_writes_once.Goals as goal

pub returns : goal.returns
returns c = once-whole

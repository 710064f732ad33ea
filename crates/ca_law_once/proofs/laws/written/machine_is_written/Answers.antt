use Rattle.ca_law_once.proofs.Written.WrittenLemmas.{written-whole}
use Rattle.ca_law_once.proofs.laws.written.machine_is_written.Goals as goal

pub returns : goal.returns
returns c = written-whole

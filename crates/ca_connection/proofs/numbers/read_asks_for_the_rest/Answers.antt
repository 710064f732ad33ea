use Rattle.ca_connection.proofs.LayoutLemmas.{span-read}
use Rattle.ca_connection.proofs.numbers.read_asks_for_the_rest.Goals as goal

pub returns : goal.returns
returns c = span-read

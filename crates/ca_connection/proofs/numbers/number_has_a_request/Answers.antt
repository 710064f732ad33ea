use Rattle.ca_connection.proofs.LayoutLemmas.{names-some}
use Rattle.ca_connection.proofs.numbers.number_has_a_request.Goals as goal

pub returns : goal.returns
returns c = names-some

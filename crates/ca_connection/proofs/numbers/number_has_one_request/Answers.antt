use Rattle.ca_connection.proofs.LayoutLemmas.{names-one}
use Rattle.ca_connection.proofs.numbers.number_has_one_request.Goals as goal

pub returns : goal.returns
returns c = names-one

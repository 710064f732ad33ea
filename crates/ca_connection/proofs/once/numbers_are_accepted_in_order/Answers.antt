use Rattle.ca_connection.proofs.PassedLemmas.{law-in-order}
use Rattle.ca_connection.proofs.once.numbers_are_accepted_in_order.Goals as goal

pub returns : goal.returns
returns c = law-in-order

use Rattle.ca_connection.proofs.OnceLemmas.{law-numbers}
use Rattle.ca_connection.proofs.bounds.numbers_form_a_chain.Goals as goal

pub returns : goal.returns
returns c = law-numbers

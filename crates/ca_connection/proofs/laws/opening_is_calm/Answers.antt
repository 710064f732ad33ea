use Rattle.ca_connection.proofs.CalmLemmas.{opening-calm}
use Rattle.ca_connection.proofs.laws.opening_is_calm.Goals as goal

pub returns : goal.returns
returns c = opening-calm

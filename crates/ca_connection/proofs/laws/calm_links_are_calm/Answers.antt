use Rattle.ca_connection.proofs.LinkLemmas.{calmly-calm}
use Rattle.ca_connection.proofs.laws.calm_links_are_calm.Goals as goal

pub returns : goal.returns
returns c = calmly-calm

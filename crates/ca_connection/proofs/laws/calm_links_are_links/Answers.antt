use Rattle.ca_connection.proofs.LinkLemmas.{calmly-reached}
use Rattle.ca_connection.proofs.laws.calm_links_are_links.Goals as goal

pub returns : goal.returns
returns c = calmly-reached

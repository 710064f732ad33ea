use Rattle.ca_law_caused.proofs.Lists.LinkLemmas.{lists-and-link}
use Rattle.ca_law_caused.proofs.laws.lists.lists_and_link_are_the_rest.Goals as goal

pub returns : goal.returns
returns c = lists-and-link

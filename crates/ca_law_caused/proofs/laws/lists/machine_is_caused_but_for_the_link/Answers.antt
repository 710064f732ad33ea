use Rattle.ca_law_caused.proofs.Caused.EventLemmas.{complete-with-causes}
use Rattle.ca_law_caused.proofs.Caused.RestLemmas.{causes-and-rest}
use Rattle.ca_law_caused.proofs.Lists.HistoryLemmas.{complete-by-lists}
use Rattle.ca_law_caused.proofs.Lists.LinkLemmas.{lists-and-link}
use Rattle.ca_law_caused.proofs.laws.lists.machine_is_caused_but_for_the_link.Goals as goal

pub returns : goal.returns
returns x c bytes es limited made follows link = causes-and-rest bytes es (complete-with-causes c bytes es limited made follows) (lists-and-link bytes es (complete-by-lists c bytes es limited made follows) link)

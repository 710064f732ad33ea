use Rattle.ca_law_caused.proofs.Lists.HistoryLemmas.{complete-by-lists}
use Rattle.ca_law_caused.proofs.laws.lists.receives_complete_with_their_lists.Goals as goal

pub returns : goal.returns
returns x = complete-by-lists

use Rattle.ca_law_world.proofs.Windows.EndedLemmas.{ended-counted}
use Rattle.ca_law_world.proofs.laws.windows.ended_window_is_counted.Goals as goal

pub returns : goal.returns
returns c = ended-counted

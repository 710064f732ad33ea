use Rattle.ca_law_world.proofs.Windows.WindowEventLemmas.{opening-bound}
use Rattle.ca_law_world.proofs.laws.windows.opening_world_counts_windows.Goals as goal

pub returns : goal.returns
returns c = opening-bound

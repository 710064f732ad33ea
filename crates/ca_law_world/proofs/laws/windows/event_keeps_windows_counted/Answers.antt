use Rattle.ca_law_world.proofs.Windows.WindowEventLemmas.{event-bound}
use Rattle.ca_law_world.proofs.laws.windows.event_keeps_windows_counted.Goals as goal

pub returns : goal.returns
returns c = event-bound

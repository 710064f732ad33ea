use Rattle.ca_law_world.proofs.Windows.BindingLemmas.{counted-binding}
use Rattle.ca_law_world.proofs.laws.windows.bound_window_is_counted.Goals as goal

pub returns : goal.returns
returns c = λ w s b bound is. counted-binding w.window w.region w.queue s b bound is

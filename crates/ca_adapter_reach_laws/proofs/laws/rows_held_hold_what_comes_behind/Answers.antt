use Rattle.ca_adapter_parts.specs.HeldView.{holding}
use Rattle.ca_adapter_reach_laws.proofs.TouchLemmas.{row-behind}
use Rattle.ca_adapter_reach_laws.proofs.laws.rows_held_hold_what_comes_behind.Goals as goal

pub returns : goal.returns
returns c = λ c h row finish e. row-behind (holding h).has c (holding h).world row finish e

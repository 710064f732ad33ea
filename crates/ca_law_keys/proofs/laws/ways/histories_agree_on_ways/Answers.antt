use Rattle.ca_law_keys.proofs.Ways.WayLaws.{ways-along}
use Rattle.ca_law_keys.proofs.laws.ways.histories_agree_on_ways.Goals as goal

pub returns : goal.returns
returns c = ways-along

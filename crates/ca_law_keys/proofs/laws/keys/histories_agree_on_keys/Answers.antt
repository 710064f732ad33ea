use Rattle.ca_law_keys.proofs.Keys.KeyLaws.{keys-along}
use Rattle.ca_law_keys.proofs.laws.keys.histories_agree_on_keys.Goals as goal

pub returns : goal.returns
returns c = keys-along

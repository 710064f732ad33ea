use Rattle.ca_law_keys.proofs.Keys.KeyLaws.{opening-keys-agree}
use Rattle.ca_law_keys.proofs.laws.keys.opening_agrees_on_keys.Goals as goal

pub returns : goal.returns
returns c = opening-keys-agree

use Rattle.ca_law_keys.proofs.Keys.KeyLaws.{event-keys-agree}
use Rattle.ca_law_keys.proofs.laws.keys.event_keeps_keys_agreed.Goals as goal

pub returns : goal.returns
returns c = event-keys-agree

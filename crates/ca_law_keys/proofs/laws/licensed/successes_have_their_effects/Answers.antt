use Rattle.ca_law_keys.proofs.Licensed.EffectEventLemmas.{effects-along}
use Rattle.ca_law_keys.proofs.laws.licensed.successes_have_their_effects.Goals as goal

pub returns : goal.returns
returns c = effects-along

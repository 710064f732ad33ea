use Rattle.ca_law_scripts.proofs.Rest.TextLemmas.{text-callable, text-limited}
use Rattle.ca_law_scripts.proofs.laws.rest.texts_mean_limited_scripts.Goals as goal

pub returns : goal.returns
returns c = record { limits = text-limited; verbs = text-callable }

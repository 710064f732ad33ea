use Rattle.ca_law_scripts.proofs.Texts.FrontLemmas.{front-refused, text-fits}
use Rattle.ca_law_scripts.proofs.laws.texts.long_texts_are_refused_by_their_fronts.Goals as goal

pub returns : goal.returns
returns c = record { limit = text-fits; front = front-refused }

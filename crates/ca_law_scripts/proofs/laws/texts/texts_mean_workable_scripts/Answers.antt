use Rattle.ca_law_scripts.proofs.Texts.OfferLemmas.{text-offers}
use Rattle.ca_law_scripts.proofs.Texts.SizeLemmas.{text-small}
use Rattle.ca_law_scripts.proofs.laws.texts.texts_mean_workable_scripts.Goals as goal

pub returns : goal.returns
returns c = record { consumers = λ text s reads. (text-small text s reads).0; offers = text-offers }

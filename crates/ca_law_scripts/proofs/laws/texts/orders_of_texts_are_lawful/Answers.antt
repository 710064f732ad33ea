use Rattle.ca_law_scripts.proofs.Texts.LawfulLemmas.{lawful-by-text}
use Rattle.ca_law_scripts.proofs.laws.texts.orders_of_texts_are_lawful.Goals as goal

pub returns : goal.returns
returns c = lawful-by-text

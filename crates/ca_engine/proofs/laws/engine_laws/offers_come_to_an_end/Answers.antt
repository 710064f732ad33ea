use Rattle.ca_engine.proofs.LoopLemmas.{loop-ends}
use Rattle.ca_engine.proofs.laws.engine_laws.offers_come_to_an_end.Goals as goal

pub returns : goal.returns
returns c = loop-ends

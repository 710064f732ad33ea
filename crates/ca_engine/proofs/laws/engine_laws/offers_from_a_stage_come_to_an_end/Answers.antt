use Rattle.ca_engine.proofs.LoopLemmas.{loop-ends-from}
use Rattle.ca_engine.proofs.laws.engine_laws.offers_from_a_stage_come_to_an_end.Goals as goal

pub returns : goal.returns
returns c = loop-ends-from

use Rattle.ca_adapter_reach_laws.proofs.WriteLemmas.{cut-at-hand, written-at-hand}
use Rattle.ca_adapter_reach_laws.proofs.laws.writes_held_are_at_hand.Goals as goal

pub returns-clause-held : goal.returns-clause-held
returns-clause-held c = written-at-hand

pub returns-clause-cut : goal.returns-clause-cut
returns-clause-cut c = cut-at-hand

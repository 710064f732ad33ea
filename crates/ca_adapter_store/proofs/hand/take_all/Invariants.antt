use Rattle.ca_base.specs.Configuration.{configuration_in}
use Rattle.ca_adapter_store.proofs.GatherLemmas.{IsLikely}
use Rattle.ca_adapter_store.proofs.hand.take_all.Given as goal

-- the row and the hand stand for what they stood for
abbrev pub invariant-loop-name : goal.invariant-loop-name
invariant-loop-name l = IsLikely (configuration_in l.settings) l.fn.parts.items l.fn.held l.parts.items l.held l.taken

use Rattle.ca_base.specs.Configuration.{configuration_in}
use Rattle.ca_adapter_store.proofs.GatherLemmas.{IsGathered}
use Rattle.ca_adapter_store.proofs.hand.gather.Given as goal

-- so many parts were taken of those that the event needs, beside those that it most likely needs
abbrev pub invariant-loop : goal.invariant-loop
invariant-loop l = IsGathered (configuration_in l.settings) l.event l.fn.parts.items l.fn.held l.parts.items l.held l.taken l.counter

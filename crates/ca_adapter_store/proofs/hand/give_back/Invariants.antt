use Rattle.std.proofs.Common.{drop}
use Rattle.ca_base.specs.Configuration.{configuration_in}
use Rattle.ca_adapter_store.proofs.GatherLemmas.{IsGivenBack}
use Rattle.ca_adapter_store.proofs.hand.give_back.Given as goal

-- in hand are the parts to come
abbrev pub invariant-loop-one : goal.invariant-loop-one
invariant-loop-one l =
    IsGivenBack (configuration_in l.settings) l.fn.parts.items l.fn.held l.parts.items l.held (drop l.one-index l.taken)

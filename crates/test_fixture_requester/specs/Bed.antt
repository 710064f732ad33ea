-- What holds of a queue pair and what it reaches before and after each call. Contracts cite it.
use Rattle.ca_model.specs.machine.Invariants.{IsQueue}
use Rattle.test_fixture_reach.specs.SmallReach.{FitTogether}
use Rattle.test_fixture_requester.specs.declared.bed.Bed.{Bed}

-- the queue pair is one that comes up, and the parts that it reaches fit each other
pub record Stands (b : Bed) : Type 0 where
  pub queue : IsQueue b.queue
  pub reach : FitTogether b.reach

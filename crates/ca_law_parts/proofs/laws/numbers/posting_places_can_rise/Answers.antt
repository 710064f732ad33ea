use Rattle.std.proofs.Common.{arith}
use Rattle.ca_law_parts.proofs.Numbers.LimitLemmas.{own-places, shared-places, there-within}
use Rattle.ca_law_parts.proofs.laws.numbers.posting_places_can_rise.Goals as goal
use Rattle.ca_model.specs.machine.World.{Srq_of}

pub returns-clause-sends : goal.returns-clause-sends
returns-clause-sends c = λ n w name q few within is. omega (arith, (there-within n w name q within is).sends, few)

pub returns-clause-receives : goal.returns-clause-receives
returns-clause-receives c = λ n w name q few within is. own-places n q.receives few (there-within n w name q within is).receives

pub returns-clause-shared : goal.returns-clause-shared
returns-clause-shared c = λ n w s few within. shared-places n (w.srq s).srq few (within (Srq_of s)).1

use Rattle.std.proofs.Common.{arith}
use Rattle.ca_law_parts.proofs.Numbers.LimitLemmas.{taken-places, there-sound, there-within}
use Rattle.ca_law_parts.proofs.Numbers.NumberLemmas.{oldest-within}
use Rattle.ca_law_parts.proofs.laws.numbers.places_in_use_are_within.Goals as goal
use Rattle.ca_law_parts.specs.Raised.{psn_bound}

pub returns-clause-oldest : goal.returns-clause-oldest
returns-clause-oldest c = λ config n w name q sound within is. omega (
  arith,
  (there-within n w name q within is).sends,
  (there-sound config w name q sound is).requester.begun,
  (there-sound config w name q sound is).requester.waiting,
)

pub returns-clause-next : goal.returns-clause-next
returns-clause-next c = λ config n w name q sound within is.
    omega (arith, (there-within n w name q within is).sends, (there-sound config w name q sound is).requester.waiting)

pub returns-clause-taken : goal.returns-clause-taken
returns-clause-taken c = λ config n w name q sound within is.
    taken-places n q.receives (there-sound config w name q sound is).receives (there-within n w name q within is).receives

pub returns-clause-oldest_psn : goal.returns-clause-oldest_psn
returns-clause-oldest_psn c = λ n w name q within is. oldest-within (psn_bound n) n q (there-within n w name q within is)

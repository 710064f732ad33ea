-- What an event makes of a requester, before it is made: either new numbers or a failure. Contracts cite it.
use Rattle.std.specs.Prelude.{◌≡◌, List, [], ◌∷◌, Option, None, Some}
use Rattle.ca_base.specs.declared.completion.WcStatus.{WcStatus}
use Rattle.ca_base.specs.declared.queue_numbers.RequesterNumbers.{RequesterNumbers}
use Rattle.ca_base.specs.objects.QueuePair.{QueuePair}
use Rattle.ca_model.specs.machine.Acknowledgements.{failure_effects, with_requester}
use Rattle.ca_model.specs.declared.mark.Mark.{Mark}
use Rattle.ca_model.specs.machine.Expected.{behind_marks}
use Rattle.ca_model.specs.machine.Row.{Effects, queue_and_marks}
use Rattle.ca_requester_sends.specs.declared.outcome.Failure.{Failure}
use Rattle.ca_requester_sends.specs.declared.outcome.Outcome.{Outcome}
use Rattle.ca_requester_sends.specs.declared.outcome.Outcome.TheVariants.{Goes, Fails}
use Rattle.ca_requester_sends.specs.Finished.{IsAhead, success_between}

-- the requester goes on with these numbers, or the oldest unfinished request fails under them
abbrev pub outcome_effects : Outcome → QueuePair → Effects
outcome_effects (Goes numbers) q = queue_and_marks (with_requester numbers q) []
outcome_effects (Fails f) q = failure_effects f.status f.cause (with_requester f.numbers q)

-- a mark, if there is one
abbrev pub marks_of : Option Mark → List Mark
marks_of None = []
marks_of (Some mark) = mark ∷ []

-- a failure of which no local operation is the cause
abbrev pub failure_of : RequesterNumbers → WcStatus → Failure
failure_of numbers status = record { numbers = numbers; status = status; cause = None }

-- the numbers under which it goes on or fails
abbrev pub numbers_of : Outcome → RequesterNumbers
numbers_of (Goes numbers) = numbers
numbers_of (Fails f) = f.numbers

-- the requests before the oldest unfinished one of an outcome complete, then come these marks, and then the outcome
abbrev pub effects_behind : List Mark → Outcome → QueuePair → Effects
effects_behind first o q =
    behind_marks (success_between q.requester.oldest (numbers_of o).oldest q) (behind_marks first (outcome_effects o q))

-- an outcome that makes this of any queue pair which has these numbers, and finishes no more requests
pub record IsUnder (numbers : RequesterNumbers) (make : QueuePair → Effects) (o : Outcome) : Type 0 where
  pub effects : (q : QueuePair) → outcome_effects o q ≡ make (with_requester numbers q)
  pub oldest : (numbers_of o).oldest ≡ numbers.oldest

-- an outcome that makes these effects of a queue pair, with what it finishes
pub record Makes (e : Effects) (q : QueuePair) (o : Outcome) : Type 0 where
  pub ahead : IsAhead (numbers_of o).oldest q
  pub effects : effects_behind [] o q ≡ e

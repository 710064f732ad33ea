-- The completions of requests that succeeded, from a posting place on. Contracts cite it.
use Rattle.std.specs.Prelude.{ℕ, suc, ◌-◌, ◌≤◌, List, [], ◌∷◌, ◌++◌, take}
use Rattle.ca_keys.specs.declared.names.QueueId.{QueueId}
use Rattle.ca_base.specs.declared.request.PostedSend.{PostedSend}
use Rattle.ca_base.specs.objects.QueuePair.{QueuePair}
use Rattle.ca_base.specs.objects.WorkQueue.{items_from, next_place}
use Rattle.ca_model.specs.declared.mark.Mark.{Mark}
use Rattle.ca_model.specs.machine.Completions.{success_marks}
use Rattle.ca_model.specs.machine.Invariants.{IsQueue}

-- the completions of requests that succeeded, from a posting place on
abbrev pub success_from : QueueId → ℕ → List PostedSend → List Mark
success_from queue posting [] = []
success_from queue posting (p ∷ ps) = success_marks queue posting p.request ++ success_from queue (suc posting) ps

-- those of the requests from a posting place on and before another
abbrev pub success_between : ℕ → ℕ → QueuePair → List Mark
success_between posting end q = success_from q.queue posting (take (end - posting) (items_from posting q.sends))

-- a posting place to which a queue pair's oldest unfinished request may move: none that was finished before, and none behind
-- the last that is posted
pub record IsAhead (posting : ℕ) (q : QueuePair) : Type 0 where
  pub queue : IsQueue q
  pub oldest : q.requester.oldest ≤ posting
  pub posted : posting ≤ next_place q.sends

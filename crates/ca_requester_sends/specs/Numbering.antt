-- The posted requests from a posting place on, as the machine numbers them. Contracts cite it.
use Rattle.std.specs.Prelude.{◌≡◌, ℕ, ◌+◌, ◌-◌, ◌*◌, ◌^◌, ◌≤◌, ◌<◌, suc, true, false, List, ◌∷◌, find, length, slice_get, sum_by, take, None, Some}
use Rattle.ca_base.specs.declared.limits.TheConstants.{MAX_MESSAGE_BYTES}
use Rattle.ca_base.specs.declared.queue_numbers.RequesterNumbers.{RequesterNumbers}
use Rattle.ca_base.specs.objects.QueuePair.{QueuePair}
use Rattle.ca_base.specs.objects.WorkQueue.{item_at, items_from}
use Rattle.ca_model.specs.Requests.{list_of, psns_of}
use Rattle.ca_model.specs.machine.CanStep.{CanStep}
use Rattle.ca_model.specs.machine.Invariants.{IsList, IsQueue, begun_end}
use Rattle.ca_model.specs.machine.Numbering as numbering
use Rattle.ca_model.specs.machine.Numbering.{Numbered, has_psn}
use Rattle.ca_model.specs.machine.Requester.{begins, next_request}
use Rattle.ca_requester_sends.specs.declared.numbering.Next.{Next}

-- the requests from a posting place on, of which the first has or would get the PSNs from one on
abbrev pub numbers_from : ℕ → ℕ → QueuePair → List Numbered
numbers_from posting psn q = numbering.numbers_of q.responder.mtu posting psn (items_from posting q.sends)

-- those of them that have begun
abbrev pub begun_from : ℕ → ℕ → QueuePair → List Numbered
begun_from posting psn q = take (q.requester.next - posting) (numbers_from posting psn q)

-- a posting place of a queue pair that is not freed, from which on the PSNs are far below the end of their type
pub record IsWithin (posting psn : ℕ) (q : QueuePair) : Type 0 where
  pub queue : IsQueue q
  pub posted : q.sends.first ≤ posting
  pub narrow : psn + MAX_MESSAGE_BYTES * length (items_from posting q.sends) < 2 ^ 63

-- a posted request of a queue pair: its list is short, its PSNs lie far below the end of their type, and there is a
-- posting place behind it; and it stands at its own
pub record IsSound (q : QueuePair) (n : Numbered) : Type 0 where
  pub queue : IsQueue q
  pub list : IsList (list_of n.request.op)
  pub counted : n.count ≡ psns_of q.responder.mtu n.request.op
  pub narrow : n.first + n.count < 2 ^ 63
  pub room : n.place + 1 < 2 ^ 64
  pub posted : item_at n.place q.sends ≡ Some (record { request = n.request; drawn = n.drawn })

-- the request at a posting place, with those behind it
pub record IsNumbered (posting psn : ℕ) (q : QueuePair) (n : Numbered) : Type 0 where
  pub sound : IsSound q n
  pub before : numbers_from posting psn q ≡ n ∷ numbers_from (suc posting) (psn + n.count) q
  pub first : n.first ≡ psn
  pub room : posting + 1 < 2 ^ 64
  pub within : IsWithin (suc posting) (psn + n.count) q

-- a posted request that has this PSN
pub record IsRequestOf (psn : ℕ) (q : QueuePair) (n : Numbered) : Type 0 where
  pub sound : IsSound q n
  pub has : has_psn psn n ≡ true

-- Numbers that a queue pair may go on with: the oldest request is none that was finished before, and has begun or
-- begins next; retries are few.
pub record AreNumbers (q : QueuePair) (numbers : RequesterNumbers) : Type 0 where
  pub within : IsWithin numbers.oldest numbers.oldest_psn q
  pub next : numbers.next ≡ q.requester.next
  pub oldest : q.requester.oldest ≤ numbers.oldest
  pub begun : numbers.oldest ≤ numbers.next
  pub retries : numbers.retries < 255
  pub rnrs : numbers.rnrs < 2 ^ 62

-- of the requests from a posting place on, the next thing is of this one: it goes on
pub record GoesOnFrom (posting psn : ℕ) (q : QueuePair) (n : Numbered) : Type 0 where
  pub sound : IsSound q n
  pub request : find (has_psn q.requester.cursor) (begun_from posting psn q) ≡ Some n
  pub behind : n.first ≤ q.requester.cursor
  pub before : q.requester.cursor < n.first + n.count

-- of the requests from a posting place on, the next thing is of this one: it begins with it, and none goes on
pub record BeginsFrom (posting psn : ℕ) (q : QueuePair) (n : Numbered) : Type 0 where
  pub sound : IsSound q n
  pub none : find (has_psn q.requester.cursor) (begun_from posting psn q) ≡ None
  pub request : slice_get (numbers_from posting psn q) (q.requester.next - posting) ≡ Some n
  pub first : n.first ≡ psn + sum_by (λ m. m.count) (begun_from posting psn q)
  pub room : q.requester.next + 1 < 2 ^ 64

-- of the requests from a posting place on, none goes on and none begins
pub record IsNoneFrom (posting psn : ℕ) (q : QueuePair) : Type 0 where
  pub goes_on : find (has_psn q.requester.cursor) (begun_from posting psn q) ≡ None
  pub begins : slice_get (numbers_from posting psn q) (q.requester.next - posting) ≡ None

-- no request goes on or begins
pub record IsNoNext (q : QueuePair) : Type 0 where
  pub request : next_request q ≡ None
  pub begins : begins q ≡ false

-- the next thing is of this request, and begins it or not
pub record IsNext (q : QueuePair) (next : Next) : Type 0 where
  pub step : CanStep q
  pub sound : IsSound q next.request
  pub request : next_request q ≡ Some next.request
  pub begins : begins q ≡ next.begins
  pub goes_on : next.begins ≡ false → numbering.request_at q.requester.cursor q ≡ Some next.request
  pub begun : next.begins ≡ true → numbering.next_to_begin q ≡ Some next.request
  pub within : next.begins ≡ false → (next.request.first ≤ q.requester.cursor) × (q.requester.cursor < next.request.first + next.request.count)
  pub room : next.begins ≡ true → q.requester.next + 1 < 2 ^ 64
  pub at_end : next.begins ≡ true → next.request.first ≡ begun_end q

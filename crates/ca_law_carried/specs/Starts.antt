-- What the past of a history and the world of the machine say alike of PSNs: with which one a queue pair began to send, and
-- that of its oldest unfinished request. Laws cite it.
use Rattle.std.specs.Prelude.{List, None, Option, Some, [], find, sum_by, take, true, ℕ, ◌+◌, ◌≡◌}
use Rattle.ca_law_keys.specs.Posts.{life}
use Rattle.ca_base.specs.declared.correspondent.Correspondent.{Correspondent}
use Rattle.ca_base.specs.objects.QueuePair.{NoQueue, Present, QueuePair, QueueSlot}
use Rattle.ca_keys.specs.declared.names.QueueId.{QueueId}
use Rattle.ca_model.specs.Past.{Past, Posted, Start, correspondent_eq, whole_start}
use Rattle.ca_model.specs.Requests.{psns_of}
use Rattle.ca_model.specs.machine.Invariants.{is_fresh, is_sending}
use Rattle.ca_model.specs.machine.World.{World}

-- how many PSNs the requests take that were posted before a place
abbrev pub psns_before : ℕ → List Posted → ℕ → ℕ
psns_before mtu posted place = sum_by (λ p. psns_of mtu p.request.op) (take place posted)

-- the oldest unfinished request of a queue pair has the PSN behind those of the requests posted before it
abbrev pub Stands : ℕ → List Posted → QueuePair → Type 0
Stands base posted q = q.requester.oldest_psn ≡ base + psns_before q.responder.mtu posted q.requester.oldest

-- the same, from the PSN on with which the queue pair began to send
abbrev pub HasBegun : Option Start → List Posted → QueuePair → Type 0
HasBegun None posted q = ⊥
HasBegun (Some start) posted q = Stands (whole_start start) posted q

-- Nothing was posted to a queue pair that has not begun to send; one that sends has begun, and its oldest unfinished
-- request has its PSN.
pub record AgreeOnStart (start : Option Start) (posted : List Posted) (q : QueuePair) : Type 0 where
  pub fresh : is_fresh q.state ≡ true → posted ≡ []
  pub begun : is_sending q.state ≡ true → HasBegun start posted q

-- the same of what stands in a slot
abbrev pub StartsInSlot : Option Start → List Posted → QueueSlot → Type 0
StartsInSlot start posted (NoQueue incarnation timers) = Unit {0}
StartsInSlot start posted (Present q) = AgreeOnStart start posted q

-- the change to Ready to Send of a queue pair in an incarnation, the latest first
abbrev pub start_in : List Start → Correspondent → Option Start
start_in starts own = find (λ s. correspondent_eq s.own own) starts

-- the queue pair in each slot agrees with its start and with what was posted, in its present incarnation
abbrev pub AgreeOnStarts : (QueueId → ℕ) → List Start → (Correspondent → List Posted) → (QueueId → QueueSlot) → Type 0
AgreeOnStarts lives starts posted queue = (q : QueueId) → StartsInSlot (start_in starts (life q (lives q))) (posted (life q (lives q))) (queue q)

-- what a past and a world say of PSNs
abbrev pub StartsAgree : Past → World → Type 0
StartsAgree past w = AgreeOnStarts past.incarnation past.starts past.posted w.queue

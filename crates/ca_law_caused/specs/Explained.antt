-- What the past of a history and the world of the machine say alike of why queue pairs are as they are: something befell
-- one in Error, and the past knows how far the sends of one that sends are answered. Laws cite it.
use Rattle.std.specs.Prelude.{◌≡◌, ◌+◌, ◌≤◌, nat_lt, Bool, true, List, sum_by, take, Option, Some, is_some, slice_get}
use Rattle.std.specs.Option.{option_map_or}
use Rattle.ca_base.specs.declared.change.State.TheVariants as states
use Rattle.ca_base.specs.declared.limits.TheConstants.{MAX_RETRY}
use Rattle.ca_base.specs.objects.QueuePair.{QueuePair, QueueSlot, NoQueue, Present}
use Rattle.ca_base.specs.objects.StateTable.{state_eq}
use Rattle.ca_keys.specs.declared.names.QueueId.{QueueId}
use Rattle.ca_model.specs.Past.{Fault, Naming, Past, Posted, Start, present_incarnation, start_of, whole_start}
use Rattle.ca_model.specs.Progress.{Progress}
use Rattle.ca_model.specs.Requests.{psns_of}
use Rattle.ca_model.specs.machine.Invariants.{is_connected, is_fresh, is_sending}
use Rattle.ca_model.specs.machine.World.{World}

-- what a past tells of a queue pair in its present incarnation
pub record QueuePast : Type 0 where
  pub faults : List Fault
  pub posted : List Posted
  pub naming : Option Naming
  pub start : Option Start
  pub progress : Progress

abbrev pub queue_past : Past → QueueId → QueuePast
queue_past past q = record {
  faults = past.faults (present_incarnation past q);
  posted = past.posted (present_incarnation past q);
  naming = past.naming q;
  start = start_of past q;
  progress = past.progress (present_incarnation past q);
}

-- something befell it
abbrev pub is_faulty : List Fault → Bool
is_faulty faults = is_some (slice_get faults 0)

-- A queue pair that sends began with an Rts that the past tells of, with its limits of retries. The first PSN of its
-- oldest unfinished request is the one behind those of the requests that were posted before, and its progress is the one
-- that the past tells. It has no more RNR NAKs than it bears, unless it bears them without end.
pub record IsFollowed (l : QueuePast) (q : QueuePair) : Type 0 where
  pub begin : Start
  pub is : l.start ≡ Some begin
  pub retry : begin.retry ≡ q.requester.retry
  pub rnr_retry : begin.rnr_retry ≡ q.requester.rnr_retry
  pub first : whole_start begin + sum_by (λ p. psns_of q.responder.mtu p.request.op) (take q.requester.oldest l.posted) ≡ q.requester.oldest_psn
  pub una : q.requester.una ≡ l.progress.una
  pub retries : q.requester.retries ≡ l.progress.retries
  pub rnrs : q.requester.rnrs ≡ l.progress.rnrs
  pub patience : nat_lt q.requester.rnr_retry MAX_RETRY ≡ true → q.requester.rnrs ≤ q.requester.rnr_retry

-- In Error a queue pair has its faults; before Rts it finished nothing; from its Rtr on it has that path MTU; and one that
-- sends is followed.
pub record IsExplained (l : QueuePast) (q : QueuePair) : Type 0 where
  pub error : state_eq q.state states.Error ≡ true → is_faulty l.faults ≡ true
  pub fresh : is_fresh q.state ≡ true → (q.requester.oldest ≡ 0) × (q.requester.rnrs ≡ 0)
  pub mtu : is_connected q.state ≡ true → option_map_or (λ n. n.mtu) l.naming 0 ≡ q.responder.mtu
  pub sends : is_sending q.state ≡ true → IsFollowed l q

-- the same of what stands in a slot
abbrev pub ExplainedInSlot : QueuePast → QueueSlot → Type 0
ExplainedInSlot l (NoQueue incarnation timers) = Unit {0}
ExplainedInSlot l (Present q) = IsExplained l q

-- Each queue pair is explained by what is told of its present incarnation.
pub record AreExplained (pasts : QueueId → QueuePast) (queue : QueueId → QueueSlot) : Type 0 where
  pub slots : (q : QueueId) → ExplainedInSlot (pasts q) (queue q)

-- what a past and a world say of it
abbrev pub CausesAgree : Past → World → Type 0
CausesAgree past w = AreExplained (queue_past past) w.queue

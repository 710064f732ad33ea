-- A queue pair: its state, its peer, its queues, and what its requester and its responder count. Contracts cite it.
use Rattle.std.specs.Prelude.{ℕ, suc, Bool, true, false, List, [], Option, None, Some}
use Rattle.std.specs.Option.{option_map}
use Rattle.ca_base.specs.declared.change.State.{State}
use Rattle.ca_base.specs.declared.change.State.TheVariants as states
use Rattle.ca_base.specs.declared.limits.TheConstants.{MIN_PATH_MTU, PSN_BASE}
use Rattle.ca_keys.specs.declared.names.DomainId.{DomainId}
use Rattle.ca_keys.specs.declared.names.QueueId.{QueueId}
use Rattle.ca_keys.specs.declared.names.Slot.{Slot}
use Rattle.ca_base.specs.declared.queue_numbers.Message.{Message}
use Rattle.ca_base.specs.declared.queue_numbers.Message.TheVariants as messages
use Rattle.ca_base.specs.declared.queue_numbers.RequesterNumbers.{RequesterNumbers}
use Rattle.ca_base.specs.declared.queue_numbers.ResponderNumbers.{ResponderNumbers}
use Rattle.ca_base.specs.declared.request.PostedSend.{PostedSend}
use Rattle.ca_base.specs.declared.request.RecvRequest.{RecvRequest}
use Rattle.ca_base.specs.declared.correspondent.Correspondent.{Correspondent}
use Rattle.ca_base.specs.declared.saved_result.SavedResult.{SavedResult}
use Rattle.ca_base.specs.objects.WorkQueue.{WorkQueue, empty_queue, next_place, with_all_taken}

-- what a queue pair is; it takes its receives from a queue of its own or from a shared one, by slot
pub record QueuePair : Type 0 where
  pub queue : QueueId
  pub domain : DomainId
  pub state : State
  pub incarnation : ℕ
  pub peer : Option Correspondent
  pub send_cq : ℕ
  pub recv_cq : ℕ
  pub srq : Option ℕ
  pub sends : WorkQueue PostedSend
  pub receives : Option (WorkQueue RecvRequest)
  pub requester : RequesterNumbers
  pub responder : ResponderNumbers
  pub saved : List SavedResult
  -- how many type 2 windows are bound to it
  pub windows : ℕ

-- the slot of a queue pair; a vacant one keeps its incarnation and its count of timers
pub data QueueSlot : Type 0 where
  NoQueue : ℕ → ℕ → QueueSlot
  Present : QueuePair → QueueSlot

-- a slot before its first queue pair
abbrev pub vacant_queue : QueueSlot
vacant_queue = NoQueue 0 0

abbrev pub incarnation_of : QueueSlot → ℕ
incarnation_of (NoQueue incarnation timers) = incarnation
incarnation_of (Present q) = q.incarnation

abbrev pub timers_of : QueueSlot → ℕ
timers_of (NoQueue incarnation timers) = timers
timers_of (Present q) = q.requester.timers

-- the queue pair in a slot
abbrev pub queue_in : QueueSlot → Option QueuePair
queue_in (NoQueue incarnation timers) = None
queue_in (Present q) = Some q

abbrev pub is_present : QueueSlot → Bool
is_present (NoQueue incarnation timers) = false
is_present (Present q) = true

-- the whole number of PSN 0, so that there are numbers before the first
abbrev pub psn_base : ℕ
psn_base = PSN_BASE

-- a requester that sent nothing
abbrev pub requester_at_start : ℕ → RequesterNumbers
requester_at_start timers = record {
  una = psn_base;
  cursor = psn_base;
  oldest = 0;
  oldest_psn = psn_base;
  next = 0;
  retries = 0;
  rnrs = 0;
  waiting = false;
  timers = timers;
  retry = 0;
  rnr_retry = 0;
  reads = 0;
}

-- a responder that took nothing
abbrev pub responder_at_start : ResponderNumbers
responder_at_start = record {
  expected = psn_base;
  msn = 0;
  message = None;
  answers = [];
  nak_sent = false;
  mtu = MIN_PATH_MTU;
  rnr_code = 0;
}

-- a queue pair in Reset, over these completion queues and with queues of these depths
abbrev pub queue_at_start : QueueId → DomainId → ℕ → ℕ → ℕ → ℕ → ℕ → ℕ → Option ℕ → QueuePair
queue_at_start queue domain incarnation timers send_cq recv_cq send_depth recv_depth srq = record {
  queue = queue;
  domain = domain;
  state = states.Reset;
  incarnation = incarnation;
  peer = None;
  send_cq = send_cq;
  recv_cq = recv_cq;
  srq = srq;
  sends = empty_queue send_depth;
  receives = by srq;
  requester = requester_at_start timers;
  responder = responder_at_start;
  saved = [];
  windows = 0;
}
  where
    by : Option ℕ → Option (WorkQueue RecvRequest)
    by None = Some (empty_queue recv_depth)
    by (Some srq) = None

-- queues and numbers are emptied, and the incarnation is the next one
abbrev pub after_reset : QueuePair → QueuePair
after_reset q = record q {
  state = states.Reset;
  incarnation = suc q.incarnation;
  peer = None;
  sends = empty_queue q.sends.depth;
  receives = option_map (λ r. empty_queue r.depth) q.receives;
  requester = requester_at_start q.requester.timers;
  responder = responder_at_start;
  saved = [];
}

-- nothing that is posted is unfinished, and no message is in progress
abbrev pub with_all_flushed : QueuePair → QueuePair
with_all_flushed q = record q {
  receives = option_map with_all_taken q.receives;
  requester = record q.requester { oldest = next_place q.sends; next = next_place q.sends; waiting = false };
  responder = record q.responder { message = None };
}

-- in Error: all that is posted is flushed
abbrev pub in_error : QueuePair → QueuePair
in_error q = record (with_all_flushed q) { state = states.Error }

-- the response queue is empty
abbrev pub without_answers : QueuePair → QueuePair
without_answers q = record q { responder = record q.responder { answers = [] } }

-- who sends: the queue pair in its incarnation
abbrev pub correspondent_of : QueuePair → Correspondent
correspondent_of q = record { queue = q.queue; incarnation = q.incarnation }

-- the slots of its completion queues
abbrev pub send_cq_of : QueuePair → Slot
send_cq_of q = record { domain = q.domain; slot = q.send_cq }

abbrev pub recv_cq_of : QueuePair → Slot
recv_cq_of q = record { domain = q.domain; slot = q.recv_cq }

-- the slot of a shared receive queue of its domain
abbrev pub srq_of : QueuePair → ℕ → Slot
srq_of q srq = record { domain = q.domain; slot = srq }

-- the receive that the message in progress holds: its place
abbrev pub receive_in_use : Option Message → Option ℕ
receive_in_use (Some (messages.Send place receive bytes)) = Some place
receive_in_use message = None

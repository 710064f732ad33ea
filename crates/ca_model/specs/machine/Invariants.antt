-- What holds of each object that comes up under events: its numbers, its counts and its shapes. Contracts cite it.
use Rattle.std.specs.Prelude.{◌≡◌, ℕ, suc, ◌+◌, ◌-◌, ◌*◌, ◌^◌, ◌≤◌, ◌<◌, Bool, true, false, List, [], ◌∷◌, length, Option, None, Some, IfSome, is_none, is_some}
use Rattle.std.specs.List.{AllByRecursion, sum_by}
use Rattle.ca_base.specs.declared.change.Change.{Change}
use Rattle.ca_base.specs.declared.change.Change.TheVariants as changes
use Rattle.ca_base.specs.declared.change.State.{State}
use Rattle.ca_base.specs.declared.change.State.TheVariants as states
use Rattle.ca_base.specs.declared.limits.TheConstants.{KEPT_ENVELOPES, MAX_CAPACITY, MAX_DEPTH, MAX_MESSAGE_BYTES, MAX_PIECES, MAX_READS, MAX_RETRY, MAX_RNR_CODE, MAX_UNDELIVERED, SAVED_RESULTS}
use Rattle.ca_base.specs.declared.request.Piece.{Piece}
use Rattle.ca_base.specs.declared.request.RecvRequest.{RecvRequest}
use Rattle.ca_base.specs.declared.queue_numbers.Message.{Message}
use Rattle.ca_base.specs.declared.queue_numbers.Message.TheVariants as messages
use Rattle.ca_base.specs.declared.queue_numbers.Queued.{Queued}
use Rattle.ca_base.specs.declared.queue_numbers.Queued.TheVariants as queued
use Rattle.ca_base.specs.declared.queue_numbers.RequesterNumbers.{RequesterNumbers}
use Rattle.ca_base.specs.declared.queue_numbers.ResponderNumbers.{ResponderNumbers}
use Rattle.ca_base.specs.objects.CompletionQueue.{CompletionQueue}
use Rattle.ca_base.specs.objects.Domain.{Domain}
use Rattle.ca_base.specs.objects.Mailbox.{Mailbox, undelivered_count}
use Rattle.ca_base.specs.declared.request.PostedSend.{PostedSend}
use Rattle.ca_base.specs.objects.QueuePair.{QueuePair, psn_base}
use Rattle.ca_base.specs.objects.SharedReceives.{SharedReceives, occupied_receives}
use Rattle.ca_base.specs.objects.StateTable.{is_among, is_path_mtu}
use Rattle.ca_base.specs.objects.Window.{Binding, Window}
use Rattle.ca_base.specs.objects.WorkQueue.{WorkQueue, next_place}
use Rattle.ca_model.specs.Requests.{list_length, list_of}
use Rattle.ca_model.specs.machine.Numbering.{begun_requests}

-- the list of a request or a receive: few pieces, and no more bytes than a message may have
pub record IsList (pieces : List Piece) : Type 0 where
  pub few : length pieces ≤ MAX_PIECES
  pub bytes : list_length pieces ≤ MAX_MESSAGE_BYTES

abbrev pub IsSend : PostedSend → Type 0
IsSend p = IsList (list_of p.request.op)

abbrev pub IsReceive : RecvRequest → Type 0
IsReceive r = IsList r.list.items

-- a work queue: its depth is in range, and no more requests occupy it, each of them sound
pub record IsWorkQueue (T : Type 0) (Item : T → Type 0) (q : WorkQueue T) : Type 0 where
  pub some : 0 < q.depth
  pub depth : q.depth ≤ MAX_DEPTH
  pub room : length q.items ≤ q.depth
  pub items : AllByRecursion Item q.items

-- the receives of a queue pair's own: those that occupy it and were taken stand before those that wait
pub record IsReceives (r : WorkQueue RecvRequest) : Type 0 where
  pub queue : IsWorkQueue RecvRequest IsReceive r
  pub taken : r.first ≤ r.next_taken
  pub waiting : r.next_taken ≤ next_place r

-- in Rts and Sqd requests are sent
abbrev pub is_sending : State → Bool
is_sending s = is_among (states.Rts ∷ states.Sqd ∷ []) s

-- before Rts nothing was sent
abbrev pub is_fresh : State → Bool
is_fresh s = is_among (states.Reset ∷ states.Init ∷ states.Rtr ∷ []) s

-- in Rtr, Rts and Sqd packets are taken
abbrev pub is_connected : State → Bool
is_connected s = is_among (states.Rtr ∷ states.Rts ∷ states.Sqd ∷ []) s

-- in Reset and Init nothing is sent or taken
abbrev pub is_idle : State → Bool
is_idle s = is_among (states.Reset ∷ states.Init ∷ []) s

-- The requester: what occupies the send queue is finished, has begun, or waits, in this order; no PSN before `una` is
-- sent next; and the counts are in range.
pub record IsRequester (state : State) (sends : WorkQueue PostedSend) (r : RequesterNumbers) : Type 0 where
  pub finished : sends.first ≤ r.oldest
  pub begun : r.oldest ≤ r.next
  pub waiting : r.next ≤ next_place sends
  pub base : psn_base ≤ r.una
  pub outstanding : r.una ≤ r.cursor
  pub retry : r.retry ≤ MAX_RETRY
  pub rnr_retry : r.rnr_retry ≤ MAX_RETRY
  pub reads : r.reads ≤ MAX_READS
  pub retried : r.retries ≤ suc r.retry
  pub retries : is_sending state ≡ true → r.retries ≤ r.retry
  pub fresh : is_fresh state ≡ true → r.retries ≡ 0

-- the message in progress: a receive that has room for the bytes so far, or a WRITE of which no more is left than it has
abbrev pub IsMessage : Option Message → Type 0
IsMessage (Some (messages.Send place receive bytes)) = IsReceive receive × (bytes ≤ list_length receive.list.items)
IsMessage (Some (messages.Write key address left count)) = (left ≤ count) × (count ≤ MAX_MESSAGE_BYTES)
IsMessage None = Unit {0}

-- an answer in the response queue: it stands before the expected PSN, or for a NAK at it; a READ has no more bytes left
-- than its PSNs have
abbrev pub IsAnswer : ℕ → ℕ → Queued → Type 0
IsAnswer mtu expected (queued.Ack psn) = psn ≤ expected
IsAnswer mtu expected (queued.Rnr psn) = psn ≤ expected
IsAnswer mtu expected (queued.Nak psn code) = psn ≤ expected
IsAnswer mtu expected (queued.Read psn key address left first envelope duplicate) =
    (psn < expected) × (left ≤ (expected - psn) * mtu)
IsAnswer mtu expected (queued.Atomic psn found duplicate) = psn ≤ expected

-- the responder
pub record IsResponder (state : State) (r : ResponderNumbers) : Type 0 where
  pub base : psn_base ≤ r.expected
  pub msn : r.msn < 2 ^ 24
  pub mtu : is_path_mtu r.mtu ≡ true
  pub rnr_code : r.rnr_code ≤ MAX_RNR_CODE
  pub message : IsMessage r.message
  pub answers : AllByRecursion (IsAnswer r.mtu r.expected) r.answers
  pub silent : is_idle state ≡ true → r.answers ≡ []
  pub empty : is_idle state ≡ true → r.message ≡ None

-- the message in progress holds a receive that was taken from the queue pair's own
abbrev pub IsTaken : Option (WorkQueue RecvRequest) → Option Message → Type 0
IsTaken (Some r) (Some (messages.Send place receive bytes)) = place < r.next_taken
IsTaken r message = Unit {0}

-- the PSN behind the requests that have begun
abbrev pub begun_end : QueuePair → ℕ
begun_end q = q.requester.oldest_psn + sum_by (λ n. n.count) (begun_requests q)

-- A queue pair that can come up. Engines ask it of the part that they are handed.
pub record IsQueue (q : QueuePair) : Type 0 where
  pub sends : IsWorkQueue PostedSend IsSend q.sends
  pub receives : IfSome q.receives IsReceives
  pub source : is_some q.receives ≡ is_none q.srq
  pub requester : IsRequester q.state q.sends q.requester
  pub begun : is_sending q.state ≡ true → q.requester.cursor ≤ begun_end q
  pub responder : IsResponder q.state q.responder
  pub taken : IsTaken q.receives q.responder.message
  pub peer : IfSome q.peer (λ p. p.queue.number < 2 ^ 24)
  pub connected : is_connected q.state ≡ true → is_some q.peer ≡ true
  pub saved : length q.saved ≤ SAVED_RESULTS

-- a completion queue
pub record IsCompletionQueue (q : CompletionQueue) : Type 0 where
  pub some : 0 < q.capacity
  pub capacity : q.capacity ≤ MAX_CAPACITY

-- a shared receive queue: what waits and what was taken occupy no more places than it has; a receive that waits stands
-- before the next place
pub record IsSharedReceives (s : SharedReceives) : Type 0 where
  pub some : 0 < s.depth
  pub depth : s.depth ≤ MAX_DEPTH
  pub room : occupied_receives s ≤ s.depth
  pub waiting : AllByRecursion (λ r. IsReceive r.receive × (r.place < s.next)) s.waiting

-- a mailbox: it keeps so many envelopes, of all that came, and few of them are undelivered
pub record IsMailbox (m : Mailbox) : Type 0 where
  pub kept : length m.envelopes ≤ KEPT_ENVELOPES
  pub came : length m.envelopes ≤ m.next
  pub undelivered : undelivered_count m.envelopes ≤ MAX_UNDELIVERED

-- a binding: some bytes, remote rights alone, and a queue pair exactly where the window is of type 2
pub record IsBinding (kind : ℕ) (b : Binding) : Type 0 where
  pub some : 0 < b.length
  pub local_write : b.rights.local_write ≡ false
  pub window_bind : b.rights.window_bind ≡ false
  pub queue : IfSome b.queue (λ q. kind ≡ 2)
  pub no_queue : b.queue ≡ None → kind ≡ 1

-- a window: a vacant slot, or one of the two types; a vacant one is not bound
pub record IsWindow (w : Window) : Type 0 where
  pub kind : w.kind ≤ 2
  pub binding : IfSome w.binding (IsBinding w.kind)

-- a domain that is not allocated has no objects
abbrev pub IsDomain : Domain → Type 0
IsDomain d = d.allocated ≡ false → d.objects ≡ 0

-- a peer that a change names has a number of 24 bits
abbrev pub NamesPeer : Change → Type 0
NamesPeer (changes.Rtr peer incarnation psn mtu rnr_code) = peer.number < 2 ^ 24
NamesPeer change = Unit {0}

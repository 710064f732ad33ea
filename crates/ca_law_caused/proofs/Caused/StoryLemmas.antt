-- The story of an event, told of one queue pair alone: its marks go on calmly, a packet is dropped, a send or a receive
-- fails and all is flushed, or all is flushed. For proofs only.
use Rattle.std.proofs.Common.{◌≡◌, ℕ, suc, true, false, ◌+◌, ◌-◌, ◌<◌, ◌≤◌, nat_lt, List, [], ◌∷◌, ◌++◌, Option, None, Some, is_some, refl}
use Rattle.std.specs.List.{list_any}
use Rattle.std.specs.Option.{option_map_or}
use Rattle.ca_law_order.proofs.Sends.SendLemmas.{IsRequestAt}
use Rattle.ca_base.specs.declared.completion.Completion.{Completion}
use Rattle.ca_base.specs.declared.completion.WcStatus.{WcStatus}
use Rattle.ca_base.specs.declared.completion.WcStatus.TheVariants as statuses
use Rattle.ca_base.specs.declared.denied_ask.DeniedAsk.{DeniedAsk}
use Rattle.ca_base.specs.declared.queue_numbers.Message.{Message}
use Rattle.ca_base.specs.declared.queue_numbers.Message.TheVariants as messages
use Rattle.ca_base.specs.declared.refusals.OpRefusal.{OpRefusal}
use Rattle.ca_base.specs.declared.request.PostedSend.{PostedSend}
use Rattle.ca_base.specs.declared.request.RecvRequest.{RecvRequest}
use Rattle.ca_base.specs.objects.QueuePair.{QueuePair}
use Rattle.ca_base.specs.objects.WorkQueue.{WorkQueue, items_from}
use Rattle.ca_keys.specs.Equal.{queue_eq}
use Rattle.ca_keys.specs.declared.access.Kind.{Kind}
use Rattle.ca_keys.specs.declared.access.Denial.{Denial}
use Rattle.ca_keys.specs.declared.key.Key.{Key}
use Rattle.ca_keys.specs.declared.names.DomainId.{DomainId}
use Rattle.ca_keys.specs.declared.names.QueueId.{QueueId}
use Rattle.ca_keys.specs.declared.verdict.Verdict.TheVariants as verdicts
use Rattle.ca_model.specs.Caused.{is_by_piece}
use Rattle.ca_model.specs.Packets.{asks_invalidate, is_response, is_send}
use Rattle.ca_model.specs.Requests.{is_local, list_of}
use Rattle.ca_base.specs.declared.change.State.TheVariants as states
use Rattle.ca_base.specs.declared.limits.TheConstants.{MAX_RETRY}
use Rattle.ca_law_caused.proofs.Caused.KnownLemmas.{Arrives, IsOn, IsResponse, Known, Occasion, first_at, fits_at, is_fired, progress_after}
use Rattle.ca_model.specs.Progress.{Answers, Progress, Refuses, Response}
use Rattle.ca_model.specs.Requests.{psns_of}
use Rattle.ca_model.specs.machine.Invariants.{is_fresh, is_sending}
use Rattle.ca_wire.specs.declared.syndrome.NakCode.TheVariants.{InvalidRequest, RemoteAccessError, RemoteOperationalError}
use Rattle.ca_model.specs.declared.mark.Drop1.{Drop1}
use Rattle.ca_model.specs.declared.mark.Mark.{Mark}
use Rattle.ca_model.specs.declared.mark.Mark.TheVariants as marks
use Rattle.ca_model.specs.machine.Completions.{failure_mark, flush_marks, flushed_message, flushed_receives, flushed_sends}
use Rattle.ca_model.specs.machine.Requester.{local_denial}
use Rattle.ca_wire.specs.Packet.{Fields}

-- ---- marks

-- a mark that tells of no failure, and of this queue pair alone
abbrev pub IsCalm : QueueId → Mark → Type 0
IsCalm name (marks.Done queue x cause) = (x.queue ≡ name) × (x.status ≡ statuses.Success)
IsCalm name (marks.Remote queue domain envelope key kind address count verdict) = queue ≡ name
IsCalm name (marks.Local queue domain key kind address count verdict) = Unit {0}
IsCalm name (marks.Granted g) = Unit {0}
IsCalm name (marks.Revoked adapter key) = Unit {0}
IsCalm name m = ⊥

abbrev pub AreCalm : QueueId → List Mark → Type 0
AreCalm name [] = Unit {0}
AreCalm name (m ∷ ms) = IsCalm name m × AreCalm name ms

pub calm-append : (name : QueueId) (ms ns : List Mark) → AreCalm name ms → AreCalm name ns → AreCalm name (ms ++ ns)
calm-append name [] ns one other = other
calm-append name (m ∷ ms) ns one other = (one.0, calm-append name ms ns one.1 other)

-- marks that flush
abbrev pub IsFlush : QueueId → Mark → Type 0
IsFlush name (marks.Done queue x cause) = (x.queue ≡ name) × (x.status ≡ statuses.Flushed)
IsFlush name m = ⊥

abbrev pub AreFlushes : QueueId → List Mark → Type 0
AreFlushes name [] = Unit {0}
AreFlushes name (m ∷ ms) = IsFlush name m × AreFlushes name ms

flushes-append : (name : QueueId) (ms ns : List Mark) → AreFlushes name ms → AreFlushes name ns → AreFlushes name (ms ++ ns)
flushes-append name [] ns one other = other
flushes-append name (m ∷ ms) ns one other = (one.0, flushes-append name ms ns one.1 other)

sends-flush : (name : QueueId) (place : ℕ) (ps : List PostedSend) → AreFlushes name (flushed_sends name place ps)
sends-flush name place [] = record {}
sends-flush name place (p ∷ ps) = ((refl, refl), sends-flush name (suc place) ps)

receives-flush : (name : QueueId) (place : ℕ) (rs : List RecvRequest) → AreFlushes name (flushed_receives name place rs)
receives-flush name place [] = record {}
receives-flush name place (r ∷ rs) = ((refl, refl), receives-flush name (suc place) rs)

-- what flushes a queue pair is of it alone
pub flush-flushes : (q : QueuePair) → AreFlushes q.queue (flush_marks q)
flush-flushes q = flushes-append q.queue (sends ++ flushed_message q.queue q.responder.message) _
    (flushes-append q.queue sends (flushed_message q.queue q.responder.message) (sends-flush q.queue q.requester.oldest (items_from q.requester.oldest q.sends)) (message q.responder.message)) (own q.receives)
  where
    sends : List Mark
    sends = flushed_sends q.queue q.requester.oldest (items_from q.requester.oldest q.sends)

    message : (m : Option Message) → AreFlushes q.queue (flushed_message q.queue m)
    message None = record {}
    message (Some (messages.Write key address left count)) = record {}
    message (Some (messages.Send place receive bytes)) = ((refl, refl), record {})

    own : (o : Option (WorkQueue RecvRequest)) → AreFlushes q.queue (option_map_or (λ r. flushed_receives q.queue r.next_taken (items_from r.next_taken r)) o [])
    own None = record {}
    own (Some r) = receives-flush q.queue r.next_taken (items_from r.next_taken r)

-- the mark of an ask that was denied, if one was
abbrev pub denials : Option DeniedAsk → List Mark
denials denied = option_map_or (λ d. local_denial d ∷ []) denied []

-- ---- failures

-- an ask of this queue pair by a piece of a list was denied
abbrev pub IsDeniedBy : QueueId → PostedSend → Option DeniedAsk → Type 0
IsDeniedBy name item None = ⊥
IsDeniedBy name item (Some d) = (d.ask.queue ≡ name) × (list_any (is_by_piece d.ask) (list_of item.request.op) ≡ true)

-- a response arrived that says this, at a PSN of the request at a place
pub record IsTold (k : Known) (o : Occasion) (place : ℕ) (item : PostedSend) (response : Response) : Type 0 where
  pub packet : Fields
  pub psn : ℕ
  pub sending : k.sending ≡ true
  pub arrives : o ≡ Arrives packet
  pub is : IsResponse k packet response psn
  pub low : first_at k place ≤ psn
  pub high : psn < first_at k place + psns_of k.mtu item.request.op

-- an answer arrived that does not fit it
pub record IsMisfit (k : Known) (o : Occasion) (place : ℕ) (item : PostedSend) : Type 0 where
  pub told : IsTold k o place item Answers
  pub misfit : fits_at k.mtu item.request.op told.packet (told.psn - first_at k place) ≡ false

-- why a send fails with a status
abbrev pub WhySend : Known → Occasion → QueueId → ℕ → PostedSend → Option DeniedAsk → Option OpRefusal → WcStatus → Type 0
WhySend k o name place item denial cause statuses.Success = ⊥
WhySend k o name place item denial cause statuses.Flushed = ⊥
WhySend k o name place item denial cause statuses.LocalLength = ⊥
WhySend k o name place item denial cause statuses.LocalProtection = IsDeniedBy name item denial
WhySend k o name place item denial cause statuses.MemoryManagement = (is_some cause ≡ true) × (is_local item.request.op ≡ true)
WhySend k o name place item denial cause statuses.RemoteInvalidRequest = IsTold k o place item (Refuses InvalidRequest)
WhySend k o name place item denial cause statuses.RemoteAccess = IsTold k o place item (Refuses RemoteAccessError)
WhySend k o name place item denial cause statuses.RemoteOperation = IsTold k o place item (Refuses RemoteOperationalError)
WhySend k o name place item denial cause statuses.RetryExceeded = (k.sending ≡ true) × ((progress_after k o).retries ≡ suc k.retry)
WhySend k o name place item denial cause statuses.RnrRetryExceeded =
    (k.sending ≡ true) × (nat_lt k.rnr_retry MAX_RETRY ≡ true) × ((progress_after k o).rnrs ≡ suc k.rnr_retry)
WhySend k o name place item denial cause statuses.BadResponse = IsMisfit k o place item

-- a send fails, behind calm marks and the denial of its list: the oldest that is unfinished, and the rest is flushed
pub record Failing (k : Known) (o : Occasion) (name : QueueId) (ms : List Mark) : Type 0 where
  pub before : List Mark
  pub denial : Option DeniedAsk
  pub place : ℕ
  pub item : PostedSend
  pub status : WcStatus
  pub cause : Option OpRefusal
  pub behind : List Mark
  pub calm : AreCalm name before
  pub posted : IsRequestAt k.posted place item.request
  pub flushes : AreFlushes name behind
  pub why : WhySend k o name place item denial cause status
  pub told : ms ≡ before ++ (denials denial ++ (failure_mark name place item.request status cause ∷ behind))

-- an ask of this queue pair was denied
abbrev pub IsOwnDenial : QueueId → Option DeniedAsk → Type 0
IsOwnDenial name None = ⊥
IsOwnDenial name (Some d) = queue_eq d.ask.queue name ≡ true

-- why a receive fails with a status, by the packet that arrived
abbrev pub WhyReceive : Fields → QueueId → Option DeniedAsk → Option OpRefusal → WcStatus → Type 0
WhyReceive p name denial cause statuses.LocalLength = is_send p.opcode ≡ true
WhyReceive p name denial cause statuses.LocalProtection = IsOwnDenial name denial
WhyReceive p name denial cause statuses.MemoryManagement = (is_some cause ≡ true) × (asks_invalidate p.opcode ≡ true)
WhyReceive p name denial cause status = ⊥

-- a receive fails, in the same way
pub record Refusing (o : Occasion) (name : QueueId) (ms : List Mark) : Type 0 where
  pub before : List Mark
  pub denial : Option DeniedAsk
  pub packet : Fields
  pub completion : Completion
  pub cause : Option OpRefusal
  pub behind : List Mark
  pub calm : AreCalm name before
  pub arrives : o ≡ Arrives packet
  pub receive : completion.receive ≡ true
  pub queue : completion.queue ≡ name
  pub flushes : AreFlushes name behind
  pub why : WhyReceive packet name denial cause completion.status
  pub told : ms ≡ before ++ (denials denial ++ (marks.Done name completion cause ∷ behind))

-- a remote access is denied, and all is flushed
pub record Denying (name : QueueId) (ms : List Mark) : Type 0 where
  pub domain : DomainId
  pub envelope : Option ℕ
  pub key : Key
  pub kind : Kind
  pub address : ℕ
  pub count : ℕ
  pub denial : Denial
  pub behind : List Mark
  pub flushes : AreFlushes name behind
  pub told : ms ≡ marks.Remote name domain envelope key kind address count (verdicts.Denied denial) ∷ behind

-- a request is invalid: all is flushed, and nothing else is told
pub record Invalid (o : Occasion) (name : QueueId) (ms : List Mark) : Type 0 where
  pub packet : Fields
  pub arrives : o ≡ Arrives packet
  pub request : is_response packet.opcode ≡ false
  pub flushes : AreFlushes name ms

-- a queue pair in a state goes on: with the progress that the event leaves, where it sends, and with the oldest place and
-- the RNR NAKs that it had, where nothing was sent yet
pub record GoesOn (k : Known) (g : Progress) (q : QueuePair) (p : QueuePair) : Type 0 where
  pub state : p.state ≡ q.state
  pub mtu : p.responder.mtu ≡ q.responder.mtu
  pub fresh : is_fresh q.state ≡ true → (p.requester.oldest ≡ q.requester.oldest) × (p.requester.rnrs ≡ q.requester.rnrs)
  pub sends : is_sending q.state ≡ true → IsOn k g p

-- it goes on, or a send of it fails; this one stands in its place then
pub data Onward (k : Known) (o : Occasion) (g : Progress) (q p : QueuePair) (ms : List Mark) : Type 0 where
  goes : AreCalm q.queue ms → GoesOn k g q p → Onward k o g q p ms
  fails : p.state ≡ states.Error → Failing k o q.queue ms → Onward k o g q p ms

-- what becomes of a queue pair, and what its progress is where it goes on
pub data Story (k : Known) (o : Occasion) (q p : QueuePair) (ms : List Mark) : Type 0 where
  on : Onward k o (progress_after k o) q p ms → Story k o q p ms
  drops : (cause : Drop1) → is_fired o ≡ false → ms ≡ marks.Dropped q.queue cause ∷ [] → GoesOn k k.before q p → Story k o q p ms
  refuses : p.state ≡ states.Error → Refusing o q.queue ms → Story k o q p ms
  denies : p.state ≡ states.Error → Denying q.queue ms → Story k o q p ms
  invalid : p.state ≡ states.Error → Invalid o q.queue ms → Story k o q p ms

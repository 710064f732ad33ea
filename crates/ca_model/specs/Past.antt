-- What the entries and marks so far have left, for the relations that look back. Each relation on a history says of
-- each mark, or of each entry, what it must be, given this record. It knows no adapter. Contracts cite it.
use Rattle.std.specs.Prelude.{ℕ, suc, ◌+◌, nat_lt, Bool, true, false, not, ◌&&◌, ◌||◌, ◌==◌, if◌then◌else◌, List, [], ◌∷◌, ◌++◌, length, take, drop, filter, find, map, sum_by, slice_get, Option, None, Some, is_some}
use Rattle.std.specs.List.{list_any, list_all}
use Rattle.std.specs.Option.{option_map, option_map_or, option_and_then}
use Rattle.ca_keys.specs.declared.access.Ask.{Ask}
use Rattle.ca_keys.specs.declared.access.Kind.{Kind}
use Rattle.ca_keys.specs.declared.access.Kind.TheVariants.{Write}
use Rattle.ca_base.specs.declared.change.Change.{Change}
use Rattle.ca_base.specs.declared.change.Change.TheVariants as changes
use Rattle.ca_base.specs.declared.completion.Completion.{Completion}
use Rattle.ca_base.specs.declared.completion.WcOp.{WcOp}
use Rattle.ca_base.specs.declared.completion.WcOp.TheVariants as operations
use Rattle.ca_base.specs.declared.completion.WcStatus.{WcStatus}
use Rattle.ca_base.specs.declared.completion.WcStatus.TheVariants.{Success, Flushed}
use Rattle.ca_base.specs.declared.correspondent.Correspondent.{Correspondent}
use Rattle.ca_keys.specs.declared.grant.Grant.{Grant}
use Rattle.ca_keys.specs.declared.key.Key.{Key}
use Rattle.ca_base.specs.declared.limits.TheConstants.{ATOMIC_BYTES, PSN_BASE}
use Rattle.ca_keys.specs.declared.names.DomainId.{DomainId}
use Rattle.ca_keys.specs.declared.names.QueueId.{QueueId}
use Rattle.ca_keys.specs.declared.names.Slot.{Slot}
use Rattle.ca_base.specs.declared.request.RecvRequest.{RecvRequest}
use Rattle.ca_base.specs.declared.request.SendOp.{SendOp}
use Rattle.ca_base.specs.declared.request.SendOp.TheVariants as ops
use Rattle.ca_base.specs.declared.request.SendRequest.{SendRequest}
use Rattle.ca_keys.specs.declared.verdict.Verdict.{Verdict}
use Rattle.ca_keys.specs.declared.verdict.Verdict.TheVariants as verdicts
use Rattle.ca_keys.specs.Equal.{key_eq, queue_eq, slot_eq}
use Rattle.ca_base.specs.Equal.{operation_eq, status_eq}
use Rattle.ca_base.specs.Grants.{next_low}
use Rattle.ca_keys.specs.Memory.{ByteMap, runs_for, memory_after, little_endian_bytes}
use Rattle.ca_keys.specs.Numbers.{index_of, low_of, queue_of, domain_of, region_index, window_index}
use Rattle.ca_wire.specs.Packet.{Fields}
use Rattle.ca_model.specs.declared.answer.Answer.{Answer}
use Rattle.ca_model.specs.declared.answer.Answer.TheVariants as answers
use Rattle.ca_model.specs.declared.event.Event.{Event}
use Rattle.ca_model.specs.declared.event.Event.TheVariants as events
use Rattle.ca_model.specs.declared.mark.Mark.{Mark}
use Rattle.ca_model.specs.declared.mark.Mark.TheVariants as marks
use Rattle.ca_model.specs.declared.verb.Verb.{Verb}
use Rattle.ca_model.specs.declared.verb.Verb.TheVariants as verbs
use Rattle.ca_model.specs.Entries.{EntryValue}
use Rattle.ca_model.specs.Packets.{packet_of, asks_read, begins_send, is_response, is_send}
use Rattle.ca_model.specs.Progress.{Progress, after_response_packet, progress_from, with_retry}
use Rattle.ca_model.specs.Requests.{is_local, operation_of, psns_of}

-- a key slot: the adapter, and the key index there
pub record KeySlot : Type 0 where
  pub adapter : ℕ
  pub index : ℕ

-- how a key came into force: by a registration, by a fast registration, or by a bind to the region with this key
pub data Way : Type 0 where
  Registration : Way
  FastRegistration : Way
  BindTo : Key → Way

-- the WRITE that a queue pair performed last: its key, from where, for how many bytes it asked and how many it wrote
pub record LatestWrite : Type 0 where
  pub key : Key
  pub address : ℕ
  pub asked : ℕ
  pub wrote : ℕ

-- a packet that was sent with an index: by whom in which incarnation, of which request, its bytes, whether it is lost,
-- and whether its target was reset or destroyed since
pub record Envelope : Type 0 where
  pub index : ℕ
  pub source : Correspondent
  pub request : Option ℕ
  pub bytes : List ℕ
  pub lost : Bool
  pub cut : Bool

-- a posted send request, its place, and the byte that it drew
pub record Posted : Type 0 where
  pub place : ℕ
  pub request : SendRequest
  pub drawn : Option ℕ

-- a READ request that arrived: by which envelope, and what it asks for
pub record ReadRequest : Type 0 where
  pub envelope : Option ℕ
  pub key : Key
  pub address : ℕ
  pub length : ℕ

-- an Rtr that succeeded: whose, the peer that it named, the PSN that it expects and the path MTU
pub record Naming : Type 0 where
  pub own : Correspondent
  pub peer : Correspondent
  pub psn : ℕ
  pub mtu : ℕ

-- an Rts that succeeded: whose, the PSN that it begins with, the retry count and the RNR retry count
pub record Start : Type 0 where
  pub own : Correspondent
  pub psn : ℕ
  pub retry : ℕ
  pub rnr_retry : ℕ

-- an atomic that acted: of which posted request, and the number that it found
pub record Acted : Type 0 where
  pub own : Correspondent
  pub place : ℕ
  pub found : ℕ

-- an atomic that completed with success: of which posted request, and the numbers that were found for it before
pub record AtomicDone : Type 0 where
  pub own : Correspondent
  pub place : ℕ
  pub found : List ℕ

-- the same, with the bytes that the event of its completion put into lists
pub record Succeeded : Type 0 where
  pub atomic : AtomicDone
  pub put : List ℕ

-- What befell a queue pair: the change to Error, a remote access that was denied, a request that arrived and left no
-- mark of its own, and a send or a receive that completed with this status.
pub data Fault : Type 0 where
  ErrorByVerb : Fault
  DeniedAccess : Fault
  Unmarked : Fault
  SendFailed : WcStatus → Fault
  ReceiveFailed : WcStatus → Fault

-- a packet that arrived: where, and by which index
pub record Arrival : Type 0 where
  pub target : QueueId
  pub index : Option ℕ

-- a verb that was answered
pub record Answered : Type 0 where
  pub verb : Verb
  pub answer : Answer

-- a key that was revoked, and at which adapter
pub record RevokedKey : Type 0 where
  pub adapter : ℕ
  pub key : Key

-- a packet that was sent: by whom, to whom, of which posted request, and its bytes
pub record SentPacket : Type 0 where
  pub source : QueueId
  pub target : QueueId
  pub request : Option ℕ
  pub bytes : List ℕ

-- the bytes that a READ of a queue pair gave
pub record RemoteRead : Type 0 where
  pub queue : QueueId
  pub bytes : List ℕ

-- what the marks so far of one event have left
pub record AtHand : Type 0 where
  pub event : Event
  -- the grants in force as the event began
  pub grants_before : List Grant
  pub answered : Option Answered
  pub arrival : Option Arrival
  -- whether it was dropped, and the queue pair of a timer that fired
  pub dropped : Bool
  pub fired : Option QueueId
  -- the keys that came into force and those that were revoked
  pub granted : List Grant
  pub revoked : List RevokedKey
  -- whether a list was used, what it was denied, the bytes that were read from it and those that were put into it
  pub used_list : Bool
  pub denied_locally : List Ask
  pub read_locally : List ℕ
  pub put_locally : List ℕ
  -- whether there was a remote access; what READs gave, and the packets that were sent, in order
  pub used_remotely : Bool
  pub read_remotely : List RemoteRead
  pub sent : List SentPacket
  -- targets of packets that were sent without an index, and are not yet lost
  pub pathless : List QueueId
  -- the completions, and among them the atomics that completed with success
  pub completed : List Completion
  pub atomics : List AtomicDone

pub record Past : Type 0 where
  -- the grants in force, the latest first
  pub grants : List Grant
  pub memory : ByteMap
  -- the low byte of each region's key slot, as it was registered last, and the byte of each window's key slot that was
  -- drawn last
  pub low : KeySlot → ℕ
  pub drawn : KeySlot → ℕ
  -- how the latest grant of a key slot came into force
  pub way : KeySlot → Way
  -- how often a queue pair was created or reset
  pub incarnation : QueueId → ℕ
  -- the Rtr of a queue pair, since it was created, reset or destroyed
  pub naming : QueueId → Option Naming
  -- the envelopes that were ever sent to a queue pair, the latest first
  pub envelopes : QueueId → List Envelope
  -- the latest remote write of a queue pair, where it was allowed
  pub latest_write : QueueId → Option LatestWrite
  -- by queue pair and incarnation: the posted send requests and receives by place, how many local operations were
  -- performed, the READ requests that arrived, the places of the latest send and receive that completed
  pub posted : Correspondent → List Posted
  pub receives : Correspondent → List RecvRequest
  pub performed : Correspondent → ℕ
  pub read_requests : Correspondent → List ReadRequest
  pub last_send : Correspondent → Option ℕ
  pub last_receive : Correspondent → Option ℕ
  -- the shared receive queue of a queue pair, if it has one, and the receives of each by place, since it was created
  pub srq : QueueId → Option Slot
  pub shared : Slot → List RecvRequest
  -- how many bytes of the SEND in progress a queue pair has put into its receive's list
  pub placed : QueueId → ℕ
  -- by queue pair and incarnation: how far its sends are answered, and what befell it
  pub progress : Correspondent → Progress
  pub faults : Correspondent → List Fault
  -- the completion queues of a queue pair, for sends and for receives, once it is created, and the completions that wait
  -- in each
  pub cqs : QueueId → Option (Slot × Slot)
  pub waiting : Slot → List Completion
  -- every Rtr, Rts and Inject that succeeded, every atomic that acted and every one that completed with success
  pub namings : List Naming
  pub starts : List Start
  pub injected : List Correspondent
  pub acted : List Acted
  pub succeeded : List Succeeded
  pub at_hand : AtHand

-- f with another value at one place
abbrev pub with_at : {A B : Type 0} → (A → A → Bool) → (A → B) → A → B → A → B
with_at eq f a v x = if eq a x then v else f x

abbrev pub key_slot_eq : KeySlot → KeySlot → Bool
key_slot_eq a b = (a.adapter == b.adapter) && (a.index == b.index)

abbrev pub correspondent_eq : Correspondent → Correspondent → Bool
correspondent_eq a b = queue_eq a.queue b.queue && (a.incarnation == b.incarnation)

-- the key slot of an adapter's key
abbrev pub key_slot : ℕ → Key → KeySlot
key_slot adapter key = record { adapter = adapter; index = index_of key }

-- the key slot of a grant's key
abbrev pub key_slot_of : Grant → KeySlot
key_slot_of g = key_slot g.domain.adapter g.key

-- the key slots of the region and of the window in a slot
abbrev pub region_key_slot : Slot → KeySlot
region_key_slot s = record { adapter = s.domain.adapter; index = region_index s }

abbrev pub window_key_slot : Slot → KeySlot
window_key_slot s = record { adapter = s.domain.adapter; index = window_index s }

-- a slot of a queue pair's domain
abbrev pub slot_beside : QueueId → ℕ → Slot
slot_beside q slot = record { domain = domain_of q; slot = slot }

-- the ask of a remote access
abbrev pub remote_ask : QueueId → DomainId → Key → Kind → ℕ → ℕ → Ask
remote_ask queue domain key kind address length = record {
  queue = queue;
  domain = domain;
  key = key;
  local = false;
  kind = kind;
  address = address;
  length = length;
  touch = length;
}

-- the ask of a local access, by an L_Key
abbrev pub local_ask : QueueId → DomainId → Key → Kind → ℕ → ℕ → Ask
local_ask queue domain key kind address length = record (remote_ask queue domain key kind address length) { local = true }

-- a queue pair in its present incarnation
abbrev pub present_incarnation : Past → QueueId → Correspondent
present_incarnation past q = record { queue = q; incarnation = past.incarnation q }

-- the path MTU of a queue pair, 0 before its Rtr
abbrev pub mtu_of : Past → QueueId → ℕ
mtu_of past q = option_map_or (λ n. n.mtu) (past.naming q) 0

-- nothing yet of an event
abbrev pub nothing_at_hand : Event → List Grant → AtHand
nothing_at_hand event grants = record {
  event = event;
  grants_before = grants;
  answered = None;
  arrival = None;
  dropped = false;
  fired = None;
  granted = [];
  revoked = [];
  used_list = false;
  denied_locally = [];
  read_locally = [];
  put_locally = [];
  used_remotely = false;
  read_remotely = [];
  sent = [];
  pathless = [];
  completed = [];
  atomics = [];
}

-- an event that does nothing, for the record before the first
abbrev pub no_event : Event
no_event = events.RnrWake (record { adapter = 0; number = 0 })

-- before any event, over these bytes
abbrev pub opening_past : ByteMap → Past
opening_past bytes = record {
  grants = [];
  memory = bytes;
  low = λ k. 0;
  drawn = λ k. 0;
  way = λ k. Registration;
  incarnation = λ q. 0;
  naming = λ q. None;
  envelopes = λ q. [];
  latest_write = λ q. None;
  posted = λ l. [];
  receives = λ l. [];
  performed = λ l. 0;
  read_requests = λ l. [];
  last_send = λ l. None;
  last_receive = λ l. None;
  srq = λ q. None;
  shared = λ s. [];
  placed = λ q. 0;
  progress = λ l. progress_from 0;
  faults = λ l. [];
  cqs = λ q. None;
  waiting = λ s. [];
  namings = [];
  starts = [];
  injected = [];
  acted = [];
  succeeded = [];
  at_hand = nothing_at_hand no_event [];
}

-- as an event begins
abbrev pub at_begin : Event → Past → Past
at_begin event past = record past { at_hand = nothing_at_hand event past.grants }

-- the bytes that an event injects
abbrev pub injected_bytes : Event → Option (List ℕ)
injected_bytes (events.Verb by (verbs.Inject queue bytes)) = Some bytes
injected_bytes event = None

-- the latest envelope of a queue pair with this index
abbrev pub envelope_sent : Past → QueueId → ℕ → Option Envelope
envelope_sent past q index = find (λ e. e.index == index) (past.envelopes q)

-- the bytes of the packet that a mark names: of the latest envelope with its index, or without an index of the
-- injection of its event
abbrev pub packet_bytes_at : Past → QueueId → Option ℕ → Option (List ℕ)
packet_bytes_at past q None = injected_bytes past.at_hand.event
packet_bytes_at past q (Some index) = option_map (λ e. e.bytes) (envelope_sent past q index)

-- the packet that a mark names
abbrev pub packet_at : Past → QueueId → Option ℕ → Option Fields
packet_at past q index = option_and_then packet_of (packet_bytes_at past q index)

-- the send request that was posted at a place of a queue pair in its present incarnation
abbrev pub posted_at : Past → QueueId → ℕ → Option Posted
posted_at past q place = slice_get (past.posted (present_incarnation past q)) place

-- the change to Ready to Send of a queue pair in its present incarnation
abbrev pub start_of : Past → QueueId → Option Start
start_of past q = find (λ s. correspondent_eq s.own (present_incarnation past q)) past.starts

-- the whole number of the PSN that a queue pair begins with; there are numbers before that of PSN 0
abbrev pub whole_start : Start → ℕ
whole_start start = PSN_BASE + start.psn

-- the first PSN of the request that a queue pair posted at a place, a whole number: the one behind those of the requests
-- that it posted before
abbrev pub first_psn : Past → QueueId → Start → ℕ → ℕ
first_psn past q start place =
    whole_start start + sum_by (λ p. psns_of (mtu_of past q) p.request.op) (take place (past.posted (present_incarnation past q)))

-- the local operations among posted requests, in order
abbrev pub local_operations : List Posted → List Posted
local_operations posted = filter (λ p. is_local p.request.op) posted

-- the local operation of a queue pair that is performed next: they are performed in posting order
abbrev pub next_operation : Past → QueueId → Option Posted
next_operation past q = slice_get (local_operations (past.posted (present_incarnation past q))) (past.performed (present_incarnation past q))

-- the local operation that the event at hand may perform: that of the queue pair whose request it is
abbrev pub operation_at_hand : Past → Option Posted
operation_at_hand past = by past.at_hand.event
  where
    by : Event → Option Posted
    by (events.Request queue lot) = next_operation past queue
    by event = None

-- a queue pair that begins a new incarnation, named by nobody
abbrev pub with_new_life : QueueId → Past → Past
with_new_life q past = record past {
  incarnation = with_at queue_eq past.incarnation q (suc (past.incarnation q));
  naming = with_at queue_eq past.naming q None;
}

-- the envelope cannot be delivered any more: its target was reset or destroyed
abbrev pub with_cut : Envelope → Envelope
with_cut e = record e { cut = true }

-- a queue pair that was reset or destroyed: its envelopes are cut, and its completions that wait are removed
abbrev pub with_queue_emptied : QueueId → Past → Past
with_queue_emptied q past = record past {
  naming = with_at queue_eq past.naming q None;
  envelopes = with_at queue_eq past.envelopes q (map with_cut (past.envelopes q));
  waiting = λ s. filter (λ c. not (queue_eq c.queue q)) (past.waiting s);
}

-- what befell each queue pair, with these for one in its present incarnation
abbrev pub faults_after : Past → QueueId → List Fault → Correspondent → List Fault
faults_after past q faults =
    with_at correspondent_eq past.faults (present_incarnation past q) (faults ++ past.faults (present_incarnation past q))

-- what a change of a queue pair's state leaves
abbrev pub after_change : QueueId → Change → Past → Past
after_change q changes.Reset past = with_new_life q (with_queue_emptied q past)
after_change q changes.Init past = past
after_change q (changes.Rtr peer incarnation psn mtu rnr_code) past = record past {
  naming = with_at queue_eq past.naming q (Some (named past));
  namings = named past ∷ past.namings;
}
  where
    named : Past → Naming
    named p = record { own = present_incarnation p q; peer = record { queue = peer; incarnation = incarnation }; psn = psn; mtu = mtu }
after_change q (changes.Rts psn retry rnr_retry reads) past = record past {
  starts = record { own = present_incarnation past q; psn = psn; retry = retry; rnr_retry = rnr_retry } ∷ past.starts;
  progress = with_at correspondent_eq past.progress (present_incarnation past q) (progress_from (PSN_BASE + psn));
}
after_change q changes.Sqd past = past
after_change q changes.Resume past = past
after_change q changes.Error past = record past { faults = faults_after past q (ErrorByVerb ∷ []) }

-- the byte that a posted request drew, where a key was answered: a bind of a type 1 window draws the byte after the last
-- that its window drew
abbrev pub drawn_at : Past → QueueId → SendOp → Option Key → Option ℕ
drawn_at past q op None = None
drawn_at past q (ops.Bind1 window region address length rights) (Some key) =
    Some (next_low (past.drawn (window_key_slot (slot_beside q window))))
drawn_at past q op (Some key) = Some 0

-- the byte of each window's key slot that was drawn last, after this one was
abbrev pub drawn_after : Past → QueueId → SendOp → Option ℕ → KeySlot → ℕ
drawn_after past q (ops.Bind1 window region address length rights) (Some byte) =
    with_at key_slot_eq past.drawn (window_key_slot (slot_beside q window)) byte
drawn_after past q op byte = past.drawn

-- what a request that was posted leaves
abbrev pub after_post : QueueId → SendRequest → Option Key → Past → Past
after_post q request key past = record past {
  posted = with_at correspondent_eq past.posted own (past.posted own ++ record {
    place = length (past.posted own);
    request = request;
    drawn = drawn_at past q request.op key;
  } ∷ []);
  drawn = drawn_after past q request.op (drawn_at past q request.op key);
}
  where
    own : Correspondent
    own = present_incarnation past q

-- what an answered verb leaves; a verb that was refused leaves nothing
abbrev pub after_verb : Verb → Answer → Past → Past
after_verb (verbs.AllocPd domain) answer past = past
after_verb (verbs.DeallocPd domain) answer past = past
after_verb (verbs.RegMr slot buffer offset length rights) answer past = past
after_verb (verbs.AllocMr slot pages) answer past = past
after_verb (verbs.DeregMr slot) answer past = past
after_verb (verbs.AllocMw slot kind) answer past = past
after_verb (verbs.DeallocMw slot) answer past = past
after_verb (verbs.CreateCq slot capacity) answers.Fine past = record past { waiting = with_at slot_eq past.waiting slot [] }
after_verb (verbs.CreateCq slot capacity) answer past = past
after_verb (verbs.DestroyCq slot) answer past = past
after_verb (verbs.CreateSrq slot depth) answers.Fine past = record past { shared = with_at slot_eq past.shared slot [] }
after_verb (verbs.CreateSrq slot depth) answer past = past
after_verb (verbs.DestroySrq slot) answer past = past
after_verb (verbs.CreateQp slot send_cq recv_cq send_depth recv_depth srq) (answers.Queue number incarnation) past =
    with_new_life (queue_of slot) (record past {
      cqs = with_at queue_eq past.cqs (queue_of slot)
          (Some (record { domain = slot.domain; slot = send_cq }, record { domain = slot.domain; slot = recv_cq }));
      srq = with_at queue_eq past.srq (queue_of slot) (option_map (λ srq. record { domain = slot.domain; slot = srq }) srq);
      placed = with_at queue_eq past.placed (queue_of slot) 0;
    })
after_verb (verbs.CreateQp slot send_cq recv_cq send_depth recv_depth srq) answer past = past
after_verb (verbs.ModifyQp slot change) answers.Fine past = after_change (queue_of slot) change past
after_verb (verbs.ModifyQp slot change) answer past = past
after_verb (verbs.QueryQp slot) answer past = past
after_verb (verbs.DestroyQp slot) answers.Fine past = with_queue_emptied (queue_of slot) past
after_verb (verbs.DestroyQp slot) answer past = past
after_verb (verbs.PostSend slot request) (answers.Posted key) past = after_post (queue_of slot) request key past
after_verb (verbs.PostSend slot request) answer past = past
after_verb (verbs.PostRecv slot request) (answers.Posted key) past = record past {
  receives = with_at correspondent_eq past.receives (present_incarnation past (queue_of slot)) (past.receives (present_incarnation past (queue_of slot)) ++ request ∷ []);
}
after_verb (verbs.PostRecv slot request) answer past = past
after_verb (verbs.PostSrq slot request) (answers.Posted key) past =
    record past { shared = with_at slot_eq past.shared slot (past.shared slot ++ request ∷ []) }
after_verb (verbs.PostSrq slot request) answer past = past
after_verb (verbs.Poll slot n least) (answers.Polled completions) past =
    record past { waiting = with_at slot_eq past.waiting slot (drop (length completions) (past.waiting slot)) }
after_verb (verbs.Poll slot n least) answer past = past
after_verb (verbs.Store adapter buffer offset bytes) answer past = past
after_verb (verbs.Load adapter buffer offset length) answer past = past
after_verb (verbs.Inject queue bytes) answers.Fine past = record past { injected = present_incarnation past queue ∷ past.injected }
after_verb (verbs.Inject queue bytes) answer past = past

-- how a key comes into force in the event at hand: by the local operation that its request performs, or by a verb
abbrev pub way_at_hand : Past → Way
way_at_hand past = by (operation_at_hand past)
  where
    of : SendOp → Way
    of (ops.Bind1 window region address length rights) = BindTo region
    of (ops.Bind2 window region low address length rights) = BindTo region
    of op = FastRegistration

    by : Option Posted → Way
    by None = Registration
    by (Some p) = of p.request.op

-- memory after the bytes of an access were written at the places of the grant that the ask went by
abbrev pub memory_after_access : Past → Ask → Verdict → ByteMap
memory_after_access past ask (verdicts.Wrote bytes) = memory_after past.memory (runs_for ask past.grants (length bytes)) bytes
memory_after_access past ask (verdicts.Swapped found put) =
    memory_after past.memory (runs_for ask past.grants ATOMIC_BYTES) (little_endian_bytes put)
memory_after_access past ask verdict = past.memory

-- the write that a later packet of its message goes on with; one that was denied leaves none
abbrev pub latest_write_after : Ask → Verdict → Option LatestWrite → Option LatestWrite
latest_write_after ask (verdicts.Wrote bytes) latest =
    Some (record { key = ask.key; address = ask.address; asked = ask.length; wrote = length bytes })
latest_write_after ask (verdicts.Denied denial) latest = by ask.kind
  where
    by : Kind → Option LatestWrite
    by Write = None
    by kind = latest
latest_write_after ask verdict latest = latest

-- the atomic that a Swapped mark tells of: it stems from the request that the Sent of its packet names
abbrev pub acted_by : Past → QueueId → Option ℕ → ℕ → List Acted
acted_by past q None found = []
acted_by past q (Some index) found = option_map_or (λ e. by e.source e.request) (envelope_sent past q index) []
  where
    by : Correspondent → Option ℕ → List Acted
    by source None = []
    by source (Some place) = record { own = source; place = place; found = found } ∷ []

-- the atomics that acted, after an access
abbrev pub acted_after : Past → QueueId → Option ℕ → Verdict → List Acted
acted_after past q envelope (verdicts.Swapped found put) = acted_by past q envelope found ++ past.acted
acted_after past q envelope verdict = past.acted

-- the bytes that a verdict tells of as read
abbrev pub bytes_read : Verdict → Option (List ℕ)
bytes_read (verdicts.Read bytes) = Some bytes
bytes_read verdict = None

-- the bytes that a verdict tells of as written
abbrev pub bytes_written : Verdict → Option (List ℕ)
bytes_written (verdicts.Wrote bytes) = Some bytes
bytes_written verdict = None

-- the bytes, or none
abbrev pub or_none : Option (List ℕ) → List ℕ
or_none bytes = option_map_or (λ b. b) bytes []

-- the access was denied
abbrev pub is_denial : Verdict → Bool
is_denial (verdicts.Denied denial) = true
is_denial verdict = false

-- what a remote access leaves
abbrev pub after_remote : Ask → Option ℕ → Verdict → Past → Past
after_remote ask envelope verdict past = record past {
  faults = faults_after past ask.queue (if is_denial verdict then DeniedAccess ∷ [] else []);
  memory = memory_after_access past ask verdict;
  latest_write = with_at queue_eq past.latest_write ask.queue (latest_write_after ask verdict (past.latest_write ask.queue));
  acted = acted_after past ask.queue envelope verdict;
  at_hand = record past.at_hand {
    used_remotely = true;
    read_remotely = past.at_hand.read_remotely ++ reads (bytes_read verdict);
  };
}
  where
    reads : Option (List ℕ) → List RemoteRead
    reads None = []
    reads (Some bytes) = record { queue = ask.queue; bytes = bytes } ∷ []

-- what a local access leaves
abbrev pub after_local : Ask → Verdict → Past → Past
after_local ask verdict past = record past {
  memory = memory_after_access past ask verdict;
  at_hand = record past.at_hand {
    used_list = true;
    denied_locally = if is_denial verdict then ask ∷ past.at_hand.denied_locally else past.at_hand.denied_locally;
    read_locally = past.at_hand.read_locally ++ or_none (bytes_read verdict);
    put_locally = past.at_hand.put_locally ++ or_none (bytes_written verdict);
  };
}

-- what a packet that was sent leaves: an envelope where it has an index, and else the duty to be lost
abbrev pub after_sent : QueueId → QueueId → Option ℕ → Option ℕ → List ℕ → Past → Past
after_sent source target index request bytes past = record past {
  envelopes = envelopes_after index;
  at_hand = record past.at_hand {
    sent = past.at_hand.sent ++ record { source = source; target = target; request = request; bytes = bytes } ∷ [];
    pathless = pathless_after index;
  };
}
  where
    envelopes_after : Option ℕ → QueueId → List Envelope
    envelopes_after None = past.envelopes
    envelopes_after (Some i) = with_at queue_eq past.envelopes target (record {
      index = i;
      source = present_incarnation past source;
      request = request;
      bytes = bytes;
      lost = false;
      cut = false;
    } ∷ past.envelopes target)

    pathless_after : Option ℕ → List QueueId
    pathless_after None = target ∷ past.at_hand.pathless
    pathless_after (Some i) = past.at_hand.pathless

-- the envelopes with the one of this index lost
abbrev pub with_lost : ℕ → List Envelope → List Envelope
with_lost index [] = []
with_lost index (e ∷ es) = (if e.index == index then record e { lost = true } else e) ∷ with_lost index es

-- the targets without the first that is this one
abbrev pub without : QueueId → List QueueId → List QueueId
without target [] = []
without target (q ∷ qs) = if queue_eq target q then qs else q ∷ without target qs

-- what a loss leaves
abbrev pub after_lost : QueueId → Option ℕ → Past → Past
after_lost target (Some index) past =
    record past { envelopes = with_at queue_eq past.envelopes target (with_lost index (past.envelopes target)) }
after_lost target None past =
    record past { at_hand = record past.at_hand { pathless = without target past.at_hand.pathless } }

-- the READ request that a packet is, if it is one
abbrev pub read_request_of : Option ℕ → Fields → List ReadRequest
read_request_of envelope p = if asks_read p.opcode then option_map_or (λ r. request r.key r.address r.length) p.reth [] else []
  where
    request : Key → ℕ → ℕ → List ReadRequest
    request key address length = record { envelope = envelope; key = key; address = address; length = length } ∷ []

-- what a packet that arrived leaves
abbrev pub after_arrival : QueueId → Option ℕ → Past → Past
after_arrival target index past = record past {
  read_requests = with_at correspondent_eq past.read_requests (present_incarnation past target)
      (option_map_or (read_request_of index) (packet_at past target index) [] ++ past.read_requests (present_incarnation past target));
  at_hand = record past.at_hand { arrival = Some (record { target = target; index = index }) };
}

-- an atomic's operation
abbrev pub is_atomic : WcOp → Bool
is_atomic op = operation_eq op operations.CmpSwap || operation_eq op operations.FetchAdd

-- the completion is of a send and a success
abbrev pub is_send_success : Completion → Bool
is_send_success c = not c.receive && status_eq c.status Success

-- the numbers that the atomics of a posted request found so far
abbrev pub found_of : Past → Correspondent → ℕ → List ℕ
found_of past own place = by past.acted
  where
    by : List Acted → List ℕ
    by [] = []
    by (a ∷ rest) = if correspondent_eq a.own own && (a.place == place) then a.found ∷ by rest else by rest

-- the atomic that a completion tells of as a success, by the posted request at its place
abbrev pub atomic_done : Past → Completion → List AtomicDone
atomic_done past c =
    if is_send_success c && option_map_or (λ p. is_atomic (operation_of p.request.op)) (posted_at past c.queue c.place) false
    then record {
      own = present_incarnation past c.queue;
      place = c.place;
      found = found_of past (present_incarnation past c.queue) c.place;
    } ∷ []
    else []

-- the completions that wait, after one was put into the completion queue of its side
abbrev pub waiting_after : Past → Completion → Slot → List Completion
waiting_after past c = option_map_or (λ cqs. put (side c.receive cqs)) (past.cqs c.queue) past.waiting
  where
    side : Bool → Slot × Slot → Slot
    side true cqs = cqs.1
    side false cqs = cqs.0

    put : Slot → Slot → List Completion
    put cq = with_at slot_eq past.waiting cq (past.waiting cq ++ c ∷ [])

-- what befell the queue pair of a completion; a flush and a success are no fault
abbrev pub faults_of : Completion → List Fault
faults_of c =
    if status_eq c.status Success || status_eq c.status Flushed then []
    else (if c.receive then ReceiveFailed c.status else SendFailed c.status) ∷ []

-- what a completion leaves: it waits in the completion queue of its side, if its queue pair was ever created
abbrev pub after_done : Completion → Past → Past
after_done c past = record past {
  faults = faults_after past c.queue (faults_of c);
  last_send = if c.receive then past.last_send else with_at correspondent_eq past.last_send (present_incarnation past c.queue) (Some c.place);
  last_receive = if c.receive then with_at correspondent_eq past.last_receive (present_incarnation past c.queue) (Some c.place) else past.last_receive;
  waiting = waiting_after past c;
  at_hand = record past.at_hand {
    completed = past.at_hand.completed ++ c ∷ [];
    atomics = past.at_hand.atomics ++ atomic_done past c;
  };
}

-- what a mark leaves
abbrev pub after_mark : Mark → Past → Past
after_mark (marks.Verb by verb answer) past =
    after_verb verb answer (record past {
      at_hand = record past.at_hand { answered = Some (record { verb = verb; answer = answer }) };
    })
after_mark (marks.Granted g) past = record past {
  grants = g ∷ past.grants;
  way = with_at key_slot_eq past.way (key_slot_of g) (way_at_hand past);
  at_hand = record past.at_hand { granted = g ∷ past.at_hand.granted };
}
after_mark (marks.Revoked adapter key) past = record past {
  grants = filter (λ g. not ((g.domain.adapter == adapter) && key_eq g.key key)) past.grants;
  at_hand = record past.at_hand { revoked = record { adapter = adapter; key = key } ∷ past.at_hand.revoked };
}
after_mark (marks.Remote queue domain envelope key kind address length verdict) past =
    after_remote (remote_ask queue domain key kind address length) envelope verdict past
after_mark (marks.Local queue domain key kind address length verdict) past =
    after_local (local_ask queue domain key kind address length) verdict past
after_mark (marks.Stored place bytes) past = record past {
  memory = memory_after past.memory
      (record { adapter = place.adapter; buffer = place.buffer; offset = place.offset; length = length bytes } ∷ []) bytes;
}
after_mark (marks.Sent source target index request bytes) past = after_sent source target index request bytes past
after_mark (marks.Lost target index) past = after_lost target index past
after_mark (marks.Arrived target index) past = after_arrival target index past
after_mark (marks.Dropped target cause) past = record past { at_hand = record past.at_hand { dropped = true } }
after_mark (marks.Timer queue silent) past = record past { at_hand = record past.at_hand { fired = Some queue } }
after_mark (marks.Done queue completion cause) past = after_done completion past

abbrev pub after_marks : List Mark → Past → Past
after_marks [] past = past
after_marks (m ∷ ms) past = after_marks ms (after_mark m past)

-- the completion tells that this posted request of a queue pair failed
abbrev pub is_failure_of : QueueId → Posted → Completion → Bool
is_failure_of queue p c =
    not c.receive && queue_eq c.queue queue && (c.place == p.place) && not (status_eq c.status Success)

-- a local operation was performed in the event at hand: in a request's event in which nothing was sent and no list was
-- used, unless a completion says that it failed
abbrev pub operation_performed : Past → Option Posted
operation_performed past =
    if past.at_hand.used_list || is_some (slice_get past.at_hand.sent 0) then None else by past.at_hand.event
  where
    unless_failed : QueueId → Posted → Option Posted
    unless_failed queue p = if list_any (is_failure_of queue p) past.at_hand.completed then None else Some p

    by : Event → Option Posted
    by (events.Request queue lot) = option_and_then (unless_failed queue) (next_operation past queue)
    by event = None

-- how many local operations were performed, as an event ends
abbrev pub performed_at_end : Past → Correspondent → ℕ
performed_at_end past = by past.at_hand.event
  where
    by : Event → Correspondent → ℕ
    by (events.Request queue lot) =
        if is_some (operation_performed past)
        then with_at correspondent_eq past.performed (present_incarnation past queue)
        (suc (past.performed (present_incarnation past queue)))
        else past.performed
    by event = past.performed

-- the low bytes of regions, as an event ends: a registration has that of the key that it was answered, and a fast
-- registration that was performed the one that it asked for
abbrev pub low_at_end : Past → KeySlot → ℕ
low_at_end past = by past.at_hand.event
  where
    registered : Verb → Answer → KeySlot → ℕ
    registered (verbs.RegMr slot buffer offset length rights) (answers.Key key) =
        with_at key_slot_eq past.low (region_key_slot slot) (low_of key)
    registered verb answer = past.low

    fast_registered : QueueId → SendOp → KeySlot → ℕ
    fast_registered queue (ops.FastReg region low buffer address length rights pages) =
        with_at key_slot_eq past.low (region_key_slot (slot_beside queue region)) low
    fast_registered queue op = past.low

    by : Event → KeySlot → ℕ
    by (events.Verb consumer verb) = option_map_or (λ a. registered a.verb a.answer) past.at_hand.answered past.low
    by (events.Request queue lot) = option_map_or (λ p. fast_registered queue p.request.op) (operation_performed past) past.low
    by event = past.low

-- the atomics that completed with success, as an event ends: all that it put into lists counts
abbrev pub succeeded_at_end : Past → List Succeeded
succeeded_at_end past = map (λ a. record { atomic = a; put = past.at_hand.put_locally }) past.at_hand.atomics ++ past.succeeded

-- the packet that arrived at a queue pair in the event at hand, and was not dropped
abbrev pub arrived_at_hand : Past → QueueId → Option Fields
arrived_at_hand past q = option_and_then (λ a. if past.at_hand.dropped then None else at a) past.at_hand.arrival
  where
    at : Arrival → Option Fields
    at a = if queue_eq a.target q then packet_at past q a.index else None

-- how many bytes of its message a SEND packet that arrived finds in the receive's list
abbrev pub bytes_before : Past → QueueId → Fields → ℕ
bytes_before past q p = if begins_send p.opcode then 0 else past.placed q

-- how many bytes of SENDs in progress are placed, as an event ends: a packet that put none has changed nothing
abbrev pub placed_at_end : Past → QueueId → ℕ
placed_at_end past = option_map_or (λ a. option_map_or (placed a.target) (arrived_at_hand past a.target) past.placed) past.at_hand.arrival past.placed
  where
    placed : QueueId → Fields → QueueId → ℕ
    placed q p =
        if is_send p.opcode && nat_lt 0 (length past.at_hand.put_locally)
        then with_at queue_eq past.placed q (bytes_before past q p + length past.at_hand.put_locally)
        else past.placed

-- how far the sends of a queue pair are answered, with the timer that fired or the response that arrived in the event at
-- hand
abbrev pub progress_at_hand : Past → QueueId → Progress
progress_at_hand past q =
    if option_map_or (queue_eq q) past.at_hand.fired false then with_retry before
    else option_map_or responded (arrived_at_hand past q) before
  where
    before : Progress
    before = past.progress (present_incarnation past q)

    from : Fields → Start → Progress
    from p start =
        after_response_packet (mtu_of past q) (whole_start start) (map (λ p. p.request.op) (past.posted (present_incarnation past q))) p before

    responded : Fields → Progress
    responded p = if is_response p.opcode then option_map_or (from p) (start_of past q) before else before

-- the progress of each queue pair, as an event ends
abbrev pub progress_at_end : Past → Correspondent → Progress
progress_at_end past = by past.at_hand.fired past.at_hand.arrival
  where
    at : QueueId → Correspondent → Progress
    at q = with_at correspondent_eq past.progress (present_incarnation past q) (progress_at_hand past q)

    by : Option QueueId → Option Arrival → Correspondent → Progress
    by (Some q) arrival = at q
    by None (Some a) = at a.target
    by None None = past.progress

-- a request arrived at a queue pair in the event at hand and left no mark of its own: it was not dropped, nothing was
-- accessed, and nothing completed but flushes. So does an invalid one, which the queue pair's responder refuses.
abbrev pub is_unmarked_at_hand : Past → QueueId → Bool
is_unmarked_at_hand past q =
    option_map_or (λ p. not (is_response p.opcode)) (arrived_at_hand past q) false
    && not past.at_hand.used_remotely && not past.at_hand.used_list
    && list_all (λ c. status_eq c.status Flushed) past.at_hand.completed

-- what befell each queue pair, as an event ends
abbrev pub faults_at_end : Past → Correspondent → List Fault
faults_at_end past = option_map_or (λ a. unmarked a.target) past.at_hand.arrival past.faults
  where
    unmarked : QueueId → Correspondent → List Fault
    unmarked q = if is_unmarked_at_hand past q then faults_after past q (Unmarked ∷ []) else past.faults

-- as an event ends
abbrev pub at_end : Past → Past
at_end past = record past {
  performed = performed_at_end past;
  low = low_at_end past;
  succeeded = succeeded_at_end past;
  placed = placed_at_end past;
  progress = progress_at_end past;
  faults = faults_at_end past;
}

-- what an entry leaves
abbrev pub after_entry : EntryValue → Past → Past
after_entry e past = at_end (after_marks e.marks (at_begin e.event past))

-- what a history leaves
abbrev pub after_entries : List EntryValue → Past → Past
after_entries [] past = past
after_entries (e ∷ es) past = after_entries es (after_entry e past)

-- each mark passes the test, given what the marks before it have left
abbrev pub each_mark : (Past → Mark → Bool) → Past → List Mark → Bool
each_mark test past [] = true
each_mark test past (m ∷ ms) = test past m && each_mark test (after_mark m past) ms

-- each mark of each entry passes the one test, and what all marks of each entry leave passes the other
abbrev pub each_entry : (Past → Mark → Bool) → (Past → Bool) → Past → List EntryValue → Bool
each_entry test ending past [] = true
each_entry test ending past (e ∷ es) =
    each_mark test (at_begin e.event past) e.marks && ending (after_marks e.marks (at_begin e.event past))
    && each_entry test ending (after_entry e past) es

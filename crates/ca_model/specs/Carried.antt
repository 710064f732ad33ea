-- Carried: what stands behind each packet that is sent or arrives, and behind each remote access. Contracts cite it.
use Rattle.std.specs.Prelude.{ℕ, ◌+◌, ◌-◌, ◌%◌, ◌^◌, Bool, true, false, not, ◌&&◌, ◌||◌, ◌==◌, nat_le, nat_lt, if◌then◌else◌, List, [], ◌∷◌, length, take, find, filter, Option, None, Some, IsTrue}
use Rattle.std.specs.List.{list_any, list_all}
use Rattle.std.specs.Option.{option_map_or, option_eq}
use Rattle.std.specs.Str.{bytes_eq}
use Rattle.ca_keys.specs.declared.access.Ask.{Ask}
use Rattle.ca_keys.specs.declared.access.Kind.{Kind}
use Rattle.ca_keys.specs.declared.access.Kind.TheVariants as kinds
use Rattle.ca_base.specs.declared.completion.Completion.{Completion}
use Rattle.ca_base.specs.declared.limits.TheConstants.{KEPT_ENVELOPES}
use Rattle.ca_keys.specs.declared.key.Key.{Key}
use Rattle.ca_keys.specs.declared.names.QueueId.{QueueId}
use Rattle.ca_keys.specs.declared.verdict.Verdict.{Verdict}
use Rattle.ca_keys.specs.declared.verdict.Verdict.TheVariants as verdicts
use Rattle.ca_keys.specs.Equal.{key_eq, queue_eq}
use Rattle.ca_keys.specs.Memory.{ByteMap}
use Rattle.ca_wire.specs.declared.reth.Reth.{Reth}
use Rattle.ca_wire.specs.Packet.{Fields, spelling}
use Rattle.ca_model.specs.declared.event.Event.{Event}
use Rattle.ca_model.specs.declared.event.Event.TheVariants as events
use Rattle.ca_model.specs.declared.mark.Mark.{Mark}
use Rattle.ca_model.specs.declared.mark.Mark.TheVariants as marks
use Rattle.ca_model.specs.declared.verb.Verb.TheVariants as verbs
use Rattle.ca_model.specs.Entries.{EntryValue}
use Rattle.ca_model.specs.Packets.{packet_of, begins_write, continues_write, asks_atomic, answers_read, is_response}
use Rattle.ca_model.specs.Past.{Past, Envelope, LatestWrite, ReadRequest, Posted, RemoteRead, SentPacket, Start, opening_past, present_incarnation, correspondent_eq, mtu_of, packet_at, first_psn, posted_at, start_of, remote_ask, is_send_success, each_entry}
use Rattle.ca_model.specs.Requests.{is_local, psns_of, carried_bytes, request_packet}

-- the source named the target with the target's present incarnation
abbrev pub has_named : Past → QueueId → QueueId → Bool
has_named past source target = option_map_or (λ n. correspondent_eq n.peer (present_incarnation past target)) (past.naming source) false

-- each of the two named the other with the other's present incarnation
abbrev pub has_path : Past → QueueId → QueueId → Bool
has_path past source target = has_named past source target && has_named past target source

-- the index of a packet that is sent: the next of its target where a path leads there, and else none
abbrev pub index_to : Past → QueueId → QueueId → Option ℕ
index_to past source target = if has_path past source target then Some (length (past.envelopes target)) else None

-- an envelope that can be delivered: it is not lost, and its target was not reset or destroyed since
abbrev pub is_under_way : Envelope → Bool
is_under_way e = not e.lost && not e.cut

-- the event injects at this queue pair
abbrev pub injects_at : QueueId → Event → Bool
injects_at target (events.Verb by (verbs.Inject queue bytes)) = queue_eq queue target
injects_at target event = false

-- A packet that arrives by an index is among the latest 256 that were sent to the queue pair, is not lost, and the queue
-- pair was neither reset nor destroyed since. One without an index is injected by its event.
abbrev pub has_arrived : Past → QueueId → Option ℕ → Bool
has_arrived past target (Some index) =
    option_map_or is_under_way (find (λ e. e.index == index) (take KEPT_ENVELOPES (past.envelopes target))) false
has_arrived past target None = injects_at target past.at_hand.event

-- the event is a turn of this queue pair's responder
abbrev pub is_respond_of : QueueId → Event → Bool
is_respond_of q (events.Respond queue lot) = queue_eq queue q
is_respond_of q event = false

-- which packet of its request one at this PSN is: the first has the PSN behind those of the requests posted before it
abbrev pub packet_index : Past → QueueId → ℕ → Start → ℕ → ℕ
packet_index past q place start psn = (psn + 2 ^ 24 - first_psn past q start place % 2 ^ 24) % 2 ^ 24

-- The bytes spell the packet of a posted request that stands at its PSN, and its payload is what the event read from the
-- request's list.
abbrev pub is_packet_of : Past → SentPacket → Posted → ℕ → ℕ → Bool
is_packet_of past s posted psn index =
    nat_lt index (psns_of mtu posted.request.op)
    && (length past.at_hand.read_locally == carried_bytes mtu posted.request.op index)
    && option_map_or (λ f. bytes_eq s.bytes (spelling f))
    (request_packet mtu posted.request index s.target.number psn past.at_hand.read_locally) false
  where
    mtu : ℕ
    mtu = mtu_of past s.source

-- a packet of the request that was posted at a place: its queue pair was made ready to send, and the bytes are a packet
-- of the request
abbrev pub is_of_request : Past → SentPacket → ℕ → Bool
is_of_request past s place = by (packet_of s.bytes) (start_of past s.source) (posted_at past s.source place)
  where
    by : Option Fields → Option Start → Option Posted → Bool
    by (Some p) (Some start) (Some posted) = is_packet_of past s posted p.psn (packet_index past s.source place start p.psn)
    by p start posted = false

-- a packet of no request is a response to its target, which its queue pair's responder sent
abbrev pub is_of_responder : Past → SentPacket → Bool
is_of_responder past s =
    is_respond_of s.source past.at_hand.event && option_map_or is_response_to (packet_of s.bytes) false
  where
    is_response_to : Fields → Bool
    is_response_to p = is_response p.opcode && (p.queue == s.target.number) && bytes_eq s.bytes (spelling p)

-- a packet that was sent is one of the request that it names, or a response
abbrev pub has_its_cause : Past → SentPacket → Bool
has_its_cause past s = option_map_or (is_of_request past s) s.request (is_of_responder past s)

-- the write goes on where the latest one of its queue pair ended
abbrev pub goes_on : Ask → LatestWrite → Bool
goes_on ask w = key_eq w.key ask.key && (w.address + w.wrote == ask.address) && (w.asked == ask.length + w.wrote)

-- the RETH names the key, the address and the length of the mark
abbrev pub names_all : Ask → Reth → Bool
names_all ask r = key_eq r.key ask.key && (r.address == ask.address) && (r.length == ask.length)

-- A WRITE First or Only names the key, the address and the length of the mark; a Middle or Last goes on.
abbrev pub names_write : Past → Ask → Fields → Bool
names_write past ask p =
    if begins_write p.opcode then option_map_or (names_all ask) p.reth false
    else continues_write p.opcode && option_map_or (goes_on ask) (past.latest_write ask.queue) false

-- an atomic's packet is of the kind of the mark and names its key and address
abbrev pub names_atomic : Ask → Fields → Bool
names_atomic ask p =
    asks_atomic ask.kind p.opcode
    && option_map_or (λ a. key_eq a.key ask.key && (a.address == ask.address)) p.atomic false

-- what is written is the payload
abbrev pub writes_payload : Verdict → List ℕ → Bool
writes_payload (verdicts.Wrote bytes) payload = bytes_eq bytes payload
writes_payload verdict payload = true

-- the packet asks for the access: a WRITE for a write, an atomic for an atomic of its kind
abbrev pub asks_for : Past → Ask → Verdict → Kind → Fields → Bool
asks_for past ask verdict kinds.Read p = false
asks_for past ask verdict kinds.Write p = names_write past ask p && writes_payload verdict p.payload
asks_for past ask verdict kinds.CmpSwap p = names_atomic ask p
asks_for past ask verdict kinds.FetchAdd p = names_atomic ask p

-- the packet that arrived in the event at hand arrived at this queue pair, by this index
abbrev pub arrived_so : Past → QueueId → Option ℕ → Bool
arrived_so past q envelope =
    option_map_or (λ a. queue_eq a.target q && option_eq (λ m n. m == n) a.index envelope) past.at_hand.arrival false

-- a write or an atomic stands in an event in which the packet that it names arrived, and that packet asks for it
abbrev pub is_carried_by_arrival : Past → Ask → Option ℕ → Verdict → Bool
is_carried_by_arrival past ask envelope verdict =
    arrived_so past ask.queue envelope
    && option_map_or (asks_for past ask verdict ask.kind) (packet_at past ask.queue envelope) false

-- so many bytes from an address on, under a key, are the rest of this READ from a multiple of the path MTU on; addresses
-- count modulo 2^64
abbrev pub is_rest_of : ℕ → Key → ℕ → ℕ → Option ℕ → ReadRequest → Bool
is_rest_of mtu key address left envelope r =
    option_eq (λ m n. m == n) r.envelope envelope && key_eq r.key key
    && nat_le left r.length
    && ((r.length - left) % mtu == 0)
    && (address % 2 ^ 64 == (r.address + (r.length - left)) % 2 ^ 64)
    && (nat_lt 0 left || (r.length == 0))

-- a READ gives at most one path MTU
abbrev pub reads_at_most : ℕ → Verdict → Bool
reads_at_most mtu (verdicts.Read bytes) = nat_le (length bytes) mtu
reads_at_most mtu verdict = true

-- a read stands in a Respond of its queue pair, and asks for the rest of a READ request that arrived there in its present
-- incarnation
abbrev pub is_carried_by_request : Past → Ask → Option ℕ → Verdict → Bool
is_carried_by_request past ask envelope verdict =
    is_respond_of ask.queue past.at_hand.event
    && list_any (is_rest_of (mtu_of past ask.queue) ask.key ask.address ask.length envelope) (past.read_requests (present_incarnation past ask.queue))
    && reads_at_most (mtu_of past ask.queue) verdict

-- a remote access has its packet
abbrev pub is_carried_access : Past → Ask → Option ℕ → Verdict → Kind → Bool
is_carried_access past ask envelope verdict kinds.Read = is_carried_by_request past ask envelope verdict
is_carried_access past ask envelope verdict kind = is_carried_by_arrival past ask envelope verdict

-- a response arrived at this queue pair in the event at hand
abbrev pub response_arrived : Past → QueueId → Bool
response_arrived past q =
    option_map_or (λ a. queue_eq a.target q && option_map_or (λ p. is_response p.opcode) (packet_at past a.target a.index) false)
    past.at_hand.arrival false

-- the request of a completion has packets
abbrev pub has_packets : Past → Completion → Bool
has_packets past c =
    option_map_or (λ posted. not (is_local posted.request.op)) (posted_at past c.queue c.place) true

-- A packet arrives as it was sent. It is sent with the next index of its target exactly where a path leads there. A
-- remote access has its packet. A send that has packets completes with success only as a response arrives.
abbrev pub is_carried : Past → Mark → Bool
is_carried past (marks.Arrived target index) = has_arrived past target index
is_carried past (marks.Sent source target index request bytes) =
    option_eq (λ m n. m == n) index (index_to past source target)
is_carried past (marks.Remote queue domain envelope key kind address count verdict) =
    is_carried_access past (remote_ask queue domain key kind address count) envelope verdict kind
is_carried past (marks.Done queue completion cause) =
    not (is_send_success completion && has_packets past completion) || response_arrived past queue
is_carried past mark = true

-- a packet that was sent carries what a READ gave
abbrev pub carries : RemoteRead → SentPacket → Bool
carries r s = queue_eq r.queue s.source && option_map_or (λ p. bytes_eq p.payload r.bytes) (packet_of s.bytes) false

-- the READ responses among packets that were sent
abbrev pub read_responses : List SentPacket → List SentPacket
read_responses sent = filter (λ s. option_map_or (λ p. answers_read p.opcode) (packet_of s.bytes) false) sent

-- each READ response carries what a READ of its own gave, in order
abbrev pub are_carried : List RemoteRead → List SentPacket → Bool
are_carried [] [] = true
are_carried (r ∷ rs) (s ∷ ss) = carries r s && are_carried rs ss
are_carried reads sent = false

-- a packet that was sent without a path is lost in its own event; each one is a packet of the request that it names, or
-- a response; and the READ responses of an event carry what its READs gave
abbrev pub is_carried_at_end : Past → Bool
is_carried_at_end past =
    is_empty past.at_hand.pathless
    && list_all (has_its_cause past) past.at_hand.sent
    && are_carried past.at_hand.read_remotely (read_responses past.at_hand.sent)
  where
    is_empty : List QueueId → Bool
    is_empty [] = true
    is_empty (q ∷ qs) = false

-- each mark is carried
abbrev pub is_carried_history : ByteMap → List EntryValue → Bool
is_carried_history bytes es = each_entry is_carried is_carried_at_end (opening_past bytes) es

abbrev pub Carried : ByteMap → List EntryValue → Type 0
Carried bytes es = IsTrue (is_carried_history bytes es)

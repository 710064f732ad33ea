-- Caused: what stands behind each completion that is no success. Contracts cite it.
use Rattle.std.specs.Prelude.{ℕ, suc, ◌+◌, ◌-◌, ◌%◌, ◌^◌, ◌==◌, ◌&&◌, ◌||◌, nat_le, nat_lt, Bool, true, false, not, if◌then◌else◌, List, length, slice_get, Option, None, Some, is_some, IsTrue}
use Rattle.std.specs.List.{list_any}
use Rattle.std.specs.Option.{option_map, option_map_or}
use Rattle.ca_keys.specs.declared.access.Ask.{Ask}
use Rattle.ca_base.specs.declared.completion.Completion.{Completion}
use Rattle.ca_base.specs.declared.completion.WcOp.TheVariants as operations
use Rattle.ca_base.specs.declared.completion.WcStatus.{WcStatus}
use Rattle.ca_base.specs.declared.completion.WcStatus.TheVariants as statuses
use Rattle.ca_base.specs.declared.limits.TheConstants.{MAX_RETRY}
use Rattle.ca_keys.specs.declared.names.QueueId.{QueueId}
use Rattle.ca_keys.specs.declared.names.Slot.{Slot}
use Rattle.ca_base.specs.declared.refusals.OpRefusal.{OpRefusal}
use Rattle.ca_base.specs.declared.request.Piece.{Piece}
use Rattle.ca_base.specs.declared.request.RecvRequest.{RecvRequest}
use Rattle.ca_keys.specs.Equal.{bool_eq, key_eq, queue_eq}
use Rattle.ca_base.specs.Equal.{operation_eq, status_eq}
use Rattle.ca_keys.specs.Memory.{ByteMap}
use Rattle.ca_psn.specs.Psn.{widened}
use Rattle.ca_wire.specs.declared.opcode.TheConstants.{ATOMIC_ACKNOWLEDGE}
use Rattle.ca_wire.specs.declared.syndrome.NakCode.{NakCode}
use Rattle.ca_wire.specs.declared.syndrome.NakCode.TheVariants.{InvalidRequest, RemoteAccessError, RemoteOperationalError}
use Rattle.ca_wire.specs.Packet.{Fields}
use Rattle.ca_wire.specs.Syndrome.{nak_code}
use Rattle.ca_model.specs.declared.mark.Mark.{Mark}
use Rattle.ca_model.specs.declared.mark.Mark.TheVariants as marks
use Rattle.ca_model.specs.Entries.{EntryValue}
use Rattle.ca_model.specs.Once.{is_clean}
use Rattle.ca_model.specs.Packets.{asks_invalidate, is_last_read_response, is_response, is_send}
use Rattle.ca_model.specs.Past.{Past, Fault, DeniedAccess, Unmarked, ReceiveFailed, Posted, Start, opening_past, present_incarnation, mtu_of, first_psn, posted_at, start_of, progress_at_hand, arrived_at_hand, is_unmarked_at_hand, is_atomic, bytes_before, each_entry}
use Rattle.ca_model.specs.Progress.{Progress, Response, Refuses, Answers, response_in}
use Rattle.ca_model.specs.Requests.{is_local, list_of, list_length, operation_of, psns_of, segment_bytes}

-- the receive of a completion: of its queue pair's shared receive queue, or of its own
abbrev pub receive_at : Past → Completion → Option RecvRequest
receive_at past c = by (past.srq c.queue)
  where
    by : Option Slot → Option RecvRequest
    by (Some srq) = slice_get (past.shared srq) c.place
    by None = slice_get (past.receives (present_incarnation past c.queue)) c.place

-- the list of the request or of the receive of a completion
abbrev pub list_at : Past → Completion → Option (List Piece)
list_at past c =
    if c.receive then option_map (λ r. r.list.items) (receive_at past c)
    else option_map (λ p. list_of p.request.op) (posted_at past c.queue c.place)

-- a denied access by a part of a piece of this list
abbrev pub is_by_piece : Ask → Piece → Bool
is_by_piece ask piece =
    key_eq ask.key piece.key && nat_le ((ask.address + 2 ^ 64 - piece.address % 2 ^ 64) % 2 ^ 64 + ask.length) piece.length

-- the event at hand was denied an access by the list of this completion's request or receive
abbrev pub is_denied_list : Past → Completion → Bool
is_denied_list past c =
    option_map_or (λ pieces. list_any (λ ask. queue_eq ask.queue c.queue && list_any (is_by_piece ask) pieces) past.at_hand.denied_locally)
    (list_at past c) false

-- a SEND arrived that is longer than the list of this receive: what came of its message before, and its own bytes
abbrev pub is_longer_than_list : Past → Completion → Bool
is_longer_than_list past c =
    c.receive && option_map_or (λ p. is_send p.opcode && option_map_or (is_exceeded p) (list_at past c) false) (arrived_at_hand past c.queue) false
  where
    is_exceeded : Fields → List Piece → Bool
    is_exceeded p pieces = nat_lt (list_length pieces) (bytes_before past c.queue p + length p.payload)

-- the completion carries the refusal of a local operation, or of the invalidation that the SEND at hand asks for
abbrev pub is_refused_operation : Past → Completion → Option OpRefusal → Bool
is_refused_operation past c cause = is_some cause && by c.receive
  where
    by : Bool → Bool
    by true = option_map_or (λ p. asks_invalidate p.opcode) (arrived_at_hand past c.queue) false
    by false = option_map_or (λ p. is_local p.request.op) (posted_at past c.queue c.place) false

-- what a response that arrived says of the request of a send completion, at which of its PSNs, counted from its first;
-- nothing, where it stands at no PSN of the request
pub record Told : Type 0 where
  pub packet : Fields
  pub index : ℕ
  pub response : Response

abbrev pub told_at_hand : Past → Completion → Option Told
told_at_hand past c = by (arrived_at_hand past c.queue) (start_of past c.queue) (posted_at past c.queue c.place)
  where
    -- the first PSN of the request, and the one of a packet, as whole numbers
    first : Start → ℕ
    first start = first_psn past c.queue start c.place

    psn : Fields → ℕ
    psn p = widened (past.progress (present_incarnation past c.queue)).una p.psn

    told : Fields → Start → Posted → Option Response → Option Told
    told p start posted None = None
    told p start posted (Some response) =
        if nat_le (first start) (psn p) && nat_lt (psn p) (first start + psns_of (mtu_of past c.queue) posted.request.op)
        then Some (record { packet = p; index = psn p - first start; response = response })
        else None

    by : Option Fields → Option Start → Option Posted → Option Told
    by (Some p) (Some start) (Some posted) = if is_response p.opcode then told p start posted (response_in p) else None
    by p start posted = None

-- a NAK of this code arrived for the request of a send completion
abbrev pub is_refused_by : NakCode → Past → Completion → Bool
is_refused_by code past c = not c.receive && option_map_or (λ t. is_nak t.response) (told_at_hand past c) false
  where
    is_nak : Response → Bool
    is_nak (Refuses found) = nak_code found == nak_code code
    is_nak response = false

-- in its incarnation, something of this kind befell the peer of a queue pair
abbrev pub has_befallen_peer : (Fault → Bool) → Past → QueueId → Bool
has_befallen_peer test past q = option_map_or (λ n. list_any test (past.faults n.peer)) (past.naming q) false

-- the connection of a queue pair is not clean so far, or something of this kind befell the peer
abbrev pub is_peers_if_clean : (Fault → Bool) → Past → QueueId → Bool
is_peers_if_clean test past q = not (is_clean past (present_incarnation past q)) || has_befallen_peer test past q

-- the kinds: what goes before a NAK for an invalid request, one for a remote access error, and one for a remote
-- operational error
abbrev pub makes_invalid : Fault → Bool
makes_invalid Unmarked = true
makes_invalid (ReceiveFailed status) = status_eq status statuses.LocalLength
makes_invalid fault = false

abbrev pub makes_access_error : Fault → Bool
makes_access_error DeniedAccess = true
makes_access_error fault = false

abbrev pub makes_operational_error : Fault → Bool
makes_operational_error (ReceiveFailed status) = status_eq status statuses.LocalProtection || status_eq status statuses.MemoryManagement
makes_operational_error fault = false

-- the limits of retries of a send completion's queue pair, and its progress with the event at hand
abbrev pub with_limits : (Start → Progress → Bool) → Past → Completion → Bool
with_limits test past c =
    not c.receive && option_map_or (λ start. test start (progress_at_hand past c.queue)) (start_of past c.queue) false

-- the answer fits the request at this index: a READ's response by its length and by whether it is the last, and an
-- atomic's an atomic
abbrev pub is_fitting_answer : Past → QueueId → Posted → Told → Bool
is_fitting_answer past q p t =
    if t.packet.opcode == ATOMIC_ACKNOWLEDGE then is_atomic (operation_of p.request.op)
    else operation_eq (operation_of p.request.op) operations.Read
    && (length t.packet.payload == segment_bytes (mtu_of past q) (list_length (list_of p.request.op)) t.index)
    && bool_eq (is_last_read_response t.packet.opcode) (suc t.index == psns_of (mtu_of past q) p.request.op)

-- an answer arrived that does not fit the request of a send completion, on a connection that is not clean
abbrev pub is_bad_response : Past → Completion → Bool
is_bad_response past c =
    not c.receive && not (is_clean past (present_incarnation past c.queue))
    && option_map_or (λ t. is_answer t.response && option_map_or (λ p. not (is_fitting_answer past c.queue p t)) (posted_at past c.queue c.place) false)
    (told_at_hand past c) false
  where
    is_answer : Response → Bool
    is_answer Answers = true
    is_answer response = false

-- the queue pair may be in Error: the verb moved it there, a completion failed, an access was denied, or a request
-- arrived that left no mark of its own, as an invalid one does
abbrev pub may_be_in_error : Past → QueueId → Bool
may_be_in_error past q = is_some (slice_get (past.faults (present_incarnation past q)) 0) || is_unmarked_at_hand past q

-- each status but a success has its row
abbrev pub has_cause : Past → Completion → Option OpRefusal → WcStatus → Bool
has_cause past c cause statuses.Success = true
has_cause past c cause statuses.LocalLength = is_longer_than_list past c
has_cause past c cause statuses.LocalProtection = is_denied_list past c
has_cause past c cause statuses.MemoryManagement = is_refused_operation past c cause
has_cause past c cause statuses.RemoteInvalidRequest = is_refused_by InvalidRequest past c && is_peers_if_clean makes_invalid past c.queue
has_cause past c cause statuses.RemoteAccess = is_refused_by RemoteAccessError past c && is_peers_if_clean makes_access_error past c.queue
has_cause past c cause statuses.RemoteOperation =
    is_refused_by RemoteOperationalError past c && is_peers_if_clean makes_operational_error past c.queue
has_cause past c cause statuses.RetryExceeded = with_limits (λ start g. g.retries == suc start.retry) past c
has_cause past c cause statuses.RnrRetryExceeded =
    with_limits (λ start g. nat_lt start.rnr_retry MAX_RETRY && (g.rnrs == suc start.rnr_retry)) past c
has_cause past c cause statuses.BadResponse = is_bad_response past c
has_cause past c cause statuses.Flushed = may_be_in_error past c.queue

-- each completion has its cause
abbrev pub is_caused : Past → Mark → Bool
is_caused past (marks.Done queue completion cause) = has_cause past completion cause completion.status
is_caused past mark = true

abbrev pub is_caused_history : ByteMap → List EntryValue → Bool
is_caused_history bytes es = each_entry is_caused (λ past. true) (opening_past bytes) es

abbrev pub Caused : ByteMap → List EntryValue → Type 0
Caused bytes es = IsTrue (is_caused_history bytes es)

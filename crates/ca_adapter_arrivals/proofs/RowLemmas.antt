-- The rows of bytes that arrive: each write has as many bytes as its ask touches, and a key that ends is one of the queue
-- pair's own domain. For proofs only.
use Rattle.std.proofs.Common.{◌≡◌, refl, sym, subst, ℕ, suc, ◌+◌, ◌-◌, ◌≤◌, ◌==◌, ◌&&◌, nat_le, nat_lt, arith, Bool, true, false, not, if◌then◌else◌, List, [], ◌∷◌, length, drop, map, Option, None, Some, Result, Ok, Err, IfSome, is_none}
use Rattle.std.proofs.lemmas.List.{length-drop, length-take-le}
use Rattle.std.specs.List.{AllByRecursion}
use Rattle.std.specs.Option.{option_and_then, option_map, option_map_or}
use Rattle.ca_base.specs.declared.change.State.TheVariants as states
use Rattle.ca_base.specs.declared.completion.WcStatus.TheVariants.{BadResponse, LocalLength, LocalProtection, MemoryManagement, RetryExceeded, RnrRetryExceeded}
use Rattle.ca_base.specs.declared.denied_ask.DeniedAsk.{DeniedAsk}
use Rattle.ca_base.specs.declared.limits.TheConstants.{MAX_DUPLICATES, MAX_RETRY}
use Rattle.ca_base.specs.declared.queue_numbers.Queued.TheVariants as queued
use Rattle.ca_base.specs.declared.refusals.OpRefusal.{OpRefusal}
use Rattle.ca_base.specs.declared.request.PlacedReceive.{PlacedReceive}
use Rattle.ca_base.specs.Sight.{Invalidation, Sight, bytes_in, first_denied}
use Rattle.ca_base.specs.objects.Answers.{duplicate_count}
use Rattle.ca_base.specs.objects.QueuePair.{QueuePair}
use Rattle.ca_base.specs.objects.Saved.{saved_at}
use Rattle.ca_base.specs.objects.SharedReceives.{SharedReceives}
use Rattle.ca_base.specs.objects.StateTable.{is_among}
use Rattle.ca_keys.specs.declared.access.Ask.{Ask}
use Rattle.ca_keys.specs.declared.access.Kind.TheVariants as kinds
use Rattle.ca_keys.specs.Refusals.{first_of}
use Rattle.ca_adapter_parts.proofs.of_ca_law_world.Sound.WorldLemmas.{EndingDoes, RowDoes}
use Rattle.ca_model.specs.declared.mark.Drop1.{Drop1}
use Rattle.ca_model.specs.declared.mark.Drop1.TheVariants as drops
use Rattle.ca_model.specs.declared.receiving.Receiving.{Receiving}
use Rattle.ca_model.specs.declared.write_reach.WriteReach.{WriteReach}
use Rattle.ca_model.specs.Packets.{is_response}
use Rattle.ca_model.specs.Requests.{list_length, list_of, segments}
use Rattle.ca_model.specs.machine.Acknowledgements.{Acknowledgement, acknowledgement_below, and_then, failure_effects, first_unanswered, one_retry, progress_to, with_cursor, with_requester}
use Rattle.ca_model.specs.machine.Arrivals.{next_receive, packet_ask, refusal_effects, with_answer, with_flag, with_receive_taken}
use Rattle.ca_model.specs.machine.Delivery.{arrival_drops, arrival_row, packet_arrived}
use Rattle.ca_model.specs.machine.Duplicates.{ack_again, ahead_effects, answer_again, atomic_again, duplicate_effects, read_again, request_row}
use Rattle.ca_model.specs.machine.Expected.{after_send_packet, atomic_row, behind_marks, expected_row, invalidation_of, is_invalid, read_queued, receive_asks, receive_failure_effects, receiving_of, revoked_marks, rnr_effects, send_row, takes_receive, valid_row, with_shared_receive, with_window_gone, write_reach, write_row}
use Rattle.ca_model.specs.machine.Numbering.{Numbered, begun_requests, request_at}
use Rattle.ca_model.specs.machine.Requester.{local_denial}
use Rattle.ca_model.specs.machine.Responses.{acknowledge_row, answer_asks, answer_bytes, answer_row, drop_effects, fits_request, fitting_row, is_outstanding_at, local_writes, nak_effects, outstanding_row, response_psn, response_row, rnr_nak_effects, segment_at, unless_back, writes_by}
use Rattle.ca_model.specs.machine.Row.{Does, Effects, Ending, Row, ending_of, plain_row, queue_and_marks}
use Rattle.ca_wire.specs.declared.atomic_eth.AtomicEth.{AtomicEth}
use Rattle.ca_wire.specs.declared.opcode.TheConstants.{ACKNOWLEDGE}
use Rattle.ca_wire.specs.declared.reth.Reth.{Reth}
use Rattle.ca_wire.specs.declared.shape.Position.{Position}
use Rattle.ca_wire.specs.declared.shape.Shape.{Shape}
use Rattle.ca_wire.specs.declared.shape.Shape.TheVariants as shapes
use Rattle.ca_wire.specs.declared.wire_error.WireError.{WireError}
use Rattle.ca_wire.specs.Decoding.{packet_in}
use Rattle.ca_wire.specs.Packet.{Fields}
use Rattle.ca_wire.specs.Table.{shape_of}
use Rattle.ca_psn.specs.Psn.{widened}
use Rattle.ca_responder.proofs.of_ca_qp_rows.ListLemmas.{cut_touches}
use Rattle.ca_responder.specs.ca_qp_rows.Asks.{touched_by}
use Rattle.ca_wire.specs.Syndrome.{nak_code, syndrome_in}
use Rattle.ca_wire.specs.declared.syndrome.NakCode.{NakCode}
use Rattle.ca_wire.specs.declared.syndrome.NakCode.TheVariants.{InvalidRequest, PsnSequenceError, RemoteAccessError, RemoteOperationalError}
use Rattle.ca_wire.specs.declared.syndrome.Syndrome.{Syndrome}
use Rattle.ca_wire.specs.declared.syndrome.Syndrome.TheVariants.{Ack, Nak, RnrNak}

-- each write has as many bytes as its ask touches
abbrev pub AreFull : List (Ask × List ℕ) → Type 0
AreFull writes = AllByRecursion (λ x. length x.1 ≡ x.0.touch) writes

abbrev pub Fills : Effects → Type 0
Fills e = AreFull e.writes

-- a key that ends is one of the queue pair's own domain
abbrev pub IsOwn : QueuePair → Invalidation → Type 0
IsOwn q i = (i.queue ≡ q.queue) × (i.domain ≡ q.domain)

-- a row of bytes that arrive at a queue pair
pub record IsArrivalRow (q : QueuePair) (row : Row) : Type 0 where
  pub fills : RowDoes Fills row
  pub own : IfSome row.invalidation (IsOwn q)

-- bytes that are cut for asks fill them
cut-fills : (asks : List Ask) (bytes : List ℕ) → touched_by asks ≤ length bytes → AreFull (writes_by asks bytes)
cut-fills [] bytes enough = record {}
cut-fills (ask ∷ asks) bytes enough = (
  length-take-le ask.touch bytes (omega (arith, enough)),
  cut-fills asks (drop ask.touch bytes) (omega (arith, enough, length-drop ask.touch bytes)),
)

-- a row that writes nothing, in one way
silent-row : (q : QueuePair) (e : Effects) → e.writes ≡ [] → IsArrivalRow q (plain_row (Does e))
silent-row q e none = record { fills = record { denied = λ d. fills; allowed = λ bytes refusal. fills }; own = record {} }
  where
    fills : Fills e
    fills = subst AreFull (sym none) (record {})

-- ---- responses

retry-writes : (psn : ℕ) (q : QueuePair) → (one_retry psn q).writes ≡ []
retry-writes psn q = by (nat_le q.requester.retry q.requester.retries)
  where
    counted : QueuePair
    counted = with_requester (record q.requester { retries = suc q.requester.retries }) q

    by : (b : Bool) → (if b then failure_effects RetryExceeded None counted else queue_and_marks (with_cursor psn counted) []).writes ≡ []
    by true = refl
    by false = refl

acknowledged-writes : (psn : ℕ) (q : QueuePair) → (acknowledgement_below psn q).effects.writes ≡ []
acknowledged-writes psn q = by (first_unanswered q.requester.una psn (begun_requests q))
  where
    after : Option ℕ → Acknowledgement
    after None = record { effects = progress_to psn q; went_back = false }
    after (Some back) = record { effects = and_then (progress_to back q) (one_retry back); went_back = true }

    by : (o : Option ℕ) → (after o).effects.writes ≡ []
    by None = refl
    by (Some back) = retry-writes back (progress_to back q).queue

rnr-writes : (psn : ℕ) (q : QueuePair) → (rnr_nak_effects psn q).writes ≡ []
rnr-writes psn q = by (nat_lt q.requester.rnr_retry MAX_RETRY && nat_le q.requester.rnr_retry q.requester.rnrs)
  where
    counted : QueuePair
    counted = with_requester (record q.requester { rnrs = suc q.requester.rnrs }) q

    by : (b : Bool) → (if b then failure_effects RnrRetryExceeded None counted
        else queue_and_marks (with_requester (record counted.requester { cursor = psn; waiting = true }) q) []).writes ≡ []
    by true = refl
    by false = refl

nak-writes : (psn : ℕ) (code : NakCode) (q : QueuePair) → (nak_effects psn code q).writes ≡ []
nak-writes psn PsnSequenceError q = retry-writes psn q
nak-writes psn InvalidRequest q = refl
nak-writes psn RemoteAccessError q = refl
nak-writes psn RemoteOperationalError q = refl

unless-back-writes : (a : Acknowledgement) (f : QueuePair → Effects) → a.effects.writes ≡ [] → (f a.effects.queue).writes ≡ [] → (unless_back a f).writes ≡ []
unless-back-writes a f one other = by a.went_back
  where
    by : (b : Bool) → (if b then a.effects else and_then a.effects f).writes ≡ []
    by true = one
    by false = other

acknowledge-writes : (psn : ℕ) (syndrome : Option Syndrome) (q : QueuePair) → (acknowledge_row psn syndrome q).writes ≡ []
acknowledge-writes psn (Some (Ack credits)) q = acknowledged-writes (suc psn) q
acknowledge-writes psn (Some (RnrNak timer)) q =
    unless-back-writes (acknowledgement_below psn q) (rnr_nak_effects psn) (acknowledged-writes psn q) (rnr-writes psn (acknowledgement_below psn q).effects.queue)
acknowledge-writes psn (Some (Nak code)) q =
    unless-back-writes (acknowledgement_below psn q) (nak_effects psn code) (acknowledged-writes psn q) (nak-writes psn code (acknowledgement_below psn q).effects.queue)
acknowledge-writes psn None q = refl

answer-fills : (psn : ℕ) (p : Fields) (q : QueuePair) (e : Effects) (n : Numbered) → IsArrivalRow q (answer_row psn p e n)
answer-fills psn p q e n = record {
  fills = record {
    denied = λ d. record {};
    allowed = λ bytes refusal. cut-fills (answer_asks psn p e.queue n) (answer_bytes p)
        (cut_touches e.queue.queue e.queue.domain kinds.Write (segment_at psn e.queue n) (length (answer_bytes p)) (list_of n.request.op));
  };
  own = record {};
}

fitting-fills : (psn : ℕ) (p : Fields) (q : QueuePair) (a : Acknowledgement) → a.effects.writes ≡ [] → IsArrivalRow q (fitting_row psn p a)
fitting-fills psn p q a none = back a.went_back
  where
    bad : Row
    bad = plain_row (Does (and_then a.effects (failure_effects BadResponse None)))

    at : Option Numbered → Row
    at None = bad
    at (Some n) = if fits_request psn p a.effects.queue n then answer_row psn p a.effects n else bad

    fits : (n : Numbered) (b : Bool) → IsArrivalRow q (if b then answer_row psn p a.effects n else bad)
    fits n true = answer-fills psn p q a.effects n
    fits n false = silent-row q (and_then a.effects (failure_effects BadResponse None)) refl

    by : (o : Option Numbered) → IsArrivalRow q (at o)
    by None = silent-row q (and_then a.effects (failure_effects BadResponse None)) refl
    by (Some n) = fits n (fits_request psn p a.effects.queue n)

    back : (b : Bool) → IsArrivalRow q (if b then plain_row (Does a.effects) else at (request_at psn a.effects.queue))
    back true = silent-row q a.effects none
    back false = by (request_at psn a.effects.queue)

-- a response ends no key
pub response-no-key : (p : Fields) (q : QueuePair) → (response_row p q).invalidation ≡ None
response-no-key p q = by (is_among (states.Rts ∷ states.Sqd ∷ []) q.state)
  where
    psn : ℕ
    psn = response_psn q p

    answer : Option Numbered → Row
    answer None = plain_row (Does (and_then (acknowledgement_below psn q).effects (failure_effects BadResponse None)))
    answer (Some n) = if fits_request psn p (acknowledgement_below psn q).effects.queue n then answer_row psn p (acknowledgement_below psn q).effects n
        else plain_row (Does (and_then (acknowledgement_below psn q).effects (failure_effects BadResponse None)))

    fits : (n : Numbered) (b : Bool) → (if b then answer_row psn p (acknowledgement_below psn q).effects n
        else plain_row (Does (and_then (acknowledgement_below psn q).effects (failure_effects BadResponse None)))).invalidation ≡ None
    fits n true = refl
    fits n false = refl

    at : (n : Option Numbered) → (answer n).invalidation ≡ None
    at None = refl
    at (Some n) = fits n (fits_request psn p (acknowledgement_below psn q).effects.queue n)

    back : (b : Bool) → (if b then plain_row (Does (acknowledgement_below psn q).effects) else answer (request_at psn (acknowledgement_below psn q).effects.queue)).invalidation ≡ None
    back true = refl
    back false = at (request_at psn (acknowledgement_below psn q).effects.queue)

    kind : (b : Bool) → (if b then plain_row (Does (acknowledge_row psn (option_and_then (λ a. syndrome_in a.syndrome) p.aeth) q))
        else fitting_row psn p (acknowledgement_below psn q)).invalidation ≡ None
    kind true = refl
    kind false = back (acknowledgement_below psn q).went_back

    there : (b : Bool) → (if not b then plain_row (Does (drop_effects q drops.Stale)) else outstanding_row psn p q).invalidation ≡ None
    there true = kind (p.opcode == ACKNOWLEDGE)
    there false = refl

    by : (b : Bool) → (if not b then plain_row (Does (drop_effects q drops.State))
        else if not (is_outstanding_at psn q) then plain_row (Does (drop_effects q drops.Stale)) else outstanding_row psn p q).invalidation ≡ None
    by true = there (is_outstanding_at psn q)
    by false = refl

response-fills : (p : Fields) (q : QueuePair) → IsArrivalRow q (response_row p q)
response-fills p q = by (is_among (states.Rts ∷ states.Sqd ∷ []) q.state)
  where
    dropped : (cause : Drop1) → IsArrivalRow q (plain_row (Does (drop_effects q cause)))
    dropped cause = silent-row q (drop_effects q cause) refl

    kinds : (psn : ℕ) (b : Bool) → IsArrivalRow q
        (if b then plain_row (Does (acknowledge_row psn (option_and_then (λ a. syndrome_in a.syndrome) p.aeth) q)) else fitting_row psn p (acknowledgement_below psn q))
    kinds psn true = silent-row q (acknowledge_row psn (option_and_then (λ a. syndrome_in a.syndrome) p.aeth) q)
        (acknowledge-writes psn (option_and_then (λ a. syndrome_in a.syndrome) p.aeth) q)
    kinds psn false = fitting-fills psn p q (acknowledgement_below psn q) (acknowledged-writes psn q)

    there : (b : Bool) → IsArrivalRow q (if not b then plain_row (Does (drop_effects q drops.Stale)) else outstanding_row (response_psn q p) p q)
    there true = kinds (response_psn q p) (p.opcode == ACKNOWLEDGE)
    there false = dropped drops.Stale

    by : (b : Bool) → IsArrivalRow q (if not b then plain_row (Does (drop_effects q drops.State))
        else if not (is_outstanding_at (response_psn q p) q) then plain_row (Does (drop_effects q drops.Stale)) else outstanding_row (response_psn q p) p q)
    by true = there (is_outstanding_at (response_psn q p) q)
    by false = dropped drops.State

-- ---- requests

ahead-writes : (q : QueuePair) → (ahead_effects q).writes ≡ []
ahead-writes q = by q.responder.nak_sent
  where
    by : (b : Bool) → (if b then drop_effects q drops.Stale
        else queue_and_marks (with_flag true (with_answer (queued.Nak q.responder.expected (nak_code PsnSequenceError)) q)) []).writes ≡ []
    by true = refl
    by false = refl

duplicate-writes : (psn : ℕ) (p : Fields) (envelope : Option ℕ) (shape : Shape) (q : QueuePair) → (duplicate_effects psn p envelope shape q).writes ≡ []
duplicate-writes psn p envelope shape q = at (nat_le MAX_DUPLICATES (duplicate_count q.responder.answers))
  where
    acks : (b : Bool) → (if b then queue_and_marks (with_answer (queued.Ack (q.responder.expected - 1)) q) [] else drop_effects q drops.Unsaved).writes ≡ []
    acks true = refl
    acks false = refl

    again : (h : Reth) (b : Bool) → (if b then answer_again psn (queued.Read psn h.key h.address h.length true envelope true) q else drop_effects q drops.Unsaved).writes ≡ []
    again h true = refl
    again h false = refl

    reads : (o : Option Reth) → (option_map_or (λ h. read_again psn envelope h q) o (drop_effects q drops.Unsaved)).writes ≡ []
    reads None = refl
    reads (Some h) = again h (nat_le (psn + segments q.responder.mtu h.length) q.responder.expected)

    atomics : (o : Option ℕ) → (atomic_again psn o q).writes ≡ []
    atomics None = refl
    atomics (Some found) = refl

    effects : Shape → Effects
    effects (shapes.Send position) = ack_again q
    effects (shapes.Write position) = ack_again q
    effects shapes.Read = option_map_or (λ h. read_again psn envelope h q) p.reth (drop_effects q drops.Unsaved)
    effects (shapes.Atomic kind) = atomic_again psn (saved_at psn q.saved) q

    by : (shape : Shape) → (effects shape).writes ≡ []
    by (shapes.Send position) = acks (length q.responder.answers == 0)
    by (shapes.Write position) = acks (length q.responder.answers == 0)
    by shapes.Read = reads p.reth
    by (shapes.Atomic kind) = atomics (saved_at psn q.saved)

    at : (b : Bool) → (if b then drop_effects q drops.Unsaved else effects shape).writes ≡ []
    at true = refl
    at false = by shape

-- a key of a SEND is one of its queue pair, with another receive or flag too
own-key : (before q : QueuePair) (p : Fields) → q.queue ≡ before.queue → q.domain ≡ before.domain → IfSome (invalidation_of q p) (IsOwn before)
own-key before q p queue domain = by p.ieth
  where
    by : (o : Option ℕ) → IfSome (option_map (λ key. record { queue = q.queue; domain = q.domain; key = record { 0 = key } }) o) (IsOwn before)
    by None = record {}
    by (Some key) = (queue, domain)

send-fills : (own before : QueuePair) (p : Fields) (position : Position) (r : Receiving) → before.queue ≡ own.queue → before.domain ≡ own.domain
    → IsArrivalRow own (send_row before p position r)
send-fills own before p position r same-queue same-domain = taken r.taken
  where
    long : Bool
    long = nat_lt (list_length r.receive.receive.list.items) (r.before + length p.payload)

    took : Bool → QueuePair → Effects → Effects
    took t q e = if t then with_shared_receive q e else e

    by : QueuePair → Option OpRefusal → Effects
    by q (Some cause) = receive_failure_effects q r.receive MemoryManagement (Some cause) RemoteOperationalError
    by q None = behind_marks (revoked_marks q (invalidation_of q p)) (after_send_packet (with_window_gone (invalidation_of q p) q) p position r)

    row : Bool → QueuePair → Bool → Row
    row t q b =
        if b then plain_row (Does (took t q (receive_failure_effects q r.receive LocalLength None InvalidRequest)))
        else record {
          asks = receive_asks q p r;
          invalidation = invalidation_of q p;
          denied = λ d. Does (took t q (behind_marks (local_denial d ∷ []) (receive_failure_effects q r.receive LocalProtection None RemoteOperationalError)));
          allowed = λ bytes refusal. Does (took t q (record (behind_marks (local_writes (writes_by (receive_asks q p r) p.payload)) (by q refusal)) { writes = writes_by (receive_asks q p r) p.payload }));
        }

    fills : (q : QueuePair) → AreFull (writes_by (receive_asks q p r) p.payload)
    fills q = cut-fills (receive_asks q p r) p.payload
        (cut_touches q.queue q.domain kinds.Write r.before (length p.payload) r.receive.receive.list.items)

    at : (t : Bool) (q : QueuePair) (b : Bool) → q.queue ≡ own.queue → q.domain ≡ own.domain → IsArrivalRow own (row t q b)
    at true q true queue domain = silent-row own (with_shared_receive q (receive_failure_effects q r.receive LocalLength None InvalidRequest)) refl
    at false q true queue domain = silent-row own (receive_failure_effects q r.receive LocalLength None InvalidRequest) refl
    at true q false queue domain = record { fills = record { denied = λ d. record {}; allowed = λ bytes refusal. fills q }; own = own-key own q p queue domain }
    at false q false queue domain = record { fills = record { denied = λ d. record {}; allowed = λ bytes refusal. fills q }; own = own-key own q p queue domain }

    taken : (t : Bool) → IsArrivalRow own (row t (if t then with_receive_taken before else before) long)
    taken true = at true (with_receive_taken before) long same-queue same-domain
    taken false = at false before long same-queue same-domain

write-fills : (own q : QueuePair) (p : Fields) (envelope : Option ℕ) (position : Position) (next : Option PlacedReceive) (r : WriteReach)
    → IsArrivalRow own (write_row q p envelope position next r)
write-fills own q p envelope position next r = record { fills = record { denied = λ d. record {}; allowed = λ bytes refusal. by (r.left == 0) }; own = record {} }
  where
    by : (b : Bool) → AreFull (if b then [] else (packet_ask q r.key kinds.Write r.address r.left (length p.payload), p.payload) ∷ [])
    by true = record {}
    by false = (refl, record {})

refused-fills : (own q : QueuePair) (code : NakCode) → IsArrivalRow own (plain_row (Does (refusal_effects code q)))
refused-fills own q code = silent-row own (refusal_effects code q) refl

valid-fills : (own q : QueuePair) (p : Fields) (envelope : Option ℕ) (next : Option PlacedReceive) (shape : Shape) → q.queue ≡ own.queue → q.domain ≡ own.domain
    → IsArrivalRow own (valid_row q p envelope next shape)
valid-fills own q p envelope next (shapes.Send position) queue domain = by (receiving_of q next q.responder.message)
  where
    row : Option Receiving → Row
    row (Some r) = send_row q p position r
    row None = plain_row (Does (refusal_effects InvalidRequest q))

    by : (o : Option Receiving) → IsArrivalRow own (row o)
    by (Some r) = send-fills own q p position r queue domain
    by None = refused-fills own q InvalidRequest
valid-fills own q p envelope next (shapes.Write position) queue domain = by (write_reach q p)
  where
    row : Option WriteReach → Row
    row (Some r) = write_row q p envelope position next r
    row None = plain_row (Does (refusal_effects InvalidRequest q))

    by : (o : Option WriteReach) → IsArrivalRow own (row o)
    by (Some r) = write-fills own q p envelope position next r
    by None = refused-fills own q InvalidRequest
valid-fills own q p envelope next shapes.Read queue domain = by p.reth
  where
    row : Option Reth → Row
    row (Some h) = plain_row (Does (read_queued q p envelope h))
    row None = plain_row (Does (refusal_effects InvalidRequest q))

    by : (o : Option Reth) → IsArrivalRow own (row o)
    by (Some h) = silent-row own (read_queued q p envelope h) refl
    by None = refused-fills own q InvalidRequest
valid-fills own q p envelope next (shapes.Atomic kind) queue domain = by p.atomic
  where
    row : Option AtomicEth → Row
    row (Some a) = atomic_row q p envelope kind a
    row None = plain_row (Does (refusal_effects InvalidRequest q))

    by : (o : Option AtomicEth) → IsArrivalRow own (row o)
    by (Some a) = record { fills = record { denied = λ d. record {}; allowed = λ bytes refusal. (refl, record {}) }; own = record {} }
    by None = refused-fills own q InvalidRequest

expected-fills : (before : QueuePair) (shared : Option SharedReceives) (p : Fields) (envelope : Option ℕ) (shape : Shape)
    → IsArrivalRow before (expected_row before shared p envelope shape)
expected-fills before shared p envelope shape = invalid (is_invalid q p shape)
  where
    q : QueuePair
    q = with_flag false before

    waits : (b : Bool) → IsArrivalRow before (if b then plain_row (Does (rnr_effects q)) else valid_row q p envelope (next_receive q shared) shape)
    waits true = silent-row before (rnr_effects q) refl
    waits false = valid-fills before q p envelope (next_receive q shared) shape refl refl

    invalid : (b : Bool) → IsArrivalRow before (
        if b then plain_row (Does (refusal_effects InvalidRequest q))
        else if takes_receive p shape && is_none (next_receive q shared) then plain_row (Does (rnr_effects q))
        else valid_row q p envelope (next_receive q shared) shape)
    invalid true = refused-fills before q InvalidRequest
    invalid false = waits (takes_receive p shape && is_none (next_receive q shared))

request-fills : (p : Fields) (envelope : Option ℕ) (shared : Option SharedReceives) (shape : Shape) (q : QueuePair) → IsArrivalRow q (request_row p envelope shared shape q)
request-fills p envelope shared shape q = by (widened q.responder.expected p.psn)
  where
    before : (psn : ℕ) (b : Bool) → IsArrivalRow q (if b then plain_row (Does (duplicate_effects psn p envelope shape q)) else expected_row q shared p envelope shape)
    before psn true = silent-row q (duplicate_effects psn p envelope shape q) (duplicate-writes psn p envelope shape q)
    before psn false = expected-fills q shared p envelope shape

    ahead : (psn : ℕ) (b : Bool) → IsArrivalRow q (
        if b then plain_row (Does (ahead_effects q))
        else if nat_lt psn q.responder.expected then plain_row (Does (duplicate_effects psn p envelope shape q))
        else expected_row q shared p envelope shape)
    ahead psn true = silent-row q (ahead_effects q) (ahead-writes q)
    ahead psn false = before psn (nat_lt psn q.responder.expected)

    by : (psn : ℕ) → IsArrivalRow q (
        if nat_lt q.responder.expected psn then plain_row (Does (ahead_effects q))
        else if nat_lt psn q.responder.expected then plain_row (Does (duplicate_effects psn p envelope shape q))
        else expected_row q shared p envelope shape)
    by psn = ahead psn (nat_lt q.responder.expected psn)

pub arrival-fills : (bytes : List ℕ) (envelope : Option ℕ) (shared : Option SharedReceives) (q : QueuePair) → IsArrivalRow q (arrival_row bytes envelope shared q)
arrival-fills bytes envelope shared q = by (packet_in bytes)
  where
    dropped : (cause : Drop1) → IsArrivalRow q (plain_row (Does (drop_effects q cause)))
    dropped cause = silent-row q (drop_effects q cause) refl

    shaped : Fields → Option Shape → Row
    shaped p (Some shape) = request_row p envelope shared shape q
    shaped p None = plain_row (Does (drop_effects q drops.State))

    requests : (p : Fields) (o : Option Shape) → IsArrivalRow q (shaped p o)
    requests p (Some shape) = request-fills p envelope shared shape q
    requests p None = dropped drops.State

    kinds : (p : Fields) (b : Bool) → IsArrivalRow q (if b then response_row p q else shaped p (shape_of p.opcode))
    kinds p true = response-fills p q
    kinds p false = requests p (shape_of p.opcode)

    unless : Fields → Option Drop1 → Row
    unless p (Some cause) = plain_row (Does (drop_effects q cause))
    unless p None = packet_arrived p envelope shared q

    drops-first : (p : Fields) (o : Option Drop1) → IsArrivalRow q (unless p o)
    drops-first p (Some cause) = dropped cause
    drops-first p None = kinds p (is_response p.opcode)

    row : Result Fields WireError → Row
    row (Err error) = plain_row (Does (drop_effects q (drops.Wire error)))
    row (Ok p) = unless p (first_of (arrival_drops q p))

    by : (r : Result Fields WireError) → IsArrivalRow q (row r)
    by (Err error) = dropped (drops.Wire error)
    by (Ok p) = drops-first p (first_of (arrival_drops q p))

-- what a row does as it ends
pub ends-so : (E : Effects → Type 0) (s : Sight) (row : Row) (e : Effects) → RowDoes E row → ending_of s row ≡ Does e → E e
ends-so E s row e does is = subst (EndingDoes E) is (by (first_denied s row.asks))
  where
    ending : Option DeniedAsk → Ending
    ending (Some d) = row.denied d
    ending None = row.allowed (map (bytes_in s) row.asks) (option_and_then s.refusal row.invalidation)

    by : (o : Option DeniedAsk) → EndingDoes E (ending o)
    by (Some d) = does.denied d
    by None = does.allowed (map (bytes_in s) row.asks) (option_and_then s.refusal row.invalidation)

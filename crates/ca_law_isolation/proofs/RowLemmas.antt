-- What every row asks for, and the key that it ends, is of its queue pair's domain. For proofs only.
use Rattle.std.proofs.Common.{◌≡◌, ◌∙◌, ℕ, suc, ◌+◌, nat_le, nat_lt, Bool, true, false, List, [], ◌∷◌, length, map, Option, None, Some, IfSome, ◌&&◌, ◌==◌, is_none, not, slice_get, if◌then◌else◌, Result, Ok, Err, refl}
use Rattle.std.specs.List.{AllByRecursion}
use Rattle.std.specs.Option.{option_and_then, option_map}
use Rattle.ca_base.specs.Sight.{Invalidation}
use Rattle.ca_base.specs.declared.change.State.TheVariants as states
use Rattle.ca_base.specs.declared.completion.WcStatus.TheVariants.{BadResponse, RetryExceeded}
use Rattle.ca_base.specs.declared.request.PlacedReceive.{PlacedReceive}
use Rattle.ca_base.specs.declared.request.Piece.{Piece}
use Rattle.ca_base.specs.declared.queue_numbers.Queued.{Queued}
use Rattle.ca_base.specs.declared.queue_numbers.Queued.TheVariants as queued
use Rattle.ca_base.specs.declared.step.Reason.{Reason}
use Rattle.ca_base.specs.declared.step.Reason.TheVariants as reasons
use Rattle.ca_base.specs.objects.QueuePair.{QueuePair}
use Rattle.ca_base.specs.objects.SharedReceives.{SharedReceives}
use Rattle.ca_base.specs.objects.StateTable.{is_among}
use Rattle.ca_keys.specs.Refusals.{first_of}
use Rattle.ca_keys.specs.declared.access.Ask.{Ask}
use Rattle.ca_keys.specs.declared.access.Kind.{Kind}
use Rattle.ca_keys.specs.declared.access.Kind.TheVariants as kinds
use Rattle.ca_keys.specs.declared.names.DomainId.{DomainId}
use Rattle.ca_keys.specs.declared.names.QueueId.{QueueId}
use Rattle.ca_model.specs.Packets.{is_response}
use Rattle.ca_model.specs.Requests.{list_length}
use Rattle.ca_model.specs.declared.mark.Drop1.{Drop1}
use Rattle.ca_model.specs.declared.mark.Drop1.TheVariants as drops
use Rattle.ca_model.specs.declared.receiving.Receiving.{Receiving}
use Rattle.ca_model.specs.declared.write_reach.WriteReach.{WriteReach}
use Rattle.ca_model.specs.machine.Acknowledgements.{Acknowledgement, acknowledgement_below, and_then, failure_effects, first_unanswered, one_retry, progress_to, with_cursor, with_requester}
use Rattle.ca_model.specs.machine.Arrivals.{next_receive, packet_ask, refusal_effects, with_flag, with_receive_taken}
use Rattle.ca_model.specs.machine.Delivery.{arrival_drops, arrival_row, packet_arrived}
use Rattle.ca_model.specs.machine.Duplicates.{ahead_effects, duplicate_effects, request_row}
use Rattle.ca_model.specs.machine.Expected.{atomic_row, expected_row, invalidation_of, is_invalid, read_queued, send_row, takes_receive, valid_row, receiving_of, write_reach, write_row}
use Rattle.ca_model.specs.machine.Numbering.{Numbered, begun_requests, piece_ask, request_at}
use Rattle.ca_model.specs.machine.Requester.{is_too_much, packet_row}
use Rattle.ca_model.specs.declared.read_left.ReadLeft.{ReadLeft}
use Rattle.ca_model.specs.machine.Respond.{answer_turn, read_row, respond_refusals, respond_row, response_ask}
use Rattle.ca_model.specs.machine.Responses.{acknowledge_row, answer_row, drop_effects, fits_request, fitting_row, is_outstanding_at, outstanding_row, response_psn, response_row}
use Rattle.ca_model.specs.machine.Row.{Does, Effects, NotPossible, Row, plain_row, queue_and_marks}
use Rattle.ca_wire.specs.Decoding.{packet_in}
use Rattle.ca_wire.specs.Packet.{Fields}
use Rattle.ca_wire.specs.Table.{shape_of}
use Rattle.ca_wire.specs.declared.atomic_eth.AtomicEth.{AtomicEth}
use Rattle.ca_wire.specs.declared.opcode.TheConstants.{ACKNOWLEDGE}
use Rattle.ca_wire.specs.declared.reth.Reth.{Reth}
use Rattle.ca_wire.specs.declared.shape.Position.{Position}
use Rattle.ca_wire.specs.declared.shape.Shape.{Shape}
use Rattle.ca_wire.specs.declared.shape.Shape.TheVariants as shapes
use Rattle.ca_wire.specs.declared.wire_error.WireError.{WireError}
use Rattle.ca_psn.specs.Psn.{widened}
use Rattle.ca_wire.specs.Syndrome.{syndrome_in}
use Rattle.ca_wire.specs.declared.syndrome.NakCode.TheVariants.{InvalidRequest}

-- asks that are of this domain
abbrev pub AreAsksOf : DomainId → List Ask → Type 0
AreAsksOf d asks = AllByRecursion (λ ask. ask.domain ≡ d) asks

-- a row of which all asks, and the key that it ends, are of this domain
pub record IsRowOf (d : DomainId) (row : Row) : Type 0 where
  pub asks : AreAsksOf d row.asks
  pub ended : IfSome row.invalidation (λ i. i.domain ≡ d)

plain : (d : DomainId) (e : Effects) → IsRowOf d (plain_row (Does e))
plain d e = record { asks = record {}; ended = record {} }

chosen-of : (d : DomainId) (b : Bool) (x y : Row) → IsRowOf d x → IsRowOf d y → IsRowOf d (if b then x else y)
chosen-of d true x y one other = one
chosen-of d false x y one other = other

pieces-of : (d : DomainId) (queue : QueueId) (domain : DomainId) (kind : Kind) (ps : List Piece) → domain ≡ d → AreAsksOf d (map (piece_ask queue domain kind) ps)
pieces-of d queue domain kind [] is = record {}
pieces-of d queue domain kind (p ∷ ps) is = (is, pieces-of d queue domain kind ps is)

-- ---- responses

retry-domain : (psn : ℕ) (q : QueuePair) → (one_retry psn q).queue.domain ≡ q.domain
retry-domain psn q = by (nat_le q.requester.retry q.requester.retries)
  where
    counted : QueuePair
    counted = with_requester (record q.requester { retries = suc q.requester.retries }) q

    by : (b : Bool) → (if b then failure_effects RetryExceeded None counted else queue_and_marks (with_cursor psn counted) []).queue.domain ≡ q.domain
    by true = refl
    by false = refl

progress-domain : (psn : ℕ) (q : QueuePair) → (progress_to psn q).queue.domain ≡ q.domain
progress-domain psn q = by (nat_lt q.requester.una psn)
  where
    by : (b : Bool) → (if b then with_requester (record q.requester { una = psn; retries = 0; rnrs = 0 }) q else q).domain ≡ q.domain
    by true = refl
    by false = refl

acknowledged-domain : (psn : ℕ) (q : QueuePair) → (acknowledgement_below psn q).effects.queue.domain ≡ q.domain
acknowledged-domain psn q = by (first_unanswered q.requester.una psn (begun_requests q))
  where
    after : Option ℕ → Acknowledgement
    after None = record { effects = progress_to psn q; went_back = false }
    after (Some back) = record { effects = and_then (progress_to back q) (one_retry back); went_back = true }

    by : (o : Option ℕ) → (after o).effects.queue.domain ≡ q.domain
    by None = progress-domain psn q
    by (Some back) = retry-domain back (progress_to back q).queue ∙ progress-domain back q

fitting-of : (d : DomainId) (psn : ℕ) (p : Fields) (a : Acknowledgement) → a.effects.queue.domain ≡ d → IsRowOf d (fitting_row psn p a)
fitting-of d psn p a is = back a.went_back
  where
    bad : Row
    bad = plain_row (Does (and_then a.effects (failure_effects BadResponse None)))

    at : Option Numbered → Row
    at None = bad
    at (Some n) = if fits_request psn p a.effects.queue n then answer_row psn p a.effects n else bad

    fits : (n : Numbered) (b : Bool) → IsRowOf d (if b then answer_row psn p a.effects n else bad)
    fits n true = record { asks = pieces-of d a.effects.queue.queue a.effects.queue.domain kinds.Write _ is; ended = record {} }
    fits n false = plain d _

    by : (o : Option Numbered) → IsRowOf d (at o)
    by None = plain d _
    by (Some n) = fits n (fits_request psn p a.effects.queue n)

    back : (b : Bool) → IsRowOf d (if b then plain_row (Does a.effects) else at (request_at psn a.effects.queue))
    back true = plain d _
    back false = by (request_at psn a.effects.queue)

response-of : (d : DomainId) (p : Fields) (q : QueuePair) → q.domain ≡ d → IsRowOf d (response_row p q)
response-of d p q is = by (is_among (states.Rts ∷ states.Sqd ∷ []) q.state)
  where
    kinds : (psn : ℕ) (b : Bool) → IsRowOf d
        (if b then plain_row (Does (acknowledge_row psn (option_and_then (λ a. syndrome_in a.syndrome) p.aeth) q)) else fitting_row psn p (acknowledgement_below psn q))
    kinds psn true = plain d _
    kinds psn false = fitting-of d psn p (acknowledgement_below psn q) (acknowledged-domain psn q ∙ is)

    there : (b : Bool) → IsRowOf d (if not b then plain_row (Does (drop_effects q drops.Stale)) else outstanding_row (response_psn q p) p q)
    there true = kinds (response_psn q p) (p.opcode == ACKNOWLEDGE)
    there false = plain d _

    by : (b : Bool) → IsRowOf d (if not b then plain_row (Does (drop_effects q drops.State))
        else if not (is_outstanding_at (response_psn q p) q) then plain_row (Does (drop_effects q drops.Stale)) else outstanding_row (response_psn q p) p q)
    by true = there (is_outstanding_at (response_psn q p) q)
    by false = plain d _

-- ---- requests

key-of : (d : DomainId) (q : QueuePair) (p : Fields) → q.domain ≡ d → IfSome (invalidation_of q p) (λ i. i.domain ≡ d)
key-of d q p is = by p.ieth
  where
    ends : ℕ → Invalidation
    ends key = record { queue = q.queue; domain = q.domain; key = record { 0 = key } }

    by : (o : Option ℕ) → IfSome (option_map ends o) (λ i. i.domain ≡ d)
    by None = record {}
    by (Some key) = is

send-of : (d : DomainId) (before : QueuePair) (p : Fields) (position : Position) (r : Receiving) → before.domain ≡ d → IsRowOf d (send_row before p position r)
send-of d before p position r is = chosen-of d (nat_lt (list_length r.receive.receive.list.items) (r.before + length p.payload)) _ _ (plain d _) (record {
  asks = pieces-of d q.queue q.domain kinds.Write _ own;
  ended = key-of d q p own;
})
  where
    q : QueuePair
    q = if r.taken then with_receive_taken before else before

    own : q.domain ≡ d
    own = by r.taken
      where
        by : (b : Bool) → (if b then with_receive_taken before else before).domain ≡ d
        by true = is
        by false = is

write-of : (d : DomainId) (q : QueuePair) (p : Fields) (envelope : Option ℕ) (position : Position) (next : Option PlacedReceive) (r : WriteReach) → q.domain ≡ d
    → IsRowOf d (write_row q p envelope position next r)
write-of d q p envelope position next r is = record { asks = by (r.left == 0); ended = record {} }
  where
    by : (b : Bool) → AreAsksOf d (if b then [] else packet_ask q r.key kinds.Write r.address r.left (length p.payload) ∷ [])
    by true = record {}
    by false = (is, record {})

valid-of : (d : DomainId) (q : QueuePair) (p : Fields) (envelope : Option ℕ) (next : Option PlacedReceive) (shape : Shape) → q.domain ≡ d
    → IsRowOf d (valid_row q p envelope next shape)
valid-of d q p envelope next (shapes.Send position) is = by (receiving_of q next q.responder.message)
  where
    row : Option Receiving → Row
    row (Some r) = send_row q p position r
    row None = plain_row (Does (refusal_effects InvalidRequest q))

    by : (o : Option Receiving) → IsRowOf d (row o)
    by (Some r) = send-of d q p position r is
    by None = plain d _
valid-of d q p envelope next (shapes.Write position) is = by (write_reach q p)
  where
    row : Option WriteReach → Row
    row (Some r) = write_row q p envelope position next r
    row None = plain_row (Does (refusal_effects InvalidRequest q))

    by : (o : Option WriteReach) → IsRowOf d (row o)
    by (Some r) = write-of d q p envelope position next r is
    by None = plain d _
valid-of d q p envelope next shapes.Read is = by p.reth
  where
    row : Option Reth → Row
    row (Some h) = plain_row (Does (read_queued q p envelope h))
    row None = plain_row (Does (refusal_effects InvalidRequest q))

    by : (o : Option Reth) → IsRowOf d (row o)
    by (Some h) = plain d _
    by None = plain d _
valid-of d q p envelope next (shapes.Atomic kind) is = by p.atomic
  where
    row : Option AtomicEth → Row
    row (Some a) = atomic_row q p envelope kind a
    row None = plain_row (Does (refusal_effects InvalidRequest q))

    by : (o : Option AtomicEth) → IsRowOf d (row o)
    by (Some a) = record { asks = (is, record {}); ended = record {} }
    by None = plain d _

expected-of : (d : DomainId) (before : QueuePair) (shared : Option SharedReceives) (p : Fields) (envelope : Option ℕ) (shape : Shape) → before.domain ≡ d
    → IsRowOf d (expected_row before shared p envelope shape)
expected-of d before shared p envelope shape is = chosen-of d (is_invalid q p shape) _ _ (plain d _)
    (chosen-of d (takes_receive p shape && is_none (next_receive q shared)) _ _ (plain d _) (valid-of d q p envelope (next_receive q shared) shape is))
  where
    q : QueuePair
    q = with_flag false before

request-of : (d : DomainId) (p : Fields) (envelope : Option ℕ) (shared : Option SharedReceives) (shape : Shape) (q : QueuePair) → q.domain ≡ d
    → IsRowOf d (request_row p envelope shared shape q)
request-of d p envelope shared shape q is = by (widened q.responder.expected p.psn)
  where
    by : (psn : ℕ) → IsRowOf d (
        if nat_lt q.responder.expected psn then plain_row (Does (ahead_effects q))
        else if nat_lt psn q.responder.expected then plain_row (Does (duplicate_effects psn p envelope shape q))
        else expected_row q shared p envelope shape)
    by psn = chosen-of d (nat_lt q.responder.expected psn) _ _ (plain d _)
        (chosen-of d (nat_lt psn q.responder.expected) _ _ (plain d _) (expected-of d q shared p envelope shape is))

pub arrival-of : (d : DomainId) (bytes : List ℕ) (envelope : Option ℕ) (shared : Option SharedReceives) (q : QueuePair) → q.domain ≡ d → IsRowOf d (arrival_row bytes envelope shared q)
arrival-of d bytes envelope shared q is = by (packet_in bytes)
  where
    shaped : Fields → Option Shape → Row
    shaped p (Some shape) = request_row p envelope shared shape q
    shaped p None = plain_row (Does (drop_effects q drops.State))

    requests : (p : Fields) (o : Option Shape) → IsRowOf d (shaped p o)
    requests p (Some shape) = request-of d p envelope shared shape q is
    requests p None = plain d _

    types : (p : Fields) (b : Bool) → IsRowOf d (if b then response_row p q else shaped p (shape_of p.opcode))
    types p true = response-of d p q is
    types p false = requests p (shape_of p.opcode)

    unless : Fields → Option Drop1 → Row
    unless p (Some cause) = plain_row (Does (drop_effects q cause))
    unless p None = packet_arrived p envelope shared q

    drops-first : (p : Fields) (o : Option Drop1) → IsRowOf d (unless p o)
    drops-first p (Some cause) = plain d _
    drops-first p None = types p (is_response p.opcode)

    row : Result Fields WireError → Row
    row (Err error) = plain_row (Does (drop_effects q (drops.Wire error)))
    row (Ok p) = unless p (first_of (arrival_drops q p))

    by : (r : Result Fields WireError) → IsRowOf d (row r)
    by (Err error) = plain d _
    by (Ok p) = drops-first p (first_of (arrival_drops q p))

-- ---- turns

read-of : (d : DomainId) (q : QueuePair) (r : ReadLeft) → q.domain ≡ d → IsRowOf d (read_row q r)
read-of d q r is = record { asks = by (r.left == 0); ended = record {} }
  where
    by : (b : Bool) → AreAsksOf d (if b then [] else response_ask q r ∷ [])
    by true = record {}
    by false = (is, record {})

answer-of : (d : DomainId) (q : QueuePair) (a : Queued) → q.domain ≡ d → IsRowOf d (answer_turn q a)
answer-of d q (queued.Ack psn) is = plain d _
answer-of d q (queued.Rnr psn) is = plain d _
answer-of d q (queued.Nak psn code) is = plain d _
answer-of d q (queued.Read psn key address left first envelope duplicate) is =
    read-of d q (record { psn = psn; key = key; address = address; left = left; first = first; envelope = envelope; duplicate = duplicate }) is
answer-of d q (queued.Atomic psn found duplicate) is = plain d _

pub respond-of : (d : DomainId) (room : Bool) (q : QueuePair) → q.domain ≡ d → IsRowOf d (respond_row room q)
respond-of d room q is = by (first_of (respond_refusals room q)) (slice_get q.responder.answers 0)
  where
    row : Option Reason → Option Queued → Row
    row (Some reason) answer = plain_row (NotPossible reason)
    row None None = plain_row (NotPossible reasons.Empty)
    row None (Some answer) = answer_turn q answer

    by : (o : Option Reason) (a : Option Queued) → IsRowOf d (row o a)
    by (Some reason) a = record { asks = record {}; ended = record {} }
    by None None = record { asks = record {}; ended = record {} }
    by None (Some a) = answer-of d q a is

pub packet-of : (d : DomainId) (q : QueuePair) (room : Bool) (n : Numbered) → q.domain ≡ d → IsRowOf d (packet_row q room n)
packet-of d q room n is = chosen-of d (is_too_much q n) _ _ (record { asks = record {}; ended = record {} })
    (record { asks = pieces-of d q.queue q.domain kinds.Read _ is; ended = record {} })

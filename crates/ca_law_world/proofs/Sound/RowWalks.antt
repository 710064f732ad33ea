-- Walks over rows: what holds of each case of a row holds of the row. Each law that goes over all rows cites them, and says
-- of the cases alone what it asks.
use Rattle.std.proofs.Common.{◌≡◌, ℕ, nat_lt, Bool, true, false, List, Option, None, Some, ◌&&◌, ◌==◌, not, is_none, if◌then◌else◌, refl, ap, Result, Ok, Err, ◌∷◌, []}
use Rattle.std.proofs.lemmas.Bool.{not-false}
use Rattle.std.specs.Option.{option_and_then, option_map}
use Rattle.ca_keys.specs.Refusals.{first_of}
use Rattle.ca_base.specs.declared.change.State.TheVariants as states
use Rattle.ca_base.specs.declared.completion.WcStatus.TheVariants.{BadResponse}
use Rattle.ca_keys.specs.declared.access.Kind.{Kind}
use Rattle.ca_base.specs.declared.queue_numbers.Message.{Message}
use Rattle.ca_base.specs.declared.queue_numbers.Message.TheVariants as messages
use Rattle.ca_base.specs.declared.request.PlacedReceive.{PlacedReceive}
use Rattle.ca_base.specs.declared.request.RecvRequest.{RecvRequest}
use Rattle.ca_base.specs.objects.QueuePair.{QueuePair, receive_in_use}
use Rattle.ca_base.specs.objects.SharedReceives.{SharedReceives}
use Rattle.ca_base.specs.objects.StateTable.{is_among}
use Rattle.ca_model.specs.ca_wire.declared.opcode.TheConstants.{ACKNOWLEDGE}
use Rattle.ca_model.specs.ca_wire.declared.atomic_eth.AtomicEth.{AtomicEth}
use Rattle.ca_model.specs.ca_wire.declared.reth.Reth.{Reth}
use Rattle.ca_model.specs.ca_wire.declared.shape.Position.{Position}
use Rattle.ca_model.specs.ca_wire.declared.shape.Shape.{Shape}
use Rattle.ca_model.specs.ca_wire.declared.shape.Shape.TheVariants as shapes
use Rattle.ca_model.specs.ca_wire.declared.wire_error.WireError.{WireError}
use Rattle.ca_model.specs.ca_wire.Decoding.{packet_in}
use Rattle.ca_model.specs.ca_wire.Packet.{Fields}
use Rattle.ca_model.specs.ca_wire.Table.{shape_of}
use Rattle.ca_model.specs.ca_psn.Psn.{widened}
use Rattle.ca_model.specs.ca_wire.Syndrome.{syndrome_in}
use Rattle.ca_model.specs.ca_wire.declared.syndrome.NakCode.TheVariants.{InvalidRequest}
use Rattle.ca_model.specs.declared.mark.Drop1.{Drop1}
use Rattle.ca_model.specs.declared.mark.Drop1.TheVariants as drops
use Rattle.ca_model.specs.declared.receiving.Receiving.{Receiving}
use Rattle.ca_model.specs.declared.write_reach.WriteReach.{WriteReach}
use Rattle.ca_model.specs.Packets.{is_response}
use Rattle.ca_model.specs.machine.Acknowledgements.{Acknowledgement, acknowledgement_below, and_then, failure_effects}
use Rattle.ca_model.specs.machine.Arrivals.{next_receive, refusal_effects, with_flag}
use Rattle.ca_model.specs.machine.Delivery.{arrival_drops, arrival_row, packet_arrived}
use Rattle.ca_model.specs.machine.Duplicates.{ahead_effects, duplicate_effects, request_row}
use Rattle.ca_model.specs.machine.Expected.{atomic_row, expected_row, is_invalid, read_queued, receiving_of, rnr_effects, send_row, takes_receive, valid_row, write_reach, write_row}
use Rattle.ca_model.specs.machine.Numbering.{Numbered, request_at}
use Rattle.ca_model.specs.machine.Responses.{acknowledge_row, answer_row, drop_effects, fits_request, fitting_row, is_outstanding_at, outstanding_row, response_psn, response_row}
use Rattle.ca_model.specs.machine.Row.{Does, Row, plain_row}

-- one of two, by a test
pub of-if : {A : Type 0} (P : A → Type 0) (x y : A) (b : Bool) → (b ≡ true → P x) → (b ≡ false → P y) → P (if b then x else y)
of-if P x y true one other = one refl
of-if P x y false one other = other refl

-- a response: it is dropped, or it is an acknowledgement, or an answer
pub walk-response : (R : Row → Type 0) (p : Fields) (q : QueuePair) → ((cause : Drop1) → R (plain_row (Does (drop_effects q cause))))
    → (is_among (states.Rts ∷ states.Sqd ∷ []) q.state ≡ true → is_outstanding_at (response_psn q p) q ≡ true
    → R (plain_row (Does (acknowledge_row (response_psn q p) (option_and_then (λ a. syndrome_in a.syndrome) p.aeth) q)))
    × R (fitting_row (response_psn q p) p (acknowledgement_below (response_psn q p) q))) → R (response_row p q)
walk-response R p q drop outstanding = of-if R (plain_row (Does (drop_effects q drops.State))) there (not (is_among (states.Rts ∷ states.Sqd ∷ []) q.state)) (λ is. drop drops.State)
    (λ sends. of-if R (plain_row (Does (drop_effects q drops.Stale))) (outstanding_row psn p q) (not (is_outstanding_at psn q)) (λ is. drop drops.Stale)
    (λ is. of-if R acknowledged (fitting_row psn p (acknowledgement_below psn q)) (p.opcode == ACKNOWLEDGE)
    (λ kind. (outstanding (not-false _ sends) (not-false _ is)).0) (λ kind. (outstanding (not-false _ sends) (not-false _ is)).1)))
  where
    psn : ℕ
    psn = response_psn q p

    acknowledged : Row
    acknowledged = plain_row (Does (acknowledge_row psn (option_and_then (λ a. syndrome_in a.syndrome) p.aeth) q))

    there : Row
    there = if not (is_outstanding_at psn q) then plain_row (Does (drop_effects q drops.Stale)) else outstanding_row psn p q

-- an answer, behind what it acknowledges: that went back, or it fits no request, or its bytes go to the list of one
pub walk-fitting : (R : Row → Type 0) (psn : ℕ) (p : Fields) (a : Acknowledgement) → (a.went_back ≡ true → R (plain_row (Does a.effects)))
    → R (plain_row (Does (and_then a.effects (failure_effects BadResponse None))))
    → ((n : Numbered) → a.went_back ≡ false → request_at psn a.effects.queue ≡ Some n → R (answer_row psn p a.effects n)) → R (fitting_row psn p a)
walk-fitting R psn p a back bad fits = of-if R (plain_row (Does a.effects)) (at (request_at psn a.effects.queue)) a.went_back back (λ on. by on (request_at psn a.effects.queue) refl)
  where
    none : Row
    none = plain_row (Does (and_then a.effects (failure_effects BadResponse None)))

    at : Option Numbered → Row
    at None = none
    at (Some n) = if fits_request psn p a.effects.queue n then answer_row psn p a.effects n else none

    by : a.went_back ≡ false → (o : Option Numbered) → request_at psn a.effects.queue ≡ o → R (at o)
    by on None is = bad
    by on (Some n) is = of-if R (answer_row psn p a.effects n) none (fits_request psn p a.effects.queue n) (λ e. fits n on is) (λ e. bad)

-- the packet with the expected PSN: it is refused, or it has no receive, or it is valid
pub walk-expected : (R : Row → Type 0) (before : QueuePair) (shared : Option SharedReceives) (p : Fields) (envelope : Option ℕ) (shape : Shape)
    → R (plain_row (Does (refusal_effects InvalidRequest (with_flag false before)))) → R (plain_row (Does (rnr_effects (with_flag false before))))
    → (is_invalid (with_flag false before) p shape ≡ false → R (valid_row (with_flag false before) p envelope (next_receive (with_flag false before) shared) shape))
    → R (expected_row before shared p envelope shape)
walk-expected R before shared p envelope shape refused none valid = of-if R (plain_row (Does (refusal_effects InvalidRequest q))) waits (is_invalid q p shape) (λ is. refused)
    (λ fine. of-if R (plain_row (Does (rnr_effects q))) (valid_row q p envelope (next_receive q shared) shape) (takes_receive p shape && is_none (next_receive q shared))
    (λ is. none) (λ is. valid fine))
  where
    q : QueuePair
    q = with_flag false before

    waits : Row
    waits = if takes_receive p shape && is_none (next_receive q shared) then plain_row (Does (rnr_effects q)) else valid_row q p envelope (next_receive q shared) shape

-- a request: it is ahead, or a duplicate, or the expected one
pub walk-request : (R : Row → Type 0) (p : Fields) (envelope : Option ℕ) (shared : Option SharedReceives) (shape : Shape) (q : QueuePair) → R (plain_row (Does (ahead_effects q)))
    → ((psn : ℕ) → nat_lt psn q.responder.expected ≡ true → R (plain_row (Does (duplicate_effects psn p envelope shape q)))) → R (expected_row q shared p envelope shape)
    → R (request_row p envelope shared shape q)
walk-request R p envelope shared shape q ahead before expected =
    of-if R (plain_row (Does (ahead_effects q))) behind (nat_lt q.responder.expected psn) (λ is. ahead)
    (λ is. of-if R (plain_row (Does (duplicate_effects psn p envelope shape q))) (expected_row q shared p envelope shape) (nat_lt psn q.responder.expected) (before psn) (λ is. expected))
  where
    psn : ℕ
    psn = widened q.responder.expected p.psn

    behind : Row
    behind = if nat_lt psn q.responder.expected then plain_row (Does (duplicate_effects psn p envelope shape q)) else expected_row q shared p envelope shape

-- bytes that arrive: they are dropped, or a response, or a request of a shape
pub walk-arrival : (R : Row → Type 0) (bytes : List ℕ) (envelope : Option ℕ) (shared : Option SharedReceives) (q : QueuePair)
    → ((cause : Drop1) → R (plain_row (Does (drop_effects q cause)))) → ((p : Fields) → first_of (arrival_drops q p) ≡ None → R (response_row p q))
    → ((p : Fields) (shape : Shape) → first_of (arrival_drops q p) ≡ None → R (request_row p envelope shared shape q)) → R (arrival_row bytes envelope shared q)
walk-arrival R bytes envelope shared q drop response request = by (packet_in bytes)
  where
    shaped : Fields → Option Shape → Row
    shaped p (Some shape) = request_row p envelope shared shape q
    shaped p None = plain_row (Does (drop_effects q drops.State))

    requests : (p : Fields) → first_of (arrival_drops q p) ≡ None → (o : Option Shape) → R (shaped p o)
    requests p none (Some shape) = request p shape none
    requests p none None = drop drops.State

    dropped : Fields → Option Drop1 → Row
    dropped p (Some cause) = plain_row (Does (drop_effects q cause))
    dropped p None = packet_arrived p envelope shared q

    unless : (p : Fields) (o : Option Drop1) → first_of (arrival_drops q p) ≡ o → R (dropped p o)
    unless p (Some cause) is = drop cause
    unless p None none = of-if R (response_row p q) (shaped p (shape_of p.opcode)) (is_response p.opcode) (λ is. response p none) (λ is. requests p none (shape_of p.opcode))

    row : Result Fields WireError → Row
    row (Err error) = plain_row (Does (drop_effects q (drops.Wire error)))
    row (Ok p) = dropped p (first_of (arrival_drops q p))

    by : (r : Result Fields WireError) → R (row r)
    by (Err error) = drop (drops.Wire error)
    by (Ok p) = unless p (first_of (arrival_drops q p)) refl

-- a valid packet: a SEND's first, a SEND's that goes on, a WRITE's, a READ or an atomic; one that lacks what its shape asks for
-- is refused
pub walk-valid : (R : Row → Type 0) (q : QueuePair) (p : Fields) (envelope : Option ℕ) (next : Option PlacedReceive) (shape : Shape) → R (plain_row (Does (refusal_effects InvalidRequest q)))
    → ((place : Position) (r : PlacedReceive) → next ≡ Some r → receive_in_use q.responder.message ≡ None → R (send_row q p place (record { receive = r; before = 0; taken = true })))
    → ((place : Position) (at : ℕ) (receive : RecvRequest) (bytes : ℕ) → q.responder.message ≡ Some (messages.Send at receive bytes)
    → R (send_row q p place (record { receive = record { place = at; receive = receive }; before = bytes; taken = false })))
    → ((place : Position) (r : WriteReach) → shape ≡ shapes.Write place → write_reach q p ≡ Some r → R (write_row q p envelope place next r))
    → ((h : Reth) → p.reth ≡ Some h → R (plain_row (Does (read_queued q p envelope h)))) → ((kind : Kind) (a : AtomicEth) → R (atomic_row q p envelope kind a))
    → R (valid_row q p envelope next shape)
walk-valid R q p envelope next (shapes.Send place) refused first more write read atomic = by q.responder.message refl
  where
    row : Option Receiving → Row
    row (Some r) = send_row q p place r
    row None = plain_row (Does (refusal_effects InvalidRequest q))

    start : (o : Option PlacedReceive) → next ≡ o → receive_in_use q.responder.message ≡ None → R (row (option_map (λ r. record { receive = r; before = 0; taken = true }) o))
    start None is unheld = refused
    start (Some r) is unheld = first place r is unheld

    by : (m : Option Message) → q.responder.message ≡ m → R (row (receiving_of q next m))
    by None is = start next refl (ap receive_in_use is)
    by (Some (messages.Write key address left count)) is = start next refl (ap receive_in_use is)
    by (Some (messages.Send at receive bytes)) is = more place at receive bytes is
walk-valid R q p envelope next (shapes.Write place) refused first more write read atomic = by (write_reach q p) refl
  where
    row : Option WriteReach → Row
    row (Some r) = write_row q p envelope place next r
    row None = plain_row (Does (refusal_effects InvalidRequest q))

    by : (o : Option WriteReach) → write_reach q p ≡ o → R (row o)
    by (Some r) is = write place r refl is
    by None is = refused
walk-valid R q p envelope next shapes.Read refused first more write read atomic = by p.reth refl
  where
    row : Option Reth → Row
    row (Some h) = plain_row (Does (read_queued q p envelope h))
    row None = plain_row (Does (refusal_effects InvalidRequest q))

    by : (o : Option Reth) → p.reth ≡ o → R (row o)
    by (Some h) is = read h is
    by None is = refused
walk-valid R q p envelope next (shapes.Atomic kind) refused first more write read atomic = by p.atomic
  where
    row : Option AtomicEth → Row
    row (Some a) = atomic_row q p envelope kind a
    row None = plain_row (Does (refusal_effects InvalidRequest q))

    by : (o : Option AtomicEth) → R (row o)
    by (Some a) = atomic kind a
    by None = refused

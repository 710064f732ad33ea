-- What the row of bytes that arrive makes of a queue pair in calm weather. For proofs only.
use Rattle.std.proofs.Common.{◌≡◌, ℕ, ◌<◌, ◌%◌, ◌^◌, ◌==◌, Bool, true, false, nat_lt, not, if◌then◌else◌, List, [], ◌∷◌, Option, None, Some, is_some, Result, Ok, Err, refl, ap, sym, subst, ◌∙◌, true≢false, lt-ltb}
use Rattle.std.proofs.lemmas.Option.{same_Some}
use Rattle.ca_base.specs.declared.queue_numbers.Queued.TheVariants as queued
use Rattle.ca_base.specs.objects.QueuePair.{QueuePair}
use Rattle.ca_base.specs.objects.SharedReceives.{SharedReceives}
use Rattle.ca_connection.specs.Layout.{Direction}
use Rattle.ca_connection.specs.Link.{RequestPacket, Response, number_of}
use Rattle.ca_connection.specs.Calm.{Passes}
use Rattle.ca_keys.specs.Refusals.{first_of}
use Rattle.ca_model.specs.Packets.{is_response}
use Rattle.ca_model.specs.declared.mark.Drop1.{Drop1}
use Rattle.ca_model.specs.declared.mark.Drop1.TheVariants as drops
use Rattle.ca_model.specs.machine.Arrivals.{with_answer, with_flag}
use Rattle.ca_model.specs.machine.Delivery.{arrival_drops, arrival_row, packet_arrived}
use Rattle.ca_model.specs.machine.Duplicates.{ahead_effects, duplicate_effects, request_row}
use Rattle.ca_model.specs.machine.Expected.{expected_row}
use Rattle.ca_model.specs.machine.Invariants.{IsQueue, is_connected, is_sending}
use Rattle.ca_model.specs.machine.Responses.{drop_effects, is_outstanding_at, outstanding_row, response_psn, response_row}
use Rattle.ca_model.specs.machine.Row.{Does, Effects, Row, plain_row, queue_and_marks}
use Rattle.ca_wire.specs.Decoding.{packet_in}
use Rattle.ca_wire.specs.Packet.{Fields}
use Rattle.ca_wire.specs.Table.{operation_of, request_shape, shape_of}
use Rattle.ca_wire.specs.declared.packet.TheConstants.{DEFAULT_PKEY}
use Rattle.ca_wire.specs.declared.shape.Operation.{Operation}
use Rattle.ca_wire.specs.declared.shape.Operation.TheVariants.{Request, ReadResponse, Acknowledge, AtomicAcknowledge}
use Rattle.ca_wire.specs.declared.shape.Shape.{Shape}
use Rattle.ca_wire.specs.declared.wire_error.WireError.{WireError}
use Rattle.ca_psn.specs.Psn.{widened}
use Rattle.ca_law_lossless.proofs.CalmRows.{response-calm}
use Rattle.ca_law_lossless.specs.Calmly.{TakesCalmly}
use Rattle.ca_law_lossless.proofs.StandLemmas.{request-stands}
use Rattle.ca_law_lossless.specs.Standing.{AdmitsStanding, SpellsPlainly}
use Rattle.ca_law_lossless.specs.CalmEvents.{AreCalm}
use Rattle.ca_law_once.proofs.Rows.ArrivalLemmas.{weaker}
use Rattle.ca_law_once.proofs.Rows.EntryLemmas.{answers}
use Rattle.ca_law_once.proofs.Rows.ForgetLemmas.{Forgets, drop-forgets, response-forgets}
use Rattle.ca_law_once.proofs.Rows.RequestRowLemmas.{plain}
use Rattle.ca_law_once.proofs.Rows.StayLemmas.{Stays, drop-stays, request-stays}
use Rattle.ca_law_once.proofs.Rows.StayLemmas.Stays.{still, ended}
use Rattle.ca_law_once.specs.Entries.{IsRequestOf, SpellsRequest, SpellsSomeRequest, SpellsSomeResponse}
use Rattle.ca_law_once.specs.Moves.{RowLeads}
use Rattle.ca_law_once.specs.Sides.{IsLaid, responder_in}
use Rattle.ca_wire.specs.Syndrome.{nak_code}
use Rattle.ca_wire.specs.declared.syndrome.NakCode.TheVariants.{PsnSequenceError}

-- Bytes are dropped, for one of these causes, or they are a packet that is taken; where the queue pair is connected, it
-- is no cause.
arrival-leads : (P : Effects → Type 0) (bytes : List ℕ) (envelope : Option ℕ) (shared : Option SharedReceives) (q : QueuePair) → ((error : WireError) → P (drop_effects q (drops.Wire error))) → P (drop_effects q drops.Partition)
    → P (drop_effects q drops.Queue) → (is_connected q.state ≡ false → P (drop_effects q drops.State))
    → ((p : Fields) → packet_in bytes ≡ Ok p → is_connected q.state ≡ true → RowLeads P (packet_arrived p envelope shared q)) → RowLeads P (arrival_row bytes envelope shared q)
arrival-leads P bytes envelope shared q wire partition queue state more = by (packet_in bytes) refl
  where
    unless : Fields → Option Drop1 → Row
    unless p (Some cause) = plain_row (Does (drop_effects q cause))
    unless p None = packet_arrived p envelope shared q

    row : Result Fields WireError → Row
    row (Err error) = plain_row (Does (drop_effects q (drops.Wire error)))
    row (Ok p) = unless p (first_of (arrival_drops q p))

    of_packet : (p : Fields) → packet_in bytes ≡ Ok p → (a b c : Bool) → is_connected q.state ≡ c → RowLeads P (unless p (first_of ((a, drops.Partition) ∷ (b, drops.Queue) ∷ (not c, drops.State) ∷ [])))
    of_packet p is true b c e = plain P (drop_effects q drops.Partition) partition
    of_packet p is false true c e = plain P (drop_effects q drops.Queue) queue
    of_packet p is false false false e = plain P (drop_effects q drops.State) (state e)
    of_packet p is false false true e = more p is e

    by : (r : Result Fields WireError) → packet_in bytes ≡ r → RowLeads P (row r)
    by (Err error) is = plain P (drop_effects q (drops.Wire error)) (wire error)
    by (Ok p) is = of_packet p is (not (p.pkey == DEFAULT_PKEY)) (not (p.queue == q.queue.number)) (is_connected q.state) refl

-- a packet that is a response meets the requester's row, and one with a shape the responder's
response-arrived : (P : Effects → Type 0) (p : Fields) (envelope : Option ℕ) (shared : Option SharedReceives) (q : QueuePair) → is_response p.opcode ≡ true → RowLeads P (response_row p q)
    → RowLeads P (packet_arrived p envelope shared q)
response-arrived P p envelope shared q is leads = subst (λ b. RowLeads P (if b then response_row p q else other (shape_of p.opcode))) (sym is) leads
  where
    other : Option Shape → Row
    other (Some shape) = request_row p envelope shared shape q
    other None = plain_row (Does (drop_effects q drops.State))

request-arrived : (P : Effects → Type 0) (p : Fields) (envelope : Option ℕ) (shared : Option SharedReceives) (q : QueuePair) → is_response p.opcode ≡ false → (shape_of p.opcode ≡ None → P (drop_effects q drops.State))
    → ((shape : Shape) → shape_of p.opcode ≡ Some shape → RowLeads P (request_row p envelope shared shape q)) → RowLeads P (packet_arrived p envelope shared q)
request-arrived P p envelope shared q is dropped leads = subst (λ b. RowLeads P (if b then response_row p q else other (shape_of p.opcode))) (sym is) (by (shape_of p.opcode) refl)
  where
    other : Option Shape → Row
    other (Some shape) = request_row p envelope shared shape q
    other None = plain_row (Does (drop_effects q drops.State))

    by : (o : Option Shape) → shape_of p.opcode ≡ o → RowLeads P (other o)
    by (Some shape) e = leads shape e
    by None e = plain P (drop_effects q drops.State) (dropped e)

-- what has a shape is no response
shape-is-no-response : (p : Fields) (shape : Shape) → shape_of p.opcode ≡ Some shape → is_response p.opcode ≡ false
shape-is-no-response p shape is = by (operation_of p.opcode) is
  where
    by : (o : Option Operation) → request_shape o ≡ Some shape → answers o ≡ false
    by (Some (Request s)) e = refl
    by (Some (ReadResponse place)) e = absurd (true≢false (sym (ap is_some e)))
    by (Some Acknowledge) e = absurd (true≢false (sym (ap is_some e)))
    by (Some AtomicAcknowledge) e = absurd (true≢false (sym (ap is_some e)))
    by None e = absurd (true≢false (sym (ap is_some e)))

-- ---- requests

-- a request of an entry meets the responder's row
entry-arrived : (P : Effects → Type 0) (d : Direction) (x : RequestPacket) (p : Fields) (envelope : Option ℕ) (shared : Option SharedReceives) (q : QueuePair) → (of : IsRequestOf d x p) → RowLeads P (request_row p envelope shared of.shape q)
    → RowLeads P (packet_arrived p envelope shared q)
entry-arrived P d x p envelope shared q of leads = request-arrived P p envelope shared q (shape-is-no-response p of.shape of.is) (λ none. absurd (true≢false (sym (ap is_some (sym none ∙ of.is)))))
    (λ shape e. subst (λ z. RowLeads P (request_row p envelope shared z q)) (same_Some of.shape shape (sym of.is ∙ e)) leads)

-- what is expected is admitted
pub arrival-stands : (d : Direction) (x : RequestPacket) (bytes : List ℕ) (envelope : Option ℕ) (shared : Option SharedReceives) (q : QueuePair) → SpellsRequest d x bytes → is_connected q.state ≡ true → q.responder.mtu ≡ d.mtu
    → widened q.responder.expected (x.number % 2 ^ 24) ≡ q.responder.expected
    → RowLeads (λ e. AreCalm e.marks → AdmitsStanding d x q.responder.expected (responder_in q) e) (arrival_row bytes envelope shared q)
arrival-stands d x bytes envelope shared q spells connected mtu expected = arrival-leads P bytes envelope shared q (λ error calm. absurd calm.0) (λ calm. absurd calm.0) (λ calm. absurd calm.0)
    (λ none. absurd (true≢false (sym connected ∙ none)))
    (λ p is there. let of = spells p is in entry-arrived P d x p envelope shared q of
    (weaker (AdmitsStanding d x q.responder.expected (responder_in q)) P (request_row p envelope shared of.shape q) (λ e does calm. does)
    (request-stands d x p envelope shared of.shape q connected mtu of.entry (ap (widened q.responder.expected) of.entry.psn ∙ expected))))
  where
    P : Effects → Type 0
    P e = AreCalm e.marks → AdmitsStanding d x q.responder.expected (responder_in q) e

-- a queue pair that is not connected takes nothing
pub arrival-closed : (bytes : List ℕ) (envelope : Option ℕ) (shared : Option SharedReceives) (q : QueuePair) → is_connected q.state ≡ false → RowLeads (λ e. e.queue ≡ q) (arrival_row bytes envelope shared q)
arrival-closed bytes envelope shared q closed = arrival-leads (λ e. e.queue ≡ q) bytes envelope shared q (λ error. refl) refl refl (λ none. refl) (λ p is there. absurd (true≢false (sym there ∙ closed)))

-- after a NAK nothing is taken that lies ahead
pub arrival-waits : (d : Direction) (x : RequestPacket) (bytes : List ℕ) (envelope : Option ℕ) (shared : Option SharedReceives) (q : QueuePair) → SpellsRequest d x bytes → q.responder.nak_sent ≡ true
    → q.responder.expected < widened q.responder.expected (x.number % 2 ^ 24) → RowLeads (λ e. e.queue ≡ q) (arrival_row bytes envelope shared q)
arrival-waits d x bytes envelope shared q spells flag ahead = arrival-leads P bytes envelope shared q (λ error. refl) refl refl (λ none. refl)
    (λ p is there. let of = spells p is in entry-arrived P d x p envelope shared q of (row p of))
  where
    P : Effects → Type 0
    P e = e.queue ≡ q

    asked : QueuePair
    asked = with_flag true (with_answer (queued.Nak q.responder.expected (nak_code PsnSequenceError)) q)

    stale : P (ahead_effects q)
    stale = ap (λ b. (if b then drop_effects q drops.Stale else queue_and_marks asked []).queue) flag

    row : (p : Fields) (of : IsRequestOf d x p) → RowLeads P (request_row p envelope shared of.shape q)
    row p of = subst (λ w. RowLeads P (if nat_lt n w then plain_row (Does (ahead_effects q)) else if nat_lt w n then plain_row (Does (duplicate_effects w p envelope of.shape q)) else expected_row q shared p envelope of.shape))
        (ap (widened q.responder.expected) (sym of.entry.psn))
        (subst (λ b. RowLeads P (if b then plain_row (Does (ahead_effects q)) else if nat_lt v n then plain_row (Does (duplicate_effects v p envelope of.shape q)) else expected_row q shared p envelope of.shape)) (sym (lt-ltb n v ahead))
        (plain P (ahead_effects q) stale))
      where
        n : ℕ
        n = q.responder.expected

        v : ℕ
        v = widened q.responder.expected (x.number % 2 ^ 24)

-- ---- packets of the other direction

pub arrival-forgets : (bytes : List ℕ) (envelope : Option ℕ) (shared : Option SharedReceives) (q : QueuePair) → SpellsSomeResponse bytes → RowLeads (λ e. Forgets q e.queue) (arrival_row bytes envelope shared q)
arrival-forgets bytes envelope shared q spells = arrival-leads (λ e. Forgets q e.queue) bytes envelope shared q (λ error. (drop-forgets q (drops.Wire error)).allowed [] None) ((drop-forgets q drops.Partition).allowed [] None)
    ((drop-forgets q drops.Queue).allowed [] None) (λ none. (drop-forgets q drops.State).allowed [] None)
    (λ p is there. response-arrived (λ e. Forgets q e.queue) p envelope shared q (spells p is) (response-forgets p q))

pub arrival-stays : (bytes : List ℕ) (envelope : Option ℕ) (shared : Option SharedReceives) (q : QueuePair) → SpellsSomeRequest bytes → RowLeads (λ e. Stays q e.queue) (arrival_row bytes envelope shared q)
arrival-stays bytes envelope shared q spells = arrival-leads (λ e. Stays q e.queue) bytes envelope shared q (λ error. drop-stays q (drops.Wire error)) (drop-stays q drops.Partition) (drop-stays q drops.Queue) (λ none. drop-stays q drops.State)
    (λ p is there. request-arrived (λ e. Stays q e.queue) p envelope shared q (spells p is) (λ none. drop-stays q drops.State) (λ shape e. request-stays p envelope shared shape q))

-- ---- responses

-- a response that passes nothing is taken calmly
pub arrival-takes : (d : Direction) (a : Response) (bytes : List ℕ) (envelope : Option ℕ) (shared : Option SharedReceives) (q : QueuePair) → IsQueue q → is_sending q.state ≡ true → is_connected q.state ≡ true → IsLaid d q → SpellsPlainly a bytes
    → widened q.requester.una (number_of a % 2 ^ 24) ≡ number_of a → number_of a < q.requester.cursor → Passes d q.requester.una a
    → RowLeads (λ e. AreCalm e.marks → TakesCalmly a q.requester.una q.requester.cursor e) (arrival_row bytes envelope shared q)
arrival-takes d a bytes envelope shared q s sending connected laid spells exact below passes = arrival-leads P bytes envelope shared q (λ error calm. absurd calm.0) (λ calm. absurd calm.0) (λ calm. absurd calm.0)
    (λ none. absurd (true≢false (sym connected ∙ none)))
    (λ p is there. let spelt = spells p is in response-arrived P p envelope shared q spelt.0
    (weaker (TakesCalmly a q.requester.una q.requester.cursor) P (response_row p q) (λ e does calm. does)
    (response-calm d a p q s (λ e. laid) spelt.2 (ap (widened q.requester.una) spelt.1.psn ∙ exact) below passes)))
  where
    P : Effects → Type 0
    P e = AreCalm e.marks → TakesCalmly a q.requester.una q.requester.cursor e

-- a requester that does not send keeps its numbers, whatever arrives
pub arrival-silent : (bytes : List ℕ) (envelope : Option ℕ) (shared : Option SharedReceives) (q : QueuePair) → is_sending q.state ≡ false → RowLeads (λ e. Stays q e.queue) (arrival_row bytes envelope shared q)
arrival-silent bytes envelope shared q silent = arrival-leads P bytes envelope shared q (λ error. drop-stays q (drops.Wire error)) (drop-stays q drops.Partition) (drop-stays q drops.Queue) (λ none. drop-stays q drops.State)
    (λ p is there. by p (is_response p.opcode) refl)
  where
    P : Effects → Type 0
    P e = Stays q e.queue

    response : (p : Fields) → RowLeads P (response_row p q)
    response p = subst (λ b. RowLeads P (if not b then plain_row (Does (drop_effects q drops.State))
        else if not (is_outstanding_at (response_psn q p) q) then plain_row (Does (drop_effects q drops.Stale)) else outstanding_row (response_psn q p) p q)) (sym silent) (plain P (drop_effects q drops.State) (drop-stays q drops.State))

    by : (p : Fields) (b : Bool) → is_response p.opcode ≡ b → RowLeads P (packet_arrived p envelope shared q)
    by p true is = response-arrived P p envelope shared q is (response p)
    by p false is = request-arrived P p envelope shared q is (λ none. drop-stays q drops.State) (λ shape e. request-stays p envelope shared shape q)

-- the cursor stays where the requester does
pub stays-cursor : (q p : QueuePair) → Stays q p → p.requester.cursor ≡ q.requester.cursor
stays-cursor q p (still requester sends state mtu) = ap (λ r. r.cursor) requester
stays-cursor q p (ended una cursor error mtu) = cursor

-- Bytes that arrive: of this direction, or of the other one.
use Rattle.std.proofs.Common.{◌≡◌, inl, ℕ, ◌%◌, ◌^◌, Bool, true, false, if◌then◌else◌, List, [], Option, None, Some, Result, Ok, Err, refl, ap, sym, subst, ◌∙◌, true≢false, is_some}
use Rattle.std.proofs.lemmas.Option.{same_Some}
use Rattle.ca_keys.specs.Refusals.{first_of}
use Rattle.ca_base.specs.objects.QueuePair.{QueuePair}
use Rattle.ca_base.specs.objects.SharedReceives.{SharedReceives}
use Rattle.ca_connection.specs.Layout.{Direction}
use Rattle.ca_connection.specs.Link.{RequestPacket, Response, number_of}
use Rattle.ca_connection.specs.Moves.Takes.{drop as response_drop}
use Rattle.ca_model.specs.Packets.{is_response}
use Rattle.ca_model.specs.declared.mark.Drop1.{Drop1}
use Rattle.ca_model.specs.declared.mark.Drop1.TheVariants as drops
use Rattle.ca_model.specs.machine.Delivery.{arrival_drops, arrival_row, packet_arrived}
use Rattle.ca_model.specs.machine.Duplicates.{request_row}
use Rattle.ca_model.specs.machine.Invariants.{IsQueue, is_sending}
use Rattle.ca_model.specs.machine.Responses.{drop_effects, response_row}
use Rattle.ca_model.specs.machine.Row.{Does, Effects, Ending, NotPossible, Row, plain_row}
use Rattle.ca_wire.specs.Decoding.{packet_in}
use Rattle.ca_wire.specs.Packet.{Fields}
use Rattle.ca_wire.specs.Table.{operation_of, request_shape, shape_of}
use Rattle.ca_wire.specs.declared.shape.Operation.{Operation}
use Rattle.ca_wire.specs.declared.shape.Operation.TheVariants.{Request, ReadResponse, Acknowledge, AtomicAcknowledge}
use Rattle.ca_wire.specs.declared.shape.Shape.{Shape}
use Rattle.ca_wire.specs.declared.wire_error.WireError.{WireError}
use Rattle.ca_psn.specs.Psn.{widened}
use Rattle.ca_law_once.proofs.Rows.EntryLemmas.{answers}
use Rattle.ca_law_once.proofs.Rows.ForgetLemmas.{Forgets, drop-forgets, forgets-in, forgets-state, response-forgets}
use Rattle.ca_law_once.proofs.Rows.RequestRowLemmas.{drop-does, plain, request-row}
use Rattle.ca_law_once.proofs.Rows.ResponseRowLemmas.{response-row}
use Rattle.ca_law_once.proofs.Rows.StayLemmas.{Stays, drop-stays, request-stays, stays-in, stays-state}
use Rattle.ca_law_once.specs.Entries.{IsRequestOf, ResponseEntry, SpellsRequest, SpellsResponse, SpellsSomeRequest, SpellsSomeResponse}
use Rattle.ca_law_once.specs.Moves.{EndingLeads, ForgetsIn, LeavesState, ReceivesIn, RowLeads, StaysIn, TakesIn}
use Rattle.ca_law_once.specs.Sides.{IsLaid, requester_in, responder_in}

-- bytes are dropped, or they are a packet
arrival-leads : (P : Effects → Type 0) (bytes : List ℕ) (envelope : Option ℕ) (shared : Option SharedReceives) (q : QueuePair) → ((cause : Drop1) → P (drop_effects q cause))
    → ((p : Fields) → packet_in bytes ≡ Ok p → RowLeads P (packet_arrived p envelope shared q)) → RowLeads P (arrival_row bytes envelope shared q)
arrival-leads P bytes envelope shared q dropped more = by (packet_in bytes) refl
  where
    unless : Fields → Option Drop1 → Row
    unless p (Some cause) = plain_row (Does (drop_effects q cause))
    unless p None = packet_arrived p envelope shared q

    row : Result Fields WireError → Row
    row (Err error) = plain_row (Does (drop_effects q (drops.Wire error)))
    row (Ok p) = unless p (first_of (arrival_drops q p))

    of_packet : (p : Fields) → packet_in bytes ≡ Ok p → (o : Option Drop1) → RowLeads P (unless p o)
    of_packet p is (Some cause) = plain P (drop_effects q cause) (dropped cause)
    of_packet p is None = more p is

    by : (r : Result Fields WireError) → packet_in bytes ≡ r → RowLeads P (row r)
    by (Err error) is = plain P (drop_effects q (drops.Wire error)) (dropped (drops.Wire error))
    by (Ok p) is = of_packet p is (first_of (arrival_drops q p))

-- a packet that is a response meets the requester's row, and one with a shape the responder's
response-arrived : (P : Effects → Type 0) (p : Fields) (envelope : Option ℕ) (shared : Option SharedReceives) (q : QueuePair) → is_response p.opcode ≡ true → RowLeads P (response_row p q)
    → RowLeads P (packet_arrived p envelope shared q)
response-arrived P p envelope shared q is leads = subst (λ b. RowLeads P (if b then response_row p q else other (shape_of p.opcode))) (sym is) leads
  where
    other : Option Shape → Row
    other (Some shape) = request_row p envelope shared shape q
    other None = plain_row (Does (drop_effects q drops.State))

request-arrived : (P : Effects → Type 0) (p : Fields) (envelope : Option ℕ) (shared : Option SharedReceives) (q : QueuePair) → is_response p.opcode ≡ false → P (drop_effects q drops.State)
    → ((shape : Shape) → shape_of p.opcode ≡ Some shape → RowLeads P (request_row p envelope shared shape q)) → RowLeads P (packet_arrived p envelope shared q)
request-arrived P p envelope shared q is dropped leads = subst (λ b. RowLeads P (if b then response_row p q else other (shape_of p.opcode))) (sym is) (by (shape_of p.opcode) refl)
  where
    other : Option Shape → Row
    other (Some shape) = request_row p envelope shared shape q
    other None = plain_row (Does (drop_effects q drops.State))

    by : (o : Option Shape) → shape_of p.opcode ≡ o → RowLeads P (other o)
    by (Some shape) e = leads shape e
    by None e = plain P (drop_effects q drops.State) dropped

-- what has a shape is no response
shape-is-no-response : (p : Fields) (shape : Shape) → shape_of p.opcode ≡ Some shape → is_response p.opcode ≡ false
shape-is-no-response p shape is = by (operation_of p.opcode) is
  where
    by : (o : Option Operation) → request_shape o ≡ Some shape → answers o ≡ false
    by (Some (Request s)) e = refl
    by (Some (ReadResponse place)) e = absurd (true≢false (sym (ap is_some e)))
    by (Some Acknowledge) e = absurd (true≢false (sym (ap is_some e)))
    by (Some AtomicAcknowledge) e = absurd (true≢false (sym (ap is_some e)))
    by None e = absurd (true≢false (sym (ap is_some e)))

pub request-received : (d : Direction) (x : RequestPacket) (bytes : List ℕ) (envelope : Option ℕ) (shared : Option SharedReceives) (q : QueuePair) → q.responder.mtu ≡ d.mtu → SpellsRequest d x bytes
    → RowLeads (ReceivesIn d x (widened q.responder.expected (x.number % 2 ^ 24)) (responder_in q)) (arrival_row bytes envelope shared q)
request-received d x bytes envelope shared q mtu spells = arrival-leads P bytes envelope shared q (λ cause. drop-does d x w q cause mtu) (λ p is. of_packet p (spells p is))
  where
    w : ℕ
    w = widened q.responder.expected (x.number % 2 ^ 24)

    P : Effects → Type 0
    P e = ReceivesIn d x w (responder_in q) e

    of_packet : (p : Fields) → IsRequestOf d x p → RowLeads P (packet_arrived p envelope shared q)
    of_packet p is = request-arrived P p envelope shared q (shape-is-no-response p is.shape is.is) (drop-does d x w q drops.State mtu)
        (λ shape e. subst (λ n. RowLeads (ReceivesIn d x (widened q.responder.expected n) (responder_in q)) (request_row p envelope shared shape q)) is.entry.psn
        (subst (λ s. RowLeads (ReceivesIn d x (widened q.responder.expected p.psn) (responder_in q)) (request_row p envelope shared s q)) (same_Some is.shape shape (sym is.is ∙ e))
        (request-row d x p envelope shared is.shape q mtu is.entry)))

pub response-taken : (d : Direction) (a : Response) (bytes : List ℕ) (envelope : Option ℕ) (shared : Option SharedReceives) (q : QueuePair) → IsQueue q → (is_sending q.state ≡ true → IsLaid d q) → SpellsResponse a bytes
    → RowLeads (TakesIn d a (widened q.requester.una (number_of a % 2 ^ 24)) (requester_in q)) (arrival_row bytes envelope shared q)
response-taken d a bytes envelope shared q s laid spells = arrival-leads P bytes envelope shared q (λ cause. record { completion = None; takes = response_drop; laid = laid }) (λ p is. of_packet p (spells p is))
  where
    P : Effects → Type 0
    P e = TakesIn d a (widened q.requester.una (number_of a % 2 ^ 24)) (requester_in q) e

    of_packet : (p : Fields) → (is_response p.opcode ≡ true) × ResponseEntry a p → RowLeads P (packet_arrived p envelope shared q)
    of_packet p is = response-arrived P p envelope shared q is.0
        (subst (λ n. RowLeads (TakesIn d a (widened q.requester.una n) (requester_in q)) (response_row p q)) is.1.psn (response-row d a p q s laid is.1))

pub weaker : (P Q : Effects → Type 0) (row : Row) → ((e : Effects) → P e → Q e) → RowLeads P row → RowLeads Q row
weaker P Q row follows leads = record { denied = λ d. by (row.denied d) (leads.denied d); allowed = λ bytes refusal. by (row.allowed bytes refusal) (leads.allowed bytes refusal) }
  where
    by : (e : Ending) → EndingLeads P e → EndingLeads Q e
    by (NotPossible reason) leads = record {}
    by (Does e) leads = follows e leads

pub other-response-forgets : (d : Direction) (bytes : List ℕ) (envelope : Option ℕ) (shared : Option SharedReceives) (q : QueuePair) → q.responder.mtu ≡ d.mtu → SpellsSomeResponse bytes
    → RowLeads (ForgetsIn d (responder_in q)) (arrival_row bytes envelope shared q)
other-response-forgets d bytes envelope shared q mtu spells = weaker (λ e. Forgets q e.queue) (ForgetsIn d (responder_in q)) (arrival_row bytes envelope shared q) (λ e does. forgets-in d q e mtu does)
    (arrival-leads (λ e. Forgets q e.queue) bytes envelope shared q (λ cause. (drop-forgets q cause).allowed [] None)
    (λ p is. response-arrived (λ e. Forgets q e.queue) p envelope shared q (spells p is) (response-forgets p q)))

pub other-request-stays : (d : Direction) (bytes : List ℕ) (envelope : Option ℕ) (shared : Option SharedReceives) (q : QueuePair) → (is_sending q.state ≡ true → IsLaid d q) → SpellsSomeRequest bytes
    → RowLeads (StaysIn d (requester_in q)) (arrival_row bytes envelope shared q)
other-request-stays d bytes envelope shared q laid spells = weaker (λ e. Stays q e.queue) (StaysIn d (requester_in q)) (arrival_row bytes envelope shared q) (λ e does. stays-in d q e laid does)
    (arrival-leads (λ e. Stays q e.queue) bytes envelope shared q (λ cause. drop-stays q cause)
    (λ p is. request-arrived (λ e. Stays q e.queue) p envelope shared q (spells p is) (drop-stays q drops.State) (λ shape e. request-stays p envelope shared shape q)))

-- whatever arrives, the queue pair stays in its state or moves to Error
pub arrival-state : (bytes : List ℕ) (envelope : Option ℕ) (shared : Option SharedReceives) (q : QueuePair) → RowLeads (LeavesState q) (arrival_row bytes envelope shared q)
arrival-state bytes envelope shared q = arrival-leads (LeavesState q) bytes envelope shared q (λ cause. (inl refl, refl)) (λ p is. by p (is_response p.opcode) refl)
  where
    by : (p : Fields) (b : Bool) → is_response p.opcode ≡ b → RowLeads (LeavesState q) (packet_arrived p envelope shared q)
    by p true is = response-arrived (LeavesState q) p envelope shared q is
        (weaker (λ e. Forgets q e.queue) (LeavesState q) (response_row p q) (λ e does. forgets-state q e does) (response-forgets p q))
    by p false is = request-arrived (LeavesState q) p envelope shared q is (inl refl, refl)
        (λ shape e. weaker (λ e. Stays q e.queue) (LeavesState q) (request_row p envelope shared shape q) (λ e does. stays-state q e does) (request-stays p envelope shared shape q))

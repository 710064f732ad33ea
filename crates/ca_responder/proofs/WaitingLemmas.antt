-- The row of a packet by the receive that it takes, and of one that takes none.
use Rattle.std.proofs.Common.{◌≡◌, ℕ, ◌==◌, Bool, true, false, true≢false, if◌then◌else◌, ◌&&◌, is_none, refl, sym, ap, arith, ◌∙◌, [], ◌∷◌, length, Option, None, Some, is_some}
use Rattle.ca_keys.specs.declared.access.Ask.{Ask}
use Rattle.ca_keys.specs.declared.access.Kind.TheVariants as kinds
use Rattle.ca_base.specs.declared.queue_numbers.Message.{Message}
use Rattle.ca_base.specs.declared.queue_numbers.Message.TheVariants as messages
use Rattle.ca_keys.specs.declared.verdict.Verdict.TheVariants as verdicts
use Rattle.ca_base.specs.objects.QueuePair.{QueuePair}
use Rattle.ca_base.specs.declared.request.PlacedReceive.{PlacedReceive}
use Rattle.ca_base.specs.objects.SharedReceives.{SharedReceives}
use Rattle.ca_wire.specs.Packet.{Fields}
use Rattle.ca_wire.specs.Shapes.{begins, ends}
use Rattle.ca_wire.specs.declared.shape.Position.{Position}
use Rattle.ca_wire.specs.declared.syndrome.NakCode.TheVariants.{InvalidRequest}
use Rattle.ca_model.specs.machine.Arrivals.{next_receive, packet_ask, refusal_effects, remote_mark, with_flag}
use Rattle.ca_model.specs.declared.receiving.Receiving.{Receiving}
use Rattle.ca_model.specs.declared.write_reach.WriteReach.{WriteReach}
use Rattle.ca_model.specs.machine.Expected.{after_write_packet, behind_marks, continues, expected_row, is_invalid, receiving_of, send_row, takes_receive, valid_row, write_reach, write_row}
use Rattle.ca_model.specs.machine.Row.{Effects, Row, plain_row, Does}
use Rattle.ca_responder_operations.specs.Receives.{receive_if}
use Rattle.std.proofs.lemmas.Bool.{le-ltb}
use Rattle.ca_psn.specs.Psn.{widened}
use Rattle.ca_model.specs.Packets.{is_response}
use Rattle.ca_model.specs.machine.Delivery.{packet_arrived}
use Rattle.ca_wire.specs.Table.{shape_of}
use Rattle.ca_responder.proofs.ValidLemmas.{valid_order}
use Rattle.ca_wire.specs.declared.shape.Shape.{Shape}
use Rattle.ca_wire.specs.declared.shape.Shape.TheVariants as shapes

-- a SEND that goes on has the receive of its message
goes-on : (q : QueuePair) (next : Option PlacedReceive) (place : Position) (m : Option Message) → continues m (shapes.Send place) ≡ true → begins place ≡ false
    → receiving_of q next m ≡ receiving_of q None m
goes-on q next place None on not_first = absurd (true≢false (sym on ∙ not_first))
goes-on q next place (Some (messages.Write key address left count)) on not_first = absurd (true≢false (sym on))
goes-on q next place (Some (messages.Send at receive count)) on not_first = refl

send-without : (q : QueuePair) (p : Fields) (envelope : Option ℕ) (next : Option PlacedReceive) (place : Position)
    → receiving_of q next q.responder.message ≡ receiving_of q None q.responder.message
    → valid_row q p envelope next (shapes.Send place) ≡ valid_row q p envelope None (shapes.Send place)
send-without q p envelope next place same = ap (λ (r : Option Receiving). row r) same
  where
    row : Option Receiving → Row
    row (Some r) = send_row q p place r
    row None = plain_row (Does (refusal_effects InvalidRequest q))

-- a WRITE without immediate data completes no receive
plain-write : (q : QueuePair) (p : Fields) (place : Position) (r : WriteReach) (next : Option PlacedReceive) → p.imm ≡ None
    → after_write_packet q p place r next ≡ after_write_packet q p place r None
plain-write q p place r next none = by (ends place) refl
  where
    by : (b : Bool) → ends place ≡ b → after_write_packet q p place r next ≡ after_write_packet q p place r None
    by true e = rw (e, none) refl
    by false e = rw e refl

write-by : (q : QueuePair) (p : Fields) (envelope : Option ℕ) (place : Position) (next : Option PlacedReceive) (r : WriteReach) → p.imm ≡ None
    → write_row q p envelope place next r ≡ write_row q p envelope place None r
write-by q p envelope place next r none = ap (λ (e : Effects). row e) (plain-write q p place r next none)
  where
    ask : Ask
    ask = packet_ask q r.key kinds.Write r.address r.left (length p.payload)

    row : Effects → Row
    row e = record (write_row q p envelope place None r) {
      allowed = λ bytes refusal. Does (record (behind_marks (remote_mark ask envelope (verdicts.Wrote p.payload) ∷ []) e) {
        writes = if r.left == 0 then [] else (ask, p.payload) ∷ [];
      });
    }

write-without : (q : QueuePair) (p : Fields) (envelope : Option ℕ) (next : Option PlacedReceive) (place : Position) → p.imm ≡ None
    → valid_row q p envelope next (shapes.Write place) ≡ valid_row q p envelope None (shapes.Write place)
write-without q p envelope next place none = by (write_reach q p)
  where
    row : Option PlacedReceive → Option WriteReach → Row
    row next (Some r) = write_row q p envelope place next r
    row next None = plain_row (Does (refusal_effects InvalidRequest q))

    by : (o : Option WriteReach) → row next o ≡ row None o
    by (Some r) = write-by q p envelope place next r none
    by None = refl

not-some : {A : Type 0} (o : Option A) → is_some o ≡ false → o ≡ None
not-some None e = refl
not-some (Some a) e = absurd (true≢false e)

-- a packet that takes no receive does the same whatever receive waits
valid-without : (q : QueuePair) (p : Fields) (envelope : Option ℕ) (next : Option PlacedReceive) (shape : Shape)
    → continues q.responder.message shape ≡ true → takes_receive p shape ≡ false → valid_row q p envelope next shape ≡ valid_row q p envelope None shape
valid-without q p envelope next (shapes.Send place) on takes = send-without q p envelope next place (goes-on q next place q.responder.message on takes)
valid-without q p envelope next (shapes.Write place) on takes = write-without q p envelope next place (not-some p.imm takes)
valid-without q p envelope next shapes.Read on takes = refl
valid-without q p envelope next (shapes.Atomic kind) on takes = refl

row-without : (q : QueuePair) (shared : Option SharedReceives) (p : Fields) (envelope : Option ℕ) (shape : Shape)
    → is_invalid q p shape ≡ false → takes_receive p shape ≡ false → valid_row (with_flag false q) p envelope None shape ≡ expected_row q shared p envelope shape
row-without q shared p envelope shape valid takes =
    sym (valid-without (with_flag false q) p envelope (next_receive q shared) shape (valid_order q p shape valid) takes)
    ∙ rw (valid, takes) refl

-- a packet's row by the receive that it takes, if it takes one
row_by : (q : QueuePair) (shared : Option SharedReceives) (p : Fields) (envelope : Option ℕ) (shape : Shape) (next : Option PlacedReceive)
    → is_invalid q p shape ≡ false → (takes_receive p shape && is_none (next_receive q shared)) ≡ false → next ≡ receive_if (takes_receive p shape) (next_receive q shared)
    → valid_row (with_flag false q) p envelope next shape ≡ expected_row q shared p envelope shape
row_by q shared p envelope shape next valid waits is =
    ap (λ (n : Option PlacedReceive). valid_row (with_flag false q) p envelope n shape) is ∙ by (takes_receive p shape) refl
  where
    by : (b : Bool) → takes_receive p shape ≡ b
        → valid_row (with_flag false q) p envelope (receive_if b (next_receive q shared)) shape ≡ expected_row q shared p envelope shape
    by true e = rw (valid, waits) refl
    by false e = row-without q shared p envelope shape valid e

-- a packet lacks its receive exactly where none was found for it
pub lacks_by : (t : Bool) (waiting next : Option PlacedReceive) → next ≡ receive_if t waiting → (t && is_none waiting) ≡ (t && is_none next)
lacks_by true waiting next e = ap (λ (o : Option PlacedReceive). is_none o) (sym e)
lacks_by false waiting next e = refl

-- the row of a request with the expected PSN
arrived-row : (q : QueuePair) (shared : Option SharedReceives) (p : Fields) (envelope : Option ℕ) (shape : Shape)
    → is_response p.opcode ≡ false → shape_of p.opcode ≡ Some shape → widened q.responder.expected p.psn ≡ q.responder.expected
    → expected_row q shared p envelope shape ≡ packet_arrived p envelope shared q
arrived-row q shared p envelope shape request is same =
    rw (request, is, same, le-ltb q.responder.expected q.responder.expected (omega arith)) refl

-- the row of a request that is valid, with the expected PSN, by the receive that it takes
pub arrived_by : (q : QueuePair) (shared : Option SharedReceives) (p : Fields) (envelope : Option ℕ) (shape : Shape) (next : Option PlacedReceive)
    → is_response p.opcode ≡ false → shape_of p.opcode ≡ Some shape → widened q.responder.expected p.psn ≡ q.responder.expected
    → is_invalid q p shape ≡ false → (takes_receive p shape && is_none (next_receive q shared)) ≡ false → next ≡ receive_if (takes_receive p shape) (next_receive q shared)
    → valid_row (with_flag false q) p envelope next shape ≡ packet_arrived p envelope shared q
arrived_by q shared p envelope shape next request is same valid waits found =
    row_by q shared p envelope shape next valid waits found ∙ arrived-row q shared p envelope shape request is same

-- The two halves of the end of an expected packet, its acknowledgement and the numbers, and what asks for each. Contracts
-- cite it.
use Rattle.std.specs.Prelude.{ℕ, suc, ◌+◌, ◌%◌, ◌^◌, ◌<◌, Bool, false, if◌then◌else◌}
use Rattle.ca_base.specs.objects.Answers.{with_ack_at_end}
use Rattle.ca_base.specs.objects.QueuePair.{QueuePair}
use Rattle.ca_model.specs.machine.Arrivals.{with_receive_taken, with_responder}
use Rattle.ca_wire.specs.Packet.{Fields}

-- an ACK at the expected PSN, where the packet asks for one
abbrev pub with_ack_if_asked : Bool → QueuePair → QueuePair
with_ack_if_asked ack q = with_responder (record q.responder {
  answers = if ack then with_ack_at_end q.responder.expected q.responder.answers else q.responder.answers;
}) q

-- the flag is cleared, the expected PSN goes past so many, and at a message's end the MSN rises
abbrev pub past_packet : ℕ → Bool → QueuePair → QueuePair
past_packet count at_end q = with_responder (record q.responder {
  nak_sent = false;
  expected = q.responder.expected + count;
  msn = if at_end then suc q.responder.msn % 2 ^ 24 else q.responder.msn;
}) q

-- the expected PSN can go past a packet, and the MSN can rise
pub record CanPass (q : QueuePair) : Type 0 where
  pub expected : q.responder.expected < 2 ^ 62
  pub msn : q.responder.msn < 2 ^ 24

-- the packet as if it asked for no acknowledgement
abbrev pub without_ack_request : Fields → Fields
without_ack_request p = record p { ack = false }

-- the queue pair without the next receive of its own, where a SEND takes it
abbrev pub without_taken_receive : Bool → QueuePair → QueuePair
without_taken_receive taken q = if taken then with_receive_taken q else q

-- How much is still to be done of what was posted, queued and sent: a number that each event lowers where the
-- weather is calm. Laws cite it.
use Rattle.std.specs.Prelude.{ℕ, suc, ◌+◌, ◌-◌, ◌*◌, ◌<◌, ◌≤◌, min, max, if◌then◌else◌, List, sum_by, Option, None, Some, Result, Ok, Err}
use Rattle.std.specs.Option.{option_map_or}
use Rattle.ca_base.specs.declared.queue_numbers.Queued.{Queued}
use Rattle.ca_base.specs.declared.queue_numbers.Queued.TheVariants as queued
use Rattle.ca_base.specs.declared.step.Sent.{Sent}
use Rattle.ca_base.specs.declared.step.Sent.TheVariants.{Silent, Spelt}
use Rattle.ca_base.specs.objects.QueuePair.{QueuePair}
use Rattle.ca_model.specs.Packets.{is_response}
use Rattle.ca_model.specs.Requests.{is_local, segments}
use Rattle.ca_model.specs.machine.Numbering.{Numbered, is_read, psn_end, unfinished_requests}
use Rattle.ca_model.specs.machine.Row.{Effects}
use Rattle.ca_wire.specs.Decoding.{packet_in}
use Rattle.ca_wire.specs.Packet.{Fields}
use Rattle.ca_wire.specs.Table.{shape_of}
use Rattle.ca_wire.specs.declared.shape.Shape.{Shape}
use Rattle.ca_wire.specs.declared.shape.Shape.TheVariants as shapes
use Rattle.ca_wire.specs.declared.wire_error.WireError.{WireError}

-- how many PSNs of a request lie from the cursor on
abbrev pub psns_left : ℕ → Numbered → ℕ
psns_left cursor n = psn_end n - max cursor n.first

-- An unfinished request: four for each packet that is left to send, since it is sent, arrives, is answered, and its
-- answer arrives; of a READ two for each response, and two for its request packet; and one for a local operation
-- that has not begun.
abbrev pub request_weight : ℕ → ℕ → Numbered → ℕ
request_weight cursor next n =
    if is_local n.request.op then min 1 (suc n.place - next)
    else if is_read n.request.op then 2 * psns_left cursor n + 2 * min 1 (psns_left cursor n)
    else 4 * psns_left cursor n

abbrev pub requests_weight : QueuePair → ℕ
requests_weight q = sum_by (request_weight q.requester.cursor q.requester.next) (unfinished_requests q)

-- a queued answer: two for each response that it stands for, which is sent and arrives
abbrev pub answer_weight : ℕ → Queued → ℕ
answer_weight mtu (queued.Ack psn) = 2
answer_weight mtu (queued.Rnr psn) = 2
answer_weight mtu (queued.Nak psn code) = 2
answer_weight mtu (queued.Read psn key address left first envelope duplicate) = 2 * segments mtu left
answer_weight mtu (queued.Atomic psn found duplicate) = 2

abbrev pub answers_weight : ℕ → List Queued → ℕ
answers_weight mtu answers = sum_by (answer_weight mtu) answers

-- what a queue pair has still to send, and what comes of it
abbrev pub queue_weight : QueuePair → ℕ
queue_weight q = requests_weight q + answers_weight q.responder.mtu q.responder.answers

-- what a request of a shape asks to be answered: two for each response
abbrev pub asked_weight : ℕ → Fields → Shape → ℕ
asked_weight mtu p (shapes.Send position) = 2
asked_weight mtu p (shapes.Write position) = 2
asked_weight mtu p shapes.Read = option_map_or (λ h. 2 * segments mtu h.length) p.reth 2
asked_weight mtu p (shapes.Atomic kind) = 2

abbrev pub request_packet_weight : ℕ → Fields → Option Shape → ℕ
request_packet_weight mtu p None = 1
request_packet_weight mtu p (Some shape) = suc (asked_weight mtu p shape)

-- a packet under way: one for its arrival, and of a request what it asks for
abbrev pub fields_weight : ℕ → Fields → ℕ
fields_weight mtu p = if is_response p.opcode then 1 else request_packet_weight mtu p (shape_of p.opcode)

abbrev pub decoded_weight : ℕ → Result Fields WireError → ℕ
decoded_weight mtu (Err error) = 1
decoded_weight mtu (Ok p) = fields_weight mtu p

-- bytes under way to a queue pair with this path MTU
abbrev pub packet_weight : ℕ → List ℕ → ℕ
packet_weight mtu bytes = decoded_weight mtu (packet_in bytes)

-- what effects send
abbrev pub sent_weight : ℕ → Sent → List ℕ → ℕ
sent_weight mtu Silent bytes = 0
sent_weight mtu (Spelt request) bytes = packet_weight mtu bytes

-- A row lowers the weight of a queue pair and of what arrives there, together with what it sends, unless it lowers
-- the cursor.
abbrev pub Lowers : QueuePair → ℕ → Effects → Type 0
Lowers q arrived e = q.requester.cursor ≤ e.queue.requester.cursor
    → queue_weight e.queue + sent_weight q.responder.mtu e.sent e.spelt < queue_weight q + arrived

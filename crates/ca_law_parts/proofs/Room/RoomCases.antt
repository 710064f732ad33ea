-- Examples of room: a completion queue that is reserved to its last place by two users of a shared receive queue, and fills.
-- They compute. For proofs only.
use Rattle.std.proofs.Common.{◌≡◌, ℕ, true, false, List, [], ◌∷◌, length, Option, None, Some, refl}
use Rattle.std.specs.Option.{option_map_or}
use Rattle.ca_base.specs.declared.change.Change.TheVariants as changes
use Rattle.ca_keys.specs.Memory.{zeros}
use Rattle.ca_base.specs.objects.CompletionQueue.{room_reserved}
use Rattle.ca_wire.specs.declared.requests.SendKind.TheVariants.{Plain}
use Rattle.ca_wire.specs.Builders.{send_packet}
use Rattle.ca_wire.specs.Decoding.{packet_in, bth_at, number_at, payload_at, payload_behind, body_in}
use Rattle.ca_wire.specs.Packet.{be_bytes, packet_bytes, spelling}
use Rattle.ca_wire.specs.Table.{row_of}
use Rattle.ca_model.specs.declared.answer.Answer.{Answer}
use Rattle.ca_model.specs.declared.answer.Answer.TheVariants as answers
use Rattle.ca_model.specs.declared.answer.Refusal.TheVariants as refusals
use Rattle.ca_model.specs.declared.event.Event.TheVariants as events
use Rattle.ca_model.specs.declared.verb.Verb.{Verb}
use Rattle.ca_model.specs.declared.verb.Verb.TheVariants as verbs
use Rattle.ca_model.specs.machine.Places.{places_of_side}
use Rattle.ca_model.specs.machine.Plan.{Outcome, NotReady, Did}
use Rattle.ca_model.specs.machine.Step.{step}
use Rattle.ca_model.specs.machine.World.{World, opening_world}
use Rattle.ca_keys.specs.declared.names.DomainId.{DomainId}
use Rattle.ca_keys.specs.declared.names.QueueId.{QueueId}
use Rattle.ca_keys.specs.declared.names.Slot.{Slot}
use Rattle.ca_base.specs.Configuration.{Adapter, Configuration}
use Rattle.ca_base.specs.declared.request.RecvRequest.{RecvRequest}
use Rattle.ca_base.specs.declared.request.SendOp.TheVariants as ops
use Rattle.ca_base.specs.declared.request.SendRequest.{SendRequest}
use Rattle.ca_model.specs.declared.answer.Refusal.{Refusal}
use Rattle.ca_model.specs.declared.mark.Mark.{Mark}
use Rattle.ca_model.specs.declared.mark.Mark.TheVariants as marks
use Rattle.ca_law_parts.specs.Room.{taken_in, waits_in}

-- two adapters with a buffer of a page each, and two domains of four slots of each kind
abbrev one : Adapter
one = record { buffers = 4096 ∷ []; domains = 2; regions = 4; windows = 4; cqs = 4; srqs = 4; qps = 4 }

abbrev pair : Configuration
pair = record { adapters = one ∷ one ∷ []; events = 100 }

abbrev d : ℕ → ℕ → DomainId
d adapter domain = record { adapter = adapter; domain = domain }

abbrev s : ℕ → ℕ → ℕ → Slot
s adapter domain slot = record { domain = d adapter domain; slot = slot }

abbrev q : ℕ → ℕ → QueueId
q adapter number = record { adapter = adapter; number = number }

-- a receive and a signalled SEND of no bytes
abbrev empty : ℕ → RecvRequest
empty id = record { id = id; list = record { items = [] } }

abbrev send : SendRequest
send = record { id = 7; signalled = true; fence = false; solicited = false; op = ops.Send (record { items = [] }) }

abbrev refused : Refusal → Answer
refused refusal = answers.Refused refusal

abbrev answer_in : List Mark → Option Answer
answer_in (marks.Verb by verb answer ∷ ms) = Some answer
answer_in ms = None

-- the world that is left, and the answer
abbrev left : World → Outcome → World
left w (NotReady reason) = w
left w (Did v ms) = v

abbrev after : World → List Verb → World
after w [] = w
after w (v ∷ vs) = after (left w (step pair w (events.Verb 0 v))) vs

abbrev answer_of : Outcome → Option Answer
answer_of (NotReady reason) = None
answer_of (Did v ms) = answer_in ms

abbrev answer : World → Verb → Option Answer
answer w v = answer_of (step pair w (events.Verb 0 v))

-- the queue pairs of a domain that use the completion queue 0 and the shared receive queue 0, with one send each
abbrev user : ℕ → Verb
user slot = verbs.CreateQp (s 0 0 slot) 0 0 1 0 (Some 0)

-- a completion queue of so much, and a shared receive queue of two places
abbrev set : ℕ → World
set capacity = after (opening_world zeros) (verbs.AllocPd (d 0 0) ∷ verbs.CreateCq (s 0 0 0) capacity ∷ verbs.CreateSrq (s 0 0 0) 2 ∷ user 0 ∷ [])

-- the first user reserves three places: for its send, and for the two shared receives
three : answer (set 2) (user 0) ≡ Some (refused refusals.CqTooSmall)
three = refl

-- the second reserves one more, since the shared receives count once
four : answer (set 4) (user 1) ≡ Some (answers.Queue 257 1)
four = refl

not_four : answer (set 3) (user 1) ≡ Some (refused refusals.CqTooSmall)
not_four = refl

-- no third user finds room
full_reserved : answer (after (set 4) (user 1 ∷ [])) (user 2) ≡ Some (refused refusals.CqTooSmall)
full_reserved = refl

abbrev reserved : World → ℕ
reserved w = option_map_or (λ v. room_reserved v.reservations) (w.cq (s 0 0 0)) 0

reserved_four : reserved (after (set 4) (user 1 ∷ [])) ≡ 4
reserved_four = refl

-- a SEND without bytes arrives
abbrev arrive : ℕ → Verb
arrive number = verbs.Inject (q 0 number) (spelling (send_packet Plain (record { index = 0; count = 1 }) false number 0 []))

-- two receives are posted, and each user takes one
abbrev received : World
received = after (set 4) (user 1 ∷ verbs.PostSrq (s 0 0 0) (empty 1) ∷ verbs.PostSrq (s 0 0 0) (empty 2)
    ∷ verbs.ModifyQp (s 0 0 0) changes.Init ∷ verbs.ModifyQp (s 0 0 0) (changes.Rtr (q 1 256) 1 0 256 0)
    ∷ verbs.ModifyQp (s 0 0 1) changes.Init ∷ verbs.ModifyQp (s 0 0 1) (changes.Rtr (q 1 256) 1 0 256 0)
    ∷ arrive 256 ∷ arrive 257 ∷ [])

-- each holds the place that it took
places_taken : places_of_side (q 0 256) true (waits_in received.cq (s 0 0 0)) ≡ 0 ∷ []
unfolding row_of be_bytes packet_bytes number_at bth_at payload_at payload_behind body_in packet_in
places_taken = refl

places_of_other : places_of_side (q 0 257) true (waits_in received.cq (s 0 0 0)) ≡ 1 ∷ []
unfolding row_of be_bytes packet_bytes number_at bth_at payload_at payload_behind body_in packet_in
places_of_other = refl

taken : taken_in (received.srq (s 0 0 0)) ≡ 0 ∷ 1 ∷ []
unfolding row_of be_bytes packet_bytes number_at bth_at payload_at payload_behind body_in packet_in
taken = refl

-- both are full of receives: no more is posted, though none is left to take
no_receive_more : answer received (verbs.PostSrq (s 0 0 0) (empty 3)) ≡ Some (refused refusals.QueueFull)
unfolding row_of be_bytes packet_bytes number_at bth_at payload_at payload_behind body_in packet_in
no_receive_more = refl

-- in Error each user posts a send, which completes at once
abbrev full : World
full = after received (verbs.ModifyQp (s 0 0 0) changes.Error ∷ verbs.ModifyQp (s 0 0 1) changes.Error
    ∷ verbs.PostSend (s 0 0 0) send ∷ verbs.PostSend (s 0 0 1) send ∷ [])

-- the completion queue is full to its last place
all_wait : length (waits_in full.cq (s 0 0 0)) ≡ 4
unfolding row_of be_bytes packet_bytes number_at bth_at payload_at payload_behind body_in packet_in
all_wait = refl

-- and no request more is posted
no_send_more : answer full (verbs.PostSend (s 0 0 0) send) ≡ Some (refused refusals.QueueFull)
unfolding row_of be_bytes packet_bytes number_at bth_at payload_at payload_behind body_in packet_in
no_send_more = refl

-- a poll of the first frees a place of the shared receive queue
abbrev polled : World
polled = after full (verbs.Poll (s 0 0 0) 1 1 ∷ [])

freed : taken_in (polled.srq (s 0 0 0)) ≡ 1 ∷ []
unfolding row_of be_bytes packet_bytes number_at bth_at payload_at payload_behind body_in packet_in
freed = refl

posted_again : answer polled (verbs.PostSrq (s 0 0 0) (empty 3)) ≡ Some (answers.Posted None)
unfolding row_of be_bytes packet_bytes number_at bth_at payload_at payload_behind body_in packet_in
posted_again = refl

-- the destruction of a user gives its reservations back, and takes away what waits of it
abbrev destroyed : World
destroyed = after full (verbs.DestroyQp (s 0 0 0) ∷ [])

reserved_by_one : reserved destroyed ≡ 3
unfolding row_of be_bytes packet_bytes number_at bth_at payload_at payload_behind body_in packet_in
reserved_by_one = refl

waits_of_one : length (waits_in destroyed.cq (s 0 0 0)) ≡ 2
unfolding row_of be_bytes packet_bytes number_at bth_at payload_at payload_behind body_in packet_in
waits_of_one = refl

-- The table of parts: which parts each event needs in the furnished world. For proofs only.
use Rattle.std.proofs.Common.{◌≡◌, ℕ, List, [], ◌∷◌, false, true, None, Some, refl}
use Rattle.ca_base.specs.declared.change.Change.TheVariants as changes
use Rattle.ca_base.specs.declared.completion.WcOp.TheVariants as operations
use Rattle.ca_base.specs.declared.completion.WcStatus.TheVariants.{Success}
use Rattle.ca_base.specs.declared.lot.Lot.TheVariants as lots
use Rattle.ca_base.specs.declared.reserve.Reserve.TheVariants as shared
use Rattle.ca_base.specs.declared.request.SendOp.TheVariants as ops
use Rattle.ca_base.specs.objects.QueuePair.{QueuePair}
use Rattle.ca_model.specs.declared.event.Event.TheVariants as events
use Rattle.ca_model.specs.declared.part_name.PartName.{PartName}
use Rattle.ca_model.specs.declared.part_name.PartName.TheVariants as names
use Rattle.ca_model.specs.declared.verb.Verb.{Verb}
use Rattle.ca_model.specs.declared.verb.Verb.TheVariants as verbs
use Rattle.ca_wire.specs.Decoding.{bth_at, packet_in}
use Rattle.ca_model.specs.machine.Parts.{Needs, event_needs, event_parts, gathered, is_held, next_part}
use Rattle.ca_model.specs.machine.Plan.{◌:=◌, put_all}
use Rattle.ca_model.specs.machine.World.{Cq_of, Window_of, World}
use Rattle.ca_model.proofs.Literals.{completion, d, k, list, piece, q, s}
use Rattle.ca_model.proofs.Machine.Furnished.{all_rights, furnished, pair, ready, receive_of, send_of, signalled, with_posted, with_queue}

-- the parts of a verb in the furnished world
abbrev of_verb : Verb → List PartName
of_verb verb = event_parts pair furnished (events.Verb 0 verb)

-- the domain 0 of adapter 0, its queue pair 256 and what stands around it
abbrev control : PartName
control = names.Control (d 0 0)

abbrev queue : PartName
queue = names.Queue (q 0 256)

abbrev own_mailbox : PartName
own_mailbox = names.Mailbox (q 0 256)

abbrev peer : PartName
peer = names.Mailbox (q 1 256)

abbrev cq : ℕ → PartName
cq slot = names.Cq (s 0 0 slot)

abbrev region : ℕ → PartName
region slot = names.Region (s 0 0 slot)

abbrev window : ℕ → PartName
window slot = names.Window (s 0 0 slot)

abbrev buffer : PartName
buffer = names.Buffer 0 0

-- a domain alone; an object with its domain
domain : of_verb (verbs.AllocPd (d 0 0)) ≡ control ∷ []
domain = refl

registration : of_verb (verbs.RegMr (s 0 0 3) 0 0 8 all_rights) ≡ control ∷ region 3 ∷ []
registration = refl

queue_pair : of_verb (verbs.CreateQp (s 0 0 3) 0 1 2 0 (Some 1))
    ≡ control ∷ names.Queue (q 0 259) ∷ names.Mailbox (q 0 259) ∷ cq 0 ∷ cq 1 ∷ names.Srq (s 0 0 1) ∷ []
queue_pair = refl

-- a queue pair whose queues are not configured needs none of them, and so it is with a shared receive queue
far_queue : of_verb (verbs.CreateQp (s 0 0 3) 0 4 2 2 None) ≡ control ∷ names.Queue (q 0 259) ∷ names.Mailbox (q 0 259) ∷ []
far_queue = refl

far_shared : of_verb (verbs.CreateQp (s 0 0 3) 0 1 2 0 (Some 4)) ≡ control ∷ names.Queue (q 0 259) ∷ names.Mailbox (q 0 259) ∷ []
far_shared = refl

-- A verb that names something that is not configured needs nothing: another domain, or a slot whose number would be that of
-- a queue pair of the next domain.
far_domain : of_verb (verbs.ModifyQp (s 0 9 0) changes.Init) ≡ []
far_domain = refl

next_domain : of_verb (verbs.QueryQp (s 0 1 0)) ≡ names.Queue (q 0 512) ∷ []
next_domain = refl

far_slot : of_verb (verbs.QueryQp (s 0 0 256)) ≡ []
far_slot = refl

far_buffer : of_verb (verbs.Load 0 1 0 1) ≡ []
far_buffer = refl

far_window : of_verb (verbs.PostSend (s 0 0 0) (signalled (ops.Bind1 4 (k 1) 0 8 all_rights))) ≡ []
far_window = refl

far_turn : event_parts pair furnished (events.Request (q 0 260) lots.Pass) ≡ []
far_turn = refl

far_delivery : event_parts pair furnished (events.Deliver (q 0 260) 0) ≡ []
far_delivery = refl

-- a queue pair that is there with its mailbox and its queues, and a slot alone where none is
change : of_verb (verbs.ModifyQp (s 0 0 1) changes.Sqd) ≡ names.Queue (q 0 257) ∷ names.Mailbox (q 0 257) ∷ cq 0 ∷ cq 0 ∷ names.Srq (s 0 0 0) ∷ []
change = refl

no_change : of_verb (verbs.ModifyQp (s 0 0 3) changes.Sqd) ≡ names.Queue (q 0 259) ∷ []
no_change = refl

query : of_verb (verbs.QueryQp (s 0 0 0)) ≡ queue ∷ []
query = refl

destruction : of_verb (verbs.DestroyQp (s 0 0 0)) ≡ control ∷ queue ∷ own_mailbox ∷ cq 0 ∷ cq 0 ∷ []
destruction = refl

-- a bind of a type 1 window draws as it is posted, and another request does not
bind_posted : of_verb (verbs.PostSend (s 0 0 0) (signalled (ops.Bind1 0 (k 1) 0 8 all_rights))) ≡ queue ∷ cq 0 ∷ window 0 ∷ []
bind_posted = refl

send_posted : of_verb (verbs.PostSend (s 0 0 0) (signalled (send_of 8))) ≡ queue ∷ cq 0 ∷ []
send_posted = refl

receives_posted : of_verb (verbs.PostSrq (s 0 0 1) (receive_of 8)) ≡ names.Srq (s 0 0 1) ∷ []
receives_posted = refl

-- a window that is bound in the region 1 by the queue pair 258
abbrev bound : World
bound = put_all ((Window_of (s 0 0 1) := record {
  slot = s 0 0 1;
  kind = 2;
  low = 3;
  drawn = 0;
  binding = Some (record { region = 1; queue = Some (q 0 258); address = 0x100000000; length = 8; rights = all_rights });
}) ∷ []) furnished

deallocation : event_parts pair bound (events.Verb 0 (verbs.DeallocMw (s 0 0 1))) ≡ control ∷ window 1 ∷ region 1 ∷ names.Queue (q 0 258) ∷ []
deallocation = refl

-- a poll of at most one of two completions: a receive of a shared receive queue frees a place there, a send one of its queue pair
abbrev completed : World
completed = put_all ((Cq_of (s 0 0 0) := Some (record {
  capacity = 16;
  reservations = record { who = shared.Shared 0 (q 0 257); room = 2 } ∷ [];
  waiting = completion (q 0 257) true 0 9 operations.Recv Success 8 None None ∷ completion (q 0 256) false 0 7 operations.Send Success 0 None None ∷ [];
})) ∷ []) furnished

poll_one : event_parts pair completed (events.Verb 0 (verbs.Poll (s 0 0 0) 1 0)) ≡ cq 0 ∷ names.Srq (s 0 0 0) ∷ []
poll_one = refl

poll_both : event_parts pair completed (events.Verb 0 (verbs.Poll (s 0 0 0) 16 0)) ≡ cq 0 ∷ names.Srq (s 0 0 0) ∷ queue ∷ []
poll_both = refl

host : of_verb (verbs.Store 1 0 0 (1 ∷ [])) ≡ names.Buffer 1 0 ∷ []
host = refl

-- the turns of a queue pair: one that sends a packet, one that binds, one that has nothing to do
abbrev turn : QueuePair → List PartName
turn p = event_parts pair (with_queue p) (events.Request (q 0 256) lots.Pass)

sends : turn (with_posted (signalled (send_of 8)) ready) ≡ queue ∷ cq 0 ∷ cq 0 ∷ peer ∷ region 0 ∷ buffer ∷ []
sends = refl

binds : turn (with_posted (signalled (ops.Bind2 1 (k 1) 2 0x100000000 8 all_rights)) ready)
    ≡ queue ∷ cq 0 ∷ cq 0 ∷ window 1 ∷ region 0 ∷ []
binds = refl

-- a window's key in place of a region's names no part: as the region of a bind, and as an L_Key
strange_bind : turn (with_posted (signalled (ops.Bind2 1 (k 0x800001) 2 0x100000000 8 all_rights)) ready) ≡ queue ∷ cq 0 ∷ cq 0 ∷ window 1 ∷ []
strange_bind = refl

strange_list : turn (with_posted (signalled (ops.Send (list (piece 0x800001 0x100000000 8 ∷ [])))) ready) ≡ queue ∷ cq 0 ∷ cq 0 ∷ peer ∷ []
strange_list = refl

-- a key that ends has no buffer
ends_region : turn (with_posted (signalled (ops.LocalInv (k 1))) ready) ≡ queue ∷ cq 0 ∷ cq 0 ∷ region 0 ∷ []
ends_region = refl

ends_window : turn (with_posted (signalled (ops.LocalInv (k 0x800001))) ready) ≡ queue ∷ cq 0 ∷ cq 0 ∷ window 0 ∷ []
ends_window = refl

-- a key of another domain names no part
strange_key : turn (with_posted (signalled (ops.Send (list (piece 0x1000001 0x100000000 8 ∷ [])))) ready) ≡ queue ∷ cq 0 ∷ cq 0 ∷ peer ∷ []
strange_key = refl

idle : turn ready ≡ queue ∷ cq 0 ∷ cq 0 ∷ []
idle = refl

responds : event_parts pair furnished (events.Respond (q 0 256) lots.Pass) ≡ queue ∷ cq 0 ∷ cq 0 ∷ peer ∷ []
responds = refl

not_kept : event_parts pair furnished (events.Deliver (q 0 256) 0) ≡ own_mailbox ∷ []
not_kept = refl

timer : event_parts pair furnished (events.Timeout (q 0 256) false) ≡ queue ∷ own_mailbox ∷ cq 0 ∷ cq 0 ∷ names.Queue (q 1 256) ∷ peer ∷ []
timer = refl

wakes : event_parts pair furnished (events.RnrWake (q 0 256)) ≡ queue ∷ names.Queue (q 1 256) ∷ peer ∷ []
wakes = refl

-- bytes that a consumer hands to a queue pair need its mailbox too
injected : of_verb (verbs.Inject (q 0 256) []) ≡ queue ∷ own_mailbox ∷ cq 0 ∷ cq 0 ∷ []
unfolding packet_in bth_at
injected = refl

-- what is needed next for a registration: the control part, then the region, and then no more
abbrev registers : Needs
registers = event_needs pair (events.Verb 0 (verbs.RegMr (s 0 0 3) 0 0 8 all_rights))

first_needed : next_part (is_held []) furnished registers ≡ Some control
first_needed = refl

then_needed : next_part (is_held (control ∷ [])) furnished registers ≡ Some (region 3)
then_needed = refl

all_held : next_part (is_held (region 3 ∷ control ∷ [])) furnished registers ≡ None
all_held = refl

gathers : gathered 32 furnished registers [] ≡ region 3 ∷ control ∷ []
gathers = refl

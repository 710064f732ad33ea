-- Posting: what it asks of what is held, and what it makes of a queue pair's slot. Contracts cite it.
use Rattle.std.specs.Prelude.{◌≡◌, false, suc, ◌^◌, ◌<◌, None, IfSome}
use Rattle.std.specs.Option.{option_map}
use Rattle.ca_adapter_acts.specs.Room.{FitIn}
use Rattle.ca_base.specs.declared.request.RecvRequest.{RecvRequest}
use Rattle.ca_base.specs.declared.request.SendRequest.{SendRequest}
use Rattle.ca_keys.specs.declared.names.Slot.{Slot}
use Rattle.ca_keys.specs.Refusals.{first_of}
use Rattle.ca_base.specs.objects.QueuePair.{QueuePair, QueueSlot, NoQueue, Present, recv_cq_of, send_cq_of}
use Rattle.ca_base.specs.objects.WorkQueue.{next_place, with_item}
use Rattle.ca_model.specs.machine.Around.{completions_to}
use Rattle.ca_model.specs.machine.PostingVerbs.{marks_of_flush, post_recv_refusals, post_send_refusals, with_send}
use Rattle.ca_model.specs.machine.World.{World}
use Rattle.ca_adapter_posts.specs.Drawing.{byte_for, is_no_window, window_of_bind}

-- a receive is posted to a queue pair's own queue
abbrev pub with_receive : RecvRequest → QueuePair → QueuePair
with_receive request q = record q { receives = option_map (with_item request) q.receives }

-- the slot of a queue pair, with another queue pair where there is one
abbrev pub slot_with : (QueuePair → QueuePair) → QueueSlot → QueueSlot
slot_with f (NoQueue incarnation timers) = NoQueue incarnation timers
slot_with f (Present q) = Present (f q)

-- one more receive has a posting place
abbrev pub CanPostReceive : QueuePair → Type 0
CanPostReceive q = IfSome q.receives (λ r. suc (next_place r) < 2 ^ 64)

-- the completions that come where a receive is posted and not refused fit in the completion queue of receives
abbrev pub FitsReceive : World → RecvRequest → QueuePair → Type 0
FitsReceive w request q = first_of (post_recv_refusals request q) ≡ None
    → FitIn (w.cq (recv_cq_of q)) (completions_to q q.recv_cq (marks_of_flush (with_receive request q)))

-- one more send request has a posting place
abbrev pub CanPostSend : QueuePair → Type 0
CanPostSend q = suc (next_place q.sends) < 2 ^ 64

-- the completions that come where a send request is posted and not refused fit in the completion queue of sends
abbrev pub FitsSend : World → Slot → SendRequest → QueuePair → Type 0
FitsSend w s request q = is_no_window w (window_of_bind s request.op) ≡ false → first_of (post_send_refusals request q) ≡ None
    → FitIn (w.cq (send_cq_of q)) (completions_to q q.send_cq (marks_of_flush (with_send request (byte_for w (window_of_bind s request.op)) q)))

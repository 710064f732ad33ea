-- A literal configuration, queue pairs and a world with some of each object, on which examples of the machine's rows are
-- computed. For proofs only.
use Rattle.std.proofs.Common.{ℕ, ◌+◌, List, [], ◌∷◌, true, false, None, Some}
use Rattle.ca_base.specs.declared.change.State.{State}
use Rattle.ca_base.specs.declared.change.State.TheVariants as states
use Rattle.ca_base.specs.declared.lot.Lot.{Lot}
use Rattle.ca_keys.specs.declared.place.Run.{Run}
use Rattle.ca_base.specs.declared.queue_numbers.Queued.{Queued}
use Rattle.ca_base.specs.declared.request.RecvRequest.{RecvRequest}
use Rattle.ca_base.specs.declared.request.SendOp.{SendOp}
use Rattle.ca_base.specs.declared.request.SendOp.TheVariants as ops
use Rattle.ca_base.specs.declared.request.SendRequest.{SendRequest}
use Rattle.ca_base.specs.declared.reserve.Reserve.TheVariants as reserves
use Rattle.ca_keys.specs.declared.rights.Rights.{Rights}
use Rattle.ca_base.specs.Configuration.{Configuration}
use Rattle.ca_keys.specs.Memory.{zeros}
use Rattle.ca_base.specs.objects.CompletionQueue.{empty_cq, after_reserve}
use Rattle.ca_base.specs.declared.mail_envelope.MailEnvelope.{MailEnvelope}
use Rattle.ca_base.specs.objects.Mailbox.{Mailbox, empty_mailbox, with_peer}
use Rattle.ca_base.specs.objects.QueuePair.{QueuePair, Present, queue_at_start, psn_base}
use Rattle.ca_base.specs.objects.Region.{Region, after_allocation, after_registration, vacant_region, with_window_bound}
use Rattle.ca_base.specs.objects.SharedReceives.{after_receive_post, empty_receives}
use Rattle.ca_base.specs.objects.Window.{after_window_allocation, vacant_window}
use Rattle.ca_base.specs.objects.WorkQueue.{with_item, empty_queue}
use Rattle.ca_model.specs.machine.Plan.{Update, ◌:=◌, put_all}
use Rattle.ca_model.specs.machine.World.{World, opening_world, Cq_of, Domain_of, Queue_of, Region_of, Srq_of, Window_of}
use Rattle.ca_model.proofs.Literals.{d, s, q, k, r, run, list, piece, request, receive, adapter}

-- two adapters with a buffer of a page each, and two domains of four slots of each kind
abbrev pub pair : Configuration
pair = record { adapters = adapter (4096 ∷ []) 2 4 4 4 4 4 ∷ adapter (4096 ∷ []) 2 4 4 4 4 4 ∷ []; events = 100 }

-- local write, remote read, remote write, remote atomic and window bind
abbrev pub all_rights : Rights
all_rights = r true true true true true

-- a SEND of so many bytes of the first region
abbrev pub send_of : ℕ → SendOp
send_of count = ops.Send (list (piece 1 0x100000000 count ∷ []))

-- a WRITE and a READ of so many bytes
abbrev pub write_of : ℕ → SendOp
write_of count = ops.Write 0x100000000 (k 1) (list (piece 1 0x100000000 count ∷ []))

abbrev pub read_of : ℕ → SendOp
read_of count = ops.Read 0x100000000 (k 1) (list (piece 1 0x100000000 count ∷ []))

-- an atomic whose list has so many bytes
abbrev pub add_of : ℕ → SendOp
add_of count = ops.FetchAdd 0x100000000 (k 1) 5 (list (piece 1 0x100000000 count ∷ []))

-- a signalled request with the id 7
abbrev pub signalled : SendOp → SendRequest
signalled op = request 7 true false false op

abbrev pub fenced : SendOp → SendRequest
fenced op = request 7 true true false op

-- a receive with the id 9 of so many bytes
abbrev pub receive_of : ℕ → RecvRequest
receive_of count = receive 9 (list (piece 1 0x100000000 count ∷ []))

-- a queue pair of the domain 0 of adapter 0, with queues of two places each, over the completion queue 0
abbrev pub new_queue : ℕ → QueuePair
new_queue number = queue_at_start (q 0 number) (d 0 0) 1 0 0 0 2 2 None

-- the same, in a state, with the queue pair 256 of adapter 1 as its peer, two READs and atomics at once, and no retry
abbrev pub in_state : State → QueuePair
in_state state = record (new_queue 256) {
  state = state;
  peer = Some (record { queue = q 1 256; incarnation = 1 });
  requester = record (new_queue 256).requester { reads = 2 };
}

abbrev pub ready : QueuePair
ready = in_state states.Rts

-- a request is posted
abbrev pub with_posted : SendRequest → QueuePair → QueuePair
with_posted x p = record p { sends = with_item (record { request = x; drawn = None }) p.sends }

-- so many requests have begun, with so many PSNs from the first on
abbrev pub with_begun : ℕ → ℕ → QueuePair → QueuePair
with_begun count psns p = record p { requester = record p.requester { next = count; cursor = psn_base + psns } }

-- the next packet is again the first
abbrev pub gone_back : QueuePair → QueuePair
gone_back p = record p { requester = record p.requester { cursor = psn_base } }

abbrev pub with_received : RecvRequest → QueuePair → QueuePair
with_received x p = record p { receives = Some (with_item x (empty_queue 2)) }

abbrev pub with_answers : List Queued → QueuePair → QueuePair
with_answers answers p = record p { responder = record p.responder { answers = answers } }

-- an envelope that was not delivered yet
abbrev pub envelope : Lot → MailEnvelope
envelope lot = record { lot = lot; bytes = 1 ∷ []; delivered = 0 }

-- a mailbox of the queue pair 256 in its first incarnation, which accepts that of the adapter, with these envelopes,
-- the newest first
abbrev pub mailbox_for : ℕ → ℕ → List MailEnvelope → Mailbox
mailbox_for peer next envelopes =
    record (with_peer 1 (Some (record { queue = q peer 256; incarnation = 1 })) empty_mailbox) { next = next; envelopes = envelopes }

-- the whole number of a PSN
abbrev pub at : ℕ → ℕ
at psn = psn_base + psn

-- a run of the buffer of adapter 0
abbrev pub first_bytes : ℕ → Run
first_bytes count = run 0 0 0 count

-- the region 0 over the whole page, with these rights
abbrev pub region_with : Rights → List Update
region_with rights = (Region_of (s 0 0 0) := after_registration (s 0 0 0) (first_bytes 4096) rights vacant_region) ∷ []

-- a region over the whole page with all rights, valid under the key 1 in slot 0
abbrev pub registered : ℕ → Region
registered slot = after_registration (s 0 0 slot) (first_bytes 4096) all_rights vacant_region

-- the first domain is allocated and has: regions that are valid, valid with a window bound, free for two pages, vacant;
-- windows that are of type 1, of type 2, vacant; completion queues that are in use, free, missing; shared receive queues
-- that are in use, free, full, missing; and queue pairs. The first domain of the other adapter is allocated and empty.
abbrev pub furniture : List Update
furniture =
    (Domain_of (d 0 0) := record { allocated = true; objects = 11 })
    ∷ (Domain_of (d 1 0) := record { allocated = true; objects = 0 })
    ∷ (Region_of (s 0 0 0) := registered 0)
    ∷ (Region_of (s 0 0 1) := with_window_bound (registered 1))
    ∷ (Region_of (s 0 0 2) := after_allocation 2 vacant_region)
    ∷ (Window_of (s 0 0 0) := after_window_allocation 1 (vacant_window (s 0 0 0)))
    ∷ (Window_of (s 0 0 1) := after_window_allocation 2 (vacant_window (s 0 0 1)))
    ∷ (Cq_of (s 0 0 0) := Some (after_reserve (reserves.Sends (q 0 256)) 2 (empty_cq 16)))
    ∷ (Cq_of (s 0 0 1) := Some (empty_cq 4))
    ∷ (Srq_of (s 0 0 0) := record { srq = Some (empty_receives 2); users = 1 })
    ∷ (Srq_of (s 0 0 1) := record { srq = Some (empty_receives 2); users = 0 })
    ∷ (Srq_of (s 0 0 2) := record { srq = Some (after_receive_post (receive_of 8) (empty_receives 1)); users = 0 })
    ∷ (Queue_of (q 0 256) := Present ready)
    ∷ (Queue_of (q 0 257) := Present (queue_at_start (q 0 257) (d 0 0) 1 0 0 0 2 2 (Some 0)))
    ∷ (Queue_of (q 0 258) := Present (record (new_queue 258) { windows = 1 }))
    ∷ []

abbrev pub furnished : World
furnished = put_all furniture (opening_world zeros)

-- the furnished world, with another queue pair 256
abbrev pub with_queue : QueuePair → World
with_queue p = put_all ((Queue_of (q 0 256) := Present p) ∷ []) furnished

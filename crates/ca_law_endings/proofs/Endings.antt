-- The endings of events: each way in which an event that is possible can end, with what it changes, writes and tells. A new
-- verb is a row more in each table of this file, and in the walk.
use Rattle.std.proofs.Common.{◌≡◌, ℕ, ◌==◌, ◌||◌, nat_lt, not, Bool, true, false, List, [], ◌∷◌, ◌++◌, length, map, take, Option, None, Some, is_none, is_some}
use Rattle.std.specs.Option.{option_and_then, option_map, option_map_or}
use Rattle.ca_base.specs.Configuration.{Configuration}
use Rattle.ca_base.specs.Grants.{grant_of_registration, next_low, registration_refusals}
use Rattle.ca_base.specs.Sight.{Invalidation, bytes_in, first_denied}
use Rattle.ca_base.specs.declared.denied_ask.DeniedAsk.{DeniedAsk}
use Rattle.ca_base.specs.declared.change.Change as state_change
use Rattle.ca_base.specs.declared.change.Change.TheVariants as changes
use Rattle.ca_base.specs.declared.completion.Completion.{Completion}
use Rattle.ca_base.specs.declared.correspondent.Correspondent.{Correspondent}
use Rattle.ca_base.specs.declared.limits.TheConstants.{MAX_CAPACITY, MAX_PAGES}
use Rattle.ca_base.specs.declared.lot.Lot.{Lot}
use Rattle.ca_base.specs.declared.request.RecvRequest.{RecvRequest}
use Rattle.ca_base.specs.declared.request.SendOp.{SendOp}
use Rattle.ca_base.specs.declared.request.SendOp.TheVariants as ops
use Rattle.ca_base.specs.declared.request.SendRequest.{SendRequest}
use Rattle.ca_base.specs.objects.CompletionQueue.{CompletionQueue, after_polls, after_puts, empty_cq, is_in_use}
use Rattle.ca_base.specs.objects.Domain.{with_allocation, with_object, without_object}
use Rattle.ca_base.specs.objects.Mailbox.{after_delivery, bytes_lent}
use Rattle.ca_base.specs.objects.QueuePair.{QueuePair, Present, is_present, recv_cq_of, send_cq_of}
use Rattle.ca_base.specs.objects.Region.{after_allocation, after_deregistration, after_registration, deregistration_refusals, grant_of_region, is_vacant_region}
use Rattle.ca_base.specs.objects.SharedReceives.{SharedReceives, after_receive_post, empty_receives}
use Rattle.ca_base.specs.objects.StateTable.{modify_refusals, queue_after_change}
use Rattle.ca_base.specs.objects.Window.{Binding, after_draw, after_window_allocation, byte_drawn, key_of_window}
use Rattle.ca_base.specs.objects.WorkQueue.{occupied_count, with_item}
use Rattle.ca_keys.specs.Numbers.{key_at, queue_of, window_index}
use Rattle.ca_keys.specs.Refusals.{AllFail}
use Rattle.ca_keys.specs.declared.grant.Grant.{Grant}
use Rattle.ca_keys.specs.declared.names.DomainId.{DomainId}
use Rattle.ca_keys.specs.declared.names.QueueId.{QueueId}
use Rattle.ca_keys.specs.declared.names.Slot.{Slot}
use Rattle.ca_keys.specs.declared.rights.Rights.{Rights}
use Rattle.ca_keys.specs.Memory.{bytes_at}
use Rattle.ca_law_world.proofs.Sound.PlanWalks.{changed_around, created, deallocated, destroyed, shared_beside, unbound}
use Rattle.ca_law_world.proofs.Sound.WorldLemmas.{IsThere, around_in, shared_of}
use Rattle.ca_model.specs.Past.{Past, after_marks, at_begin}
use Rattle.ca_model.specs.declared.answer.Answer.TheVariants as answers
use Rattle.ca_model.specs.declared.answer.Refusal.{Refusal}
use Rattle.ca_model.specs.declared.event.Event.{Event}
use Rattle.ca_model.specs.declared.event.Event.TheVariants as events
use Rattle.ca_model.specs.declared.mark.Mark.{Mark}
use Rattle.ca_model.specs.declared.mark.Mark.TheVariants as marks
use Rattle.ca_model.specs.declared.verb.Verb.{Verb}
use Rattle.ca_model.specs.declared.verb.Verb.TheVariants as verbs
use Rattle.ca_model.specs.machine.Around.{Around, completions_to, updates_of}
use Rattle.ca_base.specs.objects.Slices.{has_queue}
use Rattle.ca_model.specs.Requests.{is_local}
use Rattle.ca_model.specs.machine.HostVerbs.{host_refusals}
use Rattle.ca_model.specs.machine.CompletionVerbs.{is_no_depth, receives_after_poll, slot_after_poll, source_of_completion}
use Rattle.ca_model.specs.machine.Completions.{flush_marks}
use Rattle.ca_model.specs.machine.Delivery.{arrival_row}
use Rattle.ca_model.specs.machine.LocalOperations.{operation_effects}
use Rattle.ca_model.specs.machine.Around.{shared_in}
use Rattle.ca_model.specs.machine.Numbering.{Numbered}
use Rattle.ca_model.specs.machine.Plan.{Update, ◌:=◌, Write, put_all, write_all}
use Rattle.ca_model.specs.machine.PostingVerbs.{after_flush, marks_of_flush, post_recv_refusals, post_send_refusals, with_send}
use Rattle.ca_model.specs.machine.QueuePairVerbs.{Creation, beside, has_bad_depth, new_queue}
use Rattle.ca_model.specs.machine.Requester.{Performs, Sends, denied_list_effects, is_outstanding, is_too_much, packet_asks, sent_packet, turn_of}
use Rattle.ca_model.specs.machine.Respond.{respond_row}
use Rattle.ca_model.specs.machine.Row.{Effects, unless_none}
use Rattle.ca_model.specs.machine.Seen.{ending_changes, sight_in, writes_in}
use Rattle.ca_model.specs.machine.Step.{bytes_of_buffer, is_named, run_of}
use Rattle.ca_model.specs.machine.Timers.{after_timeout, after_wake, timeout_refusals}
use Rattle.ca_model.specs.machine.Turns.{has_room_for, packet_sent, sent_marks, sent_updates}
use Rattle.ca_model.specs.machine.VerbAnswers.{of_change_refusals, of_region_refusals}
use Rattle.ca_model.specs.machine.World.{World, Cq_of, Domain_of, Mailbox_of, Queue_of, Region_of, Srq_of, Window_of}
use Rattle.ca_law_endings.proofs.Operations.{done_by}
use Rattle.ca_law_endings.proofs.Rows.{Rows}

-- how an event ends
pub data End : Type 0 where
  Refused : ℕ → Verb → Refusal → End
  AllocPd : ℕ → DomainId → End
  DeallocPd : ℕ → DomainId → End
  RegMr : ℕ → Slot → ℕ → ℕ → ℕ → Rights → End
  AllocMr : ℕ → Slot → ℕ → End
  -- the grant for which the region stood, if it did
  DeregMr : ℕ → Slot → Option Grant → End
  AllocMw : ℕ → Slot → ℕ → End
  -- the binding that ends, if there was one
  DeallocMw : ℕ → Slot → Option Binding → End
  CreateCq : ℕ → Slot → ℕ → End
  DestroyCq : ℕ → Slot → End
  CreateSrq : ℕ → Slot → ℕ → End
  DestroySrq : ℕ → Slot → End
  CreateQp : ℕ → Creation → CompletionQueue → CompletionQueue → End
  ModifyQp : ℕ → Slot → QueuePair → state_change.Change → End
  QueryQp : ℕ → Slot → QueuePair → End
  DestroyQp : ℕ → Slot → QueuePair → End
  -- the window that drew a byte, if the request binds one of type 1
  PostSend : ℕ → Slot → SendRequest → QueuePair → Option Slot → End
  PostRecv : ℕ → Slot → RecvRequest → QueuePair → End
  PostSrq : ℕ → Slot → RecvRequest → SharedReceives → End
  Poll : ℕ → Slot → ℕ → ℕ → CompletionQueue → End
  Store : ℕ → ℕ → ℕ → ℕ → List ℕ → End
  Load : ℕ → ℕ → ℕ → ℕ → ℕ → End
  -- the effects of a row, and the key that it ended, if it did
  Inject : ℕ → QueueId → List ℕ → QueuePair → Option Invalidation → Effects → End
  Deliver : QueueId → ℕ → List ℕ → QueuePair → Option Invalidation → Effects → End
  Respond : QueueId → Lot → QueuePair → Correspondent → Option Invalidation → Effects → End
  -- a packet of a request is sent, or its list was denied
  Send : QueueId → Lot → QueuePair → Correspondent → Numbered → End
  Deny : QueueId → Lot → QueuePair → Correspondent → Numbered → DeniedAsk → End
  Perform : QueueId → Lot → QueuePair → Numbered → End
  Timeout : QueueId → Bool → QueuePair → Bool → End
  RnrWake : QueueId → QueuePair → End

-- ---- the event

abbrev pub event_of : End → Event
event_of (End.Refused by verb r) = events.Verb by verb
event_of (End.AllocPd by d) = events.Verb by (verbs.AllocPd d)
event_of (End.DeallocPd by d) = events.Verb by (verbs.DeallocPd d)
event_of (End.RegMr by s buffer offset count rights) = events.Verb by (verbs.RegMr s buffer offset count rights)
event_of (End.AllocMr by s pages) = events.Verb by (verbs.AllocMr s pages)
event_of (End.DeregMr by s o) = events.Verb by (verbs.DeregMr s)
event_of (End.AllocMw by s kind) = events.Verb by (verbs.AllocMw s kind)
event_of (End.DeallocMw by s o) = events.Verb by (verbs.DeallocMw s)
event_of (End.CreateCq by s capacity) = events.Verb by (verbs.CreateCq s capacity)
event_of (End.DestroyCq by s) = events.Verb by (verbs.DestroyCq s)
event_of (End.CreateSrq by s depth) = events.Verb by (verbs.CreateSrq s depth)
event_of (End.DestroySrq by s) = events.Verb by (verbs.DestroySrq s)
event_of (End.CreateQp by x send recv) = events.Verb by (verbs.CreateQp x.slot x.send_cq x.recv_cq x.send_depth x.recv_depth x.srq)
event_of (End.ModifyQp by s q change) = events.Verb by (verbs.ModifyQp s change)
event_of (End.QueryQp by s q) = events.Verb by (verbs.QueryQp s)
event_of (End.DestroyQp by s q) = events.Verb by (verbs.DestroyQp s)
event_of (End.PostSend by s request q o) = events.Verb by (verbs.PostSend s request)
event_of (End.PostRecv by s request q) = events.Verb by (verbs.PostRecv s request)
event_of (End.PostSrq by s request srq) = events.Verb by (verbs.PostSrq s request)
event_of (End.Poll by s n least cq) = events.Verb by (verbs.Poll s n least)
event_of (End.Store by adapter buffer offset bytes) = events.Verb by (verbs.Store adapter buffer offset bytes)
event_of (End.Load by adapter buffer offset count) = events.Verb by (verbs.Load adapter buffer offset count)
event_of (End.Inject by name bytes q i e) = events.Verb by (verbs.Inject name bytes)
event_of (End.Deliver name index bytes q i e) = events.Deliver name index
event_of (End.Respond name lot q peer i e) = events.Respond name lot
event_of (End.Send name lot q peer n) = events.Request name lot
event_of (End.Deny name lot q peer n d) = events.Request name lot
event_of (End.Perform name lot q n) = events.Request name lot
event_of (End.Timeout name hasten q silent) = events.Timeout name hasten
event_of (End.RnrWake name q) = events.RnrWake name

-- ---- what it changes

-- what stands around a queue pair in a world
abbrev pub near : World → QueuePair → Around
near w q = around_in w q (shared_of w q)

-- what a turn's effects change, with the key that the row ended
abbrev pub row_updates : Configuration → World → QueuePair → Option Invalidation → Effects → List Update
row_updates c w q i e = updates_of q (near w q) e ++ option_map_or (ending_changes c w) i []

-- the same, with the packet that is sent
abbrev pub turn_updates : Configuration → World → Lot → QueuePair → Correspondent → Option Invalidation → Effects → List Update
turn_updates c w lot q peer i e =
    updates_of q (near w q) e ++ (option_map_or (ending_changes c w) i [] ++ option_map_or (sent_updates q peer (w.mailbox peer.queue) lot) (packet_sent e) [])

-- what a polled completion frees, and what several free
abbrev pub place_freed : World → Slot → CompletionQueue → List Completion → Completion → Update
place_freed w s cq xs x = by (source_of_completion cq x)
  where
    by : Option ℕ → Update
    by None = Queue_of x.queue := slot_after_poll x.queue xs (w.queue x.queue)
    by (Some srq) = Srq_of (record { domain = s.domain; slot = srq }) := record (w.srq (record { domain = s.domain; slot = srq })) {
      srq = option_map (receives_after_poll cq srq xs) (w.srq (record { domain = s.domain; slot = srq })).srq;
    }

abbrev pub places_freed : World → Slot → CompletionQueue → List Completion → List Completion → List Update
places_freed w s cq xs [] = []
places_freed w s cq xs (y ∷ ys) = place_freed w s cq xs y ∷ places_freed w s cq xs ys

-- a deallocated window, and the region in which it was bound
abbrev pub deallocation : World → Slot → Option Binding → List Update
deallocation w s None = deallocated w s
deallocation w s (Some b) = unbound w s b

-- the byte that a window draws as its bind is posted
abbrev pub drawn_of : World → Option Slot → Option ℕ
drawn_of w None = None
drawn_of w (Some at) = byte_drawn (w.window at)

abbrev pub draw_updates : World → Option Slot → List Update
draw_updates w None = []
draw_updates w (Some at) = (Window_of at := after_draw (w.window at)) ∷ []

abbrev pub slot_drawn : Slot → Option Slot → Slot
slot_drawn s None = s
slot_drawn s (Some at) = at

-- the window that a bind of type 1 names
abbrev pub window_of : Slot → SendOp → Option Slot
window_of s (ops.Bind1 window region address count rights) = Some (beside s window)
window_of s op = None

-- what posting a request, and a receive, makes of a queue pair
abbrev pub sending : World → SendRequest → Option Slot → QueuePair → QueuePair
sending w request o q = with_send request (drawn_of w o) q

abbrev pub receiving : RecvRequest → QueuePair → QueuePair
receiving request q = record q { receives = option_map (with_item request) q.receives }

-- what the packet of a request makes, with the bytes that it reads
abbrev pub packet_of : Configuration → World → QueuePair → Numbered → Effects
packet_of c w q n = sent_packet q n (map (bytes_in (sight_in c w)) (packet_asks q n))

-- what a local operation makes, and what it changes where it is not refused
abbrev pub performed : Configuration → World → QueuePair → Numbered → Effects
performed c w q n = operation_effects q n (done_by c w q n n.request.op).after (done_by c w q n n.request.op).marks (done_by c w q n n.request.op).refusal

abbrev pub operation_updates : Configuration → World → QueuePair → Numbered → List Update
operation_updates c w q n = unless_none (done_by c w q n n.request.op).refusal (done_by c w q n n.request.op).changes

abbrev pub changed : Configuration → World → End → List Update
changed c w (End.Refused by verb r) = []
changed c w (End.AllocPd by d) = (Domain_of d := with_allocation true (w.domain d)) ∷ []
changed c w (End.DeallocPd by d) = (Domain_of d := with_allocation false (w.domain d)) ∷ []
changed c w (End.RegMr by s buffer offset count rights) =
    (Domain_of s.domain := with_object (w.domain s.domain))
    ∷ (Region_of s := after_registration s (run_of s.domain.adapter buffer offset count) rights (w.region s)) ∷ []
changed c w (End.AllocMr by s pages) = (Domain_of s.domain := with_object (w.domain s.domain)) ∷ (Region_of s := after_allocation pages (w.region s)) ∷ []
changed c w (End.DeregMr by s o) = (Domain_of s.domain := without_object (w.domain s.domain)) ∷ (Region_of s := after_deregistration (w.region s)) ∷ []
changed c w (End.AllocMw by s kind) = (Domain_of s.domain := with_object (w.domain s.domain)) ∷ (Window_of s := after_window_allocation kind (w.window s)) ∷ []
changed c w (End.DeallocMw by s o) = deallocation w s o
changed c w (End.CreateCq by s capacity) = (Domain_of s.domain := with_object (w.domain s.domain)) ∷ (Cq_of s := Some (empty_cq capacity)) ∷ []
changed c w (End.DestroyCq by s) = (Domain_of s.domain := without_object (w.domain s.domain)) ∷ (Cq_of s := None) ∷ []
changed c w (End.CreateSrq by s depth) =
    (Domain_of s.domain := with_object (w.domain s.domain)) ∷ (Srq_of s := record (w.srq s) { srq = Some (empty_receives depth) }) ∷ []
changed c w (End.DestroySrq by s) = (Domain_of s.domain := without_object (w.domain s.domain)) ∷ (Srq_of s := record (w.srq s) { srq = None }) ∷ []
changed c w (End.CreateQp by x send recv) = created w x send recv (shared_beside w x) (option_and_then (λ s. s.srq) (shared_beside w x))
changed c w (End.ModifyQp by s q change) = (Queue_of q.queue := Present (queue_after_change change q)) ∷ changed_around w q (near w q) change
changed c w (End.QueryQp by s q) = []
changed c w (End.DestroyQp by s q) = destroyed w s q (near w q)
changed c w (End.PostSend by s request q o) =
    (Queue_of q.queue := Present (after_flush (sending w request o q)))
    ∷ (Cq_of (send_cq_of q) := option_map (after_puts (completions_to q q.send_cq (marks_of_flush (sending w request o q)))) (w.cq (send_cq_of q)))
    ∷ draw_updates w o
changed c w (End.PostRecv by s request q) =
    (Queue_of q.queue := Present (after_flush (receiving request q)))
    ∷ (Cq_of (recv_cq_of q) := option_map (after_puts (completions_to q q.recv_cq (marks_of_flush (receiving request q)))) (w.cq (recv_cq_of q)))
    ∷ []
changed c w (End.PostSrq by s request srq) = (Srq_of s := record (w.srq s) { srq = Some (after_receive_post request srq) }) ∷ []
changed c w (End.Poll by s n least cq) =
    (Cq_of s := Some (after_polls (length (take n cq.waiting)) cq)) ∷ places_freed w s cq (take n cq.waiting) (take n cq.waiting)
changed c w (End.Store by adapter buffer offset bytes) = []
changed c w (End.Load by adapter buffer offset count) = []
changed c w (End.Inject by name bytes q i e) = row_updates c w q i e
changed c w (End.Deliver name index bytes q i e) = (Mailbox_of name := after_delivery index (w.mailbox name)) ∷ row_updates c w q i e
changed c w (End.Respond name lot q peer i e) = turn_updates c w lot q peer i e
changed c w (End.Send name lot q peer n) = turn_updates c w lot q peer None (packet_of c w q n)
changed c w (End.Deny name lot q peer n d) = turn_updates c w lot q peer None (denied_list_effects q d)
changed c w (End.Perform name lot q n) = updates_of q (near w q) (performed c w q n) ++ operation_updates c w q n
changed c w (End.Timeout name hasten q silent) = updates_of q (near w q) (after_timeout silent q)
changed c w (End.RnrWake name q) = (Queue_of q.queue := Present (after_wake q).queue) ∷ []

-- ---- what it writes

abbrev pub writes : Configuration → World → End → List Write
writes c w (End.Store by adapter buffer offset bytes) = record { runs = run_of adapter buffer offset (length bytes) ∷ []; bytes = bytes } ∷ []
writes c w (End.Inject by name bytes q i e) = writes_in (sight_in c w) e.writes
writes c w (End.Deliver name index bytes q i e) = writes_in (sight_in c w) e.writes
writes c w (End.Respond name lot q peer i e) = writes_in (sight_in c w) e.writes
writes c w e = []

-- ---- what it tells

-- the answer of a verb
abbrev pub first : Configuration → World → End → List Mark
first c w (End.Refused by verb r) = marks.Verb by verb (answers.Refused r) ∷ []
first c w (End.AllocPd by d) = marks.Verb by (verbs.AllocPd d) answers.Fine ∷ []
first c w (End.DeallocPd by d) = marks.Verb by (verbs.DeallocPd d) answers.Fine ∷ []
first c w (End.RegMr by s buffer offset count rights) = marks.Verb by (verbs.RegMr s buffer offset count rights)
    (answers.Key (grant_of_registration s (run_of s.domain.adapter buffer offset count) rights (next_low (w.region s).low)).key) ∷ []
first c w (End.AllocMr by s pages) = marks.Verb by (verbs.AllocMr s pages) answers.Fine ∷ []
first c w (End.DeregMr by s o) = marks.Verb by (verbs.DeregMr s) answers.Fine ∷ []
first c w (End.AllocMw by s kind) = marks.Verb by (verbs.AllocMw s kind) answers.Fine ∷ []
first c w (End.DeallocMw by s o) = marks.Verb by (verbs.DeallocMw s) answers.Fine ∷ []
first c w (End.CreateCq by s capacity) = marks.Verb by (verbs.CreateCq s capacity) answers.Fine ∷ []
first c w (End.DestroyCq by s) = marks.Verb by (verbs.DestroyCq s) answers.Fine ∷ []
first c w (End.CreateSrq by s depth) = marks.Verb by (verbs.CreateSrq s depth) answers.Fine ∷ []
first c w (End.DestroySrq by s) = marks.Verb by (verbs.DestroySrq s) answers.Fine ∷ []
first c w (End.CreateQp by x send recv) = marks.Verb by (verbs.CreateQp x.slot x.send_cq x.recv_cq x.send_depth x.recv_depth x.srq)
    (answers.Queue (queue_of x.slot).number (new_queue x (w.queue (queue_of x.slot))).incarnation) ∷ []
first c w (End.ModifyQp by s q change) = marks.Verb by (verbs.ModifyQp s change) answers.Fine ∷ []
first c w (End.QueryQp by s q) = marks.Verb by (verbs.QueryQp s)
    (answers.Query q.state q.incarnation (occupied_count q.sends) (option_map_or occupied_count q.receives 0)) ∷ []
first c w (End.DestroyQp by s q) = marks.Verb by (verbs.DestroyQp s) answers.Fine ∷ []
first c w (End.PostSend by s request q o) = marks.Verb by (verbs.PostSend s request)
    (answers.Posted (option_map (key_at (window_index (slot_drawn s o))) (drawn_of w o))) ∷ []
first c w (End.PostRecv by s request q) = marks.Verb by (verbs.PostRecv s request) (answers.Posted None) ∷ []
first c w (End.PostSrq by s request srq) = marks.Verb by (verbs.PostSrq s request) (answers.Posted None) ∷ []
first c w (End.Poll by s n least cq) = marks.Verb by (verbs.Poll s n least) (answers.Polled (take n cq.waiting)) ∷ []
first c w (End.Store by adapter buffer offset bytes) = marks.Verb by (verbs.Store adapter buffer offset bytes) answers.Fine ∷ []
first c w (End.Load by adapter buffer offset count) = marks.Verb by (verbs.Load adapter buffer offset count)
    (answers.Loaded (bytes_at w.byte (run_of adapter buffer offset count ∷ []))) ∷ []
first c w (End.Inject by name bytes q i e) = marks.Verb by (verbs.Inject name bytes) answers.Fine ∷ []
first c w e = []

-- what a turn tells, with the packet that is sent
abbrev pub turn_marks : World → Lot → QueuePair → Correspondent → Effects → List Mark
turn_marks w lot q peer e = e.marks ++ option_map_or (sent_marks q peer (w.mailbox peer.queue) lot) (packet_sent e) []

-- the other marks
abbrev pub more : Configuration → World → End → List Mark
more c w (End.RegMr by s buffer offset count rights) =
    marks.Granted (grant_of_registration s (run_of s.domain.adapter buffer offset count) rights (next_low (w.region s).low)) ∷ []
more c w (End.DeregMr by s o) = option_map_or (λ g. marks.Revoked s.domain.adapter g.key ∷ []) o []
more c w (End.DeallocMw by s (Some b)) = marks.Revoked s.domain.adapter (key_of_window (w.window s)) ∷ []
more c w (End.ModifyQp by s q changes.Error) = flush_marks q
more c w (End.PostSend by s request q o) = marks_of_flush (sending w request o q)
more c w (End.PostRecv by s request q) = marks_of_flush (receiving request q)
more c w (End.Store by adapter buffer offset bytes) = marks.Stored (record { adapter = adapter; buffer = buffer; offset = offset }) bytes ∷ []
more c w (End.Inject by name bytes q i e) = marks.Arrived q.queue None ∷ e.marks
more c w (End.Deliver name index bytes q i e) = marks.Arrived q.queue (Some index) ∷ e.marks
more c w (End.Respond name lot q peer i e) = turn_marks w lot q peer e
more c w (End.Send name lot q peer n) = turn_marks w lot q peer (packet_of c w q n)
more c w (End.Deny name lot q peer n d) = (denied_list_effects q d).marks
more c w (End.Perform name lot q n) = (performed c w q n).marks
more c w (End.Timeout name hasten q silent) = (after_timeout silent q).marks
more c w e = []

-- ---- the world and the past that it leaves

abbrev pub after : Configuration → World → End → World
after c w e = write_all (writes c w e) (put_all (changed c w e) w)

-- the past behind a verb's answer
abbrev pub start : Configuration → World → Past → End → Past
start c w past e = after_marks (first c w e) (at_begin (event_of e) past)

abbrev pub told : Configuration → World → End → List Mark
told c w e = first c w e ++ more c w e

-- ---- when it ends so

-- a queue pair that a slot holds, in a sound world
pub record IsAt (w : World) (name : QueueId) (q : QueuePair) : Type 0 where
  pub there : IsThere w q
  pub own : q.queue ≡ name

abbrev pub IsSo : Configuration → World → End → Type 0
IsSo c w (End.Refused by verb r) = Unit {0}
IsSo c w (End.AllocPd by d) = (w.domain d).allocated ≡ false
IsSo c w (End.DeallocPd by d) = (not (w.domain d).allocated ≡ false) × (nat_lt 0 (w.domain d).objects ≡ false)
IsSo c w (End.RegMr by s buffer offset count rights) = (is_named c (verbs.RegMr s buffer offset count rights) ≡ true)
    × (not (w.domain s.domain).allocated ≡ false) × (not (is_vacant_region (w.region s)) ≡ false)
    × AllFail (of_region_refusals (registration_refusals (run_of s.domain.adapter buffer offset count) (bytes_of_buffer c s.domain.adapter buffer) rights))
IsSo c w (End.AllocMr by s pages) = (is_named c (verbs.AllocMr s pages) ≡ true) × (not (w.domain s.domain).allocated ≡ false)
    × (not (is_vacant_region (w.region s)) ≡ false) × (((pages == 0) || nat_lt MAX_PAGES pages) ≡ false)
IsSo c w (End.DeregMr by s o) = (is_named c (verbs.DeregMr s) ≡ true) × (grant_of_region (w.region s) ≡ o) × AllFail (of_region_refusals (deregistration_refusals (w.region s)))
IsSo c w (End.AllocMw by s kind) = (is_named c (verbs.AllocMw s kind) ≡ true) × (not (w.domain s.domain).allocated ≡ false)
    × (not ((w.window s).kind == 0) ≡ false) × (not ((kind == 1) || (kind == 2)) ≡ false)
IsSo c w (End.DeallocMw by s o) = (is_named c (verbs.DeallocMw s) ≡ true) × ((w.window s).binding ≡ o) × (((w.window s).kind == 0) ≡ false)
IsSo c w (End.CreateCq by s capacity) = (is_named c (verbs.CreateCq s capacity) ≡ true) × (not (w.domain s.domain).allocated ≡ false)
    × (is_some (w.cq s) ≡ false) × (((capacity == 0) || nat_lt MAX_CAPACITY capacity) ≡ false)
IsSo c w (End.DestroyCq by s) = (is_named c (verbs.DestroyCq s) ≡ true) × (is_none (w.cq s) ≡ false) × (option_map_or is_in_use (w.cq s) false ≡ false)
IsSo c w (End.CreateSrq by s depth) = (is_named c (verbs.CreateSrq s depth) ≡ true) × (not (w.domain s.domain).allocated ≡ false)
    × (is_some (w.srq s).srq ≡ false) × (is_no_depth depth ≡ false)
IsSo c w (End.DestroySrq by s) = (is_named c (verbs.DestroySrq s) ≡ true) × (is_none (w.srq s).srq ≡ false) × (nat_lt 0 (w.srq s).users ≡ false)
IsSo c w (End.CreateQp by x send recv) = (not (w.domain x.slot.domain).allocated ≡ false) × (is_present (w.queue (queue_of x.slot)) ≡ false)
    × (w.cq (beside x.slot x.send_cq) ≡ Some send) × (w.cq (beside x.slot x.recv_cq) ≡ Some recv) × (has_bad_depth x ≡ false)
IsSo c w (End.ModifyQp by s q change) = IsAt w (queue_of s) q × AllFail (of_change_refusals (modify_refusals c q change))
IsSo c w (End.QueryQp by s q) = IsAt w (queue_of s) q
IsSo c w (End.DestroyQp by s q) = IsAt w (queue_of s) q × (nat_lt 0 q.windows ≡ false)
IsSo c w (End.PostSend by s request q o) = IsAt w (queue_of s) q × (window_of s request.op ≡ o) × AllFail (post_send_refusals request q) × (is_named c (verbs.PostSend s request) ≡ true)
IsSo c w (End.PostRecv by s request q) = IsAt w (queue_of s) q × AllFail (post_recv_refusals request q)
IsSo c w (End.PostSrq by s request srq) = (w.srq s).srq ≡ Some srq
IsSo c w (End.Poll by s n least cq) = w.cq s ≡ Some cq
IsSo c w (End.Store by adapter buffer offset bytes) = AllFail (host_refusals (run_of adapter buffer offset (length bytes)) (bytes_of_buffer c adapter buffer))
IsSo c w (End.Load by adapter buffer offset count) = AllFail (host_refusals (run_of adapter buffer offset count) (bytes_of_buffer c adapter buffer))
IsSo c w (End.Inject by name bytes q i e) = IsAt w name q × Rows c w q (arrival_row bytes None (shared_in (near w q)) q) i e
IsSo c w (End.Deliver name index bytes q i e) = IsAt w name q × (bytes_lent index (w.mailbox name) ≡ Some bytes) × Rows c w q (arrival_row bytes (Some index) (shared_in (near w q)) q) i e
IsSo c w (End.Respond name lot q peer i e) = IsAt w name q × (q.peer ≡ Some peer) × Rows c w q (respond_row (has_room_for q peer (w.mailbox peer.queue)) q) i e
IsSo c w (End.Send name lot q peer n) = IsAt w name q × (q.peer ≡ Some peer) × (turn_of q ≡ Sends n) × (is_too_much q n ≡ false) × (has_room_for q peer (w.mailbox peer.queue) ≡ true)
    × (first_denied (sight_in c w) (packet_asks q n) ≡ None)
IsSo c w (End.Deny name lot q peer n d) = IsAt w name q × (q.peer ≡ Some peer) × (turn_of q ≡ Sends n) × (first_denied (sight_in c w) (packet_asks q n) ≡ Some d) × (is_outstanding q ≡ false)
IsSo c w (End.Perform name lot q n) = IsAt w name q × (turn_of q ≡ Performs n) × (has_queue c name ≡ true) × (is_local n.request.op ≡ true)
IsSo c w (End.Timeout name hasten q silent) = IsAt w name q × AllFail (timeout_refusals silent hasten q)
IsSo c w (End.RnrWake name q) = IsAt w name q

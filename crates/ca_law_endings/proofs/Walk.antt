-- The walk over all events: whatever holds of each ending holds of each event. It is the only place that goes over all verbs.
use Rattle.std.proofs.Common.{◌≡◌, ℕ, ◌==◌, ◌&&◌, nat_lt, not, Bool, true, false, List, [], ◌∷◌, ◌++◌, take, Option, None, Some, is_none, refl, sym, ap, subst, ◌∙◌, rules, if◌then◌else◌, append-nil}
use Rattle.std.specs.Option.{option_and_then, option_map, option_map_or}
use Rattle.ca_law_endings.proofs.LeadsLemmas.{leads-around, leads-unless}
use Rattle.ca_law_endings.specs.Runs.{Leads}
use Rattle.ca_base.specs.Configuration.{Configuration}
use Rattle.ca_base.specs.declared.change.Change as state_change
use Rattle.ca_base.specs.declared.change.Change.TheVariants as changes
use Rattle.ca_base.specs.declared.change.Field.TheVariants as fields
use Rattle.ca_base.specs.declared.completion.Completion.{Completion}
use Rattle.ca_base.specs.declared.correspondent.Correspondent.{Correspondent}
use Rattle.ca_base.specs.declared.limits.TheConstants.{MAX_MESSAGE_BYTES}
use Rattle.ca_base.specs.declared.lot.Lot.{Lot}
use Rattle.ca_base.specs.declared.request.RecvRequest.{RecvRequest}
use Rattle.ca_base.specs.declared.request.SendOp.{SendOp}
use Rattle.ca_base.specs.declared.request.SendOp.TheVariants as ops
use Rattle.ca_base.specs.declared.request.SendRequest.{SendRequest}
use Rattle.ca_base.specs.declared.step.Reason.{Reason}
use Rattle.ca_keys.specs.Refusals.{first_of}
use Rattle.ca_base.specs.declared.step.Reason.TheVariants as reasons
use Rattle.ca_base.specs.objects.CompletionQueue.{CompletionQueue}
use Rattle.ca_base.specs.objects.Domain.{without_object}
use Rattle.ca_base.specs.objects.Mailbox.{after_delivery, bytes_lent}
use Rattle.ca_base.specs.objects.QueuePair.{QueuePair, QueueSlot, NoQueue, Present, is_present}
use Rattle.ca_base.specs.objects.Region.{after_deregistration, deregistration_refusals, grant_of_region}
use Rattle.ca_base.specs.objects.SharedReceives.{SharedReceives, SrqSlot, is_full_of_receives}
use Rattle.ca_base.specs.objects.Slices.{has_queue}
use Rattle.ca_base.specs.objects.StateTable.{modify_refusals, queue_after_change}
use Rattle.ca_base.specs.objects.Window.{Binding, Window, after_draw, byte_drawn, key_of_window}
use Rattle.ca_base.specs.objects.Region.{with_window_unbound}
use Rattle.ca_model.specs.machine.Row.{region_under}
use Rattle.ca_model.specs.declared.mark.Mark.TheVariants as marks
use Rattle.ca_model.specs.machine.Completions.{flush_marks}
use Rattle.ca_keys.specs.Numbers.{key_at, queue_of, window_index}
use Rattle.ca_keys.specs.declared.grant.Grant.{Grant}
use Rattle.ca_keys.specs.declared.names.QueueId.{QueueId}
use Rattle.ca_keys.specs.declared.names.Slot.{Slot}
use Rattle.ca_law_world.proofs.Sound.PlanWalks.{binder_updates, changed_around, created, deallocated, destroyed, shared_beside}
use Rattle.ca_law_world.proofs.Sound.WorldLemmas.{is-there}
use Rattle.ca_model.specs.Requests.{is_local, list_length}
use Rattle.ca_base.specs.Sight.{Invalidation}
use Rattle.ca_base.specs.Grants.{grant_of_registration, next_low, registration_refusals}
use Rattle.ca_model.specs.machine.Seen.{sight_in, writes_in}
use Rattle.ca_model.specs.declared.answer.Answer.TheVariants as answers
use Rattle.ca_model.specs.declared.answer.Refusal.{Refusal}
use Rattle.ca_model.specs.declared.answer.Refusal.TheVariants.{CqInUse, CqTooSmall, DomainInUse, DomainTaken, NoDomain, NoSuch, OutOfRange, OutsideBuffer, QueueFull, SlotTaken, SrqInUse, TooLong, WindowsBound}
use Rattle.ca_model.specs.declared.event.Event.{Event}
use Rattle.ca_model.specs.declared.event.Event.TheVariants as events
use Rattle.ca_model.specs.declared.mark.Mark.{Mark}
use Rattle.ca_model.specs.declared.verb.Verb.{Verb}
use Rattle.ca_model.specs.declared.verb.Verb.TheVariants as verbs
use Rattle.ca_model.specs.machine.Around.{Around, With_around, With_queue, shared_in, updates_of}
use Rattle.ca_model.specs.machine.CompletionVerbs.{Poll_of, With_places, poll_plan, receives_after_poll, slot_after_poll, source_of_completion}
use Rattle.ca_model.specs.machine.Delivery.{Arrive, arrival_row, deliver_plan}
use Rattle.ca_model.specs.machine.HostVerbs.{inject_plan}
use Rattle.ca_model.specs.machine.Numbering.{Numbered}
use Rattle.ca_model.specs.machine.Plan.{Plan, Stuck, Look, If, Finish, Update, ◌:=◌, Write, put_all, unless_refused, write_all}
use Rattle.ca_model.specs.machine.PostingVerbs.{Posted_send, post_srq_plan, marks_of_flush, post_recv_plan, post_recv_refusals, post_send_plan, post_send_refusals}
use Rattle.ca_model.specs.machine.QueuePairVerbs.{Creation, With_present, With_shared, beside, create_qp_plan, destroy_qp_plan, has_bad_depth, has_no_room, modify_qp_plan, new_queue}
use Rattle.ca_model.specs.machine.RegionVerbs.{dereg_mr_plan}
use Rattle.ca_model.specs.machine.Requester.{RequestTurn, Waits, Performs, Sends, denied_list_effects, next_request, turn_of, turn_refusals}
use Rattle.ca_model.specs.machine.Respond.{respond_refusals, respond_row}
use Rattle.ca_model.specs.machine.Row.{Effects, Row_plan}
use Rattle.ca_model.specs.machine.Sound.{IsQueueOf, IsSoundWorld}
use Rattle.ca_model.specs.machine.Step.{bytes_of_buffer, is_named, plan, run_of, verb_plan}
use Rattle.ca_model.specs.machine.Timers.{after_timeout, after_wake, timeout_refusals, wake_refusals}
use Rattle.ca_model.specs.machine.Turns.{Fire, Leave_plan, Request_around, Respond_around, Timeout_around, With_receives, has_room_for, reaches_peer, request_plan, respond_plan, timeout_plan, wake_plan}
use Rattle.ca_model.specs.machine.VerbAnswers.{Answer_plan, Call, Refuse_plan, Unless_plan, answer_mark, of_change_refusals, of_region_refusals}
use Rattle.ca_model.specs.machine.WindowVerbs.{With_binder, dealloc_mw_plan}
use Rattle.ca_model.specs.machine.World.{World, Domain_of, Mailbox_of, Queue_of, Region_of, Srq_of, Window_of}
use Rattle.ca_law_endings.proofs.Endings.{End, IsAt, IsSo, after, changed, drawn_of, event_of, near, place_freed, places_freed, receiving, row_updates, sending, slot_drawn, told, window_of}
use Rattle.ca_law_endings.proofs.Leading.{leads-unless-all}
use Rattle.ca_law_endings.proofs.Operations.{leads-done}
use Rattle.ca_law_endings.proofs.Rows.{Rows, arrival-moves, leads-packet, leads-rows, respond-moves}

-- the requests that a turn performs are local operations
performs-local : (q : QueuePair) (n : Numbered) → turn_of q ≡ Performs n → is_local n.request.op ≡ true
performs-local q n is = sym (ap local is) ∙ by (first_of (turn_refusals q)) (next_request q)
  where
    local : RequestTurn → Bool
    local (Performs n) = is_local n.request.op
    local turn = true

    turn : Option Reason → Option Numbered → RequestTurn
    turn (Some reason) n = Waits reason
    turn None None = Waits reasons.Empty
    turn None (Some n) = if is_local n.request.op then Performs n else Sends n

    at : (n : Numbered) (b : Bool) → is_local n.request.op ≡ b → local (if b then Performs n else Sends n) ≡ true
    at n true is = is
    at n false is = refl

    by : (o : Option Reason) (m : Option Numbered) → local (turn o m) ≡ true
    by (Some reason) m = refl
    by None None = refl
    by None (Some n) = at n (is_local n.request.op) refl

-- each ending leads where it should
abbrev pub Owed : Configuration → World → (Event → World → List Mark → Type 0) → Type 0
Owed c w P = (e : End) → IsSo c w e → P (event_of e) (after c w e) (told c w e)

module _ (c : Configuration) (w : World) (P : Event → World → List Mark → Type 0) (sound : IsSoundWorld c w) (law : Owed c w P) where
  -- a verb that is refused
  refuse : (by : ℕ) (verb : Verb) (r : Refusal) → Leads w (P (events.Verb by verb)) (Refuse_plan (record { by = by; verb = verb }) r)
  refuse by verb r = law (End.Refused by verb r) (record {})

  -- a queue pair that a verb names
  present : (by : ℕ) (verb : Verb) (s : Slot) (k : QueuePair → Plan) → ((q : QueuePair) → IsAt w (queue_of s) q → Leads w (P (events.Verb by verb)) (k q))
      → Leads w (P (events.Verb by verb)) (With_present (record { by = by; verb = verb }) s k)
  present by verb s k more = at (w.queue (queue_of s)) refl (sound.things (Queue_of (queue_of s)))
    where
      there : QueueSlot → Plan
      there (NoQueue incarnation timers) = Refuse_plan (record { by = by; verb = verb }) NoSuch
      there (Present q) = k q

      at : (t : QueueSlot) → w.queue (queue_of s) ≡ t → IsQueueOf (queue_of s) t → Leads w (P (events.Verb by verb)) (there t)
      at (NoQueue incarnation timers) is one = refuse by verb NoSuch
      at (Present q) is one = more q (record { there = is-there w (queue_of s) q is one; own = one.0 })

  -- a queue pair of which a turn is
  turning : (event : Event) (name : QueueId) (k : QueuePair → Plan) → ((q : QueuePair) → IsAt w name q → has_queue c name ≡ true → Leads w (P event) (k q))
      → Leads w (P event) (With_queue c name reasons.State k)
  turning event name k more = (λ has. at has (w.queue name) refl (sound.things (Queue_of name)), λ none. record {})
    where
      there : QueueSlot → Plan
      there (NoQueue incarnation timers) = Stuck reasons.State
      there (Present q) = k q

      at : has_queue c name ≡ true → (t : QueueSlot) → w.queue name ≡ t → IsQueueOf name t → Leads w (P event) (there t)
      at has (NoQueue incarnation timers) is one = record {}
      at has (Present q) is one = more q (record { there = is-there w name q is one; own = one.0 }) has

  ends-dereg : (by : ℕ) (s : Slot) → is_named c (verbs.DeregMr s) ≡ true → Leads w (P (events.Verb by (verbs.DeregMr s))) (dereg_mr_plan (record { by = by; verb = verbs.DeregMr s }) s)
  ends-dereg by s named = leads-unless-all w (P (events.Verb by (verbs.DeregMr s))) (of_region_refusals (deregistration_refusals (w.region s))) (Refuse_plan call)
      (Answer_plan call answers.Fine ((Domain_of s.domain := without_object (w.domain s.domain)) ∷ (Region_of s := after_deregistration (w.region s)) ∷ [])
      (option_map_or (λ g. marks.Revoked s.domain.adapter g.key ∷ []) (grant_of_region (w.region s)) []))
      (λ r. refuse by (verbs.DeregMr s) r) (λ fails. law (End.DeregMr by s (grant_of_region (w.region s))) (named, refl, fails))
    where
      call : Call
      call = record { by = by; verb = verbs.DeregMr s }

  ends-dealloc : (by : ℕ) (s : Slot) → is_named c (verbs.DeallocMw s) ≡ true → Leads w (P (events.Verb by (verbs.DeallocMw s))) (dealloc_mw_plan (record { by = by; verb = verbs.DeallocMw s }) s)
  ends-dealloc by s named = (λ is. refuse by (verbs.DeallocMw s) NoSuch, λ there. at (w.window s).binding refl (λ o is. law (End.DeallocMw by s o) (named, is, there)))
    where
      x : Window
      x = w.window s

      done : List Update → List Mark → Plan
      done us ms = Answer_plan (record { by = by; verb = verbs.DeallocMw s }) answers.Fine us ms

      revoked : List Mark
      revoked = marks.Revoked s.domain.adapter (key_of_window x) ∷ []

      there : Option Binding → Plan
      there None = done (deallocated w s) []
      there (Some b) = Look (Region_of (region_under x b)) (λ region. With_binder b.queue (λ more. done (deallocated w s ++ (Region_of (region_under x b) := with_window_unbound region) ∷ more) revoked))

      binder : (us : List Update → List Update) (o : Option QueueId) → Leads w (P (events.Verb by (verbs.DeallocMw s))) (done (us (binder_updates w o)) revoked)
          → Leads w (P (events.Verb by (verbs.DeallocMw s))) (With_binder o (λ more. done (us more) revoked))
      binder us None leads = leads
      binder us (Some q) leads = leads

      at : (o : Option Binding) → x.binding ≡ o
          → ((o : Option Binding) → x.binding ≡ o → P (events.Verb by (verbs.DeallocMw s)) (after c w (End.DeallocMw by s o)) (told c w (End.DeallocMw by s o))) → Leads w (P (events.Verb by (verbs.DeallocMw s))) (there o)
      at None is ends = ends None is
      at (Some b) is ends = binder (λ more. deallocated w s ++ (Region_of (region_under x b) := with_window_unbound (w.region (region_under x b))) ∷ more) b.queue (ends (Some b) is)

  ends-create : (by : ℕ) (x : Creation) → Leads w (P (events.Verb by (verbs.CreateQp x.slot x.send_cq x.recv_cq x.send_depth x.recv_depth x.srq))) (create_qp_plan c (record { by = by; verb = verbs.CreateQp x.slot x.send_cq x.recv_cq x.send_depth x.recv_depth x.srq }) x)
  ends-create by x = (λ is. no NoDomain, λ there. (λ is. no SlotTaken, λ vacant. (λ has. looks there vacant, λ is. no NoSuch)))
    where
      call : Call
      call = record { by = by; verb = verbs.CreateQp x.slot x.send_cq x.recv_cq x.send_depth x.recv_depth x.srq }

      Q : World → List Mark → Type 0
      Q = P (events.Verb by (verbs.CreateQp x.slot x.send_cq x.recv_cq x.send_depth x.recv_depth x.srq))

      queue : QueueId
      queue = queue_of x.slot

      no : (r : Refusal) → Leads w Q (Refuse_plan call r)
      no r = refuse by (verbs.CreateQp x.slot x.send_cq x.recv_cq x.send_depth x.recv_depth x.srq) r

      there_plan : Option CompletionQueue → Option CompletionQueue → Option SrqSlot → Option SharedReceives → Plan
      there_plan (Some send) (Some recv) srq shared = If (is_none shared && not (is_none x.srq)) (Refuse_plan call NoSuch)
          (If (has_bad_depth x) (Refuse_plan call (OutOfRange fields.Depth)) (If (has_no_room x shared send recv) (Refuse_plan call CqTooSmall)
          (Answer_plan call (answers.Queue queue.number (new_queue x (w.queue queue)).incarnation) (created w x send recv srq shared) [])))
      there_plan send recv srq shared = Refuse_plan call NoSuch

      plan : Option SrqSlot → Option CompletionQueue → Option CompletionQueue → Plan
      plan srq send recv = there_plan send recv srq (option_and_then (λ s. s.srq) srq)

      at : not (w.domain x.slot.domain).allocated ≡ false → is_present (w.queue queue) ≡ false → (send : Option CompletionQueue) → w.cq (beside x.slot x.send_cq) ≡ send
          → (recv : Option CompletionQueue) → w.cq (beside x.slot x.recv_cq) ≡ recv → Leads w Q (plan (shared_beside w x) send recv)
      at there vacant None send-is recv recv-is = no NoSuch
      at there vacant (Some send) send-is None recv-is = no NoSuch
      at there vacant (Some send) send-is (Some recv) recv-is = (
        λ is. no NoSuch,
        λ named. (
          λ is. no (OutOfRange fields.Depth),
          λ depth. (
            λ is. no CqTooSmall,
            λ room.
                law (End.CreateQp by x send recv) (there, vacant, send-is, recv-is, depth),
          ),
        ),
      )

      looks : not (w.domain x.slot.domain).allocated ≡ false → is_present (w.queue queue) ≡ false
          → Leads w Q (With_shared x (λ srq. plan srq (w.cq (beside x.slot x.send_cq)) (w.cq (beside x.slot x.recv_cq))))
      looks there vacant = by-srq x.srq (at there vacant (w.cq (beside x.slot x.send_cq)) refl (w.cq (beside x.slot x.recv_cq)) refl)
        where
          look : Option ℕ → Plan
          look None = plan None (w.cq (beside x.slot x.send_cq)) (w.cq (beside x.slot x.recv_cq))
          look (Some srq) = Look (Srq_of (beside x.slot srq)) (λ slot. plan (Some slot) (w.cq (beside x.slot x.send_cq)) (w.cq (beside x.slot x.recv_cq)))

          by-srq : (o : Option ℕ) → Leads w Q (plan (option_map (λ srq. w.srq (beside x.slot srq)) o) (w.cq (beside x.slot x.send_cq)) (w.cq (beside x.slot x.recv_cq))) → Leads w Q (look o)
          by-srq None ends = ends
          by-srq (Some srq) ends = ends

  ends-modify : (by : ℕ) (s : Slot) (change : state_change.Change) → Leads w (P (events.Verb by (verbs.ModifyQp s change))) (modify_qp_plan c (record { by = by; verb = verbs.ModifyQp s change }) s change)
  ends-modify by s change = present by (verbs.ModifyQp s change) s _ (λ q at. leads-around w Q q (λ a. Unless_plan call (of_change_refusals (modify_refusals c q change)) (done q a))
      (leads-unless-all w Q (of_change_refusals (modify_refusals c q change)) (Refuse_plan call) (done q (near w q)) (λ r. refuse by (verbs.ModifyQp s change) r) (λ fails. law (End.ModifyQp by s q change) (at, fails))))
    where
      call : Call
      call = record { by = by; verb = verbs.ModifyQp s change }

      Q : World → List Mark → Type 0
      Q = P (events.Verb by (verbs.ModifyQp s change))

      flushed : QueuePair → state_change.Change → List Mark
      flushed q changes.Error = flush_marks q
      flushed q change = []

      done : QueuePair → Around → Plan
      done q a = Answer_plan call answers.Fine ((Queue_of q.queue := Present (queue_after_change change q)) ∷ changed_around w q a change) (flushed q change)

  ends-destroy : (by : ℕ) (s : Slot) → Leads w (P (events.Verb by (verbs.DestroyQp s))) (destroy_qp_plan (record { by = by; verb = verbs.DestroyQp s }) s)
  ends-destroy by s = present by (verbs.DestroyQp s) s _ (λ q at. leads-around w (P (events.Verb by (verbs.DestroyQp s))) q (λ a. If (nat_lt 0 q.windows) (Refuse_plan call WindowsBound) (Answer_plan call answers.Fine (destroyed w s q a) []))
      (λ is. refuse by (verbs.DestroyQp s) WindowsBound, λ free. law (End.DestroyQp by s q) (at, free)))
    where
      call : Call
      call = record { by = by; verb = verbs.DestroyQp s }

  ends-post : (by : ℕ) (s : Slot) (request : SendRequest) → is_named c (verbs.PostSend s request) ≡ true → Leads w (P (events.Verb by (verbs.PostSend s request))) (post_send_plan (record { by = by; verb = verbs.PostSend s request }) s request)
  ends-post by s request named = present by (verbs.PostSend s request) s (λ q. posting q request.op) (λ q at. on q at request.op refl)
    where
      call : Call
      call = record { by = by; verb = verbs.PostSend s request }

      Q : World → List Mark → Type 0
      Q = P (events.Verb by (verbs.PostSend s request))

      posting : QueuePair → SendOp → Plan
      posting q (ops.Bind1 window region address count rights) = Look (Window_of (beside s window)) (λ x. If (x.kind == 0) (Refuse_plan call NoSuch)
          (Posted_send call q request (byte_drawn x) (beside s window) ((Window_of (beside s window) := after_draw x) ∷ [])))
      posting q op = Posted_send call q request None s []

      no : (r : Refusal) → Leads w Q (Refuse_plan call r)
      no r = refuse by (verbs.PostSend s request) r

      -- a request that is posted, with the window that draws a byte
      posted : (q : QueuePair) (o : Option Slot) → Plan
      posted q o = Answer_plan call (answers.Posted (option_map (key_at (window_index (slot_drawn s o))) (drawn_of w o))) (changed c w (End.PostSend by s request q o)) (marks_of_flush (sending w request o q))

      post : (q : QueuePair) (o : Option Slot) → IsAt w (queue_of s) q → window_of s request.op ≡ o → Leads w Q (Unless_plan call (post_send_refusals request q) (posted q o))
      post q o at is = leads-unless-all w Q (post_send_refusals request q) (Refuse_plan call) (posted q o) no (λ fails. law (End.PostSend by s request q o) (at, is, fails, named))

      on : (q : QueuePair) → IsAt w (queue_of s) q → (op : SendOp) → request.op ≡ op → Leads w Q (posting q op)
      on q at (ops.Bind1 window region address count rights) is = (λ free. no NoSuch, λ there. post q (Some (beside s window)) at (ap (window_of s) is))
      on q at op is = post q None at (ap (window_of s) is)

  ends-poll : (by : ℕ) (s : Slot) (n least : ℕ) → Leads w (P (events.Verb by (verbs.Poll s n least))) (poll_plan (record { by = by; verb = verbs.Poll s n least }) s n least)
  ends-poll by s n least = at (w.cq s) refl
    where
      call : Call
      call = record { by = by; verb = verbs.Poll s n least }

      Q : World → List Mark → Type 0
      Q = P (events.Verb by (verbs.Poll s n least))

      places : (cq : CompletionQueue) (xs ys : List Completion) (k : List Update → Plan) → Leads w Q (k (places_freed w s cq xs ys)) → Leads w Q (With_places s cq xs ys k)
      places cq xs [] k leads = leads
      places cq xs (y ∷ ys) k leads = one (source_of_completion cq y) (λ u. With_places s cq xs ys (λ us. k (u ∷ us))) (places cq xs ys (λ us. k (place_freed w s cq xs y ∷ us)) leads)
        where
          plan : (Update → Plan) → Option ℕ → Plan
          plan next None = Look (Queue_of y.queue) (λ slot. next (Queue_of y.queue := slot_after_poll y.queue xs slot))
          plan next (Some srq) = Look (Srq_of (record { domain = s.domain; slot = srq })) (λ slot.
              next (Srq_of (record { domain = s.domain; slot = srq }) := record slot { srq = option_map (receives_after_poll cq srq xs) slot.srq }))

          freed : Option ℕ → Update
          freed None = Queue_of y.queue := slot_after_poll y.queue xs (w.queue y.queue)
          freed (Some srq) = Srq_of (record { domain = s.domain; slot = srq }) := record (w.srq (record { domain = s.domain; slot = srq })) {
            srq = option_map (receives_after_poll cq srq xs) (w.srq (record { domain = s.domain; slot = srq })).srq;
          }

          one : (o : Option ℕ) (next : Update → Plan) → Leads w Q (next (freed o)) → Leads w Q (plan next o)
          one None next leads = leads
          one (Some srq) next leads = leads

      at : (o : Option CompletionQueue) → w.cq s ≡ o → Leads w Q (Poll_of call s n least o)
      at None is = refuse by (verbs.Poll s n least) NoSuch
      at (Some cq) is = (
        λ range. refuse by (verbs.Poll s n least) (OutOfRange fields.Length),
        λ within. (
          λ few. record {},
          λ enough.
              places cq (take n cq.waiting) (take n cq.waiting) _ (law (End.Poll by s n least cq) is),
        ),
      )

  ends-recv : (by : ℕ) (s : Slot) (request : RecvRequest) → Leads w (P (events.Verb by (verbs.PostRecv s request))) (post_recv_plan (record { by = by; verb = verbs.PostRecv s request }) s request)
  ends-recv by s request = present by (verbs.PostRecv s request) s _ (λ q at. leads-unless-all w (P (events.Verb by (verbs.PostRecv s request))) (post_recv_refusals request q) (Refuse_plan call) (posted q)
      (λ r. refuse by (verbs.PostRecv s request) r) (λ fails. law (End.PostRecv by s request q) (at, fails)))
    where
      call : Call
      call = record { by = by; verb = verbs.PostRecv s request }

      posted : QueuePair → Plan
      posted q = Answer_plan call (answers.Posted None) (changed c w (End.PostRecv by s request q)) (marks_of_flush (receiving request q))

  ends-srq : (by : ℕ) (s : Slot) (request : RecvRequest) → Leads w (P (events.Verb by (verbs.PostSrq s request))) (post_srq_plan (record { by = by; verb = verbs.PostSrq s request }) s request)
  ends-srq by s request = at (w.srq s).srq refl
    where
      call : Call
      call = record { by = by; verb = verbs.PostSrq s request }

      posting : Option SharedReceives → Plan
      posting None = Refuse_plan call NoSuch
      posting (Some srq) = If (nat_lt MAX_MESSAGE_BYTES (list_length request.list.items)) (Refuse_plan call TooLong) (If (is_full_of_receives srq) (Refuse_plan call QueueFull)
          (Answer_plan call (answers.Posted None) (changed c w (End.PostSrq by s request srq)) []))

      at : (o : Option SharedReceives) → (w.srq s).srq ≡ o → Leads w (P (events.Verb by (verbs.PostSrq s request))) (posting o)
      at None is = refuse by (verbs.PostSrq s request) NoSuch
      at (Some srq) is = (λ long. refuse by (verbs.PostSrq s request) TooLong, λ short. (λ full. refuse by (verbs.PostSrq s request) QueueFull, λ free. law (End.PostSrq by s request srq) is))

  -- bytes that arrive at a queue pair, behind a change and a mark
  arrives : (event : Event) (q : QueuePair) (bytes : List ℕ) (envelope : Option ℕ) (us : List Update) (ms : List Mark)
      → ((i : Option Invalidation) (e : Effects) → Rows c w q (arrival_row bytes envelope (shared_in (near w q)) q) i e
      → P event (write_all (writes_in (sight_in c w) e.writes) (put_all (us ++ row_updates c w q i e) w)) (ms ++ marks.Arrived q.queue envelope ∷ e.marks))
      → Leads w (P event) (Arrive c q bytes envelope us ms)
  arrives event q bytes envelope us ms more = leads-around w (P event) q (λ a. Row_plan c (arrival_row bytes envelope (shared_in a) q) (finish a))
      (leads-rows c w (P event) q (arrival_row bytes envelope (shared_in (near w q)) q) (finish (near w q)) (arrival-moves (sight_in c w) bytes envelope (shared_in (near w q)) q) more)
    where
      finish : Around → Effects → List Update → List Write → Plan
      finish a e more writes = Finish (us ++ (updates_of q a e ++ more)) writes (ms ++ marks.Arrived q.queue envelope ∷ e.marks)

  ends-inject : (by : ℕ) (name : QueueId) (bytes : List ℕ) → Leads w (P (events.Verb by (verbs.Inject name bytes))) (inject_plan c (record { by = by; verb = verbs.Inject name bytes }) name bytes)
  ends-inject by name bytes = at (w.queue name) refl (sound.things (Queue_of name))
    where
      call : Call
      call = record { by = by; verb = verbs.Inject name bytes }

      there : QueueSlot → Plan
      there (NoQueue incarnation timers) = Refuse_plan call NoSuch
      there (Present q) = Arrive c q bytes None [] (answer_mark call answers.Fine ∷ [])

      at : (t : QueueSlot) → w.queue name ≡ t → IsQueueOf name t → Leads w (P (events.Verb by (verbs.Inject name bytes))) (there t)
      at (NoQueue incarnation timers) is one = refuse by (verbs.Inject name bytes) NoSuch
      at (Present q) is one = arrives (events.Verb by (verbs.Inject name bytes)) q bytes None [] (answer_mark call answers.Fine ∷ [])
          (λ i e rows. law (End.Inject by name bytes q i e) (record { there = is-there w name q is one; own = one.0 }, rows))

  ends-deliver : (name : QueueId) (index : ℕ) → Leads w (P (events.Deliver name index)) (deliver_plan c name index)
  ends-deliver name index = (λ has. lent (bytes_lent index (w.mailbox name)) refl, λ none. record {})
    where
      at : List ℕ → QueueSlot → Plan
      at bytes (NoQueue incarnation timers) = Stuck reasons.NotKept
      at bytes (Present q) = Arrive c q bytes (Some index) ((Mailbox_of name := after_delivery index (w.mailbox name)) ∷ []) []

      under_way : Option (List ℕ) → Plan
      under_way None = Stuck reasons.NotKept
      under_way (Some bytes) = Look (Queue_of name) (at bytes)

      there : (bytes : List ℕ) → bytes_lent index (w.mailbox name) ≡ Some bytes → (t : QueueSlot) → w.queue name ≡ t → IsQueueOf name t → Leads w (P (events.Deliver name index)) (at bytes t)
      there bytes kept (NoQueue incarnation timers) is one = record {}
      there bytes kept (Present q) is one = arrives (events.Deliver name index) q bytes (Some index) ((Mailbox_of name := after_delivery index (w.mailbox name)) ∷ []) []
          (λ i e rows. law (End.Deliver name index bytes q i e) (record { there = is-there w name q is one; own = one.0 }, kept, rows))

      lent : (o : Option (List ℕ)) → bytes_lent index (w.mailbox name) ≡ o → Leads w (P (events.Deliver name index)) (under_way o)
      lent None kept = record {}
      lent (Some bytes) kept = there bytes kept (w.queue name) refl (sound.things (Queue_of name))

  ends-respond : (name : QueueId) (lot : Lot) → Leads w (P (events.Respond name lot)) (respond_plan c name lot)
  ends-respond name lot = turning (events.Respond name lot) name (λ q. With_around q (λ a. Respond_around c lot q a q.peer))
      (λ q at has. leads-around w Q q (λ a. Respond_around c lot q a q.peer) (to q at q.peer refl))
    where
      Q : World → List Mark → Type 0
      Q = P (events.Respond name lot)

      to : (q : QueuePair) → IsAt w name q → (peer : Option Correspondent) → q.peer ≡ peer → Leads w Q (Respond_around c lot q (near w q) peer)
      to q at None is = leads-unless w Q (respond_refusals true q) Stuck (Stuck reasons.Empty) (λ r. record {}) (record {})
      to q at (Some peer) is = leads-rows c w Q q (respond_row (has_room_for q peer (w.mailbox peer.queue)) q) (Leave_plan q (near w q) peer (w.mailbox peer.queue) lot)
          (respond-moves (sight_in c w) (has_room_for q peer (w.mailbox peer.queue)) q) (λ i e rows. law (End.Respond name lot q peer i e) (at, is, rows))

  ends-request : (name : QueueId) (lot : Lot) → Leads w (P (events.Request name lot)) (request_plan c name lot)
  ends-request name lot = turning (events.Request name lot) name (λ q. With_around q (λ a. Request_around c lot q a q.peer (turn_of q)))
      (λ q at has. leads-around w Q q (λ a. Request_around c lot q a q.peer (turn_of q)) (to q at has q.peer refl (turn_of q) refl))
    where
      Q : World → List Mark → Type 0
      Q = P (events.Request name lot)

      to : (q : QueuePair) → IsAt w name q → has_queue c name ≡ true → (peer : Option Correspondent) → q.peer ≡ peer → (turn : RequestTurn) → turn_of q ≡ turn → Leads w Q (Request_around c lot q (near w q) peer turn)
      to q at has peer own (Waits reason) is = record {}
      to q at has peer own (Performs n) is = leads-done c w Q q n (λ e changes writes. Finish (updates_of q (near w q) e ++ changes) writes e.marks) n.request.op (performs-local q n is)
          (law (End.Perform name lot q n) (at, is, has, performs-local q n is))
      to q at has None own (Sends n) is = record {}
      to q at has (Some peer) own (Sends n) is = leads-packet c w Q q (has_room_for q peer (w.mailbox peer.queue)) n (Leave_plan q (near w q) peer (w.mailbox peer.queue) lot)
          (λ d denied none. subst (λ ms. Q (after c w (End.Deny name lot q peer n d)) ms) (sym (append-nil (denied_list_effects q d).marks)) (law (End.Deny name lot q peer n d) (at, own, is, denied, none))) (λ few room allowed. law (End.Send name lot q peer n) (at, own, is, few, room, allowed))

  ends-timeout : (name : QueueId) (hasten : Bool) → Leads w (P (events.Timeout name hasten)) (timeout_plan c name hasten)
  ends-timeout name hasten = turning (events.Timeout name hasten) name (λ q. Look (Mailbox_of name) (λ own. With_around q (λ a. Timeout_around hasten q own a q.peer)))
      (λ q at has. leads-around w Q q (λ a. Timeout_around hasten q (w.mailbox name) a q.peer) (to q at q.peer))
    where
      Q : World → List Mark → Type 0
      Q = P (events.Timeout name hasten)

      to : (q : QueuePair) → IsAt w name q → (peer : Option Correspondent) → Leads w Q (Timeout_around hasten q (w.mailbox name) (near w q) peer)
      to q at None = leads-unless w Q (timeout_refusals false hasten q) Stuck (Stuck reasons.Empty) (λ r. record {}) (record {})
      to q at (Some peer) = fire _
        where
          fire : (silent : Bool) → Leads w Q (Fire hasten q (near w q) silent)
          fire silent = leads-unless-all w Q (timeout_refusals silent hasten q) Stuck (Finish (updates_of q (near w q) (after_timeout silent q)) [] (after_timeout silent q).marks) (λ r. record {})
              (λ fails. law (End.Timeout name hasten q silent) (at, fails))

  ends-wake : (name : QueueId) → Leads w (P (events.RnrWake name)) (wake_plan c name)
  ends-wake name = turning (events.RnrWake name) name (λ q. waking q q.peer) (λ q at has. to q at q.peer)
    where
      Q : World → List Mark → Type 0
      Q = P (events.RnrWake name)

      wakes : QueuePair → Bool → Plan
      wakes q empty = unless_refused (wake_refusals empty q) Stuck (Finish ((Queue_of q.queue := Present (after_wake q).queue) ∷ []) [] (after_wake q).marks)

      waking : QueuePair → Option Correspondent → Plan
      waking q None = unless_refused (wake_refusals false q) Stuck (Stuck reasons.Empty)
      waking q (Some peer) = Look (Queue_of peer.queue) (λ slot. Look (Mailbox_of peer.queue) (λ m. With_receives slot (λ empty. wakes q (reaches_peer q peer m && empty))))

      receives : (slot : QueueSlot) (k : Bool → Plan) → ((b : Bool) → Leads w Q (k b)) → Leads w Q (With_receives slot k)
      receives slot k more = search rules

      to : (q : QueuePair) → IsAt w name q → (peer : Option Correspondent) → Leads w Q (waking q peer)
      to q at None = leads-unless w Q (wake_refusals false q) Stuck (Stuck reasons.Empty) (λ r. record {}) (record {})
      to q at (Some peer) = receives (w.queue peer.queue) (λ empty. wakes q (reaches_peer q peer (w.mailbox peer.queue) && empty)) (λ empty. wake _)
        where
          wake : (empty : Bool) → Leads w Q (wakes q empty)
          wake empty = leads-unless w Q (wake_refusals empty q) Stuck (Finish ((Queue_of q.queue := Present (after_wake q).queue) ∷ []) [] (after_wake q).marks) (λ r. record {}) (law (End.RnrWake name q) at)

  -- every verb
  ends-verb : (by : ℕ) (verb : Verb) → is_named c verb ≡ true → Leads w (P (events.Verb by verb)) (verb_plan c (record { by = by; verb = verb }) verb)
  ends-verb by (verbs.AllocPd d) named = (λ is. refuse by (verbs.AllocPd d) DomainTaken, λ is. law (End.AllocPd by d) is)
  ends-verb by (verbs.DeallocPd d) named = (λ is. refuse by (verbs.DeallocPd d) NoDomain, λ there. (λ is. refuse by (verbs.DeallocPd d) DomainInUse, λ is. law (End.DeallocPd by d) (there, is)))
  ends-verb by (verbs.RegMr s buffer offset count rights) named = (
    λ is. no NoDomain,
    λ there. (
      λ is. no SlotTaken,
      λ vacant.
          leads-unless-all w (P (events.Verb by (verbs.RegMr s buffer offset count rights))) (of_region_refusals (registration_refusals (run_of s.domain.adapter buffer offset count) (bytes_of_buffer c s.domain.adapter buffer) rights))
          (Refuse_plan call) (Answer_plan call (answers.Key g.key) (changed c w (End.RegMr by s buffer offset count rights)) (marks.Granted g ∷ [])) no
          (λ fails. law (End.RegMr by s buffer offset count rights) (named, there, vacant, fails)),
    ),
  )
    where
      call : Call
      call = record { by = by; verb = verbs.RegMr s buffer offset count rights }

      g : Grant
      g = grant_of_registration s (run_of s.domain.adapter buffer offset count) rights (next_low (w.region s).low)

      no : (r : Refusal) → Leads w (P (events.Verb by (verbs.RegMr s buffer offset count rights))) (Refuse_plan call r)
      no r = refuse by (verbs.RegMr s buffer offset count rights) r
  ends-verb by (verbs.AllocMr s pages) named = (λ is. no NoDomain, λ there. (λ is. no SlotTaken, λ vacant. (λ is. no (OutOfRange fields.Pages), λ some. law (End.AllocMr by s pages) (named, there, vacant, some))))
    where
      no : (r : Refusal) → Leads w (P (events.Verb by (verbs.AllocMr s pages))) (Refuse_plan (record { by = by; verb = verbs.AllocMr s pages }) r)
      no r = refuse by (verbs.AllocMr s pages) r
  ends-verb by (verbs.DeregMr s) named = ends-dereg by s named
  ends-verb by (verbs.AllocMw s kind) named = (λ is. no NoDomain, λ there. (λ is. no SlotTaken, λ vacant. (λ is. no (OutOfRange fields.Kind), λ some. law (End.AllocMw by s kind) (named, there, vacant, some))))
    where
      no : (r : Refusal) → Leads w (P (events.Verb by (verbs.AllocMw s kind))) (Refuse_plan (record { by = by; verb = verbs.AllocMw s kind }) r)
      no r = refuse by (verbs.AllocMw s kind) r
  ends-verb by (verbs.DeallocMw s) named = ends-dealloc by s named
  ends-verb by (verbs.CreateCq s capacity) named = (λ is. no NoDomain, λ there. (λ is. no SlotTaken, λ vacant. (λ is. no (OutOfRange fields.Capacity), λ some. law (End.CreateCq by s capacity) (named, there, vacant, some))))
    where
      no : (r : Refusal) → Leads w (P (events.Verb by (verbs.CreateCq s capacity))) (Refuse_plan (record { by = by; verb = verbs.CreateCq s capacity }) r)
      no r = refuse by (verbs.CreateCq s capacity) r
  ends-verb by (verbs.DestroyCq s) named = (λ is. refuse by (verbs.DestroyCq s) NoSuch, λ there. (λ is. refuse by (verbs.DestroyCq s) CqInUse, λ free. law (End.DestroyCq by s) (named, there, free)))
  ends-verb by (verbs.CreateSrq s depth) named = (λ is. no NoDomain, λ there. (λ is. no SlotTaken, λ vacant. (λ is. no (OutOfRange fields.Depth), λ some. law (End.CreateSrq by s depth) (named, there, vacant, some))))
    where
      no : (r : Refusal) → Leads w (P (events.Verb by (verbs.CreateSrq s depth))) (Refuse_plan (record { by = by; verb = verbs.CreateSrq s depth }) r)
      no r = refuse by (verbs.CreateSrq s depth) r
  ends-verb by (verbs.DestroySrq s) named = (λ is. refuse by (verbs.DestroySrq s) NoSuch, λ there. (λ is. refuse by (verbs.DestroySrq s) SrqInUse, λ free. law (End.DestroySrq by s) (named, there, free)))
  ends-verb by (verbs.CreateQp slot send_cq recv_cq send_depth recv_depth srq) named =
      ends-create by (record { slot = slot; send_cq = send_cq; recv_cq = recv_cq; send_depth = send_depth; recv_depth = recv_depth; srq = srq })
  ends-verb by (verbs.ModifyQp s change) named = ends-modify by s change
  ends-verb by (verbs.QueryQp s) named = present by (verbs.QueryQp s) s _ (λ q at. law (End.QueryQp by s q) at)
  ends-verb by (verbs.DestroyQp s) named = ends-destroy by s
  ends-verb by (verbs.PostSend s request) named = ends-post by s request named
  ends-verb by (verbs.PostRecv s request) named = ends-recv by s request
  ends-verb by (verbs.PostSrq s request) named = ends-srq by s request
  ends-verb by (verbs.Poll s n least) named = ends-poll by s n least
  ends-verb by (verbs.Store adapter buffer offset bytes) named = (λ is. no (OutOfRange fields.Length), λ within. (λ is. no OutsideBuffer, λ inside. law (End.Store by adapter buffer offset bytes) (within, (inside, record {}))))
    where
      no : (r : Refusal) → Leads w (P (events.Verb by (verbs.Store adapter buffer offset bytes))) (Refuse_plan (record { by = by; verb = verbs.Store adapter buffer offset bytes }) r)
      no r = refuse by (verbs.Store adapter buffer offset bytes) r
  ends-verb by (verbs.Load adapter buffer offset count) named = (λ is. no (OutOfRange fields.Length), λ within. (λ is. no OutsideBuffer, λ inside. law (End.Load by adapter buffer offset count) (within, (inside, record {}))))
    where
      no : (r : Refusal) → Leads w (P (events.Verb by (verbs.Load adapter buffer offset count))) (Refuse_plan (record { by = by; verb = verbs.Load adapter buffer offset count }) r)
      no r = refuse by (verbs.Load adapter buffer offset count) r
  ends-verb by (verbs.Inject name bytes) named = ends-inject by name bytes

  -- every event leads where each of its endings should
  pub walk-event : (event : Event) → Leads w (P event) (plan c event)
  walk-event (events.Verb by verb) = (λ named. ends-verb by verb named, λ none. refuse by verb NoSuch)
  walk-event (events.Request name lot) = ends-request name lot
  walk-event (events.Deliver name index) = ends-deliver name index
  walk-event (events.Respond name lot) = ends-respond name lot
  walk-event (events.Timeout name hasten) = ends-timeout name hasten
  walk-event (events.RnrWake name) = ends-wake name

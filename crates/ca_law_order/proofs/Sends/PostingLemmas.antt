-- Posts, polls and the verbs that end keys complete sends in order, and keep the agreement on those that completed. For
-- proofs only.
use Rattle.std.proofs.Common.{◌≡◌, ℕ, zero, suc, ◌-◌, ◌<◌, ◌≤◌, ◌==◌, ◌||◌, nat_lt, Bool, true, false, if◌then◌else◌, List, [], ◌∷◌, ◌++◌, length, take, Option, None, Some, is_some, slice_get, refl, sym, ap, subst, ◌∙◌, arith, true≢false}
use Rattle.std.proofs.lemmas.Bool.{ltb-false}
use Rattle.std.proofs.lemmas.Option.{same_Some, slice_get_within}
use Rattle.std.proofs.lemmas.List.{length-append}
use Rattle.std.specs.Option.{option_map, option_map_or}
use Rattle.ca_law_endings.proofs.LeadsLemmas.{leads-unless}
use Rattle.ca_law_endings.proofs.PathChangeLemmas.{Behind}
use Rattle.ca_law_endings.proofs.PathVerbLemmas.{agrees-present, call_of}
use Rattle.ca_law_endings.specs.Runs.{Leads}
use Rattle.ca_law_keys.proofs.Keys.KeyTurnLemmas.{found}
use Rattle.ca_law_keys.proofs.Posts.PostMade.{life-refl, other-life}
use Rattle.ca_law_keys.specs.Posts.{AgreeInSlot, life}
use Rattle.ca_law_order.proofs.Sends.CompleteLemmas.{Complete, between-test, none-between, test-between}
use Rattle.ca_law_order.proofs.Sends.SendLemmas.{IsReadyQueue, IsRequestAt, flush-complete}
use Rattle.ca_law_order.proofs.Sends.TurnLemmas.{AreAway, IsMet, Sends_of, order-arrive, order-left, order-turn, ready-there}
use Rattle.ca_law_order.proofs.Sends.VerbLemmas.{AreKept, IsKept, OrderingBy, order-kept}
use Rattle.ca_law_order.specs.Completed.{CompletedAgree, CompletedInSlot, StandBefore}
use Rattle.ca_base.specs.Configuration.{Configuration}
use Rattle.ca_base.specs.declared.change.Field.TheVariants as fields
use Rattle.ca_base.specs.declared.change.State.TheVariants as states
use Rattle.ca_base.specs.declared.completion.Completion.{Completion}
use Rattle.ca_base.specs.declared.limits.TheConstants.{MAX_POLLED}
use Rattle.ca_base.specs.declared.request.PostedSend.{PostedSend}
use Rattle.ca_base.specs.declared.request.RecvRequest.{RecvRequest}
use Rattle.ca_base.specs.declared.request.SendOp.{SendOp}
use Rattle.ca_base.specs.declared.request.SendOp.TheVariants as ops
use Rattle.ca_base.specs.declared.request.SendRequest.{SendRequest}
use Rattle.ca_base.specs.declared.step.Reason.TheVariants as reasons
use Rattle.ca_base.specs.objects.CompletionQueue.{CompletionQueue, after_polls, after_puts}
use Rattle.ca_base.specs.objects.Domain.{without_object}
use Rattle.ca_base.specs.objects.QueuePair.{QueuePair, QueueSlot, NoQueue, Present, recv_cq_of, send_cq_of, with_all_flushed}
use Rattle.ca_base.specs.objects.Region.{Region, after_deregistration, deregistration_refusals, grant_of_region, with_window_unbound}
use Rattle.ca_base.specs.objects.StateTable.{state_eq}
use Rattle.ca_base.specs.objects.Window.{Binding, Window, after_deallocation, after_draw, byte_drawn, key_of_window}
use Rattle.ca_base.specs.objects.WorkQueue.{WorkQueue, after_retire, item_at, next_place, with_item}
use Rattle.ca_keys.specs.Equal.{queue_eq}
use Rattle.ca_keys.specs.Numbers.{key_at, queue_of, window_index}
use Rattle.ca_keys.specs.declared.grant.Grant.{Grant}
use Rattle.ca_keys.specs.declared.names.QueueId.{QueueId}
use Rattle.ca_keys.specs.declared.names.Slot.{Slot}
use Rattle.ca_law_world.proofs.Sound.WorldLemmas.{IsThere}
use Rattle.ca_model.specs.Ordered.{are_unsignalled, place_behind}
use Rattle.ca_model.specs.Past.{Past, Posted, correspondent_eq, drawn_at, present_incarnation, with_at}
use Rattle.ca_model.specs.declared.answer.Answer.{Answer}
use Rattle.ca_model.specs.declared.answer.Answer.TheVariants as answers
use Rattle.ca_model.specs.declared.answer.Refusal.TheVariants.{NoSuch, OutOfRange}
use Rattle.ca_model.specs.declared.mark.Mark.{Mark}
use Rattle.ca_model.specs.declared.mark.Mark.TheVariants as marks
use Rattle.ca_model.specs.declared.verb.Verb.TheVariants as verbs
use Rattle.ca_model.specs.machine.Around.{completions_to}
use Rattle.ca_model.specs.machine.CompletionVerbs.{Poll_of, Take_plan, With_place, With_places, after_poll, poll_plan, receives_after_poll, slot_after_poll, source_of_completion}
use Rattle.ca_model.specs.machine.Completions.{flush_marks}
use Rattle.ca_model.specs.machine.Delivery.{Arrive}
use Rattle.ca_model.specs.machine.HostVerbs.{inject_plan}
use Rattle.ca_model.specs.machine.Plan.{Plan, If, Look, Stuck, Update, ◌:=◌, put_all}
use Rattle.ca_model.specs.machine.PostingVerbs.{Posted_send, after_flush, marks_of_flush, post_recv_plan, post_recv_refusals, post_send_plan, post_send_refusals, with_send}
use Rattle.ca_model.specs.machine.QueuePairVerbs.{beside}
use Rattle.ca_model.specs.machine.RegionVerbs.{dereg_mr_plan}
use Rattle.ca_model.specs.machine.Row.{region_under}
use Rattle.ca_model.specs.machine.VerbAnswers.{Answer_plan, Call, Refuse_plan, Unless_plan, answer_mark, of_region_refusals}
use Rattle.ca_model.specs.machine.WindowVerbs.{With_binder, dealloc_mw_plan, queue_updates}
use Rattle.ca_model.specs.machine.World.{Cq_of, Domain_of, Queue_of, Region_of, Srq_of, Window_of, World}

-- ---- a send request is posted

-- an element of a list and one more is one of the list, or the one
at-end : {A P : Type 0} (xs : List A) (y : A) (i : ℕ) (z : A) → slice_get (xs ++ (y ∷ [])) i ≡ Some z → (slice_get xs i ≡ Some z → P) → (i ≡ length xs → y ≡ z → P) → P
at-end [] y zero z is one other = other refl (same_Some y z is)
at-end [] y (suc i) z is one other = absurd (true≢false (sym (ap is_some is)))
at-end (x ∷ xs) y zero z is one other = one is
at-end (x ∷ xs) y (suc i) z is one other = at-end xs y i z is one (λ e. other (ap suc e))

get-last : {A : Type 0} (xs : List A) (y : A) (i : ℕ) → i ≡ length xs → slice_get (xs ++ (y ∷ [])) i ≡ Some y
get-last [] y zero e = refl
get-last [] y (suc i) e = absurd (omega (arith, e))
get-last (x ∷ xs) y zero e = absurd (omega (arith, e))
get-last (x ∷ xs) y (suc i) e = get-last xs y i (omega (arith, e))

get-within : {A : Type 0} (xs ys : List A) (i : ℕ) → i < length xs → slice_get (xs ++ ys) i ≡ slice_get xs i
get-within [] ys i less = absurd (omega (arith, less))
get-within (x ∷ xs) ys zero less = refl
get-within (x ∷ xs) ys (suc i) less = get-within xs ys i (omega (arith, less))

-- one more is posted behind all that are there
more-sends : (ps : List Posted) (x : Posted) (y : PostedSend) (sends : WorkQueue PostedSend) → x.request ≡ y.request → next_place sends ≡ length ps
    → ((place : ℕ) (z : PostedSend) → item_at place sends ≡ Some z → IsRequestAt ps place z.request)
    → (place : ℕ) (z : PostedSend) → item_at place (with_item y sends) ≡ Some z → IsRequestAt (ps ++ (x ∷ [])) place z.request
more-sends ps x y sends same count has place z = by (nat_lt place sends.first) refl (has place z)
  where
    by : (b : Bool) → nat_lt place sends.first ≡ b → ((if b then None else slice_get sends.items (place - sends.first)) ≡ Some z → IsRequestAt ps place z.request)
        → (if b then None else slice_get (sends.items ++ (y ∷ [])) (place - sends.first)) ≡ Some z → IsRequestAt (ps ++ (x ∷ [])) place z.request
    by true e more is = absurd (true≢false (sym (ap is_some is)))
    by false e more is = at-end sends.items y (place - sends.first) z is (λ old. before (more old))
        (λ last new. record { posted = x; is = get-last ps x place (omega (arith, ltb-false place sends.first e, last, count)); same = same ∙ ap (λ (t : PostedSend). t.request) new })
      where
        before : IsRequestAt ps place z.request → IsRequestAt (ps ++ (x ∷ [])) place z.request
        before at = record { posted = at.posted; is = get-within ps (x ∷ []) place (slice_get_within ps place at.posted at.is) ∙ at.is; same = at.same }

more-between : (ps : List Posted) (x : Posted) (from to : ℕ) → to ≤ length ps → are_unsignalled ps from to ≡ true → are_unsignalled (ps ++ (x ∷ [])) from to ≡ true
more-between ps x from to few none = between-test (ps ++ (x ∷ [])) from to
    (λ place p low high is. test-between ps from to none place p low high (sym (get-within ps (x ∷ []) place (omega (arith, few, high))) ∙ is))

-- a queue pair in Error flushes what is posted at once
flush-completes : (ps : List Posted) (q : QueuePair) → IsReadyQueue ps q → Complete q.queue ps q.requester.oldest (marks_of_flush q) (after_flush q).requester.oldest
flush-completes ps q ready = by (state_eq q.state states.Error)
  where
    by : (b : Bool) → Complete q.queue ps q.requester.oldest (if b then flush_marks q else []) (if b then with_all_flushed q else q).requester.oldest
    by true = flush-complete ps q ready
    by false = (omega arith, none-between ps q.requester.oldest)

posted-order : (c : Configuration) (past : Past) (w : World) (by : ℕ) (s : Slot) (request : SendRequest) (q : QueuePair) (drawn : Option ℕ) (window : Slot) (more : List Update) → IsMet c past w → IsThere w q → q.queue ≡ queue_of s → AreAway more
    → Leads w (OrderingBy past by (verbs.PostSend s request)) (Posted_send (call_of by (verbs.PostSend s request)) q request drawn window more)
posted-order c past w by s request q drawn window more met there own away = leads-unless w (OrderingBy past by (verbs.PostSend s request)) (post_send_refusals request q) (Refuse_plan call)
    (Answer_plan call answer ((Queue_of q.queue := Present (after_flush posted)) ∷ us) (marks_of_flush posted)) (λ r. (refl, met.agree))
    (order-left r w q.queue q.requester.oldest (after_flush posted) [] us [] (marks_of_flush posted) others met.agree.later
    (subst (λ l. StandBefore l (past.last_send (present_incarnation past q.queue)) q.requester.oldest) (sym here) (record { before = was.before; between = more-between ps (asked q.queue) (place_behind (past.last_send (present_incarnation past q.queue))) q.requester.oldest few was.between }))
    (subst (λ l. Complete q.queue l q.requester.oldest (marks_of_flush posted) (after_flush posted).requester.oldest) (sym here) (flush-completes (grown q.queue) posted (record {
      at = more-sends ps (asked q.queue) (record { request = request; drawn = drawn }) q.sends refl count ready.at;
      first = ready.first;
      last = omega (arith, ready.last, length-append q.sends.items (record { request = request; drawn = drawn } ∷ []));
    }))) (record {}) (record {}, away))
  where
    call : Call
    call = call_of by (verbs.PostSend s request)

    answer : Answer
    answer = answers.Posted (option_map (key_at (window_index window)) drawn)

    posted : QueuePair
    posted = with_send request drawn q

    us : List Update
    us = (Cq_of (send_cq_of q) := option_map (after_puts (completions_to q q.send_cq (marks_of_flush posted))) (w.cq (send_cq_of q))) ∷ more

    r : Past
    r = Behind past by (verbs.PostSend s request) answer

    ps : List Posted
    ps = Sends_of past q

    ready : IsReadyQueue ps q
    ready = ready-there c past w q met.posted there

    count : next_place q.sends ≡ length ps
    count = (subst (AgreeInSlot ps (past.performed (present_incarnation past q.queue))) there.present (met.posted.agree.sends q.queue)).count

    few : q.requester.oldest ≤ length ps
    few = omega (arith, ready.last, count)

    was : StandBefore ps (past.last_send (present_incarnation past q.queue)) q.requester.oldest
    was = subst (CompletedInSlot ps (past.last_send (present_incarnation past q.queue))) there.present (met.agree.sends q.queue)

    -- what is posted to a queue pair, and what was posted to it behind that
    asked : QueueId → Posted
    asked n = record {
      place = length (past.posted (present_incarnation past n));
      request = request;
      drawn = drawn_at past (queue_of s) request.op (option_map (key_at (window_index window)) drawn);
    }

    grown : QueueId → List Posted
    grown n = past.posted (present_incarnation past n) ++ (asked n ∷ [])

    here : r.posted (present_incarnation past q.queue) ≡ grown q.queue
    here = ap (λ n. with_at correspondent_eq past.posted (present_incarnation past n) (grown n) (present_incarnation past q.queue)) (sym own)
        ∙ ap (λ b. if b then grown q.queue else ps) (life-refl (present_incarnation past q.queue))

    others : (n : QueueId) → queue_eq q.queue n ≡ false → CompletedInSlot (r.posted (life n (past.incarnation n))) (past.last_send (life n (past.incarnation n))) (w.queue n)
    others n other = subst (λ l. CompletedInSlot l (past.last_send (life n (past.incarnation n))) (w.queue n))
        (sym (ap (λ b. if b then grown (queue_of s) else past.posted (life n (past.incarnation n)))
        (other-life (queue_of s) n (past.incarnation (queue_of s)) (past.incarnation n) (subst (λ m. queue_eq m n ≡ false) own other)))) (met.agree.sends n)

pub order-post_send : (c : Configuration) (past : Past) (w : World) (by : ℕ) (s : Slot) (request : SendRequest) → IsMet c past w
    → Leads w (OrderingBy past by (verbs.PostSend s request)) (post_send_plan (call_of by (verbs.PostSend s request)) s request)
order-post_send c past w by s request met = agrees-present c w P call s (λ q. posting q request.op) met.posted.sound (refl, met.agree) (λ q is own. on q (found c w q.queue q met.posted.sound is) own request.op)
  where
    P : World → List Mark → Type 0
    P = OrderingBy past by (verbs.PostSend s request)

    call : Call
    call = call_of by (verbs.PostSend s request)

    draws : QueuePair → Slot → Window → Plan
    draws q window x = Unless_plan call ((x.kind == 0, NoSuch) ∷ []) (Posted_send call q request (byte_drawn x) window ((Window_of window := after_draw x) ∷ []))

    posting : QueuePair → SendOp → Plan
    posting q (ops.Bind1 window region address count rights) = Look (Window_of (beside s window)) (draws q (beside s window))
    posting q op = Posted_send call q request None s []

    plain : (q : QueuePair) → IsThere w q → q.queue ≡ queue_of s → Leads w P (Posted_send call q request None s [])
    plain q there own = posted-order c past w by s request q None s [] met there own (record {})

    on : (q : QueuePair) → IsThere w q → q.queue ≡ queue_of s → (op : SendOp) → Leads w P (posting q op)
    on q there own (ops.Bind1 window region address count rights) = leads-unless w P ((x.kind == 0, NoSuch) ∷ []) (Refuse_plan call)
        (Posted_send call q request (byte_drawn x) (beside s window) ((Window_of (beside s window) := after_draw x) ∷ [])) (λ r. (refl, met.agree))
        (posted-order c past w by s request q (byte_drawn x) (beside s window) ((Window_of (beside s window) := after_draw x) ∷ []) met there own (record {}, record {}))
      where
        x : Window
        x = w.window (beside s window)
    on q there own (ops.Bind2 window region low address count rights) = plain q there own
    on q there own (ops.FastReg region low buffer address length rights pages) = plain q there own
    on q there own (ops.LocalInv key) = plain q there own
    on q there own (ops.Send list) = plain q there own
    on q there own (ops.SendImm imm list) = plain q there own
    on q there own (ops.SendInv key list) = plain q there own
    on q there own (ops.Write address key list) = plain q there own
    on q there own (ops.WriteImm address key imm list) = plain q there own
    on q there own (ops.Read address key list) = plain q there own
    on q there own (ops.CmpSwap address key compare swap list) = plain q there own
    on q there own (ops.FetchAdd address key add list) = plain q there own

-- ---- PostRecv

pub order-post_recv : (c : Configuration) (past : Past) (w : World) (by : ℕ) (s : Slot) (request : RecvRequest) → IsMet c past w
    → Leads w (OrderingBy past by (verbs.PostRecv s request)) (post_recv_plan (call_of by (verbs.PostRecv s request)) s request)
order-post_recv c past w by s request met = agrees-present c w P call s _ met.posted.sound (refl, met.agree) (λ q is name. on q (found c w q.queue q met.posted.sound is))
  where
    P : World → List Mark → Type 0
    P = OrderingBy past by (verbs.PostRecv s request)

    call : Call
    call = call_of by (verbs.PostRecv s request)

    after : QueuePair → QueuePair
    after q = record q { receives = option_map (with_item request) q.receives }

    us : QueuePair → List Update
    us q = (Cq_of (recv_cq_of q) := option_map (after_puts (completions_to q q.recv_cq (marks_of_flush (after q)))) (w.cq (recv_cq_of q))) ∷ []

    on : (q : QueuePair) → IsThere w q
        → Leads w P (Unless_plan call (post_recv_refusals request q) (Answer_plan call (answers.Posted None) ((Queue_of q.queue := Present (after_flush (after q))) ∷ us q) (marks_of_flush (after q))))
    on q there = leads-unless w P (post_recv_refusals request q) (Refuse_plan call)
        (Answer_plan call (answers.Posted None) ((Queue_of q.queue := Present (after_flush (after q))) ∷ us q) (marks_of_flush (after q))) (λ r. (refl, met.agree))
        (order-turn (Behind past by (verbs.PostRecv s request) (answers.Posted None)) w q (after_flush (after q)) [] (us q) [] (marks_of_flush (after q)) met.agree there.present
        (flush-completes (Sends_of past q) (after q) (ready-there c past w q met.posted there)) (record {}) (record {}, record {}))

-- ---- the verbs that end keys

pub order-dereg_mr : (past : Past) (w : World) (by : ℕ) (s : Slot) → CompletedAgree past w → Leads w (OrderingBy past by (verbs.DeregMr s)) (dereg_mr_plan (call_of by (verbs.DeregMr s)) s)
order-dereg_mr past w by s agree = leads-unless w (OrderingBy past by (verbs.DeregMr s)) (of_region_refusals (deregistration_refusals region)) (Refuse_plan call)
    (Answer_plan call answers.Fine changed (told (grant_of_region region))) (λ r. (refl, agree)) (passes (grant_of_region region))
  where
    call : Call
    call = call_of by (verbs.DeregMr s)

    region : Region
    region = w.region s

    changed : List Update
    changed = (Domain_of s.domain := without_object (w.domain s.domain)) ∷ (Region_of s := after_deregistration region) ∷ []

    told : Option Grant → List Mark
    told o = option_map_or (λ g. marks.Revoked s.domain.adapter g.key ∷ []) o []

    passes : (o : Option Grant) → OrderingBy past by (verbs.DeregMr s) (put_all changed w) (answer_mark call answers.Fine ∷ told o)
    passes None = (refl, agree)
    passes (Some g) = (refl, agree)

pub order-dealloc_mw : (past : Past) (w : World) (by : ℕ) (s : Slot) → CompletedAgree past w → Leads w (OrderingBy past by (verbs.DeallocMw s)) (dealloc_mw_plan (call_of by (verbs.DeallocMw s)) s)
order-dealloc_mw past w by s agree = leads-unless w P ((window.kind == 0, NoSuch) ∷ []) (Refuse_plan call) (plan window.binding) (λ r. (refl, agree)) (at window.binding)
  where
    P : World → List Mark → Type 0
    P = OrderingBy past by (verbs.DeallocMw s)

    call : Call
    call = call_of by (verbs.DeallocMw s)

    window : Window
    window = w.window s

    changed : List Update
    changed = (Domain_of s.domain := without_object (w.domain s.domain)) ∷ (Window_of s := after_deallocation window) ∷ []

    end : Binding → List Update → Plan
    end b more = Answer_plan call answers.Fine
        (changed ++ (Region_of (region_under window b) := with_window_unbound (w.region (region_under window b))) ∷ more)
        (marks.Revoked s.domain.adapter (key_of_window window) ∷ [])

    plan : Option Binding → Plan
    plan None = Answer_plan call answers.Fine changed []
    plan (Some b) = Look (Region_of (region_under window b)) (λ region. With_binder b.queue (λ more.
        Answer_plan call answers.Fine (changed ++ (Region_of (region_under window b) := with_window_unbound region) ∷ more) (marks.Revoked s.domain.adapter (key_of_window window) ∷ [])))

    ends : (b : Binding) (more : List Update) → AreKept w more → Leads w P (end b more)
    ends b more kept = (refl, order-kept past w (changed ++ (Region_of (region_under window b) := with_window_unbound (w.region (region_under window b))) ∷ more) agree (record {}, (record {}, (record {}, kept))))

    queued : (b : Binding) (q : QueueId) (slot : QueueSlot) → w.queue q ≡ slot → Leads w P (end b (queue_updates q slot))
    queued b q (NoQueue incarnation timers) is = ends b [] (record {})
    queued b q (Present p) is = ends b ((Queue_of q := Present (record p { windows = p.windows - 1 })) ∷ []) (λ ps last was. subst (CompletedInSlot ps last) is was, record {})

    binder : (b : Binding) (o : Option QueueId) → Leads w P (With_binder o (end b))
    binder b None = ends b [] (record {})
    binder b (Some q) = queued b q (w.queue q) refl

    at : (o : Option Binding) → Leads w P (plan o)
    at None = (refl, agree)
    at (Some b) = binder b b.queue

-- ---- Poll

-- a poll frees places, and finishes nothing
polled-oldest : (name : QueueId) (xs : List Completion) (p : QueuePair) → (after_poll name xs p).requester.oldest ≡ p.requester.oldest
polled-oldest name [] p = refl
polled-oldest name (x ∷ xs) p = polled-oldest name xs (if queue_eq x.queue name then freed x.receive else p) ∙ by (queue_eq x.queue name) x.receive
  where
    freed : Bool → QueuePair
    freed true = record p { receives = option_map (after_retire x.place) p.receives }
    freed false = record p { sends = after_retire x.place p.sends }

    by : (b r : Bool) → (if b then freed r else p).requester.oldest ≡ p.requester.oldest
    by true true = refl
    by true false = refl
    by false r = refl

polled-kept : (name : QueueId) (polled : List Completion) (slot : QueueSlot) (ps : List Posted) (last : Option ℕ) → CompletedInSlot ps last slot → CompletedInSlot ps last (slot_after_poll name polled slot)
polled-kept name polled (NoQueue incarnation timers) ps last was = record {}
polled-kept name polled (Present p) ps last was = subst (StandBefore ps last) (sym (polled-oldest name polled p)) was

with-place : (w : World) (P : World → List Mark → Type 0) (s : Slot) (cq : CompletionQueue) (polled : List Completion) (x : Completion) (k : Update → Plan) → ((u : Update) → IsKept w u.name u.thing → Leads w P (k u)) → Leads w P (With_place s cq polled x k)
with-place w P s cq polled x k more = by (source_of_completion cq x)
  where
    shared : ℕ → Slot
    shared srq = record { domain = s.domain; slot = srq }

    placing : Option ℕ → Plan
    placing None = Look (Queue_of x.queue) (λ slot. k (Queue_of x.queue := slot_after_poll x.queue polled slot))
    placing (Some srq) = Look (Srq_of (shared srq)) (λ slot.
        k (Srq_of (shared srq) := record slot { srq = option_map (receives_after_poll cq srq polled) slot.srq }))

    by : (o : Option ℕ) → Leads w P (placing o)
    by None = more (Queue_of x.queue := slot_after_poll x.queue polled (w.queue x.queue)) (polled-kept x.queue polled (w.queue x.queue))
    by (Some srq) = more _ (record {})

with-places : (w : World) (P : World → List Mark → Type 0) (s : Slot) (cq : CompletionQueue) (polled xs : List Completion) (k : List Update → Plan) → ((us : List Update) → AreKept w us → Leads w P (k us)) → Leads w P (With_places s cq polled xs k)
with-places w P s cq polled [] k more = more [] (record {})
with-places w P s cq polled (x ∷ xs) k more = with-place w P s cq polled x (λ u. With_places s cq polled xs (λ us. k (u ∷ us)))
    (λ u kept. with-places w P s cq polled xs (λ us. k (u ∷ us)) (λ us rest. more (u ∷ us) (kept, rest)))

pub order-poll : (past : Past) (w : World) (by : ℕ) (s : Slot) (n least : ℕ) → CompletedAgree past w
    → Leads w (OrderingBy past by (verbs.Poll s n least)) (poll_plan (call_of by (verbs.Poll s n least)) s n least)
order-poll past w by s n least agree = at (w.cq s)
  where
    call : Call
    call = call_of by (verbs.Poll s n least)

    P : World → List Mark → Type 0
    P = OrderingBy past by (verbs.Poll s n least)

    ending : CompletionQueue → List Completion → List Update → Plan
    ending cq polled us = Answer_plan call (answers.Polled polled) ((Cq_of s := Some (after_polls (length polled) cq)) ∷ us) []

    taken : (cq : CompletionQueue) (polled : List Completion) → Leads w P (Take_plan call s cq polled)
    taken cq polled = with-places w P s cq polled polled (ending cq polled) (λ us kept. (refl, order-kept past w ((Cq_of s := Some (after_polls (length polled) cq)) ∷ us) agree (record {}, kept)))

    at : (o : Option CompletionQueue) → Leads w P (Poll_of call s n least o)
    at None = (refl, agree)
    at (Some cq) = leads-unless w P (((n == 0) || nat_lt MAX_POLLED n || nat_lt n least, OutOfRange fields.Length) ∷ []) (Refuse_plan call)
        (If (nat_lt (length cq.waiting) least) (Stuck reasons.Empty) (Take_plan call s cq (take n cq.waiting))) (λ r. (refl, agree))
        (λ few. record {}, λ enough. taken cq (take n cq.waiting))

-- ---- Inject

pub order-inject : (c : Configuration) (past : Past) (w : World) (by : ℕ) (q : QueueId) (bytes : List ℕ) → IsMet c past w
    → Leads w (OrderingBy past by (verbs.Inject q bytes)) (inject_plan c (call_of by (verbs.Inject q bytes)) q bytes)
order-inject c past w by q bytes met = at (w.queue q) refl
  where
    call : Call
    call = call_of by (verbs.Inject q bytes)

    P : World → List Mark → Type 0
    P = OrderingBy past by (verbs.Inject q bytes)

    arrives : QueueSlot → Plan
    arrives (NoQueue incarnation timers) = Refuse_plan call NoSuch
    arrives (Present p) = Arrive c p bytes None [] (answer_mark call answers.Fine ∷ [])

    at : (s : QueueSlot) → w.queue q ≡ s → Leads w P (arrives s)
    at (NoQueue incarnation timers) is = (refl, met.agree)
    at (Present p) is = order-arrive c past w P p bytes None [] (answer_mark call answers.Fine ∷ []) met (found c w q p met.posted.sound is)
        (λ after us ws ns all away. order-turn (Behind past by (verbs.Inject q bytes) answers.Fine) w p after [] us ws ns met.agree (found c w q p met.posted.sound is).present all (record {}) away)

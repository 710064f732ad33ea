-- Verbs keep the agreement on PSNs. For proofs only.
use Rattle.std.proofs.Common.{Bool, List, None, Option, Some, [], ap, arith, false, if◌then◌else◌, length, nat_lt, option_map, refl, subst, sym, take, true, true≢false, ℕ, ◌++◌, ◌+◌, ◌-◌, ◌==◌, ◌||◌, ◌∙◌, ◌∷◌, ◌≡◌, ◌≤◌}
use Rattle.std.proofs.lemmas.Bool.{not-false}
use Rattle.ca_law_endings.proofs.InnerLemmas.{flush-inner}
use Rattle.ca_law_endings.proofs.LeadsLemmas.{leads-unless}
use Rattle.ca_law_endings.proofs.PathChangeLemmas.{Behind}
use Rattle.ca_law_endings.proofs.PathVerbLemmas.{agrees-present, call_of}
use Rattle.ca_law_endings.specs.Runs.{Leads}
use Rattle.ca_law_endings.proofs.Leading.{leads-unless-all}
use Rattle.ca_law_keys.proofs.Posts.PlaceLemmas.{sending-well}
use Rattle.ca_law_keys.proofs.Posts.PostLemmas.{AreNoAnswers}
use Rattle.ca_law_keys.proofs.Posts.PostMade.{life-refl, other-life}
use Rattle.ca_law_keys.specs.Posts.{AgreeOnSends}
use Rattle.ca_law_carried.proofs.Starts.NumberLemmas.{before-posted}
use Rattle.ca_law_carried.proofs.Starts.StartTurnLemmas.{Agrees, AreKept, IsKept, IsKeptSlot, IsReady, SameStarts, agree-kept, kept-puts, own-no, posted_of, posts-at, same-marks, same-slot, same-world, start-at}
use Rattle.ca_law_carried.specs.Starts.{AgreeOnStart, AgreeOnStarts, HasBegun, StartsAgree, StartsInSlot}
use Rattle.ca_base.specs.Configuration.{Configuration}
use Rattle.ca_base.specs.declared.change.State.{State}
use Rattle.ca_base.specs.declared.completion.Completion.{Completion}
use Rattle.ca_base.specs.declared.limits.TheConstants.{MAX_POLLED}
use Rattle.ca_base.specs.declared.request.RecvRequest.{RecvRequest}
use Rattle.ca_base.specs.declared.request.SendOp.{SendOp}
use Rattle.ca_base.specs.declared.request.SendRequest.{SendRequest}
use Rattle.ca_base.specs.objects.CompletionQueue.{CompletionQueue, after_polls, after_puts}
use Rattle.ca_base.specs.objects.Domain.{without_object}
use Rattle.ca_base.specs.objects.QueuePair.{NoQueue, Present, QueuePair, QueueSlot, recv_cq_of, send_cq_of, with_all_flushed}
use Rattle.ca_base.specs.objects.Region.{with_window_unbound}
use Rattle.ca_base.specs.objects.StateTable.{is_among, state_eq}
use Rattle.ca_base.specs.objects.Window.{Binding, Window, after_deallocation, after_draw, byte_drawn, key_of_window}
use Rattle.ca_base.specs.objects.WorkQueue.{after_retire, with_item}
use Rattle.ca_keys.specs.Equal.{queue_eq}
use Rattle.ca_keys.specs.Numbers.{key_at, queue_of, window_index}
use Rattle.ca_keys.specs.declared.names.QueueId.{QueueId}
use Rattle.ca_keys.specs.declared.names.Slot.{Slot}
use Rattle.ca_law_world.proofs.Sound.SettledLemmas.{queue-path}
use Rattle.ca_law_world.proofs.Sound.VerbLemmas.{polled}
use Rattle.ca_model.specs.Past.{Past, Posted, Start, after_marks, drawn_at, present_incarnation, start_of, whole_start, with_at}
use Rattle.ca_model.specs.declared.answer.Answer.{Answer}
use Rattle.ca_model.specs.declared.answer.Refusal.TheVariants.{NoSuch, OutOfRange}
use Rattle.ca_model.specs.declared.mark.Mark.{Mark}
use Rattle.ca_model.specs.declared.verb.Verb.{Verb}
use Rattle.ca_model.specs.machine.Around.{completions_to}
use Rattle.ca_model.specs.machine.CompletionVerbs.{Poll_of, Take_plan, With_place, With_places, after_poll, poll_plan, receives_after_poll, slot_after_poll, source_of_completion}
use Rattle.ca_model.specs.machine.Completions.{flush_marks}
use Rattle.ca_model.specs.machine.Invariants.{IsQueue, is_fresh}
use Rattle.ca_model.specs.machine.Plan.{If, Look, Plan, Stuck, Update, put_all, ◌:=◌}
use Rattle.ca_model.specs.machine.PostingVerbs.{Posted_send, after_flush, marks_of_flush, post_recv_plan, post_recv_refusals, post_send_plan, post_send_refusals, with_send}
use Rattle.ca_model.specs.machine.QueuePairVerbs.{beside}
use Rattle.ca_model.specs.machine.Row.{region_under}
use Rattle.ca_model.specs.machine.Sound.{IsQueueOf}
use Rattle.ca_model.specs.machine.VerbAnswers.{Answer_plan, Call, Refuse_plan, Unless_plan, answer_mark}
use Rattle.ca_model.specs.machine.WindowVerbs.{With_binder, dealloc_mw_plan, queue_updates}
use Rattle.ca_model.specs.machine.World.{Cq_of, Domain_of, Queue_of, Region_of, Srq_of, Window_of, World, put}
use Rattle.ca_model.specs.declared.answer.Answer.TheVariants as answers
use Rattle.ca_model.specs.declared.event.Event.TheVariants as events
use Rattle.ca_base.specs.declared.change.Field.TheVariants as fields
use Rattle.ca_model.specs.declared.mark.Mark.TheVariants as marks
use Rattle.ca_base.specs.declared.request.SendOp.TheVariants as ops
use Rattle.ca_base.specs.declared.step.Reason.TheVariants as reasons
use Rattle.ca_keys.specs.Spelling.{rights_text as rights}
use Rattle.ca_base.specs.declared.change.State.TheVariants as states
use Rattle.ca_model.specs.declared.verb.Verb.TheVariants as verbs

abbrev pub AgreesBy : Past → ℕ → Verb → World → List Mark → Type 0
AgreesBy past by verb = Agrees past (events.Verb by verb)

-- an answer that tells of no start and of no request, before marks that answer no verb, with changes that keep the agreement
pub starts-answer : (c : Configuration) (past : Past) (w : World) (by : ℕ) (verb : Verb) (answer : Answer) (us : List Update) (ms : List Mark) → IsReady c past w → SameStarts past (Behind past by verb answer) → AreNoAnswers ms
    → AreKept w us → AgreesBy past by verb (put_all us w) (answer_mark (call_of by verb) answer ∷ ms)
starts-answer c past w by verb answer us ms met same quiet kept = agree-kept past (after_marks ms (Behind past by verb answer)) w (put_all us w) (same-marks ms quiet past (Behind past by verb answer) same)
    (kept-puts w w us kept (same-world w)) met.agree

-- changes that keep the agreement, behind others
pub agree-more : (p : Past) (v : World) (us : List Update) → StartsAgree p v → AreKept v us → StartsAgree p (put_all us v)
agree-more p v us agree kept = agree-kept p p v (put_all us v) (record { incarnation = refl; starts = refl; posted = refl }) (kept-puts v v us kept (same-world v)) agree

pub flush-quiet : (q : QueuePair) → AreNoAnswers (marks_of_flush q)
flush-quiet q = by (state_eq q.state states.Error)
  where
    by : (b : Bool) → AreNoAnswers (if b then flush_marks q else [])
    by true = own-no (flush_marks q) (flush-inner q)
    by false = record {}

-- a queue pair that is flushed at once, if it is in Error
pub flushed-start : (start : Option Start) (posted : List Posted) (q : QueuePair) → AgreeOnStart start posted q → AgreeOnStart start posted (after_flush q)
flushed-start start posted q agree = by (state_eq q.state states.Error) refl
  where
    by : (b : Bool) → state_eq q.state states.Error ≡ b → AgreeOnStart start posted (if b then with_all_flushed q else q)
    by true error = record { fresh = agree.fresh; begun = λ is. absurd (true≢false (sym error ∙ sending-well q is)) }
    by false error = agree

flushed-slot : (w : World) (q p : QueuePair) → w.queue q.queue ≡ Present q → p.state ≡ q.state → p.requester ≡ q.requester → p.responder.mtu ≡ q.responder.mtu → IsKeptSlot (w.queue q.queue) (Present (after_flush p))
flushed-slot w q p is state requester mtu = subst (λ s. IsKeptSlot s (Present (after_flush p))) (sym is) (λ start posted agree. flushed-start start posted p (same-slot q p state requester mtu start posted agree))

-- ---- windows

pub starts-dealloc_mw : (c : Configuration) (past : Past) (w : World) (by : ℕ) (s : Slot) → IsReady c past w → Leads w (AgreesBy past by (verbs.DeallocMw s)) (dealloc_mw_plan (call_of by (verbs.DeallocMw s)) s)
starts-dealloc_mw c past w by s met = leads-unless w P ((x.kind == 0, NoSuch) ∷ []) (Refuse_plan call) (plan x.binding) (λ r. met.agree) (at x.binding)
  where
    P : World → List Mark → Type 0
    P = AgreesBy past by (verbs.DeallocMw s)

    call : Call
    call = call_of by (verbs.DeallocMw s)

    x : Window
    x = w.window s

    changed : List Update
    changed = (Domain_of s.domain := without_object (w.domain s.domain)) ∷ (Window_of s := after_deallocation x) ∷ []

    plan : Option Binding → Plan
    plan None = Answer_plan call answers.Fine changed []
    plan (Some b) = Look (Region_of (region_under x b)) (λ region. With_binder b.queue (λ more.
        Answer_plan call answers.Fine (changed ++ (Region_of (region_under x b) := with_window_unbound region) ∷ more) (marks.Revoked s.domain.adapter (key_of_window x) ∷ [])))

    ends : (b : Binding) (more : List Update) → AreKept w more
        → P (put_all (changed ++ (Region_of (region_under x b) := with_window_unbound (w.region (region_under x b))) ∷ more) w) (answer_mark call answers.Fine ∷ marks.Revoked s.domain.adapter (key_of_window x) ∷ [])
    ends b more kept = starts-answer c past w by (verbs.DeallocMw s) answers.Fine (changed ++ (Region_of (region_under x b) := with_window_unbound (w.region (region_under x b))) ∷ more)
        (marks.Revoked s.domain.adapter (key_of_window x) ∷ []) met (record { incarnation = refl; starts = refl; posted = refl }) (record {}, record {}) (record {}, (record {}, (record {}, kept)))

    bound : (q : QueueId) → AreKept w (queue_updates q (w.queue q))
    bound q = on (w.queue q) refl
      where
        on : (t : QueueSlot) → w.queue q ≡ t → AreKept w (queue_updates q t)
        on (NoQueue incarnation timers) is = record {}
        on (Present p) is = (subst (λ t. IsKeptSlot t (Present (record p { windows = p.windows - 1 }))) (sym is) (same-slot p (record p { windows = p.windows - 1 }) refl refl refl), record {})

    binder : (b : Binding) (o : Option QueueId) → Leads w P (With_binder o (λ more.
        Answer_plan call answers.Fine (changed ++ (Region_of (region_under x b) := with_window_unbound (w.region (region_under x b))) ∷ more) (marks.Revoked s.domain.adapter (key_of_window x) ∷ [])))
    binder b None = ends b [] (record {})
    binder b (Some q) = ends b (queue_updates q (w.queue q)) (bound q)

    at : (o : Option Binding) → Leads w P (plan o)
    at None = starts-answer c past w by (verbs.DeallocMw s) answers.Fine changed [] met (record { incarnation = refl; starts = refl; posted = refl }) (record {}) (record {}, (record {}, record {}))
    at (Some b) = binder b b.queue

-- ---- posting

-- a request is posted: in Rts and Sqd it stands behind those that wait, and in Error it is flushed
posted-starts : (c : Configuration) (past : Past) (w : World) (by : ℕ) (s : Slot) (request : SendRequest) (q : QueuePair) (drawn : Option ℕ) (window : Slot) (more : List Update) → IsReady c past w → w.queue q.queue ≡ Present q
    → q.queue ≡ queue_of s → ((v : World) → AreKept v more) → Leads w (AgreesBy past by (verbs.PostSend s request)) (Posted_send (call_of by (verbs.PostSend s request)) q request drawn window more)
posted-starts c past w by s request q drawn window more met is name kept = leads-unless-all w (AgreesBy past by (verbs.PostSend s request)) (post_send_refusals request q) (Refuse_plan call)
    (Answer_plan call answer updates (marks_of_flush posted)) (λ r. met.agree) (λ fails. agree-kept r (after_marks (marks_of_flush posted) r) (put_all updates w) (put_all updates w)
    (same-marks (marks_of_flush posted) (flush-quiet posted) r r (record { incarnation = refl; starts = refl; posted = refl })) (same-world (put_all updates w)) (agrees (not-false (is_among (states.Rts ∷ states.Sqd ∷ states.Error ∷ []) q.state) fails.1.1.0)))
  where
    call : Call
    call = call_of by (verbs.PostSend s request)

    answer : Answer
    answer = answers.Posted (option_map (key_at (window_index window)) drawn)

    posted : QueuePair
    posted = with_send request drawn q

    beside-it : List Update
    beside-it = (Cq_of (send_cq_of q) := option_map (after_puts (completions_to q q.send_cq (marks_of_flush posted))) (w.cq (send_cq_of q))) ∷ more

    updates : List Update
    updates = (Queue_of q.queue := Present (after_flush posted)) ∷ beside-it

    r : Past
    r = Behind past by (verbs.PostSend s request) answer

    place : QueueId
    place = queue_of s

    own : AgreeOnStart (start_of past q.queue) (posted_of past q.queue) q
    own = start-at past w q met.agree is

    sends : AgreeOnSends (posted_of past q.queue) (past.performed (present_incarnation past q.queue)) q
    sends = posts-at past w q met.posts is

    sound : IsQueue q
    sound = (subst (IsQueueOf q.queue) is (met.sound.things (Queue_of q.queue))).2

    new : Posted
    new = record { place = length (posted_of past place); request = request; drawn = drawn_at past place request.op (option_map (key_at (window_index window)) drawn) }

    not-fresh : (t : State) → is_among (states.Rts ∷ states.Sqd ∷ states.Error ∷ []) t ≡ true → is_fresh t ≡ true → ⊥
    not-fresh states.Reset among fresh = true≢false (sym among)
    not-fresh states.Init among fresh = true≢false (sym among)
    not-fresh states.Rtr among fresh = true≢false (sym among)
    not-fresh states.Rts among fresh = true≢false (sym fresh)
    not-fresh states.Sqd among fresh = true≢false (sym fresh)
    not-fresh states.Error among fresh = true≢false (sym fresh)

    within : q.requester.oldest ≤ length (posted_of past q.queue)
    within = omega (arith, sound.requester.begun, sound.requester.waiting, sends.count)

    one-more : (start : Option Start) → HasBegun start (posted_of past q.queue) q → HasBegun start (posted_of past q.queue ++ new ∷ []) posted
    one-more None begun = begun
    one-more (Some start) begun = begun ∙ ap (λ n. whole_start start + n) (sym (before-posted q.responder.mtu (posted_of past q.queue) (new ∷ []) q.requester.oldest within))

    behind : is_among (states.Rts ∷ states.Sqd ∷ states.Error ∷ []) q.state ≡ true → AgreeOnStart (start_of past q.queue) (posted_of past q.queue ++ new ∷ []) posted
    behind among = record { fresh = λ fresh. absurd (not-fresh q.state among fresh); begun = λ so. one-more (start_of past q.queue) (own.begun so) }

    there : r.posted (present_incarnation past place) ≡ posted_of past place ++ new ∷ []
    there = ap (λ b. if b then posted_of past place ++ new ∷ [] else posted_of past place) (life-refl (present_incarnation past place))

    agrees : is_among (states.Rts ∷ states.Sqd ∷ states.Error ∷ []) q.state ≡ true → StartsAgree r (put_all updates w)
    agrees among = agree-more r (put w (Queue_of q.queue) (Present (after_flush posted))) beside-it moved (record {}, kept (put w (Queue_of q.queue) (Present (after_flush posted))))
      where
        slot : StartsInSlot (start_of past place) (r.posted (present_incarnation past place)) (Present (after_flush posted))
        slot = subst (λ ps. AgreeOnStart (start_of past place) ps (after_flush posted)) (sym there)
            (subst (λ k. AgreeOnStart (start_of past k) (posted_of past k ++ new ∷ []) (after_flush posted)) name (flushed-start (start_of past q.queue) (posted_of past q.queue ++ new ∷ []) posted (behind among)))

        moved : StartsAgree r (put w (Queue_of q.queue) (Present (after_flush posted)))
        moved = subst (λ k. AgreeOnStarts r.incarnation r.starts r.posted (with_at queue_eq w.queue k (Present (after_flush posted)))) (sym name) (λ n. at n (queue_eq place n) refl)
          where
            at : (n : QueueId) (b : Bool) → queue_eq place n ≡ b → StartsInSlot (start_of past n) (r.posted (present_incarnation past n)) (if b then Present (after_flush posted) else w.queue n)
            at n true path = subst (λ k. StartsInSlot (start_of past k) (r.posted (present_incarnation past k)) (Present (after_flush posted))) (queue-path place n path) slot
            at n false other = subst (λ ps. StartsInSlot (start_of past n) ps (w.queue n))
                (sym (ap (λ b. if b then posted_of past place ++ new ∷ [] else posted_of past n) (other-life place n (past.incarnation place) (past.incarnation n) other))) (met.agree n)

pub starts-post_send : (c : Configuration) (past : Past) (w : World) (by : ℕ) (s : Slot) (request : SendRequest) → IsReady c past w
    → Leads w (AgreesBy past by (verbs.PostSend s request)) (post_send_plan (call_of by (verbs.PostSend s request)) s request)
starts-post_send c past w by s request met = agrees-present c w P call s (λ q. posting q request.op) met.sound met.agree (λ q is name. on q is name request.op)
  where
    P : World → List Mark → Type 0
    P = AgreesBy past by (verbs.PostSend s request)

    call : Call
    call = call_of by (verbs.PostSend s request)

    draws : QueuePair → Slot → Window → Plan
    draws q window x = Unless_plan call ((x.kind == 0, NoSuch) ∷ []) (Posted_send call q request (byte_drawn x) window ((Window_of window := after_draw x) ∷ []))

    posting : QueuePair → SendOp → Plan
    posting q (ops.Bind1 window region address count rights) = Look (Window_of (beside s window)) (draws q (beside s window))
    posting q op = Posted_send call q request None s []

    plain : (q : QueuePair) → w.queue q.queue ≡ Present q → q.queue ≡ queue_of s → Leads w P (Posted_send call q request None s [])
    plain q is name = posted-starts c past w by s request q None s [] met is name (λ v. record {})

    on : (q : QueuePair) → w.queue q.queue ≡ Present q → q.queue ≡ queue_of s → (op : SendOp) → Leads w P (posting q op)
    on q is name (ops.Bind1 window region address count rights) = leads-unless w P ((x.kind == 0, NoSuch) ∷ []) (Refuse_plan call)
        (Posted_send call q request (byte_drawn x) (beside s window) ((Window_of (beside s window) := after_draw x) ∷ [])) (λ r. met.agree)
        (posted-starts c past w by s request q (byte_drawn x) (beside s window) ((Window_of (beside s window) := after_draw x) ∷ []) met is name (λ v. (record {}, record {})))
      where
        x : Window
        x = w.window (beside s window)
    on q is name (ops.Bind2 window region low address count rights) = plain q is name
    on q is name (ops.FastReg region low buffer address count rights pages) = plain q is name
    on q is name (ops.LocalInv key) = plain q is name
    on q is name (ops.Send list) = plain q is name
    on q is name (ops.SendImm imm list) = plain q is name
    on q is name (ops.SendInv key list) = plain q is name
    on q is name (ops.Write address key list) = plain q is name
    on q is name (ops.WriteImm address key imm list) = plain q is name
    on q is name (ops.Read address key list) = plain q is name
    on q is name (ops.CmpSwap address key compare swap list) = plain q is name
    on q is name (ops.FetchAdd address key add list) = plain q is name

pub starts-post_recv : (c : Configuration) (past : Past) (w : World) (by : ℕ) (s : Slot) (request : RecvRequest) → IsReady c past w
    → Leads w (AgreesBy past by (verbs.PostRecv s request)) (post_recv_plan (call_of by (verbs.PostRecv s request)) s request)
starts-post_recv c past w by s request met = agrees-present c w P call s _ met.sound met.agree (λ q is name. on q is)
  where
    P : World → List Mark → Type 0
    P = AgreesBy past by (verbs.PostRecv s request)

    call : Call
    call = call_of by (verbs.PostRecv s request)

    after : QueuePair → QueuePair
    after q = record q { receives = option_map (with_item request) q.receives }

    updates : QueuePair → List Update
    updates q =
        (Queue_of q.queue := Present (after_flush (after q)))
        ∷ (Cq_of (recv_cq_of q) := option_map (after_puts (completions_to q q.recv_cq (marks_of_flush (after q)))) (w.cq (recv_cq_of q)))
        ∷ []

    on : (q : QueuePair) → w.queue q.queue ≡ Present q → Leads w P (Unless_plan call (post_recv_refusals request q) (Answer_plan call (answers.Posted None) (updates q) (marks_of_flush (after q))))
    on q is = leads-unless w P (post_recv_refusals request q) (Refuse_plan call) (Answer_plan call (answers.Posted None) (updates q) (marks_of_flush (after q))) (λ r. met.agree)
        (starts-answer c past w by (verbs.PostRecv s request) (answers.Posted None) (updates q) (marks_of_flush (after q)) met (record { incarnation = refl; starts = refl; posted = refl })
        (flush-quiet (after q)) (flushed-slot w q (after q) is refl refl refl, (record {}, record {})))

-- ---- polls

-- a poll frees places, and leaves states, requesters and path MTUs
polled-alike : (name : QueueId) (xs : List Completion) (p : QueuePair) → ((after_poll name xs p).state ≡ p.state) × ((after_poll name xs p).requester ≡ p.requester) × ((after_poll name xs p).responder.mtu ≡ p.responder.mtu)
polled-alike name [] p = (refl, refl, refl)
polled-alike name (x ∷ xs) p = (
  (polled-alike name xs after).0 ∙ (one (queue_eq x.queue name) x.receive).0,
  (polled-alike name xs after).1 ∙ (one (queue_eq x.queue name) x.receive).1,
  (polled-alike name xs after).2 ∙ (one (queue_eq x.queue name) x.receive).2,
)
  where
    freed : Bool → QueuePair
    freed true = record p { receives = option_map (after_retire x.place) p.receives }
    freed false = record p { sends = after_retire x.place p.sends }

    after : QueuePair
    after = if queue_eq x.queue name then freed x.receive else p

    one : (b r : Bool) → ((if b then freed r else p).state ≡ p.state) × ((if b then freed r else p).requester ≡ p.requester) × ((if b then freed r else p).responder.mtu ≡ p.responder.mtu)
    one true true = (refl, refl, refl)
    one true false = (refl, refl, refl)
    one false r = (refl, refl, refl)

polled-kept : (w : World) (name : QueueId) (polled : List Completion) → IsKept w (Queue_of name) (slot_after_poll name polled (w.queue name))
polled-kept w name polled = by (w.queue name)
  where
    by : (slot : QueueSlot) → IsKeptSlot slot (slot_after_poll name polled slot)
    by (NoQueue incarnation timers) = λ start posted agree. record {}
    by (Present p) = same-slot p (after_poll name polled p) (polled-alike name polled p).0 (polled-alike name polled p).1 (polled-alike name polled p).2

with-place : (w : World) (P : World → List Mark → Type 0) (s : Slot) (cq : CompletionQueue) (polled : List Completion) (x : Completion) (k : Update → Plan)
    → ((u : Update) → IsKept w u.name u.thing → Leads w P (k u)) → Leads w P (With_place s cq polled x k)
with-place w P s cq polled x k more = by (source_of_completion cq x)
  where
    shared : ℕ → Slot
    shared srq = record { domain = s.domain; slot = srq }

    placing : Option ℕ → Plan
    placing None = Look (Queue_of x.queue) (λ slot. k (Queue_of x.queue := slot_after_poll x.queue polled slot))
    placing (Some srq) = Look (Srq_of (shared srq)) (λ slot.
        k (Srq_of (shared srq) := record slot { srq = option_map (receives_after_poll cq srq polled) slot.srq }))

    by : (o : Option ℕ) → Leads w P (placing o)
    by None = more (Queue_of x.queue := slot_after_poll x.queue polled (w.queue x.queue)) (polled-kept w x.queue polled)
    by (Some srq) = more _ (record {})

with-places : (w : World) (P : World → List Mark → Type 0) (s : Slot) (cq : CompletionQueue) (polled xs : List Completion) (k : List Update → Plan)
    → ((us : List Update) → AreKept w us → Leads w P (k us)) → Leads w P (With_places s cq polled xs k)
with-places w P s cq polled [] k more = more [] (record {})
with-places w P s cq polled (x ∷ xs) k more = with-place w P s cq polled x (λ u. With_places s cq polled xs (λ us. k (u ∷ us)))
    (λ u kept. with-places w P s cq polled xs (λ us. k (u ∷ us)) (λ us rest. more (u ∷ us) (kept, rest)))

pub starts-poll : (c : Configuration) (past : Past) (w : World) (by : ℕ) (s : Slot) (n least : ℕ) → IsReady c past w
    → Leads w (AgreesBy past by (verbs.Poll s n least)) (poll_plan (call_of by (verbs.Poll s n least)) s n least)
starts-poll c past w by s n least met = at (w.cq s)
  where
    call : Call
    call = call_of by (verbs.Poll s n least)

    P : World → List Mark → Type 0
    P = AgreesBy past by (verbs.Poll s n least)

    ending : CompletionQueue → List Completion → List Update → Plan
    ending cq polled us = Answer_plan call (answers.Polled polled) ((Cq_of s := Some (after_polls (length polled) cq)) ∷ us) []

    taken : (cq : CompletionQueue) (polled : List Completion) → Leads w P (Take_plan call s cq polled)
    taken cq polled = with-places w P s cq polled polled (ending cq polled) (λ us kept.
        starts-answer c past w by (verbs.Poll s n least) (answers.Polled polled) ((Cq_of s := Some (after_polls (length polled) cq)) ∷ us) [] met
        (record { incarnation = refl; starts = refl; posted = refl }) (record {}) (record {}, kept))

    at : (o : Option CompletionQueue) → Leads w P (Poll_of call s n least o)
    at None = met.agree
    at (Some cq) = leads-unless w P (((n == 0) || nat_lt MAX_POLLED n || nat_lt n least, OutOfRange fields.Length) ∷ []) (Refuse_plan call)
        (If (nat_lt (length cq.waiting) least) (Stuck reasons.Empty) (Take_plan call s cq (take n cq.waiting))) (λ r. met.agree)
        (λ few. record {}, λ enough. taken cq (take n cq.waiting))

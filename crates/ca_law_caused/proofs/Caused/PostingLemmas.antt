-- Posts, polls and the verbs that end keys: what completes by them has its cause, and queue pairs in Error keep their
-- faults. For proofs only.
use Rattle.std.proofs.Common.{◌≡◌, ℕ, ◌-◌, ◌==◌, ◌||◌, nat_lt, Bool, true, false, if◌then◌else◌, List, [], ◌∷◌, ◌++◌, length, take, Option, None, Some, refl, sym, ap, subst, ◌∙◌, true≢false}
use Rattle.std.specs.Option.{option_map, option_map_or}
use Rattle.ca_law_endings.proofs.LeadsLemmas.{leads-unless}
use Rattle.ca_law_endings.proofs.PathChangeLemmas.{Behind}
use Rattle.ca_law_endings.proofs.PathVerbLemmas.{agrees-present, call_of}
use Rattle.ca_law_endings.specs.Runs.{Leads}
use Rattle.ca_law_keys.proofs.Keys.KeyTurnLemmas.{found}
use Rattle.ca_base.specs.Configuration.{Configuration}
use Rattle.ca_base.specs.declared.change.Field.TheVariants as fields
use Rattle.ca_base.specs.declared.change.State.TheVariants as states
use Rattle.ca_base.specs.declared.completion.Completion.{Completion}
use Rattle.ca_base.specs.declared.limits.TheConstants.{MAX_POLLED}
use Rattle.ca_base.specs.declared.request.RecvRequest.{RecvRequest}
use Rattle.ca_base.specs.declared.request.SendOp.{SendOp}
use Rattle.ca_base.specs.declared.request.SendOp.TheVariants as ops
use Rattle.ca_base.specs.declared.request.SendRequest.{SendRequest}
use Rattle.ca_base.specs.declared.step.Reason.TheVariants as reasons
use Rattle.ca_base.specs.objects.CompletionQueue.{CompletionQueue, after_polls, after_puts}
use Rattle.ca_base.specs.objects.Domain.{without_object}
use Rattle.ca_base.specs.objects.QueuePair.{QueuePair, QueueSlot, NoQueue, Present, recv_cq_of, send_cq_of, with_all_flushed}
use Rattle.ca_base.specs.objects.Region.{Region, after_deregistration, deregistration_refusals, grant_of_region, with_window_unbound}
use Rattle.ca_base.specs.objects.StateTable.{state_eq}
use Rattle.ca_base.specs.objects.Window.{Binding, Window, after_deallocation, after_draw, byte_drawn, key_of_window}
use Rattle.ca_base.specs.objects.WorkQueue.{after_retire, with_item}
use Rattle.ca_keys.specs.Equal.{queue_eq}
use Rattle.ca_keys.specs.Numbers.{key_at, queue_of, window_index}
use Rattle.ca_keys.specs.declared.grant.Grant.{Grant}
use Rattle.ca_keys.specs.declared.names.QueueId.{QueueId}
use Rattle.ca_keys.specs.declared.names.Slot.{Slot}
use Rattle.ca_law_world.proofs.Sound.WorldLemmas.{IsThere}
use Rattle.ca_model.specs.Past.{Past}
use Rattle.ca_model.specs.declared.answer.Answer.{Answer}
use Rattle.ca_model.specs.declared.answer.Answer.TheVariants as answers
use Rattle.ca_model.specs.declared.answer.Refusal.TheVariants.{NoSuch, OutOfRange}
use Rattle.ca_model.specs.declared.mark.Mark.{Mark}
use Rattle.ca_model.specs.declared.mark.Mark.TheVariants as marks
use Rattle.ca_model.specs.declared.verb.Verb.TheVariants as verbs
use Rattle.ca_model.specs.machine.Around.{completions_to}
use Rattle.ca_model.specs.machine.CompletionVerbs.{Poll_of, Take_plan, With_place, With_places, after_poll, poll_plan, receives_after_poll, slot_after_poll, source_of_completion}
use Rattle.ca_model.specs.machine.Completions.{flush_marks}
use Rattle.ca_model.specs.machine.Delivery.{Arrive}
use Rattle.ca_model.specs.machine.HostVerbs.{inject_plan}
use Rattle.ca_model.specs.machine.Plan.{Plan, If, Look, Stuck, Update, ◌:=◌, put_all}
use Rattle.ca_model.specs.machine.PostingVerbs.{Posted_send, after_flush, marks_of_flush, post_recv_plan, post_recv_refusals, post_send_plan, post_send_refusals, with_send}
use Rattle.ca_model.specs.machine.QueuePairVerbs.{beside}
use Rattle.ca_model.specs.machine.RegionVerbs.{dereg_mr_plan}
use Rattle.ca_model.specs.machine.Row.{region_under}
use Rattle.ca_model.specs.machine.VerbAnswers.{Answer_plan, Call, Refuse_plan, Unless_plan, answer_mark, of_region_refusals}
use Rattle.ca_model.specs.machine.WindowVerbs.{With_binder, dealloc_mw_plan, queue_updates}
use Rattle.ca_model.specs.machine.World.{Cq_of, Domain_of, Queue_of, Region_of, Srq_of, Window_of, World}
use Rattle.ca_law_order.proofs.Sends.TurnLemmas.{AreAway}
use Rattle.ca_law_caused.proofs.Caused.EndLemmas.{Passes, flush-agrees, slots-agree}
use Rattle.ca_law_caused.proofs.Caused.TurnLemmas.{IsMet, arrival-met, cause-arrive, was-there}
use Rattle.ca_law_caused.proofs.Caused.VerbLemmas.{AreKept, CausingBy, IsKept, cause-kept, still-followed}
use Rattle.ca_law_caused.specs.Explained.{CausesAgree, ExplainedInSlot, IsExplained, IsFollowed, QueuePast, queue_past}
use Rattle.ca_model.specs.Past.{after_mark}
use Rattle.ca_model.specs.machine.Completions.{flush_marks}
use Rattle.ca_keys.specs.Equal.{queue_eq}
use Rattle.std.proofs.Common.{ap₂, zero, suc, ◌+◌, ◌≤◌, ◌∙◌, length, take, sum_by, arith, sym, true≢false}
use Rattle.ca_law_keys.proofs.Posts.PostMade.{life-refl, other-life}
use Rattle.ca_law_keys.specs.Posts.{AgreeInSlot}
use Rattle.ca_base.specs.declared.change.State.{State}
use Rattle.ca_base.specs.declared.limits.TheConstants.{MAX_RETRY}
use Rattle.ca_base.specs.declared.queue_numbers.RequesterNumbers.{RequesterNumbers}
use Rattle.ca_base.specs.objects.WorkQueue.{next_place}
use Rattle.ca_model.specs.Past.{Posted, at_end, correspondent_eq, drawn_at, present_incarnation, whole_start, with_at}
use Rattle.ca_model.specs.Requests.{psns_of}
use Rattle.ca_model.specs.machine.Invariants.{is_connected, is_fresh, is_sending}

in-error : (t : State) → state_eq t states.Error ≡ true → t ≡ states.Error
in-error states.Reset e = absurd (true≢false (sym e))
in-error states.Init e = absurd (true≢false (sym e))
in-error states.Rtr e = absurd (true≢false (sym e))
in-error states.Rts e = absurd (true≢false (sym e))
in-error states.Sqd e = absurd (true≢false (sym e))
in-error states.Error e = refl

-- a queue pair in Error flushes what is posted at once; else it is explained as it was
flushes-posted : (r : Past) (w : World) (q p : QueuePair) (us : List Update) → ((n : QueueId) → queue_eq q.queue n ≡ false → ExplainedInSlot (queue_past r n) (w.queue n)) → r.at_hand.fired ≡ None → r.at_hand.arrival ≡ None → IsExplained (queue_past r q.queue) p
    → (CausesAgree (at_end r) (put_all ((Queue_of q.queue := Present p) ∷ us) w)) → p.queue ≡ q.queue → AreAway us
    → Passes r (put_all ((Queue_of q.queue := Present (after_flush p)) ∷ us) w) (marks_of_flush p)
flushes-posted r w q p us others fired arrival is well own away = by (state_eq p.state states.Error) refl
  where
    by : (b : Bool) → state_eq p.state states.Error ≡ b → Passes r (put_all ((Queue_of q.queue := Present (if b then with_all_flushed p else p)) ∷ us) w) (if b then flush_marks p else [])
    by true error = flush-agrees r w q (with_all_flushed p) us others fired arrival (is.error error) p own (in-error p.state error) away
    by false none = (refl, well)

take-within : {A : Type 0} (xs ys : List A) (i : ℕ) → i ≤ length xs → take i (xs ++ ys) ≡ take i xs
take-within xs ys zero less = refl
take-within [] ys (suc i) less = absurd (omega (arith, less))
take-within (x ∷ xs) ys (suc i) less = ap (λ zs. x ∷ zs) (take-within xs ys i (omega (arith, less)))

-- one more is posted behind all that are there
more-posted : (l : QueuePast) (x : Posted) (q p : QueuePair) → q.requester.oldest ≤ length l.posted → p.requester ≡ q.requester → p.responder.mtu ≡ q.responder.mtu → p.state ≡ q.state → IsExplained l q → IsExplained (record l { posted = l.posted ++ (x ∷ []) }) p
more-posted l x q p few requester mtu state is = record {
  error = λ e. is.error (ap (λ s. state_eq s states.Error) (sym state) ∙ e);
  fresh = λ e. subst (λ (r : RequesterNumbers). (r.oldest ≡ 0) × (r.rnrs ≡ 0)) (sym requester) (is.fresh (ap is_fresh (sym state) ∙ e));
  mtu = λ e. is.mtu (ap is_connected (sym state) ∙ e) ∙ sym mtu;
  sends = λ e. by (is.sends (ap is_sending (sym state) ∙ e));
}
  where
    by : IsFollowed l q → IsFollowed (record l { posted = l.posted ++ (x ∷ []) }) p
    by so = record {
      begin = so.begin;
      is = so.is;
      retry = so.retry ∙ ap (λ r. r.retry) (sym requester);
      rnr_retry = so.rnr_retry ∙ ap (λ r. r.rnr_retry) (sym requester);
      first = ap₂ (λ m i. whole_start so.begin + sum_by (λ p. psns_of m p.request.op) (take i (l.posted ++ (x ∷ [])))) mtu (ap (λ r. r.oldest) requester)
          ∙ ap (λ ps. whole_start so.begin + sum_by (λ p. psns_of q.responder.mtu p.request.op) ps) (take-within l.posted (x ∷ []) q.requester.oldest few) ∙ so.first ∙ ap (λ r. r.oldest_psn) (sym requester);
      una = ap (λ r. r.una) requester ∙ so.una;
      retries = ap (λ r. r.retries) requester ∙ so.retries;
      rnrs = ap (λ r. r.rnrs) requester ∙ so.rnrs;
      patience = subst (λ r. nat_lt r.rnr_retry MAX_RETRY ≡ true → r.rnrs ≤ r.rnr_retry) (sym requester) so.patience;
    }

-- a queue pair of which nothing is changed that is explained
pub like-explained : (l : QueuePast) (q p : QueuePair) → p.requester ≡ q.requester → p.responder.mtu ≡ q.responder.mtu → p.state ≡ q.state → IsExplained l q → IsExplained l p
like-explained l q p requester mtu state is = record {
  error = λ e. is.error (ap (λ s. state_eq s states.Error) (sym state) ∙ e);
  fresh = λ e. subst (λ (r : RequesterNumbers). (r.oldest ≡ 0) × (r.rnrs ≡ 0)) (sym requester) (is.fresh (ap is_fresh (sym state) ∙ e));
  mtu = λ e. is.mtu (ap is_connected (sym state) ∙ e) ∙ sym mtu;
  sends = λ e. still-followed l q p requester mtu (is.sends (ap is_sending (sym state) ∙ e));
}

posted-causes : (c : Configuration) (past : Past) (w : World) (by : ℕ) (s : Slot) (request : SendRequest) (q : QueuePair) (drawn : Option ℕ) (window : Slot) (more : List Update) → IsMet c past w → IsThere w q → q.queue ≡ queue_of s → AreAway more
    → Leads w (CausingBy past by (verbs.PostSend s request)) (Posted_send (call_of by (verbs.PostSend s request)) q request drawn window more)
posted-causes c past w by s request q drawn window more met there own away = leads-unless w (CausingBy past by (verbs.PostSend s request)) (post_send_refusals request q) (Refuse_plan call)
    (Answer_plan call answer ((Queue_of q.queue := Present (after_flush posted)) ∷ us) (marks_of_flush posted)) (λ r. (refl, met.agree))
    (flushes-posted r w q posted us others refl refl explained (slots-agree (at_end r) w q.queue (Present posted) [] us [] others explained (record {}) (record {}, away)) refl (record {}, away))
  where
    call : Call
    call = call_of by (verbs.PostSend s request)

    answer : Answer
    answer = answers.Posted (option_map (key_at (window_index window)) drawn)

    posted : QueuePair
    posted = with_send request drawn q

    us : List Update
    us = (Cq_of (send_cq_of q) := option_map (after_puts (completions_to q q.send_cq (marks_of_flush posted))) (w.cq (send_cq_of q))) ∷ more

    r : Past
    r = Behind past by (verbs.PostSend s request) answer

    -- what is posted to a queue pair
    asked : QueueId → Posted
    asked n = record {
      place = length (past.posted (present_incarnation past n));
      request = request;
      drawn = drawn_at past (queue_of s) request.op (option_map (key_at (window_index window)) drawn);
    }

    grown : QueueId → List Posted
    grown n = past.posted (present_incarnation past n) ++ (asked n ∷ [])

    others : (n : QueueId) → queue_eq q.queue n ≡ false → ExplainedInSlot (queue_past r n) (w.queue n)
    others n other = subst (λ ps. ExplainedInSlot (record (queue_past past n) { posted = ps }) (w.queue n)) (sym (ap (λ b. if b then grown (queue_of s) else past.posted (present_incarnation past n))
        (ap (λ m. correspondent_eq (present_incarnation past m) (present_incarnation past n)) (sym own) ∙ other-life q.queue n (past.incarnation q.queue) (past.incarnation n) other))) (met.agree.slots n)

    count : next_place q.sends ≡ length (past.posted (present_incarnation past q.queue))
    count = (subst (AgreeInSlot (past.posted (present_incarnation past q.queue)) (past.performed (present_incarnation past q.queue))) there.present (met.posted.agree.sends q.queue)).count

    explained : IsExplained (queue_past r q.queue) posted
    explained = subst (λ ps. IsExplained (record (queue_past past q.queue) { posted = ps }) posted) (sym (ap (λ n. with_at correspondent_eq past.posted (present_incarnation past n) (grown n) (present_incarnation past q.queue)) (sym own)
        ∙ ap (λ b. if b then grown q.queue else past.posted (present_incarnation past q.queue)) (life-refl (present_incarnation past q.queue))))
        (more-posted (queue_past past q.queue) (asked q.queue) q posted (omega (arith, count, there.sound.requester.begun, there.sound.requester.waiting)) refl refl refl (was-there past w q met.agree there))

pub cause-post_send : (c : Configuration) (past : Past) (w : World) (by : ℕ) (s : Slot) (request : SendRequest) → IsMet c past w
    → Leads w (CausingBy past by (verbs.PostSend s request)) (post_send_plan (call_of by (verbs.PostSend s request)) s request)
cause-post_send c past w by s request met = agrees-present c w P call s (λ q. posting q request.op) met.posted.sound (refl, met.agree) (λ q is own. on q (found c w q.queue q met.posted.sound is) own request.op)
  where
    P : World → List Mark → Type 0
    P = CausingBy past by (verbs.PostSend s request)

    call : Call
    call = call_of by (verbs.PostSend s request)

    draws : QueuePair → Slot → Window → Plan
    draws q window x = Unless_plan call ((x.kind == 0, NoSuch) ∷ []) (Posted_send call q request (byte_drawn x) window ((Window_of window := after_draw x) ∷ []))

    posting : QueuePair → SendOp → Plan
    posting q (ops.Bind1 window region address count rights) = Look (Window_of (beside s window)) (draws q (beside s window))
    posting q op = Posted_send call q request None s []

    plain : (q : QueuePair) → IsThere w q → q.queue ≡ queue_of s → Leads w P (Posted_send call q request None s [])
    plain q there own = posted-causes c past w by s request q None s [] met there own (record {})

    on : (q : QueuePair) → IsThere w q → q.queue ≡ queue_of s → (op : SendOp) → Leads w P (posting q op)
    on q there own (ops.Bind1 window region address count rights) = leads-unless w P ((x.kind == 0, NoSuch) ∷ []) (Refuse_plan call)
        (Posted_send call q request (byte_drawn x) (beside s window) ((Window_of (beside s window) := after_draw x) ∷ [])) (λ r. (refl, met.agree))
        (posted-causes c past w by s request q (byte_drawn x) (beside s window) ((Window_of (beside s window) := after_draw x) ∷ []) met there own (record {}, record {}))
      where
        x : Window
        x = w.window (beside s window)
    on q there own (ops.Bind2 window region low address count rights) = plain q there own
    on q there own (ops.FastReg region low buffer address length rights pages) = plain q there own
    on q there own (ops.LocalInv key) = plain q there own
    on q there own (ops.Send list) = plain q there own
    on q there own (ops.SendImm imm list) = plain q there own
    on q there own (ops.SendInv key list) = plain q there own
    on q there own (ops.Write address key list) = plain q there own
    on q there own (ops.WriteImm address key imm list) = plain q there own
    on q there own (ops.Read address key list) = plain q there own
    on q there own (ops.CmpSwap address key compare swap list) = plain q there own
    on q there own (ops.FetchAdd address key add list) = plain q there own

-- ---- PostRecv

pub cause-post_recv : (c : Configuration) (past : Past) (w : World) (by : ℕ) (s : Slot) (request : RecvRequest) → IsMet c past w
    → Leads w (CausingBy past by (verbs.PostRecv s request)) (post_recv_plan (call_of by (verbs.PostRecv s request)) s request)
cause-post_recv c past w by s request met = agrees-present c w P call s _ met.posted.sound (refl, met.agree) (λ q is name. on q (found c w q.queue q met.posted.sound is))
  where
    P : World → List Mark → Type 0
    P = CausingBy past by (verbs.PostRecv s request)

    call : Call
    call = call_of by (verbs.PostRecv s request)

    after : QueuePair → QueuePair
    after q = record q { receives = option_map (with_item request) q.receives }

    explained : (q : QueuePair) → IsThere w q → IsExplained (queue_past past q.queue) (after q)
    explained q there = like-explained (queue_past past q.queue) q (after q) refl refl refl (was-there past w q met.agree there)

    us : QueuePair → List Update
    us q = (Cq_of (recv_cq_of q) := option_map (after_puts (completions_to q q.recv_cq (marks_of_flush (after q)))) (w.cq (recv_cq_of q))) ∷ []

    on : (q : QueuePair) → IsThere w q
        → Leads w P (Unless_plan call (post_recv_refusals request q) (Answer_plan call (answers.Posted None) ((Queue_of q.queue := Present (after_flush (after q))) ∷ us q) (marks_of_flush (after q))))
    on q there = leads-unless w P (post_recv_refusals request q) (Refuse_plan call)
        (Answer_plan call (answers.Posted None) ((Queue_of q.queue := Present (after_flush (after q))) ∷ us q) (marks_of_flush (after q))) (λ r. (refl, met.agree))
        (flushes-posted (Behind past by (verbs.PostRecv s request) (answers.Posted None)) w q (after q) (us q) (λ n other. met.agree.slots n) refl refl (explained q there)
        (slots-agree (at_end (Behind past by (verbs.PostRecv s request) (answers.Posted None))) w q.queue (Present (after q)) [] (us q) [] (λ n other. met.agree.slots n) (explained q there) (record {}) (record {}, record {})) refl (record {}, record {}))

-- ---- the verbs that end keys

pub cause-dereg_mr : (past : Past) (w : World) (by : ℕ) (s : Slot) → CausesAgree past w → Leads w (CausingBy past by (verbs.DeregMr s)) (dereg_mr_plan (call_of by (verbs.DeregMr s)) s)
cause-dereg_mr past w by s agree = leads-unless w (CausingBy past by (verbs.DeregMr s)) (of_region_refusals (deregistration_refusals region)) (Refuse_plan call)
    (Answer_plan call answers.Fine changed (told (grant_of_region region))) (λ r. (refl, agree)) (passes (grant_of_region region))
  where
    call : Call
    call = call_of by (verbs.DeregMr s)

    region : Region
    region = w.region s

    changed : List Update
    changed = (Domain_of s.domain := without_object (w.domain s.domain)) ∷ (Region_of s := after_deregistration region) ∷ []

    told : Option Grant → List Mark
    told o = option_map_or (λ g. marks.Revoked s.domain.adapter g.key ∷ []) o []

    passes : (o : Option Grant) → CausingBy past by (verbs.DeregMr s) (put_all changed w) (answer_mark call answers.Fine ∷ told o)
    passes None = (refl, agree)
    passes (Some g) = (refl, agree)

pub cause-dealloc_mw : (past : Past) (w : World) (by : ℕ) (s : Slot) → CausesAgree past w → Leads w (CausingBy past by (verbs.DeallocMw s)) (dealloc_mw_plan (call_of by (verbs.DeallocMw s)) s)
cause-dealloc_mw past w by s agree = leads-unless w P ((window.kind == 0, NoSuch) ∷ []) (Refuse_plan call) (plan window.binding) (λ r. (refl, agree)) (at window.binding)
  where
    P : World → List Mark → Type 0
    P = CausingBy past by (verbs.DeallocMw s)

    call : Call
    call = call_of by (verbs.DeallocMw s)

    window : Window
    window = w.window s

    changed : List Update
    changed = (Domain_of s.domain := without_object (w.domain s.domain)) ∷ (Window_of s := after_deallocation window) ∷ []

    end : Binding → List Update → Plan
    end b more = Answer_plan call answers.Fine
        (changed ++ (Region_of (region_under window b) := with_window_unbound (w.region (region_under window b))) ∷ more)
        (marks.Revoked s.domain.adapter (key_of_window window) ∷ [])

    plan : Option Binding → Plan
    plan None = Answer_plan call answers.Fine changed []
    plan (Some b) = Look (Region_of (region_under window b)) (λ region. With_binder b.queue (λ more.
        Answer_plan call answers.Fine (changed ++ (Region_of (region_under window b) := with_window_unbound region) ∷ more) (marks.Revoked s.domain.adapter (key_of_window window) ∷ [])))

    ends : (b : Binding) (more : List Update) → AreKept w more → Leads w P (end b more)
    ends b more kept = (refl, cause-kept past w (changed ++ (Region_of (region_under window b) := with_window_unbound (w.region (region_under window b))) ∷ more) agree (record {}, (record {}, (record {}, kept))))

    queued : (b : Binding) (q : QueueId) (slot : QueueSlot) → w.queue q ≡ slot → Leads w P (end b (queue_updates q slot))
    queued b q (NoQueue incarnation timers) is = ends b [] (record {})
    queued b q (Present p) is = ends b ((Queue_of q := Present (record p { windows = p.windows - 1 })) ∷ []) (λ fs was. like-explained fs p (record p { windows = p.windows - 1 }) refl refl refl (subst (ExplainedInSlot fs) is was), record {})

    binder : (b : Binding) (o : Option QueueId) → Leads w P (With_binder o (end b))
    binder b None = ends b [] (record {})
    binder b (Some q) = queued b q (w.queue q) refl

    at : (o : Option Binding) → Leads w P (plan o)
    at None = (refl, agree)
    at (Some b) = binder b b.queue

-- ---- Poll

-- a poll frees places, and leaves what is explained
record IsPolled (q p : QueuePair) : Type 0 where
  requester : p.requester ≡ q.requester
  mtu : p.responder.mtu ≡ q.responder.mtu
  state : p.state ≡ q.state

polled-like : (name : QueueId) (xs : List Completion) (q p : QueuePair) → IsPolled q p → IsPolled q (after_poll name xs p)
polled-like name [] q p is = is
polled-like name (x ∷ xs) q p is = polled-like name xs q (if queue_eq x.queue name then freed x.receive else p) (by (queue_eq x.queue name) x.receive)
  where
    freed : Bool → QueuePair
    freed true = record p { receives = option_map (after_retire x.place) p.receives }
    freed false = record p { sends = after_retire x.place p.sends }

    by : (b r : Bool) → IsPolled q (if b then freed r else p)
    by true true = record { requester = is.requester; mtu = is.mtu; state = is.state }
    by true false = record { requester = is.requester; mtu = is.mtu; state = is.state }
    by false r = is

polled-kept : (name : QueueId) (polled : List Completion) (slot : QueueSlot) (fs : QueuePast) → ExplainedInSlot fs slot → ExplainedInSlot fs (slot_after_poll name polled slot)
polled-kept name polled (NoQueue incarnation timers) fs was = record {}
polled-kept name polled (Present p) fs was = by (polled-like name polled p p (record { requester = refl; mtu = refl; state = refl }))
  where
    by : IsPolled p (after_poll name polled p) → IsExplained fs (after_poll name polled p)
    by is = like-explained fs p (after_poll name polled p) is.requester is.mtu is.state was

with-place : (w : World) (P : World → List Mark → Type 0) (s : Slot) (cq : CompletionQueue) (polled : List Completion) (x : Completion) (k : Update → Plan) → ((u : Update) → IsKept w u.name u.thing → Leads w P (k u)) → Leads w P (With_place s cq polled x k)
with-place w P s cq polled x k more = by (source_of_completion cq x)
  where
    shared : ℕ → Slot
    shared srq = record { domain = s.domain; slot = srq }

    placing : Option ℕ → Plan
    placing None = Look (Queue_of x.queue) (λ slot. k (Queue_of x.queue := slot_after_poll x.queue polled slot))
    placing (Some srq) = Look (Srq_of (shared srq)) (λ slot.
        k (Srq_of (shared srq) := record slot { srq = option_map (receives_after_poll cq srq polled) slot.srq }))

    by : (o : Option ℕ) → Leads w P (placing o)
    by None = more (Queue_of x.queue := slot_after_poll x.queue polled (w.queue x.queue)) (polled-kept x.queue polled (w.queue x.queue))
    by (Some srq) = more _ (record {})

with-places : (w : World) (P : World → List Mark → Type 0) (s : Slot) (cq : CompletionQueue) (polled xs : List Completion) (k : List Update → Plan) → ((us : List Update) → AreKept w us → Leads w P (k us)) → Leads w P (With_places s cq polled xs k)
with-places w P s cq polled [] k more = more [] (record {})
with-places w P s cq polled (x ∷ xs) k more = with-place w P s cq polled x (λ u. With_places s cq polled xs (λ us. k (u ∷ us)))
    (λ u kept. with-places w P s cq polled xs (λ us. k (u ∷ us)) (λ us rest. more (u ∷ us) (kept, rest)))

pub cause-poll : (past : Past) (w : World) (by : ℕ) (s : Slot) (n least : ℕ) → CausesAgree past w
    → Leads w (CausingBy past by (verbs.Poll s n least)) (poll_plan (call_of by (verbs.Poll s n least)) s n least)
cause-poll past w by s n least agree = at (w.cq s)
  where
    call : Call
    call = call_of by (verbs.Poll s n least)

    P : World → List Mark → Type 0
    P = CausingBy past by (verbs.Poll s n least)

    ending : CompletionQueue → List Completion → List Update → Plan
    ending cq polled us = Answer_plan call (answers.Polled polled) ((Cq_of s := Some (after_polls (length polled) cq)) ∷ us) []

    taken : (cq : CompletionQueue) (polled : List Completion) → Leads w P (Take_plan call s cq polled)
    taken cq polled = with-places w P s cq polled polled (ending cq polled) (λ us kept. (refl, cause-kept past w ((Cq_of s := Some (after_polls (length polled) cq)) ∷ us) agree (record {}, kept)))

    at : (o : Option CompletionQueue) → Leads w P (Poll_of call s n least o)
    at None = (refl, agree)
    at (Some cq) = leads-unless w P (((n == 0) || nat_lt MAX_POLLED n || nat_lt n least, OutOfRange fields.Length) ∷ []) (Refuse_plan call)
        (If (nat_lt (length cq.waiting) least) (Stuck reasons.Empty) (Take_plan call s cq (take n cq.waiting))) (λ r. (refl, agree))
        (λ few. record {}, λ enough. taken cq (take n cq.waiting))

-- ---- Inject

pub cause-inject : (c : Configuration) (past : Past) (w : World) (by : ℕ) (q : QueueId) (bytes : List ℕ) → IsMet c past w
    → Leads w (CausingBy past by (verbs.Inject q bytes)) (inject_plan c (call_of by (verbs.Inject q bytes)) q bytes)
cause-inject c past w by q bytes met = at (w.queue q) refl
  where
    call : Call
    call = call_of by (verbs.Inject q bytes)

    P : World → List Mark → Type 0
    P = CausingBy past by (verbs.Inject q bytes)

    arrives : QueueSlot → Plan
    arrives (NoQueue incarnation timers) = Refuse_plan call NoSuch
    arrives (Present p) = Arrive c p bytes None [] (answer_mark call answers.Fine ∷ [])

    at : (s : QueueSlot) → w.queue q ≡ s → Leads w P (arrives s)
    at (NoQueue incarnation timers) is = (refl, met.agree)
    at (Present p) is = cause-arrive c past r w P p bytes None [] (answer_mark call answers.Fine ∷ []) met (found c w q p met.posted.sound is) met.agree refl
        (arrival-met r p None bytes refl refl refl refl refl refl refl) (record {}) refl (record {}) (λ v ns passes. passes)
      where
        r : Past
        r = after_mark (marks.Arrived p.queue None) (Behind past by (verbs.Inject q bytes) answers.Fine)

-- The marks of every verb's event fit it: the answer comes first, and what is flushed behind it. For proofs only.
use Rattle.std.proofs.Common.{ℕ, ◌||◌, ◌==◌, nat_lt, Bool, true, false, if◌then◌else◌, List, [], ◌∷◌, take, length, Option, None, Some, refl, rules}
use Rattle.std.specs.Option.{option_map}
use Rattle.ca_law_endings.specs.Runs.{Leads}
use Rattle.ca_law_endings.proofs.FitLemmas.{fits-arrive}
use Rattle.ca_law_endings.proofs.InnerLemmas.{AreInner, AreOwn, flush-inner, own-inner}
use Rattle.ca_law_endings.proofs.LeadsLemmas.{leads-weaker, leads-around, leads-unless}
use Rattle.ca_base.specs.Configuration.{Configuration}
use Rattle.ca_base.specs.declared.change.Change as state_change
use Rattle.ca_base.specs.declared.change.Change.TheVariants as changes
use Rattle.ca_base.specs.declared.change.Field.TheVariants as fields
use Rattle.ca_base.specs.declared.change.State.TheVariants as states
use Rattle.ca_base.specs.declared.completion.Completion.{Completion}
use Rattle.ca_base.specs.declared.limits.TheConstants.{MAX_POLLED}
use Rattle.ca_base.specs.declared.request.SendOp.{SendOp}
use Rattle.ca_base.specs.declared.request.SendOp.TheVariants as ops
use Rattle.ca_base.specs.declared.request.RecvRequest.{RecvRequest}
use Rattle.ca_base.specs.declared.request.SendRequest.{SendRequest}
use Rattle.ca_base.specs.declared.step.Reason.TheVariants as reasons
use Rattle.ca_base.specs.objects.CompletionQueue.{CompletionQueue, after_polls, after_puts}
use Rattle.ca_base.specs.objects.QueuePair.{QueuePair, QueueSlot, NoQueue, Present, recv_cq_of, send_cq_of}
use Rattle.ca_base.specs.objects.StateTable.{modify_refusals, queue_after_change, state_eq}
use Rattle.ca_base.specs.objects.WorkQueue.{with_item}
use Rattle.ca_base.specs.objects.Mailbox.{with_peer}
use Rattle.ca_base.specs.objects.Window.{Window, after_draw, byte_drawn}
use Rattle.ca_keys.specs.Numbers.{key_at, queue_of, window_index}
use Rattle.ca_keys.specs.declared.names.QueueId.{QueueId}
use Rattle.ca_keys.specs.declared.names.Slot.{Slot}
use Rattle.ca_model.specs.History.{IsAnswerTo}
use Rattle.ca_model.specs.declared.answer.Answer.{Answer}
use Rattle.ca_model.specs.declared.answer.Answer.TheVariants as answers
use Rattle.ca_model.specs.declared.answer.Refusal.{Refusal}
use Rattle.ca_model.specs.declared.answer.Refusal.TheVariants.{NoSuch, OutOfRange}
use Rattle.ca_model.specs.declared.mark.Mark.{Mark}
use Rattle.ca_model.specs.declared.verb.Verb.{Verb}
use Rattle.ca_model.specs.declared.verb.Verb.TheVariants as verbs
use Rattle.ca_model.specs.machine.Completions.{flush_marks}
use Rattle.ca_model.specs.machine.CompletionVerbs.{Poll_of, Take_plan, With_place, With_places, poll_plan}
use Rattle.ca_model.specs.machine.Delivery.{Arrive}
use Rattle.ca_model.specs.machine.HostVerbs.{inject_plan}
use Rattle.ca_model.specs.machine.Plan.{Plan, If, Look, Stuck, Update, ◌:=◌}
use Rattle.ca_model.specs.machine.PostingVerbs.{Posted_send, after_flush, marks_of_flush, post_recv_plan, post_recv_refusals, post_send_plan, post_send_refusals, with_send}
use Rattle.ca_model.specs.machine.QueuePairVerbs.{With_present, beside, emptied_mailbox, emptied_updates, modify_qp_plan}
use Rattle.ca_model.specs.machine.Step.{verb_plan}
use Rattle.ca_model.specs.machine.VerbAnswers.{Answer_plan, Call, Refuse_plan, Unless_plan, answer_mark, of_change_refusals}
use Rattle.ca_model.specs.machine.World.{Cq_of, Mailbox_of, Queue_of, Window_of, World}
use Rattle.ca_model.specs.machine.Around.{Around, With_around, completions_to, cq_updates}
use Rattle.ca_law_world.proofs.Sound.WorldLemmas.{around_in, shared_of}

-- the marks of a call: its answer, and then marks that are no answers and tell of no packet that is sent
abbrev pub AreAnswered : Call → List Mark → Type 0
AreAnswered call [] = ⊥
AreAnswered call (m ∷ ms) = IsAnswerTo call.by call.verb m × AreInner ms

-- so are the marks of a call, whatever the world
abbrev pub Answers : Call → World → List Mark → Type 0
Answers call v ms = AreAnswered call ms

-- its answer, and then marks of rows
abbrev pub AreOwnAnswered : Call → List Mark → Type 0
AreOwnAnswered call [] = ⊥
AreOwnAnswered call (m ∷ ms) = IsAnswerTo call.by call.verb m × AreOwn ms

abbrev pub OwnAnswers : Call → World → List Mark → Type 0
OwnAnswers call v ms = AreOwnAnswered call ms

pub own-answered : (call : Call) (ms : List Mark) → AreOwnAnswered call ms → AreAnswered call ms
own-answered call [] own = own
own-answered call (m ∷ ms) own = (own.0, own-inner ms own.1)

flushed-inner : (q : QueuePair) → AreOwn (marks_of_flush q)
flushed-inner q = by (state_eq q.state states.Error)
  where
    by : (b : Bool) → AreOwn (if b then flush_marks q else [])
    by true = flush-inner q
    by false = record {}

fits-answer : (w : World) (call : Call) (answer : Answer) (cs : List Update) (ms : List Mark) → AreOwn ms → Leads w (OwnAnswers call) (Answer_plan call answer cs ms)
fits-answer w call answer cs ms plain = ((refl, refl), plain)

fits-if : (w : World) (call : Call) (test : Bool) (p q : Plan) → Leads w (OwnAnswers call) p → Leads w (OwnAnswers call) q → Leads w (OwnAnswers call) (If test p q)
fits-if w call test p q one other = (λ is. one, λ is. other)

pub fits-refused : (w : World) (call : Call) (r : Refusal) → Leads w (OwnAnswers call) (Refuse_plan call r)
fits-refused w call r = ((refl, refl), record {})

fits-unless : (w : World) (call : Call) (tests : List (Bool × Refusal)) (p : Plan) → Leads w (OwnAnswers call) p → Leads w (OwnAnswers call) (Unless_plan call tests p)
fits-unless w call tests p more = leads-unless w (OwnAnswers call) tests (Refuse_plan call) p (fits-refused w call) more

fits-present : (w : World) (call : Call) (s : Slot) (k : QueuePair → Plan) → ((q : QueuePair) → Leads w (OwnAnswers call) (k q)) → Leads w (OwnAnswers call) (With_present call s k)
fits-present w call s k more = by (w.queue (queue_of s))
  where
    there : QueueSlot → Plan
    there (NoQueue incarnation timers) = Refuse_plan call NoSuch
    there (Present q) = k q

    by : (slot : QueueSlot) → Leads w (OwnAnswers call) (there slot)
    by (NoQueue incarnation timers) = fits-refused w call NoSuch
    by (Present q) = more q

fits-posted : (w : World) (call : Call) (q : QueuePair) (request : SendRequest) (drawn : Option ℕ) (window : Slot) (changes : List Update)
    → Leads w (OwnAnswers call) (Posted_send call q request drawn window changes)
fits-posted w call q request drawn window changes = fits-unless w call (post_send_refusals request q)
    (Answer_plan call (answers.Posted (option_map (key_at (window_index window)) drawn))
    ((Queue_of q.queue := Present (after_flush posted))
    ∷ (Cq_of (send_cq_of q) := option_map (after_puts (completions_to q q.send_cq (marks_of_flush posted))) (w.cq (send_cq_of q)))
    ∷ changes)
    (marks_of_flush posted))
    ((refl, refl), flushed-inner posted)
  where
    posted : QueuePair
    posted = with_send request drawn q

fits-post_send : (c : Configuration) (w : World) (call : Call) (s : Slot) (request : SendRequest) → Leads w (OwnAnswers call) (post_send_plan call s request)
fits-post_send c w call s request = fits-present w call s (λ q. posting q request.op) (λ q. by q request.op)
  where
    draws : QueuePair → Slot → Window → Plan
    draws q window x = Unless_plan call ((x.kind == 0, NoSuch) ∷ []) (Posted_send call q request (byte_drawn x) window ((Window_of window := after_draw x) ∷ []))

    posting : QueuePair → SendOp → Plan
    posting q (ops.Bind1 window region address count rights) = Look (Window_of (beside s window)) (draws q (beside s window))
    posting q op = Posted_send call q request None s []

    by : (q : QueuePair) (op : SendOp) → Leads w (OwnAnswers call) (posting q op)
    by q (ops.Bind1 window region address count rights) = fits-unless w call ((x.kind == 0, NoSuch) ∷ [])
        (Posted_send call q request (byte_drawn x) (beside s window) ((Window_of (beside s window) := after_draw x) ∷ []))
        (fits-posted w call q request (byte_drawn x) (beside s window) ((Window_of (beside s window) := after_draw x) ∷ []))
      where
        x : Window
        x = w.window (beside s window)
    by q (ops.Bind2 window region low address count rights) = fits-posted w call q request None s []
    by q (ops.FastReg region low buffer address count rights pages) = fits-posted w call q request None s []
    by q (ops.LocalInv key) = fits-posted w call q request None s []
    by q (ops.Send list) = fits-posted w call q request None s []
    by q (ops.SendImm imm list) = fits-posted w call q request None s []
    by q (ops.SendInv key list) = fits-posted w call q request None s []
    by q (ops.Write address key list) = fits-posted w call q request None s []
    by q (ops.WriteImm address key imm list) = fits-posted w call q request None s []
    by q (ops.Read address key list) = fits-posted w call q request None s []
    by q (ops.CmpSwap address key compare swap list) = fits-posted w call q request None s []
    by q (ops.FetchAdd address key add list) = fits-posted w call q request None s []

with-place : (w : World) (call : Call) (s : Slot) (cq : CompletionQueue) (polled : List Completion) (x : Completion) (k : Update → Plan) → ((u : Update) → Leads w (OwnAnswers call) (k u))
    → Leads w (OwnAnswers call) (With_place s cq polled x k)
with-place w call s cq polled x k more = search rules

with-places : (w : World) (call : Call) (s : Slot) (cq : CompletionQueue) (polled xs : List Completion) (k : List Update → Plan) → ((us : List Update) → Leads w (OwnAnswers call) (k us))
    → Leads w (OwnAnswers call) (With_places s cq polled xs k)
with-places w call s cq polled [] k more = more []
with-places w call s cq polled (x ∷ xs) k more =
    with-place w call s cq polled x (λ u. With_places s cq polled xs (λ us. k (u ∷ us))) (λ u. with-places w call s cq polled xs (λ us. k (u ∷ us)) (λ us. more (u ∷ us)))

fits-poll : (w : World) (call : Call) (s : Slot) (n least : ℕ) → Leads w (OwnAnswers call) (poll_plan call s n least)
fits-poll w call s n least = by (w.cq s)
  where
    ending : CompletionQueue → List Completion → List Update → Plan
    ending cq polled us = Answer_plan call (answers.Polled polled) ((Cq_of s := Some (after_polls (length polled) cq)) ∷ us) []

    taken : (cq : CompletionQueue) (polled : List Completion) → Leads w (OwnAnswers call) (Take_plan call s cq polled)
    taken cq polled = with-places w call s cq polled polled (ending cq polled) (λ us. ((refl, refl), record {}))

    by : (o : Option CompletionQueue) → Leads w (OwnAnswers call) (Poll_of call s n least o)
    by None = fits-refused w call NoSuch
    by (Some cq) = fits-unless w call (((n == 0) || nat_lt MAX_POLLED n || nat_lt n least, OutOfRange fields.Length) ∷ [])
        (If (nat_lt (length cq.waiting) least) (Stuck reasons.Empty) (Take_plan call s cq (take n cq.waiting)))
        (λ few. record {}, λ enough. taken cq (take n cq.waiting))

fits-inject : (c : Configuration) (w : World) (call : Call) (q : QueueId) (bytes : List ℕ) → Leads w (Answers call) (inject_plan c call q bytes)
fits-inject c w call q bytes = by (w.queue q)
  where
    arrives : QueueSlot → Plan
    arrives (NoQueue incarnation timers) = Refuse_plan call NoSuch
    arrives (Present p) = Arrive c p bytes None [] (answer_mark call answers.Fine ∷ [])

    by : (s : QueueSlot) → Leads w (Answers call) (arrives s)
    by (NoQueue incarnation timers) = ((refl, refl), record {})
    by (Present p) = fits-arrive c w (Answers call) p bytes None [] (answer_mark call answers.Fine ∷ []) (λ v ns own. ((refl, refl), (record {}, own-inner ns own)))

-- a change of a queue pair, by what it changes and what it flushes
fits-change : (w : World) (call : Call) (q : QueuePair) (tests : List (Bool × Refusal)) (updates : Around → List Update) (ms : List Mark) → AreOwn ms
    → Leads w (OwnAnswers call) (With_around q (λ a. Unless_plan call tests (Answer_plan call answers.Fine (updates a) ms)))
fits-change w call q tests updates ms plain = leads-around w (OwnAnswers call) q (λ a. Unless_plan call tests (Answer_plan call answers.Fine (updates a) ms))
    (fits-unless w call tests (Answer_plan call answers.Fine (updates (around_in w q (shared_of w q))) ms) ((refl, refl), plain))

fits-modify : (c : Configuration) (w : World) (call : Call) (s : Slot) (change : state_change.Change) → Leads w (OwnAnswers call) (modify_qp_plan c call s change)
fits-modify c w call s changes.Error = fits-present w call s _ (λ q.
    fits-change w call q (of_change_refusals (modify_refusals c q changes.Error)) (λ a. (Queue_of q.queue := Present (queue_after_change changes.Error q)) ∷ cq_updates q a (flush_marks q)) (flush_marks q) (flush-inner q))
fits-modify c w call s changes.Reset = fits-present w call s _ (λ q.
    fits-change w call q (of_change_refusals (modify_refusals c q changes.Reset)) (λ a. (Queue_of q.queue := Present (queue_after_change changes.Reset q)) ∷ (Mailbox_of q.queue := emptied_mailbox (queue_after_change changes.Reset q).incarnation (w.mailbox q.queue)) ∷ emptied_updates q a) [] (record {}))
fits-modify c w call s changes.Init = fits-present w call s _ (λ q.
    fits-change w call q (of_change_refusals (modify_refusals c q changes.Init)) (λ a. (Queue_of q.queue := Present (queue_after_change changes.Init q)) ∷ []) [] (record {}))
fits-modify c w call s (changes.Rtr peer incarnation psn mtu rnr_code) = fits-present w call s _ (λ q.
    fits-change w call q (of_change_refusals (modify_refusals c q (changes.Rtr peer incarnation psn mtu rnr_code))) (λ a. (Queue_of q.queue := Present (queue_after_change (changes.Rtr peer incarnation psn mtu rnr_code) q)) ∷ (Mailbox_of q.queue := with_peer q.incarnation (Some (record { queue = peer; incarnation = incarnation })) (w.mailbox q.queue)) ∷ []) [] (record {}))
fits-modify c w call s (changes.Rts psn retry rnr_retry reads) = fits-present w call s _ (λ q.
    fits-change w call q (of_change_refusals (modify_refusals c q (changes.Rts psn retry rnr_retry reads))) (λ a. (Queue_of q.queue := Present (queue_after_change (changes.Rts psn retry rnr_retry reads) q)) ∷ []) [] (record {}))
fits-modify c w call s changes.Sqd = fits-present w call s _ (λ q.
    fits-change w call q (of_change_refusals (modify_refusals c q changes.Sqd)) (λ a. (Queue_of q.queue := Present (queue_after_change changes.Sqd q)) ∷ []) [] (record {}))
fits-modify c w call s changes.Resume = fits-present w call s _ (λ q.
    fits-change w call q (of_change_refusals (modify_refusals c q changes.Resume)) (λ a. (Queue_of q.queue := Present (queue_after_change changes.Resume q)) ∷ []) [] (record {}))

fits-post_recv : (w : World) (call : Call) (s : Slot) (request : RecvRequest) → Leads w (OwnAnswers call) (post_recv_plan call s request)
fits-post_recv w call s request = fits-present w call s _ by
  where
    after : QueuePair → QueuePair
    after q = record q { receives = option_map (with_item request) q.receives }

    posted : QueuePair → Plan
    posted q = Answer_plan call (answers.Posted None)
        ((Queue_of q.queue := Present (after_flush (after q)))
        ∷ (Cq_of (recv_cq_of q) := option_map (after_puts (completions_to q q.recv_cq (marks_of_flush (after q)))) (w.cq (recv_cq_of q)))
        ∷ [])
        (marks_of_flush (after q))

    by : (q : QueuePair) → Leads w (OwnAnswers call) (Unless_plan call (post_recv_refusals request q) (posted q))
    by q = fits-unless w call (post_recv_refusals request q) (posted q) ((refl, refl), flushed-inner (after q))

-- a verb that lets no bytes arrive
abbrev pub IsNoInjection : Verb → Type 0
IsNoInjection (verbs.Inject queue bytes) = ⊥
IsNoInjection verb = Unit {0}

pub own-verb : (c : Configuration) (w : World) (call : Call) (verb : Verb) → IsNoInjection verb → Leads w (OwnAnswers call) (verb_plan c call verb)
own-verb c w call (verbs.AllocPd domain) none = search rules
own-verb c w call (verbs.DeallocPd domain) none = search rules
own-verb c w call (verbs.RegMr slot buffer offset count rights) none = search rules
own-verb c w call (verbs.AllocMr slot pages) none = search rules
own-verb c w call (verbs.DeregMr slot) none = search rules
own-verb c w call (verbs.AllocMw slot kind) none = search rules
own-verb c w call (verbs.DeallocMw slot) none = search rules
own-verb c w call (verbs.CreateCq slot capacity) none = search rules
own-verb c w call (verbs.DestroyCq slot) none = search rules
own-verb c w call (verbs.CreateSrq slot depth) none = search rules
own-verb c w call (verbs.DestroySrq slot) none = search rules
own-verb c w call (verbs.CreateQp slot send_cq recv_cq send_depth recv_depth srq) none = search (rules, fits-unless)
own-verb c w call (verbs.ModifyQp slot change) none = fits-modify c w call slot change
own-verb c w call (verbs.QueryQp slot) none = search rules
own-verb c w call (verbs.DestroyQp slot) none = search rules
own-verb c w call (verbs.PostSend slot request) none = fits-post_send c w call slot request
own-verb c w call (verbs.PostRecv slot request) none = fits-post_recv w call slot request
own-verb c w call (verbs.PostSrq slot request) none = search rules
own-verb c w call (verbs.Poll slot n least) none = fits-poll w call slot n least
own-verb c w call (verbs.Store adapter buffer offset bytes) none = search rules
own-verb c w call (verbs.Load adapter buffer offset count) none = search rules
own-verb c w call (verbs.Inject queue bytes) none = absurd none

-- the same, where a packet may arrive too
fits-own : (c : Configuration) (w : World) (call : Call) (verb : Verb) → IsNoInjection verb → Leads w (Answers call) (verb_plan c call verb)
fits-own c w call verb none = leads-weaker w (OwnAnswers call) (Answers call) (verb_plan c call verb) (λ v ms. own-answered call ms) (own-verb c w call verb none)

pub fits-verb : (c : Configuration) (w : World) (call : Call) (verb : Verb) → Leads w (Answers call) (verb_plan c call verb)
fits-verb c w call (verbs.AllocPd domain) = fits-own c w call (verbs.AllocPd domain) (record {})
fits-verb c w call (verbs.DeallocPd domain) = fits-own c w call (verbs.DeallocPd domain) (record {})
fits-verb c w call (verbs.RegMr slot buffer offset count rights) = fits-own c w call (verbs.RegMr slot buffer offset count rights) (record {})
fits-verb c w call (verbs.AllocMr slot pages) = fits-own c w call (verbs.AllocMr slot pages) (record {})
fits-verb c w call (verbs.DeregMr slot) = fits-own c w call (verbs.DeregMr slot) (record {})
fits-verb c w call (verbs.AllocMw slot kind) = fits-own c w call (verbs.AllocMw slot kind) (record {})
fits-verb c w call (verbs.DeallocMw slot) = fits-own c w call (verbs.DeallocMw slot) (record {})
fits-verb c w call (verbs.CreateCq slot capacity) = fits-own c w call (verbs.CreateCq slot capacity) (record {})
fits-verb c w call (verbs.DestroyCq slot) = fits-own c w call (verbs.DestroyCq slot) (record {})
fits-verb c w call (verbs.CreateSrq slot depth) = fits-own c w call (verbs.CreateSrq slot depth) (record {})
fits-verb c w call (verbs.DestroySrq slot) = fits-own c w call (verbs.DestroySrq slot) (record {})
fits-verb c w call (verbs.CreateQp slot send_cq recv_cq send_depth recv_depth srq) = fits-own c w call (verbs.CreateQp slot send_cq recv_cq send_depth recv_depth srq) (record {})
fits-verb c w call (verbs.ModifyQp slot change) = fits-own c w call (verbs.ModifyQp slot change) (record {})
fits-verb c w call (verbs.QueryQp slot) = fits-own c w call (verbs.QueryQp slot) (record {})
fits-verb c w call (verbs.DestroyQp slot) = fits-own c w call (verbs.DestroyQp slot) (record {})
fits-verb c w call (verbs.PostSend slot request) = fits-own c w call (verbs.PostSend slot request) (record {})
fits-verb c w call (verbs.PostRecv slot request) = fits-own c w call (verbs.PostRecv slot request) (record {})
fits-verb c w call (verbs.PostSrq slot request) = fits-own c w call (verbs.PostSrq slot request) (record {})
fits-verb c w call (verbs.Poll slot n least) = fits-own c w call (verbs.Poll slot n least) (record {})
fits-verb c w call (verbs.Store adapter buffer offset bytes) = fits-own c w call (verbs.Store adapter buffer offset bytes) (record {})
fits-verb c w call (verbs.Load adapter buffer offset count) = fits-own c w call (verbs.Load adapter buffer offset count) (record {})
fits-verb c w call (verbs.Inject queue bytes) = fits-inject c w call queue bytes

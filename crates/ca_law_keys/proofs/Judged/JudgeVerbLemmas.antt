-- The marks of every verb but Load and Inject tell of nothing that could be judged wrongly. For proofs only.
use Rattle.std.proofs.Common.{◌≡◌, refl, arith, not, ℕ, ◌||◌, ◌==◌, nat_lt, Bool, true, false, if◌then◌else◌, List, [], ◌∷◌, take, length, Option, None, Some, rules}
use Rattle.std.specs.Option.{option_map, option_map_or}
use Rattle.ca_law_endings.specs.Runs.{Leads}
use Rattle.ca_law_keys.proofs.Keys.PlainLemmas.{ArePlainMarks, IsPlainMark, flush-plain}
use Rattle.ca_law_keys.proofs.Judged.JudgeLemmas.{both-true}
use Rattle.ca_law_endings.proofs.LeadsLemmas.{leads-around, leads-unless}
use Rattle.ca_law_endings.proofs.PathVerbLemmas.{call_of}
use Rattle.std.proofs.lemmas.Bool.{eq-eqb}
use Rattle.ca_keys.specs.Memory.{places_count}
use Rattle.ca_keys.specs.declared.key.Key.{Key}
use Rattle.ca_model.specs.Judged.{is_judged, is_loaded}
use Rattle.ca_model.specs.Past.{Past, after_mark, each_mark}
use Rattle.ca_base.specs.Configuration.{Configuration}
use Rattle.ca_base.specs.declared.change.Change as state_change
use Rattle.ca_base.specs.declared.change.Change.TheVariants as changes
use Rattle.ca_base.specs.declared.change.Field.TheVariants as fields
use Rattle.ca_base.specs.declared.change.State.TheVariants as states
use Rattle.ca_base.specs.declared.completion.Completion.{Completion}
use Rattle.ca_base.specs.declared.limits.TheConstants.{MAX_POLLED}
use Rattle.ca_base.specs.declared.request.SendOp.{SendOp}
use Rattle.ca_base.specs.declared.request.SendOp.TheVariants as ops
use Rattle.ca_base.specs.declared.request.RecvRequest.{RecvRequest}
use Rattle.ca_base.specs.declared.request.SendRequest.{SendRequest}
use Rattle.ca_base.specs.declared.step.Reason.TheVariants as reasons
use Rattle.ca_base.specs.objects.CompletionQueue.{CompletionQueue, after_polls, after_puts}
use Rattle.ca_base.specs.objects.QueuePair.{QueuePair, QueueSlot, NoQueue, Present, recv_cq_of, send_cq_of}
use Rattle.ca_base.specs.objects.StateTable.{modify_refusals, queue_after_change, state_eq}
use Rattle.ca_base.specs.objects.WorkQueue.{with_item}
use Rattle.ca_base.specs.objects.Mailbox.{with_peer}
use Rattle.ca_base.specs.objects.Window.{Window, after_draw, byte_drawn}
use Rattle.ca_keys.specs.Numbers.{key_at, queue_of, window_index}
use Rattle.ca_keys.specs.declared.names.Slot.{Slot}
use Rattle.ca_model.specs.declared.answer.Answer.TheVariants as answers
use Rattle.ca_model.specs.declared.answer.Refusal.{Refusal}
use Rattle.ca_model.specs.declared.answer.Refusal.TheVariants.{NoDomain, NoSuch, OutOfRange, SlotTaken}
use Rattle.ca_model.specs.declared.mark.Mark.{Mark}
use Rattle.ca_model.specs.declared.mark.Mark.TheVariants as marks
use Rattle.ca_keys.specs.declared.grant.Grant.{Grant}
use Rattle.ca_keys.specs.declared.place.Run.{Run}
use Rattle.ca_keys.specs.declared.rights.Rights.{Rights}
use Rattle.ca_base.specs.Grants.{grant_of_registration, next_low, registration_refusals}
use Rattle.ca_base.specs.objects.Domain.{with_object, without_object}
use Rattle.ca_base.specs.objects.Region.{after_deregistration, after_registration, deregistration_refusals, grant_of_region, is_vacant_region}
use Rattle.ca_model.specs.machine.RegionVerbs.{dereg_mr_plan, reg_mr_plan}
use Rattle.ca_model.specs.declared.verb.Verb.{Verb}
use Rattle.ca_model.specs.declared.verb.Verb.TheVariants as verbs
use Rattle.ca_model.specs.machine.Completions.{flush_marks}
use Rattle.ca_model.specs.machine.CompletionVerbs.{Poll_of, Take_plan, With_place, With_places, poll_plan}
use Rattle.ca_model.specs.machine.Plan.{Plan, If, Look, Stuck, Update, ◌:=◌}
use Rattle.ca_model.specs.machine.PostingVerbs.{Posted_send, after_flush, marks_of_flush, post_recv_plan, post_recv_refusals, post_send_plan, post_send_refusals, with_send}
use Rattle.ca_model.specs.machine.QueuePairVerbs.{With_present, beside, emptied_mailbox, emptied_updates, modify_qp_plan}
use Rattle.ca_model.specs.machine.Step.{bytes_of_buffer, run_of, verb_plan}
use Rattle.ca_model.specs.machine.VerbAnswers.{Answer_plan, Call, Refuse_plan, Unless_plan, of_change_refusals, of_region_refusals}
use Rattle.ca_model.specs.machine.World.{Cq_of, Domain_of, Mailbox_of, Queue_of, Region_of, Window_of, World}
use Rattle.ca_model.specs.machine.Around.{Around, With_around, completions_to, cq_updates}
use Rattle.ca_law_world.proofs.Sound.WorldLemmas.{around_in, shared_of}

-- a mark that is judged whatever came before: no access; no Load's answer; and a grant that is whole
abbrev pub IsQuietMark : Mark → Type 0
IsQuietMark (marks.Verb by verb answer) = (p : Past) → is_loaded p verb answer ≡ true
IsQuietMark (marks.Granted g) = (places_count g.runs == g.length) ≡ true
IsQuietMark (marks.Remote queue domain envelope key kind address count verdict) = ⊥
IsQuietMark (marks.Local queue domain key kind address count verdict) = ⊥
IsQuietMark m = Unit {0}

abbrev pub AreQuiet : List Mark → Type 0
AreQuiet [] = Unit {0}
AreQuiet (m ∷ ms) = IsQuietMark m × AreQuiet ms

quiet-one : (m : Mark) → IsQuietMark m → (p : Past) → is_judged p m ≡ true
quiet-one (marks.Verb by verb answer) quiet p = quiet p
quiet-one (marks.Granted x) quiet p = quiet
quiet-one (marks.Revoked adapter key) quiet p = refl
quiet-one (marks.Stored place bytes) quiet p = refl
quiet-one (marks.Remote queue domain envelope key kind address count verdict) quiet p = absurd quiet
quiet-one (marks.Local queue domain key kind address count verdict) quiet p = absurd quiet
quiet-one (marks.Sent source target index request bytes) quiet p = refl
quiet-one (marks.Lost target index) quiet p = refl
quiet-one (marks.Arrived target index) quiet p = refl
quiet-one (marks.Dropped target cause) quiet p = refl
quiet-one (marks.Timer queue silently) quiet p = refl
quiet-one (marks.Done queue x cause) quiet p = refl

pub quiet-judged : (ms : List Mark) → AreQuiet ms → (p : Past) → each_mark is_judged p ms ≡ true
quiet-judged [] quiet p = refl
quiet-judged (m ∷ ms) quiet p = both-true (is_judged p m) _ (quiet-one m quiet.0 p) (quiet-judged ms quiet.1 (after_mark m p))

plain-one : (m : Mark) → IsPlainMark m → IsQuietMark m
plain-one (marks.Verb by verb answer) plain = absurd plain
plain-one (marks.Granted x) plain = absurd plain
plain-one (marks.Revoked adapter key) plain = record {}
plain-one (marks.Stored place bytes) plain = record {}
plain-one (marks.Remote queue domain envelope key kind address count verdict) plain = plain
plain-one (marks.Local queue domain key kind address count verdict) plain = plain
plain-one (marks.Sent source target index request bytes) plain = plain
plain-one (marks.Lost target index) plain = plain
plain-one (marks.Arrived target index) plain = plain
plain-one (marks.Dropped target cause) plain = plain
plain-one (marks.Timer queue silently) plain = plain
plain-one (marks.Done queue x cause) plain = plain

plain-quiet : (ms : List Mark) → ArePlainMarks ms → AreQuiet ms
plain-quiet [] plain = plain
plain-quiet (m ∷ ms) plain = (plain-one m plain.0, plain-quiet ms plain.1)

-- a refusal loads nothing
pub refused-loaded : (p : Past) (verb : Verb) (r : Refusal) → is_loaded p verb (answers.Refused r) ≡ true
refused-loaded p (verbs.AllocPd domain) r = refl
refused-loaded p (verbs.DeallocPd domain) r = refl
refused-loaded p (verbs.RegMr slot buffer offset count rights) r = refl
refused-loaded p (verbs.AllocMr slot pages) r = refl
refused-loaded p (verbs.DeregMr slot) r = refl
refused-loaded p (verbs.AllocMw slot kind) r = refl
refused-loaded p (verbs.DeallocMw slot) r = refl
refused-loaded p (verbs.CreateCq slot capacity) r = refl
refused-loaded p (verbs.DestroyCq slot) r = refl
refused-loaded p (verbs.CreateSrq slot depth) r = refl
refused-loaded p (verbs.DestroySrq slot) r = refl
refused-loaded p (verbs.CreateQp slot send_cq recv_cq send_depth recv_depth srq) r = refl
refused-loaded p (verbs.ModifyQp slot change) r = refl
refused-loaded p (verbs.QueryQp slot) r = refl
refused-loaded p (verbs.DestroyQp slot) r = refl
refused-loaded p (verbs.PostSend slot request) r = refl
refused-loaded p (verbs.PostRecv slot request) r = refl
refused-loaded p (verbs.PostSrq slot request) r = refl
refused-loaded p (verbs.Poll slot n least) r = refl
refused-loaded p (verbs.Store adapter buffer offset bytes) r = refl
refused-loaded p (verbs.Load adapter buffer offset count) r = refl
refused-loaded p (verbs.Inject queue bytes) r = refl

-- the marks of a call are quiet, whatever the world
abbrev pub Answers : Call → World → List Mark → Type 0
Answers call v ms = AreQuiet ms

flushed-quiet : (q : QueuePair) → AreQuiet (marks_of_flush q)
flushed-quiet q = by (state_eq q.state states.Error)
  where
    by : (b : Bool) → AreQuiet (if b then flush_marks q else [])
    by true = plain-quiet (flush_marks q) (flush-plain q)
    by false = record {}

quiet-refused : (w : World) (call : Call) (r : Refusal) → Leads w (Answers call) (Refuse_plan call r)
quiet-refused w call r = (λ p. refused-loaded p call.verb r, record {})

quiet-unless : (w : World) (call : Call) (tests : List (Bool × Refusal)) (p : Plan) → Leads w (Answers call) p → Leads w (Answers call) (Unless_plan call tests p)
quiet-unless w call tests p more = leads-unless w (Answers call) tests (Refuse_plan call) p (quiet-refused w call) more

quiet-present : (w : World) (call : Call) (s : Slot) (k : QueuePair → Plan) → ((q : QueuePair) → Leads w (Answers call) (k q)) → Leads w (Answers call) (With_present call s k)
quiet-present w call s k more = by (w.queue (queue_of s))
  where
    there : QueueSlot → Plan
    there (NoQueue incarnation timers) = Refuse_plan call NoSuch
    there (Present q) = k q

    by : (slot : QueueSlot) → Leads w (Answers call) (there slot)
    by (NoQueue incarnation timers) = quiet-refused w call NoSuch
    by (Present q) = more q

quiet-posted : (w : World) (call : Call) (q : QueuePair) (request : SendRequest) (drawn : Option ℕ) (window : Slot) (changes : List Update)
    → ((o : Option Key) (p : Past) → is_loaded p call.verb (answers.Posted o) ≡ true) → Leads w (Answers call) (Posted_send call q request drawn window changes)
quiet-posted w call q request drawn window changes told = quiet-unless w call (post_send_refusals request q)
    (Answer_plan call (answers.Posted (option_map (key_at (window_index window)) drawn))
    ((Queue_of q.queue := Present (after_flush posted))
    ∷ (Cq_of (send_cq_of q) := option_map (after_puts (completions_to q q.send_cq (marks_of_flush posted))) (w.cq (send_cq_of q)))
    ∷ changes)
    (marks_of_flush posted))
    (told (option_map (key_at (window_index window)) drawn), flushed-quiet posted)
  where
    posted : QueuePair
    posted = with_send request drawn q

quiet-post_send : (c : Configuration) (w : World) (call : Call) (s : Slot) (request : SendRequest) → ((o : Option Key) (p : Past) → is_loaded p call.verb (answers.Posted o) ≡ true) → Leads w (Answers call) (post_send_plan call s request)
quiet-post_send c w call s request told = quiet-present w call s (λ q. posting q request.op) (λ q. by q request.op)
  where
    draws : QueuePair → Slot → Window → Plan
    draws q window x = Unless_plan call ((x.kind == 0, NoSuch) ∷ []) (Posted_send call q request (byte_drawn x) window ((Window_of window := after_draw x) ∷ []))

    posting : QueuePair → SendOp → Plan
    posting q (ops.Bind1 window region address count rights) = Look (Window_of (beside s window)) (draws q (beside s window))
    posting q op = Posted_send call q request None s []

    by : (q : QueuePair) (op : SendOp) → Leads w (Answers call) (posting q op)
    by q (ops.Bind1 window region address count rights) = quiet-unless w call ((x.kind == 0, NoSuch) ∷ [])
        (Posted_send call q request (byte_drawn x) (beside s window) ((Window_of (beside s window) := after_draw x) ∷ []))
        (quiet-posted w call q request (byte_drawn x) (beside s window) ((Window_of (beside s window) := after_draw x) ∷ []) told)
      where
        x : Window
        x = w.window (beside s window)
    by q (ops.Bind2 window region low address count rights) = quiet-posted w call q request None s [] told
    by q (ops.FastReg region low buffer address count rights pages) = quiet-posted w call q request None s [] told
    by q (ops.LocalInv key) = quiet-posted w call q request None s [] told
    by q (ops.Send list) = quiet-posted w call q request None s [] told
    by q (ops.SendImm imm list) = quiet-posted w call q request None s [] told
    by q (ops.SendInv key list) = quiet-posted w call q request None s [] told
    by q (ops.Write address key list) = quiet-posted w call q request None s [] told
    by q (ops.WriteImm address key imm list) = quiet-posted w call q request None s [] told
    by q (ops.Read address key list) = quiet-posted w call q request None s [] told
    by q (ops.CmpSwap address key compare swap list) = quiet-posted w call q request None s [] told
    by q (ops.FetchAdd address key add list) = quiet-posted w call q request None s [] told

with-place : (w : World) (call : Call) (s : Slot) (cq : CompletionQueue) (polled : List Completion) (x : Completion) (k : Update → Plan) → ((u : Update) → Leads w (Answers call) (k u))
    → Leads w (Answers call) (With_place s cq polled x k)
with-place w call s cq polled x k more = search rules

with-places : (w : World) (call : Call) (s : Slot) (cq : CompletionQueue) (polled xs : List Completion) (k : List Update → Plan) → ((us : List Update) → Leads w (Answers call) (k us))
    → Leads w (Answers call) (With_places s cq polled xs k)
with-places w call s cq polled [] k more = more []
with-places w call s cq polled (x ∷ xs) k more =
    with-place w call s cq polled x (λ u. With_places s cq polled xs (λ us. k (u ∷ us))) (λ u. with-places w call s cq polled xs (λ us. k (u ∷ us)) (λ us. more (u ∷ us)))

quiet-poll : (w : World) (call : Call) (s : Slot) (n least : ℕ) → ((xs : List Completion) (p : Past) → is_loaded p call.verb (answers.Polled xs) ≡ true) → Leads w (Answers call) (poll_plan call s n least)
quiet-poll w call s n least told = by (w.cq s)
  where
    ending : CompletionQueue → List Completion → List Update → Plan
    ending cq polled us = Answer_plan call (answers.Polled polled) ((Cq_of s := Some (after_polls (length polled) cq)) ∷ us) []

    taken : (cq : CompletionQueue) (polled : List Completion) → Leads w (Answers call) (Take_plan call s cq polled)
    taken cq polled = with-places w call s cq polled polled (ending cq polled) (λ us. (told polled, record {}))

    by : (o : Option CompletionQueue) → Leads w (Answers call) (Poll_of call s n least o)
    by None = quiet-refused w call NoSuch
    by (Some cq) = quiet-unless w call (((n == 0) || nat_lt MAX_POLLED n || nat_lt n least, OutOfRange fields.Length) ∷ [])
        (If (nat_lt (length cq.waiting) least) (Stuck reasons.Empty) (Take_plan call s cq (take n cq.waiting)))
        (λ few. record {}, λ enough. taken cq (take n cq.waiting))

-- a change of a queue pair, by what it changes and what it flushes
quiet-change : (w : World) (call : Call) (q : QueuePair) (tests : List (Bool × Refusal)) (updates : Around → List Update) (ms : List Mark) → AreQuiet ms → ((p : Past) → is_loaded p call.verb answers.Fine ≡ true)
    → Leads w (Answers call) (With_around q (λ a. Unless_plan call tests (Answer_plan call answers.Fine (updates a) ms)))
quiet-change w call q tests updates ms quiet told = leads-around w (Answers call) q (λ a. Unless_plan call tests (Answer_plan call answers.Fine (updates a) ms))
    (quiet-unless w call tests (Answer_plan call answers.Fine (updates (around_in w q (shared_of w q))) ms) (told, quiet))

quiet-modify : (c : Configuration) (w : World) (call : Call) (s : Slot) (change : state_change.Change) → ((p : Past) → is_loaded p call.verb answers.Fine ≡ true) → Leads w (Answers call) (modify_qp_plan c call s change)
quiet-modify c w call s changes.Error told = quiet-present w call s _ (λ q.
    quiet-change w call q (of_change_refusals (modify_refusals c q changes.Error)) (λ a. (Queue_of q.queue := Present (queue_after_change changes.Error q)) ∷ cq_updates q a (flush_marks q)) (flush_marks q) (plain-quiet (flush_marks q) (flush-plain q)) told)
quiet-modify c w call s changes.Reset told = quiet-present w call s _ (λ q.
    quiet-change w call q (of_change_refusals (modify_refusals c q changes.Reset)) (λ a. (Queue_of q.queue := Present (queue_after_change changes.Reset q)) ∷ (Mailbox_of q.queue := emptied_mailbox (queue_after_change changes.Reset q).incarnation (w.mailbox q.queue)) ∷ emptied_updates q a) [] (record {}) told)
quiet-modify c w call s changes.Init told = quiet-present w call s _ (λ q.
    quiet-change w call q (of_change_refusals (modify_refusals c q changes.Init)) (λ a. (Queue_of q.queue := Present (queue_after_change changes.Init q)) ∷ []) [] (record {}) told)
quiet-modify c w call s (changes.Rtr peer incarnation psn mtu rnr_code) told = quiet-present w call s _ (λ q.
    quiet-change w call q (of_change_refusals (modify_refusals c q (changes.Rtr peer incarnation psn mtu rnr_code))) (λ a. (Queue_of q.queue := Present (queue_after_change (changes.Rtr peer incarnation psn mtu rnr_code) q)) ∷ (Mailbox_of q.queue := with_peer q.incarnation (Some (record { queue = peer; incarnation = incarnation })) (w.mailbox q.queue)) ∷ []) [] (record {}) told)
quiet-modify c w call s (changes.Rts psn retry rnr_retry reads) told = quiet-present w call s _ (λ q.
    quiet-change w call q (of_change_refusals (modify_refusals c q (changes.Rts psn retry rnr_retry reads))) (λ a. (Queue_of q.queue := Present (queue_after_change (changes.Rts psn retry rnr_retry reads) q)) ∷ []) [] (record {}) told)
quiet-modify c w call s changes.Sqd told = quiet-present w call s _ (λ q.
    quiet-change w call q (of_change_refusals (modify_refusals c q changes.Sqd)) (λ a. (Queue_of q.queue := Present (queue_after_change changes.Sqd q)) ∷ []) [] (record {}) told)
quiet-modify c w call s changes.Resume told = quiet-present w call s _ (λ q.
    quiet-change w call q (of_change_refusals (modify_refusals c q changes.Resume)) (λ a. (Queue_of q.queue := Present (queue_after_change changes.Resume q)) ∷ []) [] (record {}) told)

quiet-post_recv : (w : World) (call : Call) (s : Slot) (request : RecvRequest) → ((p : Past) → is_loaded p call.verb (answers.Posted None) ≡ true) → Leads w (Answers call) (post_recv_plan call s request)
quiet-post_recv w call s request told = quiet-present w call s _ by
  where
    after : QueuePair → QueuePair
    after q = record q { receives = option_map (with_item request) q.receives }

    posted : QueuePair → Plan
    posted q = Answer_plan call (answers.Posted None)
        ((Queue_of q.queue := Present (after_flush (after q)))
        ∷ (Cq_of (recv_cq_of q) := option_map (after_puts (completions_to q q.recv_cq (marks_of_flush (after q)))) (w.cq (recv_cq_of q)))
        ∷ [])
        (marks_of_flush (after q))

    by : (q : QueuePair) → Leads w (Answers call) (Unless_plan call (post_recv_refusals request q) (posted q))
    by q = quiet-unless w call (post_recv_refusals request q) (posted q) (told, flushed-quiet (after q))

quiet-reg : (w : World) (call : Call) (s : Slot) (at : Run) (bytes : ℕ) (rights : Rights) → ((key : Key) (p : Past) → is_loaded p call.verb (answers.Key key) ≡ true) → Leads w (Answers call) (reg_mr_plan call s at bytes rights)
quiet-reg w call s at bytes rights told = quiet-unless w call ((not (w.domain s.domain).allocated, NoDomain) ∷ (not (is_vacant_region (w.region s)), SlotTaken) ∷ of_region_refusals (registration_refusals at bytes rights))
    (Answer_plan call (answers.Key h.key) ((Domain_of s.domain := with_object (w.domain s.domain)) ∷ (Region_of s := after_registration s at rights (w.region s)) ∷ []) (marks.Granted h ∷ []))
    (told h.key, (eq-eqb (places_count h.runs) h.length (omega arith), record {}))
  where
    h : Grant
    h = grant_of_registration s at rights (next_low (w.region s).low)

quiet-dereg : (w : World) (call : Call) (s : Slot) → ((p : Past) → is_loaded p call.verb answers.Fine ≡ true) → Leads w (Answers call) (dereg_mr_plan call s)
quiet-dereg w call s told = quiet-unless w call (of_region_refusals (deregistration_refusals (w.region s)))
    (Answer_plan call answers.Fine ((Domain_of s.domain := without_object (w.domain s.domain)) ∷ (Region_of s := after_deregistration (w.region s)) ∷ [])
    (option_map_or (λ g. marks.Revoked s.domain.adapter g.key ∷ []) (grant_of_region (w.region s)) []))
    (told, gone (grant_of_region (w.region s)))
  where
    gone : (o : Option Grant) → AreQuiet (option_map_or (λ g. marks.Revoked s.domain.adapter g.key ∷ []) o [])
    gone None = record {}
    gone (Some g) = (record {}, record {})

-- a verb that reads no bytes and lets none arrive
abbrev pub IsQuietVerb : Verb → Type 0
IsQuietVerb (verbs.Load adapter buffer offset count) = ⊥
IsQuietVerb (verbs.Inject queue bytes) = ⊥
IsQuietVerb verb = Unit {0}

pub quiet-verb : (c : Configuration) (w : World) (by : ℕ) (verb : Verb) → IsQuietVerb verb → Leads w (Answers (call_of by verb)) (verb_plan c (call_of by verb) verb)
quiet-verb c w by (verbs.AllocPd domain) none = search rules
quiet-verb c w by (verbs.DeallocPd domain) none = search rules
quiet-verb c w by (verbs.RegMr slot buffer offset count rights) none = quiet-reg w (call_of by (verbs.RegMr slot buffer offset count rights)) slot (run_of slot.domain.adapter buffer offset count) (bytes_of_buffer c slot.domain.adapter buffer) rights (λ key p. refl)
quiet-verb c w by (verbs.AllocMr slot pages) none = search rules
quiet-verb c w by (verbs.DeregMr slot) none = quiet-dereg w (call_of by (verbs.DeregMr slot)) slot (λ p. refl)
quiet-verb c w by (verbs.AllocMw slot kind) none = search rules
quiet-verb c w by (verbs.DeallocMw slot) none = search rules
quiet-verb c w by (verbs.CreateCq slot capacity) none = search rules
quiet-verb c w by (verbs.DestroyCq slot) none = search rules
quiet-verb c w by (verbs.CreateSrq slot depth) none = search rules
quiet-verb c w by (verbs.DestroySrq slot) none = search rules
quiet-verb c w by (verbs.CreateQp slot send_cq recv_cq send_depth recv_depth srq) none = search (rules, quiet-unless)
quiet-verb c w by (verbs.ModifyQp slot change) none = quiet-modify c w (call_of by (verbs.ModifyQp slot change)) slot change (λ p. refl)
quiet-verb c w by (verbs.QueryQp slot) none = search rules
quiet-verb c w by (verbs.DestroyQp slot) none = search rules
quiet-verb c w by (verbs.PostSend slot request) none = quiet-post_send c w (call_of by (verbs.PostSend slot request)) slot request (λ o p. refl)
quiet-verb c w by (verbs.PostRecv slot request) none = quiet-post_recv w (call_of by (verbs.PostRecv slot request)) slot request (λ p. refl)
quiet-verb c w by (verbs.PostSrq slot request) none = search rules
quiet-verb c w by (verbs.Poll slot n least) none = quiet-poll w (call_of by (verbs.Poll slot n least)) slot n least (λ xs p. refl)
quiet-verb c w by (verbs.Store adapter buffer offset bytes) none = search rules
quiet-verb c w by (verbs.Load adapter buffer offset count) none = absurd none
quiet-verb c w by (verbs.Inject queue bytes) none = absurd none

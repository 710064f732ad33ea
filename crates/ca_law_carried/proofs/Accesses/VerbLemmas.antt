-- Verbs keep the agreement on accesses, and make none. For proofs only.
use Rattle.std.proofs.Common.{Bool, IfSome, List, None, Option, Some, [], ap, arith, false, if◌then◌else◌, is_some, length, ltb-false, nat_lt, not, option_map, refl, slice_get, subst, suc, sym, take, true, true≢false, zero, ℕ, ◌++◌, ◌+◌, ◌-◌, ◌<◌, ◌==◌, ◌||◌, ◌∙◌, ◌∷◌, ◌≡◌, ◌≤◌}
use Rattle.std.proofs.lemmas.Option.{same_Some, slice_get_within}
use Rattle.std.specs.List.{AllByRecursion}
use Rattle.std.specs.Option.{option_and_then, option_map_or}
use Rattle.ca_law_endings.proofs.LeadsLemmas.{leads-unless}
use Rattle.ca_law_endings.proofs.PathChangeLemmas.{Behind}
use Rattle.ca_law_endings.proofs.PathVerbLemmas.{agrees-present, call_of}
use Rattle.ca_law_endings.specs.Runs.{Leads}
use Rattle.ca_law_carried.proofs.Accesses.CarryLemmas.{passes-unheard}
use Rattle.ca_law_carried.proofs.Accesses.QuietLemmas.{AreUnheard, plain-unheard}
use Rattle.ca_law_carried.proofs.Accesses.TurnLemmas.{AreKept, Grows, IsKept, IsKeptSlot, IsMet, KeepsAccesses, Right, agree-kept, grows-then, kept-puts, same-past, same-slot, same-world, unheard-grows}
use Rattle.ca_law_carried.specs.Accesses.{AccessesAgree, IsAsked, IsEndedWorld}
use Rattle.ca_law_endings.proofs.Leading.{leads-unless-all}
use Rattle.ca_law_keys.proofs.Keys.PlainLemmas.{flush-plain}
use Rattle.ca_law_keys.proofs.Keys.ToldLemmas.{ended}
use Rattle.ca_base.specs.Configuration.{Adapter, Configuration}
use Rattle.ca_base.specs.Grants.{grant_of_registration, next_low, registration_refusals}
use Rattle.ca_base.specs.declared.completion.Completion.{Completion}
use Rattle.ca_base.specs.declared.limits.TheConstants.{MAX_BUFFERS, MAX_BUFFER_BYTES, MAX_PAGES, MAX_POLLED}
use Rattle.ca_base.specs.declared.queue_numbers.ResponderNumbers.{ResponderNumbers}
use Rattle.ca_base.specs.declared.request.RecvRequest.{RecvRequest}
use Rattle.ca_base.specs.declared.request.SendOp.{SendOp}
use Rattle.ca_base.specs.declared.request.SendRequest.{SendRequest}
use Rattle.ca_base.specs.objects.CompletionQueue.{CompletionQueue, after_polls, after_puts}
use Rattle.ca_base.specs.objects.Domain.{Domain, with_object, without_object}
use Rattle.ca_base.specs.objects.QueuePair.{NoQueue, Present, QueuePair, QueueSlot, recv_cq_of, send_cq_of, with_all_flushed}
use Rattle.ca_base.specs.objects.Region.{Region, after_allocation, after_deregistration, after_registration, deregistration_refusals, grant_of_region, is_vacant_region, with_window_unbound}
use Rattle.ca_base.specs.objects.StateTable.{state_eq}
use Rattle.ca_base.specs.objects.Window.{Binding, Window, after_deallocation, after_draw, byte_drawn, key_of_window}
use Rattle.ca_base.specs.objects.WorkQueue.{after_retire, with_item}
use Rattle.ca_law_keys.proofs.Judged.JudgeLemmas.{both-true}
use Rattle.ca_keys.specs.Equal.{queue_eq}
use Rattle.ca_keys.specs.Numbers.{key_at, window_index}
use Rattle.ca_keys.specs.declared.grant.Grant.{Grant}
use Rattle.ca_keys.specs.declared.names.QueueId.{QueueId}
use Rattle.ca_keys.specs.declared.names.Slot.{Slot}
use Rattle.ca_keys.specs.declared.place.Run.{Run}
use Rattle.ca_keys.specs.declared.rights.Rights.{Rights}
use Rattle.ca_law_world.proofs.Sound.VerbLemmas.{polled}
use Rattle.ca_model.specs.Past.{Past, after_marks}
use Rattle.ca_model.specs.declared.answer.Answer.{Answer}
use Rattle.ca_model.specs.declared.answer.Refusal.TheVariants.{NoDomain, NoSuch, OutOfRange, SlotTaken}
use Rattle.ca_model.specs.declared.mark.Mark.{Mark}
use Rattle.ca_model.specs.declared.verb.Verb.{Verb}
use Rattle.ca_model.specs.machine.Around.{completions_to}
use Rattle.ca_model.specs.machine.CompletionVerbs.{Poll_of, Take_plan, With_place, With_places, after_poll, poll_plan, receives_after_poll, slot_after_poll, source_of_completion}
use Rattle.ca_model.specs.machine.Completions.{flush_marks}
use Rattle.ca_model.specs.machine.Plan.{If, Look, Plan, Stuck, Update, put_all, ◌:=◌}
use Rattle.ca_model.specs.machine.PostingVerbs.{Posted_send, after_flush, marks_of_flush, post_recv_plan, post_recv_refusals, post_send_plan, post_send_refusals, with_send}
use Rattle.ca_model.specs.machine.QueuePairVerbs.{beside}
use Rattle.ca_model.specs.machine.RegionVerbs.{alloc_mr_plan, dereg_mr_plan, reg_mr_plan}
use Rattle.ca_model.specs.machine.Row.{region_under}
use Rattle.ca_model.specs.machine.Sound.{IsLimitedAdapter}
use Rattle.ca_model.specs.machine.Step.{bytes_of_buffer, has_buffer, run_of}
use Rattle.ca_model.specs.machine.VerbAnswers.{Answer_plan, Call, Refuse_plan, Unless_plan, answer_mark, of_region_refusals}
use Rattle.ca_model.specs.machine.WindowVerbs.{With_binder, dealloc_mw_plan, queue_updates}
use Rattle.ca_model.specs.machine.World.{Cq_of, Domain_of, Queue_of, Region_of, Srq_of, Window_of, World}
use Rattle.ca_model.specs.declared.answer.Answer.TheVariants as answers
use Rattle.ca_model.specs.declared.event.Event.TheVariants as events
use Rattle.ca_base.specs.declared.change.Field.TheVariants as fields
use Rattle.ca_model.specs.declared.mark.Mark.TheVariants as marks
use Rattle.ca_base.specs.declared.request.SendOp.TheVariants as ops
use Rattle.ca_base.specs.declared.step.Reason.TheVariants as reasons
use Rattle.ca_keys.specs.Spelling.{rights_text as rights}
use Rattle.ca_base.specs.declared.change.State.TheVariants as states
use Rattle.ca_model.specs.declared.verb.Verb.TheVariants as verbs

abbrev pub RightBy : Past → ℕ → Verb → World → List Mark → Type 0
RightBy past by verb = Right past (events.Verb by verb)

-- an answer that tells of no access, before marks that tell of none, with changes that keep the agreement
pub right-answer : (c : Configuration) (past : Past) (w : World) (by : ℕ) (verb : Verb) (answer : Answer) (us : List Update) (ms : List Mark) → IsMet c past w → Grows past (Behind past by verb answer) → AreUnheard ms → AreKept w us
    → RightBy past by verb (put_all us w) (answer_mark (call_of by verb) answer ∷ ms)
right-answer c past w by verb answer us ms met grows unheard kept = (
  both-true true _ refl (passes-unheard ms unheard (Behind past by verb answer)),
  (
    agree-kept past (after_marks ms (Behind past by verb answer)) w (put_all us w) (grows-then past (Behind past by verb answer) (after_marks ms (Behind past by verb answer)) grows (unheard-grows ms unheard (Behind past by verb answer)))
        keeps met.agree,
    keeps.ended,
  ),
)
  where
    keeps : KeepsAccesses w (put_all us w)
    keeps = kept-puts w w us kept (same-world w met.ended)

-- changes that keep the agreement, behind others
pub agree-more : (p : Past) (v : World) (us : List Update) → AccessesAgree p v → IsEndedWorld v → AreKept v us → AccessesAgree p (put_all us v) × IsEndedWorld (put_all us v)
agree-more p v us agree ended kept = (agree-kept p p v (put_all us v) (same-past p) keeps agree, keeps.ended)
  where
    keeps : KeepsAccesses v (put_all us v)
    keeps = kept-puts v v us kept (same-world v ended)

flush-unheard : (q : QueuePair) → AreUnheard (marks_of_flush q)
flush-unheard q = by (state_eq q.state states.Error)
  where
    by : (b : Bool) → AreUnheard (if b then flush_marks q else [])
    by true = plain-unheard (flush_marks q) (flush-plain q)
    by false = record {}

-- a queue pair whose responder is the same, or which is flushed at once
flushed-slot : (w : World) (q p : QueuePair) → w.queue q.queue ≡ Present q → p.responder ≡ q.responder → IsKeptSlot (w.queue q.queue) (Present (after_flush p))
flushed-slot w q p is same = subst (λ s. IsKeptSlot s (Present (after_flush p))) (sym is) (by (state_eq p.state states.Error))
  where
    by : (b : Bool) → IsKeptSlot (Present q) (Present (if b then with_all_flushed p else p))
    by true = λ latest naming requests agree. record {
      write = record {};
      mtu = subst (λ (r : ResponderNumbers). IfSome naming (λ n. n.mtu ≡ r.mtu)) (sym same) agree.mtu;
      reads = subst (λ (r : ResponderNumbers). AllByRecursion (IsAsked r.mtu requests) r.answers) (sym same) agree.reads;
    }
    by false = same-slot q p same

-- ---- regions and windows

buffer-few : (xs : List Adapter) (i buffer : ℕ) → AllByRecursion IsLimitedAdapter xs → is_some (option_and_then (λ a. slice_get a.buffers buffer) (slice_get xs i)) ≡ true
    → (option_map_or (λ n. n) (option_and_then (λ a. slice_get a.buffers buffer) (slice_get xs i)) 0 ≤ MAX_BUFFER_BYTES) × (buffer < MAX_BUFFERS)
buffer-few [] i buffer all has = absurd (true≢false (sym has))
buffer-few (a ∷ xs) zero buffer all has = by (slice_get a.buffers buffer) refl has
  where
    within : (ns : List ℕ) (i n : ℕ) → AllByRecursion (λ bytes. bytes ≤ MAX_BUFFER_BYTES) ns → slice_get ns i ≡ Some n → n ≤ MAX_BUFFER_BYTES
    within [] i n all is = absurd (true≢false (sym (ap is_some is)))
    within (m ∷ ns) zero n all is = omega (arith, all.0, same_Some m n is)
    within (m ∷ ns) (suc i) n all is = within ns i n all.1 is

    by : (o : Option ℕ) → slice_get a.buffers buffer ≡ o → is_some o ≡ true → (option_map_or (λ n. n) o 0 ≤ MAX_BUFFER_BYTES) × (buffer < MAX_BUFFERS)
    by None is has = absurd (true≢false (sym has))
    by (Some n) is has = (within a.buffers buffer n all.0.bytes is, omega (arith, all.0.buffers, slice_get_within a.buffers buffer n is))
buffer-few (a ∷ xs) (suc i) buffer all has = buffer-few xs i buffer all.1 has

-- a registration ends where addresses end, or before
pub right-reg_mr : (c : Configuration) (past : Past) (w : World) (by : ℕ) (s : Slot) (buffer offset count : ℕ) (rights : Rights) → IsMet c past w → has_buffer c s.domain.adapter buffer ≡ true
    → Leads w (RightBy past by (verbs.RegMr s buffer offset count rights)) (reg_mr_plan (call_of by (verbs.RegMr s buffer offset count rights)) s (run_of s.domain.adapter buffer offset count) (bytes_of_buffer c s.domain.adapter buffer) rights)
right-reg_mr c past w by s buffer offset count rights met has = leads-unless-all w P
    ((not domain.allocated, NoDomain) ∷ (not (is_vacant_region region), SlotTaken) ∷ of_region_refusals (registration_refusals at bytes rights)) (Refuse_plan call)
    (Answer_plan call (answers.Key h.key) ((Domain_of s.domain := with_object domain) ∷ (Region_of s := after_registration s at rights region) ∷ []) (marks.Granted h ∷ []))
    (λ r. (refl, (met.agree, met.ended)))
    (λ fails. right-answer c past w by (verbs.RegMr s buffer offset count rights) (answers.Key h.key) ((Domain_of s.domain := with_object domain) ∷ (Region_of s := after_registration s at rights region) ∷ []) (marks.Granted h ∷ [])
    met (record { incarnation = refl; naming = refl; latest = λ n. refl; requests = λ l test any. any }) (record {}, record {}) (record {}, (omega (arith, few.0, few.1, ltb-false bytes (offset + count) fails.1.1.1.0), record {})))
  where
    P : World → List Mark → Type 0
    P = RightBy past by (verbs.RegMr s buffer offset count rights)

    call : Call
    call = call_of by (verbs.RegMr s buffer offset count rights)

    domain : Domain
    domain = w.domain s.domain

    region : Region
    region = w.region s

    at : Run
    at = run_of s.domain.adapter buffer offset count

    bytes : ℕ
    bytes = bytes_of_buffer c s.domain.adapter buffer

    h : Grant
    h = grant_of_registration s at rights (next_low region.low)

    few : (bytes ≤ MAX_BUFFER_BYTES) × (buffer < MAX_BUFFERS)
    few = buffer-few c.adapters s.domain.adapter buffer met.limited.adapters has

pub right-alloc_mr : (c : Configuration) (past : Past) (w : World) (by : ℕ) (s : Slot) (pages : ℕ) → IsMet c past w → Leads w (RightBy past by (verbs.AllocMr s pages)) (alloc_mr_plan (call_of by (verbs.AllocMr s pages)) s pages)
right-alloc_mr c past w by s pages met = leads-unless w P
    ((not domain.allocated, NoDomain) ∷ (not (is_vacant_region (w.region s)), SlotTaken) ∷ ((pages == 0) || nat_lt MAX_PAGES pages, OutOfRange fields.Pages) ∷ []) (Refuse_plan call)
    (Answer_plan call answers.Fine us []) (λ r. (refl, (met.agree, met.ended)))
    (right-answer c past w by (verbs.AllocMr s pages) answers.Fine us [] met (record { incarnation = refl; naming = refl; latest = λ n. refl; requests = λ l test any. any }) (record {}) (record {}, (record {}, record {})))
  where
    P : World → List Mark → Type 0
    P = RightBy past by (verbs.AllocMr s pages)

    call : Call
    call = call_of by (verbs.AllocMr s pages)

    domain : Domain
    domain = w.domain s.domain

    us : List Update
    us = (Domain_of s.domain := with_object domain) ∷ (Region_of s := after_allocation pages (w.region s)) ∷ []

pub right-dereg_mr : (c : Configuration) (past : Past) (w : World) (by : ℕ) (s : Slot) → IsMet c past w → Leads w (RightBy past by (verbs.DeregMr s)) (dereg_mr_plan (call_of by (verbs.DeregMr s)) s)
right-dereg_mr c past w by s met = leads-unless w P (of_region_refusals (deregistration_refusals (w.region s))) (Refuse_plan call)
    (Answer_plan call answers.Fine us (told (grant_of_region (w.region s)))) (λ r. (refl, (met.agree, met.ended)))
    (right-answer c past w by (verbs.DeregMr s) answers.Fine us (told (grant_of_region (w.region s))) met (record { incarnation = refl; naming = refl; latest = λ n. refl; requests = λ l test any. any }) (ends (grant_of_region (w.region s))) (record {}, (record {}, record {})))
  where
    P : World → List Mark → Type 0
    P = RightBy past by (verbs.DeregMr s)

    call : Call
    call = call_of by (verbs.DeregMr s)

    us : List Update
    us = (Domain_of s.domain := without_object (w.domain s.domain)) ∷ (Region_of s := after_deregistration (w.region s)) ∷ []

    told : Option Grant → List Mark
    told o = option_map_or (λ g. marks.Revoked s.domain.adapter g.key ∷ []) o []

    ends : (o : Option Grant) → AreUnheard (told o)
    ends None = record {}
    ends (Some g) = (record {}, record {})

pub right-dealloc_mw : (c : Configuration) (past : Past) (w : World) (by : ℕ) (s : Slot) → IsMet c past w → Leads w (RightBy past by (verbs.DeallocMw s)) (dealloc_mw_plan (call_of by (verbs.DeallocMw s)) s)
right-dealloc_mw c past w by s met = leads-unless w P ((x.kind == 0, NoSuch) ∷ []) (Refuse_plan call) (plan x.binding) (λ r. (refl, (met.agree, met.ended))) (at x.binding)
  where
    P : World → List Mark → Type 0
    P = RightBy past by (verbs.DeallocMw s)

    call : Call
    call = call_of by (verbs.DeallocMw s)

    x : Window
    x = w.window s

    changed : List Update
    changed = (Domain_of s.domain := without_object (w.domain s.domain)) ∷ (Window_of s := after_deallocation x) ∷ []

    plan : Option Binding → Plan
    plan None = Answer_plan call answers.Fine changed []
    plan (Some b) = Look (Region_of (region_under x b)) (λ region. With_binder b.queue (λ more.
        Answer_plan call answers.Fine (changed ++ (Region_of (region_under x b) := with_window_unbound region) ∷ more) (marks.Revoked s.domain.adapter (key_of_window x) ∷ [])))

    ends : (b : Binding) (more : List Update) → AreKept w more
        → P (put_all (changed ++ (Region_of (region_under x b) := with_window_unbound (w.region (region_under x b))) ∷ more) w) (answer_mark call answers.Fine ∷ marks.Revoked s.domain.adapter (key_of_window x) ∷ [])
    ends b more kept = right-answer c past w by (verbs.DeallocMw s) answers.Fine (changed ++ (Region_of (region_under x b) := with_window_unbound (w.region (region_under x b))) ∷ more)
        (marks.Revoked s.domain.adapter (key_of_window x) ∷ []) met (record { incarnation = refl; naming = refl; latest = λ n. refl; requests = λ l test any. any }) (record {}, record {}) (record {}, (record {}, (met.ended (region_under x b), kept)))

    bound : (q : QueueId) → AreKept w (queue_updates q (w.queue q))
    bound q = on (w.queue q) refl
      where
        on : (t : QueueSlot) → w.queue q ≡ t → AreKept w (queue_updates q t)
        on (NoQueue incarnation timers) is = record {}
        on (Present p) is = (subst (λ t. IsKeptSlot t (Present (record p { windows = p.windows - 1 }))) (sym is) (same-slot p (record p { windows = p.windows - 1 }) refl), record {})

    binder : (b : Binding) (o : Option QueueId) → Leads w P (With_binder o (λ more.
        Answer_plan call answers.Fine (changed ++ (Region_of (region_under x b) := with_window_unbound (w.region (region_under x b))) ∷ more) (marks.Revoked s.domain.adapter (key_of_window x) ∷ [])))
    binder b None = ends b [] (record {})
    binder b (Some q) = ends b (queue_updates q (w.queue q)) (bound q)

    at : (o : Option Binding) → Leads w P (plan o)
    at None = right-answer c past w by (verbs.DeallocMw s) answers.Fine changed [] met (record { incarnation = refl; naming = refl; latest = λ n. refl; requests = λ l test any. any }) (record {}) (record {}, (record {}, record {}))
    at (Some b) = binder b b.queue

-- ---- posting

posted-right : (c : Configuration) (past : Past) (w : World) (by : ℕ) (s : Slot) (request : SendRequest) (q : QueuePair) (drawn : Option ℕ) (window : Slot) (more : List Update) → IsMet c past w → w.queue q.queue ≡ Present q
    → AreKept w more → Leads w (RightBy past by (verbs.PostSend s request)) (Posted_send (call_of by (verbs.PostSend s request)) q request drawn window more)
posted-right c past w by s request q drawn window more met is kept = leads-unless w (RightBy past by (verbs.PostSend s request)) (post_send_refusals request q) (Refuse_plan call)
    (Answer_plan call (answers.Posted (option_map (key_at (window_index window)) drawn)) updates (marks_of_flush posted)) (λ r. (refl, (met.agree, met.ended)))
    (right-answer c past w by (verbs.PostSend s request) (answers.Posted (option_map (key_at (window_index window)) drawn)) updates (marks_of_flush posted) met
    (record { incarnation = refl; naming = refl; latest = λ n. refl; requests = λ l test any. any }) (flush-unheard posted) (flushed-slot w q posted is refl, (record {}, kept)))
  where
    call : Call
    call = call_of by (verbs.PostSend s request)

    posted : QueuePair
    posted = with_send request drawn q

    updates : List Update
    updates =
        (Queue_of q.queue := Present (after_flush posted))
        ∷ (Cq_of (send_cq_of q) := option_map (after_puts (completions_to q q.send_cq (marks_of_flush posted))) (w.cq (send_cq_of q)))
        ∷ more

pub right-post_send : (c : Configuration) (past : Past) (w : World) (by : ℕ) (s : Slot) (request : SendRequest) → IsMet c past w
    → Leads w (RightBy past by (verbs.PostSend s request)) (post_send_plan (call_of by (verbs.PostSend s request)) s request)
right-post_send c past w by s request met = agrees-present c w P call s (λ q. posting q request.op) met.sound (refl, (met.agree, met.ended)) (λ q is name. on q is request.op)
  where
    P : World → List Mark → Type 0
    P = RightBy past by (verbs.PostSend s request)

    call : Call
    call = call_of by (verbs.PostSend s request)

    draws : QueuePair → Slot → Window → Plan
    draws q window x = Unless_plan call ((x.kind == 0, NoSuch) ∷ []) (Posted_send call q request (byte_drawn x) window ((Window_of window := after_draw x) ∷ []))

    posting : QueuePair → SendOp → Plan
    posting q (ops.Bind1 window region address count rights) = Look (Window_of (beside s window)) (draws q (beside s window))
    posting q op = Posted_send call q request None s []

    plain : (q : QueuePair) → w.queue q.queue ≡ Present q → Leads w P (Posted_send call q request None s [])
    plain q is = posted-right c past w by s request q None s [] met is (record {})

    on : (q : QueuePair) → w.queue q.queue ≡ Present q → (op : SendOp) → Leads w P (posting q op)
    on q is (ops.Bind1 window region address count rights) = leads-unless w P ((x.kind == 0, NoSuch) ∷ []) (Refuse_plan call)
        (Posted_send call q request (byte_drawn x) (beside s window) ((Window_of (beside s window) := after_draw x) ∷ [])) (λ r. (refl, (met.agree, met.ended)))
        (posted-right c past w by s request q (byte_drawn x) (beside s window) ((Window_of (beside s window) := after_draw x) ∷ []) met is (record {}, record {}))
      where
        x : Window
        x = w.window (beside s window)
    on q is (ops.Bind2 window region low address count rights) = plain q is
    on q is (ops.FastReg region low buffer address count rights pages) = plain q is
    on q is (ops.LocalInv key) = plain q is
    on q is (ops.Send list) = plain q is
    on q is (ops.SendImm imm list) = plain q is
    on q is (ops.SendInv key list) = plain q is
    on q is (ops.Write address key list) = plain q is
    on q is (ops.WriteImm address key imm list) = plain q is
    on q is (ops.Read address key list) = plain q is
    on q is (ops.CmpSwap address key compare swap list) = plain q is
    on q is (ops.FetchAdd address key add list) = plain q is

pub right-post_recv : (c : Configuration) (past : Past) (w : World) (by : ℕ) (s : Slot) (request : RecvRequest) → IsMet c past w
    → Leads w (RightBy past by (verbs.PostRecv s request)) (post_recv_plan (call_of by (verbs.PostRecv s request)) s request)
right-post_recv c past w by s request met = agrees-present c w P call s _ met.sound (refl, (met.agree, met.ended)) (λ q is name. on q is)
  where
    P : World → List Mark → Type 0
    P = RightBy past by (verbs.PostRecv s request)

    call : Call
    call = call_of by (verbs.PostRecv s request)

    after : QueuePair → QueuePair
    after q = record q { receives = option_map (with_item request) q.receives }

    updates : QueuePair → List Update
    updates q =
        (Queue_of q.queue := Present (after_flush (after q)))
        ∷ (Cq_of (recv_cq_of q) := option_map (after_puts (completions_to q q.recv_cq (marks_of_flush (after q)))) (w.cq (recv_cq_of q)))
        ∷ []

    on : (q : QueuePair) → w.queue q.queue ≡ Present q → Leads w P (Unless_plan call (post_recv_refusals request q) (Answer_plan call (answers.Posted None) (updates q) (marks_of_flush (after q))))
    on q is = leads-unless w P (post_recv_refusals request q) (Refuse_plan call) (Answer_plan call (answers.Posted None) (updates q) (marks_of_flush (after q))) (λ r. (refl, (met.agree, met.ended)))
        (right-answer c past w by (verbs.PostRecv s request) (answers.Posted None) (updates q) (marks_of_flush (after q)) met (record { incarnation = refl; naming = refl; latest = λ n. refl; requests = λ l test any. any })
        (flush-unheard (after q)) (flushed-slot w q (after q) is refl, (record {}, record {})))

-- ---- polls

-- a poll frees places, and leaves responders
polled-same : (name : QueueId) (xs : List Completion) (p : QueuePair) → (after_poll name xs p).responder ≡ p.responder
polled-same name [] p = refl
polled-same name (x ∷ xs) p = polled-same name xs after ∙ one (queue_eq x.queue name) x.receive
  where
    freed : Bool → QueuePair
    freed true = record p { receives = option_map (after_retire x.place) p.receives }
    freed false = record p { sends = after_retire x.place p.sends }

    after : QueuePair
    after = if queue_eq x.queue name then freed x.receive else p

    one : (b r : Bool) → (if b then freed r else p).responder ≡ p.responder
    one true true = refl
    one true false = refl
    one false r = refl

polled-kept : (w : World) (name : QueueId) (polled : List Completion) → IsKept w (Queue_of name) (slot_after_poll name polled (w.queue name))
polled-kept w name polled = by (w.queue name)
  where
    by : (slot : QueueSlot) → IsKeptSlot slot (slot_after_poll name polled slot)
    by (NoQueue incarnation timers) = λ latest naming requests agree. record {}
    by (Present p) = same-slot p (after_poll name polled p) (polled-same name polled p)

with-place : (w : World) (P : World → List Mark → Type 0) (s : Slot) (cq : CompletionQueue) (polled : List Completion) (x : Completion) (k : Update → Plan)
    → ((u : Update) → IsKept w u.name u.thing → Leads w P (k u)) → Leads w P (With_place s cq polled x k)
with-place w P s cq polled x k more = by (source_of_completion cq x)
  where
    shared : ℕ → Slot
    shared srq = record { domain = s.domain; slot = srq }

    placing : Option ℕ → Plan
    placing None = Look (Queue_of x.queue) (λ slot. k (Queue_of x.queue := slot_after_poll x.queue polled slot))
    placing (Some srq) = Look (Srq_of (shared srq)) (λ slot.
        k (Srq_of (shared srq) := record slot { srq = option_map (receives_after_poll cq srq polled) slot.srq }))

    by : (o : Option ℕ) → Leads w P (placing o)
    by None = more (Queue_of x.queue := slot_after_poll x.queue polled (w.queue x.queue)) (polled-kept w x.queue polled)
    by (Some srq) = more _ (record {})

with-places : (w : World) (P : World → List Mark → Type 0) (s : Slot) (cq : CompletionQueue) (polled xs : List Completion) (k : List Update → Plan)
    → ((us : List Update) → AreKept w us → Leads w P (k us)) → Leads w P (With_places s cq polled xs k)
with-places w P s cq polled [] k more = more [] (record {})
with-places w P s cq polled (x ∷ xs) k more = with-place w P s cq polled x (λ u. With_places s cq polled xs (λ us. k (u ∷ us)))
    (λ u kept. with-places w P s cq polled xs (λ us. k (u ∷ us)) (λ us rest. more (u ∷ us) (kept, rest)))

pub right-poll : (c : Configuration) (past : Past) (w : World) (by : ℕ) (s : Slot) (n least : ℕ) → IsMet c past w
    → Leads w (RightBy past by (verbs.Poll s n least)) (poll_plan (call_of by (verbs.Poll s n least)) s n least)
right-poll c past w by s n least met = at (w.cq s)
  where
    call : Call
    call = call_of by (verbs.Poll s n least)

    P : World → List Mark → Type 0
    P = RightBy past by (verbs.Poll s n least)

    ending : CompletionQueue → List Completion → List Update → Plan
    ending cq polled us = Answer_plan call (answers.Polled polled) ((Cq_of s := Some (after_polls (length polled) cq)) ∷ us) []

    taken : (cq : CompletionQueue) (polled : List Completion) → Leads w P (Take_plan call s cq polled)
    taken cq polled = with-places w P s cq polled polled (ending cq polled) (λ us kept.
        right-answer c past w by (verbs.Poll s n least) (answers.Polled polled) ((Cq_of s := Some (after_polls (length polled) cq)) ∷ us) [] met
        (record { incarnation = refl; naming = refl; latest = λ n. refl; requests = λ l test any. any }) (record {}) (record {}, kept))

    at : (o : Option CompletionQueue) → Leads w P (Poll_of call s n least o)
    at None = (refl, (met.agree, met.ended))
    at (Some cq) = leads-unless w P (((n == 0) || nat_lt MAX_POLLED n || nat_lt n least, OutOfRange fields.Length) ∷ []) (Refuse_plan call)
        (If (nat_lt (length cq.waiting) least) (Stuck reasons.Empty) (Take_plan call s cq (take n cq.waiting))) (λ r. (refl, (met.agree, met.ended)))
        (λ few. record {}, λ enough. taken cq (take n cq.waiting))

-- The marks of every verb keep to the bounds. For proofs only.
use Rattle.std.proofs.Common.{◌≡◌, ℕ, ◌+◌, ◌≤◌, ◌||◌, ◌==◌, nat_lt, not, ◌++◌, subst, sym, Bool, true, false, if◌then◌else◌, List, [], ◌∷◌, take, length, Option, None, Some, refl, rules}
use Rattle.std.proofs.lemmas.Bool.{ltb-false, or_parts}
use Rattle.std.specs.Option.{option_map}
use Rattle.ca_law_endings.specs.Runs.{Leads}
use Rattle.ca_law_endings.proofs.LeadsLemmas.{leads-around, leads-row, leads-unless}
use Rattle.ca_law_endings.proofs.Leading.{leads-unless-all}
use Rattle.ca_law_keys.proofs.Keys.PlainLemmas.{flush-plain}
use Rattle.ca_base.specs.Configuration.{Configuration}
use Rattle.ca_base.specs.Grants.{grant_of_registration, next_low, registration_refusals}
use Rattle.ca_base.specs.declared.change.Change as state_change
use Rattle.ca_base.specs.declared.change.Change.TheVariants as changes
use Rattle.ca_base.specs.declared.change.Field.TheVariants as fields
use Rattle.ca_base.specs.declared.change.State.TheVariants as states
use Rattle.ca_base.specs.declared.completion.Completion.{Completion}
use Rattle.ca_base.specs.declared.limits.TheConstants.{MAX_POLLED, MAX_STORE_BYTES}
use Rattle.ca_base.specs.declared.request.SendOp.{SendOp}
use Rattle.ca_base.specs.declared.request.SendOp.TheVariants as ops
use Rattle.ca_base.specs.declared.request.RecvRequest.{RecvRequest}
use Rattle.ca_base.specs.declared.request.SendRequest.{SendRequest}
use Rattle.ca_base.specs.declared.step.Reason.TheVariants as reasons
use Rattle.ca_base.specs.objects.CompletionQueue.{CompletionQueue, after_polls, after_puts}
use Rattle.ca_base.specs.objects.Domain.{Domain, with_object}
use Rattle.ca_base.specs.objects.Mailbox.{with_peer}
use Rattle.ca_base.specs.objects.QueuePair.{QueuePair, QueueSlot, NoQueue, Present, recv_cq_of, send_cq_of}
use Rattle.ca_base.specs.objects.Region.{Region, after_registration, is_vacant_region}
use Rattle.ca_base.specs.objects.StateTable.{modify_refusals, queue_after_change, state_eq}
use Rattle.ca_base.specs.objects.WorkQueue.{with_item}
use Rattle.ca_base.specs.objects.Window.{Window, after_draw, byte_drawn}
use Rattle.ca_keys.specs.Numbers.{key_at, queue_of, window_index}
use Rattle.ca_keys.specs.declared.grant.Grant.{Grant}
use Rattle.ca_keys.specs.declared.names.QueueId.{QueueId}
use Rattle.ca_keys.specs.declared.names.Slot.{Slot}
use Rattle.ca_keys.specs.declared.place.Run.{Run}
use Rattle.ca_keys.specs.declared.rights.Rights.{Rights}
use Rattle.ca_law_world.proofs.Sound.WorldLemmas.{around_in, shared_of}
use Rattle.ca_law_isolation.proofs.BoundedRows.{IsIn, arrival-in, plain-bounded}
use Rattle.ca_law_isolation.specs.Bounds.{AreBounded, LiesInBuffer}
use Rattle.ca_model.specs.declared.answer.Answer.TheVariants as answers
use Rattle.ca_model.specs.declared.answer.Refusal.{Refusal}
use Rattle.ca_model.specs.declared.answer.Refusal.TheVariants.{NoDomain, NoSuch, OutOfRange, SlotTaken}
use Rattle.ca_model.specs.declared.mark.Mark.{Mark}
use Rattle.ca_model.specs.declared.mark.Mark.TheVariants as marks
use Rattle.ca_model.specs.declared.verb.Verb.{Verb}
use Rattle.ca_model.specs.declared.verb.Verb.TheVariants as verbs
use Rattle.ca_model.specs.machine.Around.{Around, With_around, completions_to, cq_updates, shared_in, updates_of}
use Rattle.ca_model.specs.machine.Completions.{flush_marks}
use Rattle.ca_model.specs.machine.CompletionVerbs.{Poll_of, Take_plan, With_place, With_places, poll_plan}
use Rattle.ca_model.specs.machine.Delivery.{Arrive, arrival_row}
use Rattle.ca_model.specs.machine.HostVerbs.{host_refusals, inject_plan, store_plan}
use Rattle.ca_model.specs.machine.Plan.{Plan, Finish, If, Look, Stuck, Update, Write, ◌:=◌}
use Rattle.ca_model.specs.machine.PostingVerbs.{Posted_send, after_flush, marks_of_flush, post_recv_plan, post_recv_refusals, post_send_plan, post_send_refusals, with_send}
use Rattle.ca_model.specs.machine.QueuePairVerbs.{With_present, beside, emptied_mailbox, emptied_updates, modify_qp_plan}
use Rattle.ca_model.specs.machine.RegionVerbs.{reg_mr_plan}
use Rattle.ca_model.specs.machine.Row.{Effects, Row_plan}
use Rattle.ca_model.specs.machine.Step.{bytes_of_buffer, run_of, verb_plan}
use Rattle.ca_model.specs.machine.VerbAnswers.{Answer_plan, Call, Refuse_plan, Unless_plan, answer_mark, of_change_refusals, of_region_refusals}
use Rattle.ca_model.specs.machine.World.{Cq_of, Domain_of, Mailbox_of, Queue_of, Region_of, Window_of, World}

-- the marks of an event keep to the bounds
abbrev pub Within : Configuration → World → List Mark → Type 0
Within c v ms = AreBounded c ms

flushed-bounded : (c : Configuration) (q : QueuePair) → AreBounded c (marks_of_flush q)
flushed-bounded c q = by (state_eq q.state states.Error)
  where
    by : (b : Bool) → AreBounded c (if b then flush_marks q else [])
    by true = plain-bounded c (flush_marks q) (flush-plain q)
    by false = record {}

in-unless : (c : Configuration) (w : World) (call : Call) (tests : List (Bool × Refusal)) (p : Plan) → Leads w (Within c) p → Leads w (Within c) (Unless_plan call tests p)
in-unless c w call tests p more = leads-unless w (Within c) tests (Refuse_plan call) p (λ r. (record {}, record {})) more

in-present : (c : Configuration) (w : World) (call : Call) (s : Slot) (k : QueuePair → Plan) → ((q : QueuePair) → Leads w (Within c) (k q)) → Leads w (Within c) (With_present call s k)
in-present c w call s k more = by (w.queue (queue_of s))
  where
    there : QueueSlot → Plan
    there (NoQueue incarnation timers) = Refuse_plan call NoSuch
    there (Present q) = k q

    by : (slot : QueueSlot) → Leads w (Within c) (there slot)
    by (NoQueue incarnation timers) = (record {}, record {})
    by (Present q) = more q

in-posted : (c : Configuration) (w : World) (call : Call) (q : QueuePair) (request : SendRequest) (drawn : Option ℕ) (window : Slot) (changes : List Update)
    → Leads w (Within c) (Posted_send call q request drawn window changes)
in-posted c w call q request drawn window changes = in-unless c w call (post_send_refusals request q)
    (Answer_plan call (answers.Posted (option_map (key_at (window_index window)) drawn))
    ((Queue_of q.queue := Present (after_flush posted))
    ∷ (Cq_of (send_cq_of q) := option_map (after_puts (completions_to q q.send_cq (marks_of_flush posted))) (w.cq (send_cq_of q)))
    ∷ changes)
    (marks_of_flush posted))
    (record {}, flushed-bounded c posted)
  where
    posted : QueuePair
    posted = with_send request drawn q

in-post_send : (c : Configuration) (w : World) (call : Call) (s : Slot) (request : SendRequest) → Leads w (Within c) (post_send_plan call s request)
in-post_send c w call s request = in-present c w call s (λ q. posting q request.op) (λ q. by q request.op)
  where
    draws : QueuePair → Slot → Window → Plan
    draws q window x = Unless_plan call ((x.kind == 0, NoSuch) ∷ []) (Posted_send call q request (byte_drawn x) window ((Window_of window := after_draw x) ∷ []))

    posting : QueuePair → SendOp → Plan
    posting q (ops.Bind1 window region address count rights) = Look (Window_of (beside s window)) (draws q (beside s window))
    posting q op = Posted_send call q request None s []

    by : (q : QueuePair) (op : SendOp) → Leads w (Within c) (posting q op)
    by q (ops.Bind1 window region address count rights) = in-unless c w call ((x.kind == 0, NoSuch) ∷ [])
        (Posted_send call q request (byte_drawn x) (beside s window) ((Window_of (beside s window) := after_draw x) ∷ []))
        (in-posted c w call q request (byte_drawn x) (beside s window) ((Window_of (beside s window) := after_draw x) ∷ []))
      where
        x : Window
        x = w.window (beside s window)
    by q (ops.Bind2 window region low address count rights) = in-posted c w call q request None s []
    by q (ops.FastReg region low buffer address count rights pages) = in-posted c w call q request None s []
    by q (ops.LocalInv key) = in-posted c w call q request None s []
    by q (ops.Send list) = in-posted c w call q request None s []
    by q (ops.SendImm imm list) = in-posted c w call q request None s []
    by q (ops.SendInv key list) = in-posted c w call q request None s []
    by q (ops.Write address key list) = in-posted c w call q request None s []
    by q (ops.WriteImm address key imm list) = in-posted c w call q request None s []
    by q (ops.Read address key list) = in-posted c w call q request None s []
    by q (ops.CmpSwap address key compare swap list) = in-posted c w call q request None s []
    by q (ops.FetchAdd address key add list) = in-posted c w call q request None s []

with-place : (c : Configuration) (w : World) (s : Slot) (cq : CompletionQueue) (polled : List Completion) (x : Completion) (k : Update → Plan) → ((u : Update) → Leads w (Within c) (k u))
    → Leads w (Within c) (With_place s cq polled x k)
with-place c w s cq polled x k more = search rules

with-places : (c : Configuration) (w : World) (s : Slot) (cq : CompletionQueue) (polled xs : List Completion) (k : List Update → Plan) → ((us : List Update) → Leads w (Within c) (k us))
    → Leads w (Within c) (With_places s cq polled xs k)
with-places c w s cq polled [] k more = more []
with-places c w s cq polled (x ∷ xs) k more =
    with-place c w s cq polled x (λ u. With_places s cq polled xs (λ us. k (u ∷ us))) (λ u. with-places c w s cq polled xs (λ us. k (u ∷ us)) (λ us. more (u ∷ us)))

in-poll : (c : Configuration) (w : World) (call : Call) (s : Slot) (n least : ℕ) → Leads w (Within c) (poll_plan call s n least)
in-poll c w call s n least = by (w.cq s)
  where
    ending : CompletionQueue → List Completion → List Update → Plan
    ending cq polled us = Answer_plan call (answers.Polled polled) ((Cq_of s := Some (after_polls (length polled) cq)) ∷ us) []

    taken : (cq : CompletionQueue) (polled : List Completion) → Leads w (Within c) (Take_plan call s cq polled)
    taken cq polled = with-places c w s cq polled polled (ending cq polled) (λ us. (record {}, record {}))

    by : (o : Option CompletionQueue) → Leads w (Within c) (Poll_of call s n least o)
    by None = (record {}, record {})
    by (Some cq) = in-unless c w call (((n == 0) || nat_lt MAX_POLLED n || nat_lt n least, OutOfRange fields.Length) ∷ [])
        (If (nat_lt (length cq.waiting) least) (Stuck reasons.Empty) (Take_plan call s cq (take n cq.waiting)))
        (λ few. record {}, λ enough. taken cq (take n cq.waiting))

-- a packet that arrives, behind marks that come first
pub in-arrive : (c : Configuration) (w : World) (q : QueuePair) (bytes : List ℕ) (envelope : Option ℕ) (pre : List Update) (ms : List Mark)
    → ((ns : List Mark) → AreBounded c ns → AreBounded c (ms ++ marks.Arrived q.queue envelope ∷ ns)) → Leads w (Within c) (Arrive c q bytes envelope pre ms)
in-arrive c w q bytes envelope pre ms more =
    leads-around w (Within c) q (λ a. Row_plan c (arrival_row bytes envelope (shared_in a) q) (finish a))
    (leads-row c w (Within c) (IsIn c) (arrival_row bytes envelope (shared_in a) q) (finish a) (arrival-in c bytes envelope (shared_in a) q)
    (λ e cs ws bounded aside. more e.marks bounded))
  where
    a : Around
    a = around_in w q (shared_of w q)

    finish : Around → Effects → List Update → List Write → Plan
    finish a e more writes = Finish (pre ++ (updates_of q a e ++ more)) writes (ms ++ marks.Arrived q.queue envelope ∷ e.marks)

in-inject : (c : Configuration) (w : World) (call : Call) (q : QueueId) (bytes : List ℕ) → Leads w (Within c) (inject_plan c call q bytes)
in-inject c w call q bytes = by (w.queue q)
  where
    arrives : QueueSlot → Plan
    arrives (NoQueue incarnation timers) = Refuse_plan call NoSuch
    arrives (Present p) = Arrive c p bytes None [] (answer_mark call answers.Fine ∷ [])

    by : (s : QueueSlot) → Leads w (Within c) (arrives s)
    by (NoQueue incarnation timers) = (record {}, record {})
    by (Present p) = in-arrive c w p bytes None [] (answer_mark call answers.Fine ∷ []) (λ ns bounded. (record {}, (record {}, bounded)))

-- a change of a queue pair, by what it changes and what it flushes
in-change : (c : Configuration) (w : World) (call : Call) (q : QueuePair) (tests : List (Bool × Refusal)) (updates : Around → List Update) (ms : List Mark) → AreBounded c ms
    → Leads w (Within c) (With_around q (λ a. Unless_plan call tests (Answer_plan call answers.Fine (updates a) ms)))
in-change c w call q tests updates ms bounded = leads-around w (Within c) q (λ a. Unless_plan call tests (Answer_plan call answers.Fine (updates a) ms))
    (in-unless c w call tests (Answer_plan call answers.Fine (updates (around_in w q (shared_of w q))) ms) (record {}, bounded))

in-modify : (c : Configuration) (w : World) (call : Call) (s : Slot) (change : state_change.Change) → Leads w (Within c) (modify_qp_plan c call s change)
in-modify c w call s changes.Error = in-present c w call s _ (λ q.
    in-change c w call q (of_change_refusals (modify_refusals c q changes.Error)) (λ a. (Queue_of q.queue := Present (queue_after_change changes.Error q)) ∷ cq_updates q a (flush_marks q)) (flush_marks q) (plain-bounded c (flush_marks q) (flush-plain q)))
in-modify c w call s changes.Reset = in-present c w call s _ (λ q.
    in-change c w call q (of_change_refusals (modify_refusals c q changes.Reset)) (λ a. (Queue_of q.queue := Present (queue_after_change changes.Reset q)) ∷ (Mailbox_of q.queue := emptied_mailbox (queue_after_change changes.Reset q).incarnation (w.mailbox q.queue)) ∷ emptied_updates q a) [] (record {}))
in-modify c w call s changes.Init = in-present c w call s _ (λ q.
    in-change c w call q (of_change_refusals (modify_refusals c q changes.Init)) (λ a. (Queue_of q.queue := Present (queue_after_change changes.Init q)) ∷ []) [] (record {}))
in-modify c w call s (changes.Rtr peer incarnation psn mtu rnr_code) = in-present c w call s _ (λ q.
    in-change c w call q (of_change_refusals (modify_refusals c q (changes.Rtr peer incarnation psn mtu rnr_code))) (λ a. (Queue_of q.queue := Present (queue_after_change (changes.Rtr peer incarnation psn mtu rnr_code) q)) ∷ (Mailbox_of q.queue := with_peer q.incarnation (Some (record { queue = peer; incarnation = incarnation })) (w.mailbox q.queue)) ∷ []) [] (record {}))
in-modify c w call s (changes.Rts psn retry rnr_retry reads) = in-present c w call s _ (λ q.
    in-change c w call q (of_change_refusals (modify_refusals c q (changes.Rts psn retry rnr_retry reads))) (λ a. (Queue_of q.queue := Present (queue_after_change (changes.Rts psn retry rnr_retry reads) q)) ∷ []) [] (record {}))
in-modify c w call s changes.Sqd = in-present c w call s _ (λ q.
    in-change c w call q (of_change_refusals (modify_refusals c q changes.Sqd)) (λ a. (Queue_of q.queue := Present (queue_after_change changes.Sqd q)) ∷ []) [] (record {}))
in-modify c w call s changes.Resume = in-present c w call s _ (λ q.
    in-change c w call q (of_change_refusals (modify_refusals c q changes.Resume)) (λ a. (Queue_of q.queue := Present (queue_after_change changes.Resume q)) ∷ []) [] (record {}))

in-post_recv : (c : Configuration) (w : World) (call : Call) (s : Slot) (request : RecvRequest) → Leads w (Within c) (post_recv_plan call s request)
in-post_recv c w call s request = in-present c w call s _ by
  where
    after : QueuePair → QueuePair
    after q = record q { receives = option_map (with_item request) q.receives }

    posted : QueuePair → Plan
    posted q = Answer_plan call (answers.Posted None)
        ((Queue_of q.queue := Present (after_flush (after q)))
        ∷ (Cq_of (recv_cq_of q) := option_map (after_puts (completions_to q q.recv_cq (marks_of_flush (after q)))) (w.cq (recv_cq_of q)))
        ∷ [])
        (marks_of_flush (after q))

    by : (q : QueuePair) → Leads w (Within c) (Unless_plan call (post_recv_refusals request q) (posted q))
    by q = in-unless c w call (post_recv_refusals request q) (posted q) (record {}, flushed-bounded c (after q))

-- a registration lies in its buffer
in-reg_mr : (c : Configuration) (w : World) (call : Call) (s : Slot) (at : Run) (rights : Rights) → at.adapter ≡ s.domain.adapter
    → Leads w (Within c) (reg_mr_plan call s at (bytes_of_buffer c s.domain.adapter at.buffer) rights)
in-reg_mr c w call s at rights own = leads-unless-all w (Within c)
    ((not domain.allocated, NoDomain) ∷ (not (is_vacant_region region), SlotTaken) ∷ of_region_refusals (registration_refusals at (bytes_of_buffer c s.domain.adapter at.buffer) rights)) (Refuse_plan call)
    (Answer_plan call (answers.Key h.key) ((Domain_of s.domain := with_object domain) ∷ (Region_of s := after_registration s at rights region) ∷ []) (marks.Granted h ∷ []))
    (λ r. (record {}, record {})) (λ fails. (record {}, ((within fails.1.1.1.0, record {}), record {})))
  where
    domain : Domain
    domain = w.domain s.domain

    region : Region
    region = w.region s

    h : Grant
    h = grant_of_registration s at rights (next_low region.low)

    within : nat_lt (bytes_of_buffer c s.domain.adapter at.buffer) (at.offset + at.length) ≡ false → LiesInBuffer c at
    within e = subst (λ x. at.offset + at.length ≤ bytes_of_buffer c x at.buffer) (sym own) (ltb-false (bytes_of_buffer c s.domain.adapter at.buffer) (at.offset + at.length) e)

-- a Store lies in its buffer, and has few bytes
in-store : (c : Configuration) (w : World) (call : Call) (adapter buffer offset : ℕ) (bytes : List ℕ)
    → Leads w (Within c) (store_plan call (run_of adapter buffer offset (length bytes)) (bytes_of_buffer c adapter buffer) bytes)
in-store c w call adapter buffer offset bytes = leads-unless-all w (Within c) (host_refusals at (bytes_of_buffer c adapter buffer)) (Refuse_plan call)
    (Finish [] (record { runs = at ∷ []; bytes = bytes } ∷ []) (answer_mark call answers.Fine ∷ marks.Stored (record { adapter = at.adapter; buffer = at.buffer; offset = at.offset }) bytes ∷ []))
    (λ r. (record {}, record {}))
    (λ fails. (
      record {},
      (
        (
          ltb-false MAX_STORE_BYTES (length bytes) (or_parts (length bytes == 0) (nat_lt MAX_STORE_BYTES (length bytes)) fails.0).1,
          ltb-false (bytes_of_buffer c adapter buffer) (offset + length bytes) fails.1.0,
        ),
        record {},
      ),
    ))
  where
    at : Run
    at = run_of adapter buffer offset (length bytes)

pub in-verb : (c : Configuration) (w : World) (call : Call) (verb : Verb) → Leads w (Within c) (verb_plan c call verb)
in-verb c w call (verbs.AllocPd domain) = search rules
in-verb c w call (verbs.DeallocPd domain) = search rules
in-verb c w call (verbs.RegMr slot buffer offset count rights) = in-reg_mr c w call slot (run_of slot.domain.adapter buffer offset count) rights refl
in-verb c w call (verbs.AllocMr slot pages) = search rules
in-verb c w call (verbs.DeregMr slot) = search rules
in-verb c w call (verbs.AllocMw slot kind) = search rules
in-verb c w call (verbs.DeallocMw slot) = search rules
in-verb c w call (verbs.CreateCq slot capacity) = search rules
in-verb c w call (verbs.DestroyCq slot) = search rules
in-verb c w call (verbs.CreateSrq slot depth) = search rules
in-verb c w call (verbs.DestroySrq slot) = search rules
in-verb c w call (verbs.CreateQp slot send_cq recv_cq send_depth recv_depth srq) = search (rules, in-unless)
in-verb c w call (verbs.ModifyQp slot change) = in-modify c w call slot change
in-verb c w call (verbs.QueryQp slot) = search rules
in-verb c w call (verbs.DestroyQp slot) = search rules
in-verb c w call (verbs.PostSend slot request) = in-post_send c w call slot request
in-verb c w call (verbs.PostRecv slot request) = in-post_recv c w call slot request
in-verb c w call (verbs.PostSrq slot request) = search rules
in-verb c w call (verbs.Poll slot n least) = in-poll c w call slot n least
in-verb c w call (verbs.Store adapter buffer offset bytes) = in-store c w call adapter buffer offset bytes
in-verb c w call (verbs.Load adapter buffer offset count) = search rules
in-verb c w call (verbs.Inject queue bytes) = in-inject c w call queue bytes

-- Walks over the plans of verbs on queue pairs: which queue pairs and mailboxes they change. For proofs only.
use Rattle.std.proofs.Common.{◌≡◌, ℕ, suc, ◌-◌, ◌==◌, nat_lt, true, List, [], ◌∷◌, ◌++◌, Option, None, Some, refl, ap, sym, subst, ◌∙◌, rules}
use Rattle.std.proofs.lemmas.Bool.{not-false}
use Rattle.std.specs.Option.{option_map}
use Rattle.ca_law_endings.proofs.LeadsLemmas.{AreAside, leads-around, leads-row, leads-unless}
use Rattle.ca_law_endings.specs.Runs.{Leads}
use Rattle.ca_law_order.proofs.Polls.PostingLemmas.{Refuses, leads-present}
use Rattle.ca_law_order.proofs.Polls.TurnLemmas.{leads-tests}
use Rattle.ca_base.specs.Configuration.{Configuration}
use Rattle.ca_base.specs.declared.change.Change as state_change
use Rattle.ca_base.specs.declared.change.Change.TheVariants as changes
use Rattle.ca_base.specs.declared.request.RecvRequest.{RecvRequest}
use Rattle.ca_base.specs.declared.request.SendOp.{SendOp}
use Rattle.ca_base.specs.declared.request.SendOp.TheVariants as ops
use Rattle.ca_base.specs.declared.request.SendRequest.{SendRequest}
use Rattle.ca_base.specs.objects.CompletionQueue.{after_puts, without_completions}
use Rattle.ca_base.specs.objects.Domain.{without_object}
use Rattle.ca_base.specs.objects.Mailbox.{Mailbox, with_peer}
use Rattle.ca_base.specs.objects.QueuePair.{QueuePair, QueueSlot, NoQueue, Present, recv_cq_of, send_cq_of, srq_of}
use Rattle.ca_base.specs.objects.Region.{with_window_unbound}
use Rattle.ca_base.specs.objects.SharedReceives.{SharedReceives, SrqSlot, after_receives_retire}
use Rattle.ca_base.specs.objects.StateTable.{allowed_from, is_among, modify_refusals, queue_after_change}
use Rattle.ca_base.specs.objects.Window.{Binding, Window, after_deallocation, after_draw, byte_drawn, key_of_window}
use Rattle.ca_base.specs.objects.WorkQueue.{with_item}
use Rattle.ca_keys.specs.Equal.{queue_eq}
use Rattle.ca_keys.specs.declared.key.Key.{Key}
use Rattle.ca_keys.specs.Refusals.{AllFail}
use Rattle.ca_keys.specs.Numbers.{key_at, queue_of, window_index}
use Rattle.ca_keys.specs.declared.names.QueueId.{QueueId}
use Rattle.ca_keys.specs.declared.names.Slot.{Slot}
use Rattle.ca_law_world.proofs.Sound.WorldLemmas.{IsThere, around_in, shared_of}
use Rattle.ca_model.specs.Past.{with_at}
use Rattle.ca_model.specs.declared.answer.Answer.TheVariants as answers
use Rattle.ca_model.specs.declared.answer.Refusal.TheVariants.{NoSuch, WindowsBound}
use Rattle.ca_model.specs.declared.mark.Mark.{Mark}
use Rattle.ca_model.specs.declared.mark.Mark.TheVariants as marks
use Rattle.ca_model.specs.declared.verb.Verb.{Verb}
use Rattle.ca_model.specs.declared.verb.Verb.TheVariants as verbs
use Rattle.ca_model.specs.machine.Around.{Around, completions_to, cq_updates, shared_in, updates_of}
use Rattle.ca_model.specs.machine.Completions.{flush_marks}
use Rattle.ca_model.specs.machine.Delivery.{Arrive, arrival_row}
use Rattle.ca_model.specs.machine.HostVerbs.{inject_plan}
use Rattle.ca_model.specs.machine.Plan.{Finish, Look, Plan, Update, ◌:=◌, Write, put_all, write_all}
use Rattle.ca_model.specs.machine.PostingVerbs.{Posted_send, after_flush, marks_of_flush, post_recv_plan, post_recv_refusals, post_send_plan, post_send_refusals, with_send}
use Rattle.ca_model.specs.machine.QueuePairVerbs.{beside, destroy_qp_plan, emptied_mailbox, emptied_updates, left_updates, modify_qp_plan, places_held, without_queue}
use Rattle.ca_model.specs.machine.Row.{Effects, Row, Row_plan, region_under}
use Rattle.ca_model.specs.machine.Sound.{IsSoundWorld}
use Rattle.ca_model.specs.machine.Step.{verb_plan}
use Rattle.ca_model.specs.machine.VerbAnswers.{Answer_plan, Call, Refuse_plan, Unless_plan, answer_mark, of_change_refusals}
use Rattle.ca_model.specs.machine.WindowVerbs.{With_binder, dealloc_mw_plan, queue_updates}
use Rattle.ca_model.specs.machine.World.{Cq_of, Domain_of, Mailbox_of, Queue_of, Region_of, Srq_of, Window_of, World}
use Rattle.ca_law_once.proofs.Ties.DeliverWalk.{Ends, Has, has-aside, has-turn, has-writes, puts-append, row-ends}
use Rattle.ca_law_once.proofs.Ties.TimerLemmas.{IsFoundAt, found-at}
use Rattle.ca_law_once.specs.Ties.{LeavesPairs}
use Rattle.ca_law_once.proofs.Verbs.PairLemmas.{Replaces, replaces-changed, replaces-turned}

-- a queue pair that is there, by its name
found-there : (w : World) (s : Slot) (q : QueuePair) → IsThere w q → q.queue ≡ queue_of s → IsFoundAt w (queue_of s) q
found-there w s q there own = record { is = ap w.queue (sym own) ∙ there.present; named = own; sound = there.sound }

-- one queue pair is put
one-put : (w v : World) (s : Slot) (q p : QueuePair) → q.queue ≡ queue_of s → Has (with_at queue_eq w.queue q.queue (Present p)) w.mailbox v → Replaces w (queue_of s) (Present p) (w.mailbox (queue_of s)) v
one-put w v s q p own has = replaces-turned w v (queue_of s) (Present p) (subst (λ n. Has (with_at queue_eq w.queue n (Present p)) w.mailbox v) own has)

-- one slot and its mailbox
both-put : (w v : World) (s : Slot) (name : QueueId) (slot : QueueSlot) (box : Mailbox → Mailbox) → name ≡ queue_of s → Has (with_at queue_eq w.queue name slot) (with_at queue_eq w.mailbox name (box (w.mailbox name))) v
    → Replaces w (queue_of s) slot (box (w.mailbox (queue_of s))) v
both-put w v s name slot box own has = replaces-changed w v (queue_of s) slot (box (w.mailbox (queue_of s)))
    (subst (λ n. Has (with_at queue_eq w.queue n slot) (with_at queue_eq w.mailbox n (box (w.mailbox n))) v) own has)

-- ---- ModifyQp

-- the mailbox of a queue pair after a change of its state
abbrev pub box_after : state_change.Change → QueuePair → Mailbox → Mailbox
box_after changes.Reset q m = emptied_mailbox (suc q.incarnation) m
box_after (changes.Rtr peer incarnation psn mtu rnr_code) q m = with_peer q.incarnation (Some (record { queue = peer; incarnation = incarnation })) m
box_after change q m = m

-- the marks behind the answer of a change
abbrev pub told_by : QueuePair → state_change.Change → List Mark
told_by q changes.Error = flush_marks q
told_by q change = []

pub leads-change : (c : Configuration) (w : World) (P : World → List Mark → Type 0) (call : Call) (s : Slot) (change : state_change.Change) → IsSoundWorld c w → Refuses w P call
    → ((q : QueuePair) (v : World) → IsFoundAt w (queue_of s) q → is_among (allowed_from change) q.state ≡ true
    → Replaces w (queue_of s) (Present (queue_after_change change q)) (box_after change q (w.mailbox (queue_of s))) v → P v (answer_mark call answers.Fine ∷ told_by q change))
    → Leads w P (modify_qp_plan c call s change)
leads-change c w P call s change sound refused more = leads-present c w P call s _ sound refused (λ q there own.
    leads-around w P q (λ a. Unless_plan call (of_change_refusals (modify_refusals c q change)) (plan q a change))
    (leads-tests w P (of_change_refusals (modify_refusals c q change)) (Refuse_plan call) (plan q (around_in w q (shared_of w q)) change) refused
    (λ fails. more q (after q change) (found-there w s q there own) (not-false (is_among (allowed_from change) q.state) fails.0) (replaced q own change))))
  where
    updates : QueuePair → Around → state_change.Change → List Update
    updates q a changes.Error = cq_updates q a (flush_marks q)
    updates q a changes.Reset =
        (Mailbox_of q.queue := emptied_mailbox (queue_after_change changes.Reset q).incarnation (w.mailbox q.queue)) ∷ emptied_updates q a
    updates q a (changes.Rtr peer incarnation psn mtu rnr_code) =
        (Mailbox_of q.queue := with_peer q.incarnation (Some (record { queue = peer; incarnation = incarnation })) (w.mailbox q.queue)) ∷ []
    updates q a change = []

    plan : QueuePair → Around → state_change.Change → Plan
    plan q a change = Answer_plan call answers.Fine ((Queue_of q.queue := Present (queue_after_change change q)) ∷ updates q a change) (told_by q change)

    after : QueuePair → state_change.Change → World
    after q change = put_all ((Queue_of q.queue := Present (queue_after_change change q)) ∷ updates q (around_in w q (shared_of w q)) change) w

    retired : (q : QueuePair) (a : Around) → Has (with_at queue_eq w.queue q.queue (Present (queue_after_change changes.Reset q))) (with_at queue_eq w.mailbox q.queue (emptied_mailbox (suc q.incarnation) (w.mailbox q.queue)))
        (put_all ((Queue_of q.queue := Present (queue_after_change changes.Reset q)) ∷ updates q a changes.Reset) w)
    retired q a = by q.srq a.shared
      where
        freed : Option ℕ → Option SrqSlot → List Update
        freed (Some srq) (Some slot) = (Srq_of (srq_of q srq) := record slot { srq = option_map (after_receives_retire (places_held q a)) slot.srq }) ∷ []
        freed srq slot = []

        by : (o : Option ℕ) (t : Option SrqSlot) → Has (with_at queue_eq w.queue q.queue (Present (queue_after_change changes.Reset q))) (with_at queue_eq w.mailbox q.queue (emptied_mailbox (suc q.incarnation) (w.mailbox q.queue)))
            (put_all ((Queue_of q.queue := Present (queue_after_change changes.Reset q)) ∷ (Mailbox_of q.queue := emptied_mailbox (suc q.incarnation) (w.mailbox q.queue))
            ∷ (Cq_of (send_cq_of q) := option_map (without_completions q.queue) a.send) ∷ (Cq_of (recv_cq_of q) := option_map (without_completions q.queue) a.recv) ∷ freed o t) w)
        by None t = record { queue = refl; mailbox = refl }
        by (Some srq) None = record { queue = refl; mailbox = refl }
        by (Some srq) (Some slot) = record { queue = refl; mailbox = refl }

    replaced : (q : QueuePair) → q.queue ≡ queue_of s → (change : state_change.Change) → Replaces w (queue_of s) (Present (queue_after_change change q)) (box_after change q (w.mailbox (queue_of s))) (after q change)
    replaced q own changes.Init = one-put w (after q changes.Init) s q (queue_after_change changes.Init q) own (record { queue = refl; mailbox = refl })
    replaced q own (changes.Rtr peer incarnation psn mtu rnr_code) =
        both-put w (after q (changes.Rtr peer incarnation psn mtu rnr_code)) s q.queue (Present (queue_after_change (changes.Rtr peer incarnation psn mtu rnr_code) q))
        (with_peer q.incarnation (Some (record { queue = peer; incarnation = incarnation }))) own (record { queue = refl; mailbox = refl })
    replaced q own (changes.Rts psn retry rnr_retry reads) =
        one-put w (after q (changes.Rts psn retry rnr_retry reads)) s q (queue_after_change (changes.Rts psn retry rnr_retry reads) q) own (record { queue = refl; mailbox = refl })
    replaced q own changes.Sqd = one-put w (after q changes.Sqd) s q (queue_after_change changes.Sqd q) own (record { queue = refl; mailbox = refl })
    replaced q own changes.Resume = one-put w (after q changes.Resume) s q (queue_after_change changes.Resume q) own (record { queue = refl; mailbox = refl })
    replaced q own changes.Error = one-put w (after q changes.Error) s q (queue_after_change changes.Error q) own (record { queue = refl; mailbox = refl })
    replaced q own changes.Reset = both-put w (after q changes.Reset) s q.queue (Present (queue_after_change changes.Reset q)) (emptied_mailbox (suc q.incarnation)) own
        (retired q (around_in w q (shared_of w q)))

-- ---- postings

-- a request is posted to a queue pair, which is flushed at once in Error
pub leads-post : (c : Configuration) (w : World) (P : World → List Mark → Type 0) (call : Call) (s : Slot) (request : SendRequest) → IsSoundWorld c w → Refuses w P call
    → ((q : QueuePair) (v : World) (drawn : Option ℕ) (key : Option Key) → IsFoundAt w (queue_of s) q → AllFail (post_send_refusals request q)
    → Replaces w (queue_of s) (Present (after_flush (with_send request drawn q))) (w.mailbox (queue_of s)) v → P v (answer_mark call (answers.Posted key) ∷ marks_of_flush (with_send request drawn q)))
    → Leads w P (post_send_plan call s request)
leads-post c w P call s request sound refused more = leads-present c w P call s (λ q. posting q request.op) sound refused (λ q there own. on q there own request.op)
  where
    draws : QueuePair → Slot → Window → Plan
    draws q window x = Unless_plan call ((x.kind == 0, NoSuch) ∷ []) (Posted_send call q request (byte_drawn x) window ((Window_of window := after_draw x) ∷ []))

    posting : QueuePair → SendOp → Plan
    posting q (ops.Bind1 window region address count rights) = Look (Window_of (beside s window)) (draws q (beside s window))
    posting q op = Posted_send call q request None s []

    updates : QueuePair → Option ℕ → List Update → List Update
    updates q drawn others =
        (Queue_of q.queue := Present (after_flush (with_send request drawn q)))
        ∷ (Cq_of (send_cq_of q) := option_map (after_puts (completions_to q q.send_cq (marks_of_flush (with_send request drawn q)))) (w.cq (send_cq_of q)))
        ∷ others

    posts : (q : QueuePair) (drawn : Option ℕ) (window : Slot) (others : List Update) → IsThere w q → q.queue ≡ queue_of s
        → Has (with_at queue_eq w.queue q.queue (Present (after_flush (with_send request drawn q)))) w.mailbox (put_all (updates q drawn others) w) → Leads w P (Posted_send call q request drawn window others)
    posts q drawn window others there own has = leads-tests w P (post_send_refusals request q) (Refuse_plan call)
        (Answer_plan call (answers.Posted (option_map (key_at (window_index window)) drawn)) (updates q drawn others) (marks_of_flush (with_send request drawn q))) refused
        (λ fails. more q (put_all (updates q drawn others) w) drawn (option_map (key_at (window_index window)) drawn) (found-there w s q there own) fails
        (one-put w (put_all (updates q drawn others) w) s q (after_flush (with_send request drawn q)) own has))

    plain : (q : QueuePair) → IsThere w q → q.queue ≡ queue_of s → Leads w P (Posted_send call q request None s [])
    plain q there own = posts q None s [] there own (record { queue = refl; mailbox = refl })

    on : (q : QueuePair) → IsThere w q → q.queue ≡ queue_of s → (op : SendOp) → Leads w P (posting q op)
    on q there own (ops.Bind1 window region address count rights) = leads-unless w P ((x.kind == 0, NoSuch) ∷ []) (Refuse_plan call)
        (Posted_send call q request (byte_drawn x) (beside s window) ((Window_of (beside s window) := after_draw x) ∷ [])) refused
        (posts q (byte_drawn x) (beside s window) ((Window_of (beside s window) := after_draw x) ∷ []) there own (record { queue = refl; mailbox = refl }))
      where
        x : Window
        x = w.window (beside s window)
    on q there own (ops.Bind2 window region low address count rights) = plain q there own
    on q there own (ops.FastReg region low buffer address count rights pages) = plain q there own
    on q there own (ops.LocalInv key) = plain q there own
    on q there own (ops.Send list) = plain q there own
    on q there own (ops.SendImm imm list) = plain q there own
    on q there own (ops.SendInv key list) = plain q there own
    on q there own (ops.Write address key list) = plain q there own
    on q there own (ops.WriteImm address key imm list) = plain q there own
    on q there own (ops.Read address key list) = plain q there own
    on q there own (ops.CmpSwap address key compare swap list) = plain q there own
    on q there own (ops.FetchAdd address key add list) = plain q there own

-- a queue pair with one receive more
abbrev pub with_receive : RecvRequest → QueuePair → QueuePair
with_receive request q = record q { receives = option_map (with_item request) q.receives }

pub leads-receive : (c : Configuration) (w : World) (P : World → List Mark → Type 0) (call : Call) (s : Slot) (request : RecvRequest) → IsSoundWorld c w → Refuses w P call
    → ((q : QueuePair) (v : World) → IsFoundAt w (queue_of s) q → Replaces w (queue_of s) (Present (after_flush (with_receive request q))) (w.mailbox (queue_of s)) v
    → P v (answer_mark call (answers.Posted None) ∷ marks_of_flush (with_receive request q)))
    → Leads w P (post_recv_plan call s request)
leads-receive c w P call s request sound refused more = leads-present c w P call s _ sound refused (λ q there own. leads-unless w P (post_recv_refusals request q) (Refuse_plan call)
    (Answer_plan call (answers.Posted None) (updates q) (marks_of_flush (with_receive request q))) refused
    (more q (put_all (updates q) w) (found-there w s q there own)
    (one-put w (put_all (updates q) w) s q (after_flush (with_receive request q)) own (record { queue = refl; mailbox = refl }))))
  where
    updates : QueuePair → List Update
    updates q =
        (Queue_of q.queue := Present (after_flush (with_receive request q)))
        ∷ (Cq_of (recv_cq_of q) := option_map (after_puts (completions_to q q.recv_cq (marks_of_flush (with_receive request q)))) (w.cq (recv_cq_of q)))
        ∷ []

-- ---- DestroyQp

pub leads-destroy : (c : Configuration) (w : World) (P : World → List Mark → Type 0) (call : Call) (s : Slot) → IsSoundWorld c w → Refuses w P call
    → ((q : QueuePair) (v : World) → IsFoundAt w (queue_of s) q → Replaces w (queue_of s) (NoQueue q.incarnation q.requester.timers) (emptied_mailbox q.incarnation (w.mailbox (queue_of s))) v → P v (answer_mark call answers.Fine ∷ []))
    → Leads w P (destroy_qp_plan call s)
leads-destroy c w P call s sound refused more = leads-present c w P call s _ sound refused (λ q there own.
    leads-around w P q (λ a. Unless_plan call ((nat_lt 0 q.windows, WindowsBound) ∷ []) (ending q a))
    (leads-unless w P ((nat_lt 0 q.windows, WindowsBound) ∷ []) (Refuse_plan call) (ending q (around_in w q (shared_of w q))) refused
    (more q (put_all (left_updates q (around_in w q (shared_of w q))) (before q (around_in w q (shared_of w q)))) (found-there w s q there own)
    (both-put w (put_all (left_updates q (around_in w q (shared_of w q))) (before q (around_in w q (shared_of w q)))) s q.queue (NoQueue q.incarnation q.requester.timers) (emptied_mailbox q.incarnation) own
    (left q (around_in w q (shared_of w q)))))))
  where
    front : QueuePair → Around → List Update
    front q a =
        (Domain_of s.domain := without_object (w.domain s.domain))
        ∷ (Queue_of q.queue := NoQueue q.incarnation q.requester.timers)
        ∷ (Mailbox_of q.queue := emptied_mailbox q.incarnation (w.mailbox q.queue))
        ∷ (Cq_of (send_cq_of q) := option_map (without_queue q) a.send)
        ∷ (Cq_of (recv_cq_of q) := option_map (without_queue q) a.recv)
        ∷ []

    ending : QueuePair → Around → Plan
    ending q a = Answer_plan call answers.Fine
        ((Domain_of s.domain := without_object (w.domain s.domain))
        ∷ (Queue_of q.queue := NoQueue q.incarnation q.requester.timers)
        ∷ (Mailbox_of q.queue := emptied_mailbox q.incarnation (w.mailbox q.queue))
        ∷ (Cq_of (send_cq_of q) := option_map (without_queue q) a.send)
        ∷ (Cq_of (recv_cq_of q) := option_map (without_queue q) a.recv)
        ∷ left_updates q a)
        []

    before : QueuePair → Around → World
    before q a = put_all (front q a) w

    left : (q : QueuePair) (a : Around) → Has (with_at queue_eq w.queue q.queue (NoQueue q.incarnation q.requester.timers)) (with_at queue_eq w.mailbox q.queue (emptied_mailbox q.incarnation (w.mailbox q.queue)))
        (put_all (left_updates q a) (before q a))
    left q a = by q.srq a.shared
      where
        updates : Option ℕ → Option SrqSlot → List Update
        updates (Some srq) (Some slot) = (Srq_of (record { domain = q.domain; slot = srq }) := record {
          srq = option_map (after_receives_retire (places_held q a)) slot.srq;
          users = slot.users - 1;
        }) ∷ []
        updates srq slot = []

        by : (o : Option ℕ) (t : Option SrqSlot) → Has (with_at queue_eq w.queue q.queue (NoQueue q.incarnation q.requester.timers)) (with_at queue_eq w.mailbox q.queue (emptied_mailbox q.incarnation (w.mailbox q.queue)))
            (put_all (updates o t) (before q a))
        by None t = record { queue = refl; mailbox = refl }
        by (Some srq) None = record { queue = refl; mailbox = refl }
        by (Some srq) (Some slot) = record { queue = refl; mailbox = refl }

-- ---- DeallocMw

-- the queue pair through which a window was bound has one window fewer
abbrev pub window_fewer : QueuePair → QueuePair
window_fewer p = record p { windows = p.windows - 1 }

-- the mark of the key that a window ends, if it was bound
abbrev pub revocation : ℕ → Option Key → List Mark
revocation adapter None = []
revocation adapter (Some key) = marks.Revoked adapter key ∷ []

pub leads-dealloc : (w : World) (P : World → List Mark → Type 0) (call : Call) (s : Slot) → Refuses w P call
    → ((v : World) (o : Option Key) → v.queue ≡ w.queue → v.mailbox ≡ w.mailbox → P v (answer_mark call answers.Fine ∷ revocation s.domain.adapter o))
    → ((name : QueueId) (p : QueuePair) (v : World) (o : Option Key) → w.queue name ≡ Present p → v.queue ≡ with_at queue_eq w.queue name (Present (window_fewer p)) → v.mailbox ≡ w.mailbox
    → P v (answer_mark call answers.Fine ∷ revocation s.domain.adapter o))
    → Leads w P (dealloc_mw_plan call s)
leads-dealloc w P call s refused alone through = leads-unless w P ((x.kind == 0, NoSuch) ∷ []) (Refuse_plan call) (plan x.binding) refused (at x.binding)
  where
    x : Window
    x = w.window s

    changed : List Update
    changed = (Domain_of s.domain := without_object (w.domain s.domain)) ∷ (Window_of s := after_deallocation x) ∷ []

    plan : Option Binding → Plan
    plan None = Answer_plan call answers.Fine changed []
    plan (Some b) = Look (Region_of (region_under x b)) (λ region. With_binder b.queue (λ more.
        Answer_plan call answers.Fine (changed ++ (Region_of (region_under x b) := with_window_unbound region) ∷ more) (marks.Revoked s.domain.adapter (key_of_window x) ∷ [])))

    end : Binding → List Update → Plan
    end b more = Answer_plan call answers.Fine (changed ++ (Region_of (region_under x b) := with_window_unbound (w.region (region_under x b))) ∷ more) (marks.Revoked s.domain.adapter (key_of_window x) ∷ [])

    slot : (b : Binding) (name : QueueId) (t : QueueSlot) → w.queue name ≡ t → Leads w P (end b (queue_updates name t))
    slot b name (NoQueue incarnation timers) is = alone _ (Some (key_of_window x)) refl refl
    slot b name (Present p) is = through name p _ (Some (key_of_window x)) is refl refl

    binder : (b : Binding) (o : Option QueueId) → Leads w P (With_binder o (end b))
    binder b None = alone _ (Some (key_of_window x)) refl refl
    binder b (Some name) = slot b name (w.queue name) refl

    at : (o : Option Binding) → Leads w P (plan o)
    at None = alone _ None refl refl
    at (Some b) = binder b b.queue

-- ---- Inject

pub leads-inject : (c : Configuration) (w : World) (P : World → List Mark → Type 0) (call : Call) (name : QueueId) (bytes : List ℕ) → IsSoundWorld c w → Refuses w P call
    → ((q : QueuePair) (shared : Option SharedReceives) (e : Effects) (v : World) → IsFoundAt w name q → shared ≡ shared_in (around_in w q (shared_of w q)) → Ends (arrival_row bytes None shared q) e → Replaces w name (Present e.queue) (w.mailbox name) v
    → P v (answer_mark call answers.Fine ∷ marks.Arrived q.queue None ∷ e.marks)) → Leads w P (inject_plan c call name bytes)
leads-inject c w P call name bytes sound refused more = at (w.queue name) refl
  where
    arrives : QueueSlot → Plan
    arrives (NoQueue incarnation timers) = Refuse_plan call NoSuch
    arrives (Present q) = Arrive c q bytes None [] (answer_mark call answers.Fine ∷ [])

    there : (q : QueuePair) → w.queue name ≡ Present q → Leads w P (Arrive c q bytes None [] (answer_mark call answers.Fine ∷ []))
    there q is = leads-around w P q (λ a. Row_plan c (row a) (finish a)) (leads-row c w P (Ends (row a)) (row a) (finish a) (row-ends (row a)) (λ e cs ws ends aside. ended e cs ws ends aside))
      where
        a : Around
        a = around_in w q (shared_of w q)

        row : Around → Row
        row a = arrival_row bytes None (shared_in a) q

        finish : Around → Effects → List Update → List Write → Plan
        finish a e cs ws = Finish (updates_of q a e ++ cs) ws (answer_mark call answers.Fine ∷ marks.Arrived q.queue None ∷ e.marks)

        found : IsFoundAt w name q
        found = found-at c w name q sound is

        ended : (e : Effects) (cs : List Update) (ws : List Write) → Ends (row a) e → AreAside cs
            → P (write_all ws (put_all (updates_of q a e ++ cs) w)) (answer_mark call answers.Fine ∷ marks.Arrived q.queue None ∷ e.marks)
        ended e cs ws ends aside = more q (shared_in a) e _ found refl ends (replaces-turned w (write_all ws (put_all (updates_of q a e ++ cs) w)) name (Present e.queue)
            (subst (λ n. Has (with_at queue_eq w.queue n (Present e.queue)) w.mailbox (write_all ws (put_all (updates_of q a e ++ cs) w))) found.named
            (has-writes _ _ ws (put_all (updates_of q a e ++ cs) w)
            (subst (Has (with_at queue_eq w.queue q.queue (Present e.queue)) w.mailbox) (sym (puts-append (updates_of q a e) cs w))
            (has-aside _ _ cs (put_all (updates_of q a e) w) aside (has-turn w q a e))))))

    at : (slot : QueueSlot) → w.queue name ≡ slot → Leads w P (arrives slot)
    at (NoQueue incarnation timers) is = refused NoSuch
    at (Present q) is = there q is

-- ---- verbs that change neither

-- the queue pairs and the mailboxes of another world are the same
abbrev pub SamePairs : World → World → List Mark → Type 0
SamePairs w v ms = (v.queue ≡ w.queue) × (v.mailbox ≡ w.mailbox)

pub leads-aside : (c : Configuration) (w : World) (call : Call) (verb : Verb) → LeavesPairs verb → (w.queue ≡ w.queue) × (w.mailbox ≡ w.mailbox) → Leads w (SamePairs w) (verb_plan c call verb)
leads-aside c w call (verbs.AllocPd domain) aside same = search (rules, same)
leads-aside c w call (verbs.DeallocPd domain) aside same = search (rules, same)
leads-aside c w call (verbs.RegMr slot buffer offset count rights) aside same = search (rules, same)
leads-aside c w call (verbs.AllocMr slot pages) aside same = search (rules, same)
leads-aside c w call (verbs.DeregMr slot) aside same = search (rules, same)
leads-aside c w call (verbs.AllocMw slot kind) aside same = search (rules, same)
leads-aside c w call (verbs.CreateCq slot capacity) aside same = search (rules, same)
leads-aside c w call (verbs.DestroyCq slot) aside same = search (rules, same)
leads-aside c w call (verbs.CreateSrq slot depth) aside same = search (rules, same)
leads-aside c w call (verbs.DestroySrq slot) aside same = search (rules, same)
leads-aside c w call (verbs.QueryQp slot) aside same = search (rules, same)
leads-aside c w call (verbs.PostSrq slot request) aside same = search (rules, same)
leads-aside c w call (verbs.Store adapter buffer offset bytes) aside same = search (rules, same)
leads-aside c w call (verbs.Load adapter buffer offset count) aside same = search (rules, same)
leads-aside c w call (verbs.DeallocMw slot) aside same = absurd aside
leads-aside c w call (verbs.CreateQp slot send_cq recv_cq send_depth recv_depth srq) aside same = absurd aside
leads-aside c w call (verbs.ModifyQp slot change) aside same = absurd aside
leads-aside c w call (verbs.DestroyQp slot) aside same = absurd aside
leads-aside c w call (verbs.PostSend slot request) aside same = absurd aside
leads-aside c w call (verbs.PostRecv slot request) aside same = absurd aside
leads-aside c w call (verbs.Poll slot n least) aside same = absurd aside
leads-aside c w call (verbs.Inject queue bytes) aside same = absurd aside

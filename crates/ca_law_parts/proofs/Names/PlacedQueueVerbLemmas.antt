-- The verbs on queue pairs, and those that post to them, in a placed world.
use Rattle.std.proofs.Common.{◌≡◌, ◌∙◌, ap, ◌==◌, ℕ, suc, ◌+◌, ◌*◌, ◌/◌, ◌%◌, ◌-◌, ◌<◌, nat_le, nat_lt, arith, Bool, true, false, List, [], ◌∷◌, filter, Option, None, Some, IfSome, subst, sym, ◌&&◌, not, is_none, if◌then◌else◌, refl}
use Rattle.std.proofs.lemmas.Bool.{and_from, and_parts, eqb-true, le-leb, not-false, or_parts}
use Rattle.std.specs.List.{AllByRecursion}
use Rattle.std.specs.Option.{option_and_then, option_map, option_map_or}
use Rattle.ca_base.specs.declared.change.Change as state_change
use Rattle.ca_base.specs.declared.change.Change.TheVariants as changes
use Rattle.ca_base.specs.declared.change.Field.TheVariants as fields
use Rattle.ca_base.specs.declared.change.State.TheVariants as states
use Rattle.ca_base.specs.declared.limits.TheConstants.{MAX_QPS}
use Rattle.ca_base.specs.declared.request.PostedSend.{PostedSend}
use Rattle.ca_base.specs.declared.request.RecvRequest.{RecvRequest}
use Rattle.ca_base.specs.declared.request.SendOp.{SendOp}
use Rattle.ca_base.specs.declared.request.SendOp.TheVariants as ops
use Rattle.ca_base.specs.declared.request.SendRequest.{SendRequest}
use Rattle.ca_base.specs.declared.reserve.Reserve.TheVariants.{Receives, Shared}
use Rattle.ca_keys.specs.declared.names.QueueId.{QueueId}
use Rattle.ca_keys.specs.declared.names.Slot.{Slot}
use Rattle.ca_base.specs.Configuration.{Configuration}
use Rattle.ca_keys.specs.Equal.{queue_eq}
use Rattle.ca_base.specs.Grants.{next_low}
use Rattle.ca_keys.specs.Numbers.{queue_of}
use Rattle.ca_keys.specs.Refusals.{AllFail}
use Rattle.ca_base.specs.objects.CompletionQueue.{CompletionQueue, after_puts, after_reserve, without_completions}
use Rattle.ca_base.specs.objects.Domain.{with_object, without_object}
use Rattle.ca_base.specs.objects.Mailbox.{with_peer}
use Rattle.ca_base.specs.objects.QueuePair.{QueuePair, QueueSlot, NoQueue, Present, recv_cq_of, send_cq_of, with_all_flushed}
use Rattle.ca_base.specs.objects.SharedReceives.{SharedReceives, SrqSlot, after_receives_retire}
use Rattle.ca_base.specs.objects.Slices.{has_queue, has_slot, slot_of_queue}
use Rattle.ca_base.specs.objects.StateTable.{modify_refusals, queue_after_change, state_eq}
use Rattle.ca_base.specs.objects.Window.{Window, after_draw, byte_drawn}
use Rattle.ca_base.specs.objects.WorkQueue.{with_item}
use Rattle.ca_model.specs.declared.answer.Answer.TheVariants as answers
use Rattle.ca_model.specs.declared.answer.Refusal.TheVariants.{CqTooSmall, NoSuch, OutOfRange, WindowsBound}
use Rattle.ca_model.specs.declared.mark.Mark.{Mark}
use Rattle.ca_model.specs.machine.Around.{Around, completions_to, cq_updates}
use Rattle.ca_model.specs.machine.Completions.{flush_marks}
use Rattle.ca_model.specs.machine.Plan.{Plan, If, Look, Update, ◌:=◌}
use Rattle.ca_model.specs.machine.PostingVerbs.{Posted_send, after_flush, marks_of_flush, post_recv_plan, post_send_plan, with_send}
use Rattle.ca_model.specs.machine.QueuePairVerbs as QueuePairVerbs
use Rattle.ca_model.specs.machine.QueuePairVerbs.{Creation, With_present, With_shared, before_receives, beside, create_qp_plan, destroy_qp_plan, emptied_updates, has_bad_depth, has_no_room, has_queues, left_updates, modify_qp_plan, new_queue, places_held, query_qp_plan, receive_reserve, receive_room, send_reserved, user_updates, without_queue}
use Rattle.ca_model.specs.machine.Sound.{AreLimited, IsQueueOf}
use Rattle.ca_model.specs.machine.Step.{has_named_slot}
use Rattle.ca_model.specs.machine.VerbAnswers.{Answer_plan, Call, Refuse_plan, Unless_plan, of_change_refusals}
use Rattle.ca_model.specs.machine.World.{World, Cq_of, Domain_of, Mailbox_of, Queue_of, Srq_of, Window_of}
use Rattle.ca_law_world.proofs.Sound.VerbLemmas.{queue-slot}
use Rattle.ca_law_world.proofs.Sound.WorldLemmas.{around_in, shared_of}
use Rattle.ca_law_parts.specs.Placed.{IsConfigured, IsPlacedQueue, IsPlacedReservation, IsPlacedThing}
use Rattle.ca_law_parts.proofs.Names.KeptLemmas.{kept_of}
use Rattle.ca_law_parts.proofs.Names.PlanLemmas.{ArePlaced, IsFit, IsPlacedPlan, all-joined}
use Rattle.ca_law_parts.proofs.Names.PlacedTurnLemmas.{IsPlacedHere, around-placed, cq-placed, cqs-placed, kept-placed, placed-here, srq-placed, unless-refused}

-- the slot of the number of a queue pair's slot is that slot
slot-back : (s : Slot) → s.slot < MAX_QPS → slot_of_queue (queue_of s) ≡ s
slot-back s few = λ i. record { domain = record { adapter = s.domain.adapter; domain = number i }; slot = rest i }
  where
    number : ((s.domain.domain + 1) * 256 + s.slot) / 256 - 1 ≡ s.domain.domain
    number = omega (arith, few)

    rest : ((s.domain.domain + 1) * 256 + s.slot) % 256 ≡ s.slot
    rest = omega (arith, few)

-- the number of a configured slot is configured
pub queue-in : (c : Configuration) (s : Slot) → AreLimited c → has_slot c (λ a. a.qps) s ≡ true → IsConfigured c (Queue_of (queue_of s))
queue-in c s limited has = and_from (nat_le 256 (queue_of s).number) (has_slot c (λ a. a.qps) (slot_of_queue (queue_of s)))
    (le-leb 256 (queue_of s).number (omega arith))
    (subst (λ (x : Slot). has_slot c (λ a. a.qps) x ≡ true) (sym (slot-back s (queue-slot c s limited has))) has)

-- looking for a queue pair that a verb names
present-placed : (c : Configuration) (w : World) (call : Call) (s : Slot) (k : QueuePair → Plan) → IsFit c w → IsConfigured c (Queue_of (queue_of s))
    → ((q : QueuePair) → w.queue (queue_of s) ≡ Present q → IsPlacedHere c w q → IsPlacedPlan c w (k q)) → IsPlacedPlan c w (With_present call s k)
present-placed c w call s k fit has more = (has, by (w.queue (queue_of s)) refl)
  where
    plan : QueueSlot → Plan
    plan (NoQueue incarnation timers) = Refuse_plan call NoSuch
    plan (Present q) = k q

    by : (t : QueueSlot) → w.queue (queue_of s) ≡ t → IsPlacedPlan c w (plan t)
    by (NoQueue incarnation timers) is = (record {}, record {})
    by (Present q) is = more q is (placed-here c w (queue_of s) q fit is has)

pub query_qp-placed : (c : Configuration) (w : World) (call : Call) (s : Slot) → IsFit c w → IsConfigured c (Queue_of (queue_of s)) → IsPlacedPlan c w (query_qp_plan call s)
query_qp-placed c w call s fit has = present-placed c w call s _ fit has (λ q is here. (record {}, record {}))

-- what is flushed keeps a queue pair's names
flush-kept : (q : QueuePair) → kept_of (after_flush q) ≡ kept_of q
flush-kept q = by (state_eq q.state states.Error)
  where
    by : (b : Bool) → kept_of (if b then with_all_flushed q else q) ≡ kept_of q
    by true = refl
    by false = refl

posted-placed : (c : Configuration) (q : QueuePair) (request : SendRequest) (drawn : Option ℕ) → IsPlacedQueue c q → has_named_slot c q.domain request.op ≡ true
    → IsPlacedQueue c (after_flush (with_send request drawn q))
posted-placed c q request drawn placed named = kept-placed c (with_send request drawn q) (after_flush (with_send request drawn q)) (flush-kept (with_send request drawn q)) (record {
  send = placed.send;
  recv = placed.recv;
  shared = placed.shared;
  peer = placed.peer;
  posted = all-joined (λ (p : PostedSend). has_named_slot c q.domain p.request.op ≡ true) q.sends.items (record { request = request; drawn = drawn } ∷ []) placed.posted (named, record {});
})

post-placed : (c : Configuration) (w : World) (call : Call) (q : QueuePair) (request : SendRequest) (drawn : Option ℕ) (window : Slot) (more : List Update) → IsFit c w → IsPlacedHere c w q
    → has_named_slot c q.domain request.op ≡ true → ArePlaced c more → IsPlacedPlan c w (Posted_send call q request drawn window more)
post-placed c w call q request drawn window more fit here named placed = (
  here.placed.send,
  (
    λ is. (record {}, record {}),
    λ atomic. (
      λ is. (record {}, record {}),
      λ short. (
        λ is. (record {}, record {}),
        λ state. (
          λ is. (record {}, record {}),
          λ free. (
            (
              (here.name, posted-placed c q request drawn here.placed named),
              (
                (here.placed.send, cq-placed c (send_cq_of q) (after_puts (completions_to q q.send_cq (marks_of_flush (with_send request drawn q)))) (w.cq (send_cq_of q)) (λ x all. all) (fit.placed.things (Cq_of (send_cq_of q)))),
                placed,
              ),
            ),
            record {},
          ),
        ),
      ),
    ),
  ),
)

pub post_send-placed : (c : Configuration) (w : World) (call : Call) (s : Slot) (request : SendRequest) → IsFit c w → AreLimited c → has_slot c (λ a. a.qps) s ≡ true
    → has_named_slot c s.domain request.op ≡ true → IsPlacedPlan c w (post_send_plan call s request)
post_send-placed c w call s request fit limited has named =
    present-placed c w call s (λ q. plan q request.op) fit (queue-in c s limited has) (λ q is here. by q here (of-domain q is) request.op named)
  where
    plan : QueuePair → SendOp → Plan
    plan q (ops.Bind1 window region address count rights) = Look (Window_of (beside s window)) (λ x. If (x.kind == 0) (Refuse_plan call NoSuch)
        (Posted_send call q request (byte_drawn x) (beside s window) ((Window_of (beside s window) := after_draw x) ∷ [])))
    plan q op = Posted_send call q request None s []

    of-domain : (q : QueuePair) → w.queue (queue_of s) ≡ Present q → has_named_slot c q.domain request.op ≡ true
    of-domain q is = subst (λ d. has_named_slot c d request.op ≡ true) (sym (at.1 ∙ ap (λ (x : Slot). x.domain) (slot-back s (queue-slot c s limited has)))) named
      where
        at : IsQueueOf (queue_of s) (Present q)
        at = subst (IsQueueOf (queue_of s)) is (fit.sound.things (Queue_of (queue_of s)))

    drawn : (at : Slot) (x : Window) (b : Bool) → IsPlacedThing c (Window_of at) x → IsPlacedThing c (Window_of at) (if b then record x { drawn = next_low x.drawn } else x)
    drawn at x true one = one
    drawn at x false one = one

    by : (q : QueuePair) → IsPlacedHere c w q → has_named_slot c q.domain request.op ≡ true → (op : SendOp) → has_named_slot c s.domain op ≡ true → IsPlacedPlan c w (plan q op)
    by q here of_queue (ops.Bind1 window region address count rights) there = (
      there,
      (
        λ is. (record {}, record {}),
        λ some.
            post-placed c w call q request (byte_drawn x) (beside s window) ((Window_of (beside s window) := after_draw x) ∷ []) fit here of_queue
            ((there, drawn (beside s window) x (x.kind == 1) (fit.placed.things (Window_of (beside s window)))), record {}),
      ),
    )
      where
        x : Window
        x = w.window (beside s window)
    by q here of_queue (ops.Bind2 window region low address count rights) there = post-placed c w call q request None s [] fit here of_queue (record {})
    by q here of_queue (ops.FastReg region low buffer address count rights pages) there = post-placed c w call q request None s [] fit here of_queue (record {})
    by q here of_queue (ops.LocalInv key) there = post-placed c w call q request None s [] fit here of_queue (record {})
    by q here of_queue (ops.Send list) there = post-placed c w call q request None s [] fit here of_queue (record {})
    by q here of_queue (ops.SendImm imm list) there = post-placed c w call q request None s [] fit here of_queue (record {})
    by q here of_queue (ops.SendInv key list) there = post-placed c w call q request None s [] fit here of_queue (record {})
    by q here of_queue (ops.Write address key list) there = post-placed c w call q request None s [] fit here of_queue (record {})
    by q here of_queue (ops.WriteImm address key imm list) there = post-placed c w call q request None s [] fit here of_queue (record {})
    by q here of_queue (ops.Read address key list) there = post-placed c w call q request None s [] fit here of_queue (record {})
    by q here of_queue (ops.CmpSwap address key compare swap list) there = post-placed c w call q request None s [] fit here of_queue (record {})
    by q here of_queue (ops.FetchAdd address key add list) there = post-placed c w call q request None s [] fit here of_queue (record {})

pub post_recv-placed : (c : Configuration) (w : World) (call : Call) (s : Slot) (request : RecvRequest) → IsFit c w → IsConfigured c (Queue_of (queue_of s))
    → IsPlacedPlan c w (post_recv_plan call s request)
post_recv-placed c w call s request fit has = present-placed c w call s _ fit has (λ q is here. (
  here.placed.recv,
  (
    λ is. (record {}, record {}),
    λ own. (
      λ is. (record {}, record {}),
      λ short. (
        λ is. (record {}, record {}),
        λ state. (
          λ is. (record {}, record {}),
          λ free. (
            (
              (here.name, kept-placed c q (after_flush (posted q)) (flush-kept (posted q)) here.placed),
              (
                (here.placed.recv, cq-placed c (recv_cq_of q) (after_puts (completions_to q q.recv_cq (marks_of_flush (posted q)))) (w.cq (recv_cq_of q)) (λ x all. all) (fit.placed.things (Cq_of (recv_cq_of q)))),
                record {},
              ),
            ),
            record {},
          ),
        ),
      ),
    ),
  ),
))
  where
    posted : QueuePair → QueuePair
    posted q = record q { receives = option_map (with_item request) q.receives }

emptied-placed : (c : Configuration) (w : World) (q : QueuePair) → IsFit c w → IsPlacedHere c w q → ArePlaced c (emptied_updates q (around_in w q (shared_of w q)))
emptied-placed c w q fit here = (
  (here.placed.send, cq-placed c (send_cq_of q) (without_completions q.queue) (w.cq (send_cq_of q)) (λ x all. all) (fit.placed.things (Cq_of (send_cq_of q)))),
  (
    (here.placed.recv, cq-placed c (recv_cq_of q) (without_completions q.queue) (w.cq (recv_cq_of q)) (λ x all. all) (fit.placed.things (Cq_of (recv_cq_of q)))),
    srq-placed c q a (after_receives_retire (places_held q a)) here.placed,
  ),
)
  where
    a : Around
    a = around_in w q (shared_of w q)

-- a change that nothing refuses names a configured peer
changed-placed : (c : Configuration) (q : QueuePair) (change : state_change.Change) → IsPlacedQueue c q → AllFail (of_change_refusals (modify_refusals c q change))
    → IsPlacedQueue c (queue_after_change change q)
changed-placed c q changes.Init placed fails = kept-placed c q (queue_after_change changes.Init q) refl placed
changed-placed c q (changes.Rtr peer incarnation psn mtu rnr_code) placed fails = record {
  send = placed.send;
  recv = placed.recv;
  shared = placed.shared;
  peer = not-false (has_queue c peer) (or_parts (not (has_queue c peer)) (queue_eq peer q.queue) fails.1.0).0;
  posted = placed.posted;
}
changed-placed c q (changes.Rts psn retry rnr_retry reads) placed fails = kept-placed c q (queue_after_change (changes.Rts psn retry rnr_retry reads) q) refl placed
changed-placed c q changes.Sqd placed fails = kept-placed c q (queue_after_change changes.Sqd q) refl placed
changed-placed c q changes.Resume placed fails = kept-placed c q (queue_after_change changes.Resume q) refl placed
changed-placed c q changes.Error placed fails = kept-placed c q (queue_after_change changes.Error q) refl placed
changed-placed c q changes.Reset placed fails = record { send = placed.send; recv = placed.recv; shared = placed.shared; peer = record {}; posted = record {} }

pub modify_qp-placed : (c : Configuration) (w : World) (call : Call) (s : Slot) (change : state_change.Change) → IsFit c w → IsConfigured c (Queue_of (queue_of s))
    → IsPlacedPlan c w (modify_qp_plan c call s change)
modify_qp-placed c w call s change fit has = present-placed c w call s _ fit has (λ q is here. (
  here.name,
  around-placed c w q (λ a. Unless_plan call (of_change_refusals (modify_refusals c q change)) (plan q a change)) here
      (unless-refused c w (of_change_refusals (modify_refusals c q change)) (Refuse_plan call) (plan q (around_in w q (shared_of w q)) change) (λ r. (record {}, record {}))
      (λ fails. (((here.name, changed-placed c q change here.placed fails), by q here change), record {}))),
))
  where
    updates : QueuePair → Around → state_change.Change → List Update
    updates q a changes.Error = cq_updates q a (flush_marks q)
    updates q a changes.Reset =
        (Mailbox_of q.queue := QueuePairVerbs.emptied_mailbox (queue_after_change changes.Reset q).incarnation (w.mailbox q.queue)) ∷ emptied_updates q a
    updates q a (changes.Rtr peer incarnation psn mtu rnr_code) =
        (Mailbox_of q.queue := with_peer q.incarnation (Some (record { queue = peer; incarnation = incarnation })) (w.mailbox q.queue)) ∷ []
    updates q a change = []

    told : QueuePair → state_change.Change → List Mark
    told q changes.Error = flush_marks q
    told q change = []

    plan : QueuePair → Around → state_change.Change → Plan
    plan q a change = Answer_plan call answers.Fine ((Queue_of q.queue := Present (queue_after_change change q)) ∷ updates q a change) (told q change)

    by : (q : QueuePair) → IsPlacedHere c w q → (change : state_change.Change) → ArePlaced c (updates q (around_in w q (shared_of w q)) change)
    by q here changes.Error = cqs-placed c w q (flush_marks q) fit here.placed
    by q here changes.Reset = ((here.name, record {}), emptied-placed c w q fit here)
    by q here (changes.Rtr peer incarnation psn mtu rnr_code) = ((here.name, record {}), record {})
    by q here changes.Init = record {}
    by q here (changes.Rts psn retry rnr_retry reads) = record {}
    by q here changes.Sqd = record {}
    by q here changes.Resume = record {}

all-filtered : {A : Type 0} (P : A → Type 0) (test : A → Bool) (xs : List A) → AllByRecursion P xs → AllByRecursion P (filter test xs)
all-filtered P test [] all = record {}
all-filtered P test (x ∷ xs) all = by (test x) (all-filtered P test xs all.1)
  where
    by : (b : Bool) → AllByRecursion P (filter test xs) → AllByRecursion P (if b then x ∷ filter test xs else filter test xs)
    by true rest = (all.0, rest)
    by false rest = rest

left-placed : (c : Configuration) (q : QueuePair) (a : Around) → IsPlacedQueue c q → ArePlaced c (left_updates q a)
left-placed c q a placed = by q.srq a.shared placed.shared
  where
    left : Option ℕ → Option SrqSlot → List Update
    left (Some srq) (Some slot) = (Srq_of (record { domain = q.domain; slot = srq }) := record {
      srq = option_map (after_receives_retire (places_held q a)) slot.srq;
      users = slot.users - 1;
    }) ∷ []
    left srq slot = []

    by : (o : Option ℕ) (t : Option SrqSlot) → IfSome o (λ srq. IsConfigured c (Srq_of (record { domain = q.domain; slot = srq }))) → ArePlaced c (left o t)
    by None t one = record {}
    by (Some srq) None one = record {}
    by (Some srq) (Some slot) one = ((one, record {}), record {})

pub destroy_qp-placed : (c : Configuration) (w : World) (call : Call) (s : Slot) → IsFit c w → IsConfigured c (Domain_of s.domain) → IsConfigured c (Queue_of (queue_of s))
    → IsPlacedPlan c w (destroy_qp_plan call s)
destroy_qp-placed c w call s fit domain has = (
  domain,
  present-placed c w call s _ fit has (λ q is here. (
    here.name,
    around-placed c w q (plan q) here (
      λ is. (record {}, record {}),
      λ free. (
        (
          (domain, record {}),
          (
            (here.name, record {}),
            (
              (here.name, record {}),
              (
                (here.placed.send, cq-placed c (send_cq_of q) (without_queue q) (w.cq (send_cq_of q)) (λ x all. all-filtered (IsPlacedReservation c (send_cq_of q)) _ x.reservations all) (fit.placed.things (Cq_of (send_cq_of q)))),
                (
                  (here.placed.recv, cq-placed c (recv_cq_of q) (without_queue q) (w.cq (recv_cq_of q)) (λ x all. all-filtered (IsPlacedReservation c (recv_cq_of q)) _ x.reservations all) (fit.placed.things (Cq_of (recv_cq_of q)))),
                  left-placed c q (around_in w q (shared_of w q)) here.placed,
                ),
              ),
            ),
          ),
        ),
        record {},
      ),
    ),
  )),
)
  where
    plan : QueuePair → Around → Plan
    plan q a = If (nat_lt 0 q.windows) (Refuse_plan call WindowsBound)
        (Answer_plan call answers.Fine
        ((Domain_of s.domain := without_object (w.domain s.domain))
        ∷ (Queue_of q.queue := NoQueue q.incarnation q.requester.timers)
        ∷ (Mailbox_of q.queue := QueuePairVerbs.emptied_mailbox q.incarnation (w.mailbox q.queue))
        ∷ (Cq_of (send_cq_of q) := option_map (without_queue q) a.send)
        ∷ (Cq_of (recv_cq_of q) := option_map (without_queue q) a.recv)
        ∷ left_updates q a)
        [])

-- what a queue pair that is made names is configured
pub record IsPlacedCreation (c : Configuration) (x : Creation) : Type 0 where
  pub domain : IsConfigured c (Domain_of x.slot.domain)
  pub queue : IsConfigured c (Queue_of (queue_of x.slot))
  pub send : IsConfigured c (Cq_of (beside x.slot x.send_cq))
  pub recv : IsConfigured c (Cq_of (beside x.slot x.recv_cq))
  pub shared : IfSome x.srq (λ srq. IsConfigured c (Srq_of (beside x.slot srq)))

pub creation-placed : (c : Configuration) (x : Creation) → IsConfigured c (Domain_of x.slot.domain) → IsConfigured c (Queue_of (queue_of x.slot)) → has_queues c x ≡ true → IsPlacedCreation c x
creation-placed c x domain queue has = record { domain = domain; queue = queue; send = both.0; recv = both.1; shared = by x.srq parts.1 }
  where
    parts : (has_slot c (λ a. a.cqs) (beside x.slot x.send_cq) && has_slot c (λ a. a.cqs) (beside x.slot x.recv_cq) ≡ true)
        × (option_map_or (λ srq. has_slot c (λ a. a.srqs) (beside x.slot srq)) x.srq true ≡ true)
    parts = and_parts (has_slot c (λ a. a.cqs) (beside x.slot x.send_cq) && has_slot c (λ a. a.cqs) (beside x.slot x.recv_cq))
        (option_map_or (λ srq. has_slot c (λ a. a.srqs) (beside x.slot srq)) x.srq true) has

    both : (has_slot c (λ a. a.cqs) (beside x.slot x.send_cq) ≡ true) × (has_slot c (λ a. a.cqs) (beside x.slot x.recv_cq) ≡ true)
    both = and_parts (has_slot c (λ a. a.cqs) (beside x.slot x.send_cq)) (has_slot c (λ a. a.cqs) (beside x.slot x.recv_cq)) parts.0

    by : (o : Option ℕ) → option_map_or (λ srq. has_slot c (λ a. a.srqs) (beside x.slot srq)) o true ≡ true → IfSome o (λ srq. IsConfigured c (Srq_of (beside x.slot srq)))
    by None e = record {}
    by (Some srq) e = e

users-placed : (c : Configuration) (x : Creation) (shared : Option SrqSlot) → IsPlacedCreation c x → ArePlaced c (user_updates x shared)
users-placed c x shared made = by x.srq shared made.shared
  where
    updates : Option ℕ → Option SrqSlot → List Update
    updates (Some srq) (Some slot) = (Srq_of (beside x.slot srq) := record slot { users = suc slot.users }) ∷ []
    updates srq slot = []

    by : (o : Option ℕ) (t : Option SrqSlot) → IfSome o (λ srq. IsConfigured c (Srq_of (beside x.slot srq))) → ArePlaced c (updates o t)
    by None t one = record {}
    by (Some srq) None one = record {}
    by (Some srq) (Some slot) one = ((one, record {}), record {})

receive-placed : (c : Configuration) (x : Creation) (room : ℕ) → IsPlacedCreation c x → IsPlacedReservation c (beside x.slot x.recv_cq) (record { who = receive_reserve x; room = room })
receive-placed c x room made = by x.srq made.shared
  where
    by : (o : Option ℕ) → IfSome o (λ srq. IsConfigured c (Srq_of (beside x.slot srq)))
        → IsPlacedReservation c (beside x.slot x.recv_cq) (record { who = option_map_or (λ srq. Shared srq (queue_of x.slot)) o (Receives (queue_of x.slot)); room = room })
    by None one = record { queue = made.queue; source = record {} }
    by (Some srq) one = record { queue = made.queue; source = one }

pub create_qp-placed : (c : Configuration) (w : World) (call : Call) (x : Creation) → IsFit c w → IsConfigured c (Domain_of x.slot.domain) → IsConfigured c (Queue_of (queue_of x.slot))
    → IsPlacedPlan c w (create_qp_plan c call x)
create_qp-placed c w call x fit domain has = (
  domain,
  (
    has,
    (
      has,
      (
        λ is. (record {}, record {}),
        λ there. (
          λ is. (record {}, record {}),
          λ vacant. (λ named. queues (creation-placed c x domain has named), λ none. (record {}, record {})),
        ),
      ),
    ),
  ),
)
  where
    queue : QueueId
    queue = queue_of x.slot

    made : CompletionQueue → CompletionQueue → Option SrqSlot → Option SharedReceives → Plan
    made send recv srq shared = Answer_plan call (answers.Queue queue.number (new_queue x (w.queue queue)).incarnation)
        ((Domain_of x.slot.domain := with_object (w.domain x.slot.domain))
        ∷ (Queue_of queue := Present (new_queue x (w.queue queue)))
        ∷ (Mailbox_of queue := with_peer (new_queue x (w.queue queue)).incarnation None (w.mailbox queue))
        ∷ (Cq_of (beside x.slot x.send_cq) := Some (send_reserved x send))
        ∷ (Cq_of (beside x.slot x.recv_cq) := Some (after_reserve (receive_reserve x) (receive_room x shared) (before_receives x send recv)))
        ∷ user_updates x srq)
        []

    there_plan : Option CompletionQueue → Option CompletionQueue → Option SrqSlot → Option SharedReceives → Plan
    there_plan (Some send) (Some recv) srq shared = If (is_none shared && not (is_none x.srq)) (Refuse_plan call NoSuch)
        (If (has_bad_depth x) (Refuse_plan call (OutOfRange fields.Depth)) (If (has_no_room x shared send recv) (Refuse_plan call CqTooSmall) (made send recv srq shared)))
    there_plan send recv srq shared = Refuse_plan call NoSuch

    plan : Option SrqSlot → Option CompletionQueue → Option CompletionQueue → Plan
    plan shared send recv = there_plan send recv shared (option_and_then (λ s. s.srq) shared)

    send_at : Slot
    send_at = beside x.slot x.send_cq

    recv_at : Slot
    recv_at = beside x.slot x.recv_cq

    new : IsPlacedCreation c x → IsPlacedQueue c (new_queue x (w.queue queue))
    new made = record { send = made.send; recv = made.recv; shared = made.shared; peer = record {}; posted = record {} }

    sending : IsPlacedCreation c x → (send : CompletionQueue) → IsPlacedThing c (Cq_of send_at) (Some send) → IsPlacedThing c (Cq_of send_at) (Some (send_reserved x send))
    sending made send one = (record { queue = made.queue; source = record {} }, one)

    before : IsPlacedCreation c x → (send recv : CompletionQueue) (b : Bool) → (x.send_cq == x.recv_cq) ≡ b → IsPlacedThing c (Cq_of send_at) (Some send) → IsPlacedThing c (Cq_of recv_at) (Some recv)
        → IsPlacedThing c (Cq_of recv_at) (Some (if b then send_reserved x send else recv))
    before made send recv true e one other = subst (λ k. IsPlacedThing c (Cq_of (beside x.slot k)) (Some (send_reserved x send))) (eqb-true x.send_cq x.recv_cq e) (sending made send one)
    before made send recv false e one other = other

    puts : IsPlacedCreation c x → (shared : Option SrqSlot) (send recv : Option CompletionQueue) → IsPlacedThing c (Cq_of send_at) send → IsPlacedThing c (Cq_of recv_at) recv
        → IsPlacedPlan c w (plan shared send recv)
    puts made shared None recv one other = (record {}, record {})
    puts made shared (Some send) None one other = (record {}, record {})
    puts made shared (Some send) (Some recv) one other = (
      λ is. (record {}, record {}),
      λ named. (
        λ is. (record {}, record {}),
        λ depth. (
          λ is. (record {}, record {}),
          λ room. (
            (
              (domain, record {}),
              (
                (has, new made),
                (
                  (has, record {}),
                  (
                    (made.send, sending made send one),
                    (
                      (made.recv, (receive-placed c x _ made, before made send recv (x.send_cq == x.recv_cq) refl one other)),
                      users-placed c x shared made,
                    ),
                  ),
                ),
              ),
            ),
            record {},
          ),
        ),
      ),
    )

    looks : Option ℕ → Plan
    looks None = plan None (w.cq send_at) (w.cq recv_at)
    looks (Some srq) = Look (Srq_of (beside x.slot srq)) (λ slot. plan (Some slot) (w.cq send_at) (w.cq recv_at))

    by : IsPlacedCreation c x → (o : Option ℕ) → IfSome o (λ srq. IsConfigured c (Srq_of (beside x.slot srq))) → IsPlacedPlan c w (looks o)
    by made None one = puts made None (w.cq send_at) (w.cq recv_at) (fit.placed.things (Cq_of send_at)) (fit.placed.things (Cq_of recv_at))
    by made (Some srq) one = (one, puts made (Some (w.srq (beside x.slot srq))) (w.cq send_at) (w.cq recv_at) (fit.placed.things (Cq_of send_at)) (fit.placed.things (Cq_of recv_at)))

    queues : IsPlacedCreation c x → IsConfigured c (Cq_of send_at) × (IsConfigured c (Cq_of recv_at)
        × IsPlacedPlan c w (With_shared x (λ shared. plan shared (w.cq send_at) (w.cq recv_at))))
    queues made = (made.send, (made.recv, by made x.srq made.shared))

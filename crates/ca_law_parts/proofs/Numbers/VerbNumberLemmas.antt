-- The verbs raise numbers by one at most, and what a change sets lies below the bound.
use Rattle.std.proofs.Common.{◌≡◌, ℕ, suc, ◌+◌, ◌-◌, ◌^◌, ◌≤◌, ◌<◌, nat_le, nat_lt, arith, Bool, true, false, List, [], ◌∷◌, take, Option, None, Some, IfSome, ◌∙◌, ◌==◌, ap, sym, subst, true≢false, if◌then◌else◌, refl}
use Rattle.std.proofs.lemmas.Bool.{leb-false, not-false}
use Rattle.std.proofs.lemmas.List.{length-append}
use Rattle.std.specs.List.{AllByRecursion}
use Rattle.std.specs.Option.{option_eq, option_map}
use Rattle.ca_base.specs.Configuration.{Configuration}
use Rattle.ca_base.specs.declared.change.Change as state_change
use Rattle.ca_base.specs.declared.change.Change.TheVariants as changes
use Rattle.ca_base.specs.declared.change.State.{State}
use Rattle.ca_base.specs.declared.change.State.TheVariants as states
use Rattle.ca_base.specs.declared.completion.Completion.{Completion}
use Rattle.ca_base.specs.declared.limits.TheConstants.{MAX_MESSAGE_BYTES}
use Rattle.ca_base.specs.declared.request.RecvRequest.{RecvRequest}
use Rattle.ca_base.specs.declared.request.SendRequest.{SendRequest}
use Rattle.ca_base.specs.objects.CompletionQueue.{CompletionQueue}
use Rattle.ca_base.specs.objects.Domain.{without_object}
use Rattle.ca_base.specs.objects.QueuePair.{QueuePair, QueueSlot, NoQueue, Present, after_reset, in_error, incarnation_of, timers_of, with_all_flushed}
use Rattle.ca_base.specs.objects.SharedReceives.{SharedReceives, SrqSlot, after_receive_post, after_receive_retire, after_receives_retire, is_full_of_receives}
use Rattle.ca_base.specs.objects.StateTable.{is_among, modify_refusals, queue_after_change, state_eq}
use Rattle.ca_base.specs.objects.Window.{after_draw, byte_drawn}
use Rattle.ca_base.specs.objects.WorkQueue.{WorkQueue, after_retire, empty_queue, next_place, with_item}
use Rattle.ca_keys.specs.Equal.{queue_eq}
use Rattle.ca_keys.specs.Numbers.{queue_of}
use Rattle.ca_keys.specs.Refusals.{AllFail}
use Rattle.ca_keys.specs.declared.names.QueueId.{QueueId}
use Rattle.ca_keys.specs.declared.names.Slot.{Slot}
use Rattle.ca_model.specs.Requests.{list_length}
use Rattle.ca_model.specs.declared.answer.Answer.TheVariants as answers
use Rattle.ca_model.specs.declared.answer.Refusal.TheVariants.{NoSuch, QueueFull, TooLong}
use Rattle.ca_model.specs.machine.Around.{Around}
use Rattle.ca_model.specs.machine.CompletionVerbs.{Take_plan, after_poll, poll_plan, receives_after_poll, slot_after_poll, source_of_completion}
use Rattle.ca_model.specs.machine.Invariants.{IsQueue, IsReceives, is_fresh}
use Rattle.ca_model.specs.machine.Numbering.{numbers_of}
use Rattle.ca_model.specs.machine.Plan.{Plan, Update, ◌:=◌}
use Rattle.ca_model.specs.machine.PostingVerbs.{Posted_send, after_flush, post_recv_plan, post_send_plan, post_srq_plan, with_send}
use Rattle.ca_model.specs.machine.QueuePairVerbs.{Creation, beside, create_qp_plan, destroy_qp_plan, left_updates, modify_qp_plan, new_queue, places_held, user_updates}
use Rattle.ca_model.specs.machine.Row.{region_under}
use Rattle.ca_model.specs.machine.Sound.{IsFinished, IsQueueOf, IsSettled, IsSoundWorld}
use Rattle.ca_model.specs.machine.VerbAnswers.{Answer_plan, Call, Refuse_plan, Unless_plan}
use Rattle.ca_model.specs.machine.WindowVerbs.{dealloc_mw_plan, queue_updates}
use Rattle.ca_model.specs.machine.World.{World, Domain_of, Region_of, Window_of, Srq_of, Queue_of, Mailbox_of}
use Rattle.ca_law_parts.specs.Raised.{AreNumbersWithin, IsSlotWithin, IsWorldWithin, psn_bound}
use Rattle.ca_law_parts.proofs.Numbers.NumberLemmas.{AreReceivesWithin, error-within, flushed-within, none-end, oldest-within, raised, receives-within, responder-within, windows-within}
use Rattle.ca_law_parts.proofs.Numbers.WorldNumberLemmas.{AllWithin, IsShareWithin, mailbox-later, queue-numbers, share-within, shared-later, slot-later, srq-within}
use Rattle.ca_law_world.proofs.Sound.PlanWalks.{binder_updates, changed_around, shared_beside, walk-create, walk-dealloc_mw, walk-destroy, walk-modify, walk-places, walk-poll, walk-post_send, walk-present}
use Rattle.ca_law_world.proofs.Sound.GoodLemmas.{finished-later}
use Rattle.ca_law_world.proofs.Sound.NumberingLemmas.{count_sum}
use Rattle.ca_law_world.proofs.Sound.PollLemmas.{all-finished, all-taken}
use Rattle.ca_law_world.proofs.Sound.QueueVerbLemmas.{change-fails}
use Rattle.ca_law_world.proofs.Sound.SettledLemmas.{all-map}
use Rattle.ca_law_world.proofs.Sound.VerbLemmas.{IsPolled, polled, posted-end, retired-items, retired-next}
use Rattle.ca_law_world.proofs.Sound.WorldLemmas.{EndsIn, IsThere, around_in, shared_of}

-- the numbers of a queue pair after one event
later-numbers : (n : ℕ) (w : World) (q : QueuePair) → IsWorldWithin n w → IsThere w q → AreNumbersWithin (psn_bound (suc n)) (suc n) q
later-numbers n w q within there = slot-later n (Present q) (queue-numbers n w q within there)

-- the queue pair of a window that is gone
binder-within : (n : ℕ) (w : World) (o : Option QueueId) → IsWorldWithin n w → AllWithin (suc n) (binder_updates w o)
binder-within n w None within = record {}
binder-within n w (Some q) within = by (w.queue q) (slot-later n (w.queue q) (within (Queue_of q)))
  where
    by : (s : QueueSlot) → IsSlotWithin (suc n) s → AllWithin (suc n) (queue_updates q s)
    by (NoQueue incarnation timers) few = record {}
    by (Present p) few = (windows-within (psn_bound (suc n)) (suc n) p (p.windows - 1) few (omega (arith, few.windows)), record {})

pub within-dealloc_mw : (n : ℕ) (w : World) (call : Call) (s : Slot) → IsWorldWithin n w → EndsIn w (AllWithin (suc n)) (dealloc_mw_plan call s)
within-dealloc_mw n w call s within = walk-dealloc_mw w (AllWithin (suc n)) call s (record {}) (domain, (record {}, record {}))
    (λ b is. (domain, (record {}, (omega (arith, within (Region_of (region_under (w.window s) b))), binder-within n w b.queue within))))
  where
    domain : (without_object (w.domain s.domain)).objects ≤ suc n
    domain = omega (arith, within (Domain_of s.domain))

-- a queue pair that is in Error flushes what is posted
flush-within : (b n : ℕ) (q : QueuePair) → AreNumbersWithin b n q → AreNumbersWithin b n (after_flush q)
flush-within b n q numbers = by (state_eq q.state states.Error)
  where
    by : (z : Bool) → AreNumbersWithin b n (if z then with_all_flushed q else q)
    by true = flushed-within b n q numbers
    by false = numbers

-- one more place in a queue
item-more : {T : Type 0} (x : T) (q : WorkQueue T) (n : ℕ) → next_place q ≤ n → next_place (with_item x q) ≤ suc n
item-more x q n few = omega (arith, few, length-append q.items (x ∷ []))

posted-within : (b n : ℕ) (q : QueuePair) (request : SendRequest) (drawn : Option ℕ) → IsQueue q → AreNumbersWithin b n q → AreNumbersWithin b (suc n) (with_send request drawn q)
posted-within b n q request drawn s numbers = record {
  una = numbers.una;
  cursor = numbers.cursor;
  begun_end = omega (arith, numbers.begun_end, posted-end q request drawn s);
  expected = numbers.expected;
  incarnation = omega (arith, numbers.incarnation);
  timers = omega (arith, numbers.timers);
  rnrs = omega (arith, numbers.rnrs);
  sends = item-more (record { request = request; drawn = drawn }) q.sends n numbers.sends;
  receives = (raised b b n (suc n) q (omega arith) (omega arith) numbers).receives;
  windows = omega (arith, numbers.windows);
  fresh = numbers.fresh;
}

within-posted : (n : ℕ) (w : World) (call : Call) (q : QueuePair) (request : SendRequest) (drawn : Option ℕ) (window : Slot) (more : List Update) → IsWorldWithin n w → IsThere w q
    → AllWithin (suc n) more → EndsIn w (AllWithin (suc n)) (Posted_send call q request drawn window more)
within-posted n w call q request drawn window more within there few =
    (λ is. record {}, λ atomic. (λ is. record {}, λ short. (λ is. record {}, λ state. (λ is. record {}, λ free. (flush-within (psn_bound (suc n)) (suc n) posted numbers, (record {}, few))))))
  where
    posted : QueuePair
    posted = with_send request drawn q

    numbers : AreNumbersWithin (psn_bound (suc n)) (suc n) posted
    numbers = raised (psn_bound n) (psn_bound (suc n)) (suc n) (suc n) posted (omega arith) (omega arith)
        (posted-within (psn_bound n) n q request drawn there.sound (queue-numbers n w q within there))

pub within-post_send : (c : Configuration) (n : ℕ) (w : World) (call : Call) (s : Slot) (request : SendRequest) → IsSoundWorld c w → IsWorldWithin n w
    → EndsIn w (AllWithin (suc n)) (post_send_plan call s request)
within-post_send c n w call s request sound within = walk-post_send c w (AllWithin (suc n)) call s request sound (record {})
    (λ q there. within-posted n w call q request None s [] within there (record {}))
    (λ q at there. within-posted n w call q request (byte_drawn (w.window at)) at ((Window_of at := after_draw (w.window at)) ∷ []) within there (record {}, record {}))

pub within-post_recv : (c : Configuration) (n : ℕ) (w : World) (call : Call) (s : Slot) (request : RecvRequest) → IsSoundWorld c w → IsWorldWithin n w
    → EndsIn w (AllWithin (suc n)) (post_recv_plan call s request)
within-post_recv c n w call s request sound within = walk-present c w (AllWithin (suc n)) call s _ sound (record {}) (λ q there.
    (λ is. record {}, λ own. (λ is. record {}, λ short. (λ is. record {}, λ state. (λ is. record {}, λ free. (flush-within (psn_bound (suc n)) (suc n) (posted q) (after q there), (record {}, record {})))))))
  where
    posted : QueuePair → QueuePair
    posted q = record q { receives = option_map (with_item request) q.receives }

    more : (o : Option (WorkQueue RecvRequest)) → AreReceivesWithin n o → AreReceivesWithin (suc n) (option_map (with_item request) o)
    more None few = record {}
    more (Some r) few = item-more request r n few

    after : (q : QueuePair) → IsThere w q → AreNumbersWithin (psn_bound (suc n)) (suc n) (posted q)
    after q there = receives-within (psn_bound (suc n)) (suc n) q (option_map (with_item request) q.receives) (later-numbers n w q within there)
        (more q.receives (queue-numbers n w q within there).receives)

pub within-post_srq : (n : ℕ) (w : World) (call : Call) (s : Slot) (request : RecvRequest) → IsWorldWithin n w → EndsIn w (AllWithin (suc n)) (post_srq_plan call s request)
within-post_srq n w call s request within = by (w.srq s).srq (within (Srq_of s)).1
  where
    plan : Option SharedReceives → Plan
    plan None = Refuse_plan call NoSuch
    plan (Some srq) =
        Unless_plan call
        ((nat_lt MAX_MESSAGE_BYTES (list_length request.list.items), TooLong) ∷ (is_full_of_receives srq, QueueFull) ∷ [])
        (Answer_plan call (answers.Posted None)
        ((Srq_of s := record (w.srq s) { srq = Some (after_receive_post request srq) }) ∷ []) [])

    by : (o : Option SharedReceives) → IfSome o (λ r. r.next ≤ n) → EndsIn w (AllWithin (suc n)) (plan o)
    by None few = record {}
    by (Some srq) few = (λ is. record {}, λ short. (λ is. record {}, λ free. ((omega (arith, (within (Srq_of s)).0), omega (arith, few)), record {})))

-- in which states a queue pair is that these changes leave
reset-fresh : (t : State) → is_among (states.Reset ∷ []) t ≡ true → is_fresh t ≡ true
reset-fresh states.Reset e = refl
reset-fresh states.Init e = refl
reset-fresh states.Rtr e = refl
reset-fresh states.Rts e = absurd (true≢false (sym e))
reset-fresh states.Sqd e = absurd (true≢false (sym e))
reset-fresh states.Error e = absurd (true≢false (sym e))

init-fresh : (t : State) → is_among (states.Init ∷ []) t ≡ true → is_fresh t ≡ true
init-fresh states.Reset e = refl
init-fresh states.Init e = refl
init-fresh states.Rtr e = refl
init-fresh states.Rts e = absurd (true≢false (sym e))
init-fresh states.Sqd e = absurd (true≢false (sym e))
init-fresh states.Error e = absurd (true≢false (sym e))

rtr-fresh : (t : State) → is_among (states.Rtr ∷ []) t ≡ true → is_fresh t ≡ true
rtr-fresh states.Reset e = refl
rtr-fresh states.Init e = refl
rtr-fresh states.Rtr e = refl
rtr-fresh states.Rts e = absurd (true≢false (sym e))
rtr-fresh states.Sqd e = absurd (true≢false (sym e))
rtr-fresh states.Error e = absurd (true≢false (sym e))

-- the whole number of a PSN that a change sets lies below the bound
set-within : (psn n : ℕ) → nat_le (2 ^ 24) psn ≡ false → 2 ^ 24 + psn ≤ psn_bound n
set-within psn n e = omega (arith, leb-false (2 ^ 24) psn e)

no-receives : (n : ℕ) (o : Option (WorkQueue RecvRequest)) → AreReceivesWithin n (option_map (λ r. empty_queue r.depth) o)
no-receives n None = record {}
no-receives n (Some r) = omega arith

-- what a change makes of the numbers of a queue pair
pub changed-within : (c : Configuration) (n : ℕ) (change : state_change.Change) (q : QueuePair) → AllFail (modify_refusals c q change) → AreNumbersWithin (psn_bound n) n q
    → AreNumbersWithin (psn_bound (suc n)) (suc n) (queue_after_change change q)
changed-within c n change q fails numbers = by change fails
  where
    more : AreNumbersWithin (psn_bound (suc n)) (suc n) q
    more = slot-later n (Present q) numbers

    -- a state in which nothing more has begun
    moved : (t : State) → (is_fresh t ≡ true → q.requester.next ≡ q.requester.oldest) → AreNumbersWithin (psn_bound (suc n)) (suc n) (record q { state = t })
    moved t fresh = record {
      una = more.una;
      cursor = more.cursor;
      begun_end = more.begun_end;
      expected = more.expected;
      incarnation = more.incarnation;
      timers = more.timers;
      rnrs = more.rnrs;
      sends = more.sends;
      receives = more.receives;
      windows = more.windows;
      fresh = fresh;
    }

    by : (change : state_change.Change) → AllFail (modify_refusals c q change) → AreNumbersWithin (psn_bound (suc n)) (suc n) (queue_after_change change q)
    by changes.Init fails = moved states.Init (λ fresh. numbers.fresh (reset-fresh q.state (not-false (is_among (states.Reset ∷ []) q.state) fails.0)))
    by (changes.Rtr peer incarnation psn mtu rnr_code) fails = record {
      una = more.una;
      cursor = more.cursor;
      begun_end = omega (arith, none-end (queue_after_change (changes.Rtr peer incarnation psn mtu rnr_code) q) none, oldest-within (psn_bound (suc n)) (suc n) q more);
      expected = set-within psn (suc n) fails.1.1.1.0;
      incarnation = more.incarnation;
      timers = more.timers;
      rnrs = more.rnrs;
      sends = more.sends;
      receives = more.receives;
      windows = more.windows;
      fresh = λ fresh. none;
    }
      where
        none : q.requester.next ≡ q.requester.oldest
        none = numbers.fresh (init-fresh q.state (not-false (is_among (states.Init ∷ []) q.state) fails.0))
    by (changes.Rts psn retry rnr_retry reads) fails = record {
      una = set-within psn (suc n) fails.1.0;
      cursor = set-within psn (suc n) fails.1.0;
      begun_end = omega (arith, none-end (queue_after_change (changes.Rts psn retry rnr_retry reads) q) none, set-within psn (suc n) fails.1.0);
      expected = more.expected;
      incarnation = more.incarnation;
      timers = more.timers;
      rnrs = more.rnrs;
      sends = more.sends;
      receives = more.receives;
      windows = more.windows;
      fresh = λ fresh. none;
    }
      where
        none : q.requester.next ≡ q.requester.oldest
        none = numbers.fresh (rtr-fresh q.state (not-false (is_among (states.Rtr ∷ []) q.state) fails.0))
    by changes.Sqd fails = moved states.Sqd (λ fresh. absurd (true≢false (sym fresh)))
    by changes.Resume fails = moved states.Rts (λ fresh. absurd (true≢false (sym fresh)))
    by changes.Error fails = responder-within (psn_bound (suc n)) (suc n) (in_error q) (record (in_error q).responder { answers = [] })
        (error-within (psn_bound (suc n)) (suc n) q more) refl more.expected
    by changes.Reset fails = record {
      una = omega arith;
      cursor = omega arith;
      begun_end = omega (arith, none-end (after_reset q) refl);
      expected = omega arith;
      incarnation = omega (arith, numbers.incarnation);
      timers = more.timers;
      rnrs = omega arith;
      sends = omega arith;
      receives = no-receives (suc n) q.receives;
      windows = more.windows;
      fresh = λ fresh. refl;
    }

-- to free places posts nothing
retired-next-stays : (places : List ℕ) (s : SharedReceives) → (after_receives_retire places s).next ≡ s.next
retired-next-stays [] s = refl
retired-next-stays (place ∷ places) s = retired-next-stays places (after_receive_retire place s)

pub within-modify_qp : (c : Configuration) (n : ℕ) (w : World) (call : Call) (s : Slot) (change : state_change.Change) → IsSoundWorld c w → IsWorldWithin n w
    → EndsIn w (AllWithin (suc n)) (modify_qp_plan c call s change)
within-modify_qp c n w call s change sound within = walk-modify c w (AllWithin (suc n)) call s change sound (record {})
    (λ q there fails. (changed-within c n change q (change-fails c q change fails) (queue-numbers n w q within there), by q (around_in w q (shared_of w q)) (share-within n w q within) change))
  where
    by : (q : QueuePair) (a : Around) → IsShareWithin n a.shared → (change : state_change.Change) → AllWithin (suc n) (changed_around w q a change)
    by q a share changes.Error = (record {}, (record {}, record {}))
    by q a share changes.Reset = (
      ((mailbox-later n (w.mailbox q.queue) (within (Mailbox_of q.queue))).0, record {}),
      (record {}, (record {}, srq-within n q a (after_receives_retire (places_held q a)) (retired-next-stays (places_held q a)) share)),
    )
    by q a share (changes.Rtr peer incarnation psn mtu rnr_code) = (mailbox-later n (w.mailbox q.queue) (within (Mailbox_of q.queue)), record {})
    by q a share changes.Init = record {}
    by q a share (changes.Rts psn retry rnr_retry reads) = record {}
    by q a share changes.Sqd = record {}
    by q a share changes.Resume = record {}

left-within : (n : ℕ) (q : QueuePair) (a : Around) → IsShareWithin n a.shared → AllWithin (suc n) (left_updates q a)
left-within n q a share = by q.srq a.shared share
  where
    updates : Option ℕ → Option SrqSlot → List Update
    updates (Some srq) (Some slot) = (Srq_of (record { domain = q.domain; slot = srq }) := record {
      srq = option_map (after_receives_retire (places_held q a)) slot.srq;
      users = slot.users - 1;
    }) ∷ []
    updates srq slot = []

    retired : (o : Option SharedReceives) → IfSome o (λ r. r.next ≤ n) → IfSome (option_map (after_receives_retire (places_held q a)) o) (λ r. r.next ≤ suc n)
    retired None few = record {}
    retired (Some r) few = omega (arith, few, retired-next-stays (places_held q a) r)

    by : (o : Option ℕ) (t : Option SrqSlot) → IsShareWithin n t → AllWithin (suc n) (updates o t)
    by None t share = record {}
    by (Some srq) None share = record {}
    by (Some srq) (Some slot) share = ((omega (arith, share.0), retired slot.srq share.1), record {})

pub within-destroy_qp : (c : Configuration) (n : ℕ) (w : World) (call : Call) (s : Slot) → IsSoundWorld c w → IsWorldWithin n w → EndsIn w (AllWithin (suc n)) (destroy_qp_plan call s)
within-destroy_qp c n w call s sound within = walk-destroy c w (AllWithin (suc n)) call s sound (record {}) (λ q there free. (
  omega (arith, within (Domain_of s.domain)),
  (
    ((later-numbers n w q within there).incarnation, (later-numbers n w q within there).timers),
    (
      ((mailbox-later n (w.mailbox q.queue) (within (Mailbox_of q.queue))).0, record {}),
      (record {}, (record {}, left-within n q (around_in w q (shared_of w q)) (share-within n w q within))),
    ),
  ),
))

user-within : (n : ℕ) (x : Creation) (o : Option SrqSlot) → IsShareWithin n o → AllWithin (suc n) (user_updates x o)
user-within n x o share = by x.srq o share
  where
    updates : Option ℕ → Option SrqSlot → List Update
    updates (Some srq) (Some slot) = (Srq_of (beside x.slot srq) := record slot { users = suc slot.users }) ∷ []
    updates srq slot = []

    by : (o : Option ℕ) (t : Option SrqSlot) → IsShareWithin n t → AllWithin (suc n) (updates o t)
    by None t share = record {}
    by (Some srq) None share = record {}
    by (Some srq) (Some slot) share = ((omega (arith, share.0), (shared-later n slot share).1), record {})

new-within : (n : ℕ) (x : Creation) (slot : QueueSlot) → IsSlotWithin n slot → AreNumbersWithin (psn_bound (suc n)) (suc n) (new_queue x slot)
new-within n x slot few = record {
  una = omega arith;
  cursor = omega arith;
  begun_end = omega (arith, none-end (new_queue x slot) refl);
  expected = omega arith;
  incarnation = incarnation slot few;
  timers = timers slot few;
  rnrs = omega arith;
  sends = omega arith;
  receives = receives x.srq;
  windows = omega arith;
  fresh = λ fresh. refl;
}
  where
    incarnation : (t : QueueSlot) → IsSlotWithin n t → suc (incarnation_of t) ≤ suc n
    incarnation (NoQueue number timers) few = omega (arith, few.0)
    incarnation (Present q) few = omega (arith, few.incarnation)

    timers : (t : QueueSlot) → IsSlotWithin n t → timers_of t ≤ suc n
    timers (NoQueue number count) few = omega (arith, few.1)
    timers (Present q) few = omega (arith, few.timers)

    own : Option ℕ → Option (WorkQueue RecvRequest)
    own None = Some (empty_queue x.recv_depth)
    own (Some srq) = None

    receives : (o : Option ℕ) → AreReceivesWithin (suc n) (own o)
    receives None = omega arith
    receives (Some srq) = record {}

pub within-create_qp : (c : Configuration) (n : ℕ) (w : World) (call : Call) (x : Creation) → IsWorldWithin n w → EndsIn w (AllWithin (suc n)) (create_qp_plan c call x)
within-create_qp c n w call x within = walk-create c w (AllWithin (suc n)) call x (record {}) (λ send recv there vacant send-is recv-is depth. (
  omega (arith, within (Domain_of x.slot.domain)),
  (
    new-within n x (w.queue (queue_of x.slot)) (within (Queue_of (queue_of x.slot))),
    (mailbox-later n (w.mailbox (queue_of x.slot)) (within (Mailbox_of (queue_of x.slot))), (record {}, (record {}, user-within n x (shared_beside w x) (share x.srq)))),
  ),
))
  where
    share : (o : Option ℕ) → IsShareWithin n (option_map (λ srq. w.srq (beside x.slot srq)) o)
    share None = record {}
    share (Some srq) = within (Srq_of (beside x.slot srq))

-- places of finished sends, or of taken receives, are free again
freed-within : (b n place : ℕ) (receive : Bool) (q : QueuePair) → IsQueue q → IsFinished q receive place → AreNumbersWithin b n q
    → AreNumbersWithin b n (if receive then record q { receives = option_map (after_retire place) q.receives } else record q { sends = after_retire place q.sends })
freed-within b n place true q s low numbers = receives-within b n q (option_map (after_retire place) q.receives) numbers (by q.receives s.receives low numbers.receives)
  where
    by : (o : Option (WorkQueue RecvRequest)) → IfSome o IsReceives → IfSome o (λ r. place < r.next_taken) → AreReceivesWithin n o → AreReceivesWithin n (option_map (after_retire place) o)
    by None sound low few = record {}
    by (Some r) sound low few = omega (arith, few, retired-next place r (omega (arith, low, sound.waiting)))
freed-within b n place false q s low numbers = record {
  una = numbers.una;
  cursor = numbers.cursor;
  begun_end = omega (
    arith,
    numbers.begun_end,
    ap (λ ps. q.requester.oldest_psn + count_sum (take (q.requester.next - q.requester.oldest)
        (numbers_of q.responder.mtu q.requester.oldest q.requester.oldest_psn ps))) (retired-items place q.requester.oldest q.sends low s.requester.finished),
  );
  expected = numbers.expected;
  incarnation = numbers.incarnation;
  timers = numbers.timers;
  rnrs = numbers.rnrs;
  sends = omega (arith, numbers.sends, retired-next place q.sends (omega (arith, low, s.requester.begun, s.requester.waiting)));
  receives = numbers.receives;
  windows = numbers.windows;
  fresh = numbers.fresh;
}

polled-within : (b n : ℕ) (name : QueueId) (xs : List Completion) (q : QueuePair) → IsQueue q → AllByRecursion (λ x. queue_eq x.queue name ≡ true → IsFinished q x.receive x.place) xs
    → AreNumbersWithin b n q → AreNumbersWithin b n (after_poll name xs q)
polled-within b n name [] q s all numbers = numbers
polled-within b n name (x ∷ xs) q s all numbers = on (polled name (x ∷ []) q s (all.0, record {})) (by (queue_eq x.queue name) all.0 x.receive refl)
    (λ p sound rest few. polled-within b n name xs p sound rest few)
  where
    freed : Bool → QueuePair
    freed true = record q { receives = option_map (after_retire x.place) q.receives }
    freed false = record q { sends = after_retire x.place q.sends }

    next : QueuePair
    next = if queue_eq x.queue name then freed x.receive else q

    by : (z : Bool) → (z ≡ true → IsFinished q x.receive x.place) → (r : Bool) → x.receive ≡ r → AreNumbersWithin b n (if z then freed r else q)
    by false finished r e = numbers
    by true finished true e = freed-within b n x.place true q s (subst (λ r. IsFinished q r x.place) e (finished refl)) numbers
    by true finished false e = freed-within b n x.place false q s (subst (λ r. IsFinished q r x.place) e (finished refl)) numbers

    on : IsPolled q next → AreNumbersWithin b n next
        → ((p : QueuePair) → IsQueue p → AllByRecursion (λ x. queue_eq x.queue name ≡ true → IsFinished p x.receive x.place) xs → AreNumbersWithin b n p → AreNumbersWithin b n (after_poll name xs p))
        → AreNumbersWithin b n (after_poll name xs next)
    on one few rest = rest next one.sound (all-map _ _ (λ y finished same. finished-later q next y.receive y.place one.later (finished same)) xs all.1) few

slot-polled-within : (n : ℕ) (w : World) (s : Slot) (name : QueueId) (xs : List Completion) → IsWorldWithin n w → IsQueueOf name (w.queue name)
    → AllByRecursion (λ x. IsSettled s (w.queue x.queue) x) xs → IsSlotWithin (suc n) (slot_after_poll name xs (w.queue name))
slot-polled-within n w s name xs within sound all = by (w.queue name) refl sound (slot-later n (w.queue name) (within (Queue_of name)))
  where
    by : (v : QueueSlot) → w.queue name ≡ v → IsQueueOf name v → IsSlotWithin (suc n) v → IsSlotWithin (suc n) (slot_after_poll name xs v)
    by (NoQueue incarnation timers) is one few = few
    by (Present q) is one few = polled-within (psn_bound (suc n)) (suc n) name xs q one.2 (all-finished w s name q xs is all) few

poll-next-stays : (cq : CompletionQueue) (srq : ℕ) (xs : List Completion) (s : SharedReceives) → (receives_after_poll cq srq xs s).next ≡ s.next
poll-next-stays cq srq [] s = refl
poll-next-stays cq srq (x ∷ xs) s = poll-next-stays cq srq xs next ∙ at (option_eq (λ a b. a == b) (source_of_completion cq x) (Some srq))
  where
    next : SharedReceives
    next = if option_eq (λ a b. a == b) (source_of_completion cq x) (Some srq) then after_receive_retire x.place s else s

    at : (z : Bool) → (if z then after_receive_retire x.place s else s).next ≡ s.next
    at true = refl
    at false = refl

pub within-poll : (c : Configuration) (n : ℕ) (w : World) (call : Call) (s : Slot) (k least : ℕ) → IsSoundWorld c w → IsWorldWithin n w → EndsIn w (AllWithin (suc n)) (poll_plan call s k least)
within-poll c n w call s k least sound within = walk-poll w (AllWithin (suc n)) call s k least (record {})
    (λ cq is. taken cq (subst (λ o. IfSome o (λ v. AllByRecursion (λ x. IsSettled s (w.queue x.queue) x) v.waiting)) is (sound.settled s)))
  where
    retired : (cq : CompletionQueue) (xs : List Completion) (srq : ℕ) (o : Option SharedReceives) → IfSome o (λ r. r.next ≤ n) → IfSome (option_map (receives_after_poll cq srq xs) o) (λ r. r.next ≤ suc n)
    retired cq xs srq None few = record {}
    retired cq xs srq (Some r) few = omega (arith, few, poll-next-stays cq srq xs r)

    taken : (cq : CompletionQueue) → AllByRecursion (λ x. IsSettled s (w.queue x.queue) x) cq.waiting → EndsIn w (AllWithin (suc n)) (Take_plan call s cq (take k cq.waiting))
    taken cq all = walk-places w (AllWithin (suc n)) (AllWithin (suc n)) s cq (take k cq.waiting) (take k cq.waiting) _ (record {})
        (λ name us few. (slot-polled-within n w s name (take k cq.waiting) within (sound.things (Queue_of name)) (all-taken (λ x. IsSettled s (w.queue x.queue) x) k cq.waiting all), few))
        (λ at srq us few. ((omega (arith, (within (Srq_of at)).0), retired cq (take k cq.waiting) srq (w.srq at).srq (within (Srq_of at)).1), few))
        (λ us few. (record {}, few))

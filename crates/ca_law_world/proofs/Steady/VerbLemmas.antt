-- Each verb leaves queue pairs steady. For proofs only.
use Rattle.std.proofs.Common.{◌≡◌, ℕ, zero, suc, ◌+◌, ◌-◌, ◌≤◌, ◌==◌, ◌||◌, Bool, true, false, not, if◌then◌else◌, List, [], ◌∷◌, ◌++◌, length, take, Option, None, Some, IfSome, refl, ap, sym, ◌∙◌, subst, arith, true≢false, rules}
use Rattle.std.proofs.lemmas.Bool.{not-false}
use Rattle.std.proofs.lemmas.Bool.Decides.{nat_tests}
use Rattle.std.proofs.lemmas.List.{drop-append-le, length-drop}
use Rattle.std.specs.List.{AllByRecursion}
use Rattle.std.specs.Option.{option_map}
use Rattle.ca_base.specs.Configuration.{Configuration}
use Rattle.ca_base.specs.declared.change.Change as state_change
use Rattle.ca_base.specs.declared.change.Change.TheVariants as changes
use Rattle.ca_base.specs.declared.change.State.{State}
use Rattle.ca_base.specs.declared.change.State.TheVariants as states
use Rattle.ca_base.specs.declared.completion.Completion.{Completion}
use Rattle.ca_base.specs.declared.request.PostedSend.{PostedSend}
use Rattle.ca_base.specs.declared.request.RecvRequest.{RecvRequest}
use Rattle.ca_base.specs.declared.request.SendRequest.{SendRequest}
use Rattle.ca_base.specs.objects.CompletionQueue.{CompletionQueue}
use Rattle.ca_base.specs.objects.QueuePair.{QueuePair, QueueSlot, NoQueue, Present, after_reset, in_error, with_all_flushed}
use Rattle.ca_base.specs.objects.SharedReceives.{SrqSlot, after_receives_retire}
use Rattle.ca_base.specs.objects.StateTable.{is_among, modify_refusals, queue_after_change, state_eq}
use Rattle.ca_base.specs.objects.Window.{after_draw, byte_drawn}
use Rattle.ca_base.specs.objects.WorkQueue.{WorkQueue, after_retire, items_from, next_place, with_item}
use Rattle.ca_keys.specs.Equal.{queue_eq}
use Rattle.ca_keys.specs.Numbers.{queue_of}
use Rattle.ca_keys.specs.Refusals.{AllFail}
use Rattle.ca_keys.specs.declared.names.QueueId.{QueueId}
use Rattle.ca_keys.specs.declared.names.Slot.{Slot}
use Rattle.ca_law_world.proofs.Sound.PlanWalks.{binder_updates, changed_around, shared_beside, walk-create, walk-dealloc_mw, walk-destroy, walk-modify, walk-places, walk-poll, walk-post_send, walk-present}
use Rattle.ca_law_world.proofs.Sound.GoodLemmas.{finished-later}
use Rattle.ca_law_world.proofs.Sound.PollLemmas.{all-finished, all-taken}
use Rattle.ca_law_world.proofs.Sound.QueueVerbLemmas.{change-fails}
use Rattle.ca_law_world.proofs.Sound.SettledLemmas.{all-map}
use Rattle.ca_law_world.proofs.Sound.VerbLemmas.{IsPolled, polled, retired-items}
use Rattle.ca_law_world.proofs.Sound.WorldLemmas.{EndsIn, IsThere, around_in, shared_of}
use Rattle.ca_model.specs.Requests.{is_local, psns_of}
use Rattle.ca_model.specs.machine.Around.{Around}
use Rattle.ca_model.specs.machine.CompletionVerbs.{Take_plan, after_poll, poll_plan, slot_after_poll}
use Rattle.ca_model.specs.machine.Invariants.{IsQueue, is_sending}
use Rattle.ca_model.specs.machine.Numbering.{begun_requests, numbers_of, unfinished_requests}
use Rattle.ca_model.specs.machine.Plan.{Update, ◌:=◌}
use Rattle.ca_model.specs.machine.PostingVerbs.{Posted_send, after_flush, post_recv_plan, post_send_plan, post_srq_plan, with_send}
use Rattle.ca_model.specs.machine.QueuePairVerbs.{Creation, create_qp_plan, destroy_qp_plan, left_updates, modify_qp_plan, new_queue, places_held, user_updates}
use Rattle.ca_model.specs.machine.Sound.{IsFinished, IsQueueOf, IsSettled, IsSoundWorld}
use Rattle.ca_model.specs.machine.VerbAnswers.{Call}
use Rattle.ca_model.specs.machine.WindowVerbs.{dealloc_mw_plan, queue_updates}
use Rattle.ca_model.specs.machine.World.{Queue_of, Window_of, World}
use Rattle.ca_law_world.proofs.Steady.SameLemmas.{flushed-none, steady-error, steady-none}
use Rattle.ca_law_world.proofs.Steady.TurnLemmas.{AllSteady, srq-steady, there-kept}
use Rattle.ca_law_world.specs.Steady.{EndsBehind, IsSteadyQueue, IsSteadySlot, IsSteadyWorld}

-- the same steady queue pair, with other things that say nothing of its requests
copied : (q : QueuePair) (receives : Option (WorkQueue RecvRequest)) (windows : ℕ) → IsSteadyQueue q → IsSteadyQueue (record q { receives = receives; windows = windows })
copied q receives windows s = record { unfinished = s.unfinished; oldest = s.oldest; reads = s.reads; ends = s.ends; packets = s.packets }

-- ---- windows

binder-steady : (w : World) (o : Option QueueId) → IsSteadyWorld w → AllSteady (binder_updates w o)
binder-steady w None steady = record {}
binder-steady w (Some q) steady = by (w.queue q) (steady q)
  where
    by : (s : QueueSlot) → IsSteadySlot s → AllSteady (queue_updates q s)
    by (NoQueue incarnation timers) s = record {}
    by (Present p) s = (copied p p.receives (p.windows - 1) s, record {})

pub steady-dealloc_mw : (w : World) (call : Call) (s : Slot) → IsSteadyWorld w → EndsIn w AllSteady (dealloc_mw_plan call s)
steady-dealloc_mw w call s steady = walk-dealloc_mw w AllSteady call s (record {}) (record {}, (record {}, record {}))
    (λ b is. (record {}, (record {}, (record {}, binder-steady w b.queue steady))))

-- ---- posting

numbers-append : (mtu place psn : ℕ) (ps : List PostedSend) (x : PostedSend) (k : ℕ) → k ≤ length ps → take k (numbers_of mtu place psn (ps ++ x ∷ [])) ≡ take k (numbers_of mtu place psn ps)
numbers-append mtu place psn ps x zero le = refl
numbers-append mtu place psn [] x (suc k) le = absurd (omega (arith, le))
numbers-append mtu place psn (p ∷ ps) x (suc k) le = ap (λ t. record { place = place; request = p.request; drawn = p.drawn; first = psn; count = psns_of mtu p.request.op } ∷ t)
    (numbers-append mtu (suc place) (psn + psns_of mtu p.request.op) ps x k (omega (arith, le)))

-- what has begun is as before, where one more is posted
posted-begun : (q : QueuePair) (request : SendRequest) (drawn : Option ℕ) → IsQueue q → begun_requests (with_send request drawn q) ≡ begun_requests q
posted-begun q request drawn s = ap (λ ps. take (q.requester.next - q.requester.oldest) (numbers_of q.responder.mtu q.requester.oldest q.requester.oldest_psn ps))
    (drop-append-le (q.requester.oldest - q.sends.first) q.sends.items (x ∷ []) (omega (arith, s.requester.begun, s.requester.waiting)))
    ∙ numbers-append q.responder.mtu q.requester.oldest q.requester.oldest_psn (items_from q.requester.oldest q.sends) x (q.requester.next - q.requester.oldest)
    (omega (arith, s.requester.waiting, s.requester.finished, length-drop (q.requester.oldest - q.sends.first) q.sends.items))
  where
    x : PostedSend
    x = record { request = request; drawn = drawn }

-- in Rts and Sqd a request is posted, and in Error it is flushed
posted-steady : (q : QueuePair) (request : SendRequest) (drawn : Option ℕ) → IsQueue q → IsSteadyQueue q → is_among (states.Rts ∷ states.Sqd ∷ states.Error ∷ []) q.state ≡ true
    → IsSteadyQueue (after_flush (with_send request drawn q))
posted-steady q request drawn sound s state = by (state_eq q.state states.Error) refl
  where
    posted : QueuePair
    posted = with_send request drawn q

    sends : (t : State) → state_eq t states.Error ≡ false → is_among (states.Rts ∷ states.Sqd ∷ states.Error ∷ []) t ≡ true → is_sending t ≡ true
    sends states.Reset other among = absurd (true≢false (sym among))
    sends states.Init other among = absurd (true≢false (sym among))
    sends states.Rtr other among = absurd (true≢false (sym among))
    sends states.Rts other among = refl
    sends states.Sqd other among = refl
    sends states.Error other among = absurd (true≢false other)

    idle : (t : State) → state_eq t states.Error ≡ true → is_sending t ≡ false
    idle states.Reset is = absurd (true≢false (sym is))
    idle states.Init is = absurd (true≢false (sym is))
    idle states.Rtr is = absurd (true≢false (sym is))
    idle states.Rts is = absurd (true≢false (sym is))
    idle states.Sqd is = absurd (true≢false (sym is))
    idle states.Error is = refl

    by : (b : Bool) → state_eq q.state states.Error ≡ b → IsSteadyQueue (if b then with_all_flushed posted else posted)
    by true is = steady-none (with_all_flushed posted) (idle q.state is) (ap (numbers_of q.responder.mtu (next_place posted.sends) q.requester.oldest_psn) (flushed-none posted))
    by false is = record {
      unfinished = λ so. absurd (true≢false (sym (sends q.state is state) ∙ so));
      oldest = s.oldest;
      reads = s.reads;
      ends = subst (EndsBehind q.requester.una) (sym (posted-begun q request drawn sound)) s.ends;
      packets = subst (AllByRecursion (λ n. is_local n.request.op ≡ false)) (sym (posted-begun q request drawn sound)) s.packets;
    }

steady-posted : (w : World) (call : Call) (q : QueuePair) (request : SendRequest) (drawn : Option ℕ) (window : Slot) (more : List Update) → IsSteadyWorld w → IsThere w q
    → AllSteady more → EndsIn w AllSteady (Posted_send call q request drawn window more)
steady-posted w call q request drawn window more steady there rest =
    (λ is. record {}, λ atomic. (λ is. record {}, λ short. (λ is. record {}, λ state. (λ is. record {}, λ free. (after state, (record {}, rest))))))
  where
    after : not (is_among (states.Rts ∷ states.Sqd ∷ states.Error ∷ []) q.state) ≡ false → IsSteadyQueue (after_flush (with_send request drawn q))
    after state = posted-steady q request drawn there.sound (there-kept w q steady there).is (not-false (is_among (states.Rts ∷ states.Sqd ∷ states.Error ∷ []) q.state) state)

pub steady-post_send : (c : Configuration) (w : World) (call : Call) (s : Slot) (request : SendRequest) → IsSoundWorld c w → IsSteadyWorld w → EndsIn w AllSteady (post_send_plan call s request)
steady-post_send c w call s request sound steady = walk-post_send c w AllSteady call s request sound (record {})
    (λ q there. steady-posted w call q request None s [] steady there (record {}))
    (λ q at there. steady-posted w call q request (byte_drawn (w.window at)) at ((Window_of at := after_draw (w.window at)) ∷ []) steady there (record {}, record {}))

-- receives say nothing of requests; in Error all is flushed
received-steady : (q : QueuePair) (receives : Option (WorkQueue RecvRequest)) → IsSteadyQueue q → IsSteadyQueue (after_flush (record q { receives = receives }))
received-steady q receives s = by (state_eq q.state states.Error) refl
  where
    p : QueuePair
    p = record q { receives = receives }

    idle : (t : State) → state_eq t states.Error ≡ true → is_sending t ≡ false
    idle states.Reset is = absurd (true≢false (sym is))
    idle states.Init is = absurd (true≢false (sym is))
    idle states.Rtr is = absurd (true≢false (sym is))
    idle states.Rts is = absurd (true≢false (sym is))
    idle states.Sqd is = absurd (true≢false (sym is))
    idle states.Error is = refl

    by : (b : Bool) → state_eq q.state states.Error ≡ b → IsSteadyQueue (if b then with_all_flushed p else p)
    by true is = steady-none (with_all_flushed p) (idle q.state is) (ap (numbers_of q.responder.mtu (next_place p.sends) q.requester.oldest_psn) (flushed-none p))
    by false is = copied q receives q.windows s

pub steady-post_recv : (c : Configuration) (w : World) (call : Call) (s : Slot) (request : RecvRequest) → IsSoundWorld c w → IsSteadyWorld w → EndsIn w AllSteady (post_recv_plan call s request)
steady-post_recv c w call s request sound steady = walk-present c w AllSteady call s _ sound (record {}) (λ q there.
    (λ is. record {}, λ own. (λ is. record {}, λ short. (λ is. record {}, λ state. (λ is. record {}, λ free. (after q there, (record {}, record {})))))))
  where
    after : (q : QueuePair) → IsThere w q → IsSteadyQueue (after_flush (record q { receives = option_map (with_item request) q.receives }))
    after q there = received-steady q (option_map (with_item request) q.receives) (there-kept w q steady there).is

pub steady-post_srq : (w : World) (call : Call) (s : Slot) (request : RecvRequest) → EndsIn w AllSteady (post_srq_plan call s request)
steady-post_srq w call s request = search rules

-- ---- changes of state

numbers-none : (mtu place psn : ℕ) (ps : List PostedSend) → numbers_of mtu place psn ps ≡ [] → ps ≡ []
numbers-none mtu place psn [] none = refl
numbers-none mtu place psn (p ∷ ps) none = absurd cc

take-none : {A : Type 0} (k : ℕ) → take {A = A} k [] ≡ []
take-none zero = refl
take-none (suc k) = refl

init-idle : (t : State) → is_among (states.Init ∷ []) t ≡ true → is_sending t ≡ false
init-idle states.Reset e = absurd (true≢false (sym e))
init-idle states.Init e = refl
init-idle states.Rtr e = absurd (true≢false (sym e))
init-idle states.Rts e = absurd (true≢false (sym e))
init-idle states.Sqd e = absurd (true≢false (sym e))
init-idle states.Error e = absurd (true≢false (sym e))

reset-idle : (t : State) → is_among (states.Reset ∷ []) t ≡ true → is_sending t ≡ false
reset-idle states.Reset e = refl
reset-idle states.Init e = absurd (true≢false (sym e))
reset-idle states.Rtr e = absurd (true≢false (sym e))
reset-idle states.Rts e = absurd (true≢false (sym e))
reset-idle states.Sqd e = absurd (true≢false (sym e))
reset-idle states.Error e = absurd (true≢false (sym e))

rtr-idle : (t : State) → is_among (states.Rtr ∷ []) t ≡ true → is_sending t ≡ false
rtr-idle states.Reset e = absurd (true≢false (sym e))
rtr-idle states.Init e = absurd (true≢false (sym e))
rtr-idle states.Rtr e = refl
rtr-idle states.Rts e = absurd (true≢false (sym e))
rtr-idle states.Sqd e = absurd (true≢false (sym e))
rtr-idle states.Error e = absurd (true≢false (sym e))

rts-sends : (t : State) → is_among (states.Rts ∷ []) t ≡ true → is_sending t ≡ true
rts-sends states.Reset e = absurd (true≢false (sym e))
rts-sends states.Init e = absurd (true≢false (sym e))
rts-sends states.Rtr e = absurd (true≢false (sym e))
rts-sends states.Rts e = refl
rts-sends states.Sqd e = absurd (true≢false (sym e))
rts-sends states.Error e = absurd (true≢false (sym e))

sqd-sends : (t : State) → is_among (states.Sqd ∷ []) t ≡ true → is_sending t ≡ true
sqd-sends states.Reset e = absurd (true≢false (sym e))
sqd-sends states.Init e = absurd (true≢false (sym e))
sqd-sends states.Rtr e = absurd (true≢false (sym e))
sqd-sends states.Rts e = absurd (true≢false (sym e))
sqd-sends states.Sqd e = refl
sqd-sends states.Error e = absurd (true≢false (sym e))

pub changed-steady : (c : Configuration) (change : state_change.Change) (q : QueuePair) → AllFail (modify_refusals c q change) → IsSteadyQueue q → IsSteadyQueue (queue_after_change change q)
changed-steady c change q fails s = by change fails
  where
    -- no request is there
    empty : is_sending q.state ≡ false → items_from q.requester.oldest q.sends ≡ []
    empty idle = numbers-none q.responder.mtu q.requester.oldest q.requester.oldest_psn (items_from q.requester.oldest q.sends) (s.unfinished idle)

    -- requests go on to be sent, or not
    moved : (t : State) → is_sending q.state ≡ true → is_sending t ≡ true → IsSteadyQueue (record q { state = t })
    moved t sends more = record {
      unfinished = λ is. absurd (true≢false (sym more ∙ is));
      oldest = λ is. s.oldest sends;
      reads = λ is. s.reads sends;
      ends = s.ends;
      packets = s.packets;
    }

    by : (change : state_change.Change) → AllFail (modify_refusals c q change) → IsSteadyQueue (queue_after_change change q)
    by changes.Init fails = steady-none (queue_after_change changes.Init q) refl
        (ap (numbers_of q.responder.mtu q.requester.oldest q.requester.oldest_psn) (empty (reset-idle q.state (not-false (is_among (states.Reset ∷ []) q.state) fails.0))))
    by (changes.Rtr peer incarnation psn mtu rnr_code) fails = steady-none (queue_after_change (changes.Rtr peer incarnation psn mtu rnr_code) q) refl
        (ap (numbers_of mtu q.requester.oldest q.requester.oldest_psn) (empty (init-idle q.state (not-false (is_among (states.Init ∷ []) q.state) fails.0))))
    by (changes.Rts psn retry rnr_retry reads) fails = record {
      unfinished = λ is. none;
      oldest = λ is. omega arith;
      reads = λ is. grind (arith, nat_tests, or-first (reads == 0) _ fails.1.1.1.1.0);
      ends = subst (EndsBehind p.requester.una) (sym begun) (record {});
      packets = subst (AllByRecursion (λ n. is_local n.request.op ≡ false)) (sym begun) (record {});
    }
      where
        p : QueuePair
        p = queue_after_change (changes.Rts psn retry rnr_retry reads) q

        none : unfinished_requests p ≡ []
        none = ap (numbers_of q.responder.mtu q.requester.oldest p.requester.oldest_psn) (empty (rtr-idle q.state (not-false (is_among (states.Rtr ∷ []) q.state) fails.0)))

        begun : begun_requests p ≡ []
        begun = ap (take (q.requester.next - q.requester.oldest)) none ∙ take-none (q.requester.next - q.requester.oldest)

        or-first : (a b : Bool) → (a || b) ≡ false → a ≡ false
        or-first false b is = refl
        or-first true b is = is
    by changes.Sqd fails = moved states.Sqd (rts-sends q.state (not-false (is_among (states.Rts ∷ []) q.state) fails.0)) refl
    by changes.Resume fails = moved states.Rts (sqd-sends q.state (not-false (is_among (states.Sqd ∷ []) q.state) fails.0)) refl
    by changes.Error fails = record { unfinished = e.unfinished; oldest = e.oldest; reads = e.reads; ends = e.ends; packets = e.packets }
      where
        e : IsSteadyQueue (in_error q)
        e = steady-error q
    by changes.Reset fails = steady-none (after_reset q) refl refl

pub steady-modify_qp : (c : Configuration) (w : World) (call : Call) (s : Slot) (change : state_change.Change) → IsSoundWorld c w → IsSteadyWorld w → EndsIn w AllSteady (modify_qp_plan c call s change)
steady-modify_qp c w call s change sound steady = walk-modify c w AllSteady call s change sound (record {})
    (λ q there fails. (changed-steady c change q (change-fails c q change fails) (there-kept w q steady there).is, by q (around_in w q (shared_of w q)) change))
  where
    by : (q : QueuePair) (a : Around) (change : state_change.Change) → AllSteady (changed_around w q a change)
    by q a changes.Error = (record {}, (record {}, record {}))
    by q a changes.Reset = (record {}, (record {}, (record {}, srq-steady q a (after_receives_retire (places_held q a)))))
    by q a (changes.Rtr peer incarnation psn mtu rnr_code) = (record {}, record {})
    by q a changes.Init = record {}
    by q a (changes.Rts psn retry rnr_retry reads) = record {}
    by q a changes.Sqd = record {}
    by q a changes.Resume = record {}

-- ---- queue pairs made and destroyed

left-steady : (q : QueuePair) (a : Around) → AllSteady (left_updates q a)
left-steady q a = search rules

pub steady-destroy_qp : (c : Configuration) (w : World) (call : Call) (s : Slot) → IsSoundWorld c w → EndsIn w AllSteady (destroy_qp_plan call s)
steady-destroy_qp c w call s sound = walk-destroy c w AllSteady call s sound (record {})
    (λ q there free. (record {}, (record {}, (record {}, (record {}, (record {}, left-steady q (around_in w q (shared_of w q))))))))

user-steady : (x : Creation) (o : Option SrqSlot) → AllSteady (user_updates x o)
user-steady x o = search rules

pub steady-create_qp : (c : Configuration) (w : World) (call : Call) (x : Creation) → EndsIn w AllSteady (create_qp_plan c call x)
steady-create_qp c w call x = walk-create c w AllSteady call x (record {}) (λ send recv there vacant send-is recv-is depth.
    (record {}, (steady-none (new_queue x (w.queue (queue_of x.slot))) refl refl, (record {}, (record {}, (record {}, user-steady x (shared_beside w x)))))))

-- ---- polls

-- the requests that are unfinished are as before, where places of finished ones are free again
freed-steady : (place : ℕ) (receive : Bool) (q : QueuePair) → IsQueue q → IsFinished q receive place → IsSteadyQueue q
    → IsSteadyQueue (if receive then record q { receives = option_map (after_retire place) q.receives } else record q { sends = after_retire place q.sends })
freed-steady place true q sound low s = copied q (option_map (after_retire place) q.receives) q.windows s
freed-steady place false q sound low s = record {
  unfinished = λ is. same ∙ s.unfinished is;
  oldest = s.oldest;
  reads = s.reads;
  ends = subst (EndsBehind q.requester.una) (sym begun) s.ends;
  packets = subst (AllByRecursion (λ n. is_local n.request.op ≡ false)) (sym begun) s.packets;
}
  where
    p : QueuePair
    p = record q { sends = after_retire place q.sends }

    same : unfinished_requests p ≡ unfinished_requests q
    same = ap (numbers_of q.responder.mtu q.requester.oldest q.requester.oldest_psn) (retired-items place q.requester.oldest q.sends low sound.requester.finished)

    begun : begun_requests p ≡ begun_requests q
    begun = ap (take (q.requester.next - q.requester.oldest)) same

polled-steady : (name : QueueId) (xs : List Completion) (q : QueuePair) → IsQueue q → AllByRecursion (λ x. queue_eq x.queue name ≡ true → IsFinished q x.receive x.place) xs
    → IsSteadyQueue q → IsSteadyQueue (after_poll name xs q)
polled-steady name [] q sound all s = s
polled-steady name (x ∷ xs) q sound all s = on (polled name (x ∷ []) q sound (all.0, record {})) (by (queue_eq x.queue name) all.0 x.receive refl)
    (λ p other rest so. polled-steady name xs p other rest so)
  where
    freed : Bool → QueuePair
    freed true = record q { receives = option_map (after_retire x.place) q.receives }
    freed false = record q { sends = after_retire x.place q.sends }

    next : QueuePair
    next = if queue_eq x.queue name then freed x.receive else q

    by : (z : Bool) → (z ≡ true → IsFinished q x.receive x.place) → (r : Bool) → x.receive ≡ r → IsSteadyQueue (if z then freed r else q)
    by false finished r e = s
    by true finished true e = freed-steady x.place true q sound (subst (λ r. IsFinished q r x.place) e (finished refl)) s
    by true finished false e = freed-steady x.place false q sound (subst (λ r. IsFinished q r x.place) e (finished refl)) s

    on : IsPolled q next → IsSteadyQueue next
        → ((p : QueuePair) → IsQueue p → AllByRecursion (λ x. queue_eq x.queue name ≡ true → IsFinished p x.receive x.place) xs → IsSteadyQueue p → IsSteadyQueue (after_poll name xs p))
        → IsSteadyQueue (after_poll name xs next)
    on one so rest = rest next one.sound (all-map _ _ (λ y finished same. finished-later q next y.receive y.place one.later (finished same)) xs all.1) so

slot-polled-steady : (w : World) (s : Slot) (name : QueueId) (xs : List Completion) → IsSteadyWorld w → IsQueueOf name (w.queue name)
    → AllByRecursion (λ x. IsSettled s (w.queue x.queue) x) xs → IsSteadySlot (slot_after_poll name xs (w.queue name))
slot-polled-steady w s name xs steady sound all = by (w.queue name) refl sound (steady name)
  where
    by : (v : QueueSlot) → w.queue name ≡ v → IsQueueOf name v → IsSteadySlot v → IsSteadySlot (slot_after_poll name xs v)
    by (NoQueue incarnation timers) is one so = record {}
    by (Present q) is one so = polled-steady name xs q one.2 (all-finished w s name q xs is all) so

pub steady-poll : (c : Configuration) (w : World) (call : Call) (s : Slot) (k least : ℕ) → IsSoundWorld c w → IsSteadyWorld w → EndsIn w AllSteady (poll_plan call s k least)
steady-poll c w call s k least sound steady = walk-poll w AllSteady call s k least (record {})
    (λ cq is. taken cq (subst (λ o. IfSome o (λ v. AllByRecursion (λ x. IsSettled s (w.queue x.queue) x) v.waiting)) is (sound.settled s)))
  where
    taken : (cq : CompletionQueue) → AllByRecursion (λ x. IsSettled s (w.queue x.queue) x) cq.waiting → EndsIn w AllSteady (Take_plan call s cq (take k cq.waiting))
    taken cq all = walk-places w AllSteady AllSteady s cq (take k cq.waiting) (take k cq.waiting) _ (record {})
        (λ name us rest. (slot-polled-steady w s name (take k cq.waiting) steady (sound.things (Queue_of name)) (all-taken (λ x. IsSettled s (w.queue x.queue) x) k cq.waiting all), rest))
        (λ at srq us rest. (record {}, rest)) (λ us rest. (record {}, rest))

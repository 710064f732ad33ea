-- Queue pairs that are made, changed and destroyed keep the agreement on accesses. For proofs only.
use Rattle.std.proofs.Common.{Bool, IfSome, List, None, Option, Some, [], ap, false, if◌then◌else◌, is_none, nat_lt, not, option_map, refl, subst, suc, sym, true, true≢false, ℕ, ◌&&◌, ◌-◌, ◌∙◌, ◌∷◌, ◌≡◌}
use Rattle.std.specs.List.{AllByRecursion, list_any}
use Rattle.std.specs.Option.{option_and_then}
use Rattle.ca_law_endings.proofs.LeadsLemmas.{leads-around, leads-unless}
use Rattle.ca_law_endings.proofs.PathChangeLemmas.{Behind, at-place}
use Rattle.ca_law_endings.proofs.PathVerbLemmas.{agrees-present, call_of}
use Rattle.ca_law_endings.specs.Runs.{Leads}
use Rattle.ca_law_carried.proofs.Accesses.QuietLemmas.{AreUnheard, plain-unheard, refused}
use Rattle.ca_law_carried.proofs.Accesses.TurnLemmas.{AreKept, Grows, IsKeptSlot, IsMet, agree-at, requests_of, same-slot, slot-grown}
use Rattle.ca_law_carried.proofs.Accesses.VerbLemmas.{RightBy, agree-more, right-answer}
use Rattle.ca_law_carried.specs.Accesses.{AccessesAgree, AgreeInSlot, AgreeOnAccesses, AgreeOnResponder, GoesOn, IsAsked}
use Rattle.ca_law_endings.proofs.Leading.{leads-unless-all}
use Rattle.ca_law_keys.proofs.Keys.PlainLemmas.{flush-plain}
use Rattle.ca_base.specs.Configuration.{Configuration}
use Rattle.ca_base.specs.declared.change.State.{State}
use Rattle.ca_base.specs.objects.CompletionQueue.{CompletionQueue, after_reserve}
use Rattle.ca_base.specs.objects.Domain.{Domain, with_object, without_object}
use Rattle.ca_base.specs.objects.Mailbox.{with_peer}
use Rattle.ca_base.specs.objects.QueuePair.{NoQueue, Present, QueuePair, QueueSlot, is_present, recv_cq_of, send_cq_of, srq_of}
use Rattle.ca_base.specs.objects.SharedReceives.{SharedReceives, SrqSlot, after_receives_retire}
use Rattle.ca_base.specs.objects.StateTable.{is_among, modify_refusals, queue_after_change}
use Rattle.ca_keys.specs.Equal.{queue_eq}
use Rattle.ca_keys.specs.Numbers.{queue_of}
use Rattle.ca_keys.specs.Refusals.{AllFail}
use Rattle.ca_keys.specs.declared.names.QueueId.{QueueId}
use Rattle.ca_keys.specs.declared.names.Slot.{Slot}
use Rattle.ca_law_world.proofs.Sound.SettledLemmas.{queue-path}
use Rattle.ca_law_world.proofs.Sound.WorldLemmas.{around_in, shared_of}
use Rattle.ca_model.specs.Past.{Naming, Past, with_at}
use Rattle.ca_model.specs.declared.answer.Refusal.{Refusal}
use Rattle.ca_model.specs.declared.answer.Refusal.TheVariants.{CqTooSmall, NoDomain, NoSuch, OutOfRange, SlotTaken, WindowsBound}
use Rattle.ca_model.specs.declared.mark.Mark.{Mark}
use Rattle.ca_model.specs.machine.Around.{Around, With_around, cq_updates, srq_updates}
use Rattle.ca_model.specs.machine.Completions.{flush_marks}
use Rattle.ca_model.specs.machine.Invariants.{IsQueue, is_idle}
use Rattle.ca_model.specs.machine.Plan.{If, Look, Plan, Update, put_all, ◌:=◌}
use Rattle.ca_model.specs.machine.QueuePairVerbs.{Creation, With_shared, before_receives, beside, create_qp_plan, destroy_qp_plan, emptied_mailbox, emptied_updates, has_bad_depth, has_no_room, has_queues, left_updates, modify_qp_plan, new_queue, places_held, receive_reserve, receive_room, send_reserved, user_updates, without_queue}
use Rattle.ca_model.specs.machine.Sound.{IsQueueOf}
use Rattle.ca_model.specs.machine.VerbAnswers.{Answer_plan, Call, Refuse_plan, Unless_plan, answer_mark, of_change_refusals}
use Rattle.ca_model.specs.machine.World.{Cq_of, Domain_of, Mailbox_of, Queue_of, Srq_of, World}
use Rattle.ca_model.specs.declared.answer.Answer.TheVariants as answers
use Rattle.ca_base.specs.declared.change.Change.TheVariants as changes
use Rattle.ca_base.specs.declared.change.Field.TheVariants as fields
use Rattle.ca_base.specs.declared.change.Change as state_change
use Rattle.ca_base.specs.declared.change.State.TheVariants as states
use Rattle.ca_model.specs.declared.verb.Verb.TheVariants as verbs

-- a queue pair takes another's place under one name, and the past tells the same of the others
replaced : (past r : Past) (w : World) (place : QueueId) (slot : QueueSlot) → AccessesAgree past w → r.latest_write ≡ past.latest_write → r.read_requests ≡ past.read_requests
    → ((n : QueueId) → queue_eq place n ≡ false → (r.incarnation n ≡ past.incarnation n) × (r.naming n ≡ past.naming n))
    → AgreeInSlot (r.latest_write place) (r.naming place) (requests_of r place) slot
    → AgreeOnAccesses r.incarnation r.latest_write r.naming r.read_requests (with_at queue_eq w.queue place slot)
replaced past r w place slot agree latest requests others own = λ n. at n (queue_eq place n) refl
  where
    at : (n : QueueId) (b : Bool) → queue_eq place n ≡ b → AgreeInSlot (r.latest_write n) (r.naming n) (requests_of r n) (if b then slot else w.queue n)
    at n true e = subst (λ k. AgreeInSlot (r.latest_write k) (r.naming k) (requests_of r k) slot) (queue-path place n e) own
    at n false e = slot-grown (w.queue n) (past.latest_write n) (r.latest_write n) (past.naming n) (r.naming n) (requests_of past n) (requests_of r n) (ap (λ f. f n) latest) (others n e).1
        (λ test any. (λ i. list_any test (requests i (record { queue = n; incarnation = (others n e).0 i }))) ∙ any) (agree n)

elsewhere : {A : Type 0} (f : QueueId → A) (place : QueueId) (x : A) (n : QueueId) → queue_eq place n ≡ false → with_at queue_eq f place x n ≡ f n
elsewhere f place x n e = ap (λ b. if b then x else f n) e

srq-changed : (v : World) (q : QueuePair) (a : Around) (f : SharedReceives → SharedReceives) → AreKept v (srq_updates q a f)
srq-changed v q a f = by q.srq a.shared
  where
    updates : Option ℕ → Option SrqSlot → List Update
    updates (Some srq) (Some slot) = (Srq_of (srq_of q srq) := record slot { srq = option_map f slot.srq }) ∷ []
    updates srq slot = []

    by : (o : Option ℕ) (t : Option SrqSlot) → AreKept v (updates o t)
    by None t = record {}
    by (Some srq) None = record {}
    by (Some srq) (Some slot) = (record {}, record {})

-- ---- changes

-- only in Init does a queue pair name its peer
init-only : (t : State) → not (is_among (states.Init ∷ []) t) ≡ false → is_idle t ≡ true
init-only states.Reset e = refl
init-only states.Init e = refl
init-only states.Rtr e = absurd (true≢false e)
init-only states.Rts e = absurd (true≢false e)
init-only states.Sqd e = absurd (true≢false e)
init-only states.Error e = absurd (true≢false e)

-- a queue pair is reset
reset-right : (c : Configuration) (past : Past) (w : World) (by : ℕ) (s : Slot) (q : QueuePair) (a : Around) → IsMet c past w → q.queue ≡ queue_of s
    → RightBy past by (verbs.ModifyQp s changes.Reset) (put_all ((Queue_of q.queue := Present (queue_after_change changes.Reset q))
    ∷ (Mailbox_of q.queue := emptied_mailbox (queue_after_change changes.Reset q).incarnation (w.mailbox q.queue)) ∷ emptied_updates q a) w) (answer_mark (call_of by (verbs.ModifyQp s changes.Reset)) answers.Fine ∷ [])
reset-right c past w by s q a met name = (
  refl,
  agree-more r v (emptied_updates q a) (subst (λ k. AgreeOnAccesses r.incarnation r.latest_write r.naming r.read_requests (with_at queue_eq w.queue k slot)) (sym name) moved) met.ended
      (record {}, (record {}, srq-changed v q a (after_receives_retire (places_held q a)))),
)
  where
    r : Past
    r = Behind past by (verbs.ModifyQp s changes.Reset) answers.Fine

    slot : QueueSlot
    slot = Present (queue_after_change changes.Reset q)

    v : World
    v = put_all ((Queue_of q.queue := slot) ∷ (Mailbox_of q.queue := emptied_mailbox (queue_after_change changes.Reset q).incarnation (w.mailbox q.queue)) ∷ []) w

    place : QueueId
    place = queue_of s

    nobody : r.naming place ≡ None
    nobody = at-place (with_at queue_eq past.naming place None) place None

    moved : AgreeOnAccesses r.incarnation r.latest_write r.naming r.read_requests (with_at queue_eq w.queue place slot)
    moved = replaced past r w place slot met.agree refl refl
        (λ n e. (elsewhere past.incarnation place (suc (past.incarnation place)) n e, elsewhere (with_at queue_eq past.naming place None) place None n e ∙ elsewhere past.naming place None n e))
        (record { write = record {}; mtu = subst (λ o. IfSome o (λ n. n.mtu ≡ (queue_after_change changes.Reset q).responder.mtu)) (sym nobody) (record {}); reads = record {} })

-- a queue pair names its peer, and takes its path MTU
rtr-right : (c : Configuration) (past : Past) (w : World) (by : ℕ) (s : Slot) (q : QueuePair) (peer : QueueId) (incarnation psn mtu rnr_code : ℕ) → IsMet c past w → w.queue q.queue ≡ Present q → q.queue ≡ queue_of s
    → is_idle q.state ≡ true
    → RightBy past by (verbs.ModifyQp s (changes.Rtr peer incarnation psn mtu rnr_code)) (put_all ((Queue_of q.queue := Present (queue_after_change (changes.Rtr peer incarnation psn mtu rnr_code) q))
    ∷ (Mailbox_of q.queue := with_peer q.incarnation (Some (record { queue = peer; incarnation = incarnation })) (w.mailbox q.queue)) ∷ []) w)
    (answer_mark (call_of by (verbs.ModifyQp s (changes.Rtr peer incarnation psn mtu rnr_code))) answers.Fine ∷ [])
rtr-right c past w by s q peer incarnation psn mtu rnr_code met is name idle =
    (refl, (subst (λ k. AgreeOnAccesses r.incarnation r.latest_write r.naming r.read_requests (with_at queue_eq w.queue k slot)) (sym name) moved, met.ended))
  where
    r : Past
    r = Behind past by (verbs.ModifyQp s (changes.Rtr peer incarnation psn mtu rnr_code)) answers.Fine

    slot : QueueSlot
    slot = Present (queue_after_change (changes.Rtr peer incarnation psn mtu rnr_code) q)

    place : QueueId
    place = queue_of s

    naming : Naming
    naming = record {
      own = record { queue = place; incarnation = past.incarnation place };
      peer = record { queue = peer; incarnation = incarnation };
      psn = psn;
      mtu = mtu;
    }

    sound : IsQueue q
    sound = (subst (IsQueueOf q.queue) is (met.sound.things (Queue_of q.queue))).2

    own : AgreeOnResponder (past.latest_write q.queue) (past.naming q.queue) (requests_of past q.queue) q
    own = agree-at past w q met.agree is

    moved : AgreeOnAccesses r.incarnation r.latest_write r.naming r.read_requests (with_at queue_eq w.queue place slot)
    moved = replaced past r w place slot met.agree refl refl (λ n e. (refl, elsewhere past.naming place (Some naming) n e)) (record {
      write = subst (λ k. GoesOn q.responder.message (past.latest_write k)) name own.write;
      mtu = subst (λ o. IfSome o (λ (n : Naming). n.mtu ≡ mtu)) (sym (at-place past.naming place (Some naming))) refl;
      reads = subst (AllByRecursion (IsAsked mtu (requests_of r place))) (sym (sound.responder.silent idle)) (record {});
    })

-- a change that keeps the responder, or leaves nothing in progress, with what it flushes
still-right : (c : Configuration) (past : Past) (w : World) (by : ℕ) (s : Slot) (change : state_change.Change) (q : QueuePair) (more : List Update) (ms : List Mark) → IsMet c past w → w.queue q.queue ≡ Present q
    → IsKeptSlot (Present q) (Present (queue_after_change change q)) → Grows past (Behind past by (verbs.ModifyQp s change) answers.Fine) → AreUnheard ms → AreKept w more
    → RightBy past by (verbs.ModifyQp s change) (put_all ((Queue_of q.queue := Present (queue_after_change change q)) ∷ more) w) (answer_mark (call_of by (verbs.ModifyQp s change)) answers.Fine ∷ ms)
still-right c past w by s change q more ms met is kept grows unheard rest = right-answer c past w by (verbs.ModifyQp s change) answers.Fine ((Queue_of q.queue := Present (queue_after_change change q)) ∷ more) ms met grows unheard
    (subst (λ t. IsKeptSlot t (Present (queue_after_change change q))) (sym is) kept, rest)

-- the plan of a change of a queue pair, by what it changes around it and what it flushes
changes-right : (w : World) (P : World → List Mark → Type 0) (call : Call) (q : QueuePair) (tests : List (Bool × Refusal)) (updates : Around → List Update) (ms : List Mark)
    → ((r : Refusal) → Leads w P (Refuse_plan call r)) → (AllFail tests → P (put_all (updates (around_in w q (shared_of w q))) w) (answer_mark call answers.Fine ∷ ms))
    → Leads w P (With_around q (λ a. Unless_plan call tests (Answer_plan call answers.Fine (updates a) ms)))
changes-right w P call q tests updates ms refused more = leads-around w P q (λ a. Unless_plan call tests (Answer_plan call answers.Fine (updates a) ms))
    (leads-unless-all w P tests (Refuse_plan call) (Answer_plan call answers.Fine (updates (around_in w q (shared_of w q))) ms) refused more)

pub right-modify : (c : Configuration) (past : Past) (w : World) (by : ℕ) (s : Slot) (change : state_change.Change) → IsMet c past w
    → Leads w (RightBy past by (verbs.ModifyQp s change)) (modify_qp_plan c (call_of by (verbs.ModifyQp s change)) s change)
right-modify c past w by s changes.Error met = agrees-present c w (RightBy past by (verbs.ModifyQp s changes.Error)) (call_of by (verbs.ModifyQp s changes.Error)) s _ met.sound (refl, (met.agree, met.ended)) (λ q is name.
    changes-right w (RightBy past by (verbs.ModifyQp s changes.Error)) (call_of by (verbs.ModifyQp s changes.Error)) q (of_change_refusals (modify_refusals c q changes.Error))
    (λ a. (Queue_of q.queue := Present (queue_after_change changes.Error q)) ∷ cq_updates q a (flush_marks q)) (flush_marks q) (λ r. (refl, (met.agree, met.ended)))
    (λ fails. still-right c past w by s changes.Error q (cq_updates q (around_in w q (shared_of w q)) (flush_marks q)) (flush_marks q) met is
    (λ latest naming requests agree. record { write = record {}; mtu = agree.mtu; reads = record {} })
    (record { incarnation = refl; naming = refl; latest = λ n. refl; requests = λ l test any. any }) (plain-unheard (flush_marks q) (flush-plain q)) (record {}, (record {}, record {}))))
right-modify c past w by s changes.Reset met = agrees-present c w (RightBy past by (verbs.ModifyQp s changes.Reset)) (call_of by (verbs.ModifyQp s changes.Reset)) s _ met.sound (refl, (met.agree, met.ended)) (λ q is name.
    changes-right w (RightBy past by (verbs.ModifyQp s changes.Reset)) (call_of by (verbs.ModifyQp s changes.Reset)) q (of_change_refusals (modify_refusals c q changes.Reset))
    (λ a. (Queue_of q.queue := Present (queue_after_change changes.Reset q)) ∷ (Mailbox_of q.queue := emptied_mailbox (queue_after_change changes.Reset q).incarnation (w.mailbox q.queue)) ∷ emptied_updates q a) [] (λ r. (refl, (met.agree, met.ended)))
    (λ fails. reset-right c past w by s q (around_in w q (shared_of w q)) met name))
right-modify c past w by s (changes.Rtr peer incarnation psn mtu rnr_code) met = agrees-present c w (RightBy past by (verbs.ModifyQp s (changes.Rtr peer incarnation psn mtu rnr_code))) (call_of by (verbs.ModifyQp s (changes.Rtr peer incarnation psn mtu rnr_code))) s _ met.sound (refl, (met.agree, met.ended)) (λ q is name.
    changes-right w (RightBy past by (verbs.ModifyQp s (changes.Rtr peer incarnation psn mtu rnr_code))) (call_of by (verbs.ModifyQp s (changes.Rtr peer incarnation psn mtu rnr_code))) q (of_change_refusals (modify_refusals c q (changes.Rtr peer incarnation psn mtu rnr_code)))
    (λ a. (Queue_of q.queue := Present (queue_after_change (changes.Rtr peer incarnation psn mtu rnr_code) q)) ∷ (Mailbox_of q.queue := with_peer q.incarnation (Some (record { queue = peer; incarnation = incarnation })) (w.mailbox q.queue)) ∷ []) [] (λ r. (refl, (met.agree, met.ended)))
    (λ fails. rtr-right c past w by s q peer incarnation psn mtu rnr_code met is name (init-only q.state fails.0)))
right-modify c past w by s changes.Init met = agrees-present c w (RightBy past by (verbs.ModifyQp s changes.Init)) (call_of by (verbs.ModifyQp s changes.Init)) s _ met.sound (refl, (met.agree, met.ended)) (λ q is name.
    changes-right w (RightBy past by (verbs.ModifyQp s changes.Init)) (call_of by (verbs.ModifyQp s changes.Init)) q (of_change_refusals (modify_refusals c q changes.Init))
    (λ a. (Queue_of q.queue := Present (queue_after_change changes.Init q)) ∷ []) [] (λ r. (refl, (met.agree, met.ended)))
    (λ fails. still-right c past w by s changes.Init q [] [] met is (same-slot q (queue_after_change changes.Init q) refl) (record { incarnation = refl; naming = refl; latest = λ n. refl; requests = λ l test any. any }) (record {}) (record {})))
right-modify c past w by s (changes.Rts psn retry rnr_retry reads) met = agrees-present c w (RightBy past by (verbs.ModifyQp s (changes.Rts psn retry rnr_retry reads))) (call_of by (verbs.ModifyQp s (changes.Rts psn retry rnr_retry reads))) s _ met.sound (refl, (met.agree, met.ended)) (λ q is name.
    changes-right w (RightBy past by (verbs.ModifyQp s (changes.Rts psn retry rnr_retry reads))) (call_of by (verbs.ModifyQp s (changes.Rts psn retry rnr_retry reads))) q (of_change_refusals (modify_refusals c q (changes.Rts psn retry rnr_retry reads)))
    (λ a. (Queue_of q.queue := Present (queue_after_change (changes.Rts psn retry rnr_retry reads) q)) ∷ []) [] (λ r. (refl, (met.agree, met.ended)))
    (λ fails. still-right c past w by s (changes.Rts psn retry rnr_retry reads) q [] [] met is (same-slot q (queue_after_change (changes.Rts psn retry rnr_retry reads) q) refl)
    (record { incarnation = refl; naming = refl; latest = λ n. refl; requests = λ l test any. any }) (record {}) (record {})))
right-modify c past w by s changes.Sqd met = agrees-present c w (RightBy past by (verbs.ModifyQp s changes.Sqd)) (call_of by (verbs.ModifyQp s changes.Sqd)) s _ met.sound (refl, (met.agree, met.ended)) (λ q is name.
    changes-right w (RightBy past by (verbs.ModifyQp s changes.Sqd)) (call_of by (verbs.ModifyQp s changes.Sqd)) q (of_change_refusals (modify_refusals c q changes.Sqd))
    (λ a. (Queue_of q.queue := Present (queue_after_change changes.Sqd q)) ∷ []) [] (λ r. (refl, (met.agree, met.ended)))
    (λ fails. still-right c past w by s changes.Sqd q [] [] met is (same-slot q (queue_after_change changes.Sqd q) refl) (record { incarnation = refl; naming = refl; latest = λ n. refl; requests = λ l test any. any }) (record {}) (record {})))
right-modify c past w by s changes.Resume met = agrees-present c w (RightBy past by (verbs.ModifyQp s changes.Resume)) (call_of by (verbs.ModifyQp s changes.Resume)) s _ met.sound (refl, (met.agree, met.ended)) (λ q is name.
    changes-right w (RightBy past by (verbs.ModifyQp s changes.Resume)) (call_of by (verbs.ModifyQp s changes.Resume)) q (of_change_refusals (modify_refusals c q changes.Resume))
    (λ a. (Queue_of q.queue := Present (queue_after_change changes.Resume q)) ∷ []) [] (λ r. (refl, (met.agree, met.ended)))
    (λ fails. still-right c past w by s changes.Resume q [] [] met is (same-slot q (queue_after_change changes.Resume q) refl) (record { incarnation = refl; naming = refl; latest = λ n. refl; requests = λ l test any. any }) (record {}) (record {})))

-- ---- queue pairs that are made and destroyed

create-right : (c : Configuration) (past : Past) (w : World) (by : ℕ) (x : Creation) (domain : Domain) (send recv : CompletionQueue) (slot : Option SrqSlot) (number : ℕ) → IsMet c past w
    → RightBy past by (verbs.CreateQp x.slot x.send_cq x.recv_cq x.send_depth x.recv_depth x.srq)
    (put_all ((Domain_of x.slot.domain := domain)
    ∷ (Queue_of (queue_of x.slot) := Present (new_queue x (w.queue (queue_of x.slot))))
    ∷ (Mailbox_of (queue_of x.slot) := with_peer (new_queue x (w.queue (queue_of x.slot))).incarnation None (w.mailbox (queue_of x.slot)))
    ∷ (Cq_of (beside x.slot x.send_cq) := Some send)
    ∷ (Cq_of (beside x.slot x.recv_cq) := Some recv)
    ∷ user_updates x slot) w)
    (answer_mark (call_of by (verbs.CreateQp x.slot x.send_cq x.recv_cq x.send_depth x.recv_depth x.srq)) (answers.Queue number (new_queue x (w.queue (queue_of x.slot))).incarnation) ∷ [])
create-right c past w by x domain send recv slot number met = (refl, agree-more r v (user_updates x slot) moved met.ended (users x.srq slot))
  where
    place : QueueId
    place = queue_of x.slot

    made : QueuePair
    made = new_queue x (w.queue place)

    r : Past
    r = Behind past by (verbs.CreateQp x.slot x.send_cq x.recv_cq x.send_depth x.recv_depth x.srq) (answers.Queue number made.incarnation)

    v : World
    v = put_all ((Domain_of x.slot.domain := domain) ∷ (Queue_of place := Present made) ∷ (Mailbox_of place := with_peer made.incarnation None (w.mailbox place))
        ∷ (Cq_of (beside x.slot x.send_cq) := Some send) ∷ (Cq_of (beside x.slot x.recv_cq) := Some recv) ∷ []) w

    updates : Option ℕ → Option SrqSlot → List Update
    updates (Some srq) (Some slot) = (Srq_of (beside x.slot srq) := record slot { users = suc slot.users }) ∷ []
    updates srq slot = []

    users : (o : Option ℕ) (t : Option SrqSlot) → AreKept v (updates o t)
    users None t = record {}
    users (Some srq) None = record {}
    users (Some srq) (Some slot) = (record {}, record {})

    moved : AgreeOnAccesses r.incarnation r.latest_write r.naming r.read_requests (with_at queue_eq w.queue place (Present made))
    moved = replaced past r w place (Present made) met.agree refl refl
        (λ n e. (elsewhere past.incarnation place (suc (past.incarnation place)) n e, elsewhere past.naming place None n e))
        (record { write = record {}; mtu = subst (λ o. IfSome o (λ n. n.mtu ≡ made.responder.mtu)) (sym (at-place past.naming place None)) (record {}); reads = record {} })

pub right-create : (c : Configuration) (past : Past) (w : World) (by : ℕ) (x : Creation) → IsMet c past w
    → Leads w (RightBy past by (verbs.CreateQp x.slot x.send_cq x.recv_cq x.send_depth x.recv_depth x.srq))
    (create_qp_plan c (call_of by (verbs.CreateQp x.slot x.send_cq x.recv_cq x.send_depth x.recv_depth x.srq)) x)
right-create c past w by x met =
    leads-unless w P ((not (w.domain x.slot.domain).allocated, NoDomain) ∷ (is_present (w.queue place), SlotTaken) ∷ []) (Refuse_plan call)
    (If (has_queues c x) (Look (Cq_of (beside x.slot x.send_cq)) (λ send. Look (Cq_of (beside x.slot x.recv_cq)) (λ recv.
    With_shared x (λ shared. there send recv shared (option_and_then (λ s. s.srq) shared))))) (Refuse_plan call NoSuch)) (λ r. (refl, (met.agree, met.ended)))
    (λ has. sharing x.srq, λ none. (refl, (met.agree, met.ended)))
  where
    call : Call
    call = call_of by (verbs.CreateQp x.slot x.send_cq x.recv_cq x.send_depth x.recv_depth x.srq)

    P : World → List Mark → Type 0
    P = RightBy past by (verbs.CreateQp x.slot x.send_cq x.recv_cq x.send_depth x.recv_depth x.srq)

    place : QueueId
    place = queue_of x.slot

    q : QueuePair
    q = new_queue x (w.queue place)

    made : CompletionQueue → CompletionQueue → Option SrqSlot → Option SharedReceives → Plan
    made send recv slot shared = Answer_plan call (answers.Queue place.number q.incarnation)
        ((Domain_of x.slot.domain := with_object (w.domain x.slot.domain))
        ∷ (Queue_of place := Present q)
        ∷ (Mailbox_of place := with_peer q.incarnation None (w.mailbox place))
        ∷ (Cq_of (beside x.slot x.send_cq) := Some (send_reserved x send))
        ∷ (Cq_of (beside x.slot x.recv_cq) := Some (after_reserve (receive_reserve x) (receive_room x shared) (before_receives x send recv)))
        ∷ user_updates x slot)
        []

    sized : CompletionQueue → CompletionQueue → Option SrqSlot → Option SharedReceives → Plan
    sized send recv slot shared =
        Unless_plan call ((has_bad_depth x, OutOfRange fields.Depth) ∷ (has_no_room x shared send recv, CqTooSmall) ∷ []) (made send recv slot shared)

    there : Option CompletionQueue → Option CompletionQueue → Option SrqSlot → Option SharedReceives → Plan
    there (Some send) (Some recv) slot shared = If (is_none shared && not (is_none x.srq)) (Refuse_plan call NoSuch) (sized send recv slot shared)
    there send recv slot shared = Refuse_plan call NoSuch

    found-both : (send recv : CompletionQueue) (slot : Option SrqSlot) (shared : Option SharedReceives) → Leads w P (there (Some send) (Some recv) slot shared)
    found-both send recv slot shared = (
      λ missing. (refl, (met.agree, met.ended)),
      λ there. leads-unless w P ((has_bad_depth x, OutOfRange fields.Depth) ∷ (has_no_room x shared send recv, CqTooSmall) ∷ []) (Refuse_plan call)
          (made send recv slot shared) (λ r. (refl, (met.agree, met.ended)))
          (create-right c past w by x (with_object (w.domain x.slot.domain)) (send_reserved x send) (after_reserve (receive_reserve x) (receive_room x shared) (before_receives x send recv)) slot place.number met),
    )

    both : (send recv : Option CompletionQueue) (slot : Option SrqSlot) (shared : Option SharedReceives) → Leads w P (there send recv slot shared)
    both None recv slot shared = (refl, (met.agree, met.ended))
    both (Some send) None slot shared = (refl, (met.agree, met.ended))
    both (Some send) (Some recv) slot shared = found-both send recv slot shared

    looking : Option ℕ → Plan
    looking None = there (w.cq (beside x.slot x.send_cq)) (w.cq (beside x.slot x.recv_cq)) None None
    looking (Some srq) = Look (Srq_of (beside x.slot srq)) (λ slot. there (w.cq (beside x.slot x.send_cq)) (w.cq (beside x.slot x.recv_cq)) (Some slot) slot.srq)

    sharing : (o : Option ℕ) → Leads w P (looking o)
    sharing None = both (w.cq (beside x.slot x.send_cq)) (w.cq (beside x.slot x.recv_cq)) None None
    sharing (Some srq) = both (w.cq (beside x.slot x.send_cq)) (w.cq (beside x.slot x.recv_cq)) (Some (w.srq (beside x.slot srq))) (w.srq (beside x.slot srq)).srq

destroy-right : (c : Configuration) (past : Past) (w : World) (by : ℕ) (s : Slot) (domain : Domain) (q : QueuePair) (a : Around) → IsMet c past w → q.queue ≡ queue_of s
    → RightBy past by (verbs.DestroyQp s)
    (put_all ((Domain_of s.domain := domain)
    ∷ (Queue_of q.queue := NoQueue q.incarnation q.requester.timers)
    ∷ (Mailbox_of q.queue := emptied_mailbox q.incarnation (w.mailbox q.queue))
    ∷ (Cq_of (send_cq_of q) := option_map (without_queue q) a.send)
    ∷ (Cq_of (recv_cq_of q) := option_map (without_queue q) a.recv)
    ∷ left_updates q a) w) (answer_mark (call_of by (verbs.DestroyQp s)) answers.Fine ∷ [])
destroy-right c past w by s domain q a met name =
    (refl, agree-more r v (left_updates q a) (subst (λ k. AgreeOnAccesses r.incarnation r.latest_write r.naming r.read_requests (with_at queue_eq w.queue k slot)) (sym name) moved) met.ended (left q.srq a.shared))
  where
    place : QueueId
    place = queue_of s

    r : Past
    r = Behind past by (verbs.DestroyQp s) answers.Fine

    slot : QueueSlot
    slot = NoQueue q.incarnation q.requester.timers

    v : World
    v = put_all ((Domain_of s.domain := domain) ∷ (Queue_of q.queue := slot) ∷ (Mailbox_of q.queue := emptied_mailbox q.incarnation (w.mailbox q.queue))
        ∷ (Cq_of (send_cq_of q) := option_map (without_queue q) a.send) ∷ (Cq_of (recv_cq_of q) := option_map (without_queue q) a.recv) ∷ []) w

    updates : Option ℕ → Option SrqSlot → List Update
    updates (Some srq) (Some slot) = (Srq_of (record { domain = q.domain; slot = srq }) := record slot {
      srq = option_map (after_receives_retire (places_held q a)) slot.srq;
      users = slot.users - 1;
    }) ∷ []
    updates srq slot = []

    left : (o : Option ℕ) (t : Option SrqSlot) → AreKept v (updates o t)
    left None t = record {}
    left (Some srq) None = record {}
    left (Some srq) (Some slot) = (record {}, record {})

    moved : AgreeOnAccesses r.incarnation r.latest_write r.naming r.read_requests (with_at queue_eq w.queue place slot)
    moved = replaced past r w place slot met.agree refl refl (λ n e. (refl, elsewhere past.naming place None n e)) (record {})

pub right-destroy : (c : Configuration) (past : Past) (w : World) (by : ℕ) (s : Slot) → IsMet c past w
    → Leads w (RightBy past by (verbs.DestroyQp s)) (destroy_qp_plan (call_of by (verbs.DestroyQp s)) s)
right-destroy c past w by s met = agrees-present c w P call s _ met.sound (refl, (met.agree, met.ended)) (λ q is name.
    leads-around w P q (λ a. Unless_plan call ((nat_lt 0 q.windows, WindowsBound) ∷ []) (ending q a))
    (leads-unless w P ((nat_lt 0 q.windows, WindowsBound) ∷ []) (Refuse_plan call) (ending q (around_in w q (shared_of w q))) (λ r. (refl, (met.agree, met.ended)))
    (destroy-right c past w by s (without_object (w.domain s.domain)) q (around_in w q (shared_of w q)) met name)))
  where
    call : Call
    call = call_of by (verbs.DestroyQp s)

    P : World → List Mark → Type 0
    P = RightBy past by (verbs.DestroyQp s)

    ending : QueuePair → Around → Plan
    ending q a = Answer_plan call answers.Fine
        ((Domain_of s.domain := without_object (w.domain s.domain))
        ∷ (Queue_of q.queue := NoQueue q.incarnation q.requester.timers)
        ∷ (Mailbox_of q.queue := emptied_mailbox q.incarnation (w.mailbox q.queue))
        ∷ (Cq_of (send_cq_of q) := option_map (without_queue q) a.send)
        ∷ (Cq_of (recv_cq_of q) := option_map (without_queue q) a.recv)
        ∷ left_updates q a)
        []

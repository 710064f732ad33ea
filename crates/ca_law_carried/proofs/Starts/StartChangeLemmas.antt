-- Queue pairs that are made, changed and destroyed keep the agreement on PSNs. For proofs only.
use Rattle.std.proofs.Common.{Bool, List, None, Option, Some, [], ap, arith, false, if◌then◌else◌, is_none, nat_lt, not, option_map, refl, subst, subst₂, suc, sym, true, true≢false, ℕ, ◌&&◌, ◌-◌, ◌∙◌, ◌∷◌, ◌≡◌}
use Rattle.std.specs.Option.{option_and_then}
use Rattle.ca_law_endings.proofs.InnerLemmas.{flush-inner}
use Rattle.ca_law_endings.proofs.LeadsLemmas.{leads-around, leads-unless}
use Rattle.ca_law_endings.proofs.PathChangeLemmas.{Behind, at-place}
use Rattle.ca_law_endings.proofs.PathVerbLemmas.{agrees-present, call_of}
use Rattle.ca_law_endings.specs.Runs.{Leads}
use Rattle.ca_law_endings.proofs.Leading.{leads-unless-all}
use Rattle.ca_law_keys.proofs.Posts.PostLemmas.{AreNoAnswers}
use Rattle.ca_law_keys.proofs.Posts.PostMade.{life-refl, other-life}
use Rattle.ca_law_keys.specs.Posts.{PostsAgree, life}
use Rattle.ca_law_carried.proofs.Starts.NumberLemmas.{none-before}
use Rattle.ca_law_carried.proofs.Starts.StartTurnLemmas.{AreKept, IsKeptSlot, IsReady, SameStarts, begun-same, own-no, posted_of, start-at}
use Rattle.ca_law_carried.proofs.Starts.StartVerbLemmas.{AgreesBy, agree-more, starts-answer}
use Rattle.ca_law_carried.specs.Starts.{AgreeOnStarts, StartsAgree, StartsInSlot, start_in}
use Rattle.ca_base.specs.Configuration.{Configuration}
use Rattle.ca_base.specs.declared.change.State.{State}
use Rattle.ca_base.specs.objects.CompletionQueue.{CompletionQueue, after_reserve}
use Rattle.ca_base.specs.objects.Domain.{Domain, with_object, without_object}
use Rattle.ca_base.specs.objects.Mailbox.{with_peer}
use Rattle.ca_base.specs.objects.QueuePair.{NoQueue, Present, QueuePair, QueueSlot, is_present, recv_cq_of, send_cq_of, srq_of}
use Rattle.ca_base.specs.objects.SharedReceives.{SharedReceives, SrqSlot, after_receives_retire}
use Rattle.ca_base.specs.objects.StateTable.{is_among, modify_refusals, queue_after_change}
use Rattle.ca_keys.specs.Equal.{queue_eq}
use Rattle.ca_keys.specs.Numbers.{queue_of}
use Rattle.ca_keys.specs.Refusals.{AllFail}
use Rattle.ca_keys.specs.declared.names.QueueId.{QueueId}
use Rattle.ca_keys.specs.declared.names.Slot.{Slot}
use Rattle.ca_law_world.proofs.Sound.SettledLemmas.{queue-path}
use Rattle.ca_law_world.proofs.Sound.WorldLemmas.{around_in, shared_of}
use Rattle.ca_model.specs.Past.{Past, Start, present_incarnation, start_of, with_at}
use Rattle.ca_model.specs.declared.answer.Refusal.{Refusal}
use Rattle.ca_model.specs.declared.answer.Refusal.TheVariants.{CqTooSmall, NoDomain, NoSuch, OutOfRange, SlotTaken, WindowsBound}
use Rattle.ca_model.specs.declared.mark.Mark.{Mark}
use Rattle.ca_model.specs.machine.Around.{Around, With_around, cq_updates, srq_updates}
use Rattle.ca_model.specs.machine.Completions.{flush_marks}
use Rattle.ca_model.specs.machine.Invariants.{is_fresh, is_sending}
use Rattle.ca_model.specs.machine.Plan.{If, Look, Plan, Update, put_all, ◌:=◌}
use Rattle.ca_model.specs.machine.QueuePairVerbs.{Creation, With_shared, before_receives, beside, create_qp_plan, destroy_qp_plan, emptied_mailbox, emptied_updates, has_bad_depth, has_no_room, has_queues, left_updates, modify_qp_plan, new_queue, places_held, receive_reserve, receive_room, send_reserved, user_updates, without_queue}
use Rattle.ca_model.specs.machine.VerbAnswers.{Answer_plan, Call, Refuse_plan, Unless_plan, answer_mark, of_change_refusals}
use Rattle.ca_model.specs.machine.World.{Cq_of, Domain_of, Mailbox_of, Queue_of, Srq_of, World}
use Rattle.ca_wire.proofs.WorkedPackets.{refused}
use Rattle.ca_model.specs.declared.answer.Answer.TheVariants as answers
use Rattle.ca_base.specs.declared.change.Change.TheVariants as changes
use Rattle.ca_base.specs.declared.change.Field.TheVariants as fields
use Rattle.ca_base.specs.declared.change.Change as state_change
use Rattle.ca_base.specs.declared.change.State.TheVariants as states
use Rattle.ca_model.specs.declared.verb.Verb.TheVariants as verbs

-- a queue pair takes another's place under one name, and the past tells the same of the others
replaced : (past r : Past) (w : World) (place : QueueId) (slot : QueueSlot) → StartsAgree past w
    → ((n : QueueId) → queue_eq place n ≡ false → (start_of r n ≡ start_of past n) × (posted_of r n ≡ posted_of past n))
    → StartsInSlot (start_of r place) (posted_of r place) slot
    → AgreeOnStarts r.incarnation r.starts r.posted (with_at queue_eq w.queue place slot)
replaced past r w place slot agree others own = λ n. at n (queue_eq place n) refl
  where
    at : (n : QueueId) (b : Bool) → queue_eq place n ≡ b → StartsInSlot (start_of r n) (posted_of r n) (if b then slot else w.queue n)
    at n true e = subst (λ k. StartsInSlot (start_of r k) (posted_of r k) slot) (queue-path place n e) own
    at n false e = subst₂ (λ o ps. StartsInSlot o ps (w.queue n)) (sym (others n e).0) (sym (others n e).1) (agree n)

-- one of a new life
renewed : (past r : Past) (w : World) (place : QueueId) (slot : QueueSlot) → PostsAgree past w → StartsAgree past w → r.starts ≡ past.starts → r.posted ≡ past.posted
    → r.incarnation ≡ with_at queue_eq past.incarnation place (suc (past.incarnation place))
    → ((start : Option Start) → StartsInSlot start [] slot)
    → AgreeOnStarts r.incarnation r.starts r.posted (with_at queue_eq w.queue place slot)
renewed past r w place slot posts agree starts posted lives new = replaced past r w place slot agree
    (λ n e. (λ i. start_in (starts i) (life n (before n e i)), λ i. posted i (life n (before n e i))))
    (subst (λ ps. StartsInSlot (start_of r place) ps slot) (sym nothing) (new (start_of r place)))
  where
    before : (n : QueueId) → queue_eq place n ≡ false → r.incarnation n ≡ past.incarnation n
    before n e = ap (λ f. f n) lives ∙ ap (λ b. if b then suc (past.incarnation place) else past.incarnation n) e

    nothing : posted_of r place ≡ []
    nothing = (λ i. posted i (life place ((ap (λ f. f place) lives ∙ at-place past.incarnation place (suc (past.incarnation place))) i))) ∙ (posts.later place (suc (past.incarnation place)) (omega arith)).0

srq-changed : (v : World) (q : QueuePair) (a : Around) (f : SharedReceives → SharedReceives) → AreKept v (srq_updates q a f)
srq-changed v q a f = by q.srq a.shared
  where
    updates : Option ℕ → Option SrqSlot → List Update
    updates (Some srq) (Some slot) = (Srq_of (srq_of q srq) := record slot { srq = option_map f slot.srq }) ∷ []
    updates srq slot = []

    by : (o : Option ℕ) (t : Option SrqSlot) → AreKept v (updates o t)
    by None t = record {}
    by (Some srq) None = record {}
    by (Some srq) (Some slot) = (record {}, record {})

-- ---- changes

-- in which states a queue pair may change so
reset-only : (t : State) → not (is_among (states.Reset ∷ []) t) ≡ false → is_fresh t ≡ true
reset-only states.Reset e = refl
reset-only states.Init e = absurd (true≢false e)
reset-only states.Rtr e = absurd (true≢false e)
reset-only states.Rts e = absurd (true≢false e)
reset-only states.Sqd e = absurd (true≢false e)
reset-only states.Error e = absurd (true≢false e)

init-only : (t : State) → not (is_among (states.Init ∷ []) t) ≡ false → is_fresh t ≡ true
init-only states.Reset e = absurd (true≢false e)
init-only states.Init e = refl
init-only states.Rtr e = absurd (true≢false e)
init-only states.Rts e = absurd (true≢false e)
init-only states.Sqd e = absurd (true≢false e)
init-only states.Error e = absurd (true≢false e)

rtr-only : (t : State) → not (is_among (states.Rtr ∷ []) t) ≡ false → is_fresh t ≡ true
rtr-only states.Reset e = absurd (true≢false e)
rtr-only states.Init e = absurd (true≢false e)
rtr-only states.Rtr e = refl
rtr-only states.Rts e = absurd (true≢false e)
rtr-only states.Sqd e = absurd (true≢false e)
rtr-only states.Error e = absurd (true≢false e)

rts-only : (t : State) → not (is_among (states.Rts ∷ []) t) ≡ false → is_sending t ≡ true
rts-only states.Reset e = absurd (true≢false e)
rts-only states.Init e = absurd (true≢false e)
rts-only states.Rtr e = absurd (true≢false e)
rts-only states.Rts e = refl
rts-only states.Sqd e = absurd (true≢false e)
rts-only states.Error e = absurd (true≢false e)

sqd-only : (t : State) → not (is_among (states.Sqd ∷ []) t) ≡ false → is_sending t ≡ true
sqd-only states.Reset e = absurd (true≢false e)
sqd-only states.Init e = absurd (true≢false e)
sqd-only states.Rtr e = absurd (true≢false e)
sqd-only states.Rts e = absurd (true≢false e)
sqd-only states.Sqd e = refl
sqd-only states.Error e = absurd (true≢false e)

-- a queue pair is reset
reset-starts : (c : Configuration) (past : Past) (w : World) (by : ℕ) (s : Slot) (q : QueuePair) (a : Around) → IsReady c past w → q.queue ≡ queue_of s
    → AgreesBy past by (verbs.ModifyQp s changes.Reset) (put_all ((Queue_of q.queue := Present (queue_after_change changes.Reset q))
    ∷ (Mailbox_of q.queue := emptied_mailbox (queue_after_change changes.Reset q).incarnation (w.mailbox q.queue)) ∷ emptied_updates q a) w) (answer_mark (call_of by (verbs.ModifyQp s changes.Reset)) answers.Fine ∷ [])
reset-starts c past w by s q a met name =
    agree-more r v (emptied_updates q a) (subst (λ k. AgreeOnStarts r.incarnation r.starts r.posted (with_at queue_eq w.queue k slot)) (sym name) moved)
    (record {}, (record {}, srq-changed v q a (after_receives_retire (places_held q a))))
  where
    r : Past
    r = Behind past by (verbs.ModifyQp s changes.Reset) answers.Fine

    slot : QueueSlot
    slot = Present (queue_after_change changes.Reset q)

    v : World
    v = put_all ((Queue_of q.queue := slot) ∷ (Mailbox_of q.queue := emptied_mailbox (queue_after_change changes.Reset q).incarnation (w.mailbox q.queue)) ∷ []) w

    moved : AgreeOnStarts r.incarnation r.starts r.posted (with_at queue_eq w.queue (queue_of s) slot)
    moved = renewed past r w (queue_of s) slot met.posts met.agree refl refl refl (λ start. record { fresh = λ is. refl; begun = λ is. absurd (true≢false (sym is)) })

-- a queue pair begins to send
rts-starts : (c : Configuration) (past : Past) (w : World) (by : ℕ) (s : Slot) (q : QueuePair) (psn retry rnr_retry reads : ℕ) → IsReady c past w → w.queue q.queue ≡ Present q → q.queue ≡ queue_of s
    → is_fresh q.state ≡ true
    → AgreesBy past by (verbs.ModifyQp s (changes.Rts psn retry rnr_retry reads)) (put_all ((Queue_of q.queue := Present (queue_after_change (changes.Rts psn retry rnr_retry reads) q)) ∷ []) w)
    (answer_mark (call_of by (verbs.ModifyQp s (changes.Rts psn retry rnr_retry reads))) answers.Fine ∷ [])
rts-starts c past w by s q psn retry rnr_retry reads met is name fresh = subst (λ k. AgreeOnStarts r.incarnation r.starts r.posted (with_at queue_eq w.queue k slot)) (sym name) moved
  where
    r : Past
    r = Behind past by (verbs.ModifyQp s (changes.Rts psn retry rnr_retry reads)) answers.Fine

    slot : QueueSlot
    slot = Present (queue_after_change (changes.Rts psn retry rnr_retry reads) q)

    place : QueueId
    place = queue_of s

    begins : Start
    begins = record { own = present_incarnation past place; psn = psn; retry = retry; rnr_retry = rnr_retry }

    nothing : posted_of past place ≡ []
    nothing = subst (λ k. posted_of past k ≡ []) name ((start-at past w q met.agree is).fresh fresh)

    own : StartsInSlot (start_of r place) (posted_of r place) slot
    own = subst₂ (λ o ps. StartsInSlot o ps slot) (sym (ap (λ b. if b then Some begins else start_of past place) (life-refl (present_incarnation past place)))) (sym nothing) (record {
      fresh = λ not. absurd (true≢false (sym not));
      begun = λ so. omega (arith, none-before q.responder.mtu q.requester.oldest);
    })

    moved : AgreeOnStarts r.incarnation r.starts r.posted (with_at queue_eq w.queue place slot)
    moved = replaced past r w place slot met.agree
        (λ n e. (ap (λ b. if b then Some begins else start_of past n) (other-life place n (past.incarnation place) (past.incarnation n) e), refl)) own

-- a change that neither begins a life nor begins to send
still-starts : (c : Configuration) (past : Past) (w : World) (by : ℕ) (s : Slot) (change : state_change.Change) (q : QueuePair) (more : List Update) (ms : List Mark) → IsReady c past w → w.queue q.queue ≡ Present q
    → IsKeptSlot (Present q) (Present (queue_after_change change q)) → SameStarts past (Behind past by (verbs.ModifyQp s change) answers.Fine) → AreNoAnswers ms → AreKept w more
    → AgreesBy past by (verbs.ModifyQp s change) (put_all ((Queue_of q.queue := Present (queue_after_change change q)) ∷ more) w) (answer_mark (call_of by (verbs.ModifyQp s change)) answers.Fine ∷ ms)
still-starts c past w by s change q more ms met is kept same quiet rest = starts-answer c past w by (verbs.ModifyQp s change) answers.Fine ((Queue_of q.queue := Present (queue_after_change change q)) ∷ more) ms met same quiet
    (subst (λ t. IsKeptSlot t (Present (queue_after_change change q))) (sym is) kept, rest)

-- the plan of a change of a queue pair, by what it changes around it and what it flushes
changes-start : (w : World) (P : World → List Mark → Type 0) (call : Call) (q : QueuePair) (tests : List (Bool × Refusal)) (updates : Around → List Update) (ms : List Mark)
    → ((r : Refusal) → Leads w P (Refuse_plan call r)) → (AllFail tests → P (put_all (updates (around_in w q (shared_of w q))) w) (answer_mark call answers.Fine ∷ ms))
    → Leads w P (With_around q (λ a. Unless_plan call tests (Answer_plan call answers.Fine (updates a) ms)))
changes-start w P call q tests updates ms refused more = leads-around w P q (λ a. Unless_plan call tests (Answer_plan call answers.Fine (updates a) ms))
    (leads-unless-all w P tests (Refuse_plan call) (Answer_plan call answers.Fine (updates (around_in w q (shared_of w q))) ms) refused more)

pub starts-modify : (c : Configuration) (past : Past) (w : World) (by : ℕ) (s : Slot) (change : state_change.Change) → IsReady c past w
    → Leads w (AgreesBy past by (verbs.ModifyQp s change)) (modify_qp_plan c (call_of by (verbs.ModifyQp s change)) s change)
starts-modify c past w by s changes.Error met = agrees-present c w (AgreesBy past by (verbs.ModifyQp s changes.Error)) (call_of by (verbs.ModifyQp s changes.Error)) s _ met.sound met.agree (λ q is name.
    changes-start w (AgreesBy past by (verbs.ModifyQp s changes.Error)) (call_of by (verbs.ModifyQp s changes.Error)) q (of_change_refusals (modify_refusals c q changes.Error))
    (λ a. (Queue_of q.queue := Present (queue_after_change changes.Error q)) ∷ cq_updates q a (flush_marks q)) (flush_marks q) (λ r. met.agree)
    (λ fails. still-starts c past w by s changes.Error q (cq_updates q (around_in w q (shared_of w q)) (flush_marks q)) (flush_marks q) met is
    (λ start posted agree. record { fresh = λ so. absurd (true≢false (sym so)); begun = λ so. absurd (true≢false (sym so)) })
    (record { incarnation = refl; starts = refl; posted = refl }) (own-no (flush_marks q) (flush-inner q)) (record {}, (record {}, record {}))))
starts-modify c past w by s changes.Reset met = agrees-present c w (AgreesBy past by (verbs.ModifyQp s changes.Reset)) (call_of by (verbs.ModifyQp s changes.Reset)) s _ met.sound met.agree (λ q is name.
    changes-start w (AgreesBy past by (verbs.ModifyQp s changes.Reset)) (call_of by (verbs.ModifyQp s changes.Reset)) q (of_change_refusals (modify_refusals c q changes.Reset))
    (λ a. (Queue_of q.queue := Present (queue_after_change changes.Reset q)) ∷ (Mailbox_of q.queue := emptied_mailbox (queue_after_change changes.Reset q).incarnation (w.mailbox q.queue)) ∷ emptied_updates q a) [] (λ r. met.agree)
    (λ fails. reset-starts c past w by s q (around_in w q (shared_of w q)) met name))
starts-modify c past w by s (changes.Rtr peer incarnation psn mtu rnr_code) met = agrees-present c w (AgreesBy past by (verbs.ModifyQp s (changes.Rtr peer incarnation psn mtu rnr_code))) (call_of by (verbs.ModifyQp s (changes.Rtr peer incarnation psn mtu rnr_code))) s _ met.sound met.agree (λ q is name.
    changes-start w (AgreesBy past by (verbs.ModifyQp s (changes.Rtr peer incarnation psn mtu rnr_code))) (call_of by (verbs.ModifyQp s (changes.Rtr peer incarnation psn mtu rnr_code))) q (of_change_refusals (modify_refusals c q (changes.Rtr peer incarnation psn mtu rnr_code)))
    (λ a. (Queue_of q.queue := Present (queue_after_change (changes.Rtr peer incarnation psn mtu rnr_code) q)) ∷ (Mailbox_of q.queue := with_peer q.incarnation (Some (record { queue = peer; incarnation = incarnation })) (w.mailbox q.queue)) ∷ []) [] (λ r. met.agree)
    (λ fails. still-starts c past w by s (changes.Rtr peer incarnation psn mtu rnr_code) q ((Mailbox_of q.queue := with_peer q.incarnation (Some (record { queue = peer; incarnation = incarnation })) (w.mailbox q.queue)) ∷ []) [] met is (λ start posted agree. record { fresh = λ so. agree.fresh (init-only q.state fails.0); begun = λ so. absurd (true≢false (sym so)) }) (record { incarnation = refl; starts = refl; posted = refl }) (record {}) (record {}, record {})))
starts-modify c past w by s changes.Init met = agrees-present c w (AgreesBy past by (verbs.ModifyQp s changes.Init)) (call_of by (verbs.ModifyQp s changes.Init)) s _ met.sound met.agree (λ q is name.
    changes-start w (AgreesBy past by (verbs.ModifyQp s changes.Init)) (call_of by (verbs.ModifyQp s changes.Init)) q (of_change_refusals (modify_refusals c q changes.Init))
    (λ a. (Queue_of q.queue := Present (queue_after_change changes.Init q)) ∷ []) [] (λ r. met.agree)
    (λ fails. still-starts c past w by s changes.Init q [] [] met is (λ start posted agree. record { fresh = λ so. agree.fresh (reset-only q.state fails.0); begun = λ so. absurd (true≢false (sym so)) }) (record { incarnation = refl; starts = refl; posted = refl }) (record {}) (record {})))
starts-modify c past w by s (changes.Rts psn retry rnr_retry reads) met = agrees-present c w (AgreesBy past by (verbs.ModifyQp s (changes.Rts psn retry rnr_retry reads))) (call_of by (verbs.ModifyQp s (changes.Rts psn retry rnr_retry reads))) s _ met.sound met.agree (λ q is name.
    changes-start w (AgreesBy past by (verbs.ModifyQp s (changes.Rts psn retry rnr_retry reads))) (call_of by (verbs.ModifyQp s (changes.Rts psn retry rnr_retry reads))) q (of_change_refusals (modify_refusals c q (changes.Rts psn retry rnr_retry reads)))
    (λ a. (Queue_of q.queue := Present (queue_after_change (changes.Rts psn retry rnr_retry reads) q)) ∷ []) [] (λ r. met.agree)
    (λ fails. rts-starts c past w by s q psn retry rnr_retry reads met is name (rtr-only q.state fails.0)))
starts-modify c past w by s changes.Sqd met = agrees-present c w (AgreesBy past by (verbs.ModifyQp s changes.Sqd)) (call_of by (verbs.ModifyQp s changes.Sqd)) s _ met.sound met.agree (λ q is name.
    changes-start w (AgreesBy past by (verbs.ModifyQp s changes.Sqd)) (call_of by (verbs.ModifyQp s changes.Sqd)) q (of_change_refusals (modify_refusals c q changes.Sqd))
    (λ a. (Queue_of q.queue := Present (queue_after_change changes.Sqd q)) ∷ []) [] (λ r. met.agree)
    (λ fails. still-starts c past w by s changes.Sqd q [] [] met is (λ start posted agree. record { fresh = λ so. absurd (true≢false (sym so)); begun = λ so. begun-same start posted q (queue_after_change changes.Sqd q) refl refl (agree.begun (rts-only q.state fails.0)) }) (record { incarnation = refl; starts = refl; posted = refl }) (record {}) (record {})))
starts-modify c past w by s changes.Resume met = agrees-present c w (AgreesBy past by (verbs.ModifyQp s changes.Resume)) (call_of by (verbs.ModifyQp s changes.Resume)) s _ met.sound met.agree (λ q is name.
    changes-start w (AgreesBy past by (verbs.ModifyQp s changes.Resume)) (call_of by (verbs.ModifyQp s changes.Resume)) q (of_change_refusals (modify_refusals c q changes.Resume))
    (λ a. (Queue_of q.queue := Present (queue_after_change changes.Resume q)) ∷ []) [] (λ r. met.agree)
    (λ fails. still-starts c past w by s changes.Resume q [] [] met is (λ start posted agree. record { fresh = λ so. absurd (true≢false (sym so)); begun = λ so. begun-same start posted q (queue_after_change changes.Resume q) refl refl (agree.begun (sqd-only q.state fails.0)) }) (record { incarnation = refl; starts = refl; posted = refl }) (record {}) (record {})))

-- ---- queue pairs that are made and destroyed

create-starts : (c : Configuration) (past : Past) (w : World) (by : ℕ) (x : Creation) (domain : Domain) (send recv : CompletionQueue) (slot : Option SrqSlot) (number : ℕ) → IsReady c past w
    → AgreesBy past by (verbs.CreateQp x.slot x.send_cq x.recv_cq x.send_depth x.recv_depth x.srq)
    (put_all ((Domain_of x.slot.domain := domain)
    ∷ (Queue_of (queue_of x.slot) := Present (new_queue x (w.queue (queue_of x.slot))))
    ∷ (Mailbox_of (queue_of x.slot) := with_peer (new_queue x (w.queue (queue_of x.slot))).incarnation None (w.mailbox (queue_of x.slot)))
    ∷ (Cq_of (beside x.slot x.send_cq) := Some send)
    ∷ (Cq_of (beside x.slot x.recv_cq) := Some recv)
    ∷ user_updates x slot) w)
    (answer_mark (call_of by (verbs.CreateQp x.slot x.send_cq x.recv_cq x.send_depth x.recv_depth x.srq)) (answers.Queue number (new_queue x (w.queue (queue_of x.slot))).incarnation) ∷ [])
create-starts c past w by x domain send recv slot number met = agree-more r v (user_updates x slot) moved (users x.srq slot)
  where
    place : QueueId
    place = queue_of x.slot

    made : QueuePair
    made = new_queue x (w.queue place)

    r : Past
    r = Behind past by (verbs.CreateQp x.slot x.send_cq x.recv_cq x.send_depth x.recv_depth x.srq) (answers.Queue number made.incarnation)

    v : World
    v = put_all ((Domain_of x.slot.domain := domain) ∷ (Queue_of place := Present made) ∷ (Mailbox_of place := with_peer made.incarnation None (w.mailbox place))
        ∷ (Cq_of (beside x.slot x.send_cq) := Some send) ∷ (Cq_of (beside x.slot x.recv_cq) := Some recv) ∷ []) w

    updates : Option ℕ → Option SrqSlot → List Update
    updates (Some srq) (Some slot) = (Srq_of (beside x.slot srq) := record slot { users = suc slot.users }) ∷ []
    updates srq slot = []

    users : (o : Option ℕ) (t : Option SrqSlot) → AreKept v (updates o t)
    users None t = record {}
    users (Some srq) None = record {}
    users (Some srq) (Some slot) = (record {}, record {})

    moved : AgreeOnStarts r.incarnation r.starts r.posted (with_at queue_eq w.queue place (Present made))
    moved = renewed past r w place (Present made) met.posts met.agree refl refl refl (λ start. record { fresh = λ is. refl; begun = λ is. absurd (true≢false (sym is)) })

pub starts-create : (c : Configuration) (past : Past) (w : World) (by : ℕ) (x : Creation) → IsReady c past w
    → Leads w (AgreesBy past by (verbs.CreateQp x.slot x.send_cq x.recv_cq x.send_depth x.recv_depth x.srq))
    (create_qp_plan c (call_of by (verbs.CreateQp x.slot x.send_cq x.recv_cq x.send_depth x.recv_depth x.srq)) x)
starts-create c past w by x met =
    leads-unless w P ((not (w.domain x.slot.domain).allocated, NoDomain) ∷ (is_present (w.queue place), SlotTaken) ∷ []) (Refuse_plan call)
    (If (has_queues c x) (Look (Cq_of (beside x.slot x.send_cq)) (λ send. Look (Cq_of (beside x.slot x.recv_cq)) (λ recv.
    With_shared x (λ shared. there send recv shared (option_and_then (λ s. s.srq) shared))))) (Refuse_plan call NoSuch)) (λ r. met.agree)
    (λ has. sharing x.srq, λ none. met.agree)
  where
    call : Call
    call = call_of by (verbs.CreateQp x.slot x.send_cq x.recv_cq x.send_depth x.recv_depth x.srq)

    P : World → List Mark → Type 0
    P = AgreesBy past by (verbs.CreateQp x.slot x.send_cq x.recv_cq x.send_depth x.recv_depth x.srq)

    place : QueueId
    place = queue_of x.slot

    q : QueuePair
    q = new_queue x (w.queue place)

    made : CompletionQueue → CompletionQueue → Option SrqSlot → Option SharedReceives → Plan
    made send recv slot shared = Answer_plan call (answers.Queue place.number q.incarnation)
        ((Domain_of x.slot.domain := with_object (w.domain x.slot.domain))
        ∷ (Queue_of place := Present q)
        ∷ (Mailbox_of place := with_peer q.incarnation None (w.mailbox place))
        ∷ (Cq_of (beside x.slot x.send_cq) := Some (send_reserved x send))
        ∷ (Cq_of (beside x.slot x.recv_cq) := Some (after_reserve (receive_reserve x) (receive_room x shared) (before_receives x send recv)))
        ∷ user_updates x slot)
        []

    sized : CompletionQueue → CompletionQueue → Option SrqSlot → Option SharedReceives → Plan
    sized send recv slot shared =
        Unless_plan call ((has_bad_depth x, OutOfRange fields.Depth) ∷ (has_no_room x shared send recv, CqTooSmall) ∷ []) (made send recv slot shared)

    there : Option CompletionQueue → Option CompletionQueue → Option SrqSlot → Option SharedReceives → Plan
    there (Some send) (Some recv) slot shared = If (is_none shared && not (is_none x.srq)) (Refuse_plan call NoSuch) (sized send recv slot shared)
    there send recv slot shared = Refuse_plan call NoSuch

    found-both : (send recv : CompletionQueue) (slot : Option SrqSlot) (shared : Option SharedReceives) → Leads w P (there (Some send) (Some recv) slot shared)
    found-both send recv slot shared = (
      λ missing. met.agree,
      λ there. leads-unless w P ((has_bad_depth x, OutOfRange fields.Depth) ∷ (has_no_room x shared send recv, CqTooSmall) ∷ []) (Refuse_plan call)
          (made send recv slot shared) (λ r. met.agree)
          (create-starts c past w by x (with_object (w.domain x.slot.domain)) (send_reserved x send) (after_reserve (receive_reserve x) (receive_room x shared) (before_receives x send recv)) slot place.number met),
    )

    both : (send recv : Option CompletionQueue) (slot : Option SrqSlot) (shared : Option SharedReceives) → Leads w P (there send recv slot shared)
    both None recv slot shared = met.agree
    both (Some send) None slot shared = met.agree
    both (Some send) (Some recv) slot shared = found-both send recv slot shared

    looking : Option ℕ → Plan
    looking None = there (w.cq (beside x.slot x.send_cq)) (w.cq (beside x.slot x.recv_cq)) None None
    looking (Some srq) = Look (Srq_of (beside x.slot srq)) (λ slot. there (w.cq (beside x.slot x.send_cq)) (w.cq (beside x.slot x.recv_cq)) (Some slot) slot.srq)

    sharing : (o : Option ℕ) → Leads w P (looking o)
    sharing None = both (w.cq (beside x.slot x.send_cq)) (w.cq (beside x.slot x.recv_cq)) None None
    sharing (Some srq) = both (w.cq (beside x.slot x.send_cq)) (w.cq (beside x.slot x.recv_cq)) (Some (w.srq (beside x.slot srq))) (w.srq (beside x.slot srq)).srq

destroy-starts : (c : Configuration) (past : Past) (w : World) (by : ℕ) (s : Slot) (domain : Domain) (q : QueuePair) (a : Around) → IsReady c past w → q.queue ≡ queue_of s
    → AgreesBy past by (verbs.DestroyQp s)
    (put_all ((Domain_of s.domain := domain)
    ∷ (Queue_of q.queue := NoQueue q.incarnation q.requester.timers)
    ∷ (Mailbox_of q.queue := emptied_mailbox q.incarnation (w.mailbox q.queue))
    ∷ (Cq_of (send_cq_of q) := option_map (without_queue q) a.send)
    ∷ (Cq_of (recv_cq_of q) := option_map (without_queue q) a.recv)
    ∷ left_updates q a) w) (answer_mark (call_of by (verbs.DestroyQp s)) answers.Fine ∷ [])
destroy-starts c past w by s domain q a met name =
    agree-more r v (left_updates q a) (subst (λ k. AgreeOnStarts r.incarnation r.starts r.posted (with_at queue_eq w.queue k slot)) (sym name) moved) (left q.srq a.shared)
  where
    place : QueueId
    place = queue_of s

    r : Past
    r = Behind past by (verbs.DestroyQp s) answers.Fine

    slot : QueueSlot
    slot = NoQueue q.incarnation q.requester.timers

    v : World
    v = put_all ((Domain_of s.domain := domain) ∷ (Queue_of q.queue := slot) ∷ (Mailbox_of q.queue := emptied_mailbox q.incarnation (w.mailbox q.queue))
        ∷ (Cq_of (send_cq_of q) := option_map (without_queue q) a.send) ∷ (Cq_of (recv_cq_of q) := option_map (without_queue q) a.recv) ∷ []) w

    updates : Option ℕ → Option SrqSlot → List Update
    updates (Some srq) (Some slot) = (Srq_of (record { domain = q.domain; slot = srq }) := record slot {
      srq = option_map (after_receives_retire (places_held q a)) slot.srq;
      users = slot.users - 1;
    }) ∷ []
    updates srq slot = []

    left : (o : Option ℕ) (t : Option SrqSlot) → AreKept v (updates o t)
    left None t = record {}
    left (Some srq) None = record {}
    left (Some srq) (Some slot) = (record {}, record {})

    moved : AgreeOnStarts r.incarnation r.starts r.posted (with_at queue_eq w.queue place slot)
    moved = replaced past r w place slot met.agree (λ n e. (refl, refl)) (record {})

pub starts-destroy : (c : Configuration) (past : Past) (w : World) (by : ℕ) (s : Slot) → IsReady c past w
    → Leads w (AgreesBy past by (verbs.DestroyQp s)) (destroy_qp_plan (call_of by (verbs.DestroyQp s)) s)
starts-destroy c past w by s met = agrees-present c w P call s _ met.sound met.agree (λ q is name.
    leads-around w P q (λ a. Unless_plan call ((nat_lt 0 q.windows, WindowsBound) ∷ []) (ending q a))
    (leads-unless w P ((nat_lt 0 q.windows, WindowsBound) ∷ []) (Refuse_plan call) (ending q (around_in w q (shared_of w q))) (λ r. met.agree)
    (destroy-starts c past w by s (without_object (w.domain s.domain)) q (around_in w q (shared_of w q)) met name)))
  where
    call : Call
    call = call_of by (verbs.DestroyQp s)

    P : World → List Mark → Type 0
    P = AgreesBy past by (verbs.DestroyQp s)

    ending : QueuePair → Around → Plan
    ending q a = Answer_plan call answers.Fine
        ((Domain_of s.domain := without_object (w.domain s.domain))
        ∷ (Queue_of q.queue := NoQueue q.incarnation q.requester.timers)
        ∷ (Mailbox_of q.queue := emptied_mailbox q.incarnation (w.mailbox q.queue))
        ∷ (Cq_of (send_cq_of q) := option_map (without_queue q) a.send)
        ∷ (Cq_of (recv_cq_of q) := option_map (without_queue q) a.recv)
        ∷ left_updates q a)
        []

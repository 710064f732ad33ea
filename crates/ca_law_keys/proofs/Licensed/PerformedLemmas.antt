-- A requester's turn has its effects as it ends. For proofs only.
use Rattle.std.proofs.Common.{◌≡◌, ℕ, ◌≤◌, ◌==◌, ◌&&◌, ◌||◌, Bool, true, false, if◌then◌else◌, List, [], ◌∷◌, ◌++◌, Option, None, Some, is_some, slice_get, refl, sym, ap, ap₂, subst, ◌∙◌, true≢false}
use Rattle.std.proofs.lemmas.Option.{same_Some}
use Rattle.std.specs.List.{AllByRecursion, list_all, list_any}
use Rattle.std.specs.Option.{option_map_or}
use Rattle.ca_law_endings.proofs.LeadsLemmas.{leads-around, leads-queue}
use Rattle.ca_law_endings.specs.Runs.{Leads}
use Rattle.ca_law_keys.proofs.Keys.KeyTurnLemmas.{found}
use Rattle.ca_law_keys.proofs.Posts.FailureLemmas.{IsSentPacket, failure-none, packet-sent}
use Rattle.ca_law_keys.proofs.Posts.GoingLemmas.{AreKeyless, failure-goes}
use Rattle.ca_law_keys.proofs.Posts.PlaceLemmas.{IsPerformed, performs}
use Rattle.ca_law_keys.proofs.Posts.PostLemmas.{AreNoAnswers, answers-append, keyless-no, leads-ends, no-answers}
use Rattle.ca_law_keys.proofs.Posts.PostFrame.{SamePosts, same-posts}
use Rattle.ca_law_keys.proofs.Posts.PostTurnLemmas.{any-such, Revokes, leads-perform, packet-is, sent-quiet}
use Rattle.ca_law_keys.proofs.Posts.PostMade.{IsNextOperation, IsPosted, next-posted, performed-some, used-none}
use Rattle.ca_law_keys.specs.Posts.{PostsAgree, life}
use Rattle.ca_base.specs.Configuration.{Configuration}
use Rattle.ca_base.specs.declared.completion.Completion.{Completion}
use Rattle.ca_base.specs.declared.completion.WcStatus.TheVariants.{MemoryManagement, Success}
use Rattle.ca_base.specs.declared.correspondent.Correspondent.{Correspondent}
use Rattle.ca_base.specs.declared.lot.Lot.{Lot}
use Rattle.ca_base.specs.declared.refusals.OpRefusal.{OpRefusal}
use Rattle.ca_base.specs.declared.request.SendOp.{SendOp}
use Rattle.ca_base.specs.declared.request.SendOp.TheVariants as ops
use Rattle.ca_base.specs.declared.step.Reason.TheVariants as reasons
use Rattle.ca_base.specs.objects.LocalRequest.{LocalMarks}
use Rattle.ca_base.specs.objects.Mailbox.{Mailbox}
use Rattle.ca_base.specs.objects.QueuePair.{QueuePair, Present}
use Rattle.ca_keys.specs.Equal.{key_eq}
use Rattle.ca_keys.specs.declared.grant.Grant.{Grant}
use Rattle.ca_keys.specs.declared.key.Key.{Key}
use Rattle.ca_keys.specs.declared.names.QueueId.{QueueId}
use Rattle.ca_law_world.proofs.Sound.WorldLemmas.{IsThere, RowDoes, around_in, shared_of}
use Rattle.ca_law_world.proofs.Steady.TurnLemmas.{there-kept}
use Rattle.ca_law_keys.proofs.Posts.GrantLemmas.{both-true}
use Rattle.ca_law_keys.proofs.Licensed.EffectLemmas.{AreOf, IsLeft, all-effective, effective, keyless-of, left-by, of-append}
use Rattle.ca_law_keys.proofs.Licensed.SuccessLemmas.{Effective, revoked-here, sent-of}
use Rattle.ca_model.specs.Licensed.{completion_is_effective, grants_by_performing, invalidation_is_effective, is_effective, is_effective_at_end, is_empty, operation_is_effective}
use Rattle.ca_model.specs.Past.{Past, RevokedKey, after_marks, at_begin, next_operation, operation_performed, posted_at, present_incarnation}
use Rattle.ca_model.specs.declared.event.Event.{Event}
use Rattle.ca_model.specs.declared.event.Event.TheVariants as events
use Rattle.ca_model.specs.declared.mark.Mark.{Mark}
use Rattle.ca_model.specs.declared.mark.Mark.TheVariants as marks
use Rattle.ca_model.specs.machine.Acknowledgements.{failure_effects}
use Rattle.ca_model.specs.machine.Around.{Around, With_around, updates_of}
use Rattle.ca_model.specs.machine.Completions.{bytes_of_success, send_completion, success_marks}
use Rattle.ca_model.specs.machine.LocalOperations.{local_marks, operation_effects}
use Rattle.ca_model.specs.machine.Numbering.{Numbered}
use Rattle.ca_model.specs.machine.Plan.{Finish}
use Rattle.ca_model.specs.machine.Requester.{Performs, RequestTurn, Sends, Waits, packet_row, turn_of}
use Rattle.ca_model.specs.machine.Sound.{IsQueueOf}
use Rattle.ca_model.specs.machine.Turns.{Leave_plan, Request_around, has_room_for, packet_sent, request_plan, sent_marks}
use Rattle.ca_model.specs.machine.World.{Queue_of, World}

-- what grants and ends are performed by, in a requester's turn
grants-end : (r : Past) (name : QueueId) (lot : Lot) → r.at_hand.event ≡ events.Request name lot
    → grants_by_performing r ≡ (is_some (operation_performed r) || (is_empty r.at_hand.granted && is_empty r.at_hand.revoked))
grants-end r name lot is = ap (grants r) is
  where
    grants : Past → Event → Bool
    grants past (events.Request queue lot) = is_some (operation_performed past) || (is_empty past.at_hand.granted && is_empty past.at_hand.revoked)
    grants past event = true

-- a requester's turn that performs no local operation has nothing to effect
still-effective : (past : Past) (w : World) (name : QueueId) (lot : Lot) (q : QueuePair) (v : World) (ms : List Mark) → PostsAgree past w → w.queue q.queue ≡ Present q → AreNoAnswers ms → AreOf q.queue q.sends None ms
    → operation_performed (after_marks ms (at_begin (events.Request name lot) past)) ≡ None → Effective past (events.Request name lot) v ms
still-effective past w name lot q v ms agree is quiet of none =
    effective r (ap (λ o. option_map_or (is_effective r) o true) left.answered) (ap (λ o. option_map_or (operation_is_effective r) o true) none)
    (all-effective start r w q None r.at_hand.completed agree is same (record {}) (left.completed (record {})))
    (grants-end r name lot same.event ∙ ap (λ o. is_some o || (is_empty r.at_hand.granted && is_empty r.at_hand.revoked)) none
    ∙ ap₂ (λ g k. is_empty g && is_empty k) left.granted (left.revoked refl))
  where
    start : Past
    start = at_begin (events.Request name lot) past

    r : Past
    r = after_marks ms start

    left : IsLeft q.queue q.sends None start r
    left = left-by q.queue q.sends None ms of start

    same : SamePosts start r
    same = no-answers ms quiet start start (same-posts start)

-- ---- a local operation that fails

failure-effective : (past : Past) (w : World) (name : QueueId) (lot : Lot) (q : QueuePair) (n : Numbered) (cause : OpRefusal) (v : World) → PostsAgree past w → w.queue q.queue ≡ Present q → q.queue ≡ name
    → q.sends.first ≤ q.requester.oldest → IsPerformed q n → IsNextOperation past q n → Effective past (events.Request name lot) v (failure_effects MemoryManagement (Some cause) q).marks
failure-effective past w name lot q n cause v agree is own low does next = still-effective past w name lot q v ms agree is (keyless-no q.queue q.sends None ms keyless) (keyless-of q.queue q.sends None ms keyless)
    (failure-none past w name lot q n cause agree is own does next)
  where
    ms : List Mark
    ms = (failure_effects MemoryManagement (Some cause) q).marks

    keyless : AreKeyless q.queue q.sends None ms
    keyless = (failure-goes MemoryManagement (Some cause) q refl).marks

-- ---- a local operation that is performed

-- a Local Invalidate that was performed has revoked its key
invalidated : (r : Past) (adapter : ℕ) (op : SendOp) (k : Option Key) → r.at_hand.revoked ≡ option_map_or (λ key. record { adapter = adapter; key = key } ∷ []) k [] → (m : LocalMarks) → m.revoked ≡ k → Revokes op m
    → invalidation_is_effective r adapter op ≡ true
invalidated r adapter (ops.LocalInv key) None is m own revokes = absurd (true≢false (sym (ap is_some (sym own ∙ revokes))))
invalidated r adapter (ops.LocalInv key) (Some k) is m own revokes = ap (list_any (λ (x : RevokedKey). (x.adapter == adapter) && key_eq x.key key)) is ∙ revoked-here adapter k key (same_Some k key (sym own ∙ revokes))
invalidated r adapter (ops.Bind1 window region address length rights) k is m own revokes = refl
invalidated r adapter (ops.Bind2 window region low address length rights) k is m own revokes = refl
invalidated r adapter (ops.FastReg region low buffer address length rights pages) k is m own revokes = refl
invalidated r adapter (ops.Send list) k is m own revokes = refl
invalidated r adapter (ops.SendImm imm list) k is m own revokes = refl
invalidated r adapter (ops.SendInv key list) k is m own revokes = refl
invalidated r adapter (ops.Write address key list) k is m own revokes = refl
invalidated r adapter (ops.WriteImm address key imm list) k is m own revokes = refl
invalidated r adapter (ops.Read address key list) k is m own revokes = refl
invalidated r adapter (ops.CmpSwap address key compare swap list) k is m own revokes = refl
invalidated r adapter (ops.FetchAdd address key add list) k is m own revokes = refl

success-effective : (past : Past) (name : QueueId) (lot : Lot) (q : QueuePair) (n : Numbered) (m : LocalMarks) (v : World) → q.queue ≡ name → IsPerformed q n → IsNextOperation past q n → Revokes n.request.op m
    → Effective past (events.Request name lot) v (local_marks q m ++ success_marks q.queue n.place n.request)
success-effective past name lot q n m v own does next revokes = by m.revoked refl m.granted n.request.signalled (performed-some past name lot q n m next.posted (subst (λ k. next_operation past k ≡ Some next.posted) own next.is))
  where
    revoked : Option Key → List Mark
    revoked o = option_map_or (λ key. marks.Revoked q.queue.adapter key ∷ []) o []

    granted : Option Grant → List Mark
    granted o = option_map_or (λ g. marks.Granted g ∷ []) o []

    done : Bool → List Mark
    done b = if b then success_marks q.queue n.place (record n.request { signalled = true }) else []

    completion : Completion
    completion = send_completion q.queue n.place (record n.request { signalled = true }) Success (bytes_of_success n.request.op)

    after : Option Key → Option Grant → Bool → Past
    after k g b = after_marks ((revoked k ++ granted g) ++ done b) (at_begin (events.Request name lot) past)

    ends : (r : Past) (k : Option Key) → m.revoked ≡ k → r.at_hand.revoked ≡ option_map_or (λ key. record { adapter = q.queue.adapter; key = key } ∷ []) k [] → r.at_hand.answered ≡ None → r.at_hand.event ≡ events.Request name lot
        → r.posted ≡ past.posted → r.incarnation ≡ past.incarnation → operation_performed r ≡ Some next.posted → ((xs : List Completion) → (r.at_hand.completed ≡ xs) × AllByRecursion (λ x. x ≡ completion) xs → is_effective_at_end r ≡ true)
    ends r k was is none event posted incarnation some xs all = effective r (ap (λ o. option_map_or (is_effective r) o true) none)
        (ap (λ o. option_map_or (operation_is_effective r) o true) some ∙ ap (of r) event ∙ ap (λ a. invalidation_is_effective r a next.posted.request.op) (sym (ap (λ (x : QueueId). x.adapter) own)) ∙ gone)
        (ap (list_all (completion_is_effective r)) all.0 ∙ each xs all.1)
        (grants-end r name lot event ∙ ap (λ o. is_some o || (is_empty r.at_hand.granted && is_empty r.at_hand.revoked)) some)
      where
        of : Past → Event → Bool
        of past (events.Request queue lot) = invalidation_is_effective past queue.adapter next.posted.request.op
        of past event = true

        gone : invalidation_is_effective r q.queue.adapter next.posted.request.op ≡ true
        gone = ap (λ x. invalidation_is_effective r q.queue.adapter x.op) next.request ∙ invalidated r q.queue.adapter n.request.op k is m was revokes

        there : posted_at r q.queue n.place ≡ Some next.posted
        there = ap (λ i. slice_get (r.posted (present_incarnation r q.queue)) i) does.item.place
            ∙ ap₂ (λ f i. slice_get (f (life q.queue (i q.queue))) q.requester.next) posted incarnation ∙ next.at

        one : completion_is_effective r completion ≡ true
        one = ap (λ o. option_map_or (λ p. invalidation_is_effective r q.queue.adapter p.request.op) o true) there ∙ gone

        each : (xs : List Completion) → AllByRecursion (λ x. x ≡ completion) xs → list_all (completion_is_effective r) xs ≡ true
        each [] all = refl
        each (x ∷ xs) all = both-true _ _ (ap (completion_is_effective r) all.0 ∙ one) (each xs all.1)

    by : (k : Option Key) → m.revoked ≡ k → (g : Option Grant) (b : Bool) → operation_performed (after k g b) ≡ Some next.posted → is_effective_at_end (after k g b) ≡ true
    by None was None true some = ends (after None None true) None was refl refl refl refl refl some (completion ∷ []) (refl, (refl, record {}))
    by None was None false some = ends (after None None false) None was refl refl refl refl refl some [] (refl, record {})
    by None was (Some g) true some = ends (after None (Some g) true) None was refl refl refl refl refl some (completion ∷ []) (refl, (refl, record {}))
    by None was (Some g) false some = ends (after None (Some g) false) None was refl refl refl refl refl some [] (refl, record {})
    by (Some k) was None true some = ends (after (Some k) None true) (Some k) was refl refl refl refl refl some (completion ∷ []) (refl, (refl, record {}))
    by (Some k) was None false some = ends (after (Some k) None false) (Some k) was refl refl refl refl refl some [] (refl, record {})
    by (Some k) was (Some g) true some = ends (after (Some k) (Some g) true) (Some k) was refl refl refl refl refl some (completion ∷ []) (refl, (refl, record {}))
    by (Some k) was (Some g) false some = ends (after (Some k) (Some g) false) (Some k) was refl refl refl refl refl some [] (refl, record {})

pub effects-request : (c : Configuration) (past : Past) (w : World) (name : QueueId) (lot : Lot) → IsPosted c past w → Leads w (Effective past (events.Request name lot)) (request_plan c name lot)
effects-request c past w name lot up = leads-queue c w P name reasons.State (λ q. With_around q (λ a. Request_around c lot q a q.peer (turn_of q)))
    (λ q is. leads-around w P q (λ a. Request_around c lot q a q.peer (turn_of q)) (by q (found c w name q up.sound is) (named q is) q.peer (turn_of q) refl))
  where
    P : World → List Mark → Type 0
    P = Effective past (events.Request name lot)

    named : (q : QueuePair) → w.queue name ≡ Present q → q.queue ≡ name
    named q is = (subst (IsQueueOf name) is (up.sound.things (Queue_of name))).0

    ends : (q : QueuePair) → IsThere w q → q.queue ≡ name → (n : Numbered) → IsPerformed q n → (after : QueuePair) (m : LocalMarks) (refusal : Option OpRefusal) (v : World) → Revokes n.request.op m
        → P v (operation_effects q n after m refusal).marks
    ends q there own n does after m None v revokes = success-effective past name lot q n m v own does (next-posted past w q n up.agree there.present does) revokes
    ends q there own n does after m (Some cause) v revokes = failure-effective past w name lot q n cause v up.agree there.present own there.sound.requester.finished does (next-posted past w q n up.agree there.present does)

    by : (q : QueuePair) → IsThere w q → q.queue ≡ name → (peer : Option Correspondent) (turn : RequestTurn) → turn_of q ≡ turn → Leads w P (Request_around c lot q (around_in w q (shared_of w q)) peer turn)
    by q there own peer (Waits reason) is = record {}
    by q there own peer (Performs n) is = leads-perform (λ key. Unit {0}) c w P q n (λ e changes writes. Finish (updates_of q (around_in w q (shared_of w q)) e ++ changes) writes e.marks) n.request.op does.local (any-such c w q n.request.op)
        (λ after m refusal cs like revokes gone kept. ends q there own n does after m refusal w revokes)
      where
        does : IsPerformed q n
        does = performs q n (there-kept w q up.steady there) there.sound.requester.begun is
    by q there own None (Sends n) is = record {}
    by q there own (Some peer) (Sends n) is = leads-ends c w P (λ ended. IsSentPacket q peer m lot) (packet_row q (has_room_for q peer m) n) (Leave_plan q a peer m lot) packets.denied packets.allowed
        (λ e i ws sent more. still-effective past w name lot q w (e.marks ++ option_map_or (sent_marks q peer m lot) (packet_sent e) []) up.agree there.present
        (answers-append e.marks (option_map_or (sent_marks q peer m lot) (packet_sent e) []) sent.packet.quiet (sent-quiet q peer m lot (packet_sent e)))
        (of-append q.queue q.sends None e.marks (option_map_or (sent_marks q peer m lot) (packet_sent e) []) (keyless-of q.queue q.sends None e.marks sent.keyless) (sent-of q.queue q.sends None q peer m lot (packet_sent e)))
        (used-none (after_marks (e.marks ++ option_map_or (sent_marks q peer m lot) (packet_sent e) []) (at_begin (events.Request name lot) past)) (sent.packet.used (at_begin (events.Request name lot) past))))
      where
        a : Around
        a = around_in w q (shared_of w q)

        m : Mailbox
        m = w.mailbox peer.queue

        packets : RowDoes (IsSentPacket q peer m lot) (packet_row q (has_room_for q peer m) n)
        packets = packet-sent q peer m lot (has_room_for q peer m) n (packet-is q peer m lot (has_room_for q peer m) n (there-kept w q up.steady there) there.sound.requester.begun is)

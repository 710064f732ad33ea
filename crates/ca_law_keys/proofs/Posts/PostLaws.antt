-- Every event keeps the agreement on posted requests, and so does every history that follows the machine. For proofs only.
use Rattle.std.proofs.Common.{◌≡◌, ℕ, suc, ◌||◌, false, List, [], ◌∷◌, ◌++◌, length, map, take, drop, Option, None, Some, IfSome, is_some, Ok, slice_get, refl, sym, ap, subst, ◌∙◌, true≢false}
use Rattle.std.specs.List.{AllByRecursion}
use Rattle.std.specs.Option.{option_map}
use Rattle.ca_law_endings.proofs.EventFitLemmas.{first-marks}
use Rattle.ca_law_endings.proofs.LeadsLemmas.{comes}
use Rattle.ca_law_endings.proofs.PathLemmas.{marks-append}
use Rattle.ca_law_endings.specs.Agreement.{HoldsAlong}
use Rattle.ca_law_endings.specs.Runs.{Comes}
use Rattle.ca_law_keys.proofs.Posts.PlaceLemmas.{IsPerformed, operations-more, performs, sending-well}
use Rattle.ca_law_keys.proofs.Posts.PostFrame.{Agrees, AreKept, Left, SamePosts, agree-fields, agree-world, hears, kept, kept-world, left-end, left-frame, outside-kept, reads, slot-kept, told-end, unheard-same}
use Rattle.ca_law_keys.proofs.Posts.PostMade.{IsLike, IsNextOperation, IsPosted, IsUsed, Performing, all-taken, arrived-kept, as-left, binder-kept, done-kept, done-like, failed-agrees, flushed-agrees, joined-drawn, joined-plain, more-end, moved-agrees, moves-agree, new-life, next-posted, only, other-end, performed-some, performs-agree, places-kept, row-agrees, row-kept, sent-agrees, sent-used, still-end, turn-kept, used-list, used-none, well-before}
use Rattle.ca_law_keys.specs.Posts.{AgreeInSlot, AgreeOnPosts, AgreeOnSends, PostsAgree, as_posted, life}
use Rattle.ca_base.specs.Configuration.{Configuration}
use Rattle.ca_base.specs.Sight.{bytes_in}
use Rattle.ca_base.specs.declared.change.Change as state_change
use Rattle.ca_base.specs.declared.change.Change.TheVariants as changes
use Rattle.ca_base.specs.declared.change.State.TheVariants as states
use Rattle.ca_base.specs.declared.completion.WcStatus.TheVariants.{LocalProtection, MemoryManagement}
use Rattle.ca_base.specs.declared.lot.Lot.{Lot}
use Rattle.ca_base.specs.declared.refusals.OpRefusal.{OpRefusal}
use Rattle.ca_base.specs.objects.CompletionQueue.{after_puts}
use Rattle.ca_base.specs.objects.Domain.{with_object}
use Rattle.ca_base.specs.objects.LocalRequest.{LocalMarks}
use Rattle.ca_base.specs.objects.QueuePair.{QueuePair, Present, recv_cq_of, send_cq_of}
use Rattle.ca_base.specs.objects.StateTable.{queue_after_change}
use Rattle.ca_base.specs.objects.WorkQueue.{next_place}
use Rattle.ca_law_endings.proofs.Endings.{End, IsAt, IsSo, after, changed, event_of, more, near, packet_of, receiving, row_updates, sending, start, told, turn_marks, turn_updates}
use Rattle.ca_law_endings.proofs.Footprint.{AreOutside, AreUnheard, failure-unheard, flushed-unheard, left-outside, marks-unheard, operation-unheard, quiet, sent-outside, shared-outside, user-outside}
use Rattle.ca_law_endings.proofs.Moves.{Moves}
use Rattle.ca_law_endings.proofs.Operations.{done_by}
use Rattle.ca_law_endings.proofs.Rows.{timeout-moves}
use Rattle.ca_law_endings.proofs.Walk.{walk-event}
use Rattle.ca_keys.specs.Equal.{queue_eq}
use Rattle.ca_keys.specs.Memory.{ByteMap}
use Rattle.ca_keys.specs.Numbers.{queue_of}
use Rattle.ca_keys.specs.declared.names.QueueId.{QueueId}
use Rattle.ca_keys.specs.declared.names.Slot.{Slot}
use Rattle.ca_law_world.proofs.Sound.PlanWalks.{changed_around, shared_beside}
use Rattle.ca_law_world.proofs.Sound.SoundLemmas.{event-sound, opening-sound}
use Rattle.ca_law_world.proofs.Steady.EventLemmas.{event-steady, opening-steady}
use Rattle.ca_law_world.proofs.Steady.TurnLemmas.{there-kept}
use Rattle.ca_law_world.specs.Steady.{IsSteadyWorld}
use Rattle.ca_model.specs.Entries.{EntryValue}
use Rattle.ca_model.specs.Past.{Past, Posted, after_entry, after_marks, at_begin, at_end, correspondent_eq, local_operations, next_operation, opening_past, operation_performed, performed_at_end, present_incarnation, with_at}
use Rattle.ca_model.specs.Requests.{is_local}
use Rattle.ca_model.specs.declared.event.Event.{Event}
use Rattle.ca_model.specs.declared.event.Event.TheVariants as events
use Rattle.ca_model.specs.declared.mark.Mark.{Mark}
use Rattle.ca_model.specs.declared.verb.Verb.TheVariants as verbs
use Rattle.ca_model.specs.machine.Acknowledgements.{failure_effects}
use Rattle.ca_model.specs.machine.Around.{completions_to, updates_of}
use Rattle.ca_model.specs.machine.Completions.{flush_marks}
use Rattle.ca_model.specs.machine.Frame.{Afterwards}
use Rattle.ca_model.specs.machine.LocalOperations.{operation_effects}
use Rattle.ca_model.specs.machine.Numbering.{Numbered}
use Rattle.ca_model.specs.machine.Plan.{Did, NotReady, Outcome, Update, ◌:=◌, Write, put_all, write_all}
use Rattle.ca_model.specs.machine.PostingVerbs.{after_flush, marks_of_flush}
use Rattle.ca_model.specs.machine.QueuePairVerbs.{new_queue}
use Rattle.ca_model.specs.machine.Requester.{denied_list_effects, local_denial, packet_asks}
use Rattle.ca_model.specs.machine.Row.{Effects, unless_none}
use Rattle.ca_model.specs.machine.Run.{Follows, go_on, run_from}
use Rattle.ca_model.specs.machine.Seen.{sight_in, writes_in}
use Rattle.ca_model.specs.machine.Sound.{AreLimited, CanBeMade, IsSettled, IsSoundWorld}
use Rattle.ca_model.specs.machine.Step.{plan, step}
use Rattle.ca_model.specs.machine.Timers.{after_timeout, after_wake}
use Rattle.ca_model.specs.machine.Turns.{packet_sent}
use Rattle.ca_model.specs.machine.World.{World, Cq_of, Domain_of, Queue_of, opening_world}

-- a world that comes up, under limits, and a past that agrees with it
record IsUp (c : Configuration) (past : Past) (w : World) : Type 0 where
  pub limited : AreLimited c
  pub posted : IsPosted c past w

-- ---- a requester's turn

-- one that performed no local operation
still : (past : Past) (w : World) (name : QueueId) (lot : Lot) (us : List Update) (ws : List Write) (ms : List Mark) → PostsAgree past w → AreUnheard hears ms → AreKept w us
    → operation_performed (after_marks ms (at_begin (events.Request name lot) past)) ≡ None → Agrees past (events.Request name lot) (write_all ws (put_all us w)) ms
still past w name lot us ws ms agree un keep none = agree-world left.incarnation left.posted (performed_at_end left) left.drawn w (write_all ws (put_all us w)) (kept-world w us ws keep)
    (agree-fields begin left (performed_at_end left) w same (still-end left name lot same.event none ∙ same.performed) agree)
  where
    begin : Past
    begin = at_begin (events.Request name lot) past

    left : Past
    left = after_marks ms begin

    same : SamePosts begin left
    same = unheard-same ms un begin

-- what was posted to the queue pair of this turn stays; its operations may be one more
turned : (past : Past) (w : World) (name : QueueId) (lot : Lot) (q : QueuePair) (e : Effects) (us : List Update) → PostsAgree past w → q.queue ≡ name → AreUnheard hears e.marks
    → AgreeOnSends (past.posted (present_incarnation past q.queue)) (performed_at_end (after_marks e.marks (at_begin (events.Request name lot) past)) (present_incarnation past q.queue)) e.queue
    → AreKept (put_all ((Queue_of q.queue := Present e.queue) ∷ []) w) us → Agrees past (events.Request name lot) (put_all ((Queue_of q.queue := Present e.queue) ∷ us) w) e.marks
turned past w name lot q e us agree own un here keep = as-left begin left (performed_at_end left) (put_all ((Queue_of q.queue := Present e.queue) ∷ us) w) same (performs-agree past w name q e.queue us (performed_at_end left) agree own
    (λ l other. other-end left name lot l same.event (subst (λ f. correspondent_eq (life name (f name)) l ≡ false) (sym same.incarnation) other) ∙ ap (λ f. f l) same.performed) here keep)
  where
    begin : Past
    begin = at_begin (events.Request name lot) past

    left : Past
    left = after_marks e.marks begin

    same : SamePosts begin left
    same = unheard-same e.marks un begin

-- a local operation ends: it was performed, or it failed and the queue pair is in Error
performed-agrees : (c : Configuration) (past : Past) (w : World) (name : QueueId) (lot : Lot) (q : QueuePair) (n : Numbered) (p : QueuePair) (m : LocalMarks) (r : Option OpRefusal) (cs : List Update) → IsPosted c past w → IsAt w name q
    → IsPerformed q n → IsLike q p → ((x : QueuePair) → AreKept (put_all ((Queue_of q.queue := Present x) ∷ []) w) cs)
    → Agrees past (events.Request name lot) (put_all (updates_of q (near w q) (operation_effects q n p m r) ++ unless_none r cs) w) (operation_effects q n p m r).marks
performed-agrees c past w name lot q n p m None cs up at does like keep = turned past w name lot q e
    ((Cq_of (send_cq_of q) := option_map (after_puts (completions_to q q.send_cq e.marks)) (near w q).send) ∷ (Cq_of (recv_cq_of q) := option_map (after_puts (completions_to q q.recv_cq e.marks)) (near w q).recv) ∷ cs)
    up.agree at.own un (record {
      places = before.places;
      count = ap next_place like.sends ∙ before.count;
      items = subst (λ x. x.items ≡ map as_posted (drop x.first ps)) (sym like.sends) before.items;
      performed = λ well. counted ∙ ap suc (before.performed (sending-well q does.sending)) ∙ sym (operations-more ps q.requester.next next.posted next.at (ap (λ x. is_local x.op) next.request ∙ does.local))
          ∙ ap (λ i. length (local_operations (take (suc i) ps))) (sym does.item.place);
    }) (record {}, (record {}, keep e.queue))
  where
    e : Effects
    e = operation_effects q n p m None

    un : AreUnheard hears e.marks
    un = operation-unheard hears q n p m None (refl, (refl, (refl, record {})))

    left : Past
    left = Performing past name lot q n m

    same : SamePosts (at_begin (events.Request name lot) past) left
    same = unheard-same e.marks un (at_begin (events.Request name lot) past)

    ps : List Posted
    ps = past.posted (present_incarnation past q.queue)

    next : IsNextOperation past q n
    next = next-posted past w q n up.agree at.there.present does

    some : operation_performed left ≡ Some next.posted
    some = performed-some past name lot q n m next.posted (subst (λ k. next_operation past k ≡ Some next.posted) at.own next.is)

    lives : present_incarnation left name ≡ present_incarnation past name
    lives = ap (λ f. life name (f name)) same.incarnation

    counted : performed_at_end left (present_incarnation past q.queue) ≡ suc (past.performed (present_incarnation past q.queue))
    counted = ap (λ k. performed_at_end left (present_incarnation past k)) at.own ∙ ap (performed_at_end left) (sym lives) ∙ more-end left name lot next.posted same.event some
        ∙ ap suc (ap left.performed lives ∙ ap (λ f. f (present_incarnation past name)) same.performed ∙ ap (λ k. past.performed (present_incarnation past k)) (sym at.own))

    before : AgreeOnSends ps (past.performed (present_incarnation past q.queue)) q
    before = subst (AgreeInSlot ps (past.performed (present_incarnation past q.queue))) at.there.present (up.agree.sends q.queue)
performed-agrees c past w name lot q n p m (Some cause) cs up at does like keep = turned past w name lot q e
    ((Cq_of (send_cq_of q) := option_map (after_puts (completions_to q q.send_cq e.marks)) (near w q).send) ∷ (Cq_of (recv_cq_of q) := option_map (after_puts (completions_to q q.recv_cq e.marks)) (near w q).recv) ∷ [])
    up.agree at.own (failure-unheard hears MemoryManagement (Some cause) q refl) (record { places = before.places; count = before.count; items = before.items; performed = λ well. absurd (true≢false well) }) (record {}, (record {}, record {}))
  where
    e : Effects
    e = failure_effects MemoryManagement (Some cause) q

    before : AgreeOnSends (past.posted (present_incarnation past q.queue)) (past.performed (present_incarnation past q.queue)) q
    before = subst (AgreeInSlot (past.posted (present_incarnation past q.queue)) (past.performed (present_incarnation past q.queue))) at.there.present (up.agree.sends q.queue)

-- ---- changes of a queue pair

-- one that leaves what was posted
change-agrees : (c : Configuration) (past : Past) (w : World) (by : ℕ) (s : Slot) (q : QueuePair) (change : state_change.Change) (ms : List Mark) → IsAt w (queue_of s) q → Left (start c w past (End.ModifyQp by s q change)) w
    → ((ps : List Posted) (k : ℕ) → AgreeOnSends ps k q → AgreeOnSends ps k (queue_after_change change q)) → AreOutside reads (changed_around w q (near w q) change) → AreUnheard hears ms
    → PostsAgree (at_end (after_marks ms (start c w past (End.ModifyQp by s q change)))) (after c w (End.ModifyQp by s q change))
change-agrees c past w by s q change ms at left goes out un = kept w (start c w past (End.ModifyQp by s q change)) (changed c w (End.ModifyQp by s q change)) [] ms left
    (slot-kept w q (queue_after_change change q) at.there.present goes, outside-kept w (changed_around w q (near w q) change) out) un

-- ---- every ending

posts-end : (c : Configuration) (past : Past) (w : World) → IsUp c past w → (e : End) → IsSo c w e → Agrees past (event_of e) (after c w e) (told c w e)
posts-end c past w up (End.Refused by (verbs.AllocPd d) r) so = up.posted.agree
posts-end c past w up (End.Refused by verb r) so = up.posted.agree
posts-end c past w up (End.AllocMw by s kind) so = kept w (start c w past (End.AllocMw by s kind)) (changed c w (End.AllocMw by s kind)) [] [] (record {}, up.posted.agree) (record {}, (refl, record {})) (record {})
posts-end c past w up (End.DeallocMw by s None) so = kept w (start c w past (End.DeallocMw by s None)) (changed c w (End.DeallocMw by s None)) [] [] (record {}, up.posted.agree) (record {}, (refl, record {})) (record {})
posts-end c past w up (End.DeallocMw by s (Some b)) so = kept w (start c w past (End.DeallocMw by s (Some b))) (changed c w (End.DeallocMw by s (Some b))) [] (more c w (End.DeallocMw by s (Some b)))
    (record {}, up.posted.agree) (record {}, (refl, (record {}, binder-kept w b.queue))) (refl, record {})
posts-end c past w up (End.CreateQp by x send recv) so = new-life past v (queue_of x.slot) (new_queue x (w.queue (queue_of x.slot))) (drop 2 (changed c w (End.CreateQp by x send recv))) (record { sends = up.posted.agree.sends; later = up.posted.agree.later; drawn = up.posted.agree.drawn })
    (record { places = record {}; count = refl; items = refl; performed = λ well. refl })
    (record {}, (record {}, (record {}, outside-kept (put_all ((Queue_of (queue_of x.slot) := Present (new_queue x (w.queue (queue_of x.slot)))) ∷ []) v) _ (user-outside reads x (shared_beside w x) refl))))
  where
    v : World
    v = put_all ((Domain_of x.slot.domain := with_object (w.domain x.slot.domain)) ∷ []) w
posts-end c past w up (End.ModifyQp by s q changes.Error) so = change-agrees c past w by s q changes.Error (flush_marks q) so.0 (record {}, up.posted.agree)
    (λ ps k. failed-agrees ps k q (queue_after_change changes.Error q) refl refl) (refl, (refl, record {})) (marks-unheard hears c w (End.ModifyQp by s q changes.Error) so refl)
posts-end c past w up (End.ModifyQp by s q changes.Reset) so = subst (λ n. AgreeOnPosts (with_at queue_eq past.incarnation n (suc (past.incarnation n))) past.posted past.performed past.drawn
    (after c w (End.ModifyQp by s q changes.Reset)).queue (after c w (End.ModifyQp by s q changes.Reset)).window) so.0.own
    (new-life past w q.queue (queue_after_change changes.Reset q) (changed_around w q (near w q) changes.Reset) up.posted.agree (record { places = record {}; count = refl; items = refl; performed = λ well. refl })
    (record {}, (record {}, (record {}, outside-kept (put_all ((Queue_of q.queue := Present (queue_after_change changes.Reset q)) ∷ []) w) _ (shared-outside reads q (near w q) _ refl)))))
posts-end c past w up (End.ModifyQp by s q (changes.Rtr peer incarnation psn mtu rnr_code)) so = change-agrees c past w by s q (changes.Rtr peer incarnation psn mtu rnr_code) [] so.0 (record {}, up.posted.agree)
    (λ ps k. moved-agrees ps k q (queue_after_change (changes.Rtr peer incarnation psn mtu rnr_code) q) refl refl (well-before q (states.Init ∷ []) (only states.Init refl) so.1.0)) (refl, record {}) (record {})
posts-end c past w up (End.ModifyQp by s q changes.Init) so = change-agrees c past w by s q changes.Init [] so.0 (record {}, up.posted.agree)
    (λ ps k. moved-agrees ps k q (queue_after_change changes.Init q) refl refl (well-before q (states.Reset ∷ []) (only states.Reset refl) so.1.0)) (record {}) (record {})
posts-end c past w up (End.ModifyQp by s q (changes.Rts psn retry rnr_retry many)) so = change-agrees c past w by s q (changes.Rts psn retry rnr_retry many) [] so.0 (record {}, up.posted.agree)
    (λ ps k. moved-agrees ps k q (queue_after_change (changes.Rts psn retry rnr_retry many) q) refl refl (well-before q (states.Rtr ∷ []) (only states.Rtr refl) so.1.0)) (record {}) (record {})
posts-end c past w up (End.ModifyQp by s q changes.Sqd) so = change-agrees c past w by s q changes.Sqd [] so.0 (record {}, up.posted.agree)
    (λ ps k. moved-agrees ps k q (queue_after_change changes.Sqd q) refl refl (well-before q (states.Rts ∷ []) (only states.Rts refl) so.1.0)) (record {}) (record {})
posts-end c past w up (End.ModifyQp by s q changes.Resume) so = change-agrees c past w by s q changes.Resume [] so.0 (record {}, up.posted.agree)
    (λ ps k. moved-agrees ps k q (queue_after_change changes.Resume q) refl refl (well-before q (states.Sqd ∷ []) (only states.Sqd refl) so.1.0)) (record {}) (record {})
posts-end c past w up (End.DestroyQp by s q) so = kept w (start c w past (End.DestroyQp by s q)) (changed c w (End.DestroyQp by s q)) [] [] (record {}, up.posted.agree)
    (record {}, (λ ps k was. record {}, (record {}, (record {}, (record {}, outside-kept w _ (left-outside reads q (near w q) refl)))))) (record {})
posts-end c past w up (End.PostSend by s request q None) so = told-end (start c w past (End.PostSend by s request q None)) (after c w (End.PostSend by s request q None)) (marks_of_flush (sending w request None q)) (flushed-unheard hears (sending w request None q) refl) (record {}, joined-plain past w (queue_of s) request q up.posted.agree so.0.there.present so.0.own so.0.there.sound.requester.waiting)
posts-end c past w up (End.PostSend by s request q (Some at)) so = told-end (start c w past (End.PostSend by s request q (Some at))) (after c w (End.PostSend by s request q (Some at))) (marks_of_flush (sending w request (Some at) q)) (flushed-unheard hears (sending w request (Some at) q) refl)
    (record {}, joined-drawn c past w s at request q up.limited up.posted.agree so.0.there.present so.0.own so.0.there.sound.requester.waiting so.3 so.1)
posts-end c past w up (End.PostRecv by s request q) so = kept w (start c w past (End.PostRecv by s request q)) (changed c w (End.PostRecv by s request q)) [] (more c w (End.PostRecv by s request q)) (record {}, up.posted.agree)
    (slot-kept w q (after_flush (receiving request q)) so.0.there.present (λ ps k was. flushed-agrees ps k (receiving request q) (record { places = was.places; count = was.count; items = was.items; performed = was.performed })), (record {}, record {}))
    (marks-unheard hears c w (End.PostRecv by s request q) so refl)
posts-end c past w up (End.Poll by s n least cq) so = kept w (start c w past (End.Poll by s n least cq)) (changed c w (End.Poll by s n least cq)) [] [] (record {}, up.posted.agree)
    (record {}, places-kept c w s cq (take n cq.waiting) up.posted.sound (all-taken _ n cq.waiting settled) (take n cq.waiting)) (record {})
  where
    settled : AllByRecursion (λ x. IsSettled s (w.queue x.queue) x) cq.waiting
    settled = subst (λ o. IfSome o (λ v. AllByRecursion (λ x. IsSettled s (w.queue x.queue) x) v.waiting)) so (up.posted.sound.settled s)
posts-end c past w up (End.Inject by name bytes q i e) so = kept w (start c w past (End.Inject by name bytes q i e)) (row_updates c w q i e) (writes_in (sight_in c w) e.writes) (more c w (End.Inject by name bytes q i e)) (record {}, up.posted.agree)
    (arrived-kept c w q i e so.0.there.present (row-agrees (sight_in c w) q i e so.1.ends)) (marks-unheard hears c w (End.Inject by name bytes q i e) so refl)
posts-end c past w up (End.Deliver name index bytes q i e) so = kept w (start c w past (End.Deliver name index bytes q i e)) (changed c w (End.Deliver name index bytes q i e)) (writes_in (sight_in c w) e.writes)
    (more c w (End.Deliver name index bytes q i e)) (record {}, up.posted.agree) (record {}, arrived-kept c w q i e so.0.there.present (row-agrees (sight_in c w) q i e so.2.ends)) (marks-unheard hears c w (End.Deliver name index bytes q i e) so refl)
posts-end c past w up (End.Respond name lot q peer i e) so = kept w (start c w past (End.Respond name lot q peer i e)) (turn_updates c w lot q peer i e) (writes_in (sight_in c w) e.writes) (turn_marks w lot q peer e) (record {}, up.posted.agree)
    (row-kept c w q i e _ (sent-outside reads q peer (w.mailbox peer.queue) lot (packet_sent e) refl) so.0.there.present (row-agrees (sight_in c w) q i e so.2.ends)) (marks-unheard hears c w (End.Respond name lot q peer i e) so refl)
posts-end c past w up (End.Send name lot q peer n) so = still past w name lot (turn_updates c w lot q peer None (packet_of c w q n)) [] (turn_marks w lot q peer (packet_of c w q n)) up.posted.agree
    (marks-unheard hears c w (End.Send name lot q peer n) so refl)
    (row-kept c w q None (packet_of c w q n) _ (sent-outside reads q peer (w.mailbox peer.queue) lot (packet_sent (packet_of c w q n)) refl) so.0.there.present
    (sent-agrees q n (map (bytes_in (sight_in c w)) (packet_asks q n)) (there-kept w q up.posted.steady so.0.there) so.0.there.sound.requester.begun so.2))
    (used-none (after_marks (turn_marks w lot q peer (packet_of c w q n)) begin) (subst IsUsed (sym (marks-append (packet_of c w q n).marks _ begin)) (sent-used q peer (w.mailbox peer.queue) lot _ (after_marks (packet_of c w q n).marks begin))))
  where
    begin : Past
    begin = at_begin (events.Request name lot) past
posts-end c past w up (End.Deny name lot q peer n d) so = still past w name lot (turn_updates c w lot q peer None (denied_list_effects q d)) [] (denied_list_effects q d).marks up.posted.agree
    (marks-unheard hears c w (End.Deny name lot q peer n d) so refl)
    (row-kept c w q None (denied_list_effects q d) [] (record {}) so.0.there.present (moves-agree q (failure_effects LocalProtection None q).queue _ (Moves.Fails LocalProtection None q)))
    (used-none (after_marks failed begin) (ap (λ b. b || is_some (slice_get (after_marks failed begin).at_hand.sent 0)) (used-list failed (failure-unheard hears LocalProtection None q refl) begin refl)))
  where
    failed : List Mark
    failed = (failure_effects LocalProtection None q).marks

    begin : Past
    begin = after_marks (local_denial d ∷ []) (at_begin (events.Request name lot) past)
posts-end c past w up (End.Perform name lot q n) so = performed-agrees c past w name lot q n (done_by c w q n n.request.op).after (done_by c w q n n.request.op).marks (done_by c w q n n.request.op).refusal
    (done_by c w q n n.request.op).changes up.posted so.0 (performs q n (there-kept w q up.posted.steady so.0.there) so.0.there.sound.requester.begun so.1) (done-like c w q n n.request.op)
    (λ x. done-kept c w (put_all ((Queue_of q.queue := Present x) ∷ []) w) q n n.request.op (λ s. refl))
posts-end c past w up (End.Timeout name hasten q silent) so = kept w (start c w past (End.Timeout name hasten q silent)) (updates_of q (near w q) (after_timeout silent q)) [] (after_timeout silent q).marks (record {}, up.posted.agree)
    (turn-kept w q (after_timeout silent q) so.0.there.present (moves-agree q (after_timeout silent q).queue _ (timeout-moves q silent))) (marks-unheard hears c w (End.Timeout name hasten q silent) so refl)
posts-end c past w up (End.RnrWake name q) so = kept w (start c w past (End.RnrWake name q)) (changed c w (End.RnrWake name q)) [] [] (record {}, up.posted.agree)
    (slot-kept w q (after_wake q).queue so.there.present (λ ps k a. record { places = a.places; count = a.count; items = a.items; performed = a.performed }), record {}) (record {})
posts-end c past w up e so = left-end (after_marks (more c w e) (start c w past e)) (after c w e) (quiet Left reads hears left-frame c w past e so refl (record {}, up.posted.agree))

-- ---- events and histories

-- the event's marks leave a past that agrees with the world that it leaves
pub event-posts-agree : (c : Configuration) (past : Past) (w : World) (event : Event) → AreLimited c → IsSoundWorld c w → IsSteadyWorld w → PostsAgree past w
    → Comes (λ v ms. PostsAgree (at_end (after_marks ms (at_begin event past))) v) (step c w event)
event-posts-agree c past w event limited sound steady agree = comes w (Agrees past event) (plan c event)
    (walk-event c w (Agrees past) sound (posts-end c past w (record { limited = limited; posted = record { sound = sound; steady = steady; agree = agree } })) event)

pub opening-posts-agree : (bytes : ByteMap) → PostsAgree (opening_past bytes) (opening_world bytes)
opening-posts-agree bytes = record { sends = λ q. record {}; later = λ q n more. (refl, refl); drawn = λ k is. refl }

along : (c : Configuration) (n : ℕ) (es : List EntryValue) (past : Past) (w : World) → AreLimited c → AllByRecursion (λ e. CanBeMade e.event) es → IsPosted c past w
    → run_from c n w (map (λ e. e.event) es) ≡ Ok (map (λ e. e.marks) es) → HoldsAlong PostsAgree c past w es
along c n [] past w limited made up follows = up.agree
along c n (e ∷ es) past w limited made up follows = (
  up.agree,
  by (step c w e.event) (event-posts-agree c past w e.event limited up.sound up.steady up.agree) (event-sound c e.event w limited up.sound made.0) (event-steady c e.event w up.sound up.steady) follows
      (λ v next told. along c (suc n) es (after_entry e past) v limited made.1 next told),
)
  where
    Rest : Type 0
    Rest = (v : World) → IsPosted c (after_entry e past) v → run_from c (suc n) v (map (λ e. e.event) es) ≡ Ok (map (λ e. e.marks) es) → HoldsAlong PostsAgree c (after_entry e past) v es

    by : (o : Outcome) → Comes (λ v ms. PostsAgree (at_end (after_marks ms (at_begin e.event past))) v) o → Afterwards (IsSoundWorld c) o → Afterwards IsSteadyWorld o
        → go_on n o (λ v. run_from c (suc n) v (map (λ e. e.event) es)) ≡ Ok (e.marks ∷ map (λ e. e.marks) es) → Rest
        → Afterwards (λ v. HoldsAlong PostsAgree c (after_entry e past) v es) o
    by (NotReady reason) agrees sound steady follows rest = record {}
    by (Did v ms) agrees sound steady follows rest = at (first-marks ms e.marks (run_from c (suc n) v (map (λ e. e.event) es)) (map (λ e. e.marks) es) follows)
      where
        at : (ms ≡ e.marks) × (run_from c (suc n) v (map (λ e. e.event) es) ≡ Ok (map (λ e. e.marks) es)) → HoldsAlong PostsAgree c (after_entry e past) v es
        at told = rest v (record { sound = sound; steady = steady; agree = subst (λ xs. PostsAgree (at_end (after_marks xs (at_begin e.event past))) v) told.0 agrees }) told.1

pub posts-along : (c : Configuration) (bytes : ByteMap) (es : List EntryValue) → AreLimited c → AllByRecursion (λ e. CanBeMade e.event) es → Follows c bytes es
    → HoldsAlong PostsAgree c (opening_past bytes) (opening_world bytes) es
posts-along c bytes es limited made follows = along c 0 es (opening_past bytes) (opening_world bytes) limited made
    (record { sound = opening-sound c bytes; steady = opening-steady bytes; agree = opening-posts-agree bytes }) follows

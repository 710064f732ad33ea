-- The verbs on queue pairs, the posts and the polls keep a world sound.
use Rattle.std.proofs.Common.{◌≡◌, ℕ, suc, ◌+◌, ◌-◌, ◌*◌, ◌/◌, ◌≤◌, ◌<◌, nat_lt, arith, Bool, true, false, List, [], ◌∷◌, length, Option, None, Some, IfSome, subst, ◌∙◌, ◌==◌, not, true≢false, if◌then◌else◌, refl}
use Rattle.std.proofs.lemmas.Bool.{eqb-true, ltb-false, not-false, or_parts}
use Rattle.std.specs.Option.{option_and_then, option_map, option_map_or}
use Rattle.ca_base.specs.declared.change.Change as state_change
use Rattle.ca_base.specs.declared.change.Change.TheVariants as changes
use Rattle.ca_base.specs.declared.completion.Completion.{Completion}
use Rattle.ca_base.specs.declared.limits.TheConstants.{MAX_MESSAGE_BYTES, MAX_PIECES, MAX_QPS}
use Rattle.ca_keys.specs.declared.names.QueueId.{QueueId}
use Rattle.ca_keys.specs.declared.names.Slot.{Slot}
use Rattle.ca_base.specs.declared.request.RecvRequest.{RecvRequest}
use Rattle.ca_base.specs.declared.request.SendRequest.{SendRequest}
use Rattle.ca_base.specs.declared.reserve.Reserve.{Reserve}
use Rattle.ca_base.specs.declared.reserve.Reserve.TheVariants.{Sends}
use Rattle.ca_base.specs.Configuration.{Configuration}
use Rattle.ca_keys.specs.Equal.{queue_eq, slot_eq}
use Rattle.ca_keys.specs.Numbers.{queue_of}
use Rattle.ca_base.specs.objects.CompletionQueue.{CompletionQueue, after_puts, after_reserve, without_completions}
use Rattle.ca_base.specs.objects.Domain.{with_object, without_object}
use Rattle.ca_base.specs.objects.Mailbox.{with_peer, without_envelopes}
use Rattle.ca_base.specs.objects.QueuePair.{QueuePair, QueueSlot, NoQueue, Present, in_error, incarnation_of, is_present, timers_of, recv_cq_of, send_cq_of, without_answers}
use Rattle.ca_base.specs.objects.SharedReceives.{SharedReceives, SrqSlot, after_receive_post, after_receives_retire, is_full_of_receives}
use Rattle.ca_base.specs.objects.Slices.{slot_of_queue}
use Rattle.ca_keys.specs.Refusals.{AllFail}
use Rattle.ca_base.specs.declared.change.ModifyRefusal.{ModifyRefusal}
use Rattle.ca_base.specs.objects.StateTable.{is_reset, modify_refusals, queue_after_change}
use Rattle.ca_base.specs.objects.Window.{Window, after_draw, byte_drawn}
use Rattle.ca_base.specs.objects.WorkQueue.{with_item}
use Rattle.ca_base.specs.Grants.{next_low}
use Rattle.ca_model.specs.Past.{with_at}
use Rattle.ca_model.specs.declared.answer.Answer.TheVariants as answers
use Rattle.ca_model.specs.declared.answer.Refusal.TheVariants.{NoSuch, QueueFull, TooLong}
use Rattle.ca_model.specs.declared.mark.Mark.{Mark}
use Rattle.ca_model.specs.Requests.{list_length, list_of}
use Rattle.ca_model.specs.machine.Around.{Around, completions_to, cq_updates, srq_updates}
use Rattle.ca_model.specs.machine.CompletionVerbs.{is_no_depth}
use Rattle.ca_model.specs.machine.Completions.{flush_marks}
use Rattle.ca_model.specs.machine.Plan.{Plan, If, Update, ◌:=◌, put_all, Finish}
use Rattle.ca_model.specs.machine.PostingVerbs.{Posted_send, after_flush, marks_of_flush, post_recv_plan, post_send_plan, post_srq_plan, with_send, post_send_refusals, post_recv_refusals}
use Rattle.ca_model.specs.machine.QueuePairVerbs
use Rattle.ca_model.specs.machine.QueuePairVerbs.{Creation, before_receives, beside, create_qp_plan, destroy_qp_plan, emptied_updates, has_bad_depth, left_updates, modify_qp_plan, new_queue, places_held, query_qp_plan, receive_reserve, receive_room, send_reserved, user_updates, without_queue}
use Rattle.ca_model.specs.machine.VerbAnswers.{Answer_plan, Call, Refuse_plan, of_change_refusals}
use Rattle.ca_model.specs.machine.Row.{queue_and_marks}
use Rattle.ca_model.specs.machine.World.{World, Cq_of, Domain_of, Mailbox_of, Queue_of, Srq_of, Window_of}
use Rattle.ca_model.specs.machine.Invariants.{IsCompletionQueue, IsMailbox, IsQueue, IsSharedReceives}
use Rattle.ca_model.specs.machine.Sound.{AreLimited, AreSettled, IsQueueOf, IsSettled, IsSoundWorld}
use Rattle.ca_law_world.proofs.Sound.EventLemmas.{unchanged}
use Rattle.ca_law_world.proofs.Sound.EngineLemmas.{queue-change, turn-change}
use Rattle.ca_law_world.proofs.Sound.GoodLemmas.{AreSettledMarks, IsLater, error-later, error-queue, flush-settled, later-on, later-same, settled-later, silent-later, silent-queue, taken-same}
use Rattle.ca_law_world.proofs.Sound.OrderLemmas.{silent-order}
use Rattle.ca_law_world.proofs.Sound.ObjectLemmas.{depth-parts, drawn-window, emptied-mailbox, named-mailbox, object-added, object-removed, post-receive, retire-receives}
use Rattle.ca_law_world.proofs.Sound.SettledLemmas.{AllWait, cq-settled, emptied-settled, emptied-waits, made-settled, puts-settled, queue-settled}
use Rattle.ca_law_world.proofs.Sound.VerbLemmas.{IsFlushed, changed-queue, flushed, made-queue, named-peer, posted-receive, posted-send, receive-later, send-later}
use Rattle.ca_law_world.proofs.Sound.WorldLemmas.{AreQuiet, EndsIn, IsGoodChange, IsSoundShared, IsThere, around_in, cq-sound, quiet-good, quiet-settled, quiet-sound, shared_of, sound-shared, srq-quiet}
use Rattle.ca_law_world.proofs.Sound.PlanWalks.{changed_around, created, shared_beside, walk-call, walk-create, walk-destroy, walk-modify, walk-post_send, walk-present}

pub ends-query : (c : Configuration) (w : World) (call : Call) (s : Slot) → IsSoundWorld c w → EndsIn w (IsGoodChange c w) (query_qp_plan call s)
ends-query c w call s sound = walk-present c w (IsGoodChange c w) call s _ sound (unchanged c w sound) (λ q there. unchanged c w sound)

-- a post: the queue pair goes on, and one of its completion queues has what a flush completed
posted-change : (c : Configuration) (w : World) (q p : QueuePair) (k : ℕ) (ms : List Mark) (more : List Update) → IsSoundWorld c w → IsThere w q → IsQueue p → IsLater q p → AreSettledMarks p ms
    → AreQuiet c more → IsGoodChange c w ((Queue_of q.queue := Present p) ∷ (Cq_of (record { domain = q.domain; slot = k }) := option_map (after_puts (completions_to q k ms)) (w.cq (record { domain = q.domain; slot = k }))) ∷ more)
posted-change c w q p k ms more sound there s later settled quiet = record {
  things = ((later.queue, later.domain ∙ there.domain, s), (cq-sound (after_puts (completions_to q k ms)) (w.cq at) (λ v. refl) (sound.things (Cq_of at)), quiet-sound c more quiet));
  settled = quiet-settled c more (put_all ((Queue_of q.queue := Present p) ∷ (Cq_of at := option_map (after_puts (completions_to q k ms)) (w.cq at)) ∷ []) w) quiet
      (cq-settled after w.cq at (option_map (after_puts (completions_to q k ms)) (w.cq at)) moved
      (puts-settled w.queue q p k ms (w.cq at) later settled (moved at)));
}
  where
    at : Slot
    at = record { domain = q.domain; slot = k }

    after : QueueId → QueueSlot
    after = with_at queue_eq w.queue q.queue (Present p)

    moved : AreSettled after w.cq
    moved = queue-settled w.queue w.cq q p q.queue sound.settled there.present later

ends-posted : (c : Configuration) (w : World) (call : Call) (q : QueuePair) (request : SendRequest) (drawn : Option ℕ) (window : Slot) (more : List Update) → IsSoundWorld c w → IsThere w q
    → length (list_of request.op) ≤ MAX_PIECES → AreQuiet c more → EndsIn w (IsGoodChange c w) (Posted_send call q request drawn window more)
ends-posted c w call q request drawn window more sound there few quiet = walk-call w (IsGoodChange c w) call (post_send_refusals request q) (Finish _ [] []) (unchanged c w sound)
    (λ fails. by (flushed posted (posted-send q request drawn there.sound (record { few = few; bytes = ltb-false MAX_MESSAGE_BYTES (list_length (list_of request.op)) fails.1.0 }) fails.1.1.1.0)))
  where
    posted : QueuePair
    posted = with_send request drawn q

    by : IsFlushed posted → IsGoodChange c w ((Queue_of q.queue := Present (after_flush posted))
        ∷ (Cq_of (send_cq_of q) := option_map (after_puts (completions_to q q.send_cq (marks_of_flush posted))) (w.cq (send_cq_of q))) ∷ more)
    by after = posted-change c w q (after_flush posted) q.send_cq (marks_of_flush posted) more sound there after.sound
        (later-on q posted (after_flush posted) (send-later q request drawn) after.later) after.settled quiet

pub ends-post_send : (c : Configuration) (w : World) (call : Call) (s : Slot) (request : SendRequest) → IsSoundWorld c w → length (list_of request.op) ≤ MAX_PIECES
    → EndsIn w (IsGoodChange c w) (post_send_plan call s request)
ends-post_send c w call s request sound few = walk-post_send c w (IsGoodChange c w) call s request sound (unchanged c w sound)
    (λ q there. ends-posted c w call q request None s [] sound there few (record {}))
    (λ q at there. ends-posted c w call q request (byte_drawn (w.window at)) at ((Window_of at := after_draw (w.window at)) ∷ []) sound there few
    ((record {}, (drawn-slot (w.window at) ((w.window at).kind == 1) ∙ (sound.things (Window_of at)).0, drawn-window (w.window at) (sound.things (Window_of at)).1)), record {}))
  where
    drawn-slot : (x : Window) (b : Bool) → (if b then record x { drawn = next_low x.drawn } else x).slot ≡ x.slot
    drawn-slot x true = refl
    drawn-slot x false = refl

pub ends-post_recv : (c : Configuration) (w : World) (call : Call) (s : Slot) (request : RecvRequest) → IsSoundWorld c w → length request.list.items ≤ MAX_PIECES
    → EndsIn w (IsGoodChange c w) (post_recv_plan call s request)
ends-post_recv c w call s request sound few = walk-present c w (IsGoodChange c w) call s _ sound (unchanged c w sound) (λ q there.
    walk-call w (IsGoodChange c w) call (post_recv_refusals request q) (Finish _ [] []) (unchanged c w sound)
    (λ fails. by q there (flushed (posted q) (posted-receive q request there.sound
    (record { few = few; bytes = ltb-false MAX_MESSAGE_BYTES (list_length request.list.items) fails.1.0 }) fails.1.1.1.0))))
  where
    posted : QueuePair → QueuePair
    posted q = record q { receives = option_map (with_item request) q.receives }

    by : (q : QueuePair) → IsThere w q → IsFlushed (posted q) → IsGoodChange c w
        ((Queue_of q.queue := Present (after_flush (posted q)))
        ∷ (Cq_of (recv_cq_of q) := option_map (after_puts (completions_to q q.recv_cq (marks_of_flush (posted q)))) (w.cq (recv_cq_of q))) ∷ [])
    by q there after = posted-change c w q (after_flush (posted q)) q.recv_cq (marks_of_flush (posted q)) [] sound there after.sound
        (later-on q (posted q) (after_flush (posted q)) (receive-later q request) after.later) after.settled (record {})

pub ends-post_srq : (c : Configuration) (w : World) (call : Call) (s : Slot) (request : RecvRequest) → IsSoundWorld c w → length request.list.items ≤ MAX_PIECES
    → EndsIn w (IsGoodChange c w) (post_srq_plan call s request)
ends-post_srq c w call s request sound few = by (w.srq s).srq (sound.things (Srq_of s))
  where
    plan : Option SharedReceives → Plan
    plan None = Refuse_plan call NoSuch
    plan (Some srq) = If (nat_lt MAX_MESSAGE_BYTES (list_length request.list.items)) (Refuse_plan call TooLong) (If (is_full_of_receives srq) (Refuse_plan call QueueFull)
        (Answer_plan call (answers.Posted None) ((Srq_of s := record (w.srq s) { srq = Some (after_receive_post request srq) }) ∷ []) []))

    by : (o : Option SharedReceives) → IfSome o IsSharedReceives → EndsIn w (IsGoodChange c w) (plan o)
    by None one = unchanged c w sound
    by (Some srq) one = (
      λ is. unchanged c w sound,
      λ short. (
        λ is. unchanged c w sound,
        λ free. quiet-good c w _ sound
            ((record {}, post-receive request srq one (record { few = few; bytes = ltb-false MAX_MESSAGE_BYTES (list_length request.list.items) short }) free), record {}),
      ),
    )

-- a change that completes nothing, and leaves what is finished and taken
quiet-later : (q : QueuePair) (change : state_change.Change) → is_reset change ≡ false → IsQueue q → IsLater q (queue_after_change change q)
quiet-later q changes.Reset e s = absurd (true≢false e)
quiet-later q changes.Init e s = record { queue = refl; domain = refl; send_cq = refl; recv_cq = refl; srq = refl; finished = omega arith; taken = taken-same q.receives }
quiet-later q (changes.Rtr peer incarnation psn mtu rnr_code) e s =
    record { queue = refl; domain = refl; send_cq = refl; recv_cq = refl; srq = refl; finished = omega arith; taken = taken-same q.receives }
quiet-later q (changes.Rts psn retry rnr_retry reads) e s =
    record { queue = refl; domain = refl; send_cq = refl; recv_cq = refl; srq = refl; finished = omega arith; taken = taken-same q.receives }
quiet-later q changes.Sqd e s = record { queue = refl; domain = refl; send_cq = refl; recv_cq = refl; srq = refl; finished = omega arith; taken = taken-same q.receives }
quiet-later q changes.Resume e s = record { queue = refl; domain = refl; send_cq = refl; recv_cq = refl; srq = refl; finished = omega arith; taken = taken-same q.receives }
quiet-later q changes.Error e s = silent-later q (in_error q) (error-later q s)

quiet-change : (c : Configuration) (w : World) (q : QueuePair) (change : state_change.Change) (more : List Update) → IsSoundWorld c w → IsThere w q → is_reset change ≡ false
    → IsQueue (queue_after_change change q) → AreQuiet c more → IsGoodChange c w ((Queue_of q.queue := Present (queue_after_change change q)) ∷ more)
quiet-change c w q change more sound there e s quiet = queue-change c w q (queue_after_change change q) more sound there s (quiet-later q change e there.sound) quiet

pub change-fails : (c : Configuration) (q : QueuePair) (change : state_change.Change) → AllFail (of_change_refusals (modify_refusals c q change)) → AllFail (modify_refusals c q change)
change-fails c q change fails = by (modify_refusals c q change) fails
  where
    by : (tests : List (Bool × ModifyRefusal)) → AllFail (of_change_refusals tests) → AllFail tests
    by [] fails = record {}
    by (t ∷ ts) fails = (fails.0, by ts fails.1)

-- the changes of a move to Error: all that is posted completes
error-change : (c : Configuration) (w : World) (q : QueuePair) → IsSoundWorld c w → IsThere w q
    → IsGoodChange c w ((Queue_of q.queue := Present (queue_after_change changes.Error q)) ∷ cq_updates q (around_in w q (shared_of w q)) (flush_marks q))
error-change c w q sound there = by (turn-change c w q (queue_and_marks (queue_after_change changes.Error q) (flush_marks q)) [] sound there (record {
  sound = silent-queue (in_error q) (error-queue q there.sound);
  later = silent-later q (in_error q) (error-later q there.sound);
  settled = settled-later (in_error q) (without_answers (in_error q)) (flush_marks q) (silent-later (in_error q) (in_error q) (later-same (in_error q)))
      (flush-settled q there.sound.requester.finished (omega (arith, there.sound.requester.begun, there.sound.requester.waiting)) there.sound.receives there.sound.taken);
  order = silent-order q there.sound.requester.finished (omega (arith, there.sound.requester.begun, there.sound.requester.waiting)) there.sound.receives there.sound.taken;
}) (record {}))
  where
    by : IsGoodChange c w ((Queue_of q.queue := Present (queue_after_change changes.Error q)) ∷ cq_updates q (around_in w q (shared_of w q)) (flush_marks q))
        → IsGoodChange c w ((Queue_of q.queue := Present (queue_after_change changes.Error q)) ∷ cq_updates q (around_in w q (shared_of w q)) (flush_marks q))
    by good = good

places-keep : (places : List ℕ) (s : SharedReceives) → IsSharedReceives s → IsSharedReceives (after_receives_retire places s)
places-keep places s sound = retire-receives places s sound

-- the changes of a reset: the queue pair is emptied
reset-change : (c : Configuration) (w : World) (q : QueuePair) → IsSoundWorld c w → IsThere w q → IsQueue (queue_after_change changes.Reset q)
    → IsGoodChange c w ((Queue_of q.queue := Present (queue_after_change changes.Reset q))
    ∷ (Mailbox_of q.queue := QueuePairVerbs.emptied_mailbox (queue_after_change changes.Reset q).incarnation (w.mailbox q.queue)) ∷ emptied_updates q (around_in w q (shared_of w q)))
reset-change c w q sound there s = record {
  things = (
    (refl, there.domain, s),
    (
      mailbox,
      (
        cq-sound (without_completions q.queue) (w.cq (send_cq_of q)) (λ v. refl) (sound.things (Cq_of (send_cq_of q))),
        (cq-sound (without_completions q.queue) (w.cq (recv_cq_of q)) (λ v. refl) (sound.things (Cq_of (recv_cq_of q))), quiet-sound c shared shared-quiet),
      ),
    ),
  );
  settled = quiet-settled c shared (put_all ((Queue_of q.queue := Present (queue_after_change changes.Reset q))
      ∷ (Mailbox_of q.queue := QueuePairVerbs.emptied_mailbox (queue_after_change changes.Reset q).incarnation (w.mailbox q.queue))
      ∷ (Cq_of (send_cq_of q) := option_map (without_completions q.queue) (w.cq (send_cq_of q)))
      ∷ (Cq_of (recv_cq_of q) := option_map (without_completions q.queue) (w.cq (recv_cq_of q))) ∷ []) w) shared-quiet
      (emptied-settled w.queue w.cq q (Present (queue_after_change changes.Reset q)) (option_map (without_completions q.queue) (w.cq (send_cq_of q)))
      (option_map (without_completions q.queue) (w.cq (recv_cq_of q))) sound.settled there.present
      (emptied-waits (λ x. IsSettled (send_cq_of q) (w.queue x.queue) x) q.queue (w.cq (send_cq_of q)) (sound.settled (send_cq_of q)))
      (emptied-waits (λ x. IsSettled (recv_cq_of q) (w.queue x.queue) x) q.queue (w.cq (recv_cq_of q)) (sound.settled (recv_cq_of q))));
}
  where
    a : Around
    a = around_in w q (shared_of w q)

    mailbox : IsMailbox (QueuePairVerbs.emptied_mailbox (queue_after_change changes.Reset q).incarnation (w.mailbox q.queue))
    mailbox = named-mailbox (queue_after_change changes.Reset q).incarnation None (without_envelopes (w.mailbox q.queue)) (emptied-mailbox (w.mailbox q.queue))

    shared : List Update
    shared = srq_updates q a (after_receives_retire (places_held q a))

    shared-quiet : AreQuiet c shared
    shared-quiet = srq-quiet c q a (after_receives_retire (places_held q a)) (places-keep (places_held q a)) (sound-shared c w q sound)

pub ends-modify_qp : (c : Configuration) (w : World) (call : Call) (s : Slot) (change : state_change.Change) → IsSoundWorld c w → AreLimited c
    → EndsIn w (IsGoodChange c w) (modify_qp_plan c call s change)
ends-modify_qp c w call s change sound few = walk-modify c w (IsGoodChange c w) call s change sound (unchanged c w sound)
    (λ q there fails. by q there change (changed-queue c change q (named-peer c change q few (change-fails c q change fails)) there.sound (change-fails c q change fails)))
  where
    by : (q : QueuePair) → IsThere w q → (change : state_change.Change) → IsQueue (queue_after_change change q)
        → IsGoodChange c w ((Queue_of q.queue := Present (queue_after_change change q)) ∷ changed_around w q (around_in w q (shared_of w q)) change)
    by q there changes.Error s = error-change c w q sound there
    by q there changes.Reset s = reset-change c w q sound there s
    by q there (changes.Rtr peer incarnation psn mtu rnr_code) s = quiet-change c w q (changes.Rtr peer incarnation psn mtu rnr_code) _ sound there refl s
        ((record {}, named-mailbox q.incarnation (Some (record { queue = peer; incarnation = incarnation })) (w.mailbox q.queue) (sound.things (Mailbox_of q.queue))), record {})
    by q there changes.Init s = quiet-change c w q changes.Init [] sound there refl s (record {})
    by q there (changes.Rts psn retry rnr_retry reads) s = quiet-change c w q (changes.Rts psn retry rnr_retry reads) [] sound there refl s (record {})
    by q there changes.Sqd s = quiet-change c w q changes.Sqd [] sound there refl s (record {})
    by q there changes.Resume s = quiet-change c w q changes.Resume [] sound there refl s (record {})

-- the changes of a destruction: the slot is vacant, and no completion of its queue pair waits
destroy-change : (c : Configuration) (w : World) (s : Slot) (q : QueuePair) → IsSoundWorld c w → IsThere w q
    → IsGoodChange c w ((Domain_of s.domain := without_object (w.domain s.domain))
    ∷ (Queue_of q.queue := NoQueue q.incarnation q.requester.timers)
    ∷ (Mailbox_of q.queue := QueuePairVerbs.emptied_mailbox q.incarnation (w.mailbox q.queue))
    ∷ (Cq_of (send_cq_of q) := option_map (without_queue q) (w.cq (send_cq_of q)))
    ∷ (Cq_of (recv_cq_of q) := option_map (without_queue q) (w.cq (recv_cq_of q)))
    ∷ left_updates q (around_in w q (shared_of w q)))
destroy-change c w s q sound there = record {
  things = (
    object-removed (w.domain s.domain) (sound.things (Domain_of s.domain)),
    (
      record {},
      (
        mailbox,
        (
          cq-sound (without_queue q) (w.cq (send_cq_of q)) (λ v. refl) (sound.things (Cq_of (send_cq_of q))),
          (cq-sound (without_queue q) (w.cq (recv_cq_of q)) (λ v. refl) (sound.things (Cq_of (recv_cq_of q))), quiet-sound c (left_updates q a) left-quiet),
        ),
      ),
    ),
  );
  settled = quiet-settled c (left_updates q a) (put_all ((Domain_of s.domain := without_object (w.domain s.domain))
      ∷ (Queue_of q.queue := NoQueue q.incarnation q.requester.timers)
      ∷ (Mailbox_of q.queue := QueuePairVerbs.emptied_mailbox q.incarnation (w.mailbox q.queue))
      ∷ (Cq_of (send_cq_of q) := option_map (without_queue q) (w.cq (send_cq_of q)))
      ∷ (Cq_of (recv_cq_of q) := option_map (without_queue q) (w.cq (recv_cq_of q))) ∷ []) w) left-quiet
      (emptied-settled w.queue w.cq q (NoQueue q.incarnation q.requester.timers) (option_map (without_queue q) (w.cq (send_cq_of q)))
      (option_map (without_queue q) (w.cq (recv_cq_of q))) sound.settled there.present
      (waits (λ x. IsSettled (send_cq_of q) (w.queue x.queue) x) (w.cq (send_cq_of q)) (sound.settled (send_cq_of q)))
      (waits (λ x. IsSettled (recv_cq_of q) (w.queue x.queue) x) (w.cq (recv_cq_of q)) (sound.settled (recv_cq_of q))));
}
  where
    a : Around
    a = around_in w q (shared_of w q)

    mailbox : IsMailbox (QueuePairVerbs.emptied_mailbox q.incarnation (w.mailbox q.queue))
    mailbox = named-mailbox q.incarnation None (without_envelopes (w.mailbox q.queue)) (emptied-mailbox (w.mailbox q.queue))

    waits : (P : Completion → Type 0) (v : Option CompletionQueue) → AllWait P v → AllWait (λ x. P x × (queue_eq q.queue x.queue ≡ false)) (option_map (without_queue q) v)
    waits P None all = record {}
    waits P (Some v) all = emptied-waits P q.queue (Some v) all

    left : Option ℕ → Option SrqSlot → List Update
    left (Some srq) (Some slot) = (Srq_of (record { domain = q.domain; slot = srq }) := record {
      srq = option_map (after_receives_retire (places_held q a)) slot.srq;
      users = slot.users - 1;
    }) ∷ []
    left srq slot = []

    retired : (o : Option SharedReceives) → IfSome o IsSharedReceives → IfSome (option_map (after_receives_retire (places_held q a)) o) IsSharedReceives
    retired None s = record {}
    retired (Some x) s = places-keep (places_held q a) x s

    by : (o : Option ℕ) (t : Option SrqSlot) → IsSoundShared t → AreQuiet c (left o t)
    by None t s = record {}
    by (Some srq) None s = record {}
    by (Some srq) (Some slot) s = ((record {}, retired slot.srq s), record {})

    left-quiet : AreQuiet c (left_updates q a)
    left-quiet = by q.srq (shared_of w q) (sound-shared c w q sound)

pub ends-destroy_qp : (c : Configuration) (w : World) (call : Call) (s : Slot) → IsSoundWorld c w → EndsIn w (IsGoodChange c w) (destroy_qp_plan call s)
ends-destroy_qp c w call s sound = walk-destroy c w (IsGoodChange c w) call s sound (unchanged c w sound) (λ q there free. destroy-change c w s q sound there)

-- a slot's own name has its domain
slot-domain : (s : Slot) → s.slot < MAX_QPS → s.domain ≡ (slot_of_queue (queue_of s)).domain
slot-domain s few = λ i. record { adapter = s.domain.adapter; domain = number i }
  where
    number : s.domain.domain ≡ ((s.domain.domain + 1) * 256 + s.slot) / 256 - 1
    number = omega (arith, few)

-- a new queue pair in a vacant slot
made-change : (c : Configuration) (w : World) (x : Creation) (send recv : CompletionQueue) (shared : Option SrqSlot) (q : QueuePair) → IsSoundWorld c w
    → (w.domain x.slot.domain).allocated ≡ true → (incarnation timers : ℕ) → w.queue (queue_of x.slot) ≡ NoQueue incarnation timers
    → IsQueueOf (queue_of x.slot) (Present q)
    → w.cq (beside x.slot x.send_cq) ≡ Some send → w.cq (beside x.slot x.recv_cq) ≡ Some recv → IsSoundShared shared
    → IsGoodChange c w ((Domain_of x.slot.domain := with_object (w.domain x.slot.domain))
    ∷ (Queue_of (queue_of x.slot) := Present q)
    ∷ (Mailbox_of (queue_of x.slot) := with_peer q.incarnation None (w.mailbox (queue_of x.slot)))
    ∷ (Cq_of (beside x.slot x.send_cq) := Some (send_reserved x send))
    ∷ (Cq_of (beside x.slot x.recv_cq) := Some (after_reserve (receive_reserve x) (receive_room x (option_and_then (λ s. s.srq) shared)) (before_receives x send recv)))
    ∷ user_updates x shared)
made-change c w x send recv shared q sound allocated incarnation timers vacant made send-is recv-is shared-sound = record {
  things = (
    object-added (w.domain x.slot.domain) allocated,
    (
      made,
      (
        named-mailbox q.incarnation None (w.mailbox (queue_of x.slot)) (sound.things (Mailbox_of (queue_of x.slot))),
        (send-cq, (recv-cq (x.send_cq == x.recv_cq), quiet-sound c (user_updates x shared) users)),
      ),
    ),
  );
  settled = quiet-settled c (user_updates x shared) (put_all ((Domain_of x.slot.domain := with_object (w.domain x.slot.domain))
      ∷ (Queue_of (queue_of x.slot) := Present q)
      ∷ (Mailbox_of (queue_of x.slot) := with_peer q.incarnation None (w.mailbox (queue_of x.slot)))
      ∷ (Cq_of (beside x.slot x.send_cq) := Some (send_reserved x send))
      ∷ (Cq_of (beside x.slot x.recv_cq) := Some (after_reserve (receive_reserve x) room (before_receives x send recv))) ∷ []) w) users
      (cq-settled after (with_at slot_eq w.cq send_slot (Some (send_reserved x send))) recv_slot (Some (after_reserve (receive_reserve x) room (before_receives x send recv)))
      (cq-settled after w.cq send_slot (Some (send_reserved x send)) moved (at send_slot send send-is)) (recv-waits (x.send_cq == x.recv_cq) refl));
}
  where
    send_slot : Slot
    send_slot = beside x.slot x.send_cq

    recv_slot : Slot
    recv_slot = beside x.slot x.recv_cq

    room : ℕ
    room = receive_room x (option_and_then (λ s. s.srq) shared)

    after : QueueId → QueueSlot
    after = with_at queue_eq w.queue (queue_of x.slot) (Present q)

    moved : AreSettled after w.cq
    moved = made-settled w.queue w.cq (queue_of x.slot) incarnation timers (Present q) sound.settled vacant

    at : (s : Slot) (v : CompletionQueue) → w.cq s ≡ Some v → AllWait (λ x. IsSettled s (after x.queue) x) (Some v)
    at s v is = subst (λ o. AllWait (λ x. IsSettled s (after x.queue) x) o) is (moved s)

    ranged : (s : Slot) (v : CompletionQueue) → w.cq s ≡ Some v → IsCompletionQueue v
    ranged s v is = subst (λ o. IfSome o IsCompletionQueue) is (sound.things (Cq_of s))

    reserved : (v : CompletionQueue) (who : Reserve) (n : ℕ) → IsCompletionQueue v → IsCompletionQueue (after_reserve who n v)
    reserved v who n s = record { some = s.some; capacity = s.capacity }

    send-cq : IsCompletionQueue (send_reserved x send)
    send-cq = reserved send (Sends (queue_of x.slot)) x.send_depth (ranged send_slot send send-is)

    recv-cq : (b : Bool) → IsCompletionQueue (after_reserve (receive_reserve x) room (if b then send_reserved x send else recv))
    recv-cq true = reserved (send_reserved x send) (receive_reserve x) room send-cq
    recv-cq false = reserved recv (receive_reserve x) room (ranged recv_slot recv recv-is)

    recv-waits : (b : Bool) → (x.send_cq == x.recv_cq) ≡ b
        → AllWait (λ x. IsSettled recv_slot (after x.queue) x) (Some (after_reserve (receive_reserve x) room (if b then send_reserved x send else recv)))
    recv-waits true e = subst (λ k. AllWait (λ y. IsSettled (beside x.slot k) (after y.queue) y) (Some send)) (eqb-true x.send_cq x.recv_cq e) (at send_slot send send-is)
    recv-waits false e = at recv_slot recv recv-is

    updates : Option ℕ → Option SrqSlot → List Update
    updates (Some srq) (Some slot) = (Srq_of (beside x.slot srq) := record slot { users = suc slot.users }) ∷ []
    updates srq slot = []

    users-by : (o : Option ℕ) (t : Option SrqSlot) → IsSoundShared t → AreQuiet c (updates o t)
    users-by None t s = record {}
    users-by (Some srq) None s = record {}
    users-by (Some srq) (Some slot) s = ((record {}, s), record {})

    users : AreQuiet c (user_updates x shared)
    users = users-by x.srq shared shared-sound

-- the depths of a queue pair that is made
made-depths : (x : Creation) → has_bad_depth x ≡ false → (is_no_depth x.send_depth ≡ false) × (x.srq ≡ None → is_no_depth x.recv_depth ≡ false)
made-depths x e = by (or_parts (is_no_depth x.send_depth) (option_map_or (λ srq. not (x.recv_depth == 0)) x.srq (is_no_depth x.recv_depth)) e)
  where
    by : (is_no_depth x.send_depth ≡ false) × (option_map_or (λ srq. not (x.recv_depth == 0)) x.srq (is_no_depth x.recv_depth) ≡ false)
        → (is_no_depth x.send_depth ≡ false) × (x.srq ≡ None → is_no_depth x.recv_depth ≡ false)
    by parts = (parts.0, λ none. subst (λ o. option_map_or (λ srq. not (x.recv_depth == 0)) o (is_no_depth x.recv_depth) ≡ false) none parts.1)

pub ends-create_qp : (c : Configuration) (w : World) (call : Call) (x : Creation) → IsSoundWorld c w → x.slot.slot < MAX_QPS → EndsIn w (IsGoodChange c w) (create_qp_plan c call x)
ends-create_qp c w call x sound few = walk-create c w (IsGoodChange c w) call x (unchanged c w sound)
    (λ send recv there vacant send-is recv-is depth. by send recv there (vacant-slot (w.queue queue) refl vacant) send-is recv-is (new-sound (w.queue queue) (made-depths x depth)))
  where
    queue : QueueId
    queue = queue_of x.slot

    IsVacant : Type 0
    IsVacant = (incarnation : ℕ) × (timers : ℕ) × (w.queue queue ≡ NoQueue incarnation timers)

    vacant-slot : (s : QueueSlot) → w.queue queue ≡ s → is_present s ≡ false → IsVacant
    vacant-slot (NoQueue incarnation timers) is e = (incarnation, timers, is)
    vacant-slot (Present q) is e = absurd (true≢false e)

    shared : (o : Option ℕ) → IsSoundShared (option_map (λ srq. w.srq (beside x.slot srq)) o)
    shared None = record {}
    shared (Some srq) = sound.things (Srq_of (beside x.slot srq))

    new-sound : (s : QueueSlot) → (is_no_depth x.send_depth ≡ false) × (x.srq ≡ None → is_no_depth x.recv_depth ≡ false) → IsQueueOf queue (Present (new_queue x s))
    new-sound s depths = (refl, slot-domain x.slot few, made-queue queue x.slot.domain (suc (incarnation_of s)) (timers_of s) x.send_cq x.recv_cq x.send_depth x.recv_depth x.srq (depth-parts x.send_depth depths.0) (λ none. depth-parts x.recv_depth (depths.1 none)))

    by : (send recv : CompletionQueue) → not (w.domain x.slot.domain).allocated ≡ false → IsVacant → w.cq (beside x.slot x.send_cq) ≡ Some send → w.cq (beside x.slot x.recv_cq) ≡ Some recv
        → IsQueueOf queue (Present (new_queue x (w.queue queue))) → IsGoodChange c w (created w x send recv (shared_beside w x) (option_and_then (λ s. s.srq) (shared_beside w x)))
    by send recv there vacant send-is recv-is made = made-change c w x send recv (shared_beside w x) (new_queue x (w.queue queue)) sound (not-false (w.domain x.slot.domain).allocated there)
        vacant.0 vacant.1 vacant.2 made send-is recv-is (shared x.srq)

-- The verbs that post requests. Contracts cite it.
use Rattle.std.specs.Prelude.{ℕ, ◌==◌, ◌&&◌, nat_lt, Bool, false, not, if◌then◌else◌, List, [], ◌∷◌, Option, None, Some, is_none}
use Rattle.std.specs.Option.{option_map, option_map_or}
use Rattle.ca_base.specs.declared.change.Field.TheVariants as fields
use Rattle.ca_base.specs.declared.change.State.TheVariants as states
use Rattle.ca_base.specs.declared.limits.TheConstants.{ATOMIC_BYTES, MAX_MESSAGE_BYTES}
use Rattle.ca_keys.specs.declared.names.Slot.{Slot}
use Rattle.ca_base.specs.declared.request.RecvRequest.{RecvRequest}
use Rattle.ca_base.specs.declared.request.SendOp.{SendOp}
use Rattle.ca_base.specs.declared.request.SendOp.TheVariants as ops
use Rattle.ca_base.specs.declared.request.SendRequest.{SendRequest}
use Rattle.ca_keys.specs.Numbers.{key_at, window_index}
use Rattle.ca_base.specs.objects.QueuePair.{QueuePair, Present, recv_cq_of, send_cq_of, with_all_flushed}
use Rattle.ca_base.specs.objects.SharedReceives.{SharedReceives, SrqSlot, after_receive_post, is_full_of_receives}
use Rattle.ca_base.specs.objects.StateTable.{is_among, state_eq}
use Rattle.ca_base.specs.objects.CompletionQueue.{CompletionQueue, after_puts}
use Rattle.ca_base.specs.objects.Window.{Window, after_draw, byte_drawn}
use Rattle.ca_base.specs.objects.WorkQueue.{with_item, is_full}
use Rattle.ca_model.specs.declared.answer.Answer.TheVariants as answers
use Rattle.ca_model.specs.declared.answer.Refusal.{Refusal}
use Rattle.ca_model.specs.declared.answer.Refusal.TheVariants.{HasSrq, NoSuch, OutOfRange, QueueFull, QueueState, TooLong}
use Rattle.ca_model.specs.declared.mark.Mark.{Mark}
use Rattle.ca_model.specs.Requests.{list_length, list_of}
use Rattle.ca_model.specs.machine.Around.{completions_to}
use Rattle.ca_model.specs.machine.Completions.{flush_marks}
use Rattle.ca_model.specs.machine.Numbering.{is_atomic_op}
use Rattle.ca_model.specs.machine.Plan.{Plan, Look, Update, ◌:=◌}
use Rattle.ca_model.specs.machine.QueuePairVerbs.{With_present, beside}
use Rattle.ca_model.specs.machine.VerbAnswers.{Call, Answer_plan, Refuse_plan, Unless_plan}
use Rattle.ca_model.specs.machine.World.{Cq_of, Queue_of, Srq_of, Window_of}

-- why a send request is refused, in order
abbrev pub post_send_refusals : SendRequest → QueuePair → List (Bool × Refusal)
post_send_refusals request q =
    (is_atomic_op request.op && not (list_length (list_of request.op) == ATOMIC_BYTES), OutOfRange fields.List)
    ∷ (nat_lt MAX_MESSAGE_BYTES (list_length (list_of request.op)), TooLong)
    ∷ (not (is_among (states.Rts ∷ states.Sqd ∷ states.Error ∷ []) q.state), QueueState)
    ∷ (is_full q.sends, QueueFull)
    ∷ []

-- a queue pair in Error flushes what is posted at once
abbrev pub after_flush : QueuePair → QueuePair
after_flush q = if state_eq q.state states.Error then with_all_flushed q else q

abbrev pub marks_of_flush : QueuePair → List Mark
marks_of_flush q = if state_eq q.state states.Error then flush_marks q else []

-- a request is posted, with the byte that it drew
abbrev pub with_send : SendRequest → Option ℕ → QueuePair → QueuePair
with_send request drawn q = record q { sends = with_item (record { request = request; drawn = drawn }) q.sends }

-- a request is posted: the queue pair and its completion queue after it
abbrev pub Posted_send : Call → QueuePair → SendRequest → Option ℕ → Slot → List Update → Plan
Posted_send call q request drawn window changes = Look (Cq_of (send_cq_of q)) (λ cq.
    Unless_plan call (post_send_refusals request q)
    (Answer_plan call (answers.Posted (option_map (key_at (window_index window)) drawn))
    ((Queue_of q.queue := Present (after_flush posted))
    ∷ (Cq_of (send_cq_of q) := option_map (after_puts (completions_to q q.send_cq (marks_of_flush posted))) cq)
    ∷ changes)
    (marks_of_flush posted)))
  where
    posted : QueuePair
    posted = with_send request drawn q

-- PostSend: a bind of a type 1 window draws its byte, and answers the key that it will have
abbrev pub post_send_plan : Call → Slot → SendRequest → Plan
post_send_plan call s request = With_present call s (λ q. by q request.op)
  where
    draws : QueuePair → Slot → Window → Plan
    draws q window w =
        Unless_plan call ((w.kind == 0, NoSuch) ∷ [])
        (Posted_send call q request (byte_drawn w) window ((Window_of window := after_draw w) ∷ []))

    by : QueuePair → SendOp → Plan
    by q (ops.Bind1 window region address count rights) = Look (Window_of (beside s window)) (draws q (beside s window))
    by q op = Posted_send call q request None s []

-- why a receive is refused, in order
abbrev pub post_recv_refusals : RecvRequest → QueuePair → List (Bool × Refusal)
post_recv_refusals request q =
    (is_none q.receives, HasSrq)
    ∷ (nat_lt MAX_MESSAGE_BYTES (list_length request.list.items), TooLong)
    ∷ (state_eq q.state states.Reset, QueueState)
    ∷ (option_map_or is_full q.receives false, QueueFull)
    ∷ []

-- PostRecv
abbrev pub post_recv_plan : Call → Slot → RecvRequest → Plan
post_recv_plan call s request = With_present call s (λ q. Look (Cq_of (recv_cq_of q)) (λ cq.
    Unless_plan call (post_recv_refusals request q) (posted cq q (record q { receives = option_map (with_item request) q.receives }))))
  where
    posted : Option CompletionQueue → QueuePair → QueuePair → Plan
    posted cq q after = Answer_plan call (answers.Posted None)
        ((Queue_of q.queue := Present (after_flush after))
        ∷ (Cq_of (recv_cq_of q) := option_map (after_puts (completions_to q q.recv_cq (marks_of_flush after))) cq)
        ∷ [])
        (marks_of_flush after)

-- PostSrq
abbrev pub post_srq_plan : Call → Slot → RecvRequest → Plan
post_srq_plan call s request = Look (Srq_of s) (λ slot. by slot slot.srq)
  where
    by : SrqSlot → Option SharedReceives → Plan
    by slot None = Refuse_plan call NoSuch
    by slot (Some srq) =
        Unless_plan call
        ((nat_lt MAX_MESSAGE_BYTES (list_length request.list.items), TooLong) ∷ (is_full_of_receives srq, QueueFull) ∷ [])
        (Answer_plan call (answers.Posted None)
        ((Srq_of s := record slot { srq = Some (after_receive_post request srq) }) ∷ []) [])

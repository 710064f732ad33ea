-- Each verb with its answers: where it is done, and each refusal in its order, at both edges of each range. For proofs
-- only.
use Rattle.std.proofs.Common.{◌≡◌, ℕ, List, [], ◌∷◌, map, replicate, true, false, Option, None, Some, refl}
use Rattle.ca_base.specs.declared.change.Change.TheVariants as changes
use Rattle.ca_base.specs.declared.change.Field.TheVariants as fields
use Rattle.ca_base.specs.declared.change.State.TheVariants as states
use Rattle.ca_base.specs.declared.completion.Completion.{Completion}
use Rattle.ca_base.specs.declared.completion.WcOp.TheVariants as operations
use Rattle.ca_base.specs.declared.completion.WcStatus.TheVariants as statuses
use Rattle.ca_base.specs.declared.request.SendOp.TheVariants as ops
use Rattle.ca_base.specs.declared.reserve.Reserve.TheVariants as reserves
use Rattle.ca_base.specs.declared.step.Reason.TheVariants as reasons
use Rattle.ca_base.specs.objects.CompletionQueue.{after_puts, after_reserve, empty_cq}
use Rattle.ca_base.specs.objects.WorkQueue.{with_item, empty_queue}
use Rattle.ca_model.specs.declared.answer.Answer.{Answer}
use Rattle.ca_model.specs.declared.answer.Answer.TheVariants as answers
use Rattle.ca_model.specs.declared.answer.Refusal.TheVariants as refusals
use Rattle.ca_model.specs.declared.event.Event.TheVariants as events
use Rattle.ca_model.specs.declared.verb.Verb.TheVariants as verbs
use Rattle.ca_model.specs.machine.Plan.{Outcome, NotReady, Did, put_all, ◌:=◌}
use Rattle.ca_model.specs.machine.Step.{step}
use Rattle.ca_model.specs.machine.World.{Cq_of, World}
use Rattle.ca_wire.specs.Decoding.{packet_in, front_at, bth_at, number_at}
use Rattle.ca_model.proofs.Literals.{completion, d, s, q, k, r}
use Rattle.ca_model.proofs.Machine.AnsweredVerbs.{AnsweredVerb, ◌⟶◌, answer_in, refused}
use Rattle.ca_model.proofs.Machine.Furnished.{pair, furnished, with_queue, all_rights, send_of, add_of, signalled, receive_of, ready, in_state, with_posted, with_received}

-- what an event answers
abbrev answer_of : Outcome → Option Answer
answer_of (NotReady reason) = None
answer_of (Did w ms) = answer_in ms

-- in this world, each verb has its answer
abbrev AnsweredIn : World → List AnsweredVerb → Type 0
AnsweredIn w cases =
    map (λ c. answer_of (step pair w (events.Verb 0 c.verb))) cases ≡ map (λ c. Some c.answer) cases

alloc_pd : AnsweredIn furnished (
    (verbs.AllocPd (d 0 1) ⟶ answers.Fine)
    ∷ (verbs.AllocPd (d 0 2) ⟶ refused refusals.NoSuch)
    ∷ (verbs.AllocPd (d 2 0) ⟶ refused refusals.NoSuch)
    ∷ (verbs.AllocPd (d 0 0) ⟶ refused refusals.DomainTaken)
    ∷ [])
alloc_pd = refl

dealloc_pd : AnsweredIn furnished (
    (verbs.DeallocPd (d 1 0) ⟶ answers.Fine)
    ∷ (verbs.DeallocPd (d 0 2) ⟶ refused refusals.NoSuch)
    ∷ (verbs.DeallocPd (d 0 1) ⟶ refused refusals.NoDomain)
    ∷ (verbs.DeallocPd (d 0 0) ⟶ refused refusals.DomainInUse)
    ∷ [])
dealloc_pd = refl

reg_mr : AnsweredIn furnished (
    (verbs.RegMr (s 0 0 3) 0 4080 16 all_rights ⟶ answers.Key (k 769))
    ∷ (verbs.RegMr (s 0 0 4) 0 0 16 all_rights ⟶ refused refusals.NoSuch)
    ∷ (verbs.RegMr (s 0 1 0) 1 0 16 all_rights ⟶ refused refusals.NoSuch)
    ∷ (verbs.RegMr (s 0 1 0) 0 0 0 all_rights ⟶ refused refusals.NoDomain)
    ∷ (verbs.RegMr (s 0 0 0) 0 0 0 all_rights ⟶ refused refusals.SlotTaken)
    ∷ (verbs.RegMr (s 0 0 3) 0 5000 0 all_rights ⟶ refused refusals.Empty)
    ∷ (verbs.RegMr (s 0 0 3) 0 4081 16 (r false false true false false) ⟶ refused refusals.OutsideBuffer)
    ∷ (verbs.RegMr (s 0 0 3) 0 0 16 (r false false true false false) ⟶ refused refusals.RightsNeedLocalWrite)
    ∷ (verbs.RegMr (s 0 0 3) 0 0 16 (r false false false true false) ⟶ refused refusals.RightsNeedLocalWrite)
    ∷ [])
reg_mr = refl

alloc_mr : AnsweredIn furnished (
    (verbs.AllocMr (s 0 0 3) 1 ⟶ answers.Fine)
    ∷ (verbs.AllocMr (s 0 0 3) 256 ⟶ answers.Fine)
    ∷ (verbs.AllocMr (s 0 0 4) 1 ⟶ refused refusals.NoSuch)
    ∷ (verbs.AllocMr (s 0 1 0) 0 ⟶ refused refusals.NoDomain)
    ∷ (verbs.AllocMr (s 0 0 0) 0 ⟶ refused refusals.SlotTaken)
    ∷ (verbs.AllocMr (s 0 0 3) 0 ⟶ refused (refusals.OutOfRange fields.Pages))
    ∷ (verbs.AllocMr (s 0 0 3) 257 ⟶ refused (refusals.OutOfRange fields.Pages))
    ∷ [])
alloc_mr = refl

dereg_mr : AnsweredIn furnished (
    (verbs.DeregMr (s 0 0 0) ⟶ answers.Fine)
    ∷ (verbs.DeregMr (s 0 0 2) ⟶ answers.Fine)
    ∷ (verbs.DeregMr (s 0 0 4) ⟶ refused refusals.NoSuch)
    ∷ (verbs.DeregMr (s 0 0 3) ⟶ refused refusals.NoSuch)
    ∷ (verbs.DeregMr (s 0 0 1) ⟶ refused refusals.WindowsBound)
    ∷ [])
dereg_mr = refl

alloc_mw : AnsweredIn furnished (
    (verbs.AllocMw (s 0 0 2) 1 ⟶ answers.Fine)
    ∷ (verbs.AllocMw (s 0 0 2) 2 ⟶ answers.Fine)
    ∷ (verbs.AllocMw (s 0 0 4) 1 ⟶ refused refusals.NoSuch)
    ∷ (verbs.AllocMw (s 0 1 0) 3 ⟶ refused refusals.NoDomain)
    ∷ (verbs.AllocMw (s 0 0 0) 3 ⟶ refused refusals.SlotTaken)
    ∷ (verbs.AllocMw (s 0 0 2) 0 ⟶ refused (refusals.OutOfRange fields.Kind))
    ∷ (verbs.AllocMw (s 0 0 2) 3 ⟶ refused (refusals.OutOfRange fields.Kind))
    ∷ [])
alloc_mw = refl

dealloc_mw : AnsweredIn furnished (
    (verbs.DeallocMw (s 0 0 0) ⟶ answers.Fine)
    ∷ (verbs.DeallocMw (s 0 0 4) ⟶ refused refusals.NoSuch)
    ∷ (verbs.DeallocMw (s 0 0 2) ⟶ refused refusals.NoSuch)
    ∷ [])
dealloc_mw = refl

create_cq : AnsweredIn furnished (
    (verbs.CreateCq (s 0 0 2) 1 ⟶ answers.Fine)
    ∷ (verbs.CreateCq (s 0 0 2) 4096 ⟶ answers.Fine)
    ∷ (verbs.CreateCq (s 0 0 4) 1 ⟶ refused refusals.NoSuch)
    ∷ (verbs.CreateCq (s 0 1 0) 0 ⟶ refused refusals.NoDomain)
    ∷ (verbs.CreateCq (s 0 0 0) 0 ⟶ refused refusals.SlotTaken)
    ∷ (verbs.CreateCq (s 0 0 2) 0 ⟶ refused (refusals.OutOfRange fields.Capacity))
    ∷ (verbs.CreateCq (s 0 0 2) 4097 ⟶ refused (refusals.OutOfRange fields.Capacity))
    ∷ [])
create_cq = refl

destroy_cq : AnsweredIn furnished (
    (verbs.DestroyCq (s 0 0 1) ⟶ answers.Fine)
    ∷ (verbs.DestroyCq (s 0 0 4) ⟶ refused refusals.NoSuch)
    ∷ (verbs.DestroyCq (s 0 0 2) ⟶ refused refusals.NoSuch)
    ∷ (verbs.DestroyCq (s 0 0 0) ⟶ refused refusals.CqInUse)
    ∷ [])
destroy_cq = refl

create_srq : AnsweredIn furnished (
    (verbs.CreateSrq (s 0 0 3) 1 ⟶ answers.Fine)
    ∷ (verbs.CreateSrq (s 0 0 3) 256 ⟶ answers.Fine)
    ∷ (verbs.CreateSrq (s 0 0 4) 1 ⟶ refused refusals.NoSuch)
    ∷ (verbs.CreateSrq (s 0 1 0) 0 ⟶ refused refusals.NoDomain)
    ∷ (verbs.CreateSrq (s 0 0 0) 0 ⟶ refused refusals.SlotTaken)
    ∷ (verbs.CreateSrq (s 0 0 3) 0 ⟶ refused (refusals.OutOfRange fields.Depth))
    ∷ (verbs.CreateSrq (s 0 0 3) 257 ⟶ refused (refusals.OutOfRange fields.Depth))
    ∷ [])
create_srq = refl

destroy_srq : AnsweredIn furnished (
    (verbs.DestroySrq (s 0 0 1) ⟶ answers.Fine)
    ∷ (verbs.DestroySrq (s 0 0 4) ⟶ refused refusals.NoSuch)
    ∷ (verbs.DestroySrq (s 0 0 3) ⟶ refused refusals.NoSuch)
    ∷ (verbs.DestroySrq (s 0 0 0) ⟶ refused refusals.SrqInUse)
    ∷ [])
destroy_srq = refl

-- slot, completion queues of sends and receives, depths of both, shared receive queue; the completion queue 1 has room
-- for four
create_qp : AnsweredIn furnished (
    (verbs.CreateQp (s 0 0 3) 1 1 2 2 None ⟶ answers.Queue 259 1)
    ∷ (verbs.CreateQp (s 0 0 3) 1 1 2 0 (Some 1) ⟶ answers.Queue 259 1)
    ∷ (verbs.CreateQp (s 0 0 4) 1 1 1 1 None ⟶ refused refusals.NoSuch)
    ∷ (verbs.CreateQp (s 0 1 0) 9 1 0 1 None ⟶ refused refusals.NoDomain)
    ∷ (verbs.CreateQp (s 0 0 0) 9 1 0 1 None ⟶ refused refusals.SlotTaken)
    ∷ (verbs.CreateQp (s 0 0 3) 9 1 0 1 None ⟶ refused refusals.NoSuch)
    ∷ (verbs.CreateQp (s 0 0 3) 1 9 0 1 None ⟶ refused refusals.NoSuch)
    ∷ (verbs.CreateQp (s 0 0 3) 1 1 0 0 (Some 9) ⟶ refused refusals.NoSuch)
    ∷ (verbs.CreateQp (s 0 0 3) 2 1 0 1 None ⟶ refused refusals.NoSuch)
    ∷ (verbs.CreateQp (s 0 0 3) 1 2 0 1 None ⟶ refused refusals.NoSuch)
    ∷ (verbs.CreateQp (s 0 0 3) 1 1 0 0 (Some 3) ⟶ refused refusals.NoSuch)
    ∷ (verbs.CreateQp (s 0 0 3) 1 1 0 1 None ⟶ refused (refusals.OutOfRange fields.Depth))
    ∷ (verbs.CreateQp (s 0 0 3) 1 1 257 1 None ⟶ refused (refusals.OutOfRange fields.Depth))
    ∷ (verbs.CreateQp (s 0 0 3) 1 1 1 0 None ⟶ refused (refusals.OutOfRange fields.Depth))
    ∷ (verbs.CreateQp (s 0 0 3) 1 1 1 257 None ⟶ refused (refusals.OutOfRange fields.Depth))
    ∷ (verbs.CreateQp (s 0 0 3) 1 1 1 1 (Some 1) ⟶ refused (refusals.OutOfRange fields.Depth))
    ∷ (verbs.CreateQp (s 0 0 3) 1 1 256 256 None ⟶ refused refusals.CqTooSmall)
    ∷ (verbs.CreateQp (s 0 0 3) 1 1 3 2 None ⟶ refused refusals.CqTooSmall)
    ∷ (verbs.CreateQp (s 0 0 3) 1 1 3 0 (Some 1) ⟶ refused refusals.CqTooSmall)
    ∷ [])
create_qp = refl

modify_qp : AnsweredIn furnished (
    (verbs.ModifyQp (s 0 0 0) changes.Sqd ⟶ answers.Fine)
    ∷ (verbs.ModifyQp (s 0 0 0) changes.Error ⟶ answers.Fine)
    ∷ (verbs.ModifyQp (s 0 0 0) changes.Reset ⟶ answers.Fine)
    ∷ (verbs.ModifyQp (s 0 0 4) changes.Sqd ⟶ refused refusals.NoSuch)
    ∷ (verbs.ModifyQp (s 0 0 3) changes.Sqd ⟶ refused refusals.NoSuch)
    ∷ (verbs.ModifyQp (s 0 0 3) changes.Error ⟶ refused refusals.NoSuch)
    ∷ (verbs.ModifyQp (s 0 0 3) changes.Reset ⟶ refused refusals.NoSuch)
    ∷ (verbs.ModifyQp (s 0 0 0) changes.Resume ⟶ refused refusals.Transition)
    ∷ (verbs.ModifyQp (s 0 0 1) changes.Error ⟶ refused refusals.Transition)
    ∷ (verbs.ModifyQp (s 0 0 2) changes.Reset ⟶ refused refusals.WindowsBound)
    ∷ [])
modify_qp = refl

query_qp : AnsweredIn (with_queue (with_posted (signalled (send_of 8)) (with_received (receive_of 8) ready))) (
    (verbs.QueryQp (s 0 0 0) ⟶ answers.Query states.Rts 1 1 1)
    ∷ (verbs.QueryQp (s 0 0 1) ⟶ answers.Query states.Reset 1 0 0)
    ∷ (verbs.QueryQp (s 0 0 4) ⟶ refused refusals.NoSuch)
    ∷ (verbs.QueryQp (s 0 0 3) ⟶ refused refusals.NoSuch)
    ∷ [])
query_qp = refl

destroy_qp : AnsweredIn furnished (
    (verbs.DestroyQp (s 0 0 0) ⟶ answers.Fine)
    ∷ (verbs.DestroyQp (s 0 0 4) ⟶ refused refusals.NoSuch)
    ∷ (verbs.DestroyQp (s 0 0 3) ⟶ refused refusals.NoSuch)
    ∷ (verbs.DestroyQp (s 0 0 2) ⟶ refused refusals.WindowsBound)
    ∷ [])
destroy_qp = refl

-- the queue pair 257 is in Reset
post_send : AnsweredIn furnished (
    (verbs.PostSend (s 0 0 0) (signalled (send_of 1048576)) ⟶ answers.Posted None)
    ∷ (verbs.PostSend (s 0 0 0) (signalled (add_of 8)) ⟶ answers.Posted None)
    ∷ (verbs.PostSend (s 0 0 0) (signalled (ops.Bind1 0 (k 1) 0x100000000 8 all_rights)) ⟶ answers.Posted (Some (k 8388609)))
    ∷ (verbs.PostSend (s 0 0 0) (signalled (ops.Bind1 1 (k 1) 0x100000000 8 all_rights)) ⟶ answers.Posted None)
    ∷ (verbs.PostSend (s 0 0 0) (signalled (ops.Bind2 2 (k 1) 5 0x100000000 8 all_rights)) ⟶ answers.Posted None)
    ∷ (verbs.PostSend (s 0 0 0) (signalled (ops.FastReg 3 5 9 0 8 all_rights (0 ∷ []))) ⟶ answers.Posted None)
    ∷ (verbs.PostSend (s 0 0 4) (signalled (add_of 7)) ⟶ refused refusals.NoSuch)
    ∷ (verbs.PostSend (s 0 0 3) (signalled (add_of 7)) ⟶ refused refusals.NoSuch)
    ∷ (verbs.PostSend (s 0 0 0) (signalled (ops.Bind1 4 (k 1) 0x100000000 8 all_rights)) ⟶ refused refusals.NoSuch)
    ∷ (verbs.PostSend (s 0 0 0) (signalled (ops.Bind1 2 (k 1) 0x100000000 8 all_rights)) ⟶ refused refusals.NoSuch)
    ∷ (verbs.PostSend (s 0 0 0) (signalled (ops.Bind2 4 (k 1) 5 0x100000000 8 all_rights)) ⟶ refused refusals.NoSuch)
    ∷ (verbs.PostSend (s 0 0 0) (signalled (ops.FastReg 4 5 0 0 8 all_rights (0 ∷ []))) ⟶ refused refusals.NoSuch)
    ∷ (verbs.PostSend (s 0 0 1) (signalled (add_of 7)) ⟶ refused (refusals.OutOfRange fields.List))
    ∷ (verbs.PostSend (s 0 0 1) (signalled (add_of 9)) ⟶ refused (refusals.OutOfRange fields.List))
    ∷ (verbs.PostSend (s 0 0 1) (signalled (add_of 1048577)) ⟶ refused (refusals.OutOfRange fields.List))
    ∷ (verbs.PostSend (s 0 0 1) (signalled (send_of 1048577)) ⟶ refused refusals.TooLong)
    ∷ (verbs.PostSend (s 0 0 1) (signalled (send_of 8)) ⟶ refused refusals.QueueState)
    ∷ [])
post_send = refl

-- in Init and Rtr no send may be posted
post_send_in_init : AnsweredIn (with_queue (in_state states.Init)) ((verbs.PostSend (s 0 0 0) (signalled (send_of 8)) ⟶ refused refusals.QueueState) ∷ [])
post_send_in_init = refl

post_send_in_rtr : AnsweredIn (with_queue (in_state states.Rtr)) ((verbs.PostSend (s 0 0 0) (signalled (send_of 8)) ⟶ refused refusals.QueueState) ∷ [])
post_send_in_rtr = refl

post_send_in_sqd : AnsweredIn (with_queue (in_state states.Sqd)) ((verbs.PostSend (s 0 0 0) (signalled (send_of 8)) ⟶ answers.Posted None) ∷ [])
post_send_in_sqd = refl

-- a bind of a type 1 window draws its byte in Error too
post_send_in_error : AnsweredIn (with_queue (in_state states.Error))
    ((verbs.PostSend (s 0 0 0) (signalled (ops.Bind1 0 (k 1) 0x100000000 8 all_rights)) ⟶ answers.Posted (Some (k 8388609))) ∷ [])
post_send_in_error = refl

-- both places are occupied
post_send_to_full : AnsweredIn (with_queue (with_posted (signalled (send_of 8)) (with_posted (signalled (send_of 8)) ready)))
    ((verbs.PostSend (s 0 0 0) (signalled (send_of 8)) ⟶ refused refusals.QueueFull) ∷ [])
post_send_to_full = refl

-- the queue pair 257 has a shared receive queue, and 258 is in Reset
post_recv : AnsweredIn furnished (
    (verbs.PostRecv (s 0 0 0) (receive_of 1048576) ⟶ answers.Posted None)
    ∷ (verbs.PostRecv (s 0 0 4) (receive_of 8) ⟶ refused refusals.NoSuch)
    ∷ (verbs.PostRecv (s 0 0 3) (receive_of 8) ⟶ refused refusals.NoSuch)
    ∷ (verbs.PostRecv (s 0 0 1) (receive_of 1048577) ⟶ refused refusals.HasSrq)
    ∷ (verbs.PostRecv (s 0 0 2) (receive_of 1048577) ⟶ refused refusals.TooLong)
    ∷ (verbs.PostRecv (s 0 0 2) (receive_of 8) ⟶ refused refusals.QueueState)
    ∷ [])
post_recv = refl

post_recv_in_init : AnsweredIn (with_queue (in_state states.Init)) ((verbs.PostRecv (s 0 0 0) (receive_of 8) ⟶ answers.Posted None) ∷ [])
post_recv_in_init = refl

-- both places are occupied
post_recv_to_full : AnsweredIn (with_queue (record ready { receives = Some (with_item (receive_of 8) (with_item (receive_of 8) (empty_queue 2))) }))
    ((verbs.PostRecv (s 0 0 0) (receive_of 8) ⟶ refused refusals.QueueFull) ∷ [])
post_recv_to_full = refl

post_srq : AnsweredIn furnished (
    (verbs.PostSrq (s 0 0 1) (receive_of 1048576) ⟶ answers.Posted None)
    ∷ (verbs.PostSrq (s 0 0 4) (receive_of 8) ⟶ refused refusals.NoSuch)
    ∷ (verbs.PostSrq (s 0 0 3) (receive_of 8) ⟶ refused refusals.NoSuch)
    ∷ (verbs.PostSrq (s 0 0 2) (receive_of 1048577) ⟶ refused refusals.TooLong)
    ∷ (verbs.PostSrq (s 0 0 2) (receive_of 8) ⟶ refused refusals.QueueFull)
    ∷ [])
post_srq = refl

poll : AnsweredIn furnished (
    (verbs.Poll (s 0 0 0) 16 0 ⟶ answers.Polled [])
    ∷ (verbs.Poll (s 0 0 4) 1 0 ⟶ refused refusals.NoSuch)
    ∷ (verbs.Poll (s 0 0 2) 1 0 ⟶ refused refusals.NoSuch)
    ∷ (verbs.Poll (s 0 0 0) 0 0 ⟶ refused (refusals.OutOfRange fields.Length))
    ∷ (verbs.Poll (s 0 0 0) 17 0 ⟶ refused (refusals.OutOfRange fields.Length))
    ∷ (verbs.Poll (s 0 0 0) 17 17 ⟶ refused (refusals.OutOfRange fields.Length))
    ∷ (verbs.Poll (s 0 0 0) 1 2 ⟶ refused (refusals.OutOfRange fields.Length))
    ∷ [])
poll = refl

-- a poll for more than there are is not possible
poll_for_more : step pair furnished (events.Verb 0 (verbs.Poll (s 0 0 0) 1 1)) ≡ NotReady reasons.Empty
poll_for_more = refl

-- two completions of sends wait: a poll takes the oldest first
abbrev sent : ℕ → Completion
sent place = completion (q 0 256) false place 7 operations.Send statuses.Success 0 None None

abbrev waiting : World
waiting = put_all ((Cq_of (s 0 0 0) := Some (after_puts (sent 0 ∷ sent 1 ∷ []) (after_reserve (reserves.Sends (q 0 256)) 2 (empty_cq 16)))) ∷ []) furnished

poll_of_two : AnsweredIn waiting (
    (verbs.Poll (s 0 0 0) 1 1 ⟶ answers.Polled (sent 0 ∷ []))
    ∷ (verbs.Poll (s 0 0 0) 16 2 ⟶ answers.Polled (sent 0 ∷ sent 1 ∷ []))
    ∷ [])
poll_of_two = refl

store : AnsweredIn furnished (
    (verbs.Store 0 0 4094 (1 ∷ 2 ∷ []) ⟶ answers.Fine)
    ∷ (verbs.Store 0 0 0 (replicate 4096 1) ⟶ answers.Fine)
    ∷ (verbs.Store 0 1 0 (1 ∷ []) ⟶ refused refusals.NoSuch)
    ∷ (verbs.Store 2 0 0 (1 ∷ []) ⟶ refused refusals.NoSuch)
    ∷ (verbs.Store 0 0 5000 [] ⟶ refused (refusals.OutOfRange fields.Length))
    ∷ (verbs.Store 0 0 0 (replicate 4097 1) ⟶ refused (refusals.OutOfRange fields.Length))
    ∷ (verbs.Store 0 0 4095 (1 ∷ 2 ∷ []) ⟶ refused refusals.OutsideBuffer)
    ∷ [])
store = refl

load : AnsweredIn furnished (
    (verbs.Load 0 0 4094 2 ⟶ answers.Loaded (0 ∷ 0 ∷ []))
    ∷ (verbs.Load 0 0 0 4096 ⟶ answers.Loaded (replicate 4096 0))
    ∷ (verbs.Load 0 1 0 1 ⟶ refused refusals.NoSuch)
    ∷ (verbs.Load 2 0 0 1 ⟶ refused refusals.NoSuch)
    ∷ (verbs.Load 0 0 5000 0 ⟶ refused (refusals.OutOfRange fields.Length))
    ∷ (verbs.Load 0 0 0 4097 ⟶ refused (refusals.OutOfRange fields.Length))
    ∷ (verbs.Load 0 0 4095 2 ⟶ refused refusals.OutsideBuffer)
    ∷ [])
load = refl

inject : AnsweredIn furnished (
    (verbs.Inject (q 0 256) [] ⟶ answers.Fine)
    ∷ (verbs.Inject (q 0 260) [] ⟶ refused refusals.NoSuch)
    ∷ (verbs.Inject (q 0 255) [] ⟶ refused refusals.NoSuch)
    ∷ (verbs.Inject (q 0 259) [] ⟶ refused refusals.NoSuch)
    ∷ [])
unfolding packet_in front_at bth_at number_at
inject = refl

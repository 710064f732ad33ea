-- What the plan of PostRecv does. For proofs only.
use Rattle.std.proofs.Common.{◌≡◌, ◌∙◌, sym, subst, ap, ℕ, Bool, true, false, List, [], ◌∷◌, Option, None, Some, Ok, nat_lt, is_none, IfSome}
use Rattle.std.specs.Option.{option_map, option_map_or}
use Rattle.ca_keys.specs.Refusals.{first_of}
use Rattle.ca_keys.specs.Numbers.{queue_of}
use Rattle.ca_keys.specs.declared.names.Slot.{Slot}
use Rattle.ca_base.specs.declared.request.RecvRequest.{RecvRequest}
use Rattle.ca_base.specs.objects.CompletionQueue.{CompletionQueue, after_puts}
use Rattle.ca_base.specs.objects.QueuePair.{QueuePair, QueueSlot, NoQueue, Present, recv_cq_of, queue_in}
use Rattle.ca_base.specs.objects.WorkQueue.{is_full}
use Rattle.ca_model.specs.declared.answer.Answer.TheVariants as answers
use Rattle.ca_model.specs.declared.answer.Refusal.{Refusal}
use Rattle.ca_model.specs.declared.answer.Refusal.TheVariants as refusals
use Rattle.ca_model.specs.machine.Around.{completions_to}
use Rattle.ca_model.specs.machine.Frame.{AllPass}
use Rattle.ca_model.specs.machine.Plan.{Did, Look, Plan, perform, touches, ◌:=◌}
use Rattle.ca_model.specs.machine.PostingVerbs.{after_flush, marks_of_flush, post_recv_plan, post_recv_refusals}
use Rattle.ca_model.specs.machine.VerbAnswers.{Answer_plan, Call, Unless_plan, answer_mark}
use Rattle.ca_model.specs.machine.World.{Cq_of, Name, Queue_of, World}
use Rattle.ca_model.specs.Marks.{MarkList}
use Rattle.ca_model.specs.Requests.{list_length}
use Rattle.ca_model.specs.declared.mark.Mark.{Mark}
use Rattle.ca_base.specs.declared.completion.Completion.{Completion}
use Rattle.ca_base.specs.declared.change.State.TheVariants as states
use Rattle.ca_base.specs.declared.limits.TheConstants.{MAX_MESSAGE_BYTES}
use Rattle.ca_base.specs.objects.StateTable.{state_eq}
use Rattle.ca_adapter_parts.specs.HeldView.{Holding, hold}
use Rattle.ca_adapter_acts.specs.Act.{IsAct}
use Rattle.ca_adapter_acts.specs.Room.{FitIn}
use Rattle.ca_adapter_posts.specs.Posting.{FitsReceive, slot_with, with_receive}
use Rattle.ca_adapter_acts.proofs.RefusalLemmas.{unless-passed, unless-refused}
use Rattle.ca_adapter_posts.proofs.PostingLemmas.{absent-performs, last-fails, present-performs}

-- what a receive does at a queue pair that is there, where it is posted
abbrev pub recv_done : Call → RecvRequest → QueuePair → Option CompletionQueue → Plan
recv_done call request q cq = Answer_plan call (answers.Posted None)
    ((Queue_of q.queue := Present (after_flush (with_receive request q)))
    ∷ (Cq_of (recv_cq_of q) := option_map (after_puts (completions_to q q.recv_cq (marks_of_flush (with_receive request q)))) cq)
    ∷ [])
    (marks_of_flush (with_receive request q))

abbrev pub recv_body : Call → RecvRequest → QueuePair → Plan
recv_body call request q = Look (Cq_of (recv_cq_of q)) (λ cq. Unless_plan call (post_recv_refusals request q) (recv_done call request q cq))

pub recv_absent : (w : World) (call : Call) (s : Slot) (request : RecvRequest) (incarnation timers : ℕ) → w.queue (queue_of s) ≡ NoQueue incarnation timers
    → perform w (post_recv_plan call s request) ≡ Did w (answer_mark call (answers.Refused refusals.NoSuch) ∷ [])
recv_absent w call s request incarnation timers is = absent-performs w call s (recv_body call request) incarnation timers is

pub recv_refused : (w : World) (call : Call) (s : Slot) (request : RecvRequest) (q : QueuePair) (r : Refusal) → w.queue (queue_of s) ≡ Present q
    → first_of (post_recv_refusals request q) ≡ Some r
    → perform w (post_recv_plan call s request) ≡ Did w (answer_mark call (answers.Refused r) ∷ [])
recv_refused w call s request q r is first =
    present-performs w call s (recv_body call request) q is
    ∙ unless-refused w call (recv_done call request q (w.cq (recv_cq_of q))) (post_recv_refusals request q) r first

pub recv_held : (has : Name → Bool) (w : World) (call : Call) (s : Slot) (request : RecvRequest) (q : QueuePair) → w.queue (queue_of s) ≡ Present q
    → AllPass has (touches w (post_recv_plan call s request)) → has (Cq_of (recv_cq_of q)) ≡ true
recv_held has w call s request q is all = (rw is at all).1.0

-- how a receive ends that no refusal meets
pub recv_ends : (w : World) (call : Call) (s : Slot) (request : RecvRequest) (q : QueuePair) → w.queue (queue_of s) ≡ Present q
    → first_of (post_recv_refusals request q) ≡ None
    → perform w (post_recv_plan call s request) ≡ perform w (recv_done call request q (w.cq (recv_cq_of q)))
recv_ends w call s request q is first =
    present-performs w call s (recv_body call request) q is
    ∙ unless-passed w call (recv_done call request q (w.cq (recv_cq_of q))) (post_recv_refusals request q) first

-- a receive is posted, and its completions are put: the plan is carried out
pub recv_acts : (h one two : Holding) (call : Call) (s : Slot) (request : RecvRequest) (q : QueuePair) (m : MarkList) (flushed : List Mark) (done : List Completion)
    → h.world.queue (queue_of s) ≡ Present q → q.queue ≡ queue_of s → first_of (post_recv_refusals request q) ≡ None
    → flushed ≡ marks_of_flush (with_receive request q) → done ≡ completions_to q q.recv_cq flushed
    → one ≡ hold h (Queue_of (queue_of s)) (slot_with (λ p. after_flush (with_receive request p)) (h.world.queue (queue_of s)))
    → two ≡ hold one (Cq_of (recv_cq_of q)) (option_map (after_puts done) (one.world.cq (recv_cq_of q)))
    → m.marks ≡ answer_mark call (answers.Posted None) ∷ flushed
    → IsAct (Ok m) (perform h.world (post_recv_plan call s request)) h two
recv_acts h one two call s request q m flushed done is own first flush completes posted put marks =
    subst (λ o. IsAct (Ok m) o h two) (sym (recv_ends h.world call s request q is first)) (marks ∙ ap (λ ms. answer_mark call (answers.Posted None) ∷ ms) flush, world)
  where
    cq : Slot
    cq = recv_cq_of q

    after : QueueSlot
    after = Present (after_flush (with_receive request q))

    world : two ≡ hold (hold h (Queue_of q.queue) after) (Cq_of cq) (option_map (after_puts (completions_to q q.recv_cq (marks_of_flush (with_receive request q)))) (h.world.cq cq))
    world = put
        ∙ ap (λ x. hold x (Cq_of cq) (option_map (after_puts done) (x.world.cq cq))) posted
        ∙ ap (λ o. hold (hold h (Queue_of (queue_of s)) (slot_with (λ p. after_flush (with_receive request p)) o)) (Cq_of cq) (option_map (after_puts done) (h.world.cq cq))) is
        ∙ ap (λ n. hold (hold h (Queue_of n) after) (Cq_of cq) (option_map (after_puts done) (h.world.cq cq))) (sym own)
        ∙ ap (λ cs. hold (hold h (Queue_of q.queue) after) (Cq_of cq) (option_map (after_puts cs) (h.world.cq cq))) (completes ∙ ap (completions_to q q.recv_cq) flush)

-- a receive that is not refused has a place, and what it completes fits
pub recv_has_place : (request : RecvRequest) (q : QueuePair) → first_of (post_recv_refusals request q) ≡ None → option_map_or is_full q.receives false ≡ false
recv_has_place request q first =
    last-fails (is_none q.receives) (nat_lt MAX_MESSAGE_BYTES (list_length request.list.items)) (state_eq q.state states.Reset) (option_map_or is_full q.receives false)
    refusals.HasSrq refusals.TooLong refusals.QueueState refusals.QueueFull first

pub recv_fits : (w : World) (s : Slot) (request : RecvRequest) (q : QueuePair) (flushed : List Mark) (done : List Completion) → w.queue (queue_of s) ≡ Present q
    → IfSome (queue_in (w.queue (queue_of s))) (FitsReceive w request) → first_of (post_recv_refusals request q) ≡ None
    → flushed ≡ marks_of_flush (with_receive request q) → done ≡ completions_to q q.recv_cq flushed
    → FitIn (w.cq (recv_cq_of q)) done
recv_fits w s request q flushed done is fits first flush completes =
    subst (FitIn (w.cq (recv_cq_of q))) (sym (completes ∙ ap (completions_to q q.recv_cq) flush)) (subst (λ o. IfSome (queue_in o) (FitsReceive w request)) is fits first)

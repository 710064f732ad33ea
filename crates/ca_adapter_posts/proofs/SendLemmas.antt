-- What the plan of PostSend does. For proofs only.
use Rattle.std.proofs.Common.{◌≡◌, ◌==◌, ◌∙◌, refl, sym, subst, ap, ℕ, Bool, true, false, List, [], ◌∷◌, Option, None, Some, IfSome, Ok, ◌&&◌, not, nat_lt, if◌then◌else◌, true≢false}
use Rattle.std.specs.Option.{option_map}
use Rattle.ca_keys.specs.Refusals.{first_of}
use Rattle.ca_keys.specs.Numbers.{key_at, queue_of, window_index}
use Rattle.ca_keys.specs.declared.names.Slot.{Slot}
use Rattle.ca_base.specs.declared.request.SendOp.{SendOp}
use Rattle.ca_base.specs.declared.request.SendOp.TheVariants as ops
use Rattle.ca_base.specs.declared.request.SendRequest.{SendRequest}
use Rattle.ca_base.specs.objects.CompletionQueue.{CompletionQueue, after_puts}
use Rattle.ca_base.specs.objects.QueuePair.{QueuePair, NoQueue, Present, send_cq_of, queue_in}
use Rattle.ca_base.specs.objects.Window.{after_draw, byte_drawn}
use Rattle.ca_base.specs.objects.WorkQueue.{is_full}
use Rattle.ca_model.specs.declared.answer.Answer.TheVariants as answers
use Rattle.ca_model.specs.declared.answer.Refusal.{Refusal}
use Rattle.ca_model.specs.declared.answer.Refusal.TheVariants as refusals
use Rattle.ca_model.specs.machine.Around.{completions_to}
use Rattle.ca_model.specs.machine.Frame.{AllPass}
use Rattle.ca_model.specs.machine.Plan.{Did, Look, Plan, Update, perform, touches, ◌:=◌}
use Rattle.ca_model.specs.machine.PostingVerbs.{Posted_send, after_flush, marks_of_flush, post_send_plan, post_send_refusals, with_send}
use Rattle.ca_model.specs.machine.QueuePairVerbs.{With_present}
use Rattle.ca_model.specs.machine.VerbAnswers.{Answer_plan, Call, Unless_plan, answer_mark}
use Rattle.ca_model.specs.machine.World.{Cq_of, Name, Queue_of, Window_of, World}
use Rattle.ca_model.specs.Marks.{MarkList}
use Rattle.ca_model.specs.Requests.{list_length, list_of}
use Rattle.ca_model.specs.declared.mark.Mark.{Mark}
use Rattle.ca_model.specs.machine.Numbering.{is_atomic_op}
use Rattle.ca_base.specs.declared.completion.Completion.{Completion}
use Rattle.ca_base.specs.declared.change.Field.TheVariants as fields
use Rattle.ca_base.specs.declared.change.State.TheVariants as states
use Rattle.ca_base.specs.declared.limits.TheConstants.{ATOMIC_BYTES, MAX_MESSAGE_BYTES}
use Rattle.ca_base.specs.objects.StateTable.{is_among, state_eq}
use Rattle.ca_adapter_parts.specs.HeldView.{Holding, hold}
use Rattle.ca_adapter_acts.specs.Act.{IsAct}
use Rattle.ca_adapter_acts.specs.Room.{FitIn}
use Rattle.ca_adapter_posts.specs.Posting.{FitsSend, slot_with}
use Rattle.ca_adapter_posts.specs.Drawing.{byte_for, is_no_window, key_for, window_of_bind, windows_after, world_after_send}
use Rattle.ca_adapter_acts.proofs.RefusalLemmas.{unless-passed, unless-refused}
use Rattle.ca_adapter_posts.proofs.PostingLemmas.{absent-performs, cq-held-same, last-fails, present-performs, present-touches}

-- what a send request does at a queue pair that is there: it looks at the window whose byte it draws, and is posted
abbrev pub send_body : Call → Slot → SendRequest → Option Slot → QueuePair → Plan
send_body call s request None q = Posted_send call q request None s []
send_body call s request (Some x) q = Look (Window_of x) (λ w.
    Unless_plan call ((w.kind == 0, refusals.NoSuch) ∷ [])
    (Posted_send call q request (byte_drawn w) x ((Window_of x := after_draw w) ∷ [])))

abbrev pub send_done : Call → QueuePair → SendRequest → Option ℕ → Slot → List Update → Option CompletionQueue → Plan
send_done call q request drawn window changes cq = Answer_plan call (answers.Posted (option_map (key_at (window_index window)) drawn))
    ((Queue_of q.queue := Present (after_flush (with_send request drawn q)))
    ∷ (Cq_of (send_cq_of q) := option_map (after_puts (completions_to q q.send_cq (marks_of_flush (with_send request drawn q)))) cq)
    ∷ changes)
    (marks_of_flush (with_send request drawn q))

pub send-plan : (call : Call) (s : Slot) (request : SendRequest) → post_send_plan call s request ≡ With_present call s (send_body call s request (window_of_bind s request.op))
send-plan call s request = by request.op refl
  where
    by : (op : SendOp) → request.op ≡ op → post_send_plan call s request ≡ With_present call s (send_body call s request (window_of_bind s request.op))
    by (ops.Send list) is = rw is refl
    by (ops.SendImm imm list) is = rw is refl
    by (ops.SendInv key list) is = rw is refl
    by (ops.Write address key list) is = rw is refl
    by (ops.WriteImm address key imm list) is = rw is refl
    by (ops.Read address key list) is = rw is refl
    by (ops.CmpSwap address key compare swap list) is = rw is refl
    by (ops.FetchAdd address key add list) is = rw is refl
    by (ops.Bind1 window region address count rights) is = rw is refl
    by (ops.Bind2 window region low address count rights) is = rw is refl
    by (ops.FastReg region low buffer address count rights pages) is = rw is refl
    by (ops.LocalInv key) is = rw is refl

pub send_absent : (w : World) (call : Call) (s : Slot) (request : SendRequest) (incarnation timers : ℕ) → w.queue (queue_of s) ≡ NoQueue incarnation timers
    → perform w (post_send_plan call s request) ≡ Did w (answer_mark call (answers.Refused refusals.NoSuch) ∷ [])
send_absent w call s request incarnation timers is =
    ap (perform w) (send-plan call s request) ∙ absent-performs w call s (send_body call s request (window_of_bind s request.op)) incarnation timers is

send-performs : (w : World) (call : Call) (s : Slot) (request : SendRequest) (q : QueuePair) → w.queue (queue_of s) ≡ Present q
    → perform w (post_send_plan call s request) ≡ perform w (send_body call s request (window_of_bind s request.op) q)
send-performs w call s request q is =
    ap (perform w) (send-plan call s request) ∙ present-performs w call s (send_body call s request (window_of_bind s request.op)) q is

send-touches : (w : World) (call : Call) (s : Slot) (request : SendRequest) (q : QueuePair) → w.queue (queue_of s) ≡ Present q
    → touches w (post_send_plan call s request) ≡ Queue_of (queue_of s) ∷ touches w (send_body call s request (window_of_bind s request.op) q)
send-touches w call s request q is =
    ap (touches w) (send-plan call s request) ∙ present-touches w call s (send_body call s request (window_of_bind s request.op)) q is

pub send_window_held : (has : Name → Bool) (w : World) (call : Call) (s : Slot) (request : SendRequest) (q : QueuePair) → w.queue (queue_of s) ≡ Present q
    → AllPass has (touches w (post_send_plan call s request)) → IfSome (window_of_bind s request.op) (λ x. has (Window_of x) ≡ true)
send_window_held has w call s request q is all = by (window_of_bind s request.op) (subst (AllPass has) (send-touches w call s request q is) all).1
  where
    by : (o : Option Slot) → AllPass has (touches w (send_body call s request o q)) → IfSome o (λ x. has (Window_of x) ≡ true)
    by None all = tt
    by (Some x) all = all.0

pub send_cq_held : (has : Name → Bool) (w : World) (call : Call) (s : Slot) (request : SendRequest) (q : QueuePair) → w.queue (queue_of s) ≡ Present q
    → is_no_window w (window_of_bind s request.op) ≡ false
    → AllPass has (touches w (post_send_plan call s request)) → has (Cq_of (send_cq_of q)) ≡ true
send_cq_held has w call s request q is there all = by (window_of_bind s request.op) there (subst (AllPass has) (send-touches w call s request q is) all).1
  where
    by : (o : Option Slot) → is_no_window w o ≡ false → AllPass has (touches w (send_body call s request o q)) → has (Cq_of (send_cq_of q)) ≡ true
    by None there all = all.0
    by (Some x) there all = (rw there at all.1).0

pub send_no_window : (w : World) (call : Call) (s : Slot) (request : SendRequest) (q : QueuePair) → w.queue (queue_of s) ≡ Present q
    → is_no_window w (window_of_bind s request.op) ≡ true
    → perform w (post_send_plan call s request) ≡ Did w (answer_mark call (answers.Refused refusals.NoSuch) ∷ [])
send_no_window w call s request q is none = send-performs w call s request q is ∙ by (window_of_bind s request.op) none
  where
    by : (o : Option Slot) → is_no_window w o ≡ true → perform w (send_body call s request o q) ≡ Did w (answer_mark call (answers.Refused refusals.NoSuch) ∷ [])
    by None none = absurd (true≢false (sym none))
    by (Some x) none = rw none refl

-- how a send request ends that no refusal meets
abbrev pub send_end : World → Call → Slot → SendRequest → QueuePair → Option Slot → Plan
send_end w call s request q None = send_done call q request None s [] (w.cq (send_cq_of q))
send_end w call s request q (Some x) =
    send_done call q request (byte_drawn (w.window x)) x ((Window_of x := after_draw (w.window x)) ∷ []) (w.cq (send_cq_of q))

send-body-performs : (w : World) (call : Call) (s : Slot) (request : SendRequest) (q : QueuePair) (o : Option Slot) → is_no_window w o ≡ false
    → perform w (send_body call s request o q) ≡ perform w (Unless_plan call (post_send_refusals request q) (send_end w call s request q o))
send-body-performs w call s request q None there = refl
send-body-performs w call s request q (Some x) there =
    ap (λ b. if b then Did w (answer_mark call (answers.Refused refusals.NoSuch) ∷ [])
    else perform w (Unless_plan call (post_send_refusals request q) (send_end w call s request q (Some x)))) there

pub send_refused : (w : World) (call : Call) (s : Slot) (request : SendRequest) (q : QueuePair) (r : Refusal) → w.queue (queue_of s) ≡ Present q
    → is_no_window w (window_of_bind s request.op) ≡ false → first_of (post_send_refusals request q) ≡ Some r
    → perform w (post_send_plan call s request) ≡ Did w (answer_mark call (answers.Refused r) ∷ [])
send_refused w call s request q r is there first =
    send-performs w call s request q is
    ∙ send-body-performs w call s request q (window_of_bind s request.op) there
    ∙ unless-refused w call (send_end w call s request q (window_of_bind s request.op)) (post_send_refusals request q) r first

-- where none does
pub send_ends : (w : World) (call : Call) (s : Slot) (request : SendRequest) (q : QueuePair) (o : Option Slot) → w.queue (queue_of s) ≡ Present q
    → o ≡ window_of_bind s request.op → is_no_window w o ≡ false → first_of (post_send_refusals request q) ≡ None
    → perform w (post_send_plan call s request) ≡ perform w (send_end w call s request q o)
send_ends w call s request q o is window there first =
    send-performs w call s request q is
    ∙ ap (λ x. perform w (send_body call s request x q)) (sym window)
    ∙ send-body-performs w call s request q o there
    ∙ unless-passed w call (send_end w call s request q o) (post_send_refusals request q) first

-- what is held, with another queue pair and another completion queue, after the draw
abbrev pub after_send : Holding → QueuePair → QueuePair → Option CompletionQueue → Option Slot → Holding
after_send h q after cq window = record h { world = world_after_send h.world q after cq window }

send-end-acts : (h two : Holding) (call : Call) (s : Slot) (request : SendRequest) (q : QueuePair) (m : MarkList) (o : Option Slot)
    → two ≡ after_send h q (after_flush (with_send request (byte_for h.world o) q))
    (option_map (after_puts (completions_to q q.send_cq (marks_of_flush (with_send request (byte_for h.world o) q)))) (h.world.cq (send_cq_of q))) o
    → m.marks ≡ answer_mark call (answers.Posted (key_for o (byte_for h.world o))) ∷ marks_of_flush (with_send request (byte_for h.world o) q)
    → IsAct (Ok m) (perform h.world (send_end h.world call s request q o)) h two
send-end-acts h two call s request q m None world marks = (marks, world)
send-end-acts h two call s request q m (Some x) world marks = (marks, world)

-- the byte is drawn, the request posted, and its completions are put: the plan is carried out
pub send_acts : (h drawn one two : Holding) (call : Call) (s : Slot) (request : SendRequest) (q : QueuePair) (m : MarkList) (flushed : List Mark) (done : List Completion) (o : Option Slot) (byte : Option ℕ)
    → h.world.queue (queue_of s) ≡ Present q → q.queue ≡ queue_of s → o ≡ window_of_bind s request.op → is_no_window h.world o ≡ false
    → first_of (post_send_refusals request q) ≡ None
    → byte ≡ byte_for h.world o
    → flushed ≡ marks_of_flush (with_send request (byte_for h.world o) q) → done ≡ completions_to q q.send_cq flushed
    → drawn ≡ record h { world = record h.world { window = windows_after h.world o } }
    → one ≡ hold drawn (Queue_of (queue_of s)) (slot_with (λ p. after_flush (with_send request byte p)) (drawn.world.queue (queue_of s)))
    → two ≡ hold one (Cq_of (send_cq_of q)) (option_map (after_puts done) (one.world.cq (send_cq_of q)))
    → m.marks ≡ answer_mark call (answers.Posted (key_for o byte)) ∷ flushed
    → IsAct (Ok m) (perform h.world (post_send_plan call s request)) h two
send_acts h drawn one two call s request q m flushed done o byte is own window there first drew flush completes draws posted put marks =
    subst (λ x. IsAct (Ok m) x h two) (sym (send_ends h.world call s request q o is window there first)) (send-end-acts h two call s request q m o world
    (marks ∙ ap (λ b. answer_mark call (answers.Posted (key_for o b)) ∷ flushed) drew ∙ ap (λ ms. answer_mark call (answers.Posted (key_for o (byte_for h.world o))) ∷ ms) flush))
  where
    cq : Slot
    cq = send_cq_of q

    after : Option ℕ → QueuePair → QueuePair
    after b p = after_flush (with_send request b p)

    moved : Holding
    moved = record h { world = record h.world { window = windows_after h.world o } }

    world : two ≡ after_send h q (after (byte_for h.world o) q)
        (option_map (after_puts (completions_to q q.send_cq (marks_of_flush (with_send request (byte_for h.world o) q)))) (h.world.cq cq)) o
    world = put
        ∙ ap (λ x. hold x (Cq_of cq) (option_map (after_puts done) (x.world.cq cq))) posted
        ∙ ap (λ x. hold (hold x (Queue_of (queue_of s)) (slot_with (after byte) (x.world.queue (queue_of s)))) (Cq_of cq) (option_map (after_puts done) (x.world.cq cq))) draws
        ∙ ap (λ p. hold (hold moved (Queue_of (queue_of s)) (slot_with (after byte) p)) (Cq_of cq) (option_map (after_puts done) (h.world.cq cq))) is
        ∙ ap (λ n. hold (hold moved (Queue_of n) (Present (after byte q))) (Cq_of cq) (option_map (after_puts done) (h.world.cq cq))) (sym own)
        ∙ ap (λ b. hold (hold moved (Queue_of q.queue) (Present (after b q))) (Cq_of cq) (option_map (after_puts done) (h.world.cq cq))) drew
        ∙ ap (λ cs. hold (hold moved (Queue_of q.queue) (Present (after (byte_for h.world o) q))) (Cq_of cq) (option_map (after_puts cs) (h.world.cq cq))) (completes ∙ ap (completions_to q q.send_cq) flush)

-- where no byte is drawn and nothing is flushed, the request is posted, and that is all
pub send_quietly_acts : (h new : Holding) (call : Call) (s : Slot) (request : SendRequest) (q : QueuePair) (m : MarkList)
    → h.world.queue (queue_of s) ≡ Present q → q.queue ≡ queue_of s → window_of_bind s request.op ≡ None
    → first_of (post_send_refusals request q) ≡ None → state_eq q.state states.Error ≡ false
    → new ≡ hold h (Queue_of (queue_of s)) (slot_with (λ p. after_flush (with_send request None p)) (h.world.queue (queue_of s)))
    → m.marks ≡ answer_mark call (answers.Posted None) ∷ []
    → IsAct (Ok m) (perform h.world (post_send_plan call s request)) h new
send_quietly_acts h new call s request q m is own window first quiet posted marks =
    send_acts h h new new call s request q m [] [] None None is own (sym window) refl first refl flush refl refl posted
    (sym (cq-held-same new (send_cq_of q))) marks
  where
    flush : [] ≡ marks_of_flush (with_send request None q)
    flush = rw quiet refl

-- a send request that is not refused has a place, and what it completes fits
pub send_has_place : (request : SendRequest) (q : QueuePair) → first_of (post_send_refusals request q) ≡ None → is_full q.sends ≡ false
send_has_place request q first =
    last-fails (is_atomic_op request.op && not (list_length (list_of request.op) == ATOMIC_BYTES)) (nat_lt MAX_MESSAGE_BYTES (list_length (list_of request.op)))
    (not (is_among (states.Rts ∷ states.Sqd ∷ states.Error ∷ []) q.state)) (is_full q.sends)
    (refusals.OutOfRange fields.List) refusals.TooLong refusals.QueueState refusals.QueueFull first

pub send_fits : (w : World) (s : Slot) (request : SendRequest) (q : QueuePair) (flushed : List Mark) (done : List Completion) → w.queue (queue_of s) ≡ Present q
    → IfSome (queue_in (w.queue (queue_of s))) (FitsSend w s request) → is_no_window w (window_of_bind s request.op) ≡ false → first_of (post_send_refusals request q) ≡ None
    → flushed ≡ marks_of_flush (with_send request (byte_for w (window_of_bind s request.op)) q) → done ≡ completions_to q q.send_cq flushed
    → FitIn (w.cq (send_cq_of q)) done
send_fits w s request q flushed done is fits there first flush completes =
    subst (FitIn (w.cq (send_cq_of q))) (sym (completes ∙ ap (completions_to q q.send_cq) flush)) (subst (λ o. IfSome (queue_in o) (FitsSend w s request)) is fits there first)

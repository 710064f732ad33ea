-- How queue pairs go on by verbs: what is posted to them, the changes of their states, and a window that leaves them. For
-- proofs only.
use Rattle.std.proofs.Common.{◌≡◌, ℕ, suc, ◌-◌, ◌≤◌, ◌==◌, Bool, true, false, if◌then◌else◌, nat_lt, List, [], ◌∷◌, ◌++◌, length, Option, None, Some, IfSome, refl, sym, ap, subst, ◌∙◌, arith}
use Rattle.std.proofs.lemmas.Bool.{ltb-false}
use Rattle.std.proofs.lemmas.List.{drop_all}
use Rattle.std.specs.List.{AllByRecursion}
use Rattle.std.specs.Option.{option_map, option_map_or}
use Rattle.ca_law_endings.proofs.InnerLemmas.{AreOwn, flush-inner}
use Rattle.ca_law_endings.proofs.LeadsLemmas.{leads-around}
use Rattle.ca_law_endings.specs.Runs.{Leads}
use Rattle.ca_law_order.proofs.Polls.FlushedLemmas.{contra, failed, flushed-all}
use Rattle.ca_law_order.proofs.Polls.SideLemmas.{AreOf, own-of, puts-none, puts-one, side_in}
use Rattle.ca_law_order.proofs.Polls.TurnLemmas.{AreBeside, HasMoved, IsSameReceiver, IsTurn, SameParts, leads-tests, moved, puts-same, same-parts}
use Rattle.ca_law_order.specs.Polls.{IsFlushedInError, sides_of}
use Rattle.ca_base.specs.Configuration.{Configuration}
use Rattle.ca_base.specs.declared.change.Change as state_change
use Rattle.ca_base.specs.declared.change.Change.TheVariants as changes
use Rattle.ca_base.specs.declared.change.State.TheVariants as states
use Rattle.ca_base.specs.declared.completion.WcStatus.TheVariants.{Flushed}
use Rattle.ca_base.specs.declared.limits.TheConstants.{MAX_MESSAGE_BYTES, MAX_PIECES}
use Rattle.ca_base.specs.declared.request.PostedSend.{PostedSend}
use Rattle.ca_base.specs.declared.request.RecvRequest.{RecvRequest}
use Rattle.ca_base.specs.declared.request.SendOp.{SendOp}
use Rattle.ca_base.specs.declared.request.SendOp.TheVariants as ops
use Rattle.ca_base.specs.declared.request.SendRequest.{SendRequest}
use Rattle.ca_base.specs.objects.CompletionQueue.{after_puts}
use Rattle.ca_base.specs.objects.Domain.{without_object}
use Rattle.ca_base.specs.objects.Mailbox.{with_peer}
use Rattle.ca_base.specs.objects.QueuePair.{QueuePair, QueueSlot, NoQueue, Present, in_error, recv_cq_of, send_cq_of, with_all_flushed}
use Rattle.ca_base.specs.objects.Region.{with_window_unbound}
use Rattle.ca_base.specs.objects.StateTable.{is_reset, modify_refusals, queue_after_change, state_eq}
use Rattle.ca_base.specs.objects.Window.{Binding, Window, after_deallocation, after_draw, byte_drawn, key_of_window}
use Rattle.ca_base.specs.objects.WorkQueue.{WorkQueue, is_full, items_from, next_place, with_item}
use Rattle.ca_keys.specs.Equal.{queue_eq}
use Rattle.ca_keys.specs.Numbers.{key_at, queue_of, window_index}
use Rattle.ca_keys.specs.declared.key.Key.{Key}
use Rattle.ca_keys.specs.declared.names.QueueId.{QueueId}
use Rattle.ca_keys.specs.declared.names.Slot.{Slot}
use Rattle.ca_law_world.proofs.Sound.GoodLemmas.{IsLater, error-later, flush-settled, later-on, silent-later, taken-same}
use Rattle.ca_law_world.proofs.Sound.OrderLemmas.{completions-append, order-still, silent-order}
use Rattle.ca_law_world.proofs.Sound.SettledLemmas.{append-all}
use Rattle.ca_law_world.proofs.Sound.TakenLemmas.{none-takes}
use Rattle.ca_law_world.proofs.Sound.VerbLemmas.{IsFlushed, flushed, posted-receive, posted-send, receive-later, send-later}
use Rattle.ca_law_world.proofs.Sound.WorldLemmas.{IsThere, around_in, is-there, shared_of}
use Rattle.ca_model.specs.Past.{with_at}
use Rattle.ca_model.specs.Requests.{list_length, list_of}
use Rattle.ca_model.specs.declared.answer.Answer.{Answer}
use Rattle.ca_model.specs.declared.answer.Answer.TheVariants as answers
use Rattle.ca_model.specs.declared.answer.Refusal.{Refusal}
use Rattle.ca_model.specs.declared.answer.Refusal.TheVariants.{NoSuch}
use Rattle.ca_model.specs.declared.mark.Mark.{Mark}
use Rattle.ca_model.specs.declared.mark.Mark.TheVariants as marks
use Rattle.ca_model.specs.machine.Around.{Around, completions_to, cq_updates, shared_in}
use Rattle.ca_model.specs.machine.Completions.{flush_marks, flushed_message, flushed_receives, flushed_sends}
use Rattle.ca_model.specs.machine.Invariants.{IsQueue}
use Rattle.ca_model.specs.machine.Places.{completions_in}
use Rattle.ca_model.specs.machine.Plan.{Plan, Look, Update, ◌:=◌, put_all}
use Rattle.ca_model.specs.machine.PostingVerbs.{Posted_send, after_flush, marks_of_flush, post_recv_plan, post_recv_refusals, post_send_plan, post_send_refusals, with_send}
use Rattle.ca_model.specs.machine.QueuePairVerbs.{With_present, beside, emptied_mailbox, emptied_updates, modify_qp_plan}
use Rattle.ca_model.specs.machine.Row.{Effects, queue_and_marks, region_under}
use Rattle.ca_model.specs.machine.Sound.{IsQueueOf, IsSoundWorld}
use Rattle.ca_model.specs.machine.VerbAnswers.{Answer_plan, Call, Refuse_plan, Unless_plan, answer_mark, of_change_refusals}
use Rattle.ca_model.specs.machine.WindowVerbs.{With_binder, dealloc_mw_plan, queue_updates}
use Rattle.ca_model.specs.machine.World.{World, Cq_of, Domain_of, Mailbox_of, Queue_of, Region_of, Window_of}

-- ---- what is flushed at once

-- where nothing else is left, what is flushed is of one side
sends-side : (queue : QueueId) (place : ℕ) (ps : List PostedSend) → AllByRecursion (λ c. c.receive ≡ false) (completions_in (flushed_sends queue place ps))
sends-side queue place [] = record {}
sends-side queue place (p ∷ ps) = (refl, sends-side queue (suc place) ps)

receives-side : (queue : QueueId) (place : ℕ) (rs : List RecvRequest) → AllByRecursion (λ c. c.receive ≡ true) (completions_in (flushed_receives queue place rs))
receives-side queue place [] = record {}
receives-side queue place (r ∷ rs) = (refl, receives-side queue (suc place) rs)

none-left : {T : Type 0} (q : WorkQueue T) (place : ℕ) → place ≡ next_place q → items_from place q ≡ []
none-left q place is = drop_all (place - q.first) q.items (omega (arith, is))

-- the posted receives, flushed
abbrev own_flushed : QueueId → Option (WorkQueue RecvRequest) → List Mark
own_flushed queue o = option_map_or (λ r. flushed_receives queue r.next_taken (items_from r.next_taken r)) o []

-- the parts of a flush
flush-parts : (p : QueuePair) (side : Bool) → AllByRecursion (λ c. c.receive ≡ side) (completions_in (flushed_sends p.queue p.requester.oldest (items_from p.requester.oldest p.sends)))
    → p.responder.message ≡ None → AllByRecursion (λ c. c.receive ≡ side) (completions_in (own_flushed p.queue p.receives)) → AllByRecursion (λ c. c.receive ≡ side) (completions_in (flush_marks p))
flush-parts p side sends none receives = subst (AllByRecursion (λ c. c.receive ≡ side)) (sym (completions-append (X ++ flushed_message p.queue p.responder.message) (own_flushed p.queue p.receives)))
    (append-all (λ c. c.receive ≡ side) (completions_in (X ++ flushed_message p.queue p.responder.message)) (completions_in (own_flushed p.queue p.receives))
    (subst (AllByRecursion (λ c. c.receive ≡ side)) (sym (completions-append X (flushed_message p.queue p.responder.message)))
    (append-all (λ c. c.receive ≡ side) (completions_in X) (completions_in (flushed_message p.queue p.responder.message)) sends
    (subst (λ m. AllByRecursion (λ c. c.receive ≡ side) (completions_in (flushed_message p.queue m))) (sym none) (record {})))) receives)
  where
    X : List Mark
    X = flushed_sends p.queue p.requester.oldest (items_from p.requester.oldest p.sends)

sends-only : (p : QueuePair) → p.responder.message ≡ None → IfSome p.receives (λ r. r.next_taken ≡ next_place r) → AllByRecursion (λ c. c.receive ≡ false) (completions_in (flush_marks p))
sends-only p none taken = flush-parts p false (sends-side p.queue p.requester.oldest (items_from p.requester.oldest p.sends)) none (by p.receives taken)
  where
    by : (o : Option (WorkQueue RecvRequest)) → IfSome o (λ r. r.next_taken ≡ next_place r) → AllByRecursion (λ c. c.receive ≡ false) (completions_in (own_flushed p.queue o))
    by None taken = record {}
    by (Some r) taken = subst (λ xs. AllByRecursion (λ c. c.receive ≡ false) (completions_in (flushed_receives p.queue r.next_taken xs))) (sym (none-left r r.next_taken taken)) (record {})

receives-only : (p : QueuePair) → p.requester.oldest ≡ next_place p.sends → p.responder.message ≡ None → AllByRecursion (λ c. c.receive ≡ true) (completions_in (flush_marks p))
receives-only p done none = flush-parts p true
    (subst (λ xs. AllByRecursion (λ c. c.receive ≡ true) (completions_in (flushed_sends p.queue p.requester.oldest xs))) (sym (none-left p.sends p.requester.oldest done)) (record {})) none (by p.receives)
  where
    by : (o : Option (WorkQueue RecvRequest)) → AllByRecursion (λ c. c.receive ≡ true) (completions_in (own_flushed p.queue o))
    by None = record {}
    by (Some r) = receives-side p.queue r.next_taken (items_from r.next_taken r)

-- ---- what is posted

-- the queue pair behind a post, flushed at once where it is in Error
record IsPosted (q p : QueuePair) : Type 0 where
  sound : IsQueue p
  later : IsLater q p
  incarnation : p.incarnation ≡ q.incarnation

flush-incarnation : (p : QueuePair) → (after_flush p).incarnation ≡ p.incarnation
flush-incarnation p = by (state_eq p.state states.Error)
  where
    by : (b : Bool) → (if b then with_all_flushed p else p).incarnation ≡ p.incarnation
    by true = refl
    by false = refl

flush-flushed : (p : QueuePair) → IsFlushedInError (after_flush p)
flush-flushed p = by (state_eq p.state states.Error) refl
  where
    by : (b : Bool) → state_eq p.state states.Error ≡ b → IsFlushedInError (if b then with_all_flushed p else p)
    by true is = flushed-all p
    by false is = contra is

flush-own : (p : QueuePair) → AreOwn (marks_of_flush p)
flush-own p = by (state_eq p.state states.Error)
  where
    by : (b : Bool) → AreOwn (if b then flush_marks p else [])
    by true = flush-inner p
    by false = record {}

flush-side : (p : QueuePair) (side : Bool) → (state_eq p.state states.Error ≡ true → AllByRecursion (λ c. c.receive ≡ side) (completions_in (flush_marks p)))
    → AllByRecursion (λ c. c.receive ≡ side) (completions_in (marks_of_flush p))
flush-side p side all = by (state_eq p.state states.Error) refl
  where
    by : (b : Bool) → state_eq p.state states.Error ≡ b → AllByRecursion (λ c. c.receive ≡ side) (completions_in (if b then flush_marks p else []))
    by true is = all is
    by false is = record {}

-- a queue pair goes on behind a post: what is flushed at once is of one side, and goes to one completion queue
posted-turn : (w : World) (front : List Mark) (q p : QueuePair) (b : Bool) (k : ℕ) (more : List Update) → IsThere w q → IsPosted q p → IsSameReceiver q p → AreBeside more
    → side_in (sides_of q) b ≡ record { domain = q.domain; slot = k } → (IsFlushedInError q → state_eq p.state states.Error ≡ true → AllByRecursion (λ c. c.receive ≡ b) (completions_in (flush_marks p)))
    → IsTurn w front (put_all ((Queue_of q.queue := Present (after_flush p))
    ∷ (Cq_of (record { domain = q.domain; slot = k }) := option_map (after_puts (completions_to q k (marks_of_flush p))) (w.cq (record { domain = q.domain; slot = k }))) ∷ more) w) (front ++ marks_of_flush p)
posted-turn w front q p b k more there post same beside own side = record {
  q = q;
  p = p;
  e = queue_and_marks (after_flush p) (marks_of_flush p);
  rest = marks_of_flush p;
  there = there;
  same = same;
  order = f.order;
  later = later-on q p (after_flush p) post.later f.later;
  incarnation = flush-incarnation p ∙ post.incarnation;
  takes = none-takes (shared_in (around_in w q (shared_of w q))) p (queue_and_marks (after_flush p) (marks_of_flush p)) refl;
  flushed = λ is. flush-flushed p;
  marks = refl;
  of = own-of (after_flush p) q.queue (marks_of_flush p) (f.later.queue ∙ post.later.queue) (flush-own p) f.settled;
  done = refl;
  queue = parts.queue;
  cq = λ is s. ap (λ g. g s) parts.cq ∙ puts-one w.cq q b k (marks_of_flush p) s own (flush-side p b (side is));
  srq = λ t. ap (λ g. g t) parts.srq;
}
  where
    f : IsFlushed p
    f = flushed p post.sound

    parts : SameParts (put_all ((Queue_of q.queue := Present (after_flush p)) ∷ (Cq_of (record { domain = q.domain; slot = k }) := option_map (after_puts (completions_to q k (marks_of_flush p))) (w.cq (record { domain = q.domain; slot = k }))) ∷ []) w)
        (put_all ((Queue_of q.queue := Present (after_flush p)) ∷ (Cq_of (record { domain = q.domain; slot = k }) := option_map (after_puts (completions_to q k (marks_of_flush p))) (w.cq (record { domain = q.domain; slot = k }))) ∷ more) w)
    parts = puts-same more (put_all ((Queue_of q.queue := Present (after_flush p)) ∷ (Cq_of (record { domain = q.domain; slot = k }) := option_map (after_puts (completions_to q k (marks_of_flush p))) (w.cq (record { domain = q.domain; slot = k }))) ∷ []) w) beside

-- ---- verbs

-- a verb that is refused leaves everything
abbrev pub Refuses : World → (World → List Mark → Type 0) → Call → Type 0
Refuses w P call = (r : Refusal) → P w (answer_mark call (answers.Refused r) ∷ [])

-- a queue pair that goes on behind an answer
abbrev pub Goes : World → (World → List Mark → Type 0) → Call → Answer → Type 0
Goes w P call answer = (v : World) (ms : List Mark) → IsTurn w (answer_mark call answer ∷ []) v ms → P v ms

-- the queue pair that a verb names
pub leads-present : (c : Configuration) (w : World) (P : World → List Mark → Type 0) (call : Call) (s : Slot) (k : QueuePair → Plan) → IsSoundWorld c w → Refuses w P call
    → ((q : QueuePair) → IsThere w q → q.queue ≡ queue_of s → Leads w P (k q)) → Leads w P (With_present call s k)
leads-present c w P call s k sound refused more = by (w.queue (queue_of s)) refl (sound.things (Queue_of (queue_of s)))
  where
    there : QueueSlot → Plan
    there (NoQueue incarnation timers) = Refuse_plan call NoSuch
    there (Present q) = k q

    by : (slot : QueueSlot) → w.queue (queue_of s) ≡ slot → IsQueueOf (queue_of s) slot → Leads w P (there slot)
    by (NoQueue incarnation timers) is one = refused NoSuch
    by (Present q) is one = more q (is-there w (queue_of s) q is one) one.0

send-posted : (q : QueuePair) (request : SendRequest) (drawn : Option ℕ) → IsQueue q → length (list_of request.op) ≤ MAX_PIECES
    → nat_lt MAX_MESSAGE_BYTES (list_length (list_of request.op)) ≡ false → is_full q.sends ≡ false → IsPosted q (with_send request drawn q)
send-posted q request drawn s few short free = record {
  sound = posted-send q request drawn s (record { few = few; bytes = ltb-false MAX_MESSAGE_BYTES (list_length (list_of request.op)) short }) free;
  later = send-later q request drawn;
  incarnation = refl;
}

leads-posted : (w : World) (P : World → List Mark → Type 0) (call : Call) (q : QueuePair) (request : SendRequest) (drawn : Option ℕ) (window : Slot) (more : List Update) → IsThere w q
    → length (list_of request.op) ≤ MAX_PIECES → AreBeside more → Refuses w P call → Goes w P call (answers.Posted (option_map (key_at (window_index window)) drawn))
    → Leads w P (Posted_send call q request drawn window more)
leads-posted w P call q request drawn window more there few beside refused goes = leads-tests w P (post_send_refusals request q) (Refuse_plan call)
    (Answer_plan call (answers.Posted (option_map (key_at (window_index window)) drawn)) updates (marks_of_flush p)) refused
    (λ fails. goes (put_all updates w) (answer_mark call (answers.Posted (option_map (key_at (window_index window)) drawn)) ∷ marks_of_flush p)
    (posted-turn w (answer_mark call (answers.Posted (option_map (key_at (window_index window)) drawn)) ∷ []) q p false q.send_cq more there (send-posted q request drawn there.sound few fails.1.0 fails.1.1.1.0)
    (record { queue = refl; srq = refl; message = refl; taken = refl }) beside refl (λ is error. sends-only p (is error).1 (is error).2)))
  where
    p : QueuePair
    p = with_send request drawn q

    updates : List Update
    updates =
        (Queue_of q.queue := Present (after_flush p))
        ∷ (Cq_of (send_cq_of q) := option_map (after_puts (completions_to q q.send_cq (marks_of_flush p))) (w.cq (send_cq_of q)))
        ∷ more

pub leads-post_send : (c : Configuration) (w : World) (P : World → List Mark → Type 0) (call : Call) (s : Slot) (request : SendRequest) → IsSoundWorld c w → length (list_of request.op) ≤ MAX_PIECES
    → Refuses w P call → ((key : Option Key) → Goes w P call (answers.Posted key)) → Leads w P (post_send_plan call s request)
leads-post_send c w P call s request sound few refused goes = leads-present c w P call s (λ q. posting q request.op) sound refused (λ q there own. on q there request.op)
  where
    draws : QueuePair → Slot → Window → Plan
    draws q window x = Unless_plan call ((x.kind == 0, NoSuch) ∷ []) (Posted_send call q request (byte_drawn x) window ((Window_of window := after_draw x) ∷ []))

    posting : QueuePair → SendOp → Plan
    posting q (ops.Bind1 window region address count rights) = Look (Window_of (beside s window)) (draws q (beside s window))
    posting q op = Posted_send call q request None s []

    plain : (q : QueuePair) → IsThere w q → Leads w P (Posted_send call q request None s [])
    plain q there = leads-posted w P call q request None s [] there few (record {}) refused (goes None)

    on : (q : QueuePair) → IsThere w q → (op : SendOp) → Leads w P (posting q op)
    on q there (ops.Bind1 window region address count rights) = leads-tests w P ((x.kind == 0, NoSuch) ∷ []) (Refuse_plan call)
        (Posted_send call q request (byte_drawn x) (beside s window) ((Window_of (beside s window) := after_draw x) ∷ [])) refused
        (λ fails. leads-posted w P call q request (byte_drawn x) (beside s window) ((Window_of (beside s window) := after_draw x) ∷ []) there few (record {}, record {}) refused (goes _))
      where
        x : Window
        x = w.window (beside s window)
    on q there (ops.Bind2 window region low address count rights) = plain q there
    on q there (ops.FastReg region low buffer address count rights pages) = plain q there
    on q there (ops.LocalInv key) = plain q there
    on q there (ops.Send list) = plain q there
    on q there (ops.SendImm imm list) = plain q there
    on q there (ops.SendInv key list) = plain q there
    on q there (ops.Write address key list) = plain q there
    on q there (ops.WriteImm address key imm list) = plain q there
    on q there (ops.Read address key list) = plain q there
    on q there (ops.CmpSwap address key compare swap list) = plain q there
    on q there (ops.FetchAdd address key add list) = plain q there

pub leads-post_recv : (c : Configuration) (w : World) (P : World → List Mark → Type 0) (call : Call) (s : Slot) (request : RecvRequest) → IsSoundWorld c w → length request.list.items ≤ MAX_PIECES
    → Refuses w P call → Goes w P call (answers.Posted None) → Leads w P (post_recv_plan call s request)
leads-post_recv c w P call s request sound few refused goes = leads-present c w P call s _ sound refused (λ q there own. on q there)
  where
    after : QueuePair → QueuePair
    after q = record q { receives = option_map (with_item request) q.receives }

    updates : QueuePair → List Update
    updates q =
        (Queue_of q.queue := Present (after_flush (after q)))
        ∷ (Cq_of (recv_cq_of q) := option_map (after_puts (completions_to q q.recv_cq (marks_of_flush (after q)))) (w.cq (recv_cq_of q)))
        ∷ []

    taken : (o : Option (WorkQueue RecvRequest)) → option_map (λ r. r.next_taken) (option_map (with_item request) o) ≡ option_map (λ r. r.next_taken) o
    taken None = refl
    taken (Some r) = refl

    posted : (q : QueuePair) → IsThere w q → nat_lt MAX_MESSAGE_BYTES (list_length request.list.items) ≡ false → option_map_or is_full q.receives false ≡ false → IsPosted q (after q)
    posted q there short free = record {
      sound = posted-receive q request there.sound (record { few = few; bytes = ltb-false MAX_MESSAGE_BYTES (list_length request.list.items) short }) free;
      later = receive-later q request;
      incarnation = refl;
    }

    on : (q : QueuePair) → IsThere w q → Leads w P (Unless_plan call (post_recv_refusals request q) (Answer_plan call (answers.Posted None) (updates q) (marks_of_flush (after q))))
    on q there = leads-tests w P (post_recv_refusals request q) (Refuse_plan call) (Answer_plan call (answers.Posted None) (updates q) (marks_of_flush (after q))) refused
        (λ fails. goes (put_all (updates q) w) (answer_mark call (answers.Posted None) ∷ marks_of_flush (after q))
        (posted-turn w (answer_mark call (answers.Posted None) ∷ []) q (after q) true q.recv_cq [] there (posted q there fails.1.0 fails.1.1.1.0)
        (record { queue = refl; srq = refl; message = refl; taken = taken q.receives }) (record {}) refl (λ is error. receives-only (after q) (is error).0 (is error).1)))

-- ---- changes of state

-- a change that completes nothing
changed-turn : (w v : World) (front : List Mark) (q p : QueuePair) → IsThere w q → IsLater q p → p.incarnation ≡ q.incarnation → IsSameReceiver q p → (IsFlushedInError q → IsFlushedInError p)
    → v.queue ≡ with_at queue_eq w.queue q.queue (Present p) → v.cq ≡ w.cq → v.srq ≡ w.srq → (rest : List Mark) → AreOf q.queue rest → completions_in rest ≡ [] → IsTurn w front v (front ++ rest)
changed-turn w v front q p there later incarnation same flushed queue cq srq rest of none = record {
  q = q;
  p = p;
  e = queue_and_marks p [];
  rest = rest;
  there = there;
  same = same;
  order = order-still p (queue_and_marks p []) (record { sends = refl; receives = refl; oldest = refl; in_use = refl }) refl;
  later = later;
  incarnation = incarnation;
  takes = none-takes (shared_in (around_in w q (shared_of w q))) p (queue_and_marks p []) refl;
  flushed = flushed;
  marks = refl;
  of = of;
  done = none;
  queue = queue;
  cq = λ is s. ap (λ g. g s) cq ∙ sym (puts-none (w.cq s));
  srq = λ t. ap (λ g. g t) srq;
}

-- a move to Error
error-turn : (w : World) (front : List Mark) (q : QueuePair) → IsThere w q
    → IsTurn w front (put_all ((Queue_of q.queue := Present (queue_after_change changes.Error q)) ∷ cq_updates q (around_in w q (shared_of w q)) (flush_marks q)) w) (front ++ flush_marks q)
error-turn w front q there = record {
  q = q;
  p = q;
  e = e;
  rest = flush_marks q;
  there = there;
  same = record { queue = refl; srq = refl; message = refl; taken = refl };
  order = silent-order q s.requester.finished (omega (arith, s.requester.begun, s.requester.waiting)) s.receives s.taken;
  later = silent-later q (in_error q) (error-later q s);
  incarnation = refl;
  takes = none-takes (shared_in (around_in w q (shared_of w q))) q e refl;
  flushed = λ is. (failed Flushed None q).flushed;
  marks = refl;
  of = own-of (in_error q) q.queue (flush_marks q) refl (flush-inner q) (flush-settled q s.requester.finished (omega (arith, s.requester.begun, s.requester.waiting)) s.receives s.taken);
  done = refl;
  queue = m.queue;
  cq = λ is. m.cq;
  srq = m.srq;
}
  where
    e : Effects
    e = queue_and_marks (queue_after_change changes.Error q) (flush_marks q)

    s : IsQueue q
    s = there.sound

    m : HasMoved w q e (put_all ((Queue_of q.queue := Present (queue_after_change changes.Error q)) ∷ cq_updates q (around_in w q (shared_of w q)) (flush_marks q)) w)
    m = moved w w q e (same-parts w)

-- ModifyQp: a reset stands apart
pub leads-modify : (c : Configuration) (w : World) (P : World → List Mark → Type 0) (call : Call) (s : Slot) (change : state_change.Change) → IsSoundWorld c w → Refuses w P call → (is_reset change ≡ false → Goes w P call answers.Fine)
    → ((q : QueuePair) → IsThere w q → q.queue ≡ queue_of s → change ≡ changes.Reset → P (put_all ((Queue_of q.queue := Present (queue_after_change changes.Reset q))
    ∷ (Mailbox_of q.queue := emptied_mailbox (queue_after_change changes.Reset q).incarnation (w.mailbox q.queue)) ∷ emptied_updates q (around_in w q (shared_of w q))) w) (answer_mark call answers.Fine ∷ []))
    → Leads w P (modify_qp_plan c call s change)
leads-modify c w P call s change sound refused goes resets = leads-present c w P call s _ sound refused (λ q there own.
    leads-around w P q (λ a. Unless_plan call (of_change_refusals (modify_refusals c q change)) (plan q a change))
    (leads-tests w P (of_change_refusals (modify_refusals c q change)) (Refuse_plan call) (plan q (around_in w q (shared_of w q)) change) refused (λ fails. by q there own change refl)))
  where
    updates : QueuePair → Around → state_change.Change → List Update
    updates q a changes.Error = cq_updates q a (flush_marks q)
    updates q a changes.Reset =
        (Mailbox_of q.queue := emptied_mailbox (queue_after_change changes.Reset q).incarnation (w.mailbox q.queue)) ∷ emptied_updates q a
    updates q a (changes.Rtr peer incarnation psn mtu rnr_code) =
        (Mailbox_of q.queue := with_peer q.incarnation (Some (record { queue = peer; incarnation = incarnation })) (w.mailbox q.queue)) ∷ []
    updates q a change = []

    told : QueuePair → state_change.Change → List Mark
    told q changes.Error = flush_marks q
    told q change = []

    plan : QueuePair → Around → state_change.Change → Plan
    plan q a change = Answer_plan call answers.Fine ((Queue_of q.queue := Present (queue_after_change change q)) ∷ updates q a change) (told q change)

    quiet : is_reset change ≡ false → (q p : QueuePair) (more : List Update) → IsThere w q → IsLater q p → p.incarnation ≡ q.incarnation → IsSameReceiver q p → IsFlushedInError p → AreBeside more
        → P (put_all ((Queue_of q.queue := Present p) ∷ more) w) (answer_mark call answers.Fine ∷ [])
    quiet stays q p more there later incarnation same flushed beside =
        let parts : SameParts (put_all ((Queue_of q.queue := Present p) ∷ []) w) (put_all ((Queue_of q.queue := Present p) ∷ more) w) = puts-same more (put_all ((Queue_of q.queue := Present p) ∷ []) w) beside
        in goes stays (put_all ((Queue_of q.queue := Present p) ∷ more) w) (answer_mark call answers.Fine ∷ [])
        (changed-turn w (put_all ((Queue_of q.queue := Present p) ∷ more) w) (answer_mark call answers.Fine ∷ []) q p there later incarnation same (λ is. flushed) parts.queue parts.cq parts.srq [] (record {}) refl)

    by : (q : QueuePair) → IsThere w q → q.queue ≡ queue_of s → (x : state_change.Change) → change ≡ x → Leads w P (plan q (around_in w q (shared_of w q)) x)
    by q there own changes.Error is = goes (ap is_reset is) _ _ (error-turn w (answer_mark call answers.Fine ∷ []) q there)
    by q there own changes.Reset is = resets q there own is
    by q there own changes.Init is = quiet (ap is_reset is) q (queue_after_change changes.Init q) [] there (record { queue = refl; domain = refl; send_cq = refl; recv_cq = refl; srq = refl; finished = omega arith; taken = taken-same q.receives })
        refl (record { queue = refl; srq = refl; message = refl; taken = refl }) (contra refl) (record {})
    by q there own (changes.Rtr peer incarnation psn mtu rnr_code) is = quiet (ap is_reset is) q (queue_after_change (changes.Rtr peer incarnation psn mtu rnr_code) q) (updates q (around_in w q (shared_of w q)) (changes.Rtr peer incarnation psn mtu rnr_code)) there
        (record { queue = refl; domain = refl; send_cq = refl; recv_cq = refl; srq = refl; finished = omega arith; taken = taken-same q.receives })
        refl (record { queue = refl; srq = refl; message = refl; taken = refl }) (contra refl) (record {}, record {})
    by q there own (changes.Rts psn retry rnr_retry reads) is = quiet (ap is_reset is) q (queue_after_change (changes.Rts psn retry rnr_retry reads) q) [] there (record { queue = refl; domain = refl; send_cq = refl; recv_cq = refl; srq = refl; finished = omega arith; taken = taken-same q.receives })
        refl (record { queue = refl; srq = refl; message = refl; taken = refl }) (contra refl) (record {})
    by q there own changes.Sqd is = quiet (ap is_reset is) q (queue_after_change changes.Sqd q) [] there (record { queue = refl; domain = refl; send_cq = refl; recv_cq = refl; srq = refl; finished = omega arith; taken = taken-same q.receives })
        refl (record { queue = refl; srq = refl; message = refl; taken = refl }) (contra refl) (record {})
    by q there own changes.Resume is = quiet (ap is_reset is) q (queue_after_change changes.Resume q) [] there (record { queue = refl; domain = refl; send_cq = refl; recv_cq = refl; srq = refl; finished = omega arith; taken = taken-same q.receives })
        refl (record { queue = refl; srq = refl; message = refl; taken = refl }) (contra refl) (record {})

-- ---- windows

-- nothing that counts here changes, behind an answer and perhaps the end of a key
pub record Stays (w : World) (P : World → List Mark → Type 0) (call : Call) (answer : Answer) : Type 0 where
  pub alone : (v : World) → SameParts w v → P v (answer_mark call answer ∷ [])
  pub ended : (v : World) (adapter : ℕ) (key : Key) → SameParts w v → P v (answer_mark call answer ∷ marks.Revoked adapter key ∷ [])
  pub binder : (v : World) (adapter : ℕ) (key : Key) → IsTurn w (answer_mark call answer ∷ []) v (answer_mark call answer ∷ marks.Revoked adapter key ∷ [])
      → P v (answer_mark call answer ∷ marks.Revoked adapter key ∷ [])

-- DeallocMw: a queue pair has one window fewer
pub leads-dealloc : (c : Configuration) (w : World) (P : World → List Mark → Type 0) (call : Call) (s : Slot) → IsSoundWorld c w → Refuses w P call → Stays w P call answers.Fine
    → Leads w P (dealloc_mw_plan call s)
leads-dealloc c w P call s sound refused stays = leads-tests w P ((window.kind == 0, NoSuch) ∷ []) (Refuse_plan call) (plan window.binding) refused (λ fails. at window.binding)
  where
    window : Window
    window = w.window s

    changed : List Update
    changed = (Domain_of s.domain := without_object (w.domain s.domain)) ∷ (Window_of s := after_deallocation window) ∷ []

    region : Binding → Slot
    region b = region_under window b

    end : Binding → List Update → Plan
    end b more = Answer_plan call answers.Fine
        (changed ++ (Region_of (region b) := with_window_unbound (w.region (region b))) ∷ more)
        (marks.Revoked s.domain.adapter (key_of_window window) ∷ [])

    plan : Option Binding → Plan
    plan None = Answer_plan call answers.Fine changed []
    plan (Some b) = Look (Region_of (region_under window b)) (λ region. With_binder b.queue (λ more.
        Answer_plan call answers.Fine (changed ++ (Region_of (region_under window b) := with_window_unbound region) ∷ more) (marks.Revoked s.domain.adapter (key_of_window window) ∷ [])))

    ends : (b : Binding) → Leads w P (end b [])
    ends b = stays.ended (put_all (changed ++ (Region_of (region b) := with_window_unbound (w.region (region b))) ∷ []) w) s.domain.adapter (key_of_window window) (record { queue = refl; cq = refl; srq = refl })

    queued : (b : Binding) (q : QueueId) (slot : QueueSlot) → w.queue q ≡ slot → IsQueueOf q slot → Leads w P (end b (queue_updates q slot))
    queued b q (NoQueue incarnation timers) is one = ends b
    queued b q (Present p) is one = stays.binder v s.domain.adapter (key_of_window window)
        (changed-turn w v (answer_mark call answers.Fine ∷ []) p (record p { windows = p.windows - 1 }) (is-there w q p is one)
        (record { queue = refl; domain = refl; send_cq = refl; recv_cq = refl; srq = refl; finished = omega arith; taken = taken-same p.receives }) refl
        (record { queue = refl; srq = refl; message = refl; taken = refl }) (λ f. f) (ap (λ n. with_at queue_eq w.queue n (Present (record p { windows = p.windows - 1 }))) (sym one.0)) refl refl
        (marks.Revoked s.domain.adapter (key_of_window window) ∷ []) (record {}, record {}) refl)
      where
        v : World
        v = put_all (changed ++ (Region_of (region b) := with_window_unbound (w.region (region b))) ∷ (Queue_of q := Present (record p { windows = p.windows - 1 })) ∷ []) w

    binds : (b : Binding) (o : Option QueueId) → Leads w P (With_binder o (end b))
    binds b None = ends b
    binds b (Some q) = queued b q (w.queue q) refl (sound.things (Queue_of q))

    at : (o : Option Binding) → Leads w P (plan o)
    at None = stays.alone (put_all changed w) (record { queue = refl; cq = refl; srq = refl })
    at (Some b) = binds b b.queue

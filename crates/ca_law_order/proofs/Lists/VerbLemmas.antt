-- Verbs keep the agreement on lists. For proofs only.
use Rattle.std.proofs.Common.{◌≡◌, ℕ, suc, zero, ◌≤◌, ◌<◌, ◌==◌, ◌&&◌, is_some, Bool, true, false, if◌then◌else◌, List, [], ◌∷◌, ◌++◌, length, length-append, drop, Option, None, Some, IfSome, slice_get, refl, sym, ap, subst, ◌∙◌, arith, true≢false}
use Rattle.std.proofs.lemmas.Bool.Decides.{nat_tests}
use Rattle.ca_law_endings.proofs.InnerLemmas.{flush-inner}
use Rattle.ca_law_order.proofs.Lists.PlanLemmas.{was-there}
use Rattle.ca_law_order.proofs.Lists.TurnLemmas.{AreStill, KeepsShared, Leaves, Lists, leaves-then, own-still, still-ends, still-leaves}
use Rattle.ca_law_order.specs.Lists.{AgreeInSlot, AgreeOnLists, AgreeOnReceiver, HasPosted, HoldsOwn, ListsAgree, life_of, receive_by}
use Rattle.ca_law_order.proofs.Polls.TurnLemmas.{leads-tests}
use Rattle.ca_base.specs.declared.queue_numbers.Message.{Message}
use Rattle.ca_base.specs.declared.correspondent.Correspondent.{Correspondent}
use Rattle.ca_base.specs.objects.CompletionQueue.{after_puts}
use Rattle.ca_base.specs.objects.QueuePair.{with_all_flushed, QueuePair, QueueSlot, Present, recv_cq_of, send_cq_of}
use Rattle.ca_base.specs.objects.StateTable.{state_eq}
use Rattle.ca_base.specs.objects.Window.{Window, after_draw, byte_drawn}
use Rattle.ca_base.specs.objects.WorkQueue.{with_all_taken, with_item, WorkQueue}
use Rattle.ca_keys.specs.Numbers.{key_at, window_index, queue_of}
use Rattle.ca_law_world.proofs.Sound.WorldLemmas.{IsThere}
use Rattle.ca_base.specs.declared.request.SendOp.{SendOp}
use Rattle.ca_model.specs.Past.{after_mark, after_marks, correspondent_eq, Past, at_begin, with_at}
use Rattle.ca_model.specs.declared.answer.Answer.{Answer}
use Rattle.ca_model.specs.machine.Around.{completions_to}
use Rattle.ca_model.specs.machine.Completions.{flush_marks}
use Rattle.ca_model.specs.machine.PostingVerbs.{Posted_send, after_flush, marks_of_flush, post_recv_refusals, post_send_refusals, with_send, post_recv_plan, post_send_plan}
use Rattle.ca_model.specs.machine.Plan.{Look, Plan, Update, ◌:=◌, put_all}
use Rattle.ca_model.specs.machine.Sound.{IsSoundWorld}
use Rattle.ca_model.specs.machine.VerbAnswers.{Answer_plan, Call, Refuse_plan, Unless_plan, answer_mark}
use Rattle.ca_model.specs.machine.World.{World, Window_of, Cq_of, Queue_of}
use Rattle.ca_law_world.proofs.Sound.SettledLemmas.{queue-refl, queue-path}
use Rattle.std.specs.Option.{option_map}
use Rattle.ca_law_endings.proofs.PathVerbLemmas.{call_of}
use Rattle.ca_law_endings.specs.Runs.{Leads}
use Rattle.ca_law_order.proofs.Polls.PostingLemmas.{leads-present}
use Rattle.ca_base.specs.Configuration.{Configuration}
use Rattle.ca_base.specs.declared.request.RecvRequest.{RecvRequest}
use Rattle.ca_base.specs.declared.request.SendRequest.{SendRequest}
use Rattle.ca_base.specs.objects.SharedReceives.{SrqSlot}
use Rattle.ca_keys.specs.Equal.{queue_eq}
use Rattle.ca_keys.specs.declared.names.QueueId.{QueueId}
use Rattle.ca_keys.specs.declared.names.Slot.{Slot}
use Rattle.ca_model.specs.declared.answer.Refusal.TheVariants.{NoSuch}
use Rattle.ca_model.specs.declared.mark.Mark.{Mark}
use Rattle.ca_model.specs.declared.verb.Verb.{Verb}
use Rattle.ca_model.specs.machine.QueuePairVerbs.{beside}
use Rattle.ca_base.specs.declared.change.State.TheVariants as states
use Rattle.ca_base.specs.declared.queue_numbers.Message.TheVariants as messages
use Rattle.ca_base.specs.declared.request.SendOp.TheVariants as ops
use Rattle.ca_model.specs.declared.answer.Answer.TheVariants as answers
use Rattle.ca_model.specs.declared.event.Event.TheVariants as events
use Rattle.ca_model.specs.declared.verb.Verb.TheVariants as verbs

-- what a verb leaves
abbrev pub ListsBy : Past → ℕ → Verb → World → List Mark → Type 0
ListsBy past by verb = Lists past (events.Verb by verb)

-- ---- slots that keep what they agree with

abbrev pub KeepsSlot : QueueSlot → QueueSlot → Type 0
KeepsSlot a b = (own : List RecvRequest) (srq : Option Slot) (shared : Slot → List RecvRequest) (placed : ℕ) → AgreeInSlot own srq shared placed a → AgreeInSlot own srq shared placed b

abbrev pub KeepsSlots : (QueueId → QueueSlot) → (QueueId → QueueSlot) → Type 0
KeepsSlots f g = (n : QueueId) → KeepsSlot (f n) (g n)

-- a queue pair in place of another
pub put-keeps : (f : QueueId → QueueSlot) (q : QueueId) (x : QueueSlot) → KeepsSlot (f q) x → KeepsSlots f (with_at queue_eq f q x)
put-keeps f q x keeps n = by (queue_eq q n) refl
  where
    by : (b : Bool) → queue_eq q n ≡ b → KeepsSlot (f n) (if b then x else f n)
    by true e = subst (λ m. KeepsSlot (f m) x) (queue-path q n e) keeps
    by false e = λ own srq shared placed was. was

-- one that is there
pub there-keeps : (w : World) (q x : QueuePair) → IsThere w q → KeepsSlot (Present q) (Present x) → KeepsSlots w.queue (with_at queue_eq w.queue q.queue (Present x))
there-keeps w q x there keeps = put-keeps w.queue q.queue (Present x) (subst (λ s. KeepsSlot s (Present x)) (sym there.present) keeps)

pub kept-agree : (past : Past) (w v : World) → ListsAgree past w → KeepsSlots w.queue v.queue → KeepsShared w.srq v.srq → AgreeOnLists past.incarnation past.receives past.srq past.shared past.placed v.queue v.srq
kept-agree past w v agree slots shared = record {
  queues = λ n. slots n (past.receives (life_of n (past.incarnation n))) (past.srq n) past.shared (past.placed n) (agree.queues n);
  later = agree.later;
  waiting = λ s. shared s (past.shared s) (agree.waiting s);
}

pub same-keeps : (f : Slot → SrqSlot) → KeepsShared f f
same-keeps f t posted was = was

-- a verb whose answer tells nothing of lists, with still marks behind it
pub answered-lists : (past : Past) (w v : World) (by : ℕ) (verb : Verb) (answer : Answer) (ms : List Mark) → ListsAgree past w
    → Leaves (at_begin (events.Verb by verb) past) (after_mark (answer_mark (call_of by verb) answer) (at_begin (events.Verb by verb) past)) → AreStill ms → KeepsSlots w.queue v.queue → KeepsShared w.srq v.srq
    → ListsBy past by verb v (answer_mark (call_of by verb) answer ∷ ms)
answered-lists past w v by verb answer ms agree leaves still slots shared = still-ends start (after_marks ms r) v (leaves-then start r (after_marks ms r) leaves (still-leaves ms still r)) refl (kept-agree past w v agree slots shared)
  where
    start : Past
    start = at_begin (events.Verb by verb) past

    r : Past
    r = after_mark (answer_mark (call_of by verb) answer) start

-- ---- what is flushed at once

pub flush-still : (q : QueuePair) → AreStill (flush_marks q)
flush-still q = own-still (flush_marks q) (flush-inner q)

marks-still : (q : QueuePair) → AreStill (marks_of_flush q)
marks-still q = by (state_eq q.state states.Error)
  where
    by : (b : Bool) → AreStill (if b then flush_marks q else [])
    by true = flush-still q
    by false = record {}

pub all-posted : (own : List RecvRequest) (o : Option (WorkQueue RecvRequest)) → IfSome o (HasPosted own) → IfSome (option_map with_all_taken o) (HasPosted own)
all-posted own None was = record {}
all-posted own (Some r) was = record { count = was.count; items = was.items }

flushed-receiver : (own : List RecvRequest) (srq : Option Slot) (shared : Slot → List RecvRequest) (placed : ℕ) (q : QueuePair) → AgreeOnReceiver own srq shared placed q → AgreeOnReceiver own srq shared placed (after_flush q)
flushed-receiver own srq shared placed q was = by (state_eq q.state states.Error)
  where
    by : (b : Bool) → AgreeOnReceiver own srq shared placed (if b then with_all_flushed q else q)
    by true = record { source = was.source; posted = all-posted own q.receives was.posted; message = record {} }
    by false = was

-- ---- PostSend

posted-lists : (past : Past) (w : World) (by : ℕ) (s : Slot) (request : SendRequest) (q : QueuePair) (drawn : Option ℕ) (window : Slot) (more : List Update) → ListsAgree past w → IsThere w q
    → ((u : World) → ((put_all more u).queue ≡ u.queue) × ((put_all more u).srq ≡ u.srq))
    → Leads w (ListsBy past by (verbs.PostSend s request)) (Posted_send (call_of by (verbs.PostSend s request)) q request drawn window more)
posted-lists past w by s request q drawn window more agree there beside = leads-tests w P (post_send_refusals request q) (Refuse_plan call)
    (Answer_plan call answer ((Queue_of q.queue := Present (after_flush p)) ∷ (Cq_of (send_cq_of q) := option_map (after_puts (completions_to q q.send_cq (marks_of_flush p))) (w.cq (send_cq_of q))) ∷ more) (marks_of_flush p))
    (λ r. agree) (λ fails. answered-lists past w (put_all more u) by (verbs.PostSend s request) answer (marks_of_flush p) agree
    (record { incarnation = refl; receives = refl; srq = refl; shared = refl; placed = refl; arrival = refl }) (marks-still p)
    (subst (KeepsSlots w.queue) (sym (beside u).0) (there-keeps w q (after_flush p) there (λ own srq shared placed was. flushed-receiver own srq shared placed p (record { source = was.source; posted = was.posted; message = was.message }))))
    (subst (KeepsShared w.srq) (sym (beside u).1) (same-keeps w.srq)))
  where
    call : Call
    call = call_of by (verbs.PostSend s request)

    P : World → List Mark → Type 0
    P = ListsBy past by (verbs.PostSend s request)

    p : QueuePair
    p = with_send request drawn q

    answer : Answer
    answer = answers.Posted (option_map (key_at (window_index window)) drawn)

    u : World
    u = put_all ((Queue_of q.queue := Present (after_flush p)) ∷ (Cq_of (send_cq_of q) := option_map (after_puts (completions_to q q.send_cq (marks_of_flush p))) (w.cq (send_cq_of q))) ∷ []) w

pub lists-post_send : (c : Configuration) (past : Past) (w : World) (by : ℕ) (s : Slot) (request : SendRequest) → IsSoundWorld c w → ListsAgree past w
    → Leads w (ListsBy past by (verbs.PostSend s request)) (post_send_plan (call_of by (verbs.PostSend s request)) s request)
lists-post_send c past w by s request sound agree = leads-present c w P call s (λ q. posting q request.op) sound (λ r. agree) (λ q there own. on q there request.op)
  where
    call : Call
    call = call_of by (verbs.PostSend s request)

    P : World → List Mark → Type 0
    P = ListsBy past by (verbs.PostSend s request)

    draws : QueuePair → Slot → Window → Plan
    draws q window x = Unless_plan call ((x.kind == 0, NoSuch) ∷ []) (Posted_send call q request (byte_drawn x) window ((Window_of window := after_draw x) ∷ []))

    posting : QueuePair → SendOp → Plan
    posting q (ops.Bind1 window region address count rights) = Look (Window_of (beside s window)) (draws q (beside s window))
    posting q op = Posted_send call q request None s []

    plain : (q : QueuePair) → IsThere w q → Leads w P (Posted_send call q request None s [])
    plain q there = posted-lists past w by s request q None s [] agree there (λ u. (refl, refl))

    on : (q : QueuePair) → IsThere w q → (op : SendOp) → Leads w P (posting q op)
    on q there (ops.Bind1 window region address count rights) = leads-tests w P ((x.kind == 0, NoSuch) ∷ []) (Refuse_plan call)
        (Posted_send call q request (byte_drawn x) (beside s window) ((Window_of (beside s window) := after_draw x) ∷ [])) (λ r. agree)
        (λ fails. posted-lists past w by s request q (byte_drawn x) (beside s window) ((Window_of (beside s window) := after_draw x) ∷ []) agree there (λ u. (refl, refl)))
      where
        x : Window
        x = w.window (beside s window)
    on q there (ops.Bind2 window region low address count rights) = plain q there
    on q there (ops.FastReg region low buffer address count rights pages) = plain q there
    on q there (ops.LocalInv key) = plain q there
    on q there (ops.Send list) = plain q there
    on q there (ops.SendImm imm list) = plain q there
    on q there (ops.SendInv key list) = plain q there
    on q there (ops.Write address key list) = plain q there
    on q there (ops.WriteImm address key imm list) = plain q there
    on q there (ops.Read address key list) = plain q there
    on q there (ops.CmpSwap address key compare swap list) = plain q there
    on q there (ops.FetchAdd address key add list) = plain q there

-- ---- lists that grow

pub slice-more : {A : Type 0} (xs ys : List A) (n : ℕ) (x : A) → slice_get xs n ≡ Some x → slice_get (xs ++ ys) n ≡ Some x
slice-more [] ys n x is = absurd (true≢false (sym (ap is_some is)))
slice-more (y ∷ xs) ys zero x is = is
slice-more (y ∷ xs) ys (suc n) x is = slice-more xs ys n x is

pub slice-last : {A : Type 0} (xs : List A) (x : A) → slice_get (xs ++ x ∷ []) (length xs) ≡ Some x
slice-last [] x = refl
slice-last (y ∷ xs) x = slice-last xs x

drop-more : {A : Type 0} (k : ℕ) (xs ys : List A) → k ≤ length xs → drop k (xs ++ ys) ≡ drop k xs ++ ys
drop-more zero xs ys le = refl
drop-more (suc k) [] ys le = absurd (omega (arith, le))
drop-more (suc k) (x ∷ xs) ys le = drop-more k xs ys (omega (arith, le))

pub holds-more : (f g : ℕ → Option RecvRequest) (placed : ℕ) (m : Option Message) → ((place : ℕ) (x : RecvRequest) → f place ≡ Some x → g place ≡ Some x) → HoldsOwn f placed m → HoldsOwn g placed m
holds-more f g placed None more was = record {}
holds-more f g placed (Some (messages.Write key address left count)) more was = record {}
holds-more f g placed (Some (messages.Send place receive bytes)) more was = (more place receive was.0, was.1)

-- ---- PostRecv

item-posted : (own : List RecvRequest) (request : RecvRequest) (o : Option (WorkQueue RecvRequest)) → IfSome o (HasPosted own) → IfSome (option_map (with_item request) o) (HasPosted (own ++ request ∷ []))
item-posted own request None was = record {}
item-posted own request (Some r) was = record {
  count = omega (arith, was.count, length-append r.items (request ∷ []), length-append own (request ∷ []));
  items = ap (λ xs. xs ++ request ∷ []) was.items ∙ sym (drop-more r.first own (request ∷ []) (omega (arith, was.count)));
}

own-more : (own : List RecvRequest) (request : RecvRequest) (srq : Option Slot) (shared : Slot → List RecvRequest) (place : ℕ) (x : RecvRequest) → receive_by own srq shared place ≡ Some x → receive_by (own ++ request ∷ []) srq shared place ≡ Some x
own-more own request None shared place x is = slice-more own (request ∷ []) place x is
own-more own request (Some srq) shared place x is = is

pub lists-post_recv : (c : Configuration) (past : Past) (w : World) (by : ℕ) (s : Slot) (request : RecvRequest) → IsSoundWorld c w → ListsAgree past w
    → Leads w (ListsBy past by (verbs.PostRecv s request)) (post_recv_plan (call_of by (verbs.PostRecv s request)) s request)
lists-post_recv c past w by s request sound agree = leads-present c w P call s _ sound (λ r. agree) (λ q there own. leads-tests w P (post_recv_refusals request q) (Refuse_plan call)
    (Answer_plan call (answers.Posted None) ((Queue_of q.queue := Present (after_flush (after q)))
    ∷ (Cq_of (recv_cq_of q) := option_map (after_puts (completions_to q q.recv_cq (marks_of_flush (after q)))) (w.cq (recv_cq_of q))) ∷ []) (marks_of_flush (after q)))
    (λ r. agree) (λ fails. posted q there own))
  where
    call : Call
    call = call_of by (verbs.PostRecv s request)

    P : World → List Mark → Type 0
    P = ListsBy past by (verbs.PostRecv s request)

    after : QueuePair → QueuePair
    after q = record q { receives = option_map (with_item request) q.receives }

    start : Past
    start = at_begin (events.Verb by (verbs.PostRecv s request)) past

    r : Past
    r = after_mark (answer_mark call (answers.Posted None)) start

    v : QueuePair → World
    v q = put_all ((Queue_of q.queue := Present (after_flush (after q)))
        ∷ (Cq_of (recv_cq_of q) := option_map (after_puts (completions_to q q.recv_cq (marks_of_flush (after q)))) (w.cq (recv_cq_of q))) ∷ []) w

    name : QueueId
    name = queue_of s

    posted : (q : QueuePair) → IsThere w q → q.queue ≡ name → P (v q) (answer_mark call (answers.Posted None) ∷ marks_of_flush (after q))
    posted q there own = still-ends r (after_marks (marks_of_flush (after q)) r) (v q) (still-leaves (marks_of_flush (after q)) (marks-still (after q)) r) refl (record { queues = λ n. at n (queue_eq q.queue n) refl; later = later; waiting = agree.waiting })
      where
        was : AgreeOnReceiver (past.receives (life_of q.queue (past.incarnation q.queue))) (past.srq q.queue) past.shared (past.placed q.queue) q
        was = was-there past w q agree there

        at : (n : QueueId) (b : Bool) → queue_eq q.queue n ≡ b → AgreeInSlot (r.receives (life_of n (past.incarnation n))) (past.srq n) past.shared (past.placed n) (if b then Present (after_flush (after q)) else w.queue n)
        at n true e = subst (λ m. AgreeOnReceiver (r.receives (life_of m (past.incarnation m))) (past.srq m) past.shared (past.placed m) (after_flush (after q))) (queue-path q.queue n e)
            (subst (λ xs. AgreeOnReceiver xs (past.srq q.queue) past.shared (past.placed q.queue) (after_flush (after q))) (sym grown)
            (flushed-receiver _ (past.srq q.queue) past.shared (past.placed q.queue) (after q) (record {
              source = was.source;
              posted = item-posted _ request q.receives was.posted;
              message = holds-more _ _ (past.placed q.queue) q.responder.message (own-more _ request (past.srq q.queue) past.shared) was.message;
            })))
          where
            life-refl : (l : Correspondent) → correspondent_eq l l ≡ true
            life-refl l = ap (λ b. b && (l.incarnation == l.incarnation)) (queue-refl l.queue) ∙ grind (arith, nat_tests)

            grown : r.receives (life_of q.queue (past.incarnation q.queue)) ≡ past.receives (life_of q.queue (past.incarnation q.queue)) ++ request ∷ []
            grown = ap (λ n. with_at correspondent_eq past.receives (life_of n (past.incarnation n)) (past.receives (life_of n (past.incarnation n)) ++ request ∷ []) (life_of q.queue (past.incarnation q.queue))) (sym own)
                ∙ ap (λ b. if b then past.receives (life_of q.queue (past.incarnation q.queue)) ++ request ∷ [] else past.receives (life_of q.queue (past.incarnation q.queue))) (life-refl (life_of q.queue (past.incarnation q.queue)))
        at n false e = subst (λ xs. AgreeInSlot xs (past.srq n) past.shared (past.placed n) (w.queue n)) (sym other) (agree.queues n)
          where
            other : r.receives (life_of n (past.incarnation n)) ≡ past.receives (life_of n (past.incarnation n))
            other = ap (λ b. if b then past.receives (life_of name (past.incarnation name)) ++ request ∷ [] else past.receives (life_of n (past.incarnation n)))
                (ap (λ b. b && (past.incarnation name == past.incarnation n)) (ap (λ m. queue_eq m n) (sym own) ∙ e))

        later : (n : QueueId) (i : ℕ) → past.incarnation n < i → r.receives (life_of n i) ≡ []
        later n i less = ap (λ b. if b then past.receives (life_of name (past.incarnation name)) ++ request ∷ [] else past.receives (life_of n i)) (apart (queue_eq name n) refl) ∙ agree.later n i less
          where
            unlike : (a b : ℕ) → a < b → (a == b) ≡ false
            unlike a b less = grind (arith, nat_tests, less)

            apart : (b : Bool) → queue_eq name n ≡ b → (b && (past.incarnation name == i)) ≡ false
            apart true e = unlike (past.incarnation name) i (subst (λ m. past.incarnation m < i) (sym (queue-path name n e)) less)
            apart false e = refl

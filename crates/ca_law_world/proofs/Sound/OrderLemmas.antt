-- What a turn completes stands in order: places that ascend, those among marks, and how effects compose.
use Rattle.std.proofs.Common.{◌≡◌, ℕ, suc, ◌+◌, ◌-◌, ◌≤◌, ◌<◌, arith, Bool, true, false, List, [], ◌∷◌, ◌++◌, filter, length, map, Option, None, Some, IfSome, subst, ◌∙◌, ap, ap₂, is_none, is_some, sym, true≢false, refl}
use Rattle.std.proofs.lemmas.List.{append-nil, append_assoc, length-drop, map-append}
use Rattle.std.proofs.lemmas.List.Elements.{filter-append}
use Rattle.std.specs.Option.{option_map, option_map_or}
use Rattle.ca_keys.specs.declared.key.Key.{Key}
use Rattle.ca_keys.specs.declared.names.QueueId.{QueueId}
use Rattle.ca_keys.specs.Equal.{bool_eq}
use Rattle.ca_base.specs.declared.completion.Completion.{Completion}
use Rattle.ca_base.specs.declared.completion.WcOp.{WcOp}
use Rattle.ca_base.specs.declared.completion.WcStatus.{WcStatus}
use Rattle.ca_base.specs.declared.queue_numbers.Message.{Message}
use Rattle.ca_base.specs.declared.queue_numbers.Message.TheVariants as messages
use Rattle.ca_base.specs.declared.refusals.OpRefusal.{OpRefusal}
use Rattle.ca_base.specs.declared.request.PlacedReceive.{PlacedReceive}
use Rattle.ca_base.specs.declared.request.PostedSend.{PostedSend}
use Rattle.ca_base.specs.declared.request.RecvRequest.{RecvRequest}
use Rattle.ca_base.specs.objects.QueuePair.{QueuePair, in_error, receive_in_use, without_answers}
use Rattle.ca_base.specs.objects.WorkQueue.{WorkQueue, after_take, items_from, next_place, with_all_taken}
use Rattle.ca_model.specs.declared.mark.Mark.{Mark}
use Rattle.ca_model.specs.declared.mark.Mark.TheVariants as marks
use Rattle.ca_model.specs.machine.Arrivals.{with_message, with_receive_taken}
use Rattle.ca_model.specs.machine.Completions.{flush_marks, flushed_message, flushed_receives, flushed_sends, receive_completion}
use Rattle.ca_model.specs.machine.Expected.{with_shared_receive}
use Rattle.ca_model.specs.machine.Invariants.{IsReceives, IsTaken}
use Rattle.ca_model.specs.machine.Places.{AreTakenInOrder, Ascend, IsInOrder, completions_in, first_held, places_done, places_in_use}
use Rattle.ca_model.specs.machine.Row.{Effects, queue_and_marks}

-- places that ascend from a bound ascend from a lesser one
pub ascend-low : (less low high : ℕ) (xs : List ℕ) → less ≤ low → Ascend low high xs → Ascend less high xs
ascend-low less low high [] le all = omega (arith, le, all)
ascend-low less low high (x ∷ xs) le all = (omega (arith, le, all.0), all.1)

-- places that ascend to a bound ascend to a greater one
pub ascend-high : (low high more : ℕ) (xs : List ℕ) → high ≤ more → Ascend low high xs → Ascend low more xs
ascend-high low high more [] le all = omega (arith, le, all)
ascend-high low high more (x ∷ xs) le all = (all.0, ascend-high (suc x) high more xs le all.1)

pub ascend-append : (low middle high : ℕ) (xs ys : List ℕ) → Ascend low middle xs → Ascend middle high ys → Ascend low high (xs ++ ys)
ascend-append low middle high [] ys one other = ascend-low low middle high ys one other
ascend-append low middle high (x ∷ xs) ys one other = (one.0, ascend-append (suc x) middle high xs ys one.1 other)

pub completions-append : (ms ns : List Mark) → completions_in (ms ++ ns) ≡ completions_in ms ++ completions_in ns
completions-append [] ns = refl
completions-append (m ∷ ms) ns = by m (completions-append ms ns)
  where
    done : Mark → List Completion
    done (marks.Done queue c cause) = c ∷ []
    done m = []

    by : (m : Mark) → completions_in (ms ++ ns) ≡ completions_in ms ++ completions_in ns
        → done m ++ completions_in (ms ++ ns) ≡ done m ++ completions_in ms ++ completions_in ns
    by m e = ap (λ cs. done m ++ cs) e ∙ sym (append_assoc (done m) (completions_in ms) (completions_in ns))

-- the places of completions of one side
abbrev places_in : Bool → List Completion → List ℕ
places_in receive cs = map (λ c. c.place) (filter (λ c. bool_eq c.receive receive) cs)

pub places-append : (receive : Bool) (ms ns : List Mark) → places_done receive (ms ++ ns) ≡ places_done receive ms ++ places_done receive ns
places-append receive ms ns = ap (places_in receive) (completions-append ms ns)
    ∙ ap (map (λ (c : Completion). c.place)) (filter-append (λ (c : Completion). bool_eq c.receive receive) (completions_in ms) (completions_in ns))
    ∙ map-append (λ (c : Completion). c.place) (filter (λ c. bool_eq c.receive receive) (completions_in ms)) (filter (λ c. bool_eq c.receive receive) (completions_in ns))

-- marks that tell of no completion
pub quiet-append : (ms ns : List Mark) → completions_in ms ≡ [] → completions_in ns ≡ [] → completions_in (ms ++ ns) ≡ []
quiet-append ms ns one other = completions-append ms ns ∙ ap₂ (λ xs ys. xs ++ ys) one other

pub places-quiet : (receive : Bool) (ms : List Mark) → completions_in ms ≡ [] → places_done receive ms ≡ []
places-quiet receive ms quiet = ap (places_in receive) quiet

pub places-behind : (receive : Bool) (ms ns : List Mark) → completions_in ms ≡ [] → places_done receive (ms ++ ns) ≡ places_done receive ns
places-behind receive ms ns quiet = ap (places_in receive) (completions-append ms ns ∙ ap (λ xs. xs ++ completions_in ns) quiet)

-- the same sends and receives, unfinished and in use
pub record IsSameWork (q p : QueuePair) : Type 0 where
  pub sends : p.sends ≡ q.sends
  pub receives : p.receives ≡ q.receives
  pub oldest : p.requester.oldest ≡ q.requester.oldest
  pub in_use : receive_in_use p.responder.message ≡ receive_in_use q.responder.message

-- own receives where other places complete, or another message holds the same receive
pub taken-as : (a b : Option (WorkQueue RecvRequest)) (x y z : Option Message) (ms ns : List Mark) → receive_in_use y ≡ receive_in_use x
    → places_done true ns ≡ places_done true ms → AreTakenInOrder a b x z ms → AreTakenInOrder a b y z ns
taken-as None None x y z ms ns held same one = record {}
taken-as None (Some b) x y z ms ns held same one = absurd one
taken-as (Some a) None x y z ms ns held same one = absurd one
taken-as (Some a) (Some b) x y z ms ns held same one = (
  one.0,
  subst (λ u. Ascend (option_map_or (λ place. place) u a.next_taken) (first_held b z) (places_done true ns)) (sym held)
      (subst (Ascend (first_held a x) (first_held b z)) (sym same) one.1),
)

taken-to : (a b : Option (WorkQueue RecvRequest)) (x y z : Option Message) (ms : List Mark) → receive_in_use z ≡ receive_in_use y
    → AreTakenInOrder a b x y ms → AreTakenInOrder a b x z ms
taken-to None None x y z ms held one = record {}
taken-to None (Some b) x y z ms held one = absurd one
taken-to (Some a) None x y z ms held one = absurd one
taken-to (Some a) (Some b) x y z ms held one = (
  one.0,
  subst (λ u. Ascend (first_held a x) (option_map_or (λ place. place) u b.next_taken) (places_done true ms)) (sym held) one.1,
)

-- nothing is taken, and nothing completes
pub taken-still : (a : Option (WorkQueue RecvRequest)) (x y : Option Message) (ms : List Mark) → receive_in_use y ≡ receive_in_use x → places_done true ms ≡ []
    → AreTakenInOrder a a x y ms
taken-still None x y ms held none = record {}
taken-still (Some a) x y ms held none = (
  refl,
  subst (Ascend (first_held a x) (first_held a y)) (sym none) (omega (arith, ap (λ u. option_map_or (λ place. place) u a.next_taken) held)),
)

taken-then : (a b c : Option (WorkQueue RecvRequest)) (x y z : Option Message) (ms ns : List Mark) → AreTakenInOrder a b x y ms → AreTakenInOrder b c y z ns
    → AreTakenInOrder a c x z (ms ++ ns)
taken-then None None None x y z ms ns one other = record {}
taken-then None None (Some c) x y z ms ns one other = absurd other
taken-then None (Some b) c x y z ms ns one other = absurd one
taken-then (Some a) None c x y z ms ns one other = absurd one
taken-then (Some a) (Some b) None x y z ms ns one other = absurd other
taken-then (Some a) (Some b) (Some c) x y z ms ns one other = (
  other.0 ∙ ap (λ (r : WorkQueue RecvRequest). record r { next_taken = c.next_taken }) one.0,
  subst (Ascend (first_held a x) (first_held c z)) (sym (places-append true ms ns))
      (ascend-append (first_held a x) (first_held b y) (first_held c z) (places_done true ms) (places_done true ns) one.1 other.1),
)

none-taken-on : (a b : Option (WorkQueue RecvRequest)) (x y : Option Message) (ms : List Mark) → AreTakenInOrder a b x y ms → a ≡ None → b ≡ None
none-taken-on None None x y ms one e = refl
none-taken-on None (Some b) x y ms one e = absurd one
none-taken-on (Some a) b x y ms one e = absurd (true≢false (ap is_some e))

-- effects of the same work as those of a queue pair before it
pub order-from : (q p : QueuePair) (e : Effects) → IsSameWork q p → IsInOrder p e → IsInOrder q e
order-from q p e same order = record {
  sends = order.sends ∙ same.sends;
  done = subst (λ o. Ascend o e.queue.requester.oldest (places_done false e.marks)) same.oldest order.done;
  own = subst (λ r. AreTakenInOrder r e.queue.receives q.responder.message e.queue.responder.message e.marks) same.receives
      (taken-as p.receives e.queue.receives p.responder.message q.responder.message e.queue.responder.message e.marks e.marks (sym same.in_use) refl order.own);
  held = λ none takes. order.held (same.receives ∙ none) takes ∙ ap (λ u. option_map_or (λ place. place ∷ []) u []) same.in_use;
}

-- effects that end in the same work, with as many completions
pub order-as : (q : QueuePair) (e f : Effects) → IsSameWork e.queue f.queue → completions_in f.marks ≡ completions_in e.marks → f.takes_shared ≡ e.takes_shared
    → IsInOrder q e → IsInOrder q f
order-as q e f same alike takes order = record {
  sends = same.sends ∙ order.sends;
  done = subst (λ o. Ascend q.requester.oldest o (places_done false f.marks)) (sym same.oldest)
      (subst (Ascend q.requester.oldest e.queue.requester.oldest) (sym (ap (places_in false) alike)) order.done);
  own = subst (λ r. AreTakenInOrder q.receives r q.responder.message f.queue.responder.message f.marks) (sym same.receives)
      (taken-to q.receives e.queue.receives q.responder.message e.queue.responder.message f.queue.responder.message f.marks same.in_use
      (taken-as q.receives e.queue.receives q.responder.message q.responder.message e.queue.responder.message e.marks f.marks refl (ap (places_in true) alike) order.own));
  held = λ none shared. ap₂ (λ xs u. xs ++ option_map_or (λ place. place ∷ []) u []) (ap (places_in true) alike) same.in_use ∙ order.held none (sym takes ∙ shared);
}

-- marks that tell of no completion, before those of effects
pub order-behind : (q : QueuePair) (e : Effects) (ms : List Mark) → completions_in ms ≡ [] → IsInOrder q e → IsInOrder q (record e { marks = ms ++ e.marks })
order-behind q e ms quiet order = order-as q e (record e { marks = ms ++ e.marks }) (record { sends = refl; receives = refl; oldest = refl; in_use = refl })
    (completions-append ms e.marks ∙ ap (λ xs. xs ++ completions_in e.marks) quiet) refl order

-- nothing is taken, and nothing completes
pub order-still : (q : QueuePair) (e : Effects) → IsSameWork q e.queue → completions_in e.marks ≡ [] → IsInOrder q e
order-still q e same quiet = record {
  sends = same.sends;
  done = subst (Ascend q.requester.oldest e.queue.requester.oldest) (sym (places-quiet false e.marks quiet)) (omega (arith, same.oldest));
  own = subst (λ r. AreTakenInOrder q.receives r q.responder.message e.queue.responder.message e.marks) (sym same.receives)
      (taken-still q.receives q.responder.message e.queue.responder.message e.marks same.in_use (places-quiet true e.marks quiet));
  held = λ none takes. ap₂ (λ xs u. xs ++ option_map_or (λ place. place ∷ []) u []) (places-quiet true e.marks quiet) same.in_use;
}

-- effects that take no shared receive, and what comes after them
pub order-then : (q : QueuePair) (e g : Effects) → e.takes_shared ≡ false → IsInOrder q e → IsInOrder e.queue g → IsInOrder q (record g { marks = e.marks ++ g.marks })
order-then q e g takes one other = record {
  sends = other.sends ∙ one.sends;
  done = subst (Ascend q.requester.oldest g.queue.requester.oldest) (sym (places-append false e.marks g.marks))
      (ascend-append q.requester.oldest e.queue.requester.oldest g.queue.requester.oldest (places_done false e.marks) (places_done false g.marks) one.done other.done);
  own = taken-then q.receives e.queue.receives g.queue.receives q.responder.message e.queue.responder.message g.queue.responder.message e.marks g.marks one.own other.own;
  held = λ none shared. ap (λ xs. xs ++ places_in_use g.queue.responder.message) (places-append true e.marks g.marks)
      ∙ append_assoc (places_done true e.marks) (places_done true g.marks) (places_in_use g.queue.responder.message)
      ∙ ap (λ xs. places_done true e.marks ++ xs)
      (other.held (none-taken-on q.receives e.queue.receives q.responder.message e.queue.responder.message e.marks one.own none) shared)
      ∙ one.held none takes;
}

-- flushed sends stand one after another, and are no receives
sends-ascend : (queue : QueueId) (place : ℕ) (ps : List PostedSend) → Ascend place (place + length ps) (places_done false (flushed_sends queue place ps))
sends-ascend queue place [] = omega arith
sends-ascend queue place (p ∷ ps) = (
  omega arith,
  ascend-high (suc place) (suc place + length ps) (place + length (p ∷ ps)) (places_done false (flushed_sends queue (suc place) ps)) (omega arith)
      (sends-ascend queue (suc place) ps),
)

no-receives : (queue : QueueId) (place : ℕ) (ps : List PostedSend) → places_done true (flushed_sends queue place ps) ≡ []
no-receives queue place [] = refl
no-receives queue place (p ∷ ps) = no-receives queue (suc place) ps

-- so do flushed receives
receives-ascend : (queue : QueueId) (place : ℕ) (rs : List RecvRequest) → Ascend place (place + length rs) (places_done true (flushed_receives queue place rs))
receives-ascend queue place [] = omega arith
receives-ascend queue place (r ∷ rs) = (
  omega arith,
  ascend-high (suc place) (suc place + length rs) (place + length (r ∷ rs)) (places_done true (flushed_receives queue (suc place) rs)) (omega arith)
      (receives-ascend queue (suc place) rs),
)

no-sends : (queue : QueueId) (place : ℕ) (rs : List RecvRequest) → places_done false (flushed_receives queue place rs) ≡ []
no-sends queue place [] = refl
no-sends queue place (r ∷ rs) = no-sends queue (suc place) rs

message-done : (queue : QueueId) (m : Option Message) → places_done true (flushed_message queue m) ≡ places_in_use m
message-done queue None = refl
message-done queue (Some (messages.Send place receive bytes)) = refl
message-done queue (Some (messages.Write key address left count)) = refl

message-sends : (queue : QueueId) (m : Option Message) → places_done false (flushed_message queue m) ≡ []
message-sends queue None = refl
message-sends queue (Some (messages.Send place receive bytes)) = refl
message-sends queue (Some (messages.Write key address left count)) = refl

-- the posted receives, flushed
abbrev flushed_own : QueueId → Option (WorkQueue RecvRequest) → List Mark
flushed_own queue o = option_map_or (λ r. flushed_receives queue r.next_taken (items_from r.next_taken r)) o []

own-sends : (queue : QueueId) (o : Option (WorkQueue RecvRequest)) → places_done false (flushed_own queue o) ≡ []
own-sends queue None = refl
own-sends queue (Some r) = no-sends queue r.next_taken (items_from r.next_taken r)

flush-places : (q : QueuePair) (receive : Bool) → places_done receive (flush_marks q)
    ≡ places_done receive (flushed_sends q.queue q.requester.oldest (items_from q.requester.oldest q.sends)) ++ places_done receive (flushed_message q.queue q.responder.message)
    ++ places_done receive (flushed_own q.queue q.receives)
flush-places q receive =
    places-append receive (flushed_sends q.queue q.requester.oldest (items_from q.requester.oldest q.sends) ++ flushed_message q.queue q.responder.message) (flushed_own q.queue q.receives)
    ∙ ap (λ xs. xs ++ places_done receive (flushed_own q.queue q.receives))
    (places-append receive (flushed_sends q.queue q.requester.oldest (items_from q.requester.oldest q.sends)) (flushed_message q.queue q.responder.message))

flush-sends : (q : QueuePair) → places_done false (flush_marks q) ≡ places_done false (flushed_sends q.queue q.requester.oldest (items_from q.requester.oldest q.sends))
flush-sends q = flush-places q false
    ∙ ap₂ (λ ys zs. places_done false (flushed_sends q.queue q.requester.oldest (items_from q.requester.oldest q.sends)) ++ ys ++ zs)
    (message-sends q.queue q.responder.message) (own-sends q.queue q.receives)
    ∙ append-nil _ ∙ append-nil _

pub flush-receives : (q : QueuePair) → places_done true (flush_marks q) ≡ places_in_use q.responder.message ++ places_done true (flushed_own q.queue q.receives)
flush-receives q = flush-places q true
    ∙ ap₂ (λ xs ys. xs ++ ys ++ places_done true (flushed_own q.queue q.receives))
    (no-receives q.queue q.requester.oldest (items_from q.requester.oldest q.sends)) (message-done q.queue q.responder.message)

-- all that is posted and unfinished completes in order
pub flush-order : (q : QueuePair) → q.sends.first ≤ q.requester.oldest → q.requester.oldest ≤ next_place q.sends → IfSome q.receives IsReceives
    → IsTaken q.receives q.responder.message → IsInOrder q (queue_and_marks (in_error q) (flush_marks q))
flush-order q low high all taken = record {
  sends = refl;
  done = subst (Ascend q.requester.oldest (next_place q.sends)) (sym (flush-sends q)) (ascend-high q.requester.oldest
      (q.requester.oldest + length (items_from q.requester.oldest q.sends)) (next_place q.sends) _
      (omega (arith, low, high, length-drop (q.requester.oldest - q.sends.first) q.sends.items)) (sends-ascend q.queue q.requester.oldest (items_from q.requester.oldest q.sends)));
  own = by q.receives all taken (flush-receives q);
  held = λ none takes. append-nil (places_done true (flush_marks q)) ∙ flush-receives q
      ∙ ap (λ o. places_in_use q.responder.message ++ places_done true (flushed_own q.queue o)) none ∙ append-nil (places_in_use q.responder.message);
}
  where
    from : (r : WorkQueue RecvRequest) (m : Option Message) → IsReceives r → IsTaken (Some r) m
        → Ascend (first_held r m) (next_place r) (places_in_use m ++ places_done true (flushed_own q.queue (Some r)))
    from r m all taken = at m taken (ascend-high r.next_taken (r.next_taken + length (items_from r.next_taken r)) (next_place r)
        (places_done true (flushed_own q.queue (Some r))) (omega (arith, all.taken, all.waiting, length-drop (r.next_taken - r.first) r.items))
        (receives-ascend q.queue r.next_taken (items_from r.next_taken r)))
      where
        at : (m : Option Message) → IsTaken (Some r) m → Ascend r.next_taken (next_place r) (places_done true (flushed_own q.queue (Some r)))
            → Ascend (first_held r m) (next_place r) (places_in_use m ++ places_done true (flushed_own q.queue (Some r)))
        at None taken rest = rest
        at (Some (messages.Write key address left count)) taken rest = rest
        at (Some (messages.Send place receive bytes)) taken rest =
            (omega arith, ascend-low (suc place) r.next_taken (next_place r) (places_done true (flushed_own q.queue (Some r))) (omega (arith, taken)) rest)

    by : (o : Option (WorkQueue RecvRequest)) → IfSome o IsReceives → IsTaken o q.responder.message
        → places_done true (flush_marks q) ≡ places_in_use q.responder.message ++ places_done true (flushed_own q.queue o)
        → AreTakenInOrder o (option_map with_all_taken o) q.responder.message None (flush_marks q)
    by None all taken e = record {}
    by (Some r) all taken e =
        (refl, subst (Ascend (first_held r q.responder.message) (next_place r)) (sym e) (from r q.responder.message all taken))

pub silent-order : (q : QueuePair) → q.sends.first ≤ q.requester.oldest → q.requester.oldest ≤ next_place q.sends → IfSome q.receives IsReceives
    → IsTaken q.receives q.responder.message → IsInOrder q (queue_and_marks (without_answers (in_error q)) (flush_marks q))
silent-order q low high all taken = order-as q (queue_and_marks (in_error q) (flush_marks q)) (queue_and_marks (without_answers (in_error q)) (flush_marks q))
    (record { sends = refl; receives = refl; oldest = refl; in_use = refl }) refl refl (flush-order q low high all taken)

-- the queue pair with this receive in use
abbrev pub holding : PlacedReceive → QueuePair → QueuePair
holding r q = with_message (Some (messages.Send r.place r.receive 0)) q

-- the receive in use completes
pub receive-order : (r : PlacedReceive) (q p : QueuePair) (id : ℕ) (status : WcStatus) (op : WcOp) (count : ℕ) (imm : Option ℕ) (invalidated : Option Key) (cause : Option OpRefusal)
    → IsSameWork (with_message None q) p → IfSome q.receives (λ x. r.place < x.next_taken)
    → IsInOrder (holding r q) (queue_and_marks p (marks.Done q.queue (receive_completion q.queue r.place id status op count imm invalidated) cause ∷ []))
receive-order r q p id status op count imm invalidated cause same taken = record {
  sends = same.sends;
  done = omega (arith, same.oldest);
  own = subst (λ x. AreTakenInOrder q.receives x (holding r q).responder.message p.responder.message (done ∷ [])) (sym same.receives)
      (taken-to q.receives q.receives (holding r q).responder.message None p.responder.message (done ∷ []) same.in_use (by q.receives taken));
  held = λ none takes. ap (λ u. r.place ∷ option_map_or (λ place. place ∷ []) u []) same.in_use;
}
  where
    done : Mark
    done = marks.Done q.queue (receive_completion q.queue r.place id status op count imm invalidated) cause

    by : (o : Option (WorkQueue RecvRequest)) → IfSome o (λ x. r.place < x.next_taken) → AreTakenInOrder o o (holding r q).responder.message None (done ∷ [])
    by None taken = record {}
    by (Some x) taken = (refl, (omega arith, omega (arith, taken)))

-- the next receive is taken, and nothing was in use
pub taking-order : (q : QueuePair) (r : PlacedReceive) (e : Effects) → receive_in_use q.responder.message ≡ None → IfSome q.receives (λ x. r.place ≡ x.next_taken)
    → is_some q.receives ≡ is_none q.srq → IsInOrder (holding r (with_receive_taken q)) e → IsInOrder q (with_shared_receive q e)
taking-order q r e unheld place source order = record {
  sends = order.sends;
  done = order.done;
  own = by q.receives e.queue.receives place order.own;
  held = λ none takes. absurd (true≢false (sym (shared q.srq (sym (ap is_some none) ∙ source)) ∙ takes));
}
  where
    shared : (o : Option ℕ) → false ≡ is_none o → option_map_or (λ srq. true) o false ≡ true
    shared None e = absurd (true≢false (sym e))
    shared (Some srq) e = refl

    by : (a b : Option (WorkQueue RecvRequest)) → IfSome a (λ x. r.place ≡ x.next_taken)
        → AreTakenInOrder (option_map after_take a) b (holding r q).responder.message e.queue.responder.message e.marks
        → AreTakenInOrder a b q.responder.message e.queue.responder.message e.marks
    by None None place one = record {}
    by None (Some b) place one = absurd one
    by (Some a) None place one = absurd one
    by (Some a) (Some b) place one = (
      one.0,
      subst (λ u. Ascend (option_map_or (λ place. place) u a.next_taken) (first_held b e.queue.responder.message) (places_done true e.marks)) (sym unheld)
          (subst (λ low. Ascend low (first_held b e.queue.responder.message) (places_done true e.marks)) place one.1),
    )

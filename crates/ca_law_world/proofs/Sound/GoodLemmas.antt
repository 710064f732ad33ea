-- What an engine makes of a queue pair that can come up is one again: what effects keep, and how they compose.
use Rattle.std.proofs.Common.{◌≡◌, ℕ, suc, ◌+◌, ◌-◌, ◌≤◌, ◌<◌, arith, Bool, true, false, List, [], ◌∷◌, ◌++◌, length, Option, None, Some, IfSome, subst, ◌∙◌, ap, is_some, true≢false, sym, refl, rules}
use Rattle.std.proofs.lemmas.List.{length-drop}
use Rattle.std.specs.Option.{option_map, option_map_or}
use Rattle.ca_base.specs.declared.change.State.TheVariants as states
use Rattle.ca_base.specs.declared.completion.WcStatus.{WcStatus}
use Rattle.ca_base.specs.declared.queue_numbers.Message.{Message}
use Rattle.ca_base.specs.declared.queue_numbers.Message.TheVariants as messages
use Rattle.ca_base.specs.declared.queue_numbers.RequesterNumbers.{RequesterNumbers}
use Rattle.ca_base.specs.declared.refusals.OpRefusal.{OpRefusal}
use Rattle.ca_base.specs.declared.request.RecvRequest.{RecvRequest}
use Rattle.ca_base.specs.declared.request.PostedSend.{PostedSend}
use Rattle.ca_base.specs.declared.request.SendRequest.{SendRequest}
use Rattle.ca_base.specs.objects.QueuePair.{QueuePair, in_error, without_answers}
use Rattle.ca_base.specs.objects.WorkQueue.{WorkQueue, items_from, next_place, with_all_taken}
use Rattle.ca_model.specs.declared.mark.Mark.{Mark}
use Rattle.ca_model.specs.declared.mark.Mark.TheVariants as marks
use Rattle.ca_model.specs.machine.Acknowledgements.{and_then, failure_effects, with_requester, without_oldest}
use Rattle.ca_model.specs.machine.Completions.{failure_mark, flush_marks, flushed_message, flushed_receives, flushed_sends}
use Rattle.ca_model.specs.machine.Places.{IsInOrder, completions_in}
use Rattle.ca_model.specs.machine.Row.{Effects, queue_and_marks}
use Rattle.ca_model.specs.machine.Invariants.{begun_end, IsQueue, IsReceives, IsRequester, IsTaken, is_sending}
use Rattle.ca_model.specs.machine.Sound.{IsFinished}
use Rattle.ca_law_world.proofs.Sound.OrderLemmas.{flush-order, order-then, silent-order, taken-as}

-- what one mark tells of a queue pair's completion: its request is finished, or its receive taken
abbrev pub IsSettledMark : QueuePair → Mark → Type 0
IsSettledMark q (marks.Done queue x cause) = (x.queue ≡ q.queue) × IsFinished q x.receive x.place
IsSettledMark q m = Unit {0}

abbrev pub AreSettledMarks : QueuePair → List Mark → Type 0
AreSettledMarks q [] = Unit {0}
AreSettledMarks q (m ∷ ms) = IsSettledMark q m × AreSettledMarks q ms

-- as many of its own receives were taken, or more
abbrev pub IsTakenOn : Option (WorkQueue RecvRequest) → Option (WorkQueue RecvRequest) → Type 0
IsTakenOn None None = Unit {0}
IsTakenOn (Some a) (Some b) = a.next_taken ≤ b.next_taken
IsTakenOn a b = ⊥

-- the same queue pair, later: what was finished and taken is
pub record IsLater (q p : QueuePair) : Type 0 where
  pub queue : p.queue ≡ q.queue
  pub domain : p.domain ≡ q.domain
  pub send_cq : p.send_cq ≡ q.send_cq
  pub recv_cq : p.recv_cq ≡ q.recv_cq
  pub srq : p.srq ≡ q.srq
  pub finished : q.requester.oldest ≤ p.requester.oldest
  pub taken : IsTakenOn q.receives p.receives

-- effects that leave a queue pair that can come up, later, with all that completed settled and in order
pub record IsGood (q : QueuePair) (e : Effects) : Type 0 where
  pub sound : IsQueue e.queue
  pub later : IsLater q e.queue
  pub settled : AreSettledMarks e.queue e.marks
  pub order : IsInOrder q e

pub settled-append : (q : QueuePair) (ms ns : List Mark) → AreSettledMarks q ms → AreSettledMarks q ns → AreSettledMarks q (ms ++ ns)
settled-append q [] ns one other = other
settled-append q (m ∷ ms) ns one other = (one.0, settled-append q ms ns one.1 other)

-- marks that tell of no completion are settled
pub settled-quiet : (q : QueuePair) (ms : List Mark) → completions_in ms ≡ [] → AreSettledMarks q ms
settled-quiet q [] e = record {}
settled-quiet q (m ∷ ms) e = one m e (settled-quiet q ms)
  where
    one : (m : Mark) → completions_in (m ∷ ms) ≡ [] → (completions_in ms ≡ [] → AreSettledMarks q ms) → AreSettledMarks q (m ∷ ms)
    one (marks.Done queue x cause) e rest = absurd (omega (arith, ap length e))
    one (marks.Verb by verb answer) e rest = (record {}, rest e)
    one (marks.Granted g) e rest = (record {}, rest e)
    one (marks.Revoked adapter key) e rest = (record {}, rest e)
    one (marks.Remote queue domain envelope key kind address count verdict) e rest = (record {}, rest e)
    one (marks.Local queue domain key kind address count verdict) e rest = (record {}, rest e)
    one (marks.Stored place bytes) e rest = (record {}, rest e)
    one (marks.Sent source target index request bytes) e rest = (record {}, rest e)
    one (marks.Lost target index) e rest = (record {}, rest e)
    one (marks.Arrived target index) e rest = (record {}, rest e)
    one (marks.Dropped target cause) e rest = (record {}, rest e)
    one (marks.Timer queue silent) e rest = (record {}, rest e)

pub taken-same : (a : Option (WorkQueue RecvRequest)) → IsTakenOn a a
taken-same None = record {}
taken-same (Some a) = omega arith

taken-on : (a b c : Option (WorkQueue RecvRequest)) → IsTakenOn a b → IsTakenOn b c → IsTakenOn a c
taken-on None None None one other = record {}
taken-on None None (Some c) one other = absurd other
taken-on None (Some b) c one other = absurd one
taken-on (Some a) None c one other = absurd one
taken-on (Some a) (Some b) None one other = absurd other
taken-on (Some a) (Some b) (Some c) one other = omega (arith, one, other)

pub later-same : (q : QueuePair) → IsLater q q
later-same q = record { queue = refl; domain = refl; send_cq = refl; recv_cq = refl; srq = refl; finished = omega arith; taken = taken-same q.receives }

pub later-on : (a b c : QueuePair) → IsLater a b → IsLater b c → IsLater a c
later-on a b c one other = record {
  queue = other.queue ∙ one.queue;
  domain = other.domain ∙ one.domain;
  send_cq = other.send_cq ∙ one.send_cq;
  recv_cq = other.recv_cq ∙ one.recv_cq;
  srq = other.srq ∙ one.srq;
  finished = omega (arith, one.finished, other.finished);
  taken = taken-on a.receives b.receives c.receives one.taken other.taken;
}

taken-later : (a b : Option (WorkQueue RecvRequest)) (place : ℕ) → IsTakenOn a b → IfSome a (λ r. place < r.next_taken) → IfSome b (λ r. place < r.next_taken)
taken-later None None place on done = record {}
taken-later None (Some b) place on done = absurd on
taken-later (Some a) None place on done = absurd on
taken-later (Some a) (Some b) place on done = omega (arith, on, done)

pub finished-later : (q p : QueuePair) (receive : Bool) (place : ℕ) → IsLater q p → IsFinished q receive place → IsFinished p receive place
finished-later q p true place later done = taken-later q.receives p.receives place later.taken done
finished-later q p false place later done = omega (arith, later.finished, done)

pub settled-later : (q p : QueuePair) (ms : List Mark) → IsLater q p → AreSettledMarks q ms → AreSettledMarks p ms
settled-later q p [] later all = record {}
settled-later q p (m ∷ ms) later all = (one m all.0, settled-later q p ms later all.1)
  where
    one : (m : Mark) → IsSettledMark q m → IsSettledMark p m
    one (marks.Done queue x cause) done = (done.0 ∙ sym later.queue, finished-later q p x.receive x.place later done.1)
    one (marks.Verb by verb answer) done = record {}
    one (marks.Granted g) done = record {}
    one (marks.Revoked adapter key) done = record {}
    one (marks.Remote queue domain envelope key kind address count verdict) done = record {}
    one (marks.Local queue domain key kind address count verdict) done = record {}
    one (marks.Stored place bytes) done = record {}
    one (marks.Sent source target index request bytes) done = record {}
    one (marks.Lost target index) done = record {}
    one (marks.Arrived target index) done = record {}
    one (marks.Dropped target cause) done = record {}
    one (marks.Timer queue silent) done = record {}

pub good-then : (q : QueuePair) (e : Effects) (f : QueuePair → Effects) → e.takes_shared ≡ false → IsGood q e → IsGood e.queue (f e.queue) → IsGood q (and_then e f)
good-then q e f takes one other = record {
  sound = other.sound;
  later = later-on q e.queue (f e.queue).queue one.later other.later;
  settled = settled-append (f e.queue).queue e.marks (f e.queue).marks (settled-later e.queue (f e.queue).queue e.marks other.later one.settled) other.settled;
  order = order-then q e (f e.queue) takes one.order other.order;
}

-- the sends from a place on are finished once the next one to be posted is the oldest
flushed-sends : (q p : QueuePair) (place : ℕ) (ps : List PostedSend) → p.queue ≡ q.queue → place + length ps ≤ p.requester.oldest
    → AreSettledMarks p (flushed_sends q.queue place ps)
flushed-sends q p place [] same enough = record {}
flushed-sends q p place (x ∷ xs) same enough =
    ((sym same, omega (arith, enough)), flushed-sends q p (suc place) xs same (omega (arith, enough)))

flushed-receives : (q p : QueuePair) (place : ℕ) (rs : List RecvRequest) → p.queue ≡ q.queue → IfSome p.receives (λ r. place + length rs ≤ r.next_taken)
    → AreSettledMarks p (flushed_receives q.queue place rs)
flushed-receives q p place [] same enough = record {}
flushed-receives q p place (x ∷ xs) same enough =
    ((sym same, by p.receives enough), flushed-receives q p (suc place) xs same (next p.receives enough))
  where
    by : (r : Option (WorkQueue RecvRequest)) → IfSome r (λ r. place + length (x ∷ xs) ≤ r.next_taken) → IfSome r (λ r. place < r.next_taken)
    by None enough = record {}
    by (Some r) enough = omega (arith, enough)

    next : (r : Option (WorkQueue RecvRequest)) → IfSome r (λ r. place + length (x ∷ xs) ≤ r.next_taken) → IfSome r (λ r. suc place + length xs ≤ r.next_taken)
    next None enough = record {}
    next (Some r) enough = omega (arith, enough)

pub items-end : {A : Type 0} (q : WorkQueue A) (place : ℕ) → q.first ≤ place → place ≤ next_place q → place + length (items_from place q) ≡ next_place q
items-end q place low high = omega (arith, low, high, length-drop (place - q.first) q.items)

-- all that is posted and unfinished is finished by a flush
pub flush-settled : (q : QueuePair) → q.sends.first ≤ q.requester.oldest → q.requester.oldest ≤ next_place q.sends → IfSome q.receives IsReceives
    → IsTaken q.receives q.responder.message → AreSettledMarks (in_error q) (flush_marks q)
flush-settled q low high all-receives taken-receive = settled-append (in_error q) (flushed_sends q.queue q.requester.oldest (items_from q.requester.oldest q.sends) ++ flushed_message q.queue q.responder.message) _
    (settled-append (in_error q) (flushed_sends q.queue q.requester.oldest (items_from q.requester.oldest q.sends)) _
    (flushed-sends q (in_error q) q.requester.oldest (items_from q.requester.oldest q.sends) refl
    (omega (arith, items-end q.sends q.requester.oldest low high)))
    (message q.responder.message q.receives all-receives taken-receive refl)) (receives q.receives all-receives refl)
  where
    message : (m : Option Message) (r : Option (WorkQueue RecvRequest)) → IfSome r IsReceives → IsTaken r m → q.receives ≡ r
        → AreSettledMarks (in_error q) (flushed_message q.queue m)
    message None r sound taken e = record {}
    message (Some (messages.Write key address left count)) r sound taken e = record {}
    message (Some (messages.Send place receive bytes)) None sound taken e =
        ((refl, subst (λ x. IfSome (option_map with_all_taken x) (λ r. place < r.next_taken)) (sym e) (record {})), record {})
    message (Some (messages.Send place receive bytes)) (Some r) sound taken e =
        ((refl, subst (λ x. IfSome (option_map with_all_taken x) (λ r. place < r.next_taken)) (sym e) (omega (arith, taken, sound.waiting))), record {})

    receives : (r : Option (WorkQueue RecvRequest)) → IfSome r IsReceives → q.receives ≡ r
        → AreSettledMarks (in_error q) (option_map_or (λ r. flushed_receives q.queue r.next_taken (items_from r.next_taken r)) r [])
    receives None sound e = record {}
    receives (Some r) sound e = flushed-receives q (in_error q) r.next_taken (items_from r.next_taken r) refl
        (subst (λ x. IfSome (option_map with_all_taken x) (λ y. r.next_taken + length (items_from r.next_taken r) ≤ y.next_taken)) (sym e)
        (omega (arith, items-end r r.next_taken sound.taken sound.waiting)))

receives-flushed : (r : Option (WorkQueue RecvRequest)) → IfSome r IsReceives → IfSome (option_map with_all_taken r) IsReceives
receives-flushed None s = record {}
receives-flushed (Some r) s = record {
  queue = record { some = s.queue.some; depth = s.queue.depth; room = s.queue.room; items = s.queue.items };
  taken = omega (arith, s.taken, s.waiting);
  waiting = omega arith;
}

taken-flushed : (r : Option (WorkQueue RecvRequest)) → IfSome r IsReceives → IsTakenOn r (option_map with_all_taken r)
taken-flushed None s = record {}
taken-flushed (Some r) s = s.waiting

some-mapped : (r : Option (WorkQueue RecvRequest)) → is_some (option_map with_all_taken r) ≡ is_some r
some-mapped None = refl
some-mapped (Some r) = refl

pub none-taken : (r : Option (WorkQueue RecvRequest)) → IsTaken r None
none-taken None = record {}
none-taken (Some r) = record {}

-- a queue pair in Error, of one that can come up
pub error-queue : (q : QueuePair) → IsQueue q → IsQueue (in_error q)
error-queue q s = record {
  sends = s.sends;
  receives = receives-flushed q.receives s.receives;
  source = some-mapped q.receives ∙ s.source;
  requester = record {
    finished = omega (arith, s.requester.finished, s.requester.begun, s.requester.waiting);
    begun = omega arith;
    waiting = omega arith;
    base = s.requester.base;
    outstanding = s.requester.outstanding;
    retry = s.requester.retry;
    rnr_retry = s.requester.rnr_retry;
    reads = s.requester.reads;
    retried = s.requester.retried;
    retries = λ sending. absurd (true≢false (sym sending));
    fresh = λ fresh. absurd (true≢false (sym fresh));
  };
  begun = λ sending. absurd (true≢false (sym sending));
  responder = record {
    base = s.responder.base;
    msn = s.responder.msn;
    mtu = s.responder.mtu;
    rnr_code = s.responder.rnr_code;
    message = record {};
    answers = s.responder.answers;
    silent = λ idle. absurd (true≢false (sym idle));
    empty = λ idle. refl;
  };
  taken = none-taken (option_map with_all_taken q.receives);
  peer = s.peer;
  connected = λ connected. absurd (true≢false (sym connected));
  saved = s.saved;
}

pub error-later : (q : QueuePair) → IsQueue q → IsLater q (in_error q)
error-later q s = record {
  queue = refl;
  domain = refl;
  send_cq = refl;
  recv_cq = refl;
  srq = refl;
  finished = omega (arith, s.requester.begun, s.requester.waiting);
  taken = taken-flushed q.receives s.receives;
}

-- a queue pair with an empty response queue
pub silent-queue : (q : QueuePair) → IsQueue q → IsQueue (without_answers q)
silent-queue q s = search rules

pub silent-later : (q p : QueuePair) → IsLater q p → IsLater q (without_answers p)
silent-later q p later = search rules

pub failure-good : (status : WcStatus) (cause : Option OpRefusal) (q : QueuePair) → IsQueue q → IsGood q (failure_effects status cause q)
failure-good status cause q s = record {
  sound = silent-queue (in_error q) (error-queue q s);
  later = silent-later q (in_error q) (error-later q s);
  settled = by (items_from q.requester.oldest q.sends) refl;
  order = order (items_from q.requester.oldest q.sends) refl;
}
  where
    failure_marks : List PostedSend → List Mark
    failure_marks [] = flush_marks q
    failure_marks (p ∷ ps) = failure_mark q.queue q.requester.oldest p.request status cause ∷ flush_marks (without_oldest q)

    high : q.requester.oldest ≤ next_place q.sends
    high = omega (arith, s.requester.begun, s.requester.waiting)

    by : (ps : List PostedSend) → items_from q.requester.oldest q.sends ≡ ps → AreSettledMarks (in_error q) (failure_marks ps)
    by [] e = flush-settled q s.requester.finished high s.receives s.taken
    by (p ∷ ps) e = (
      (refl, omega (arith, items-end q.sends q.requester.oldest s.requester.finished high, ap length e)),
      flush-settled (without_oldest q) (omega (arith, s.requester.finished)) (omega (arith, items-end q.sends q.requester.oldest s.requester.finished high, ap length e))
          s.receives s.taken,
    )

    -- the oldest one first, and what is flushed behind it
    behind : (request : SendRequest) → IsInOrder (without_oldest q) (queue_and_marks (in_error q) (flush_marks (without_oldest q)))
        → IsInOrder q (queue_and_marks (without_answers (in_error q)) (failure_mark q.queue q.requester.oldest request status cause ∷ flush_marks (without_oldest q)))
    behind request rest = record {
      sends = refl;
      done = (omega arith, rest.done);
      own = taken-as q.receives (in_error q).receives q.responder.message q.responder.message None (flush_marks (without_oldest q))
          (failure_mark q.queue q.requester.oldest request status cause ∷ flush_marks (without_oldest q)) refl refl rest.own;
      held = rest.held;
    }

    order : (ps : List PostedSend) → items_from q.requester.oldest q.sends ≡ ps → IsInOrder q (queue_and_marks (without_answers (in_error q)) (failure_marks ps))
    order [] e = silent-order q s.requester.finished high s.receives s.taken
    order (p ∷ ps) e = behind p.request (flush-order (without_oldest q) (omega (arith, s.requester.finished))
        (omega (arith, items-end q.sends q.requester.oldest s.requester.finished high, ap length e)) s.receives s.taken)

pub requester-queue : (q : QueuePair) (r : RequesterNumbers) → IsQueue q → IsRequester q.state q.sends r
    → (is_sending q.state ≡ true → r.cursor ≤ begun_end (with_requester r q)) → IsQueue (with_requester r q)
requester-queue q r s one begun = record {
  sends = s.sends;
  receives = s.receives;
  source = s.source;
  requester = one;
  begun = begun;
  responder = s.responder;
  taken = s.taken;
  peer = s.peer;
  connected = s.connected;
  saved = s.saved;
}

-- a queue pair that counted one retry, as it moves to Error
pub failing-queue : (q : QueuePair) (r : RequesterNumbers) → IsQueue q → IsRequester states.Error q.sends r → IsQueue (record q { state = states.Error; requester = r })
failing-queue q r s one = record {
  sends = s.sends;
  receives = s.receives;
  source = s.source;
  requester = one;
  begun = λ sending. absurd (true≢false (sym sending));
  responder = record {
    base = s.responder.base;
    msn = s.responder.msn;
    mtu = s.responder.mtu;
    rnr_code = s.responder.rnr_code;
    message = s.responder.message;
    answers = s.responder.answers;
    silent = λ idle. absurd (true≢false (sym idle));
    empty = λ idle. absurd (true≢false (sym idle));
  };
  taken = s.taken;
  peer = s.peer;
  connected = λ connected. absurd (true≢false (sym connected));
  saved = s.saved;
}

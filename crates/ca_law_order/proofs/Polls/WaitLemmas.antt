-- What marks of one queue pair leave of completions that wait, and that a queue pair that goes on keeps the agreement on
-- them. For proofs only.
use Rattle.std.proofs.Common.{◌≡◌, ◌&&◌, Bool, true, false, if◌then◌else◌, List, [], ◌∷◌, ◌++◌, Option, None, Some, IfSome, refl, sym, ap, subst, ◌∙◌}
use Rattle.std.proofs.lemmas.Bool.{and_parts}
use Rattle.std.proofs.lemmas.List.{append-nil, append_assoc}
use Rattle.std.proofs.lemmas.List.Elements.{filter-append}
use Rattle.std.specs.Option.{option_map, option_map_or}
use Rattle.ca_law_endings.proofs.PathLemmas.{marks-append}
use Rattle.ca_law_order.proofs.Polls.SideLemmas.{AreOf, IsOf, goes_to, side_in}
use Rattle.ca_law_order.proofs.Polls.TurnLemmas.{IsTurn}
use Rattle.ca_law_order.specs.Polls.{HasCompletionQueues, IsFlushedSlot, PollsAgree, is_poll_in_order, sides_of}
use Rattle.ca_base.specs.declared.completion.Completion.{Completion}
use Rattle.ca_base.specs.objects.CompletionQueue.{CompletionQueue, after_puts}
use Rattle.ca_base.specs.objects.QueuePair.{QueuePair, Present}
use Rattle.ca_keys.specs.Equal.{queue_eq, slot_eq}
use Rattle.ca_keys.specs.declared.names.QueueId.{QueueId}
use Rattle.ca_keys.specs.declared.names.Slot.{Slot}
use Rattle.ca_law_world.proofs.Sound.SettledLemmas.{queue-path, slot-path}
use Rattle.ca_model.specs.Past.{Past, after_mark, after_marks, at_begin, each_mark, with_at}
use Rattle.ca_model.specs.declared.event.Event.{Event}
use Rattle.ca_model.specs.declared.mark.Mark.{Mark}
use Rattle.ca_model.specs.declared.mark.Mark.TheVariants as marks
use Rattle.ca_model.specs.machine.Places.{completions_in}
use Rattle.ca_model.specs.machine.World.{World}

pub both-true : (a b : Bool) → a ≡ true → b ≡ true → (a && b) ≡ true
both-true true b one other = other
both-true false b one other = one

-- ---- marks

-- a past behind another, after these completions of a queue pair with these completion queues
pub record HasPut (sides : Slot × Slot) (cs : List Completion) (p r : Past) : Type 0 where
  pub cqs : r.cqs ≡ p.cqs
  pub waits : (s : Slot) → r.waiting s ≡ p.waiting s ++ goes_to sides s cs

put-none : (sides : Slot × Slot) (p r : Past) → r.cqs ≡ p.cqs → r.waiting ≡ p.waiting → HasPut sides [] p r
put-none sides p r cqs waits = record { cqs = cqs; waits = λ s. ap (λ f. f s) waits ∙ sym (append-nil (p.waiting s)) }

put-then : (sides : Slot × Slot) (cs ds : List Completion) (p r t : Past) → HasPut sides cs p r → HasPut sides ds r t → HasPut sides (cs ++ ds) p t
put-then sides cs ds p r t one other = record {
  cqs = other.cqs ∙ one.cqs;
  waits = λ s. other.waits s ∙ ap (λ xs. xs ++ goes_to sides s ds) (one.waits s) ∙ append_assoc (p.waiting s) (goes_to sides s cs) (goes_to sides s ds)
      ∙ ap (λ xs. p.waiting s ++ xs) (sym (filter-append (λ c. slot_eq (side_in sides c.receive) s) cs ds));
}

-- the completion queue of a completion, as the past has it
abbrev told_side : Bool → Slot × Slot → Slot
told_side true cqs = cqs.1
told_side false cqs = cqs.0

same-side : (b : Bool) (sides : Slot × Slot) → told_side b sides ≡ side_in sides b
same-side true sides = refl
same-side false sides = refl

-- a completion is put into the completion queue of its side
done-put : (name : QueueId) (sides : Slot × Slot) (c : Completion) (p r : Past) → c.queue ≡ name → p.cqs name ≡ Some sides → r.cqs ≡ p.cqs
    → ((s : Slot) → r.waiting s ≡ option_map_or (λ x. with_at slot_eq p.waiting (told_side c.receive x) (p.waiting (told_side c.receive x) ++ (c ∷ []))) (p.cqs c.queue) p.waiting s) → HasPut sides (c ∷ []) p r
done-put name sides c p r own is cqs waits = record {
  cqs = cqs;
  waits = λ s. waits s ∙ ap (λ o. option_map_or (λ x. with_at slot_eq p.waiting (told_side c.receive x) (p.waiting (told_side c.receive x) ++ (c ∷ []))) o p.waiting s) (ap p.cqs own ∙ is)
      ∙ ap (λ t. with_at slot_eq p.waiting t (p.waiting t ++ (c ∷ [])) s) (same-side c.receive sides) ∙ by s (slot_eq (side_in sides c.receive) s) refl;
}
  where
    by : (s : Slot) (b : Bool) → slot_eq (side_in sides c.receive) s ≡ b
        → (if b then p.waiting (side_in sides c.receive) ++ (c ∷ []) else p.waiting s) ≡ p.waiting s ++ (if b then c ∷ [] else [])
    by s true e = ap (λ t. p.waiting t ++ (c ∷ [])) (slot-path (side_in sides c.receive) s e)
    by s false e = sym (append-nil (p.waiting s))

one-put : (name : QueueId) (sides : Slot × Slot) (m : Mark) (p : Past) → IsOf name m → p.cqs name ≡ Some sides → HasPut sides (completions_in (m ∷ [])) p (after_mark m p)
one-put name sides (marks.Verb by verb answer) p of is = absurd of
one-put name sides (marks.Done queue c cause) p of is = done-put name sides c p (after_mark (marks.Done queue c cause) p) of is refl (λ s. refl)
one-put name sides (marks.Granted g) p of is = put-none sides p (after_mark (marks.Granted g) p) refl refl
one-put name sides (marks.Revoked adapter key) p of is = put-none sides p (after_mark (marks.Revoked adapter key) p) refl refl
one-put name sides (marks.Remote queue domain envelope key kind address count verdict) p of is = put-none sides p (after_mark (marks.Remote queue domain envelope key kind address count verdict) p) refl refl
one-put name sides (marks.Local queue domain key kind address count verdict) p of is = put-none sides p (after_mark (marks.Local queue domain key kind address count verdict) p) refl refl
one-put name sides (marks.Stored place bytes) p of is = put-none sides p (after_mark (marks.Stored place bytes) p) refl refl
one-put name sides (marks.Sent source target index request bytes) p of is = put-none sides p (after_mark (marks.Sent source target index request bytes) p) refl refl
one-put name sides (marks.Lost target None) p of is = put-none sides p (after_mark (marks.Lost target None) p) refl refl
one-put name sides (marks.Lost target (Some index)) p of is = put-none sides p (after_mark (marks.Lost target (Some index)) p) refl refl
one-put name sides (marks.Arrived target index) p of is = put-none sides p (after_mark (marks.Arrived target index) p) refl refl
one-put name sides (marks.Dropped target cause) p of is = put-none sides p (after_mark (marks.Dropped target cause) p) refl refl
one-put name sides (marks.Timer queue silent) p of is = put-none sides p (after_mark (marks.Timer queue silent) p) refl refl

-- marks of one queue pair put its completions where they go
pub marks-put : (name : QueueId) (sides : Slot × Slot) (ms : List Mark) (p : Past) → AreOf name ms → p.cqs name ≡ Some sides → HasPut sides (completions_in ms) p (after_marks ms p)
marks-put name sides [] p of is = put-none sides p p refl refl
marks-put name sides (m ∷ ms) p of is = by m of.0 (one-put name sides m p of.0 is) (marks-put name sides ms (after_mark m p) of.1)
  where
    done : Mark → List Completion
    done (marks.Done queue c cause) = c ∷ []
    done m = []

    joined : (m : Mark) → completions_in (m ∷ []) ≡ done m
    joined m = append-nil (done m)

    by : (m : Mark) → IsOf name m → HasPut sides (completions_in (m ∷ [])) p (after_mark m p) → ((after_mark m p).cqs name ≡ Some sides → HasPut sides (completions_in ms) (after_mark m p) (after_marks ms (after_mark m p)))
        → HasPut sides (done m ++ completions_in ms) p (after_marks ms (after_mark m p))
    by m of one rest = put-then sides (done m) (completions_in ms) p (after_mark m p) (after_marks ms (after_mark m p)) (subst (λ cs. HasPut sides cs p (after_mark m p)) (joined m) one)
        (rest (ap (λ f. f name) one.cqs ∙ is))

-- they answer no verb
of-polls : (name : QueueId) (ms : List Mark) (p : Past) → AreOf name ms → each_mark is_poll_in_order p ms ≡ true
of-polls name [] p of = refl
of-polls name (m ∷ ms) p of = both-true (is_poll_in_order p m) _ (one m of.0) (of-polls name ms (after_mark m p) of.1)
  where
    one : (m : Mark) → IsOf name m → is_poll_in_order p m ≡ true
    one (marks.Verb by verb answer) of = absurd of
    one (marks.Done queue c cause) of = refl
    one (marks.Granted g) of = refl
    one (marks.Revoked adapter key) of = refl
    one (marks.Remote queue domain envelope key kind address count verdict) of = refl
    one (marks.Local queue domain key kind address count verdict) of = refl
    one (marks.Stored place bytes) of = refl
    one (marks.Sent source target index request bytes) of = refl
    one (marks.Lost target index) of = refl
    one (marks.Arrived target index) of = refl
    one (marks.Dropped target cause) of = refl
    one (marks.Timer queue silent) of = refl

pub each-append : (test : Past → Mark → Bool) (ms ns : List Mark) (p : Past) → each_mark test p ms ≡ true → each_mark test (after_marks ms p) ns ≡ true → each_mark test p (ms ++ ns) ≡ true
each-append test [] ns p one other = other
each-append test (m ∷ ms) ns p one other = both-true (test p m) _ (and_parts (test p m) (each_mark test (after_mark m p) ms) one).0
    (each-append test ms ns (after_mark m p) (and_parts (test p m) (each_mark test (after_mark m p) ms) one).1 other)

-- ---- a queue pair that goes on

-- what an event that ends so leaves: the agreement, and polls that are in order
pub record Polls (past : Past) (event : Event) (v : World) (ms : List Mark) : Type 0 where
  pub agree : PollsAgree (after_marks ms (at_begin event past)) v
  pub right : each_mark is_poll_in_order (at_begin event past) ms ≡ true

pub turn-polls : (past : Past) (event : Event) (w v : World) (front ms : List Mark) → PollsAgree past w → (after_marks front (at_begin event past)).cqs ≡ past.cqs
    → (after_marks front (at_begin event past)).waiting ≡ past.waiting → each_mark is_poll_in_order (at_begin event past) front ≡ true → IsTurn w front v ms → Polls past event v ms
turn-polls past event w v front ms agree cqs waits right turn = subst (Polls past event v) (sym turn.marks) (record {
  agree = subst (λ r. PollsAgree r v) (sym (marks-append front turn.rest (at_begin event past))) after;
  right = each-append is_poll_in_order front turn.rest (at_begin event past) right (of-polls turn.q.queue turn.rest p turn.of);
})
  where
    p : Past
    p = after_marks front (at_begin event past)

    q : QueuePair
    q = turn.q

    told : HasCompletionQueues (past.cqs q.queue) (Present q) × IsFlushedSlot (Present q)
    told = (subst (HasCompletionQueues (past.cqs q.queue)) turn.there.present (agree.sides q.queue), subst IsFlushedSlot turn.there.present (agree.flushed q.queue))

    put : HasPut (sides_of q) (completions_in turn.rest) p (after_marks turn.rest p)
    put = marks-put q.queue (sides_of q) turn.rest p turn.of (ap (λ f. f q.queue) cqs ∙ told.0)

    r : Past
    r = after_marks turn.rest p

    kept : sides_of turn.e.queue ≡ sides_of q
    kept = λ i. (
      record { domain = turn.later.domain i; slot = turn.later.send_cq i },
      record { domain = turn.later.domain i; slot = turn.later.recv_cq i },
    )

    sides : (n : QueueId) (b : Bool) → queue_eq q.queue n ≡ b → HasCompletionQueues (r.cqs n) (if b then Present turn.e.queue else w.queue n)
    sides n true e = ap (λ f. f n) (put.cqs ∙ cqs) ∙ ap past.cqs (sym (queue-path q.queue n e)) ∙ told.0 ∙ ap Some (sym kept)
    sides n false e = subst (λ f. HasCompletionQueues (f n) (w.queue n)) (sym (put.cqs ∙ cqs)) (agree.sides n)

    flushes : (n : QueueId) (b : Bool) → IsFlushedSlot (if b then Present turn.e.queue else w.queue n)
    flushes n true = turn.flushed told.1
    flushes n false = agree.flushed n

    waiting : (s : Slot) (o : Option CompletionQueue) → IfSome o (λ x. past.waiting s ≡ x.waiting) → IfSome (option_map (after_puts (goes_to (sides_of q) s (completions_in turn.e.marks))) o) (λ x. r.waiting s ≡ x.waiting)
    waiting s None one = record {}
    waiting s (Some x) one = put.waits s ∙ ap (λ f. f s ++ goes_to (sides_of q) s (completions_in turn.rest)) waits
        ∙ ap (λ cs. past.waiting s ++ goes_to (sides_of q) s cs) turn.done ∙ ap (λ xs. xs ++ goes_to (sides_of q) s (completions_in turn.e.marks)) one

    after : PollsAgree r v
    after = record {
      sides = λ n. subst (λ f. HasCompletionQueues (r.cqs n) (f n)) (sym turn.queue) (sides n (queue_eq q.queue n) refl);
      flushed = λ n. subst (λ f. IsFlushedSlot (f n)) (sym turn.queue) (flushes n (queue_eq q.queue n));
      waits = λ s. subst (λ o. IfSome o (λ x. r.waiting s ≡ x.waiting)) (sym (turn.cq told.1 s)) (waiting s (w.cq s) (agree.waits s));
    }

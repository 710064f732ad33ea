-- Places that ascend, what marks of one queue pair leave of the receives that completed, and that a queue pair that goes
-- on keeps the agreement on them. For proofs only.
use Rattle.std.proofs.Common.{◌≡◌, ℕ, suc, ◌≤◌, ◌<◌, ◌==◌, ◌&&◌, nat_le, Bool, true, false, if◌then◌else◌, List, [], ◌∷◌, ◌++◌, drop, filter, map, slice_get, Option, None, Some, IfSome, is_none, is_some, refl, sym, ap, ap₂, subst, ◌∙◌, arith, true≢false}
use Rattle.std.proofs.lemmas.Bool.{eq-eqb}
use Rattle.std.proofs.lemmas.Bool.Decides.{nat_tests}
use Rattle.std.proofs.lemmas.List.{append-nil, append_assoc}
use Rattle.std.proofs.lemmas.Option.{same_Some}
use Rattle.std.specs.Option.{option_and_then, option_map, option_map_or}
use Rattle.ca_law_endings.proofs.PathLemmas.{marks-append}
use Rattle.ca_law_order.proofs.Polls.SideLemmas.{AreOf, IsOf}
use Rattle.ca_law_order.proofs.Polls.TurnLemmas.{IsTurn, takes_of, with_taken}
use Rattle.ca_law_order.proofs.Polls.WaitLemmas.{both-true, each-append}
use Rattle.ca_law_order.specs.Receives.{AgreeOnSlot, AreBehind, AscendTo, ReceivesAgree, is_receive_done_in_order, life_of}
use Rattle.ca_base.specs.declared.completion.Completion.{Completion}
use Rattle.ca_base.specs.declared.correspondent.Correspondent.{Correspondent}
use Rattle.ca_base.specs.declared.queue_numbers.Message.{Message}
use Rattle.ca_base.specs.declared.request.PlacedReceive.{PlacedReceive}
use Rattle.ca_base.specs.declared.request.RecvRequest.{RecvRequest}
use Rattle.ca_base.specs.objects.QueuePair.{QueuePair, QueueSlot, NoQueue, Present, receive_in_use, srq_of}
use Rattle.ca_base.specs.objects.SharedReceives.{SharedReceives, SrqSlot, after_receive_take, first_receive}
use Rattle.ca_base.specs.objects.WorkQueue.{WorkQueue}
use Rattle.ca_keys.specs.Equal.{bool_eq, queue_eq, slot_eq}
use Rattle.ca_keys.specs.declared.names.QueueId.{QueueId}
use Rattle.ca_keys.specs.declared.names.Slot.{Slot}
use Rattle.ca_law_parts.proofs.Room.RoomLemmas.{shared-used}
use Rattle.ca_law_parts.proofs.Room.RoomLists.{ascend-lower}
use Rattle.ca_law_parts.specs.Room.{HasRoom}
use Rattle.ca_law_world.proofs.Sound.SettledLemmas.{queue-path, queue-refl, slot-refl}
use Rattle.ca_model.specs.Ordered.{place_behind}
use Rattle.ca_model.specs.Past.{Past, after_mark, after_marks, at_begin, correspondent_eq, each_mark, present_incarnation, with_at}
use Rattle.ca_model.specs.declared.event.Event.{Event}
use Rattle.ca_model.specs.declared.mark.Mark.{Mark}
use Rattle.ca_model.specs.declared.mark.Mark.TheVariants as marks
use Rattle.ca_model.specs.machine.Places.{AreTakenInOrder, Ascend, completions_in, first_held, places_done, places_in_use}
use Rattle.ca_model.specs.machine.World.{World}

-- ---- places

-- those behind the first of some ascend too
pub ascend-tail : (low high : ℕ) (xs ys : List ℕ) → Ascend low high (xs ++ ys) → Ascend low high ys
ascend-tail low high [] ys all = all
ascend-tail low high (x ∷ xs) ys all = ascend-lower (suc x) low high ys (omega (arith, all.0)) (ascend-tail (suc x) high xs ys all.1)

-- so do all without one of them
pub ascend-less : (low high : ℕ) (xs : List ℕ) (y : ℕ) (ys : List ℕ) → Ascend low high (xs ++ y ∷ ys) → Ascend low high (xs ++ ys)
ascend-less low high [] y ys all = ascend-lower (suc y) low high ys (omega (arith, all.0)) all.1
ascend-less low high (x ∷ xs) y ys all = (all.0, ascend-less (suc x) high xs y ys all.1)

-- and all with the next one behind them
pub ascend-next : (low high : ℕ) (xs : List ℕ) → Ascend low high xs → Ascend low (suc high) (xs ++ high ∷ [])
ascend-next low high [] all = (all, omega arith)
ascend-next low high (x ∷ xs) all = (all.0, ascend-next (suc x) high xs all.1)

-- ---- marks

-- the place behind the latest receive that a queue pair completed in its present incarnation
abbrev pub low_of : Past → QueueId → ℕ
low_of p name = place_behind (p.last_receive (present_incarnation p name))

-- From a past on, these marks of a queue pair complete receives in order, up to these places: the tests hold, and what is
-- left of the places ascends behind them; nothing is told of other lives.
pub record AreDone (name : QueueId) (high : ℕ) (left : List ℕ) (ms : List Mark) (p r : Past) : Type 0 where
  pub right : each_mark is_receive_done_in_order p ms ≡ true
  pub rest : Ascend (low_of r name) high left
  pub incarnation : r.incarnation ≡ p.incarnation
  pub others : (l : Correspondent) → correspondent_eq (present_incarnation p name) l ≡ false → r.last_receive l ≡ p.last_receive l

life-refl : (l : Correspondent) → correspondent_eq l l ≡ true
life-refl l = ap₂ (λ x y. x && y) (queue-refl l.queue) (eq-eqb l.incarnation l.incarnation refl)

-- the place of a mark's receive
abbrev place_done : Mark → List ℕ
place_done (marks.Done queue c cause) = if bool_eq c.receive true then c.place ∷ [] else []
place_done m = []

place-first : (m : Mark) (ms : List Mark) → places_done true (m ∷ ms) ≡ place_done m ++ places_done true ms
place-first (marks.Done queue c cause) ms = by (bool_eq c.receive true)
  where
    more : List Completion
    more = filter (λ x. bool_eq x.receive true) (completions_in ms)

    by : (b : Bool) → map (λ (x : Completion). x.place) (if b then c ∷ more else more) ≡ (if b then c.place ∷ [] else []) ++ map (λ (x : Completion). x.place) more
    by true = refl
    by false = refl
place-first (marks.Verb by verb answer) ms = refl
place-first (marks.Granted g) ms = refl
place-first (marks.Revoked adapter key) ms = refl
place-first (marks.Remote queue domain envelope key kind address count verdict) ms = refl
place-first (marks.Local queue domain key kind address count verdict) ms = refl
place-first (marks.Stored place bytes) ms = refl
place-first (marks.Sent source target index request bytes) ms = refl
place-first (marks.Lost target index) ms = refl
place-first (marks.Arrived target index) ms = refl
place-first (marks.Dropped target cause) ms = refl
place-first (marks.Timer queue silent) ms = refl

-- one mark
record IsDone (name : QueueId) (high : ℕ) (left : List ℕ) (m : Mark) (p r : Past) : Type 0 where
  right : is_receive_done_in_order p m ≡ true
  rest : Ascend (low_of r name) high left
  incarnation : r.incarnation ≡ p.incarnation
  others : (l : Correspondent) → correspondent_eq (present_incarnation p name) l ≡ false → r.last_receive l ≡ p.last_receive l

silent-done : (name : QueueId) (high : ℕ) (left : List ℕ) (m : Mark) (p r : Past) → is_receive_done_in_order p m ≡ true → Ascend (low_of p name) high left → r.incarnation ≡ p.incarnation → r.last_receive ≡ p.last_receive
    → IsDone name high left m p r
silent-done name high left m p r right all incarnation last = record {
  right = right;
  rest = subst (λ f. Ascend (place_behind (f (life_of name (r.incarnation name)))) high left) (sym last)
      (subst (λ f. Ascend (place_behind (p.last_receive (life_of name (f name)))) high left) (sym incarnation) all);
  incarnation = incarnation;
  others = λ l e. ap (λ f. f l) last;
}

le-true : (m n : ℕ) → m ≤ n → nat_le m n ≡ true
le-true m n le = grind (arith, nat_tests, le)

completion-done : (name : QueueId) (high : ℕ) (left : List ℕ) (queue : QueueId) (c : Completion) (cause : _) (p : Past) → c.queue ≡ name → Ascend (low_of p name) high (place_done (marks.Done queue c cause) ++ left)
    → IsDone name high left (marks.Done queue c cause) p (after_mark (marks.Done queue c cause) p)
completion-done name high left queue c cause p own all = by c.receive all
  where
    r : Bool → Correspondent → Option ℕ
    r b = if b then with_at correspondent_eq p.last_receive (present_incarnation p c.queue) (Some c.place) else p.last_receive

    Result : Bool → Type 0
    Result b = ((if b then nat_le (low_of p c.queue) c.place else true) ≡ true) × Ascend (place_behind (r b (present_incarnation p name))) high left
        × ((l : Correspondent) → correspondent_eq (present_incarnation p name) l ≡ false → r b l ≡ p.last_receive l)

    same : correspondent_eq (present_incarnation p c.queue) (present_incarnation p name) ≡ true
    same = ap (λ n. correspondent_eq (present_incarnation p n) (present_incarnation p name)) own ∙ life-refl (present_incarnation p name)

    parts : (b : Bool) → Ascend (low_of p name) high ((if bool_eq b true then c.place ∷ [] else []) ++ left) → Result b
    parts true all = (
      ap (λ n. nat_le (low_of p n) c.place) own ∙ le-true (low_of p name) c.place all.0,
      subst (λ z. Ascend (place_behind (if z then Some c.place else p.last_receive (present_incarnation p name))) high left) (sym same) all.1,
      λ l e. ap (λ n. if correspondent_eq (present_incarnation p n) l then Some c.place else p.last_receive l) own ∙ ap (λ z. if z then Some c.place else p.last_receive l) e,
    )
    parts false all = (refl, all, λ l e. refl)

    by : (b : Bool) → Ascend (low_of p name) high ((if bool_eq c.receive true then c.place ∷ [] else []) ++ left) → IsDone name high left (marks.Done queue c cause) p (after_mark (marks.Done queue c cause) p)
    by b all = record { right = (parts c.receive all).0; rest = (parts c.receive all).1; incarnation = refl; others = (parts c.receive all).2 }

mark-done : (name : QueueId) (high : ℕ) (left : List ℕ) (m : Mark) (p : Past) → IsOf name m → Ascend (low_of p name) high (place_done m ++ left) → IsDone name high left m p (after_mark m p)
mark-done name high left (marks.Verb by verb answer) p of all = absurd of
mark-done name high left (marks.Done queue c cause) p of all = completion-done name high left queue c cause p of all
mark-done name high left (marks.Granted g) p of all = silent-done name high left (marks.Granted g) p _ refl all refl refl
mark-done name high left (marks.Revoked adapter key) p of all = silent-done name high left (marks.Revoked adapter key) p _ refl all refl refl
mark-done name high left (marks.Remote queue domain envelope key kind address count verdict) p of all = silent-done name high left (marks.Remote queue domain envelope key kind address count verdict) p _ refl all refl refl
mark-done name high left (marks.Local queue domain key kind address count verdict) p of all = silent-done name high left (marks.Local queue domain key kind address count verdict) p _ refl all refl refl
mark-done name high left (marks.Stored place bytes) p of all = silent-done name high left (marks.Stored place bytes) p _ refl all refl refl
mark-done name high left (marks.Sent source target index request bytes) p of all = silent-done name high left (marks.Sent source target index request bytes) p _ refl all refl refl
mark-done name high left (marks.Lost target None) p of all = silent-done name high left (marks.Lost target None) p _ refl all refl refl
mark-done name high left (marks.Lost target (Some index)) p of all = silent-done name high left (marks.Lost target (Some index)) p _ refl all refl refl
mark-done name high left (marks.Arrived target index) p of all = silent-done name high left (marks.Arrived target index) p _ refl all refl refl
mark-done name high left (marks.Dropped target cause) p of all = silent-done name high left (marks.Dropped target cause) p _ refl all refl refl
mark-done name high left (marks.Timer queue silent) p of all = silent-done name high left (marks.Timer queue silent) p _ refl all refl refl

-- marks of one queue pair
pub marks-done : (name : QueueId) (high : ℕ) (left : List ℕ) (ms : List Mark) (p : Past) → AreOf name ms → Ascend (low_of p name) high (places_done true ms ++ left) → AreDone name high left ms p (after_marks ms p)
marks-done name high left [] p of all = record { right = refl; rest = all; incarnation = refl; others = λ l e. refl }
marks-done name high left (m ∷ ms) p of all = by (mark-done name high (places_done true ms ++ left) m p of.0
    (subst (Ascend (low_of p name) high) (ap (λ xs. xs ++ left) (place-first m ms) ∙ append_assoc (place_done m) (places_done true ms) left) all)) (λ more. marks-done name high left ms (after_mark m p) of.1 more)
  where
    by : IsDone name high (places_done true ms ++ left) m p (after_mark m p)
        → (Ascend (low_of (after_mark m p) name) high (places_done true ms ++ left) → AreDone name high left ms (after_mark m p) (after_marks ms (after_mark m p)))
        → AreDone name high left (m ∷ ms) p (after_marks ms (after_mark m p))
    by one rest = record {
      right = both-true (is_receive_done_in_order p m) _ one.right (rest one.rest).right;
      rest = (rest one.rest).rest;
      incarnation = (rest one.rest).incarnation ∙ one.incarnation;
      others = λ l e. (rest one.rest).others l (ap (λ f. correspondent_eq (life_of name (f name)) l) one.incarnation ∙ e) ∙ one.others l e;
    }

-- ---- shared receive queues

-- the places of receives that wait
abbrev pub places_of : SharedReceives → List ℕ
places_of s = map (λ r. r.place) s.waiting

-- shared receive queues of which what ascended in one slot ascends in the other
abbrev pub KeepsShared : (Slot → SrqSlot) → (Slot → SrqSlot) → Type 0
KeepsShared a b = (t : Slot) (low : ℕ) (places : List ℕ) → AscendTo low places (a t) → AscendTo low places (b t)

pub slot-kept : (low : ℕ) (a b : Slot → SrqSlot) (slot : QueueSlot) → KeepsShared a b → AgreeOnSlot low a slot → AgreeOnSlot low b slot
slot-kept low a b (NoQueue incarnation timers) keeps was = record {}
slot-kept low a b (Present q) keeps was = record { own = was.own; shared = by q.srq was.shared }
  where
    by : (o : Option ℕ) → IfSome o (λ t. AscendTo low (places_in_use q.responder.message) (a (srq_of q t))) → IfSome o (λ t. AscendTo low (places_in_use q.responder.message) (b (srq_of q t)))
    by None was = record {}
    by (Some t) was = keeps (srq_of q t) low (places_in_use q.responder.message) was

-- one is taken
taken-keeps : (slot : SrqSlot) (low : ℕ) (places : List ℕ) → AscendTo low places slot → AscendTo low places (with_taken slot)
taken-keeps slot low places was = by slot.srq was
  where
    less : (s : SharedReceives) (xs : List PlacedReceive) → Ascend low s.next (places ++ map (λ (r : PlacedReceive). r.place) xs) → Ascend low s.next (places ++ map (λ (r : PlacedReceive). r.place) (drop 1 xs))
    less s [] all = all
    less s (x ∷ xs) all = ascend-less low s.next places x.place (map (λ (r : PlacedReceive). r.place) xs) all

    by : (o : Option SharedReceives) → IfSome o (λ s. Ascend low s.next (places ++ map (λ r. r.place) s.waiting))
        → IfSome (option_map after_receive_take o) (λ s. Ascend low s.next (places ++ map (λ r. r.place) s.waiting))
    by None was = record {}
    by (Some s) was = less s s.waiting was

-- ---- a queue pair that goes on

-- What a queue pair completes, and what it then holds or takes next, ascends from a place on: from places that are left
-- of these it lies behind.
pub record HasOrder (low : ℕ) (srq : Slot → SrqSlot) (ms : List Mark) (p : QueuePair) : Type 0 where
  pub high : ℕ
  pub left : List ℕ
  pub before : Ascend low high (places_done true ms ++ left)
  pub after : (n : ℕ) → Ascend n high left → AreBehind n srq p

-- receives of its own
record OwnOrder (low : ℕ) (ms : List Mark) (p : QueuePair) : Type 0 where
  queue : WorkQueue RecvRequest
  is : p.receives ≡ Some queue
  order : Ascend low (first_held queue p.responder.message) (places_done true ms)

own-order : (low : ℕ) (r : WorkQueue RecvRequest) (m : Option Message) (ms : List Mark) (p : QueuePair) (before : Option (WorkQueue RecvRequest)) (x : Option Message) → option_map (λ r. r.next_taken) before ≡ Some r.next_taken → x ≡ m
    → low ≤ first_held r m → AreTakenInOrder before p.receives x p.responder.message ms → OwnOrder low ms p
own-order low r m ms p before x taken same le order = by before p.receives refl taken order
  where
    by : (a b : Option (WorkQueue RecvRequest)) → p.receives ≡ b → option_map (λ r. r.next_taken) a ≡ Some r.next_taken → AreTakenInOrder a b x p.responder.message ms → OwnOrder low ms p
    by None b is taken order = absurd (true≢false (sym (ap is_some taken)))
    by (Some a) None is taken order = absurd order
    by (Some a) (Some b) is taken order = record {
      queue = b;
      is = is;
      order = ascend-lower (first_held a x) low (first_held b p.responder.message) (places_done true ms)
          (subst (λ n. low ≤ n) (ap₂ (λ y n. option_map_or (λ place. place) (receive_in_use y) n) (sym same) (sym (same_Some a.next_taken r.next_taken taken))) le) order.1;
    }

none-own : (a b : Option (WorkQueue RecvRequest)) (x y : Option Message) (ms : List Mark) → a ≡ None → AreTakenInOrder a b x y ms → b ≡ None
none-own None None x y ms is order = refl
none-own None (Some b) x y ms is order = absurd order
none-own (Some a) b x y ms is order = absurd (true≢false (ap is_some is))

-- of a shared receive queue: what completes and what is held then are what was held, and one that is taken
shared-order : (b : Bool) (done was held : List ℕ) (s : SharedReceives) → (b ≡ true → done ++ held ≡ was ++ option_map_or (λ r. r.place ∷ []) (first_receive s) []) → (b ≡ false → done ++ held ≡ was)
    → done ++ (held ++ places_of (if b then after_receive_take s else s)) ≡ was ++ places_of s
shared-order false done was held s takes keeps = sym (append_assoc done held (places_of s)) ∙ ap (λ xs. xs ++ places_of s) (keeps refl)
shared-order true done was held s takes keeps = by s.waiting (takes refl)
  where
    place : PlacedReceive → ℕ
    place r = r.place

    by : (xs : List PlacedReceive) → done ++ held ≡ was ++ option_map_or (λ r. r.place ∷ []) (slice_get xs 0) [] → done ++ (held ++ map place (drop 1 xs)) ≡ was ++ map place xs
    by [] is = sym (append_assoc done held []) ∙ ap (λ xs. xs ++ []) is ∙ append-nil (was ++ [])
    by (x ∷ xs) is = sym (append_assoc done held (map place xs)) ∙ ap (λ ys. ys ++ map place xs) is ∙ append_assoc was (x.place ∷ []) (map place xs)

turn-order : (w v : World) (front ms : List Mark) (turn : IsTurn w front v ms) (low : ℕ) → HasRoom w → AreBehind low w.srq turn.q → HasOrder low v.srq turn.e.marks turn.e.queue
turn-order w v front ms turn low room behind = by q.srq refl q.receives refl turn.there.sound.source behind.own behind.shared
  where
    q : QueuePair
    q = turn.q

    e : QueuePair
    e = turn.e.queue

    done : List ℕ
    done = places_done true turn.e.marks

    -- receives of its own
    owns : (r : WorkQueue RecvRequest) → q.receives ≡ Some r → q.srq ≡ None → low ≤ first_held r q.responder.message → HasOrder low v.srq turn.e.marks e
    owns r has none le = from (own-order low r q.responder.message turn.e.marks e turn.p.receives turn.p.responder.message (turn.same.taken ∙ ap (option_map (λ r. r.next_taken)) has) turn.same.message le turn.order.own)
      where
        from : OwnOrder low turn.e.marks e → HasOrder low v.srq turn.e.marks e
        from o = record {
          high = first_held o.queue e.responder.message;
          left = [];
          before = subst (Ascend low (first_held o.queue e.responder.message)) (sym (append-nil done)) o.order;
          after = λ n le. record {
            own = subst (λ x. IfSome x (λ r. n ≤ first_held r e.responder.message)) (sym o.is) le;
            shared = subst (λ x. IfSome x (λ t. AscendTo n (places_in_use e.responder.message) (v.srq (srq_of e t)))) (sym (turn.later.srq ∙ none)) (record {});
          };
        }

    -- a shared receive queue
    shares : (t : ℕ) → q.srq ≡ Some t → q.receives ≡ None → (o : Option SharedReceives) → (w.srq (srq_of q t)).srq ≡ o → is_some o ≡ true → AscendTo low (places_in_use q.responder.message) (w.srq (srq_of q t)) → HasOrder low v.srq turn.e.marks e
    shares t uses none None is there all = absurd (true≢false (sym there))
    shares t uses none (Some s) is there all = record {
      high = s.next;
      left = places_in_use e.responder.message ++ places_of (now takes);
      before = subst (Ascend low s.next) (sym (shared-order takes done (places_in_use q.responder.message) (places_in_use e.responder.message) s
          (λ b. turn.takes b s seen ∙ ap (λ m. places_in_use m ++ option_map_or (λ r. r.place ∷ []) (first_receive s) []) turn.same.message)
          (λ b. turn.order.held nothing b ∙ ap places_in_use turn.same.message)))
          (subst (λ o. IfSome o (λ s. Ascend low s.next (places_in_use q.responder.message ++ map (λ r. r.place) s.waiting))) is all);
      after = λ n rest. record {
        own = subst (λ x. IfSome x (λ r. n ≤ first_held r e.responder.message)) (sym (none-own turn.p.receives e.receives turn.p.responder.message e.responder.message turn.e.marks nothing turn.order.own)) (record {});
        shared = subst (λ x. IfSome x (λ t. AscendTo n (places_in_use e.responder.message) (v.srq (srq_of e t)))) (sym (turn.later.srq ∙ uses))
            (subst (λ d. AscendTo n (places_in_use e.responder.message) (v.srq (record { domain = d; slot = t }))) (sym turn.later.domain)
            (subst (λ o. IfSome o (λ s. Ascend n s.next (places_in_use e.responder.message ++ map (λ r. r.place) s.waiting))) (sym after) (ends takes n rest)));
      };
    }
      where
        takes : Bool
        takes = turn.e.takes_shared

        now : Bool → SharedReceives
        now b = if b then after_receive_take s else s

        nothing : turn.p.receives ≡ None
        nothing = empty turn.p.receives (turn.same.taken ∙ ap (option_map (λ r. r.next_taken)) none)
          where
            empty : (o : Option (WorkQueue RecvRequest)) → option_map (λ r. r.next_taken) o ≡ None → o ≡ None
            empty None is = refl
            empty (Some r) is = absurd (true≢false (ap is_some is))

        seen : option_and_then (λ x. x.srq) (option_map (λ srq. w.srq (srq_of q srq)) q.srq) ≡ Some s
        seen = ap (λ o. option_and_then (λ (x : SrqSlot). x.srq) (option_map (λ srq. w.srq (srq_of q srq)) o)) uses ∙ is

        slot : (b : Bool) → (if b && option_map_or (λ srq. slot_eq (srq_of q srq) (srq_of q t)) q.srq false then with_taken (w.srq (srq_of q t)) else w.srq (srq_of q t)).srq ≡ Some (now b)
        slot true = ap (λ z. (if z then with_taken (w.srq (srq_of q t)) else w.srq (srq_of q t)).srq) (ap (λ o. option_map_or (λ srq. slot_eq (srq_of q srq) (srq_of q t)) o false) uses ∙ slot-refl (srq_of q t))
            ∙ ap (option_map after_receive_take) is
        slot false = is

        after : (v.srq (srq_of q t)).srq ≡ Some (now takes)
        after = ap (λ (x : SrqSlot). x.srq) (turn.srq (srq_of q t)) ∙ slot takes

        ends : (b : Bool) (n : ℕ) → Ascend n s.next (places_in_use e.responder.message ++ places_of (now b)) → Ascend n (now b).next (places_in_use e.responder.message ++ places_of (now b))
        ends true n rest = rest
        ends false n rest = rest

    by : (o : Option ℕ) → q.srq ≡ o → (r : Option (WorkQueue RecvRequest)) → q.receives ≡ r → is_some q.receives ≡ is_none q.srq
        → IfSome q.receives (λ r. low ≤ first_held r q.responder.message) → IfSome q.srq (λ t. AscendTo low (places_in_use q.responder.message) (w.srq (srq_of q t))) → HasOrder low v.srq turn.e.marks e
    by None none None has source own shared = absurd (true≢false (sym (sym (ap is_some has) ∙ source ∙ ap is_none none)))
    by None none (Some r) has source own shared = owns r has none (subst (λ x. IfSome x (λ r. low ≤ first_held r q.responder.message)) has own)
    by (Some t) uses (Some r) has source own shared = absurd (true≢false (sym (ap is_some has) ∙ source ∙ ap is_none uses))
    by (Some t) uses None has source own shared = shares t uses has (w.srq (srq_of q t)).srq refl (shared-used w q.queue q t room turn.there.present uses)
        (subst (λ x. IfSome x (λ t. AscendTo low (places_in_use q.responder.message) (w.srq (srq_of q t)))) uses shared)

-- what an event that ends so leaves: the agreement, and receives that complete in order
pub record Receives (past : Past) (event : Event) (v : World) (ms : List Mark) : Type 0 where
  pub agree : ReceivesAgree (after_marks ms (at_begin event past)) v
  pub right : each_mark is_receive_done_in_order (at_begin event past) ms ≡ true

turn-shared : (w v : World) (front ms : List Mark) → IsTurn w front v ms → KeepsShared w.srq v.srq
turn-shared w v front ms turn t low places was = subst (AscendTo low places) (sym (turn.srq t)) (by (takes_of turn.q turn.e t))
  where
    by : (b : Bool) → AscendTo low places (if b then with_taken (w.srq t) else w.srq t)
    by true = taken-keeps (w.srq t) low places was
    by false = was

-- another life
other-life : (a b : QueueId) (m n : ℕ) → queue_eq a b ≡ false → correspondent_eq (life_of a m) (life_of b n) ≡ false
other-life a b m n e = ap (λ z. z && (m == n)) e

pub later-life : (a b : QueueId) (m n : ℕ) → (queue_eq a b ≡ true → m < n) → correspondent_eq (life_of a m) (life_of b n) ≡ false
later-life a b m n less = by (queue_eq a b) refl
  where
    apart : (m n : ℕ) → m < n → (m == n) ≡ false
    apart m n less = grind (arith, nat_tests, less)

    by : (z : Bool) → queue_eq a b ≡ z → (z && (m == n)) ≡ false
    by true e = apart m n (less e)
    by false e = refl

pub turn-receives : (past : Past) (event : Event) (w v : World) (front ms : List Mark) → HasRoom w → ReceivesAgree past w → (after_marks front (at_begin event past)).incarnation ≡ past.incarnation
    → (after_marks front (at_begin event past)).last_receive ≡ past.last_receive → each_mark is_receive_done_in_order (at_begin event past) front ≡ true → IsTurn w front v ms → Receives past event v ms
turn-receives past event w v front ms room agree incarnation last right turn = subst (Receives past event v) (sym turn.marks) (record {
  agree = subst (λ r. ReceivesAgree r v) (sym (marks-append front turn.rest (at_begin event past))) after;
  right = each-append is_receive_done_in_order front turn.rest (at_begin event past) right done.right;
})
  where
    p : Past
    p = after_marks front (at_begin event past)

    q : QueuePair
    q = turn.q

    lows : (n : QueueId) → low_of p n ≡ low_of past n
    lows n = λ i. place_behind (last i (life_of n (incarnation i n)))

    order : HasOrder (low_of p q.queue) v.srq turn.e.marks turn.e.queue
    order = turn-order w v front ms turn (low_of p q.queue) room
        (subst (λ n. AreBehind n w.srq q) (sym (lows q.queue)) (subst (AgreeOnSlot (low_of past q.queue) w.srq) turn.there.present (agree.receives q.queue)))

    same : places_done true turn.rest ≡ places_done true turn.e.marks
    same = ap (λ cs. map (λ (c : Completion). c.place) (filter (λ c. bool_eq c.receive true) cs)) turn.done

    r : Past
    r = after_marks turn.rest p

    done : AreDone q.queue order.high order.left turn.rest p r
    done = marks-done q.queue order.high order.left turn.rest p turn.of (subst (λ xs. Ascend (low_of p q.queue) order.high (xs ++ order.left)) (sym same) order.before)

    lives : r.incarnation ≡ past.incarnation
    lives = done.incarnation ∙ incarnation

    others : (n : QueueId) → queue_eq q.queue n ≡ false → low_of r n ≡ low_of past n
    others n e = ap place_behind (done.others (life_of n (r.incarnation n)) (other-life q.queue n (p.incarnation q.queue) (r.incarnation n) e)) ∙ ap (λ f. place_behind (p.last_receive (life_of n (f n)))) done.incarnation ∙ lows n

    at : (n : QueueId) (b : Bool) → queue_eq q.queue n ≡ b → AgreeOnSlot (low_of r n) v.srq (if b then Present turn.e.queue else w.queue n)
    at n true e = subst (λ m. AreBehind (low_of r m) v.srq turn.e.queue) (queue-path q.queue n e) (order.after (low_of r q.queue) done.rest)
    at n false e = subst (λ low. AgreeOnSlot low v.srq (w.queue n)) (sym (others n e)) (slot-kept (low_of past n) w.srq v.srq (w.queue n) (turn-shared w v front ms turn) (agree.receives n))

    after : ReceivesAgree r v
    after = record {
      receives = λ n. subst (λ f. AgreeOnSlot (low_of r n) v.srq (f n)) (sym turn.queue) (at n (queue_eq q.queue n) refl);
      later = λ n i less. done.others (life_of n i) (later-life q.queue n (p.incarnation q.queue) i (λ e. subst (λ m. m < i) (ap (λ f. f n) lives ∙ ap (λ f. f n) (sym incarnation) ∙ ap p.incarnation (sym (queue-path q.queue n e))) less))
          ∙ ap (λ f. f (life_of n i)) last ∙ agree.later n i (subst (λ f. f n < i) lives less);
    }

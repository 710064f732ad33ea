-- What is held after bytes arrived at a queue pair that is held. For proofs only.
use Rattle.std.proofs.Common.{◌≡◌, ◌∙◌, refl, sym, subst, ap, ℕ, Bool, true, false, if◌then◌else◌, List, [], ◌∷◌, Option, None, Some, Result, Ok, Err, IfSome, IsTrue, Box, is_some, true≢false}
use Rattle.std.specs.Box.{with_value}
use Rattle.std.specs.Option.{option_and_then, option_map, option_map_or}
use Rattle.std.specs.declared.alloc.Global.{Global}
use Rattle.ca_adapter_turns.specs.ca_adapter_acts.Binders.{changed_by}
use Rattle.ca_adapter_arrivals.specs.Arrived.{CanArrive, HasArrived, outcome_of, shared_on, shared_updates, with_shared}
use Rattle.ca_base.specs.objects.Mailbox.{Mailbox, empty_mailbox}
use Rattle.ca_base.specs.objects.QueuePair.{Present, QueuePair, queue_in, srq_of}
use Rattle.ca_base.specs.objects.SharedReceives.{SharedReceives, SrqSlot, after_receive_take, vacant_srq}
use Rattle.ca_adapter_parts.specs.declared.held.Held.{Held}
use Rattle.ca_adapter_parts.specs.declared.part.QueueSlot.{QueueSlot}
use Rattle.ca_adapter_parts.specs.declared.part.QueueSlot.TheVariants as slots
use Rattle.ca_adapter_parts.specs.HeldView.{Holding, hold, holding, with_queue, with_srq}
use Rattle.ca_adapter_parts.proofs.HoldLemmas.{put_queue, put_srq}
use Rattle.ca_adapter_reach.specs.AtHand.{CanEnd, CanJudge, HasBytesAtHand}
use Rattle.ca_adapter_reach.specs.Changed.{after_end_of, after_write_by}
use Rattle.ca_adapter_reach.specs.Seen.{or_vacant, sight_of}
use Rattle.ca_adapter_reach.specs.declared.reached.Reached.{Reached}
use Rattle.ca_keys.specs.declared.memory.Memory.{Memory}
use Rattle.ca_keys.specs.declared.names.QueueId.{QueueId}
use Rattle.ca_keys.specs.declared.names.Slot.{Slot}
use Rattle.ca_keys.specs.Equal.{queue_eq, slot_eq}
use Rattle.ca_model.proofs.ThingLemmas.{put-same}
use Rattle.ca_model.specs.Marks.{MarkList}
use Rattle.ca_model.specs.machine.Around.{srq_updates}
use Rattle.ca_model.specs.machine.Delivery.{arrival_row}
use Rattle.ca_model.specs.machine.Invariants.{IsSharedReceives}
use Rattle.ca_model.specs.machine.Plan.{Update, ◌:=◌}
use Rattle.ca_model.specs.machine.Row.{Does, Effects, Ending, NotPossible, queue_and_marks}
use Rattle.ca_model.specs.machine.Seen.{shared_receives}
use Rattle.ca_model.specs.machine.World.{Queue_of, Srq_of, World}
use Rattle.ca_responder.specs.ca_responder_operations.Taking as Taking
use Rattle.ca_responder.specs.ca_responder_operations.Taking.{CanMeet, IsArrival, Outcome, outcome_in}
use Rattle.ca_adapter_turns.specs.ca_adapter_reach_laws.Ties.{with_reached}
use Rattle.ca_adapter_reach.specs.Shelved.{Shelved, has_thing, thing_under, with_thing}
use Rattle.ca_adapter_turns.proofs.TurnLemmas.{same-queue}

-- the shared receives on the shelf are those of the small world
pub on-shelf : (h : Held) (q : QueuePair) → shared_on h.srqs q ≡ shared_receives (holding h).world q
unfolding holding
on-shelf h q = by q.srq
  where
    at : (o : Option SrqSlot) → option_and_then (λ x. x.srq) o ≡ (or_vacant vacant_srq o).srq
    at None = refl
    at (Some x) = refl

    by : (o : Option ℕ) → option_and_then (λ x. x.srq) (option_and_then (λ srq. thing_under slot_eq (srq_of q srq) h.srqs.things) o)
        ≡ option_and_then (λ (x : SrqSlot). x.srq) (option_map (λ srq. or_vacant vacant_srq (thing_under slot_eq (srq_of q srq) h.srqs.things)) o)
    by None = refl
    by (Some srq) = at (thing_under slot_eq (srq_of q srq) h.srqs.things)

-- other receives in the slot of a queue pair's shared receive queue
abbrev put_shared : QueuePair → Option SharedReceives → World → List Update
put_shared q x w = option_map_or (λ srq. (Srq_of (srq_of q srq) := record (w.srq (srq_of q srq)) { srq = x }) ∷ []) q.srq []

-- the shelf with them is that of the small world with them
shelf-put : (h : Held) (q : QueuePair) (x : Option SharedReceives) → IfSome q.srq (λ srq. (holding h).has (Srq_of (srq_of q srq)) ≡ true)
    → holding (record h { srqs = with_shared q x h.srqs }) ≡ changed_by (put_shared q x (holding h).world) (holding h)
unfolding holding with_srq
shelf-put h q x held = by q.srq held
  where
    at : Slot → SrqSlot → Shelved Slot SrqSlot
    at name slot = record h.srqs { things = with_thing slot_eq name (record slot { srq = x }) h.srqs.things }

    shelf : Option ℕ → Shelved Slot SrqSlot
    shelf None = h.srqs
    shelf (Some srq) = option_map_or (at (srq_of q srq)) (thing_under slot_eq (srq_of q srq) h.srqs.things) h.srqs

    there : (name : Slot) (o : Option SrqSlot) → thing_under slot_eq name h.srqs.things ≡ o → (holding h).has (Srq_of name) ≡ true
        → holding (record h { srqs = option_map_or (at name) o h.srqs }) ≡ hold (holding h) (Srq_of name) (record (or_vacant vacant_srq o) { srq = x })
    there name None is has = absurd (true≢false (sym has ∙ ap is_some is))
    there name (Some slot) is has = put_srq h name (record slot { srq = x }) has

    by : (o : Option ℕ) → IfSome o (λ srq. (holding h).has (Srq_of (srq_of q srq)) ≡ true)
        → holding (record h { srqs = shelf o }) ≡ changed_by (option_map_or (λ srq. (Srq_of (srq_of q srq) := record ((holding h).world.srq (srq_of q srq)) { srq = x }) ∷ []) o []) (holding h)
    by None held = refl
    by (Some srq) held = there (srq_of q srq) (thing_under slot_eq (srq_of q srq) h.srqs.things) refl held

-- the receive that effects take of them, or none
put-taken : (h : Holding) (q : QueuePair) (e : Effects) (x : Option SharedReceives)
    → x ≡ (if e.takes_shared then option_map after_receive_take (shared_receives h.world q) else shared_receives h.world q)
    → changed_by (put_shared q x h.world) h ≡ changed_by (shared_updates q h.world e) h
put-taken h q e x is = ap (λ x. changed_by (put_shared q x h.world) h) is ∙ by e.takes_shared q.srq
  where
    shared : Option ℕ → Option SharedReceives
    shared o = option_and_then (λ (s : SrqSlot). s.srq) (option_map (λ srq. h.world.srq (srq_of q srq)) o)

    same : (name : Slot) → changed_by ((Srq_of name := h.world.srq name) ∷ []) h ≡ h
    same name = ap (λ w. record h { world = w }) (put-same h.world (Srq_of name))

    by : (takes : Bool) (o : Option ℕ)
        → changed_by (option_map_or (λ srq. (Srq_of (srq_of q srq) := record (h.world.srq (srq_of q srq)) { srq = if takes then option_map after_receive_take (shared o) else shared o }) ∷ []) o []) h
        ≡ changed_by (if takes then srq_updates (record q { srq = o }) (record { send = None; recv = None; shared = option_map (λ srq. h.world.srq (srq_of q srq)) o }) after_receive_take else []) h
    by true None = refl
    by true (Some srq) = refl
    by false None = refl
    by false (Some srq) = same (srq_of q srq)

module _ (h : Held) (name : QueueId) (b : Box QueueSlot Global) (q : QueuePair) (there : thing_under queue_eq name h.queues.things ≡ Some b) (is : b.value ≡ slots.Present q) where
  pub here : (holding h).world.queue name ≡ Present q
  unfolding holding
  here = rw (there, is) refl

-- a mailbox that is held
pub mail-here : (h : Held) (name : QueueId) (m : Mailbox) → Some m ≡ thing_under queue_eq name h.mailboxes.things → (holding h).world.mailbox name ≡ m
unfolding holding
mail-here h name m there = ap (or_vacant empty_mailbox) (sym there)

-- what holds of one value that is there holds of the other
pub at-same : {A : Type 0} (P : A → Type 0) (o : Option A) (a b : A) → o ≡ Some a → o ≡ Some b → P a → P b
at-same P o a b one other is = subst (λ o. IfSome o P) (sym one ∙ other) is

module _ (h : Held) (bytes : List ℕ) (envelope : Option ℕ) (q : QueuePair) (can : CanArrive h bytes envelope q) where
  pub can_find : IfSome q.srq (λ srq. IsTrue (has_thing slot_eq (srq_of q srq) h.srqs.things))
  unfolding holding
  can_find = can.there

  pub can_share : IfSome (shared_on h.srqs q) IsSharedReceives
  can_share = subst (λ o. IfSome o IsSharedReceives) (sym (on-shelf h q)) can.shared

  pub can_meet : CanMeet sight_of CanJudge HasBytesAtHand CanEnd h.reached q (arrival_row bytes envelope (shared_on h.srqs q) q)
  can_meet = subst (λ o. CanMeet sight_of CanJudge HasBytesAtHand CanEnd h.reached q (arrival_row bytes envelope o q)) (sym (on-shelf h q)) can.at_hand

module _ (h : Held) (name : QueueId) (b : Box QueueSlot Global) (q now : QueuePair) (r : Reached) (s : Shelved Slot SrqSlot)
    (there : thing_under queue_eq name h.queues.things ≡ Some b) (is : b.value ≡ slots.Present q)
    (held : IfSome q.srq (λ srq. (holding h).has (Srq_of (srq_of q srq)) ≡ true)) (shelf : s ≡ with_shared q (shared_on s q) h.srqs) where
  -- another queue pair in the slot, other parts that keys reach, and other shared receives
  abbrev pub arrived : Held
  arrived = record h { queues = record h.queues { things = with_thing queue_eq name (with_value b (slots.Present now)) h.queues.things }; srqs = s; reached = r }

  -- the same, but for the shared receives
  abbrev stepped : Held
  stepped = record h { queues = record h.queues { things = with_thing queue_eq name (with_value b (slots.Present now)) h.queues.things }; reached = r }

  with-stepped : with_queue (with_reached h r) name (slots.Present now) ≡ stepped
  unfolding with_queue
  with-stepped = rw there refl

  still-held : (holding (with_reached h r)).has (Queue_of name) ≡ true
  unfolding holding
  still-held = rw there refl

  abbrev in-slot : Holding
  in-slot = hold (holding (with_reached h r)) (Queue_of name) (Present now)

  put-there : holding stepped ≡ in-slot
  put-there = sym (ap holding with-stepped) ∙ put_queue (with_reached h r) name (slots.Present now) still-held

  shelved : holding arrived ≡ changed_by (put_shared q (shared_on s q) in-slot.world) in-slot
  unfolding holding
  shelved = ap (λ x. holding (record stepped { srqs = x })) shelf ∙ shelf-put stepped q (shared_on s q) held
      ∙ ap (λ (k : Holding). changed_by (put_shared q (shared_on s q) k.world) k) put-there

  -- the shared receives that stand there
  left : (e : Effects) → shared_on s q ≡ (if e.takes_shared then option_map after_receive_take (shared_on h.srqs q) else shared_on h.srqs q)
      → shared_on s q ≡ (if e.takes_shared then option_map after_receive_take (shared_receives in-slot.world q) else shared_receives in-slot.world q)
  unfolding holding
  left e is = is ∙ ap (λ o. if e.takes_shared then option_map after_receive_take o else o) (on-shelf h q)

  at-effects : (e : Effects) → now ≡ e.queue
      → shared_on s q ≡ (if e.takes_shared then option_map after_receive_take (shared_on h.srqs q) else shared_on h.srqs q)
      → holding arrived ≡ changed_by ((Queue_of name := Present e.queue) ∷ shared_updates q (holding h).world e) (holding (with_reached h r))
  unfolding holding
  at-effects e queue is = shelved ∙ put-taken in-slot q e (shared_on s q) (left e is)
      ∙ ap (λ x. changed_by ((Queue_of name := Present x) ∷ shared_updates q (holding h).world e) (holding (with_reached h r))) queue

  unchanged : now ≡ q → r ≡ h.reached → shared_on s q ≡ shared_on h.srqs q → holding arrived ≡ holding h
  unchanged same kept left-same = at-effects (queue_and_marks q []) same left-same
      ∙ ap (λ r. hold (holding (with_reached h r)) (Queue_of name) (Present q)) kept ∙ same-queue (holding h) name (Present q) (here h name b q there is)

  has-arrived-so : (result : Result (Unit {0}) Memory) (o : Outcome) (before made : MarkList)
      → IsArrival after_write_by after_end_of result o q now before made h.reached r (shared_on h.srqs q) (shared_on s q)
      → HasArrived name result o.ending o.ended q h (holding arrived) before made
  has-arrived-so (Err memory) o before made arrival = unchanged arrival.0.queue arrival.1.0 arrival.1.1
  has-arrived-so (Ok done) o before made arrival = by o.ending arrival
    where
      by : (x : Ending) → Taking.HasArrived after_write_by after_end_of x o.ended now before made h.reached r (shared_on h.srqs q) (shared_on s q)
          → HasArrived name (Ok done) x o.ended q h (holding arrived) before made
      by (Does e) arrival = (
        arrival.0.marks,
        at-effects e arrival.0.queue arrival.1.1
            ∙ ap (λ r. changed_by ((Queue_of name := Present e.queue) ∷ shared_updates q (holding h).world e) (holding (with_reached h r))) arrival.1.0,
      )
      by (NotPossible reason) arrival = arrival

  pub has_arrived : (result : Result (Unit {0}) Memory) (out : Option SharedReceives → QueuePair → Outcome) (before : QueuePair → MarkList) (made : MarkList)
      → IsArrival after_write_by after_end_of result (out (shared_on h.srqs q) q) q now (before q) made h.reached r (shared_on h.srqs q) (shared_on s q)
      → (x : QueuePair) → (holding h).world.queue name ≡ Present x
      → HasArrived name result (out (shared_receives (holding h).world x) x).ending (out (shared_receives (holding h).world x) x).ended x h (holding arrived) (before x) made
  has_arrived result out before made arrival x at = subst (λ o. case o) (ap queue_in (sym (here h name b q there is) ∙ at))
      (subst (λ o. HasArrived name result (out o q).ending (out o q).ended q h (holding arrived) (before q) made) (on-shelf h q)
      (has-arrived-so result (out (shared_on h.srqs q) q) (before q) made arrival))
    where
      case : Option QueuePair → Type 0
      case None = ⊥
      case (Some x) = HasArrived name result (out (shared_receives (holding h).world x) x).ending (out (shared_receives (holding h).world x) x).ended x h (holding arrived) (before x) made

  pub has_lent : (result : Result (Unit {0}) Memory) (envelope : Option ℕ) (o : Option (List ℕ)) (lent : List ℕ) (before : QueuePair → MarkList) (made : MarkList) → o ≡ Some lent
      → IsArrival after_write_by after_end_of result (outcome_in (sight_of h.reached) (arrival_row lent envelope (shared_on h.srqs q) q)) q now (before q) made h.reached r (shared_on h.srqs q) (shared_on s q)
      → (x : QueuePair) (bytes : List ℕ) → (holding h).world.queue name ≡ Present x → o ≡ Some bytes
      → HasArrived name result (outcome_of h bytes envelope x).ending (outcome_of h bytes envelope x).ended x h (holding arrived) (before x) made
  has_lent result envelope o lent before made is arrival x bytes at other =
      at-same (λ bytes. HasArrived name result (outcome_of h bytes envelope x).ending (outcome_of h bytes envelope x).ended x h (holding arrived) (before x) made) o lent bytes is other
      (has_arrived result (λ o q. outcome_in (sight_of h.reached) (arrival_row lent envelope o q)) before made arrival x at)

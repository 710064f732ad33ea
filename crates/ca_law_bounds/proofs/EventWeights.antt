-- Each event that goes forward lowers the weight, but for what it posts.
use Rattle.std.proofs.Common.{◌≡◌, ◌+◌, ◌*◌, ◌<◌, ◌≤◌, true, List, refl, sym, subst, ◌∙◌, ap, arith, true≢false}
use Rattle.ca_law_endings.proofs.LeadsLemmas.{comes, leads-around, leads-queue}
use Rattle.ca_law_endings.specs.Runs.{Comes, Leads}
use Rattle.ca_base.specs.Configuration.{Configuration}
use Rattle.ca_base.specs.declared.lot.Lot.{Lot}
use Rattle.ca_base.specs.declared.step.Reason.TheVariants as reasons
use Rattle.ca_base.specs.objects.QueuePair.{QueuePair, QueueSlot, NoQueue, Present, is_present}
use Rattle.ca_keys.specs.declared.names.QueueId.{QueueId}
use Rattle.ca_law_world.proofs.Sound.WorldLemmas.{around_in, shared_of}
use Rattle.ca_model.specs.declared.event.Event.{Event}
use Rattle.ca_model.specs.declared.event.Event.TheVariants as events
use Rattle.ca_model.specs.declared.mark.Mark.{Mark}
use Rattle.ca_model.specs.machine.Around.{With_around}
use Rattle.ca_model.specs.machine.Plan.{Did, NotReady, Outcome}
use Rattle.ca_model.specs.machine.Requester.{Performs, RequestTurn, Sends, Waits, turn_of}
use Rattle.ca_model.specs.machine.Step.{step}
use Rattle.ca_model.specs.machine.Turns.{Request_around, request_plan}
use Rattle.ca_model.specs.machine.World.{World}
use Rattle.ca_law_once.proofs.Ties.DeliverLemmas.{present-same}
use Rattle.ca_law_once.proofs.Verbs.EventTies.{comes-weaker}
use Rattle.ca_law_bounds.proofs.SentTurns.{sending-lowers}
use Rattle.ca_law_bounds.specs.Forward.{GoesForward, HasOneWidth, IsOrderlyWorld, TurnIsAmong, packets_in, turns_in}
use Rattle.ca_law_bounds.proofs.TurnLemmas.{delivery-lowers, respond-turn-lowers}
use Rattle.ca_law_bounds.specs.WorldWeights.{AreApart, IsFreshAt, cursor_of, is_among_names, world_weight}
use Rattle.ca_law_bounds.proofs.OperationTurns.{operation-lowers}
use Rattle.ca_law_bounds.proofs.VerbWeights.{verb-raises}
use Rattle.ca_law_bounds.specs.PostWeights.{InjectsNothing, packets_posted}

-- what comes of an event under a premise
comes-given : (A : Type 0) (P : World → List Mark → Type 0) (o : Outcome) → (A → Comes P o) → Comes (λ v ms. A → P v ms) o
comes-given A P (NotReady reason) given = record {}
comes-given A P (Did v ms) given = given

comes-both : (A : Type 0) (B : World → Type 0) (P : World → List Mark → Type 0) (o : Outcome) → (A → Comes (λ v ms. B v → P v ms) o) → Comes (λ v ms. A × B v → P v ms) o
comes-both A B P (NotReady reason) given = record {}
comes-both A B P (Did v ms) given = λ both. given both.0 both.1

-- a requester's turn: it sends a packet, or performs a local operation
request-lowers : (c : Configuration) (w : World) (names : List QueueId) (name : QueueId) (lot : Lot) → IsOrderlyWorld c w → AreApart names → is_among_names name names ≡ true → HasOneWidth w name
    → Comes (λ v ms. world_weight names v < world_weight names w) (step c w (events.Request name lot))
request-lowers c w names name lot orderly apart among width = at (w.queue name) refl
  where
    P : World → List Mark → Type 0
    P v ms = world_weight names v < world_weight names w

    -- where the turn is not possible
    stuck : ((q : QueuePair) → w.queue name ≡ Present q → Leads w P (Request_around c lot q (around_in w q (shared_of w q)) q.peer (turn_of q))) → Comes P (step c w (events.Request name lot))
    stuck each = comes w P (request_plan c name lot) (leads-queue c w P name reasons.State (λ q. With_around q (λ a. Request_around c lot q a q.peer (turn_of q)))
        (λ q is. leads-around w P q (λ a. Request_around c lot q a q.peer (turn_of q)) (each q is)))

    turned : (q : QueuePair) → w.queue name ≡ Present q → (turn : RequestTurn) → turn_of q ≡ turn → Comes P (step c w (events.Request name lot))
    turned q is (Waits reason) turn = stuck (λ t there.
        subst (λ x. Leads w P (Request_around c lot x (around_in w x (shared_of w x)) x.peer (turn_of x))) (present-same q t (sym is ∙ there))
        (subst (λ r. Leads w P (Request_around c lot q (around_in w q (shared_of w q)) q.peer r)) (sym turn) (record {})))
    turned q is (Performs n) turn = operation-lowers c w names name lot q n orderly.sound apart among is turn
    turned q is (Sends n) turn = sending-lowers c w names name lot q n orderly apart among is turn width

    at : (slot : QueueSlot) → w.queue name ≡ slot → Comes P (step c w (events.Request name lot))
    at (NoQueue incarnation timers) is = stuck (λ q there. absurd (true≢false (sym (ap is_present (sym is ∙ there)))))
    at (Present q) is = turned q is (turn_of q) refl

pub event-lowers : (c : Configuration) (w : World) (names : List QueueId) (event : Event) → IsOrderlyWorld c w → AreApart names → TurnIsAmong names event
    → Comes (λ v ms. GoesForward w event v → world_weight names v + turns_in event ≤ world_weight names w + 4 * packets_in event) (step c w event)
event-lowers c w names (events.Verb by verb) orderly apart among = comes-given (InjectsNothing verb) (λ v ms. world_weight names v + 0 ≤ world_weight names w + 4 * packets_posted verb) (step c w (events.Verb by verb)) (λ none.
    comes-weaker (λ v ms. world_weight names v ≤ world_weight names w + 4 * packets_posted verb) (λ v ms. world_weight names v + 0 ≤ world_weight names w + 4 * packets_posted verb) (step c w (events.Verb by verb))
    (λ v ms le. omega (arith, le)) (verb-raises c w names by verb orderly.sound orderly.empty apart none))
event-lowers c w names (events.Request name lot) orderly apart among = comes-given (HasOneWidth w name)
    (λ v ms. world_weight names v + 1 ≤ world_weight names w + 0) (step c w (events.Request name lot)) (λ width.
    comes-weaker (λ v ms. world_weight names v < world_weight names w) (λ v ms. world_weight names v + 1 ≤ world_weight names w + 0) (step c w (events.Request name lot))
    (λ v ms less. omega (arith, less)) (request-lowers c w names name lot orderly apart among width))
event-lowers c w names (events.Deliver name index) orderly apart among = comes-both (IsFreshAt index (w.mailbox name)) (λ v. cursor_of (w.queue name) ≤ cursor_of (v.queue name))
    (λ v ms. world_weight names v + 1 ≤ world_weight names w + 0) (step c w (events.Deliver name index)) (λ fresh.
    comes-weaker (λ v ms. cursor_of (w.queue name) ≤ cursor_of (v.queue name) → world_weight names v < world_weight names w)
    (λ v ms. cursor_of (w.queue name) ≤ cursor_of (v.queue name) → world_weight names v + 1 ≤ world_weight names w + 0) (step c w (events.Deliver name index))
    (λ v ms less on. let lower : world_weight names v < world_weight names w = less on in omega (arith, lower)) (delivery-lowers c w names name index orderly.sound apart among fresh))
event-lowers c w names (events.Respond name lot) orderly apart among = comes-weaker (λ v ms. world_weight names v < world_weight names w) (λ v ms. Unit {0} → world_weight names v + 1 ≤ world_weight names w + 0) (step c w (events.Respond name lot))
    (λ v ms less going. omega (arith, less)) (respond-turn-lowers c w names name lot orderly.sound apart among)
event-lowers c w names (events.Timeout name hasten) orderly apart among = comes-given ⊥ (λ v ms. world_weight names v + 1 ≤ world_weight names w + 0) (step c w (events.Timeout name hasten)) (λ never. absurd never)
event-lowers c w names (events.RnrWake name) orderly apart among = comes-given ⊥ (λ v ms. world_weight names v + 1 ≤ world_weight names w + 0) (step c w (events.RnrWake name)) (λ never. absurd never)

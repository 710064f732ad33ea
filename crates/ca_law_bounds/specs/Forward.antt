-- When an event, and each entry of a history, goes forward, so that less is to be done afterwards; and what is counted
-- of events. Laws cite it.
use Rattle.std.specs.Prelude.{◌≡◌, ℕ, ◌≤◌, true, List, [], ◌∷◌, Option, None, Some, IfSome}
use Rattle.std.specs.Option.{option_map_or}
use Rattle.ca_base.specs.Configuration.{Configuration}
use Rattle.ca_base.specs.declared.correspondent.Correspondent.{Correspondent}
use Rattle.ca_base.specs.objects.QueuePair.{QueuePair, Present, psn_base}
use Rattle.ca_keys.specs.declared.names.QueueId.{QueueId}
use Rattle.ca_law_world.specs.Steady.{IsSteadyWorld}
use Rattle.ca_model.specs.Entries.{EntryValue}
use Rattle.ca_model.specs.declared.event.Event.{Event}
use Rattle.ca_model.specs.declared.event.Event.TheVariants as events
use Rattle.ca_model.specs.machine.Frame.{Afterwards}
use Rattle.ca_model.specs.machine.Invariants.{is_sending}
use Rattle.ca_model.specs.machine.Sound.{IsSoundWorld}
use Rattle.ca_model.specs.machine.Step.{step}
use Rattle.ca_model.specs.machine.Turns.{reaches_peer}
use Rattle.ca_model.specs.machine.World.{World}
use Rattle.ca_law_once.specs.Beginnings.{AllBeginEmpty}
use Rattle.ca_law_bounds.specs.WorldWeights.{IsFreshAt, cursor_of, is_among_names}
use Rattle.ca_law_bounds.specs.PostWeights.{InjectsNothing, packets_posted}

-- A world as histories come to it: it is sound, its queue pairs are steady and begin empty, and where one sends, its
-- oldest unfinished request has a PSN that is no lower than the first of all.
pub record IsOrderlyWorld (c : Configuration) (w : World) : Type 0 where
  pub sound : IsSoundWorld c w
  pub steady : IsSteadyWorld w
  pub empty : AllBeginEmpty w
  pub based : (name : QueueId) (q : QueuePair) → w.queue name ≡ Present q → is_sending q.state ≡ true
      → psn_base ≤ q.requester.oldest_psn

-- A queue pair and the peer to which a path leads from it have one path MTU.
abbrev pub HasOneWidth : World → QueueId → Type 0
HasOneWidth w name = (q t : QueuePair) (p : Correspondent) → w.queue name ≡ Present q → q.peer ≡ Some p
    → w.queue p.queue ≡ Present t → reaches_peer q p (w.mailbox p.queue) ≡ true → t.responder.mtu ≡ q.responder.mtu

-- An event goes forward from one world to another: what is delivered wants one delivery and had none, and the cursor
-- of the queue pair does not go back; a requester sends to a peer with the same path MTU; nothing is injected; and it
-- is no timer and no wake.
abbrev pub GoesForward : World → Event → World → Type 0
GoesForward w (events.Verb by verb) v = InjectsNothing verb
GoesForward w (events.Request name lot) v = HasOneWidth w name
GoesForward w (events.Deliver name index) v =
    IsFreshAt index (w.mailbox name) × (cursor_of (w.queue name) ≤ cursor_of (v.queue name))
GoesForward w (events.Respond name lot) v = Unit {0}
GoesForward w (events.Timeout name hasten) v = ⊥
GoesForward w (events.RnrWake name) v = ⊥

-- each of these entries does, from a world on
abbrev pub AllGoForward : Configuration → World → List EntryValue → Type 0
AllGoForward c w [] = Unit {0}
AllGoForward c w (e ∷ es) = Afterwards (λ v. GoesForward w e.event v × AllGoForward c v es) (step c w e.event)

-- the queue pair whose turn an event is
abbrev pub turning : Event → Option QueueId
turning (events.Verb by verb) = None
turning (events.Request name lot) = Some name
turning (events.Deliver name index) = Some name
turning (events.Respond name lot) = Some name
turning (events.Timeout name hasten) = Some name
turning (events.RnrWake name) = Some name

-- it is one of these
abbrev pub TurnIsAmong : List QueueId → Event → Type 0
TurnIsAmong names event = IfSome (turning event) (λ n. is_among_names n names ≡ true)

-- an event is one turn, or one verb
abbrev pub turns_in : Event → ℕ
turns_in event = option_map_or (λ n. 1) (turning event) 0

abbrev pub verbs_in : Event → ℕ
verbs_in event = option_map_or (λ n. 0) (turning event) 1

-- the packets of the request that it posts, at the smallest path MTU
abbrev pub packets_in : Event → ℕ
packets_in (events.Verb by verb) = packets_posted verb
packets_in event = 0

-- Turns that are not possible, by what is seen of their queue pair. Contracts of the crate's own functions cite it.
use Rattle.std.specs.Prelude.{◌≡◌, false, Option, None, Some, slice_get}
use Rattle.ca_base.specs.Configuration.{Configuration}
use Rattle.ca_base.specs.declared.step.Reason.{Reason}
use Rattle.ca_base.specs.objects.Mailbox.{due}
use Rattle.ca_base.specs.objects.QueuePair.{QueuePair}
use Rattle.ca_adapter_store.specs.ca_adapter_parts.declared.part.QueueSlot.{QueueSlot}
use Rattle.ca_adapter_store.specs.ca_adapter_parts.declared.part.QueueSlot.TheVariants as slots
use Rattle.ca_keys.specs.declared.names.QueueId.{QueueId}
use Rattle.ca_mailbox.specs.declared.weather.Weather.{Weather}
use Rattle.ca_model.specs.declared.event.Event.{Event}
use Rattle.ca_model.specs.machine.CanStep.{CanStep}
use Rattle.ca_model.specs.machine.Step.{step}
use Rattle.ca_model.specs.machine.World.{World}
use Rattle.ca_script_order.specs.OfScript.{is_possible}
use Rattle.ca_adapter_store.specs.Looks.{IsQueueIn}
use Rattle.ca_adapter_store.specs.ca_requester_sends.Turn.{IsWaiting}
use Rattle.ca_model_places.specs.Turns.{event_of}
use Rattle.ca_base.specs.declared.step.Turn.{Turn}
use Rattle.ca_base.specs.declared.step.Turn.TheVariants as turns

-- an engine may take a step with the queue pair that is seen, if one is
abbrev pub CanStepSeen : Option QueueSlot → Type 0
CanStepSeen (Some (slots.Present q)) = CanStep q
CanStepSeen slot = Unit {0}

-- no queue pair is in a slot that is seen, or none is seen
abbrev pub HasNoQueue : Option QueueSlot → Type 0
HasNoQueue (Some (slots.Present q)) = ⊥
HasNoQueue slot = Unit {0}

-- a requester waits, for some reason
pub record Waits (q : QueuePair) : Type 0 where
  pub reason : Reason
  pub waiting : IsWaiting q reason

-- no queue pair is seen, or its requester waits
abbrev pub HasNoRequest : Option QueueSlot → Type 0
HasNoRequest (Some (slots.Present q)) = Waits q
HasNoRequest slot = Unit {0}

-- no queue pair is seen, or its responder owes no answer
abbrev pub OwesNoAnswer : Option QueueSlot → Type 0
OwesNoAnswer (Some (slots.Present q)) = slice_get q.responder.answers 0 ≡ None
OwesNoAnswer slot = Unit {0}

-- under every weather, the event that a turn is is not possible
abbrev pub IsInVain : Configuration → World → Turn → Type 0
IsInVain c w turn = (weather : Weather) (event : Event) → event_of weather w turn ≡ Some event → is_possible (step c w event) ≡ false

-- what is seen of a queue pair in a world
pub record Sees (P : Option QueueSlot → Type 0) (w : World) (q : QueueId) : Type 0 where
  pub slot : Option QueueSlot
  pub is : IsQueueIn w q slot
  pub such : P slot

-- A turn is in vain by what is seen of its part: nothing is due, the responder owes no answer, the requester waits, or no
-- queue pair is there whose timer could run.
abbrev pub IsIdle : World → Turn → Type 0
IsIdle w (turns.Due q) = due (w.mailbox q) ≡ None
IsIdle w (turns.Deliver q index) = ⊥
IsIdle w (turns.Respond q) = Sees OwesNoAnswer w q
IsIdle w (turns.Request q) = Sees (λ slot. CanStepSeen slot × HasNoRequest slot) w q
IsIdle w (turns.Timeout q) = Sees HasNoQueue w q
IsIdle w (turns.RnrWake q) = Sees HasNoQueue w q

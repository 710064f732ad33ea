-- What is asked for: the event that it is in a world, and the parts that it needs. Contracts cite it.
use Rattle.std.specs.Prelude.{false, if◌then◌else◌, Option, Some}
use Rattle.ca_base.specs.Configuration.{Configuration}
use Rattle.ca_base.specs.declared.correspondent.Correspondent.{Correspondent}
use Rattle.ca_base.specs.declared.lot.Lot.TheVariants.{Pass}
use Rattle.ca_base.specs.objects.Mailbox.{Mailbox, due}
use Rattle.ca_base.specs.objects.QueuePair.{QueuePair}
use Rattle.ca_base.specs.objects.Slices.{has_queue}
use Rattle.ca_verbs_machine.specs.declared.asked.Asked.{Asked}
use Rattle.ca_verbs_machine.specs.declared.asked.Asked.TheVariants as asks
use Rattle.ca_keys.specs.declared.names.QueueId.{QueueId}
use Rattle.ca_model.specs.declared.event.Event.{Event}
use Rattle.ca_model.specs.declared.event.Event.TheVariants as events
use Rattle.ca_model.specs.declared.part_name.PartName.TheVariants as names
use Rattle.ca_model.specs.machine.Parts.{Needs, By, Enough, also, event_needs, part, turn_needs, where_some}
use Rattle.ca_model.specs.machine.World.{World, Mailbox_of}
use Rattle.ca_model_places.specs.Turns.{event_of}
use Rattle.ca_base.specs.declared.step.Turn.{Turn}
use Rattle.ca_base.specs.declared.step.Turn.TheVariants as turns

-- the event that is asked for, in a world; none where nothing is due
abbrev pub event_asked : World → Asked → Option Event
event_asked w (asks.Event event) = Some event
event_asked w (asks.Turn turn weather) = event_of weather w turn

-- the mailbox of the peer, by which the weather tells the lot
abbrev pub peer_mail : QueuePair → Needs
peer_mail q = where_some (λ (p : Correspondent). part (names.Mailbox p.queue)) q.peer

-- a delivery of what is due: the mailbox, which tells what that is, and what its delivery needs
abbrev pub due_needs : Configuration → QueueId → Mailbox → Needs
due_needs c q m = where_some (λ index. event_needs c (events.Deliver q index)) (due m)

-- the parts of a turn: those of its event, and what tells which event it is
abbrev pub turn_parts : Configuration → Turn → Needs
turn_parts c (turns.Request q) = also (event_needs c (events.Request q Pass)) (turn_needs c q peer_mail)
turn_parts c (turns.Due q) = if has_queue c q then By (Mailbox_of q) (due_needs c q) else Enough
turn_parts c (turns.Deliver q index) = event_needs c (events.Deliver q index)
turn_parts c (turns.Respond q) = also (event_needs c (events.Respond q Pass)) (turn_needs c q peer_mail)
turn_parts c (turns.Timeout q) = event_needs c (events.Timeout q false)
turn_parts c (turns.RnrWake q) = event_needs c (events.RnrWake q)

-- the parts of what is asked for
abbrev pub asked_needs : Configuration → Asked → Needs
asked_needs c (asks.Event event) = event_needs c event
asked_needs c (asks.Turn turn weather) = turn_parts c turn

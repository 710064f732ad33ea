-- The event that a turn is in a world, under a weather. Contracts cite it.
use Rattle.std.specs.Prelude.{Bool, if◌then◌else◌, Option, None, Some}
use Rattle.std.specs.Option.{option_map}
use Rattle.ca_base.specs.declared.correspondent.Correspondent.{Correspondent}
use Rattle.ca_base.specs.declared.lot.Lot.{Lot}
use Rattle.ca_base.specs.declared.lot.Lot.TheVariants.{Pass}
use Rattle.ca_keys.specs.declared.names.QueueId.{QueueId}
use Rattle.ca_base.specs.objects.Mailbox.{due}
use Rattle.ca_base.specs.objects.QueuePair.{QueuePair, queue_in, timers_of}
use Rattle.ca_mailbox.specs.Weather.{is_hastened, lot_under}
use Rattle.ca_mailbox.specs.declared.weather.Weather.{Weather}
use Rattle.ca_model.specs.declared.event.Event.{Event}
use Rattle.ca_model.specs.declared.event.Event.TheVariants as events
use Rattle.ca_model.specs.machine.Turns.{reaches_peer}
use Rattle.ca_model.specs.machine.World.{World}
use Rattle.ca_base.specs.declared.step.Turn.{Turn}
use Rattle.ca_base.specs.declared.step.Turn.TheVariants as turns

-- the lot of what a queue pair sends: the weather's for the next envelope of its peer's mailbox, where this accepts the
-- queue pair, and else Pass
abbrev pub lot_at : Weather → World → QueueId → Lot
lot_at weather w q = by (queue_in (w.queue q))
  where
    to : QueuePair → Option Correspondent → Lot
    to queue None = Pass
    to queue (Some peer) =
        if reaches_peer queue peer (w.mailbox peer.queue)
        then lot_under weather peer.queue (w.mailbox peer.queue).next
        else Pass

    by : Option QueuePair → Lot
    by None = Pass
    by (Some queue) = to queue queue.peer

-- the weather hastens a queue pair's next timer
abbrev pub hasten_at : Weather → World → QueueId → Bool
hasten_at weather w q = is_hastened weather q (timers_of (w.queue q))

-- the event that a turn is; none where nothing is due
abbrev pub event_of : Weather → World → Turn → Option Event
event_of weather w (turns.Request q) = Some (events.Request q (lot_at weather w q))
event_of weather w (turns.Due q) = option_map (events.Deliver q) (due (w.mailbox q))
event_of weather w (turns.Deliver q index) = Some (events.Deliver q index)
event_of weather w (turns.Respond q) = Some (events.Respond q (lot_at weather w q))
event_of weather w (turns.Timeout q) = Some (events.Timeout q (hasten_at weather w q))
event_of weather w (turns.RnrWake q) = Some (events.RnrWake q)

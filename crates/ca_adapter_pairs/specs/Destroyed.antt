-- What the end of a queue pair changes, of what is held. Contracts cite it.
use Rattle.std.specs.Prelude.{List, ◌∷◌}
use Rattle.ca_base.specs.objects.Domain.{without_object}
use Rattle.ca_base.specs.objects.QueuePair.{NoQueue, QueuePair}
use Rattle.ca_keys.specs.declared.names.Slot.{Slot}
use Rattle.ca_keys.specs.Numbers.{queue_of}
use Rattle.ca_model.specs.machine.Plan.{Update, ◌:=◌}
use Rattle.ca_model.specs.machine.QueuePairVerbs.{emptied_mailbox}
use Rattle.ca_model.specs.machine.World.{Domain_of, Mailbox_of, Queue_of, World}
use Rattle.ca_adapter_pairs.specs.declared.departure.Departure.TheVariants.{Destruction}
use Rattle.ca_adapter_pairs.specs.Departures.{departure_updates}
use Rattle.ca_adapter_pairs.specs.Names.{names_around}

-- the domain, the queue pair, its mailbox, and what stands around it
abbrev pub destroyed_updates : World → Slot → QueuePair → List Update
destroyed_updates w s q =
    (Domain_of s.domain := without_object (w.domain s.domain))
    ∷ (Queue_of (queue_of s) := NoQueue q.incarnation q.requester.timers)
    ∷ (Mailbox_of (queue_of s) := emptied_mailbox q.incarnation (w.mailbox (queue_of s)))
    ∷ departure_updates Destruction (names_around q) w

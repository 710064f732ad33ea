-- The events of calm weather, and their marks. Laws cite it.
use Rattle.std.specs.Prelude.{◌≡◌, List, Some}
use Rattle.std.specs.List.{AllByRecursion}
use Rattle.ca_base.specs.declared.lot.Lot.TheVariants.{Pass}
use Rattle.ca_base.specs.objects.Mailbox.{due}
use Rattle.ca_model.specs.declared.event.Event.{Event}
use Rattle.ca_model.specs.declared.event.Event.TheVariants as events
use Rattle.ca_model.specs.declared.mark.Drop1.{Drop1}
use Rattle.ca_model.specs.declared.mark.Drop1.TheVariants as drops
use Rattle.ca_model.specs.declared.mark.Mark.{Mark}
use Rattle.ca_model.specs.declared.mark.Mark.TheVariants as marks
use Rattle.ca_model.specs.declared.verb.Verb.TheVariants as verbs
use Rattle.ca_model.specs.machine.World.{World}
use Rattle.ca_law_lossless.specs.Standing.{IsNoRnrNak}

-- nothing is injected, each packet passes, no timer fires and nobody is woken; what is delivered is what is due
abbrev pub IsCalmEvent : World → Event → Type 0
IsCalmEvent w (events.Verb by (verbs.Inject queue bytes)) = ⊥
IsCalmEvent w (events.Verb by verb) = Unit {0}
IsCalmEvent w (events.Request queue lot) = lot ≡ Pass
IsCalmEvent w (events.Respond queue lot) = lot ≡ Pass
IsCalmEvent w (events.Deliver queue index) = due (w.mailbox queue) ≡ Some index
IsCalmEvent w (events.Timeout queue hasten) = ⊥
IsCalmEvent w (events.RnrWake queue) = ⊥

-- a packet is dropped for what its queue pair is and expects, and not for what it is itself
abbrev pub IsDroppedWhole : Drop1 → Type 0
IsDroppedWhole (drops.Wire error) = ⊥
IsDroppedWhole drops.Partition = ⊥
IsDroppedWhole drops.Queue = ⊥
IsDroppedWhole cause = Unit {0}

-- nothing is lost, no RNR NAK is sent, and what arrives is a packet for its queue pair
abbrev pub IsCalmMark : Mark → Type 0
IsCalmMark (marks.Lost target index) = ⊥
IsCalmMark (marks.Sent source target index request bytes) = IsNoRnrNak bytes
IsCalmMark (marks.Dropped target cause) = IsDroppedWhole cause
IsCalmMark mark = Unit {0}

abbrev pub AreCalm : List Mark → Type 0
AreCalm ms = AllByRecursion IsCalmMark ms

-- Which part is needed next beside those in hand. Contracts cite it.
use Rattle.std.specs.Prelude.{◌≡◌, Bool, true, false, Option, None, Some}
use Rattle.ca_base.specs.declared.step.Reason.{Reason}
use Rattle.ca_base.specs.declared.step.Reason.TheVariants as reasons
use Rattle.ca_base.specs.objects.QueuePair.{QueuePair}
use Rattle.ca_base.specs.objects.SharedReceives.{SharedReceives}
use Rattle.ca_adapter_parts.specs.declared.held.Held.{Held}
use Rattle.ca_adapter_parts.specs.HeldView.{holding}
use Rattle.ca_model.specs.declared.part_name.PartName.{PartName}
use Rattle.ca_model.specs.machine.Parts.{Needs, around_needs, next_part}
use Rattle.ca_model.specs.machine.Seen.{shared_receives}

-- the first part that is needed and not held, by what is held
abbrev pub next_of : Held → Needs → Option PartName
next_of h needs = next_part (holding h).parts (holding h).world needs

-- the first part around a queue pair that is not held; where all are, what its shared receive queue decides is next
abbrev pub IsNextAround : Held → QueuePair → Option PartName → Type 0
IsNextAround h q (Some p) = (more : Option SharedReceives → Needs) → next_of h (around_needs q more) ≡ Some p
IsNextAround h q None = (more : Option SharedReceives → Needs)
    → next_of h (around_needs q more) ≡ next_of h (more (shared_receives (holding h).world q))

-- a turn waits because too much would be outstanding
abbrev pub waits_for_answers : Reason → Bool
waits_for_answers reasons.Outstanding = true
waits_for_answers reason = false

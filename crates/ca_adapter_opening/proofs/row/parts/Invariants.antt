use Rattle.std.proofs.Common.{[], take}
use Rattle.ca_base.specs.Configuration.{configuration_of}
use Rattle.ca_model_places.specs.Places.{parts_from}
use Rattle.ca_adapter_opening.specs.Added.{AddsParts}
use Rattle.ca_adapter_opening.specs.Opening.{IsOpeningPart}
use Rattle.ca_adapter_opening.proofs.row.parts.Given as goal

abbrev pub invariant-loop-number : goal.invariant-loop-number
invariant-loop-number l = AddsParts (IsOpeningPart (configuration_of l.opening.config) l.opening.contents)
    (parts_from 0 (take l.number (configuration_of l.opening.config).adapters)) [] l.row.items

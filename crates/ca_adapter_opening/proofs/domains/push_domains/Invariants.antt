use Rattle.std.specs.List.{flat_map, range_with_len}
use Rattle.ca_base.specs.Configuration.{adapter_of}
use Rattle.ca_model_places.specs.Places.{parts_of_domain}
use Rattle.ca_adapter_opening.specs.Added.{AddsParts}
use Rattle.ca_adapter_opening.specs.Opening.{IsVacantPart}
use Rattle.ca_adapter_opening.proofs.domains.push_domains.Given as goal

abbrev pub invariant-loop-domain : goal.invariant-loop-domain
invariant-loop-domain l = AddsParts IsVacantPart
    (flat_map (λ domain. parts_of_domain (adapter_of l.adapter) (record { adapter = l.number; domain = domain })) (range_with_len 0 l.domain)) l.fn.row.items l.row.items

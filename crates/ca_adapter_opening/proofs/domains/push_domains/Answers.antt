use Rattle.ca_base.specs.Configuration.{adapter_of}
use Rattle.ca_model_places.specs.Places.{parts_of_domain}
use Rattle.ca_adapter_opening.specs.Opening.{IsVacantPart}
use Rattle.ca_adapter_opening.proofs.AddedLemmas.{adds-more}
use Rattle.ca_adapter_opening.proofs.domains.push_domains.Goals as goal

pub loop-domain-preserved : goal.loop-domain-preserved
loop-domain-preserved c = adds-more IsVacantPart (λ domain. parts_of_domain (adapter_of c.args.adapter.now) (record { adapter = c.args.number; domain = domain })) c.loop-domain.domain
    c.args.row.now.items c.loop-domain.row.items c.push_domain.new.row.items c.loop-domain.invariant c.in_ok-push_domain.ensures

use Rattle.std.proofs.Common.{◌∙◌, sym, ap, Option}
use Rattle.ca_base.specs.Configuration.{configuration_in}
use Rattle.ca_base.specs.objects.SharedReceives.{SharedReceives}
use Rattle.ca_model.specs.machine.Delivery.{arrival_row}
use Rattle.ca_model.specs.machine.Parts.{Needs, row_needs}
use Rattle.ca_adapter_footprint.specs.Next.{next_of}
use Rattle.ca_adapter_footprint.proofs.arrivals.arrival.Goals as goal

pub returns : goal.returns
returns c = λ envelope.
    let needs : Option SharedReceives → Needs = λ shared. row_needs (configuration_in c.args.settings.now) (arrival_row c.args.bytes.now envelope shared c.args.q.now) in
    c.arrived.ensures envelope ∙ ap (λ shared. next_of c.args.held.now (needs shared)) c.receives-srq.ensures
    ∙ sym (c.in_default.ensures needs)

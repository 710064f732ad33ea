use Rattle.std.proofs.Common.{◌∙◌, sym, ap}
use Rattle.ca_base.specs.Configuration.{configuration_in}
use Rattle.ca_model.specs.machine.Parts.{event_needs}
use Rattle.ca_adapter_footprint.specs.Next.{next_of}
use Rattle.ca_adapter_footprint.proofs.events.next_part.Goals as goal

pub returns-in-Request : goal.returns-in-Request
returns-in-Request c =
    c.request.ensures c.in-Request.lot
    ∙ ap (λ event. next_of c.args.held.now (event_needs (configuration_in c.args.settings.now) event)) (sym c.in-Request.is)

pub returns-in-Respond : goal.returns-in-Respond
returns-in-Respond c =
    c.respond.ensures c.in-Respond.lot
    ∙ ap (λ event. next_of c.args.held.now (event_needs (configuration_in c.args.settings.now) event)) (sym c.in-Respond.is)

pub returns-in-Timeout : goal.returns-in-Timeout
returns-in-Timeout c =
    c.timeout.ensures c.in-Timeout.hasten
    ∙ ap (λ event. next_of c.args.held.now (event_needs (configuration_in c.args.settings.now) event)) (sym c.in-Timeout.is)

use Rattle.std.proofs.Common.{◌∙◌, sym}
use Rattle.ca_base.specs.Configuration.{configuration_in}
use Rattle.ca_base.specs.declared.lot.Lot.TheVariants.{Pass}
use Rattle.ca_verbs_machine.specs.Asks.{peer_mail}
use Rattle.ca_adapter_parts.specs.HeldView.{holding}
use Rattle.ca_model.specs.declared.event.Event.TheVariants as events
use Rattle.ca_model.specs.machine.Parts.{event_needs, turn_needs}
use Rattle.ca_verbs_taking.proofs.NextLemmas.{also_none, also_some}
use Rattle.ca_verbs_taking.proofs.next.request_part.Goals as goal

pub returns-in-Some : goal.returns-in-Some
returns-in-Some c = sym (also_some (holding c.args.held.now).parts (holding c.args.held.now).world (event_needs (configuration_in c.args.settings.now) (events.Request c.args.queue Pass))
    (turn_needs (configuration_in c.args.settings.now) c.args.queue peer_mail) c.in-Some.name (sym c.next_part.ensures ∙ c.in-Some.is))

pub returns : goal.returns
returns c = c.mail_part.ensures ∙ sym (also_none (holding c.args.held.now).parts (holding c.args.held.now).world (event_needs (configuration_in c.args.settings.now) (events.Request c.args.queue Pass))
    (turn_needs (configuration_in c.args.settings.now) c.args.queue peer_mail) (sym c.next_part.ensures ∙ c.in-None.is))

use Rattle.std.proofs.Common.{rules, ◌≡◌, ◌∙◌, sym, ap, ◌∷◌, Some}
use Rattle.ca_base.specs.Configuration.{configuration_in}
use Rattle.ca_adapter_parts.specs.HeldView.{holding}
use Rattle.ca_model.specs.machine.Parts.{ask_needs, asks_needs}
use Rattle.ca_adapter_footprint.specs.Next.{next_of}
use Rattle.ca_adapter_footprint.proofs.AlsoLemmas.{also_some}
use Rattle.ca_adapter_footprint.proofs.keys.+asks.Goals as goal

pub returns-in-Some-ask : goal.returns-in-Some-ask
returns-in-Some-ask t c =
    let h = c.args.held.now in
    let config = configuration_in c.args.settings.now in
    let list : c.args.list.now ≡ c.in-Some.first.now ∷ c.in-Some.rest.now = search rules in
    let first : next_of h (ask_needs config c.in-Some.first.now) ≡ Some c.in-Some-ask.name = search rules in
    sym (ap (λ asks. next_of h (asks_needs config asks)) list
    ∙ also_some (holding h).parts (holding h).world (ask_needs config c.in-Some.first.now) (asks_needs config c.in-Some.rest.now) c.in-Some-ask.name first)

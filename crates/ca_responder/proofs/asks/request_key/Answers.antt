use Rattle.std.proofs.Common.{ap, ◌∙◌}
use Rattle.ca_model.specs.machine.Row.{Row}
use Rattle.ca_responder.proofs.asks.request_key.Goals as goal

pub returns-in-Some : goal.returns-in-Some
returns-in-Some c = λ envelope. c.valid_key.ensures envelope ∙ ap (λ (r : Row). r.invalidation) (c.in-Some.ensures.some envelope)

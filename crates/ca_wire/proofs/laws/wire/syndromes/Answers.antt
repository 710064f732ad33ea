use Rattle.ca_wire.proofs.SyndromeLaws.{received, only}
use Rattle.ca_wire.proofs.laws.wire.syndromes.Goals as goal

pub returns-clause-received : goal.returns-clause-received
returns-clause-received c = received

pub returns-clause-only : goal.returns-clause-only
returns-clause-only c = only

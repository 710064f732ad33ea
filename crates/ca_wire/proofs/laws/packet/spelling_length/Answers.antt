use Rattle.ca_wire.proofs.WritingLaws.{response_most, spelling_by_payload, spelling_length, spelling_most}
use Rattle.ca_wire.proofs.laws.packet.spelling_length.Goals as goal

pub returns-clause-exact : goal.returns-clause-exact
returns-clause-exact c = spelling_length

pub returns-clause-most : goal.returns-clause-most
returns-clause-most c = spelling_most

pub returns-clause-by_payload : goal.returns-clause-by_payload
returns-clause-by_payload c = spelling_by_payload

pub returns-clause-response : goal.returns-clause-response
returns-clause-response c = response_most

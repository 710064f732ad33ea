use Rattle.ca_connection.proofs.CalmLemmas.{accepting-oldest, waiting-oldest}
use Rattle.ca_connection.proofs.laws.oldest_request_is_expected.Goals as goal

pub returns-clause-accepting : goal.returns-clause-accepting
returns-clause-accepting c = λ d l k packet calm accepts count is. (accepting-oldest d l k packet calm accepts count is).number

pub returns-clause-waiting : goal.returns-clause-waiting
returns-clause-waiting c = waiting-oldest

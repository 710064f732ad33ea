use Rattle.ca_connection.proofs.CalmLemmas.{oldest-passes, response-reaches, response-sent}
use Rattle.ca_connection.proofs.laws.oldest_response_passes_nothing.Goals as goal

pub returns-clause-passes : goal.returns-clause-passes
returns-clause-passes c = λ d l k a calm count is. (oldest-passes d l k a calm count is).0

pub returns-clause-reaches : goal.returns-clause-reaches
returns-clause-reaches c = response-reaches

pub returns-clause-outstanding : goal.returns-clause-outstanding
returns-clause-outstanding c = response-sent

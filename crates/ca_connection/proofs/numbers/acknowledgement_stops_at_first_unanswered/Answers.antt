use Rattle.std.proofs.Common.{arith}
use Rattle.ca_connection.proofs.AcknowledgeLemmas.{walk-finds}
use Rattle.ca_connection.proofs.numbers.acknowledgement_stops_at_first_unanswered.Goals as goal

pub returns : goal.returns
returns c = λ d count place una upto low end. walk-finds d count place una upto end (λ q n from below names. absurd (omega arith))

use Rattle.std.proofs.Common.{length}
use Rattle.ca_requester_sends.specs.Numbering.{numbers_from}
use Rattle.ca_requester_sends.proofs.turn.+awaits_answer.Given as goal

abbrev pub decreases-awaits_answer : goal.decreases-awaits_answer
decreases-awaits_answer l = length (numbers_from l.posting l.first l.q.now)

use Rattle.std.proofs.Common.{length}
use Rattle.ca_requester_sends.specs.Numbering.{numbers_from}
use Rattle.ca_requester_sends.proofs.turn.+has_more_packets.Given as goal

abbrev pub decreases-has_more_packets : goal.decreases-has_more_packets
decreases-has_more_packets l = length (numbers_from l.posting l.first l.q.now)

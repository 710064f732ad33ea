use Rattle.std.proofs.Common.{ap, arith, sym}
use Rattle.ca_base.specs.objects.QueuePair.{QueuePair}
use Rattle.ca_requester_sends.proofs.TurnLemmas.{few_packets}
use Rattle.ca_requester_sends.proofs.turn.+has_more_packets.Goals as goal

pub returns-then-saturating_sub-most : goal.returns-then-saturating_sub-most
returns-then-saturating_sub-most t c =
    sym (few_packets c.args.q.now c.args.posting c.args.first c.args.q.now.requester.una c.args.upto c.args.most (omega (arith, ap (λ (q : QueuePair). q.requester.una) c.q.view_is)))

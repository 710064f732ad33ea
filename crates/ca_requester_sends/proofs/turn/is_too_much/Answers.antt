use Rattle.std.proofs.Common.{ap, arith, sym}
use Rattle.ca_base.specs.objects.QueuePair.{QueuePair}
use Rattle.ca_requester_sends.proofs.TurnLemmas.{little}
use Rattle.ca_requester_sends.proofs.turn.is_too_much.Goals as goal

pub returns-then-saturating_sub-from : goal.returns-then-saturating_sub-from
returns-then-saturating_sub-from c =
    sym (little c.args.q.now c.args.n.now c.requires.step.queue
    (omega (arith, c.end_of_packet-upto.ensures, ap (λ (q : QueuePair). q.requester.una) c.q.view_is, ap (λ (q : QueuePair). q.requester.reads) c.q.view_is)))

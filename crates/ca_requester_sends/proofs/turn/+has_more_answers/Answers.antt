use Rattle.std.proofs.Common.{ap, arith, sym}
use Rattle.ca_base.specs.objects.QueuePair.{QueuePair}
use Rattle.ca_requester_sends.proofs.TurnLemmas.{few_answers}
use Rattle.ca_requester_sends.proofs.turn.+has_more_answers.Goals as goal

pub returns-then-saturating_sub-most : goal.returns-then-saturating_sub-most
returns-then-saturating_sub-most t c =
    sym (few_answers c.args.q.now c.args.posting c.args.first c.args.q.now.requester.una c.args.upto c.args.most (omega (arith, ap (λ (q : QueuePair). q.requester.una) c.q.view_is)))

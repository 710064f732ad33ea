use Rattle.std.proofs.Common.{ap, rules, arith}
use Rattle.ca_base.specs.objects.QueuePair.{QueuePair}
use Rattle.ca_requester_sends.proofs.FinishedLemmas.{few_finished}
use Rattle.ca_requester_sends.proofs.finished.complete_before.Goals as goal

pub returns : goal.returns
returns c = record {
  queue = search rules;
  marks = search rules;
  room = omega (arith, c.in_ok-reserve.ensures.room, c.push_finished_from.ensures.room, few_finished c.args.q.now c.q.inside.requester.oldest c.args.end, ap (λ (q : QueuePair). q.requester.oldest) c.q.view_is);
}

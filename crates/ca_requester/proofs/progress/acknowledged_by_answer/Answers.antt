use Rattle.std.proofs.Common.{◌≡◌, ◌+◌, arith, ap, max, rules}
use Rattle.ca_base.specs.objects.QueuePair.{QueuePair}
use Rattle.ca_requester.proofs.ProgressLemmas.{answered_here, answered_past}
use Rattle.ca_requester.proofs.progress.acknowledged_by_answer.Goals as goal

pub returns-then-end-una : goal.returns-then-end-una
returns-then-end-una c =
    let grows : c.max-una.result ≡ max c.args.q.now.requester.una (c.args.before.now.until + 1) = omega (arith, c.max-una.ensures, ap (λ (q : QueuePair). q.requester.una) c.q.view_is) in
    answered_here c.args.q.now c.args.before.now (c.args.before.now.until + 1) c.max-una.result c.args.oldest.now
    c.requires.progress c.requires.oldest c.requires.begun (omega arith) grows (search rules)

pub returns : goal.returns
returns c =
    let grows : c.max-una.result ≡ max c.args.q.now.requester.una (c.args.before.now.until + 1) = omega (arith, c.max-una.ensures, ap (λ (q : QueuePair). q.requester.una) c.q.view_is) in
    answered_past c.args.q.now c.args.before.now (c.args.before.now.until + 1) c.max-una.result (c.args.before.now.posting + 1) _ c.args.oldest.now c.reached_by-reached.result
    c.requires.progress c.requires.oldest c.requires.begun (omega arith) grows (omega arith) (search rules) (omega arith) c.reached_by-reached.ensures

use Rattle.std.proofs.Common.{ap, rules, subst}
use Rattle.ca_base.specs.declared.queue_numbers.RequesterNumbers.{RequesterNumbers}
use Rattle.ca_base.specs.objects.QueuePair.{QueuePair}
use Rattle.ca_requester.proofs.ProgressLemmas.{goes_back, goes_on, oldest_back, oldest_on}
use Rattle.ca_requester.specs.Progress.{IsReached}
use Rattle.ca_requester.proofs.progress.oldest_below.Goals as goal

pub returns-in-None-clause-acknowledged : goal.returns-in-None-clause-acknowledged
returns-in-None-clause-acknowledged c =
    let P : RequesterNumbers → Type 0 = λ r. IsReached r.oldest r.oldest_psn r.una c.args.psn c.args.q.now c.reached_by-reached.result in
    goes_on c.args.q.now c.args.psn c.reached_by-reached.result c.requires (subst P (ap (λ (q : QueuePair). q.requester) c.q.view_is) c.reached_by-reached.ensures) (search rules)

pub returns-in-None-clause-oldest : goal.returns-in-None-clause-oldest
returns-in-None-clause-oldest c =
    let P : RequesterNumbers → Type 0 = λ r. IsReached r.oldest r.oldest_psn r.una c.args.psn c.args.q.now c.reached_by-reached.result in
    oldest_on c.args.q.now c.args.psn c.reached_by-reached.result c.requires (subst P (ap (λ (q : QueuePair). q.requester) c.q.view_is) c.reached_by-reached.ensures) (search rules)

pub returns-in-Some-clause-acknowledged : goal.returns-in-Some-clause-acknowledged
returns-in-Some-clause-acknowledged c =
    let P : RequesterNumbers → Type 0 = λ r. IsReached r.oldest r.oldest_psn r.una c.args.psn c.args.q.now c.reached_by-reached.result in
    goes_back c.args.q.now c.args.psn c.in-Some.back c.reached_by-reached.result c.requires (subst P (ap (λ (q : QueuePair). q.requester) c.q.view_is) c.reached_by-reached.ensures) (search rules)

pub returns-in-Some-clause-oldest : goal.returns-in-Some-clause-oldest
returns-in-Some-clause-oldest c =
    let P : RequesterNumbers → Type 0 = λ r. IsReached r.oldest r.oldest_psn r.una c.args.psn c.args.q.now c.reached_by-reached.result in
    oldest_back c.args.q.now c.args.psn c.in-Some.back c.reached_by-reached.result (subst P (ap (λ (q : QueuePair). q.requester) c.q.view_is) c.reached_by-reached.ensures)

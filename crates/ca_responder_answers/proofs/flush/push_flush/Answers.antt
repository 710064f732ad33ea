use Rattle.std.proofs.Common.{◌≡◌, ap, arith, sym, ◌∙◌, None, Some}
use Rattle.std.proofs.lemmas.Grind.{common_steps}
use Rattle.ca_base.specs.objects.QueuePair.{QueuePair}
use Rattle.ca_responder_answers.proofs.FlushLemmas.{flushed-none, flushed-own}
use Rattle.ca_responder_answers.proofs.flush.push_flush.Goals as goal

pub returns-in-All : goal.returns-in-All
returns-in-All c =
    rw c.in-All.is (grind (arith, common_steps))

pub returns-in_ok-push_flushed_receives : goal.returns-in_ok-push_flushed_receives
returns-in_ok-push_flushed_receives c =
    let own : c.args.q.now.receives ≡ Some c.in-Some.own = sym (ap (λ (x : QueuePair). x.receives) c.q.view_is) ∙ c.in-Some.is in
    let flushed = flushed-own c.args.receives c.args.q.now c.in-Some.own c.in_default.not-All own in
    grind (arith, common_steps)

pub returns-in_default-receives : goal.returns-in_default-receives
returns-in_default-receives c =
    let none : c.args.q.now.receives ≡ None = sym (ap (λ (x : QueuePair). x.receives) c.q.view_is) ∙ c.in_default-receives.is in
    let flushed = flushed-none c.args.receives c.args.q.now c.in_default.not-All none in
    grind (arith, common_steps)

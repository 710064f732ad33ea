use Rattle.std.proofs.Common.{rules, arith, ◌+◌}
use Rattle.ca_requester_sends.proofs.OutcomeLemmas.{failure-flushed}
use Rattle.ca_requester_sends.proofs.outcome.push_failure.Goals as goal

pub returns-in_ok-push-in-Some : goal.returns-in_ok-push-in-Some
returns-in_ok-push-in-Some c =
    rw (failure-flushed c.args.q.now c.args.oldest (c.args.oldest + 1) c.in-Some.posted.now c.args.status c.args.cause c.args.made.now.items c.push.new.self.items
    (omega arith) (search rules) (search rules) (search rules))
    c.push_flushed-in-Some.ensures

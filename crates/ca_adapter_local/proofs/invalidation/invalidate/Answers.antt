use Rattle.std.proofs.Common.{ap}
use Rattle.ca_adapter_local.proofs.OperationLemmas.{end-failed, end-made}
use Rattle.ca_adapter_local.proofs.invalidation.invalidate.Goals as goal

pub returns-in-Ok : goal.returns-in-Ok
returns-in-Ok c = λ d h outside same. end-made d h c.args.q.now c.args.key outside c.args.reached.now same c.requires c.q.inside.queue (ap (λ q. q.queue) c.q.view_is)
    c.q.inside.windows c.invalidate.new.windows c.invalidate.new.self (ap (λ q. q.windows) c.q.view_is) c.in-Ok.ensures.accepted c.in-Ok.ensures.revoked c.in-Ok.ensures.count

pub returns-in-Err : goal.returns-in-Err
returns-in-Err c = λ d h outside same. end-failed d h c.args.q.now c.args.key outside c.args.reached.now same c.requires c.q.inside.queue (ap (λ q. q.queue) c.q.view_is)
    c.in-Err.refusal c.invalidate.new.self c.in-Err.ensures.refused c.in-Err.ensures.err

use Rattle.std.proofs.Common.{rules, arith, ◌+◌}
use Rattle.ca_qp_rows.proofs.FlushLemmas.{receive-flushed}
use Rattle.ca_qp_rows.proofs.flush.+push_flushed_receives.Goals as goal

pub returns : goal.returns
returns t c = rw (receive-flushed c.args.queue c.args.receives.now c.args.posting (c.args.posting + 1) c.in-Some.receive.now c.args.made.now.items c.push.new.self.items (omega arith) (search rules) (search rules) (search rules))
    c.push_flushed_receives.ensures

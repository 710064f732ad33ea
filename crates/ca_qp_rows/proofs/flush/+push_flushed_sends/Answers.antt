use Rattle.std.proofs.Common.{rules, arith, ◌+◌}
use Rattle.ca_qp_rows.proofs.FlushLemmas.{send-flushed}
use Rattle.ca_qp_rows.proofs.flush.+push_flushed_sends.Goals as goal

pub returns : goal.returns
returns t c = rw (send-flushed c.args.queue c.args.sends.now c.args.posting (c.args.posting + 1) c.in-Some.posted.now c.args.made.now.items c.push.new.self.items (omega arith) (search rules) (search rules) (search rules))
    c.push_flushed_sends.ensures

use Rattle.ca_qp_rows.proofs.WriteLemmas.{can_behind}
use Rattle.ca_qp_rows.proofs.writes.write_judged.Goals as goal

pub write_each-requires-clause-can : goal.write_each-requires-clause-can
write_each-requires-clause-can g c =
    can_behind g.R.Reach.sight g.R.Reach.judges g.R.Reach.touches c.args.reach.now c.write_one.new.reach c.args.judged.now.asks.now _ c.args.bytes.now
    c.split_at.result.1.now c.split_at.result.0.now c.in-len1-up.len_at_least c.split_at.ensures.back c.requires.can
    c.write_one.ensures.hand c.write_one.ensures.bytes_hand c.write_one.ensures.sees

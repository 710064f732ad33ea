use Rattle.ca_qp_rows.proofs.WriteLemmas.{still_begins}
use Rattle.ca_qp_rows.proofs.writes.+push_each.Goals as goal

pub returns-clause-begins : goal.returns-clause-begins
returns-clause-begins t c = still_begins c.push_each.result c.args.marks.now.marks c.push.new.self.marks c.push_each.new.marks.marks _ c.push.ensures.marks c.push_each.ensures.begins

use Rattle.std.proofs.Common.{◌≡◌, None, rules, arith}
use Rattle.std.proofs.lemmas.Grind.{common_steps}
use Rattle.ca_base.specs.Sight.{denial_in}
use Rattle.ca_qp_rows.proofs.reads.read_piece.Goals as goal

pub returns-clause-read : goal.returns-clause-read
returns-clause-read g c =
    let granted : denial_in (g.R.Reach.sight c.args.reach.now) c.args.ask.now ≡ None = grind (arith, common_steps) in
    let read = c.in_ok-verdict.ensures.read granted in
    record {
      granted = granted;
      marks = record { marks = rw (c.push.ensures.marks, c.local_mark.ensures, read) (search rules); room = search rules };
      count = c.in_ok-verdict.ensures.count granted;
    }

use Rattle.std.proofs.Common.{subst}
use Rattle.ca_model.specs.machine.Row.{Effects}
use Rattle.ca_requester_sends.specs.ca_qp_rows.Made.{IsMade}
use Rattle.ca_requester.proofs.TakingLemmas.{denied_makes}
use Rattle.ca_requester.proofs.taking.deny.Goals as goal

pub returns : goal.returns
returns c =
    let P : Effects → Type 0 = λ e. IsMade c.make.result e c.args.q.now c.make.new.q c.args.marks.now c.make.new.marks in
    subst P (denied_makes c.args.q.now c.args.acknowledged.until c.numbers_after.result c.args.denied.now (rw c.numbers_after.ensures c.requires))
    (rw (← c.local_denial.ensures) c.make.ensures)

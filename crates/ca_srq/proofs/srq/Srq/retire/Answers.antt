use Rattle.std.proofs.Common.{arith}
use Rattle.std.proofs.lemmas.Grind.{common_steps}
use Rattle.ca_srq.proofs.Filtered.{length-places_left}
use Rattle.ca_srq.proofs.srq.Srq.retire.Goals as goal

pub invariant_of-self : goal.invariant_of-self
invariant_of-self c =
    let counted = length-places_left c.args.place c.self.inside.taken.places in
    let left = c.without-self-inside.ensures in
    grind (arith, common_steps, counted, left, c.self.invariant, c.saturating_sub-self-inside.ensures)

pub returns-clause-fewer : goal.returns-clause-fewer
returns-clause-fewer c =
    let counted = length-places_left c.args.place c.self.inside.taken.places in
    grind (arith, common_steps, counted, c.without-self-inside.ensures, c.self.view_is)

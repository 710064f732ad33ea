use Rattle.std.proofs.Common.{arith, ◌∙◌}
use Rattle.std.proofs.lemmas.Grind.{common_steps}
use Rattle.ca_outside.proofs.Passed.{Appends-more}
use Rattle.ca_outside.proofs.transfer.write_all.Goals as goal

pub loop-done-preserved : goal.loop-done-preserved
loop-done-preserved g c = record {
  within = grind (arith, common_steps, c.in_ok-done.ensures.count);
  took = Appends-more _ _ _ _ _ _ c.loop-done.invariant.took c.in_ok-done.ensures.bytes;
  kept = c.in_ok-done.ensures.cause.kept ∙ c.loop-done.invariant.kept;
}

pub returns-clause-ok : goal.returns-clause-ok
returns-clause-ok c = grind (arith, common_steps)

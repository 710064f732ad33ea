use Rattle.std.proofs.lemmas.Grind.{common_steps}
use Rattle.std.proofs.Common.{arith, ℕ}
use Rattle.std.proofs.lemmas.List.{length-take}
use Rattle.ca_outside.proofs.Passed.{LosesAtMost-two}
use Rattle.ca_outside.proofs.transfer.read_up_to.Goals as goal

pub returns-in_err-extend_from_slice-clause-loses : goal.returns-in_err-extend_from_slice-clause-loses
returns-in_err-extend_from_slice-clause-loses g c =
    LosesAtMost-two _ _ _ _ _ _ (omega (arith, c.in_ok-count.ensures.count, length-take {A = ℕ})) c.loop-chunk.invariant.came c.in_ok-count.ensures.bytes

pub returns-then-count-eq0-clause-failed : goal.returns-then-count-eq0-clause-failed
returns-then-count-eq0-clause-failed c = grind (arith, common_steps)

pub loop-chunk-preserved : goal.loop-chunk-preserved
loop-chunk-preserved g c = record {
  came = grind (arith, common_steps);
  bounded = grind (arith, common_steps) steps 400000;
  kept = grind (arith, common_steps);
}

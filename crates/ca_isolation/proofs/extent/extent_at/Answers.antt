use Rattle.std.proofs.Common.{◌+◌, subst, sym, take}
use Rattle.ca_keys.specs.Memory.{is_in}
use Rattle.ca_isolation.proofs.CoverLemmas.{run-there, run_at}
use Rattle.ca_isolation.proofs.ExtentLemmas.{IsBare, bare-more}
use Rattle.ca_isolation.proofs.extent.extent_at.Goals as goal
use Rattle.ca_isolation.specs.Extents.{IsExtent}

pub loop-run-preserved : goal.loop-run-preserved
loop-run-preserved c = subst (IsBare (take (c.loop-run.run-index + 1) c.args.cover.now) c.args.at) (sym c.min-bare.ensures)
    (bare-more c.args.cover.now c.loop-run.run-index (run_at c.args.cover.now c.loop-run.run-index) c.args.at c.loop-run.bare c.in-Bare.count
    c.loop-run-test.true (run-there c.args.cover.now c.loop-run.run-index c.loop-run-test.true) c.loop-run.invariant
    (subst (IsExtent (is_in (run_at c.args.cover.now c.loop-run.run-index)) c.args.at) c.in-Bare.is c.extent_by.ensures))

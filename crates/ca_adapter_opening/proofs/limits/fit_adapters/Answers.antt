use Rattle.std.proofs.Common.{◌≡◌, arith, length, map}
use Rattle.ca_base.specs.Configuration.{adapter_of}
use Rattle.ca_adapter_opening.specs.Opening.{buffer_lengths}
use Rattle.ca_adapter_opening.proofs.FitLemmas.{fits-next}
use Rattle.ca_adapter_opening.proofs.limits.fit_adapters.Goals as goal

pub loop-adapter-preserved : goal.loop-adapter-preserved
loop-adapter-preserved c = fits-next (map length c.args.contents.now ≡ buffer_lengths (map adapter_of c.args.adapters.now)) c.args.adapters.now c.loop-adapter.adapter-index
    c.adapter-item.result c.as_slice-sizes.result.now c.loop-adapter.rest.now (omega (arith, c.loop-adapter-test.true)) c.adapter-item.is c.as_slice-sizes.ensures.value
    (c.begin_with.ensures.yes c.if-not-begin_with.false) c.loop-adapter.invariant

use Rattle.std.proofs.Common.{◌∙◌, ap, arith, length, map}
use Rattle.ca_base.specs.Configuration.{adapter_of, configuration_of}
use Rattle.ca_adapter_opening.proofs.ZeroLemmas.{zeros_done, zeros_fit, zeros_open}
use Rattle.ca_adapter_opening.specs.Opening.{buffer_lengths}
use Rattle.ca_adapter_opening.specs.Zeros.{zeros_of}
use Rattle.ca_adapter_opening.proofs.zeros.zero_contents.Goals as goal

pub returns-clause-fit : goal.returns-clause-fit
returns-clause-fit c = zeros_fit (configuration_of c.args.config.now) c.from.result
    (c.from.ensures ∙ zeros_done c.loop-adapter.contents.items c.loop-adapter.adapter-index c.args.config.now.adapters.items
    (zeros_of (buffer_lengths (map adapter_of c.args.config.now.adapters.items))) (omega (arith, ap length c.as_slice-adapter-items.ensures.value, c.loop-adapter-test.false)) c.loop-adapter.invariant)

pub returns-clause-zeros : goal.returns-clause-zeros
returns-clause-zeros c = zeros_open (configuration_of c.args.config.now) c.from.result
    (c.from.ensures ∙ zeros_done c.loop-adapter.contents.items c.loop-adapter.adapter-index c.args.config.now.adapters.items
    (zeros_of (buffer_lengths (map adapter_of c.args.config.now.adapters.items))) (omega (arith, ap length c.as_slice-adapter-items.ensures.value, c.loop-adapter-test.false)) c.loop-adapter.invariant)

use Rattle.std.proofs.Common.{arith, length-set}
use Rattle.ca_base.specs.declared.settings.AdapterSettings.{AdapterSettings}
use Rattle.ca_base.proofs.SettingsLemmas.{one_more_copied, all_copied}
use Rattle.ca_base.proofs.settings.Settings.of.Goals as goal

pub loop-i-preserved : goal.loop-i-preserved
loop-i-preserved c = (
  one_more_copied _ _ _ _ _ c.loop-i.invariant.0 (omega arith) c.loop-i-test.true c.index-there-i.is c.of.ensures,
  omega (arith, length-set {A = AdapterSettings}),
)

pub returns : goal.returns
returns c =
    all_copied c.args.config.now c.loop-i.adapters c.as_slice-there.result.now c.loop-i.i
    c.as_slice-there.ensures.value (omega arith) c.loop-i.invariant.0

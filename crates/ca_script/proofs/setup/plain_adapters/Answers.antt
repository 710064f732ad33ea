use Rattle.ca_script.proofs.SetupLemmas.{plain_more, length_more}
use Rattle.ca_script.proofs.setup.plain_adapters.Goals as goal

pub loop-i-preserved : goal.loop-i-preserved
loop-i-preserved c = (
  plain_more c.loop-i.adapters.items c.push.new.self.items c.plain_adapter.result c.loop-i._i c.args.count c.push.ensures.items c.plain_adapter.ensures c.loop-i-test.true c.loop-i.invariant.0,
  length_more c.loop-i.adapters.items c.push.new.self.items c.plain_adapter.result c.loop-i._i c.push.ensures.items c.loop-i.invariant.1,
)

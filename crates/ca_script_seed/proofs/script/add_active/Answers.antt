use Rattle.ca_script_seed.specs.Made.{active}
use Rattle.ca_script_seed.proofs.MadeLemmas.{each_step}
use Rattle.ca_script_seed.proofs.script.add_active.Goals as goal

pub loop-d-preserved : goal.loop-d-preserved
loop-d-preserved c = each_step (active c.args.seed) c.loop-d.consumers.items c.push.new.self.items _ c.in_ok-active.field-0 c.loop-d.d 4 c.in_ok-push.ensures.items c.in_ok-active.ensures c.loop-d-test.true c.loop-d.invariant

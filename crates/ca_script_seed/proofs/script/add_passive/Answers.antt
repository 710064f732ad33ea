use Rattle.ca_script_seed.specs.Made.{passive}
use Rattle.ca_script_seed.proofs.MadeLemmas.{each_step}
use Rattle.ca_script_seed.proofs.script.add_passive.Goals as goal

pub loop-d-preserved : goal.loop-d-preserved
loop-d-preserved c = each_step passive c.loop-d.consumers.items c.push.new.self.items _ c.in_ok-passive.field-0 c.loop-d.d 4 c.in_ok-push.ensures.items c.in_ok-passive.ensures c.loop-d-test.true c.loop-d.invariant

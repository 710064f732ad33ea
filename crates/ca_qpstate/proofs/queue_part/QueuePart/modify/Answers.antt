use Rattle.std.proofs.Common.{rules}
use Rattle.ca_base.specs.Configuration.{configuration_in}
use Rattle.ca_base.specs.objects.StateTable.{modify_refusals}
use Rattle.ca_law_world.proofs.Sound.TurnLemmas.{all-fail}
use Rattle.ca_law_world.proofs.Sound.VerbLemmas.{changed-queue}
use Rattle.ca_qpstate.proofs.queue_part.QueuePart.modify.Goals as goal

pub returns-clause-comes_up : goal.returns-clause-comes_up
returns-clause-comes_up c = λ is. rw c.apply.ensures (changed-queue (configuration_in c.args.settings.now) c.args.change.now c.args.self.now (search rules) is
    (all-fail (modify_refusals (configuration_in c.args.settings.now) c.args.self.now c.args.change.now) (search rules)))

use Rattle.std.proofs.Common.{rules, ◌≡◌, subst}
use Rattle.ca_adapter_acts.specs.Calls.{call_of}
use Rattle.ca_base.specs.objects.QueuePair.{Present}
use Rattle.ca_adapter_parts.specs.HeldView.{holding}
use Rattle.ca_keys.specs.Numbers.{queue_of}
use Rattle.ca_model.specs.machine.Sound.{IsQueueOf}
use Rattle.ca_adapter_pairs.proofs.DestroyLemmas.{destroy_acts}
use Rattle.ca_adapter_pairs.proofs.destroy.destroy_qp.Goals as goal

pub returns : goal.returns
returns c =
    let is : (holding c.args.held.now).world.queue (queue_of c.args.slot) ≡ Present c.in-Present.queue = search rules in
    record {
      act = destroy_acts (call_of c.args.call.now) c.args.slot (holding c.args.held.now) (holding c.depart.new.held)
          (holding c.count_down.new.held) (holding c.vacate.new.held) (holding c.close.new.held) c.answer.result c.in-Present.queue
          is (subst (IsQueueOf (queue_of c.args.slot)) is c.requires.queue).0 (search rules) (search rules) (search rules)
          (search rules) (search rules) (search rules);
    }

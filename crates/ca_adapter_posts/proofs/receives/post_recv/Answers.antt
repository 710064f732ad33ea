use Rattle.std.proofs.Common.{rules, ◌≡◌}
use Rattle.std.proofs.Common.{subst}
use Rattle.ca_base.specs.objects.QueuePair.{Present}
use Rattle.ca_keys.specs.Numbers.{queue_of}
use Rattle.ca_adapter_parts.specs.HeldView.{holding}
use Rattle.ca_model.specs.machine.Sound.{IsQueueOf}
use Rattle.ca_adapter_acts.specs.Calls.{call_of}
use Rattle.ca_adapter_posts.proofs.ReceiveLemmas.{recv_acts}
use Rattle.ca_adapter_posts.proofs.receives.post_recv.Goals as goal

pub returns : goal.returns
returns c =
    let is : (holding c.args.held.now).world.queue (queue_of c.args.slot) ≡ Present c.in-Present.queue = search rules in
    record {
      act = recv_acts (holding c.args.held.now) (holding c.post_in.new.held) (holding c.put_completions.new.held) (call_of c.args.call.now) c.args.slot
          c.args.request.now c.in-Present.queue c.append.new.self c.in_ok-flushed.flushed.items c.in_ok-completions.completions.items
          is (subst (IsQueueOf (queue_of c.args.slot)) is c.requires.queue).0 (search rules) (search rules) (search rules) (search rules) (search rules) (search rules);
    }

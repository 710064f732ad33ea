use Rattle.std.proofs.Common.{rules, ◌≡◌, Ok, refl, subst, sym}
use Rattle.ca_base.specs.objects.QueuePair.{Present}
use Rattle.ca_keys.specs.Numbers.{queue_of}
use Rattle.ca_adapter_parts.specs.HeldView.{holding}
use Rattle.ca_adapter_acts.specs.Act.{IsAct}
use Rattle.ca_adapter_acts.specs.Calls.{call_of}
use Rattle.ca_adapter_posts.proofs.SendLemmas.{send_refused}
use Rattle.ca_adapter_posts.proofs.sends.post_send.Goals as goal

pub returns-in-Some : goal.returns-in-Some
returns-in-Some c =
    let is : (holding c.args.held.now).world.queue (queue_of c.args.slot) ≡ Present c.in-Present.queue = search rules in
    record {
      act = subst (λ o. IsAct (Ok c.in_ok-refuse-3.field-0) o (holding c.args.held.now) (holding c.args.held.now))
          (sym (send_refused (holding c.args.held.now).world (call_of c.args.call.now) c.args.slot c.args.request.now c.in-Present.queue c.in-Some.refusal is (search rules) (search rules)))
          (search rules, refl);
    }

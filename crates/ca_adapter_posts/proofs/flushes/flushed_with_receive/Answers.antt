use Rattle.std.proofs.Common.{rules, ◌≡◌, ◌∙◌, ap, subst, sym, Some, IfSome}
use Rattle.ca_base.specs.objects.QueuePair.{QueuePair}
use Rattle.ca_model.specs.machine.Invariants.{IsReceives}
use Rattle.ca_adapter_posts.proofs.FlushLemmas.{receive_flushed}
use Rattle.ca_adapter_posts.proofs.flushes.flushed_with_receive.Goals as goal

pub returns : goal.returns
returns c =
    let is : c.args.queue.now.receives ≡ Some c.in-Some.receives = sym (ap (λ (x : QueuePair). x.receives) c.queue.view_is) ∙ c.in-Some.is in
    let own : IsReceives c.in-Some.receives = subst (λ o. IfSome o IsReceives) is c.requires.receives in
    receive_flushed c.args.request.now c.args.queue.now c.in-Some.receives c.push_flushed.new.made.items c.push.new.self.items
    (search rules) is own.taken own.waiting (search rules) (search rules)

use Rattle.std.proofs.Common.{rules, arith}
use Rattle.std.proofs.lemmas.Grind.{common_steps}
use Rattle.ca_adapter_posts.proofs.FlushLemmas.{send_flushed}
use Rattle.ca_adapter_posts.proofs.flushes.flushed_with_send.Goals as goal

pub returns : goal.returns
returns c drawn =
    send_flushed c.args.request.now drawn c.args.queue.now c.push_flushed_sends.new.made.items c.push.new.self.items c.push_flushed.new.made.items
    (search rules) c.requires.requester.finished (grind (arith, common_steps, c.requires.requester.begun, c.requires.requester.waiting)) (search rules) (search rules) (search rules)

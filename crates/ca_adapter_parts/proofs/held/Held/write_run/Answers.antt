use Rattle.std.proofs.Common.{ap, ◌∙◌}
use Rattle.ca_adapter_reach.specs.Names.{buffer_eq}
use Rattle.ca_adapter_parts.proofs.ByteLemmas.{put_bytes}
use Rattle.ca_adapter_reach.specs.Shelved.{thing_under}
use Rattle.ca_adapter_parts.proofs.held.Held.write_run.Goals as goal

pub returns : goal.returns
returns c =
    rw c.of-name.ensures
    (put_bytes c.args.self.now c.args.at.now c.args.bytes.now c.buffer_mut.result.now c.write.new.self
    (c.buffer_mut.ensures.value ∙ ap (λ b. thing_under buffer_eq b c.args.self.now.reached.buffers.things) c.of-name.ensures)
    c.write.ensures.places c.write.ensures.count)

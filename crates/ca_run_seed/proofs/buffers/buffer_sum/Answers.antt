use Rattle.std.proofs.Common.{◌≡◌, ◌∙◌, [], ◌∷◌, ◌++◌, ap, sym}
use Rattle.ca_base.specs.Configuration.{configuration_in}
use Rattle.ca_keys.specs.Memory.{bytes_at}
use Rattle.ca_run_seed.proofs.SumLemmas.{whole-sum}
use Rattle.ca_memory.specs.Buffer.{memory_of}
use Rattle.ca_model.specs.machine.Step.{run_of}
use Rattle.ca_run_seed.proofs.buffers.buffer_sum.Goals as goal

pub returns-clause-sum : goal.returns-clause-sum
returns-clause-sum c = λ k w of.
    let read : c.deref.result.now ≡ bytes_at (memory_of c.in-Some-buffer_at.there.now) (run_of c.args.adapter c.args.buffer 0 c.in-Some.length ∷ []) =
    c.deref.ensures.value ∙ c.in_ok-read-in-Some-buffer_at.ensures.bytes
    ∙ ap (λ items. items ++ bytes_at (memory_of c.in-Some-buffer_at.there.now) (run_of c.args.adapter c.args.buffer 0 c.in-Some.length ∷ [])) c.new-bytes.ensures.items in
    c.sum_of.ensures.sum
    ∙ whole-sum (configuration_in c.args.row.now.settings) k w c.args.adapter c.args.buffer c.in-Some.length c.in-Some-buffer_at.there.now c.deref.result.now of.settings
    (sym c.in-Some.ensures) (c.in-Some-buffer_at.ensures k w of) read

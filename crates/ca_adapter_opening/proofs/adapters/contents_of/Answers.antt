use Rattle.std.proofs.Common.{◌≡◌, ◌∙◌, ◌+◌, ◌-◌, ap, arith, drop, length, map, take}
use Rattle.ca_adapter_opening.proofs.ContentsLemmas.{there}
use Rattle.ca_adapter_opening.proofs.adapters.contents_of.Goals as goal

pub returns-clause-value : goal.returns-clause-value
returns-clause-value c =
    let e : c.first_buffer-first.result + c.len-count.result - c.first_buffer-first.result ≡ length c.args.adapter.now.buffers.items = omega (arith, c.len-count.ensures.value) in
    ap (λ k. take k (drop c.first_buffer-first.result c.as_slice.result.now)) e
    ∙ ap (λ xs. take (length c.args.adapter.now.buffers.items) (drop c.first_buffer-first.result xs)) c.as_slice.ensures
    ∙ ap (λ k. take (length c.args.adapter.now.buffers.items) (drop k c.args.opening.now.contents)) c.first_buffer-first.ensures.value

pub returns-clause-fit : goal.returns-clause-fit
returns-clause-fit c = ap (map length) (returns-clause-value c)
    ∙ (there c.args.opening.now.config c.args.opening.now.contents c.args.number c.args.adapter.now c.requires.there c.requires.contents).fit

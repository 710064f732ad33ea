use Rattle.std.proofs.Common.{◌∙◌, ap, arith, length, map, sum_by, sym, take}
use Rattle.std.proofs.lemmas.List.{take-map}
use Rattle.ca_base.specs.Configuration.{adapter_of}
use Rattle.ca_adapter_opening.proofs.ContentsLemmas.{there}
use Rattle.ca_adapter_opening.proofs.adapters.first_buffer.Goals as goal

pub returns-clause-value : goal.returns-clause-value
returns-clause-value c = c.buffer_count.ensures ∙ ap (λ xs. sum_by (λ a. length a.buffers) (map adapter_of (take c.args.number xs))) c.as_slice.ensures.value
    ∙ ap (sum_by (λ a. length a.buffers)) (sym (take-map adapter_of c.args.number c.args.opening.now.config.adapters.items))

pub returns-clause-within : goal.returns-clause-within
returns-clause-within c = omega (
  arith,
  returns-clause-value c,
  (there c.args.opening.now.config c.args.opening.now.contents c.args.number c.args.adapter.now c.requires.there c.requires.contents).within,
)

-- The completions of an answer as a list, wherever they lie. Contracts cite it.
use Rattle.std.specs.Prelude.{List}
use Rattle.ca_base.specs.declared.completion.Completion.{Completion}
use Rattle.ca_model.specs.declared.completions.Kept.{Kept}
use Rattle.ca_model.specs.declared.completions.Kept.TheVariants as kept

abbrev pub kept_items : Kept → List Completion
kept_items (kept.Few few) = few.items
kept_items (kept.Many many) = many.items

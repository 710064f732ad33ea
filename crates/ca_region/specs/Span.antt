-- The runs of a span. Contracts cite it.
use Rattle.std.specs.Prelude.{List, [], ◌∷◌}
use Rattle.std.specs.Option.{option_map_or}
use Rattle.ca_keys.specs.declared.place.Run.{Run}
use Rattle.ca_keys.specs.declared.place.Span.{Span}

-- the one or two runs of a span, in order
abbrev pub runs_of_span : Span → List Run
runs_of_span s = s.first ∷ option_map_or (λ r. r ∷ []) s.second []

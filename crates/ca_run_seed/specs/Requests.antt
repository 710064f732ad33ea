-- How many requests the lines of a script post. Contracts cite it.
use Rattle.std.specs.Prelude.{ℕ, Bool, true, false, List, sum_by}
use Rattle.std.specs.List.{count_by}
use Rattle.ca_model.specs.declared.verb.Verb.{Verb}
use Rattle.ca_model.specs.declared.verb.Verb.TheVariants as verbs
use Rattle.ca_script_lines.specs.declared.what.Line.{Line}
use Rattle.ca_script_lines.specs.declared.what.What.{What}
use Rattle.ca_script_lines.specs.declared.what.What.TheVariants as whats

abbrev pub posts_send : Verb → Bool
posts_send (verbs.PostSend slot request) = true
posts_send verb = false

-- a line posts a send request
abbrev pub is_post : Line → Bool
is_post line = by line.what
  where
    by : What → Bool
    by (whats.Verb verb) = posts_send verb
    by (whats.At t) = false

-- how many requests the lines of all consumers post
abbrev pub requests_in : List (List Line) → ℕ
requests_in consumers = sum_by (λ lines. count_by is_post lines) consumers

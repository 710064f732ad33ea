-- The row of a line that posts a request.
use Rattle.std.proofs.Common.{◌≡◌, ℕ, true, List, codes, refl, ap, ◌∙◌}
use Rattle.std.specs.Str.{bytes_eq}
use Rattle.std.proofs.lemmas.Slice.Eq.{bytes_eq-Decides}
use Rattle.ca_script_lines.specs.Grammar.{consumer_lines, object_lines, change_lines, work_lines, post_row}
use Rattle.ca_script_lines.specs.Rows.{Words, read_named, read_row}

at_post : (ws : Words) → read_named consumer_lines (codes "post") ws ≡ read_row post_row ws
unfolding consumer_lines object_lines change_lines work_lines
at_post ws = refl

pub post_named : (name : List ℕ) (ws : Words) → bytes_eq name (codes "post") ≡ true → read_named consumer_lines name ws ≡ read_row post_row ws
post_named name ws h = ap (λ (n : List ℕ). read_named consumer_lines n ws) ((bytes_eq-Decides name (codes "post")).0 h) ∙ at_post ws

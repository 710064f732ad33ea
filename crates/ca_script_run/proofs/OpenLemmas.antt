-- What is kept before the first round, and what comes of it. For proofs only.
use Rattle.std.proofs.Common.{◌≡◌, ◌∙◌, refl, sym, ap, subst, List, [], ◌∷◌, length, replicate, reverse, Result, Ok, Err, IfOk}
use Rattle.ca_keys.specs.Memory.{ByteMap, zeros}
use Rattle.ca_keys.specs.declared.memory.Memory.{Memory}
use Rattle.ca_model.specs.machine.World.{opening_world}
use Rattle.ca_script_order.specs.OfScript as machine
use Rattle.ca_script_order.specs.Order.{Stage, ending, ending_from, opening_stage, order}
use Rattle.ca_adapter_store.specs.Rows.{IsRowOf}
use Rattle.ca_script.specs.Script.{ScriptValue}
use Rattle.ca_script_lines.specs.declared.what.Line.{Line}
use Rattle.ca_script_run.specs.Progress.{IsAt, lines_behind}
use Rattle.ca_script_run.specs.Statuses.{status_value}
use Rattle.ca_script_run.specs.declared.progress.Progress.{Progress}
use Rattle.ca_script_run.specs.declared.work.Worked.{Worked}

all-behind : (consumers : List (List Line)) → consumers ≡ lines_behind consumers (replicate (length consumers) 0)
all-behind [] = refl
all-behind (c ∷ cs) = ap (λ xs. c ∷ xs) (all-behind cs)

pub at_opening : (s : ScriptValue) (p : Progress) (bytes : ByteMap) → IsRowOf s.config (opening_world bytes) p.row → bytes ≡ zeros → p.row.count ≡ 0
    → p.history ≡ [] → p.done.items ≡ replicate (length s.consumers) 0 → IsAt s (opening_stage s) p
at_opening s p bytes row blank count history done = record {
  row = subst (λ b. IsRowOf s.config (opening_world b) p.row) blank row;
  count = count;
  numbered = refl;
  past = history;
  left = all-behind s.consumers ∙ ap (lines_behind s.consumers) (sym done);
}

-- what comes of a script from before the first round, where it is handed on as it was
module _ (s t : ScriptValue) (same : s ≡ t) (p : Progress) (at : IsAt t (opening_stage t) p) where
  pub opened_at : IsAt s (opening_stage s) p
  opened_at = subst (λ u. IsAt u (opening_stage u) p) (sym same) at

  pub opened_history : (result : Result Worked Memory) → IfOk result (λ worked. (g : Stage) → IsAt s g p → worked.history ≡ reverse (ending_from s g).past)
      → IfOk result (λ worked. worked.history ≡ order t)
  opened_history (Ok worked) holds = holds (opening_stage s) opened_at ∙ ap order same
  opened_history (Err error) holds = record {}

  pub opened_status : (result : Result Worked Memory)
      → IfOk result (λ worked. (g : Stage) → IsAt s g p → status_value worked.status ≡ machine.status_of s (ending_from s g))
      → IfOk result (λ worked. status_value worked.status ≡ machine.status_of t (ending t))
  opened_status (Ok worked) holds = holds (opening_stage s) opened_at ∙ ap (λ u. machine.status_of u (ending u)) same
  opened_status (Err error) holds = record {}

  pub opened_row : (result : Result Worked Memory) → IfOk result (λ worked. (g : Stage) → IsAt s g p → IsRowOf s.config (ending_from s g).world worked.row)
      → IfOk result (λ worked. IsRowOf t.config (ending t).world worked.row)
  opened_row (Ok worked) holds = subst (λ u. IsRowOf u.config (ending u).world worked.row) same (holds (opening_stage s) opened_at)
  opened_row (Err error) holds = record {}

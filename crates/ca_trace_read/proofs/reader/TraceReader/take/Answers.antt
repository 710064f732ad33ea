use Rattle.std.proofs.Common.{◌≡◌, Bool, true, false}
use Rattle.ca_trace_read.proofs.TakeLemmas.{shape_refused, stop_refused}
use Rattle.ca_trace_read.proofs.reader.TraceReader.take.Goals as goal

apart : (b : Bool) → b ≡ true → b ≡ false → ⊥
apart b h g = absurd cc

pub returns-then-not-is_shaped-clause-refused : goal.returns-then-not-is_shaped-clause-refused
returns-then-not-is_shaped-clause-refused c =
    λ _. shape_refused _ _ c.in_ok-line.line c.in_ok-line.ensures.exact (λ shaped. apart c.is_shaped.result (c.is_shaped.ensures.1 shaped) c.if-not-is_shaped.true)

pub returns-clause-refused : goal.returns-clause-refused
returns-clause-refused c = stop_refused c.step.result _ _ c.in_ok-line.line c.in_ok-line.ensures.exact c.step.ensures.refused

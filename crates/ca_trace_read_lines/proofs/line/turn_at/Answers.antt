use Rattle.std.proofs.Common.{refl}
use Rattle.ca_trace_read_lines.specs.Reading.{turn_at}
use Rattle.ca_trace_read_lines.proofs.line.turn_at.Goals as goal

pub returns-in_ok-silent : goal.returns-in_ok-silent
unfolding turn_at
returns-in_ok-silent c = rw (← c.if-is_name.ensures, ← c.if-is_name-2.ensures, ← c.if-is_name-3.ensures, ← c.if-is_name-4.ensures, c.in_ok-queue-4.ensures, c.in_ok-silent.ensures) refl

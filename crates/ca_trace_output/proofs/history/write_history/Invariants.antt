-- The sink took the lines of the entries so far but for those that wait.
use Rattle.std.proofs.Common.{◌≡◌, ◌++◌, ℕ, List, take}
use Rattle.std.specs.Io.KnownBytes.{Appends}
use Rattle.ca_trace_output.proofs.WrittenLemmas.{lines_of}
use Rattle.ca_trace_output.proofs.history.write_history.Given as goal

abbrev pub invariant-loop-entry : goal.invariant-loop-entry
invariant-loop-entry g l = record {
  front : List ℕ;
  lines : front ++ l.waiting.items ≡ lines_of (take l.entry-index l.entries);
  took : Appends (g.K.Sink.held l.initial.sink) (g.K.Sink.held l.sink) front;
  kept : g.K.Sink.faults l.sink ≡ g.K.Sink.faults l.initial.sink;
}

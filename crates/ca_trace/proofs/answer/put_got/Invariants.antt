use Rattle.std.proofs.Common.{◌≡◌, ◌++◌, drop}
use Rattle.std.specs.List.{flat_map}
use Rattle.ca_trace.specs.Trace.{got_line}
use Rattle.ca_trace.proofs.answer.put_got.Given as goal

abbrev pub invariant-loop-completion : goal.invariant-loop-completion
invariant-loop-completion l =
    l.text ++ flat_map got_line (drop l.completion-index l.completions) ≡ l.initial.text ++ flat_map got_line l.completions

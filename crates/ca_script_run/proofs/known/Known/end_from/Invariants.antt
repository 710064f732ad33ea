use Rattle.ca_script_run.specs.Known.{ComesTo}
use Rattle.ca_script_run.proofs.known.Known.end_from.Given as goal

-- so far it is known
abbrev pub invariant-loop : goal.invariant-loop
invariant-loop l = ComesTo l.place l.upto l.fn.self l.self

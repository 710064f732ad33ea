use Rattle.std.proofs.Common.{◌≡◌, length}
use Rattle.ca_trace_lex.specs.Words.{all_in}
use Rattle.ca_trace_lex.proofs.ListLemmas.{behind}
use Rattle.ca_run_command.specs.Words.{domain_named}
use Rattle.ca_run_command.proofs.group.domains_named.Given as goal

abbrev pub invariant-loop-parts : goal.invariant-loop-parts
invariant-loop-parts l = behind l.list.items (all_in domain_named l.parts) ≡ all_in domain_named l.fn.parts

abbrev pub decreases-loop-parts : goal.decreases-loop-parts
decreases-loop-parts l = length l.parts

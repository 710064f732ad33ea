use Rattle.ca_law_scripts.proofs.Lines.CutLemmas.{line_said}
use Rattle.ca_law_scripts.proofs.law.a_verb_of_a_trace_is_a_line_of_a_script.Goals as goal

pub returns : goal.returns
returns c = line_said

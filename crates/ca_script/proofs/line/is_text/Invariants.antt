use Rattle.std.proofs.Common.{◌≡◌, ◌&&◌, drop}
use Rattle.std.specs.List.{list_all}
use Rattle.ca_script.specs.Script.{is_text}
use Rattle.ca_script.proofs.line.is_text.Given as goal

abbrev pub invariant-loop-c : goal.invariant-loop-c
invariant-loop-c l = (l.all && list_all is_text (drop l.c-index l.line)) ≡ list_all is_text l.line

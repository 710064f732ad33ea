use Rattle.std.proofs.Common.{◌≡◌, eqb, drop}
use Rattle.std.specs.List.{list_any}
use Rattle.ca_script.proofs.setup_line.is_among.Given as goal

abbrev pub invariant-loop-a : goal.invariant-loop-a
invariant-loop-a l = list_any (λ a. eqb a l.adapter) (drop l.a-index l.slotted) ≡ list_any (λ a. eqb a l.adapter) l.slotted

use Rattle.std.proofs.Common.{◌≡◌, leb, length}
use Rattle.ca_script_lex.proofs.list.has_at_most.Given as goal

abbrev pub invariant-loop-part : goal.invariant-loop-part
invariant-loop-part l = leb (length l.parts) l.left ≡ leb (length l.fn.parts) l.most

abbrev pub decreases-loop-part : goal.decreases-loop-part
decreases-loop-part l = length l.parts

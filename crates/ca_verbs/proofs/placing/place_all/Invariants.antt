use Rattle.std.proofs.Common.{vec_len}
use Rattle.ca_verbs.proofs.PlacingLemmas.{IsPlacing}
use Rattle.ca_verbs.proofs.placing.place_all.Given as goal

abbrev pub invariant-loop-entry : goal.invariant-loop-entry
invariant-loop-entry l = IsPlacing l.initial.entries.items l.initial.slots.items l.entries.items l.slots.items

abbrev pub decreases-loop-entry : goal.decreases-loop-entry
decreases-loop-entry l = vec_len l.entries

use Rattle.std.proofs.Common.{◌≡◌}
use Rattle.ca_verbs_taking.specs.Taking.{SameRecord}
use Rattle.ca_verbs.specs.Passes.{IsOf, entries_in, known_of}
use Rattle.ca_verbs.proofs.fabric.Fabric.turn.Given as goal

abbrev pub invariant-loop : goal.invariant-loop
invariant-loop g l = record {
  of : IsOf l.self l.pass;
  same : SameRecord (known_of l.fn.pass) (known_of l.pass);
  kept : entries_in l.pass ≡ entries_in l.fn.pass;
}

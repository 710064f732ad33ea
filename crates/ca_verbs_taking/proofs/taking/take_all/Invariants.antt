use Rattle.ca_parts.specs.Rows.{IsPassOf, settings_of, view_of}
use Rattle.ca_verbs_taking.specs.Asking.{asked_of}
use Rattle.ca_verbs_taking.proofs.AllLemmas.{IsGoing}
use Rattle.ca_verbs_taking.proofs.taking.take_all.Given as goal

abbrev pub invariant-loop : goal.invariant-loop
invariant-loop l = record {
  of : IsPassOf l.parts l.pass;
  going : IsGoing (settings_of l.parts) (asked_of l.ask) l.n l.counter (view_of l.fn.pass) (view_of l.pass) l.held l.names;
}

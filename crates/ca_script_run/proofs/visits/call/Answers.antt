use Rattle.std.proofs.Common.{◌-◌, ◌<◌, ◌^◌, length, slice_index, sym, subst}
use Rattle.ca_script_run.proofs.VisitLemmas.{verb_called, verb_waits}
use Rattle.ca_script_run.proofs.visits.call.Goals as goal

pub pass_line-requires-clause-there : goal.pass_line-requires-clause-there
pass_line-requires-clause-there c = subst (λ d. c.args.consumer < length d.items) (sym c.make_known.ensures.done) c.requires.there

pub pass_line-requires-clause-passed : goal.pass_line-requires-clause-passed
pass_line-requires-clause-passed c = subst (λ d. slice_index d.items c.args.consumer < 2 ^ 64 - 1) (sym c.make_known.ensures.done) c.requires.passed

pub returns-in-Did-clause-visited : goal.returns-in-Did-clause-visited
returns-in-Did-clause-visited c = λ s g line rest at stands what.
    verb_called s g c.args.consumer line rest stands c.args.verb.now what c.make_known.new.progress c.in_ok-clone.field-0 c.in_ok-outcome.outcome c.pass_line.new.done
    c.in_ok-clone.ensures.cases c.in-Did.is (c.in_ok-outcome.ensures.tried s g at) c.pass_line.ensures

pub returns-in_default-clause-visited : goal.returns-in_default-clause-visited
returns-in_default-clause-visited c = λ s g line rest at stands what.
    verb_waits s g c.args.consumer line rest stands c.args.verb.now what c.make_known.new.progress c.in_ok-clone.field-0 c.in_ok-outcome.outcome
    c.in_ok-clone.ensures.cases c.in_default.not-Did (c.in_ok-outcome.ensures.tried s g at)

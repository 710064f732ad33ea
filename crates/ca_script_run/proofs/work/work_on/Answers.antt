use Rattle.std.proofs.Common.{◌∙◌, ap, arith, subst, Ok}
use Rattle.ca_engine.specs.Engine.{engine_after}
use Rattle.ca_script.specs.Script.{script_value}
use Rattle.ca_script_run.proofs.LineLemmas.{few_lines}
use Rattle.ca_script_run.proofs.PassLemmas.{on_quiet, passed_on, visited_on}
use Rattle.ca_script_run.proofs.WorkLemmas.{ended_all, ended_full}
use Rattle.ca_script_run.specs.Working.{IsOffered}
use Rattle.ca_script_run.proofs.work.work_on.Goals as goal

pub loop-init : goal.loop-init
loop-init c = λ g at. record { offers = 0; enough = omega arith; working = record { engine = c.requires.engine; at = at }; known = c.requires.known g.world }

pub visit-requires-clause-under_way : goal.visit-requires-clause-under_way
visit-requires-clause-under_way c = record {
  script = script_value c.args.script.now;
  stage = _;
  at = (passed_on (script_value c.args.script.now) c.requires.under_way.stage c.loop.progress c.from.result c.from.ensures c.if-script-progress.false c.loop.counter c.loop.engine c.pass_over.new.engine c.loop.known
      c.pass_over.new.self (c.loop.invariant c.requires.under_way.stage c.requires.under_way.at) c.pass_over.ensures.engine c.pass_over.ensures.known).working.at;
}

pub loop-preserved : goal.loop-preserved
loop-preserved c = λ g at. visited_on (script_value c.args.script.now) g c.loop.counter c.pass_over.new.engine c.loop.progress c.pass_over.new.self
    (passed_on (script_value c.args.script.now) g c.loop.progress c.from.result c.from.ensures c.if-script-progress.false c.loop.counter c.loop.engine c.pass_over.new.engine c.loop.known
    c.pass_over.new.self (c.loop.invariant g at) c.pass_over.ensures.engine c.pass_over.ensures.known)
    c.place-at.result c.place-at.ensures.some c.next.result c.visit.new.progress c.in-Some.outcome c.tell.new.self c.visit.new.known c.next.ensures.offer
    (λ h stands. subst (λ o. IsOffered (script_value c.args.script.now) c.next.result h c.visit.new.progress (Ok o)) c.in-Some.is (c.in_ok-outcome.ensures.offered h stands))
    (c.tell.ensures ∙ ap (λ e. engine_after e c.in-Some.outcome) c.next.ensures.engine) c.if-script-progress.false c.in_ok-outcome.ensures.known

pub returns-then-script-progress : goal.returns-then-script-progress
returns-then-script-progress c = λ g at. ended_full (script_value c.args.script.now) g (c.loop.invariant g at).offers c.loop.engine c.loop.progress (c.loop.invariant g at).working
    c.if-script-progress.true

pub returns-in-None : goal.returns-in-None
returns-in-None c = λ g at. on_quiet (script_value c.args.script.now) g c.loop.counter c.pass_over.new.engine c.loop.progress c.pass_over.new.self
    (passed_on (script_value c.args.script.now) g c.loop.progress c.from.result c.from.ensures c.if-script-progress.false c.loop.counter c.loop.engine c.pass_over.new.engine c.loop.known
    c.pass_over.new.self (c.loop.invariant g at) c.pass_over.ensures.engine c.pass_over.ensures.known)
    c.next.result c.visit.new.progress c.next.ensures.offer
    (λ h stands. subst (λ o. IsOffered (script_value c.args.script.now) c.next.result h c.visit.new.progress (Ok o)) c.in-None.is (c.in_ok-outcome.ensures.offered h stands))

pub returns : goal.returns
returns c = λ g at. ended_all (script_value c.args.script.now) g (c.loop.invariant g at).offers c.loop.engine c.loop.progress (c.loop.invariant g at).working
    (few_lines (script_value c.args.script.now) g c.args.progress.now at) (omega (arith, c.loop-test.false, c.requires.workable.offers, (c.loop.invariant g at).enough))

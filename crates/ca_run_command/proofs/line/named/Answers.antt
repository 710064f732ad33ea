use Rattle.std.proofs.Common.{◌∙◌, sym}
use Rattle.std.proofs.lemmas.Result.{IfOk-weaker}
use Rattle.ca_run_command.proofs.MetLemmas.{alone-met, make-met, race-met}
use Rattle.clap.specs.Words.{found_of}
use Rattle.ca_run_command.proofs.line.named.Goals as goal

pub returns-then-eq-2-clause-ok : goal.returns-then-eq-2-clause-ok
returns-then-eq-2-clause-ok c = IfOk-weaker c.make_with.result _ _
    (λ command met. make-met c.args.matches.now (found_of c.in-Some.arguments.now) c.in-Some.name.now _ c.in-Some.ensures.name c.in-Some.ensures.rows
    (sym c.eq.ensures ∙ c.if-eq.false) (sym c.eq-2.ensures ∙ c.if-eq-2.true) c.get_str.ensures ∙ met) c.make_with.ensures.ok

pub returns-then-eq-2-clause-usage : goal.returns-then-eq-2-clause-usage
returns-then-eq-2-clause-usage c = λ usage. make-met c.args.matches.now (found_of c.in-Some.arguments.now) c.in-Some.name.now _ c.in-Some.ensures.name c.in-Some.ensures.rows
    (sym c.eq.ensures ∙ c.if-eq.false) (sym c.eq-2.ensures ∙ c.if-eq-2.true) c.get_str.ensures
    ∙ c.make_with.ensures.usage usage

pub returns-then-eq-3-clause-ok : goal.returns-then-eq-3-clause-ok
returns-then-eq-3-clause-ok c = IfOk-weaker c.race_with.result _ _
    (λ command met. race-met c.args.matches.now (found_of c.in-Some.arguments.now) c.in-Some.name.now _ c.in-Some.ensures.name c.in-Some.ensures.rows
    (sym c.eq.ensures ∙ c.if-eq.false) (sym c.eq-2.ensures ∙ c.if-eq-2.false) (sym c.eq-3.ensures ∙ c.if-eq-3.true) c.get_str-then-eq-3.ensures ∙ met) c.race_with.ensures.ok

pub returns-then-eq-3-clause-usage : goal.returns-then-eq-3-clause-usage
returns-then-eq-3-clause-usage c = λ usage. race-met c.args.matches.now (found_of c.in-Some.arguments.now) c.in-Some.name.now _ c.in-Some.ensures.name c.in-Some.ensures.rows
    (sym c.eq.ensures ∙ c.if-eq.false) (sym c.eq-2.ensures ∙ c.if-eq-2.false) (sym c.eq-3.ensures ∙ c.if-eq-3.true) c.get_str-then-eq-3.ensures
    ∙ c.race_with.ensures.usage usage

pub returns-clause-ok : goal.returns-clause-ok
returns-clause-ok c = IfOk-weaker c.alone_with.result _ _
    (λ command met. alone-met c.args.matches.now (found_of c.in-Some.arguments.now) c.in-Some.name.now _ c.in-Some.ensures.name c.in-Some.ensures.rows
    (sym c.eq.ensures ∙ c.if-eq.false) (sym c.eq-2.ensures ∙ c.if-eq-2.false) (sym c.eq-3.ensures ∙ c.if-eq-3.false) c.get_str-2.ensures ∙ met) c.alone_with.ensures.ok

pub returns-clause-usage : goal.returns-clause-usage
returns-clause-usage c = λ usage. alone-met c.args.matches.now (found_of c.in-Some.arguments.now) c.in-Some.name.now _ c.in-Some.ensures.name c.in-Some.ensures.rows
    (sym c.eq.ensures ∙ c.if-eq.false) (sym c.eq-2.ensures ∙ c.if-eq-2.false) (sym c.eq-3.ensures ∙ c.if-eq-3.false) c.get_str-2.ensures
    ∙ c.alone_with.ensures.usage usage

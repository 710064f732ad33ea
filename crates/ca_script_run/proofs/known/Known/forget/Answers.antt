use Rattle.std.proofs.Common.{arith, subst}
use Rattle.std.proofs.lemmas.List.{drop_more}
use Rattle.ca_adapter_store.specs.Hand.{names_of}
use Rattle.ca_script_run.proofs.KnownLemmas.{all_forgotten, left_first}
use Rattle.ca_script_run.specs.Known.{AreLeft}
use Rattle.ca_script_run.proofs.known.Known.forget.Goals as goal

pub loop-one-init : goal.loop-one-init
loop-one-init c = λ round w known. left_first round w (names_of c.args.taken.now) c.args.self.now known

pub loop-one-preserved : goal.loop-one-preserved
loop-one-preserved c = λ round w known. c.forget_part.ensures round w _ (names_of c.args.taken.now)
    (subst (λ more. AreLeft round w (names_of more) (names_of c.args.taken.now) c.loop-one.self)
    (drop_more c.args.taken.now c.loop-one.one-index _ c.loop-one-test.true) (c.loop-one.invariant round w known))

pub returns : goal.returns
returns c = λ round w v known keeps. all_forgotten round w v c.args.taken.now c.loop-one.one-index c.loop-one.self (omega (arith, c.loop-one-test.false)) (c.loop-one.invariant round w known) keeps

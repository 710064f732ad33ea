use Rattle.std.proofs.Common.{subst}
use Rattle.std.proofs.lemmas.List.{drop_more}
use Rattle.ca_base.specs.Configuration.{configuration_in}
use Rattle.ca_adapter_store.proofs.GatherLemmas.{IsGivenBack, given_on}
use Rattle.ca_adapter_store.proofs.hand.give_back.Goals as goal

pub loop-one-preserved : goal.loop-one-preserved
loop-one-preserved c = given_on _ _ _ _ _ _ _ _ _
    (subst (λ more. IsGivenBack (configuration_in c.args.settings.now) c.args.parts.now.items c.args.held.now c.loop-one.parts.items c.loop-one.held more)
    (drop_more c.args.taken.now c.loop-one.one-index _ c.loop-one-test.true) c.loop-one.invariant) c.give.ensures

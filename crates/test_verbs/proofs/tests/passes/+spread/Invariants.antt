use Rattle.test_verbs.proofs.tests.passes.+spread.Given as goal

abbrev pub decreases-spread : goal.decreases-spread
decreases-spread l = l.splits

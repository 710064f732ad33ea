use Rattle.test_parts.proofs.holding.take_one.Given as goal

abbrev pub ghost-try_take : goal.ghost-try_take
ghost-try_take g a = g.event

use Rattle.ca_verbs_taking.proofs.taking.take_one.Given as goal

abbrev pub ghost-try_take : goal.ghost-try_take
ghost-try_take g a = g.event

use Rattle.ca_verbs.proofs.marking.stamp_one.Given as goal

abbrev pub ghost-stamp : goal.ghost-stamp
ghost-stamp g a = g.plan

use Rattle.test_parts.proofs.moving.mark.Given as goal

abbrev pub ghost-stamp : goal.ghost-stamp
ghost-stamp g a = g.plan

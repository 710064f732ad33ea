use Rattle.ca_verbs_taking.specs.Asking.{asked_of}
use Rattle.ca_verbs_taking.proofs.taking.take_for.Given as goal

abbrev pub ghost-take_one : goal.ghost-take_one
ghost-take_one g a = asked_of a._ask

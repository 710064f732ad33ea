use Rattle.ca_verbs_taking.specs.Asking.{asked_of}
use Rattle.ca_verbs_taking.specs.Holding.{hand_of}
use Rattle.ca_verbs.specs.Tried.{told_of}
use Rattle.ca_verbs.proofs.marking.mark.Given as goal

abbrev pub ghost-stamp_one : goal.ghost-stamp_one
ghost-stamp_one g a = (told_of (asked_of a._ask) a._event.now a._marks.now.marks, hand_of a._out.now)

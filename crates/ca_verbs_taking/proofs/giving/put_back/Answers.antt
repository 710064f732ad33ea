use Rattle.ca_verbs_taking.proofs.UnpackLemmas.{back-apart, back-hand, placed-of}
use Rattle.ca_verbs_taking.proofs.giving.put_back.Goals as goal

pub unpack-requires-clause-placed : goal.unpack-requires-clause-placed
unpack-requires-clause-placed c = placed-of _ _ _ _ _ c.settings.ensures c.requires.limits c.requires.holding

pub give_all-requires-clause-hand : goal.give_all-requires-clause-hand
give_all-requires-clause-hand c = back-hand _ _ _ _ _ _ c.settings.ensures c.requires.holding c.unpack.ensures.shown

pub give_all-requires-clause-apart : goal.give_all-requires-clause-apart
give_all-requires-clause-apart c = back-apart _ _ _ _ _ c.settings.ensures c.requires.limits c.requires.holding.apart c.unpack.ensures.shown

use Rattle.ca_verbs.proofs.StartLemmas.{stands-first}
use Rattle.ca_verbs.proofs.fabric.Fabric.start.Goals as goal

pub start-requires-clause-open : goal.start-requires-clause-open
start-requires-clause-open c = stands-first _ _ c.in_ok-contents.contents _ _ c.of.ensures c.in_ok-contents.ensures.fit c.in_ok-contents.ensures.zeros c.in_ok-parts.ensures.each c.in_ok-values.ensures

use Rattle.std.proofs.Common.{rules}
use Rattle.ca_adapter_store.proofs.GatherLemmas.{hand_more, names_after, one_longer, there_at, up_together}
use Rattle.ca_adapter_store.proofs.hand.take.Goals as goal

pub take_up-requires-clause-there : goal.take_up-requires-clause-there
take_up-requires-clause-there c = there_at _ _ _ _ c.args.one c.requires.hand c.requires.place c.requires.free

pub returns-clause-hand : goal.returns-clause-hand
returns-clause-hand c = hand_more _ _ _ _ _ _ _ c.args.one c.requires.hand c.requires.place c.requires.free c.take_up.ensures (search rules) (search rules)

pub returns-clause-together : goal.returns-clause-together
returns-clause-together c = up_together _ _ _ _ _ _ c.args.one c.requires.hand c.requires.place c.requires.free c.take_up.ensures

pub returns-clause-names : goal.returns-clause-names
returns-clause-names c = names_after _ c.args.one.name _ _ _ _ c.take_up.ensures

pub returns-clause-count : goal.returns-clause-count
returns-clause-count c = one_longer _ _ c.args.one (search rules)

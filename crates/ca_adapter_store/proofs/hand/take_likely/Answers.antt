use Rattle.ca_adapter_store.proofs.hand.take_likely.Goals as goal

pub returns-clause-together : goal.returns-clause-together
returns-clause-together c = λ w start. c.take_all-3.ensures.together w (c.take_all-2.ensures.together w (c.take_all.ensures.together w start))

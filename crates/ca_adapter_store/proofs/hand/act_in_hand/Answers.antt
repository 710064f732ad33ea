use Rattle.std.proofs.Common.{◌∙◌, ap, sym}
use Rattle.ca_model.specs.machine.Parts.{is_held}
use Rattle.ca_adapter_store.proofs.ActLemmas.{acted, configured_names, ready_now}
use Rattle.ca_adapter_store.proofs.RestLemmas.{acted_rest}
use Rattle.ca_adapter_store.specs.Hand.{names_of}
use Rattle.ca_adapter_store.proofs.hand.act_in_hand.Goals as goal

pub act-result-requires : goal.act-result-requires
act-result-requires c = record { ready = ready_now _ _ _ _ _ _ c.requires.world c.gather.ensures.together c.gather.ensures.next }

pub give_back-requires-clause-configured : goal.give_back-requires-clause-configured
give_back-requires-clause-configured c = λ p held. configured_names _ _ _ _ _ c.requires.world c.gather.ensures.together p (c.gather.ensures.hand.named p ∙ sym (ap (λ xs. is_held (names_of xs) p) c.as_slice.ensures.value) ∙ held)

pub give_back-requires-clause-places : goal.give_back-requires-clause-places
give_back-requires-clause-places c = (c.gather.ensures.together c.requires.world.world c.requires.world.together).places

pub returns-clause-step : goal.returns-clause-step
returns-clause-step c = λ w start. acted _ c.args.event.now _ _ _ _ _ _ c.act-result.result (c.gather.ensures.together w start) c.act-result.ensures.act c.act-result.ensures.step c.give_back.ensures.together

pub returns-clause-rest : goal.returns-clause-rest
returns-clause-rest c = λ w start. acted_rest _ c.args.event.now w _ _ _ c.act-result.result _ (c.gather.ensures.together w start) c.act-result.ensures.step c.gather.ensures.hand.named

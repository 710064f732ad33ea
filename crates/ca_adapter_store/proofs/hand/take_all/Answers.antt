use Rattle.ca_adapter_store.proofs.hand.take_all.Goals as goal

pub loop-name-preserved : goal.loop-name-preserved
loop-name-preserved c = record {
  hand = c.take_if_there.ensures.hand;
  few = c.take_if_there.ensures.few;
  together = λ w start. c.take_if_there.ensures.together w (c.loop-name.invariant.together w start);
}

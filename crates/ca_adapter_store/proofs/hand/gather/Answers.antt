use Rattle.std.proofs.Common.{◌∙◌, arith, sym}
use Rattle.std.proofs.lemmas.Grind.{common_steps}
use Rattle.ca_adapter.proofs.ReadyLemmas.{queues_can_step, shared_are_sound}
use Rattle.ca_adapter_store.proofs.GatherLemmas.{gathered_all, gathered_more, gathered_none, hand_at_first, next_here, parts_of_world, room_for_more}
use Rattle.ca_adapter_store.proofs.hand.gather.Goals as goal

pub take_likely-requires-clause-hand : goal.take_likely-requires-clause-hand
take_likely-requires-clause-hand c = hand_at_first _ _ _ _ c.requires.world c.requires.empty c.requires.none c.requires.room c.requires.names

pub loop-init : goal.loop-init
loop-init c = gathered_none _ _ _ _ _ _ _ c.take_likely.ensures.together c.take_likely.ensures.hand c.take_likely.ensures.few

pub next_part-requires-clause-queues : goal.next_part-requires-clause-queues
next_part-requires-clause-queues c = queues_can_step _ _ (parts_of_world _ _ _ c.loop.invariant.hand.of)

pub next_part-requires-clause-shared : goal.next_part-requires-clause-shared
next_part-requires-clause-shared c = shared_are_sound _ _ (parts_of_world _ _ _ c.loop.invariant.hand.of)

pub take_named-requires-clause-configured : goal.take_named-requires-clause-configured
take_named-requires-clause-configured c = (next_here _ c.args.event.now _ _ _ c.loop.invariant.hand.of (sym c.next_part.ensures ∙ c.in-Some.is)).configured

pub take_named-requires-clause-free : goal.take_named-requires-clause-free
take_named-requires-clause-free c = (next_here _ c.args.event.now _ _ _ c.loop.invariant.hand.of (sym c.next_part.ensures ∙ c.in-Some.is)).free

pub take_named-requires-clause-few : goal.take_named-requires-clause-few
take_named-requires-clause-few c = room_for_more _ _ _ _ _ _ _ _ c.loop.invariant (grind (arith, common_steps))

pub loop-preserved : goal.loop-preserved
loop-preserved c = gathered_more _ _ _ _ _ _ _ _ _ _ _ _ c.loop.invariant (sym c.next_part.ensures ∙ c.in-Some.is) c.take_named.ensures.hand
    c.take_named.ensures.together c.take_named.ensures.names c.take_named.ensures.count

pub returns-clause-next : goal.returns-clause-next
returns-clause-next c = gathered_all _ _ _ _ _ _ _ _ c.loop.invariant (grind (arith, common_steps)) c.requires.world

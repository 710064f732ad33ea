use Rattle.std.proofs.Common.{arith, subst}
use Rattle.std.proofs.lemmas.List.{drop_all}
use Rattle.ca_adapter_store.proofs.ReplayLemmas.{at_event, ends, goes_on, stops}
use Rattle.ca_adapter_store.specs.Replaying.{IsReplaying}
use Rattle.ca_adapter_store.proofs.events.make_all.Goals as goal

pub returns-in-Err-clause-run : goal.returns-in-Err-clause-run
returns-in-Err-clause-run c = stops c.args.row.now c.loop-event.row c.make.new.self c.args.events.now c.loop-event.all.items _ _ c.in-Err.error
    (at_event c.args.row.now c.loop-event.row c.args.events.now c.loop-event.all.items c.loop-event.event-index c.event-item.result c.loop-event-test.true c.event-item.is c.loop-event.invariant)
    c.in-Err.ensures.count c.in-Err.ensures.step c.stop_at.result c.stop_at.ensures

pub loop-event-preserved : goal.loop-event-preserved
loop-event-preserved c = goes_on c.args.row.now c.loop-event.row c.make.new.self c.args.events.now c.loop-event.all.items _ _ c.in-Ok.marks
    (at_event c.args.row.now c.loop-event.row c.args.events.now c.loop-event.all.items c.loop-event.event-index c.event-item.result c.loop-event-test.true c.event-item.is c.loop-event.invariant)
    c.in-Ok.ensures.row c.in-Ok.ensures.made c.in-Ok.ensures.count c.in-Ok.ensures.step c.keep.new.all.items c.in_ok-keep-in-Ok.ensures

pub returns-clause-run : goal.returns-clause-run
returns-clause-run c = ends c.args.row.now c.loop-event.row c.args.events.now c.loop-event.all
    (subst (IsReplaying c.args.row.now c.args.events.now c.loop-event.row c.loop-event.all.items) (drop_all c.loop-event.event-index c.args.events.now (omega (arith, c.loop-event-test.false))) c.loop-event.invariant)

pub returns-clause-made : goal.returns-clause-made
returns-clause-made c = (subst (IsReplaying c.args.row.now c.args.events.now c.loop-event.row c.loop-event.all.items) (drop_all c.loop-event.event-index c.args.events.now (omega (arith, c.loop-event-test.false))) c.loop-event.invariant).made
    (record {})

use Rattle.std.proofs.Common.{drop}
use Rattle.ca_adapter_store.specs.Replaying.{IsReplaying}
use Rattle.ca_adapter_store.proofs.events.make_all.Given as goal

-- the events from here on are to come
abbrev pub invariant-loop-event : goal.invariant-loop-event
invariant-loop-event l = IsReplaying l.fn.row l.events l.row l.all.items (drop l.event-index l.events)

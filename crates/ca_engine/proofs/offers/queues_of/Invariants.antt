use Rattle.std.proofs.Common.{◌≡◌, ◌++◌, map, drop}
use Rattle.ca_base.specs.Configuration.{adapter_of}
use Rattle.ca_script_order.specs.Visits.{queues_from}
use Rattle.ca_engine.proofs.offers.queues_of.Given as goal

abbrev pub invariant-loop-adapter : goal.invariant-loop-adapter
invariant-loop-adapter l = record {
  number : l.number ≡ l.adapter-index;
  queues : l.queues.items ++ queues_from l.number (map adapter_of (drop l.adapter-index l.config.adapters.items)) ≡ queues_from 0 (map adapter_of l.config.adapters.items);
}

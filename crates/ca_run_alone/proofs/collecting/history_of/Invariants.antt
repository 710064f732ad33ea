use Rattle.std.proofs.Common.{vec_len}
use Rattle.ca_run_alone.proofs.CollectLemmas.{IsCollecting}
use Rattle.ca_script_run.specs.ca_adapter_store.Replays.{history_of}
use Rattle.ca_run_alone.proofs.collecting.history_of.Given as goal

abbrev pub invariant-loop-event : goal.invariant-loop-event
invariant-loop-event l = IsCollecting (history_of l.fn.events.items l.fn.all.items) l.history l.left.items l.marks_left.items

abbrev pub decreases-loop-event : goal.decreases-loop-event
decreases-loop-event l = vec_len l.left

use Rattle.ca_run_race.proofs.MergeLemmas.{IsMerging}
use Rattle.ca_run_race.proofs.merging.add_done.Given as goal

abbrev pub invariant-loop-consumer : goal.invariant-loop-consumer
invariant-loop-consumer l = IsMerging l.initial.done.items l.more l.done.items l.consumer

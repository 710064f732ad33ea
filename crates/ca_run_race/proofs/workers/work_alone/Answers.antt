use Rattle.ca_run_race.proofs.workers.work_alone.Goals as goal

pub work-requires-clause-work : goal.work-requires-clause-work
work-requires-clause-work g c = c.in_ok-worker.ensures.work c.args.fabric.now c.requires.of c.requires.none

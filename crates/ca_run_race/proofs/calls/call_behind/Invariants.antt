use Rattle.ca_run_race.specs.Calls.{AreWaiting}
use Rattle.ca_run_race.proofs.calls.call_behind.Given as goal

-- the lines so far wait, for no later clock than the latest of theirs
abbrev pub invariant-loop-at : goal.invariant-loop-at
invariant-loop-at l = AreWaiting l.lines l.passed l.at l.clock

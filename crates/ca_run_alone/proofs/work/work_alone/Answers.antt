use Rattle.std.proofs.Common.{subst, sym}
use Rattle.ca_run_alone.proofs.work.work_alone.Goals as goal
use Rattle.ca_run_alone.specs.Lone.{IsOutcome}
use Rattle.ca_isolation.specs.Groups.{group_of}
use Rattle.ca_keys.specs.Memory.{zeros}
use Rattle.ca_model.specs.machine.Run.{Follows}
use Rattle.ca_model.specs.machine.Sound.{AreLimited}
use Rattle.ca_script.specs.Script.{script_value}

pub outcome_of-requires-clause-limited : goal.outcome_of-requires-clause-limited
outcome_of-requires-clause-limited c = subst AreLimited (sym c.in_ok-config.ensures) c.requires.limited

pub outcome_of-requires-clause-follows : goal.outcome_of-requires-clause-follows
outcome_of-requires-clause-follows c =
    subst (λ k. Follows k zeros c.in_ok-worked.worked.history) (sym c.in_ok-config.ensures)
    (subst (Follows (script_value c.args.script).config zeros) (sym c.in_ok-worked.ensures.history) (c.orders_follow_the_machine.ensures (script_value c.args.script)))

pub returns-clause-outcome : goal.returns-clause-outcome
returns-clause-outcome c =
    subst (λ es. IsOutcome (script_value c.args.script).config (group_of c.args.group.now) es c.in_ok-outcome.outcome) c.in_ok-worked.ensures.history
    (subst (λ k. IsOutcome k (group_of c.args.group.now) c.in_ok-worked.worked.history c.in_ok-outcome.outcome) c.in_ok-config.ensures c.in_ok-outcome.ensures)

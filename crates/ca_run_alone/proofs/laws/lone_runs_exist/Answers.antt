use Rattle.ca_run_alone.proofs.LoneLemmas.{lone-one, lone-possible}
use Rattle.ca_run_alone.proofs.laws.lone_runs_exist.Goals as goal
use Rattle.ca_keys.specs.Memory.{zeros}

pub returns-clause-possible : goal.returns-clause-possible
returns-clause-possible k = λ c group es limited made follows closed. lone-possible c group es (k.machine_is_isolated.ensures c zeros es limited made follows) closed

pub returns-clause-one : goal.returns-clause-one
returns-clause-one k = λ c group es lone limited made follows closed events follow. lone-one c group es lone (k.machine_is_isolated.ensures c zeros es limited made follows) closed
    (k.lone_list_has_the_replies.ensures group zeros es) events follow

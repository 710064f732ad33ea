use Rattle.ca_script_run.proofs.KnownLemmas.{nothing_known}
use Rattle.ca_script_run.proofs.known.Known.new.Goals as goal

pub returns : goal.returns
returns c = λ round w. nothing_known round w _ _ _ c.in_ok-clear_flags.ensures c.in_ok-clear_flags-2.ensures

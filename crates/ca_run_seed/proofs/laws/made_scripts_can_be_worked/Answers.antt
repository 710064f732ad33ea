use Rattle.ca_run_seed.proofs.MadeLemmas.{made-buffers, made-keeps}
use Rattle.ca_run_seed.proofs.RequestLemmas.{made-requests}
use Rattle.ca_run_seed.proofs.WorkableLemmas.{made-workable}
use Rattle.ca_run_seed.proofs.laws.made_scripts_can_be_worked.Goals as goal

pub returns : goal.returns
returns c = record { limits = made-keeps; workable = made-workable; buffers = made-buffers; requests = made-requests }

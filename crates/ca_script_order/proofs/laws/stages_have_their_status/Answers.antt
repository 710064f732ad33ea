use Rattle.ca_script_order.proofs.StatusLemmas.{ended-status, status-alone}
use Rattle.ca_script_order.proofs.laws.stages_have_their_status.Goals as goal

pub returns : goal.returns
returns c = record { status = ended-status; alone = status-alone }

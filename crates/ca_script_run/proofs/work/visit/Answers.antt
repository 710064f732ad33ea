use Rattle.ca_script_run.proofs.KnownLemmas.{same_known}
use Rattle.ca_script_run.proofs.work.visit.Goals as goal

pub returns-in-Quiet-clause-known : goal.returns-in-Quiet-clause-known
returns-in-Quiet-clause-known c = λ round offered. same_known round c.args.progress.now.row c.args.known.now

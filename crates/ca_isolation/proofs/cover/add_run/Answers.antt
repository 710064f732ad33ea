use Rattle.std.proofs.Common.{rules}
use Rattle.ca_isolation.proofs.CoverLemmas.{adds-within}
use Rattle.ca_isolation.proofs.cover.add_run.Goals as goal

pub returns-then-is_within_any : goal.returns-then-is_within_any
returns-then-is_within_any c = adds-within c.args.run.now c.args.cover.now.items (search rules)

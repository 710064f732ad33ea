use Rattle.std.proofs.Common.{◌∙◌}
use Rattle.ca_run_command.proofs.SeedLemmas.{seed-parsed}
use Rattle.ca_run_command.proofs.line.seed_named.Goals as goal

pub returns : goal.returns
returns c = c.ok.ensures.value ∙ seed-parsed c.parse.result c.args.text.now c.parse.ensures.value.0

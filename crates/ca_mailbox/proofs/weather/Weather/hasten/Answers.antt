use Rattle.std.proofs.Common.{arith}
use Rattle.std.proofs.lemmas.Grind.{common_steps}
use Rattle.ca_mailbox.proofs.weather.Weather.hasten.Goals as goal

pub returns-in-Seeded : goal.returns-in-Seeded
returns-in-Seeded c = grind (arith, common_steps)

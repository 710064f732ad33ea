use Rattle.std.proofs.Common.{arith}
use Rattle.ca_run.proofs.working.can_be_worked.Goals as goal

pub returns : goal.returns
returns c = λ text s means. record {
  limited = c.texts_mean_limited_scripts.ensures.limits text s means;
  consumers = omega (arith, c.texts_mean_workable_scripts.ensures.consumers text s means);
  offers = c.texts_mean_workable_scripts.ensures.offers text s means;
}

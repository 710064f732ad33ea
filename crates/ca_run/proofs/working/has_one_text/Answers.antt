use Rattle.std.proofs.Common.{refl, sym}
use Rattle.ca_run.proofs.working.has_one_text.Goals as goal

pub returns : goal.returns
returns c = record {
  whole = refl;
  only = λ others fit is. c.one_text.ensures others c.args.h.now fit c.history_fits.ensures (sym is);
}

use Rattle.std.proofs.Common.{sym, subst, ap}
use Rattle.std.proofs.lemmas.Result.{err_from_is_err_and}
use Rattle.ca_adapter_local.proofs.BoundLemmas.{at-hand, bind-failed-at, bind-made-at}
use Rattle.ca_adapter_local.specs.Site.{IsAtHand}
use Rattle.ca_base.specs.Configuration.{configuration_in}
use Rattle.ca_adapter_local.proofs.bind.bind.Goals as goal

pub bind_at-requires-clause-parts : goal.bind_at-requires-clause-parts
bind_at-requires-clause-parts c = subst (IsAtHand c.args.reached.now) (sym c.site_of-site.ensures)
    (at-hand (configuration_in c.args.settings.now) c.args.reached.now c.args.q.now c.args.drawn c.args.op.now c.requires.operation c.requires.parts)

pub returns : goal.returns
returns c = λ h same. bind-made-at (configuration_in c.args.settings.now) c.args.q.now c.args.drawn c.args.op.now c.requires.operation c.site_of-site.result h
    c.args.reached.now c.in_ok-marks.marks _ c.bind_at.new.windows c.bind_at.new.reached (ap (λ q. q.windows) c.q.view_is) c.site_of-site.ensures c.requires.parts
    c.in_ok-marks.ensures.bound c.in_ok-marks.ensures.parts same

pub returns-in_err-marks : goal.returns-in_err-marks
returns-in_err-marks c =
    let p = err_from_is_err_and c.from_residual.result c.from_residual.ensures.1 in
    rw (p.1, p.2) (λ h same. bind-failed-at (configuration_in c.args.settings.now) c.args.q.now c.args.drawn c.args.op.now c.requires.operation c.site_of-site.result h
    c.args.reached.now c.in_err-marks.field-0.0 c.bind_at.new.reached c.site_of-site.ensures c.in_err-marks.ensures.bound c.in_err-marks.ensures.err same)

use Rattle.std.proofs.Common.{sym, ◌∙◌, arith}
use Rattle.ca_base.specs.objects.Region.{grant_of_region}
use Rattle.ca_grant.proofs.Windows.{window-runs}
use Rattle.ca_grant.proofs.key_check.judge_by_window.Goals as goal

pub returns-in-None-clause-places : goal.returns-in-None-clause-places
returns-in-None-clause-places c =
    c.span.ensures.places
    ∙ sym (window-runs c.args.ask.now c.args.window.now (grant_of_region c.args.region.now) c.args.ask.now.touch
    (omega (arith, c.requires.packet)) (omega (arith, c.requires.packet)) c.requires.lies (sym c.in-None.ensures.denial))

use Rattle.std.proofs.Common.{◌+◌, ◌∷◌, ◌∙◌, ap, arith, drop, refl, sym}
use Rattle.std.proofs.lemmas.List.{drop_more}
use Rattle.ca_run_race.proofs.CallLemmas.{behind-later, waiting-more}
use Rattle.ca_run_race.proofs.calls.call_behind.Goals as goal

pub loop-at-preserved : goal.loop-at-preserved
loop-at-preserved c =
    let lines = c.args.lines.now in
    let at = c.loop-at.at in
    waiting-more lines c.args.passed at c.loop-at.clock c.loop-at.invariant c.index-lines-at.result (drop (at + 1) lines)
    (drop_more lines at c.index-lines-at.result c.loop-at-test.true ∙ ap (λ line. line ∷ drop (at + 1) lines) (sym c.index-lines-at.is)) c.in-At.t c.max-clock.result refl (ap (λ line. line.what) c.index-lines-at.is ∙ c.in-At.is)
    (omega (arith, c.max-clock.ensures, (behind-later c.loop-at.clock c.in-At.t).0)) (omega (arith, c.max-clock.ensures, (behind-later c.loop-at.clock c.in-At.t).1))

use Rattle.std.proofs.Common.{◌*◌, ap, ◌∙◌}
use Rattle.test_parts.proofs.Sums.{all_values}
use Rattle.test_parts.proofs.threads.race.Goals as goal

pub returns : goal.returns
returns g c = let whole = c.in-Ok-close.ensures.whole in let row = c.in_ok-parts.ensures.row in
    all_values c.in_ok-parts.parts.settings whole.log c.in-Ok-close.end.0.items whole.follows (c.in-Ok-close.ensures.count ∙ row.1) whole.values_stand ∙ ap (λ k. 8 * k.each) row.0

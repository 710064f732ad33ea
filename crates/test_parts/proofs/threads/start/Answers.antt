use Rattle.std.proofs.Common.{◌≡◌, ℕ, replicate, slice_get, option_map, sym, ap, ◌∙◌, arith}
use Rattle.std.proofs.lemmas.Option.{slice_get-map}
use Rattle.test_parts.specs.declared.amount.Amount.{Amount}
use Rattle.test_parts.proofs.threads.start.Goals as goal

pub start-requires-clause-open : goal.start-requires-clause-open
start-requires-clause-open c = λ k x e. let items = c.loop-k.values.items in let last = c.loop-k.auto in let past = c.loop-k-test.false in
    let eight : c.loop-k._k ≡ 8 = omega arith in
    let value : Amount → ℕ = λ (a : Amount). a.0 in
    ap (λ l. slice_get l k) (sym (c.loop-k.invariant.values ∙ ap (λ n. replicate n c.args.opening.each) eight)) ∙ (slice_get-map value items k ∙ ap (λ o. option_map value o) e)

use Rattle.std.proofs.Common.{arith, ap, ◌+◌, ◌*◌, ◌∙◌, ℕ}
use Rattle.ca_trace_lex.specs.Words.{hex_digit}
use Rattle.std.specs.Prelude.{slice_index}
use Rattle.ca_trace_lex.proofs.DigitLemmas.{fill_step, fill_done}
use Rattle.ca_trace_lex.proofs.digits.fill.Goals as goal

pub pairs-preserved : goal.pairs-preserved
pairs-preserved c =
    fill_step c.args.word.now c.pairs.bytes c.pairs.i _ (omega (arith, c.requires, c.pairs.auto.bytes, c.pairs-test.true)) (omega (arith, c.pairs.auto.bytes, c.pairs-test.true))
    (ap (λ (x : ℕ). x * 16 + c.hex_digit-in-pairs.result) c.hex_digit.ensures ∙ ap (λ (x : ℕ). hex_digit (slice_index c.args.word.now (2 * c.pairs.i)) * 16 + x) c.hex_digit-in-pairs.ensures)
    c.pairs.invariant

pub returns : goal.returns
returns c =
    fill_done c.args.word.now c.pairs.bytes c.pairs.i (omega (arith, c.pairs.auto.bytes, c.pairs-test.false)) (c.pairs.auto.bytes ∙ c.requires) c.pairs.invariant

use Rattle.std.proofs.Common.{◌∙◌, ℕ, ap, arith, slice_index}
use Rattle.std.proofs.lemmas.List.{length-set}
use Rattle.std.proofs.lemmas.Nat.{and_mask}
use Rattle.hex.specs.Hex.{lower_digits}
use Rattle.hex.proofs.Pairs.{encode_done, encode_step}
use Rattle.ca_trace_print.proofs.text.digits_of.Goals as goal

-- src/text.rt:51:5
pub loop-i-preserved : goal.loop-i-preserved
loop-i-preserved c =
    let l = c.loop-i in
    let byte : ℕ = slice_index c.args.bytes.now l.i in (
      length-set _ _ _ ∙ length-set _ _ _ ∙ l.invariant.0,
      encode_step lower_digits c.args.bytes.now l.digits l.i _ _ (omega (arith, c.told-bytes, c.loop-i-test.true)) (omega (arith, l.invariant.0, c.loop-i-test.true)) c.digit.ensures
          (c.digit-in-loop-i.ensures ∙ ap (λ (k : ℕ). slice_index lower_digits k) (and_mask byte 4)) l.invariant.1,
    )

-- src/text.rt:47:1
pub returns : goal.returns
returns c =
    let l = c.loop-i in
    encode_done lower_digits c.args.bytes.now l.digits l.i (omega (arith, c.told-bytes, c.loop-i-test.false)) (omega (arith, c.told-bytes, l.invariant.0)) l.invariant.1

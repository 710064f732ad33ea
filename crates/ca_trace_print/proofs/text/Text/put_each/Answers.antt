use Rattle.std.proofs.Common.{◌∙◌, ℕ, ap, arith, slice_index}
use Rattle.std.proofs.lemmas.Nat.{and_mask}
use Rattle.hex.specs.Hex.{lower_digits}
use Rattle.ca_trace_print.proofs.HexLemmas.{behind_all, behind_one}
use Rattle.ca_trace_print.proofs.text.Text.put_each.Goals as goal

pub loop-byte-preserved : goal.loop-byte-preserved
loop-byte-preserved c =
    let l = c.loop-byte in
    let byte : ℕ = slice_index c.args.bytes.now l.byte-index in
    rw (c.in_ok-put_bytes.ensures.ok)
    (behind_one lower_digits c.args.bytes.now l.self _ l.byte-index _ _ (omega (arith, c.loop-byte-test.true)) c.digit.ensures
    (c.digit-in-loop-byte.ensures ∙ ap (λ (k : ℕ). slice_index lower_digits k) (and_mask byte 4)) l.invariant)

pub returns : goal.returns
returns c =
    let l = c.loop-byte in
    record { ok = behind_all lower_digits c.args.bytes.now l.self _ l.byte-index (omega (arith, c.loop-byte-test.false)) l.invariant }

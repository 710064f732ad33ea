use Rattle.std.proofs.Common.{◌≡◌, ◌*◌, ◌++◌, drop, length, take}
use Rattle.hex.specs.Hex.{encode_lower}
use Rattle.ca_trace_print.proofs.text.digits_of.Given as goal

abbrev pub invariant-loop-i : goal.invariant-loop-i
invariant-loop-i l =
    (length l.digits ≡ 32) × (take (2 * l.i) l.digits ++ encode_lower (drop l.i l.bytes) ≡ encode_lower l.bytes)

use Rattle.std.proofs.Common.{◌≡◌, ◌++◌, drop}
use Rattle.hex.specs.Hex.{encode_lower}
use Rattle.ca_trace_print.proofs.text.Text.put_each.Given as goal

abbrev pub invariant-loop-byte : goal.invariant-loop-byte
invariant-loop-byte l = l.self ++ encode_lower (drop l.byte-index l.bytes) ≡ l.initial.self ++ encode_lower l.bytes

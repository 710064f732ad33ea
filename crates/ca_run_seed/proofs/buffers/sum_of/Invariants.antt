use Rattle.std.proofs.Common.{◌≡◌, ◌*◌, ◌≤◌, sum_by, take}
use Rattle.ca_run_seed.proofs.buffers.sum_of.Given as goal

abbrev pub invariant-loop-byte : goal.invariant-loop-byte
invariant-loop-byte l =
    (l.sum ≡ sum_by (λ byte. byte) (take l.byte-index l.bytes)) × (l.sum ≤ l.byte-index * 255)

use Rattle.std.proofs.Common.{arith}
use Rattle.ca_run_seed.proofs.SumLemmas.{two-sums}
use Rattle.ca_run_seed.proofs.buffers.byte_sum.Goals as goal

pub returns : goal.returns
returns c = λ k w of has. omega (arith, c.in_ok-first.ensures.sum k w of, c.in_ok-second.ensures.sum k w of, two-sums k w has)

-- A number of each width that is spelled is read as itself.
use Rattle.std.proofs.Common.{◌≡◌, ℕ, ◌≤◌, Some, decimal, arith}
use Rattle.ca_trace_lex.specs.Words.{number_in}
use Rattle.ca_trace_lex.proofs.NumberLemmas.{number_again}

pub u8 : (n : ℕ) → n ≤ 255 → number_in 255 (decimal n) ≡ Some n
u8 n h = number_again 255 n h (omega arith)

pub u16 : (n : ℕ) → n ≤ 65535 → number_in 65535 (decimal n) ≡ Some n
u16 n h = number_again 65535 n h (omega arith)

pub u32 : (n : ℕ) → n ≤ 4294967295 → number_in 4294967295 (decimal n) ≡ Some n
u32 n h = number_again 4294967295 n h (omega arith)

pub u64 : (n : ℕ) → n ≤ 18446744073709551615 → number_in 18446744073709551615 (decimal n) ≡ Some n
u64 n h = number_again 18446744073709551615 n h (omega arith)

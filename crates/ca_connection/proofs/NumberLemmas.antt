-- Two numbers compared, and where a PSN stands for one whole number.
use Rattle.std.proofs.Common.{◌≡◌, ℕ, ◌+◌, ◌%◌, ◌^◌, ◌<◌, ◌≤◌, ◌⊎◌, arith}
use Rattle.ca_psn.specs.Psn.{widened}

pub widened-exact : (near n : ℕ) → 2 ^ 23 ≤ near → near ≤ n + 2 ^ 23 → n < near + 2 ^ 23 → widened near (n % 2 ^ 24) ≡ n
widened-exact near n low below above = omega arith

pub cases-lt : (x y : ℕ) → (x < y) ⊎ (y ≤ x)
cases-lt x y = grind arith

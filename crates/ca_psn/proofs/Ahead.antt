-- How far ahead a PSN lies that is neither the expected one nor a duplicate.
use Rattle.std.proofs.Common.{ℕ, ◌-◌, ◌^◌, ◌<◌, arith}
use Rattle.ca_psn.specs.Psn.{IsClass, steps_back}
use Rattle.ca_psn.specs.declared.class.Class.TheVariants.{Ahead}

pub is_ahead : (expected got : ℕ) → expected < 2 ^ 24 → got < 2 ^ 24 → 2 ^ 23 < steps_back expected got → IsClass expected got Ahead
is_ahead expected got he hg back = (2 ^ 24 - steps_back expected got, omega arith, omega arith, omega arith)

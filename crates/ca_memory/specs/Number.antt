-- The number that an atomic puts. Contracts cite it.
use Rattle.std.specs.Prelude.{ℕ, ◌+◌, ◌%◌, ◌^◌, ◌==◌, if◌then◌else◌}
use Rattle.ca_base.specs.ca_keys.declared.access.AtomicOp.{AtomicOp}
use Rattle.ca_base.specs.ca_keys.declared.access.AtomicOp.TheVariants.{CmpSwap, FetchAdd}

-- a compare and swap puts its number where it found the one that it compares with, and else leaves what it found; a
-- fetch and add puts the sum modulo 2^64
abbrev pub number_after : AtomicOp → ℕ → ℕ
number_after (CmpSwap compare swap) found = if found == compare then swap else found
number_after (FetchAdd add) found = (found + add) % 2 ^ 64

-- How long a list is behind the bytes of a packet.
use Rattle.std.proofs.Common.{◌≡◌, ℕ, ◌+◌, ◌≤◌, arith, ap, List, ◌++◌, length, length-append}

-- a list that so many bytes are added to is longer by as many
pub longer : (new old more : List ℕ) (most : ℕ) → new ≡ old ++ more → length more ≤ most → length new ≤ length old + most
longer new old more most e few = omega (arith, ap length e, length-append old more)

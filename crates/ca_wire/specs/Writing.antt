-- Adding bytes to a list that has room for them. For proofs only.
use Rattle.std.specs.Prelude.{◌≡◌, ℕ, ◌+◌, ◌≤◌, vec_len, vec_capacity}
use Rattle.std.specs.Global.{Vec}

-- the list has room for this many more bytes
abbrev pub HasRoom : Vec ℕ → ℕ → Type 0
HasRoom v n = vec_len v + n ≤ vec_capacity v

-- this many bytes were added, and no room was lost beside them
abbrev pub Grows : Vec ℕ → Vec ℕ → ℕ → Type 0
Grows old new n = (vec_len new ≡ vec_len old + n) × (vec_capacity old ≤ vec_capacity new)

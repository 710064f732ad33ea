-- The depths with which a queue pair can come up. Contracts cite it.
use Rattle.std.specs.Prelude.{ℕ, ◌<◌, ◌≤◌, Option, None, Some}
use Rattle.ca_base.specs.declared.limits.TheConstants.{MAX_DEPTH}

-- a depth of a queue is in its range
abbrev pub IsDepth : ℕ → Type 0
IsDepth depth = (0 < depth) × (depth ≤ MAX_DEPTH)

-- the depths of a queue pair: with a shared receive queue there is none for receives
abbrev pub AreDepths : ℕ → ℕ → Option ℕ → Type 0
AreDepths send_depth recv_depth None = IsDepth send_depth × IsDepth recv_depth
AreDepths send_depth recv_depth (Some srq) = IsDepth send_depth

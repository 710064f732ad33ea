-- Contents of zeros. Contracts of the crate's own functions cite it.
use Rattle.std.specs.Prelude.{ℕ, List, map, replicate}

-- the contents of buffers of these sizes
abbrev pub zeros_of : List ℕ → List (List ℕ)
zeros_of sizes = map (λ size. replicate size 0) sizes

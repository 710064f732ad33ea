-- Bytes of one buffer by runs: which runs lie in it, what it holds after a write, and the memory that it makes.
-- Contracts cite it.
use Rattle.std.specs.Prelude.{◌≡◌, ℕ, ◌+◌, ◌≤◌, ◌==◌, ◌&&◌, if◌then◌else◌, List, [], ◌∷◌, take, drop}
use Rattle.ca_keys.specs.declared.place.Run.{Run}
use Rattle.ca_keys.specs.Memory.{ByteMap}
use Rattle.ca_memory.specs.Buffer.{memory_of, bytes_after}

-- runs that end within so many bytes
abbrev pub FitInBytes : ℕ → List Run → Type 0
FitInBytes count [] = Unit {0}
FitInBytes count (r ∷ rs) = (r.offset + r.length ≤ count) × FitInBytes count rs

-- runs of one buffer of an adapter
abbrev pub AreOfBuffer : ℕ → ℕ → List Run → Type 0
AreOfBuffer adapter buffer [] = Unit {0}
AreOfBuffer adapter buffer (r ∷ rs) = ((r.adapter ≡ adapter) × (r.buffer ≡ buffer)) × AreOfBuffer adapter buffer rs

-- a buffer after these bytes were written to runs of it, in order
abbrev pub buffer_after : List Run → List ℕ → List ℕ → List ℕ
buffer_after [] written bytes = bytes
buffer_after (r ∷ rs) written bytes =
    buffer_after rs (drop r.length written) (bytes_after r.offset (take r.length written) bytes)

-- the memory that one buffer of an adapter makes: all other places hold 0
abbrev pub memory_of_buffer : ℕ → ℕ → List ℕ → ByteMap
memory_of_buffer adapter buffer bytes place =
    if (place.adapter == adapter) && (place.buffer == buffer) then memory_of bytes place else 0

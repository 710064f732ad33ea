-- The bytes of a buffer on the row of all parts, and their sum. Contracts cite it.
use Rattle.std.specs.Prelude.{◌≡◌, ℕ, ◌≤◌, false, List, [], ◌∷◌, length, slice_index_or, sum_by, Option, None, Some}
use Rattle.ca_base.specs.Configuration.{Adapter, Configuration}
use Rattle.ca_adapter_parts.specs.declared.part.Part.{Part}
use Rattle.ca_adapter_parts.specs.declared.part.Part.TheVariants as parts
use Rattle.ca_keys.specs.Memory.{bytes_at}
use Rattle.ca_model.specs.machine.Step.{bytes_of_buffer, has_buffer, run_of}
use Rattle.ca_model.specs.machine.World.{World}

-- two adapters alike, each with one buffer
pub record HasTwoBuffers (c : Configuration) : Type 0 where
  pub adapter : Adapter
  pub size : ℕ
  pub both : c.adapters ≡ adapter ∷ adapter ∷ []
  pub one : adapter.buffers ≡ size ∷ []

-- the sum of the bytes that a world has in a buffer
abbrev pub sum_in : Configuration → World → ℕ → ℕ → ℕ
sum_in c w adapter buffer =
    sum_by (λ byte. byte) (bytes_at w.byte (run_of adapter buffer 0 (bytes_of_buffer c adapter buffer) ∷ []))

-- the buffer that is found, or none
abbrev pub buffer_in : Option Part → Option (List ℕ)
buffer_in None = None
buffer_in (Some (parts.Buffer bytes)) = Some bytes
buffer_in (Some part) = None

-- Bytes are those of a world's buffer: each is the world's, and there are as many as the configuration says, or more.
pub record IsBufferOf (c : Configuration) (w : World) (adapter buffer : ℕ) (bytes : List ℕ) : Type 0 where
  pub enough : bytes_of_buffer c adapter buffer ≤ length bytes
  pub same : (at : ℕ) → slice_index_or bytes at 0 ≡ w.byte (record { adapter = adapter; buffer = buffer; offset = at })

-- the bytes are those of the world's buffer; where none are seen, it is not configured
abbrev pub IsBufferSeen : Configuration → World → ℕ → ℕ → Option (List ℕ) → Type 0
IsBufferSeen c w adapter buffer None = has_buffer c adapter buffer ≡ false
IsBufferSeen c w adapter buffer (Some bytes) = IsBufferOf c w adapter buffer bytes

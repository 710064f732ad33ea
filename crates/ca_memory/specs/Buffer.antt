-- A buffer as a list of bytes, and as the memory of its places. Contracts cite it.
use Rattle.std.specs.Prelude.{◌≡◌, ℕ, ◌+◌, ◌≤◌, List, [], ◌∷◌, ◌++◌, length, take, drop, slice_index_or}
use Rattle.ca_base.specs.ca_keys.declared.place.Place.{Place}
use Rattle.ca_base.specs.ca_keys.declared.place.Run.{Run}
use Rattle.ca_base.specs.ca_keys.Memory.{ByteMap, memory_after}

-- the memory that a buffer's bytes make: a place of the buffer has the byte at its offset
abbrev pub memory_of : List ℕ → ByteMap
memory_of bytes place = slice_index_or bytes place.offset 0

-- this many bytes from an offset on lie in the buffer
abbrev pub IsInside : ℕ → ℕ → List ℕ → Type 0
IsInside offset count bytes = offset + count ≤ length bytes

-- a buffer's bytes after these bytes were written from an offset on
abbrev pub bytes_after : ℕ → List ℕ → List ℕ → List ℕ
bytes_after offset written bytes = take offset bytes ++ (written ++ drop (offset + length written) bytes)

-- the bytes that a buffer holds at this many places from an offset on
abbrev pub bytes_from : ℕ → ℕ → List ℕ → List ℕ
bytes_from offset count bytes = take count (drop offset bytes)

-- the bytes became what memory holds after a write of these bytes to the places of a run of the buffer
abbrev pub IsWrittenAt : Run → List ℕ → List ℕ → List ℕ → Type 0
IsWrittenAt at written old new =
    (place : Place) → place.adapter ≡ at.adapter → place.buffer ≡ at.buffer
    → memory_of new place ≡ memory_after (memory_of old) (at ∷ []) written place

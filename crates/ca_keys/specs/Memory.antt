-- Memory: a place is an adapter, a buffer and an offset, and memory gives each place a byte. Contracts cite it.
use Rattle.std.specs.Prelude.{ℕ, ◌+◌, ◌-◌, ◌==◌, ◌&&◌, nat_le, nat_lt, min, Bool, List, [], ◌∷◌, map, drop, slice_index_or, if◌then◌else◌, sum_by}
use Rattle.std.specs.Int.{w64, to_le_bytes, from_le_bytes}
use Rattle.std.specs.List.{flat_map, range_with_len}
use Rattle.std.specs.Option.{option_map_or}
use Rattle.ca_keys.specs.declared.access.Ask.{Ask}
use Rattle.ca_keys.specs.declared.grant.Grant.{Grant}
use Rattle.ca_keys.specs.declared.place.Place.{Place}
use Rattle.ca_keys.specs.declared.place.Run.{Run}
use Rattle.ca_keys.specs.Allowed.{grant_for}

-- a byte for each place
abbrev pub ByteMap : Type 0
ByteMap = Place → ℕ

-- an opening of zeros
abbrev pub zeros : ByteMap
zeros place = 0

-- the places of a run, from its offset on
abbrev pub run_places : Run → List Place
run_places r = map (λ at. record { adapter = r.adapter; buffer = r.buffer; offset = at }) (range_with_len r.offset r.length)

-- the place is one of the run's
abbrev pub is_in : Run → Place → Bool
is_in r p =
    (p.adapter == r.adapter) && (p.buffer == r.buffer) && nat_le r.offset p.offset && nat_lt p.offset (r.offset + r.length)

-- the places of runs, byte by byte in order
abbrev pub places_of : List Run → List Place
places_of runs = flat_map run_places runs

-- how many places runs have
abbrev pub places_count : List Run → ℕ
places_count runs = sum_by (λ r. r.length) runs

-- the run of this many bytes of a run, without so many at its front
abbrev pub run_part : Run → ℕ → ℕ → Run
run_part r skip count = record r { offset = r.offset + skip; length = count }

-- runs cut to this many bytes, without so many at their front; a run of which nothing is left does not stand
abbrev pub cut : ℕ → ℕ → List Run → List Run
cut skip count [] = []
cut skip count (r ∷ rs) =
    if nat_le r.length skip then cut (skip - r.length) count rs
    else if count == 0 then []
    else run_part r skip (min count (r.length - skip)) ∷ cut 0 (count - (r.length - skip)) rs

-- the runs that a grant has for this many addresses from `address` on: one place for each address from its first on
abbrev pub runs_at : Grant → ℕ → ℕ → List Run
runs_at g address count = cut (address - g.address) count g.runs

-- the runs that the grant that an ask goes by has for this many addresses from the ask's address on
abbrev pub runs_for : Ask → List Grant → ℕ → List Run
runs_for ask grants count = option_map_or (λ g. runs_at g ask.address count) (grant_for ask grants) []

-- the bytes that memory holds at the places of these runs
abbrev pub bytes_at : ByteMap → List Run → List ℕ
bytes_at m runs = map m (places_of runs)

-- memory after these bytes were written to the places of these runs, in order
abbrev pub memory_after : ByteMap → List Run → List ℕ → ByteMap
memory_after m [] bytes = m
memory_after m (r ∷ rs) bytes =
    memory_after (λ p. if is_in r p then slice_index_or bytes (p.offset - r.offset) 0 else m p) rs (drop r.length bytes)

-- the number that eight bytes hold, least significant first
abbrev pub little_endian : List ℕ → ℕ
little_endian bytes = from_le_bytes w64 bytes

-- the eight bytes of a number, least significant first
abbrev pub little_endian_bytes : ℕ → List ℕ
little_endian_bytes n = to_le_bytes w64 n

-- The places of a valid region. For the contracts of functions that others do not see.
use Rattle.std.specs.Prelude.{◌≡◌, ℕ, ◌+◌, ◌*◌, ◌%◌, ◌^◌, ◌<◌, ◌≤◌, List, [], ◌∷◌, length}
use Rattle.std.specs.Coded.{×_prop, le_prop, Coded-set, coded_ℕ}
use Rattle.ca_base.specs.declared.limits.TheConstants.{PAGE_BYTES}
use Rattle.ca_keys.specs.declared.place.Run.{Run}
use Rattle.ca_base.specs.Grants.{page_runs}
use Rattle.ca_keys.specs.Numbers.{first_address}
use Rattle.ca_region.specs.declared.places.Places.{Places}
use Rattle.ca_region.specs.declared.places.Places.TheVariants.{OneRun, PageList}

-- there is a place for each of so many bytes from an address on, which of a run is that of its first byte
abbrev pub HoldBytes : ℕ → ℕ → Places → Type 0
HoldBytes address bytes (OneRun at) =
    (first_address at.buffer + at.offset ≡ address) × ((at.length ≡ bytes) × (at.offset + at.length < 2 ^ 32))
HoldBytes address bytes (PageList allocated buffer pages) = address % PAGE_BYTES + bytes ≤ length pages * PAGE_BYTES

-- the proof that a struct wants of a fact that it keeps
pub HoldBytes-prop : (address bytes : ℕ) (places : Places) → IsProp (HoldBytes address bytes places)
HoldBytes-prop address bytes (OneRun at) =
    ×_prop
    (Coded-set coded_ℕ (first_address at.buffer + at.offset) address)
    (×_prop (Coded-set coded_ℕ at.length bytes) le_prop)
HoldBytes-prop address bytes (PageList allocated buffer pages) = le_prop

-- the runs of so many bytes from an address on
abbrev pub runs_of_places : ℕ → ℕ → ℕ → Places → List Run
runs_of_places adapter address bytes (OneRun at) = at ∷ []
runs_of_places adapter address bytes (PageList allocated buffer pages) = page_runs adapter buffer address bytes pages

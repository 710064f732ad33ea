-- The grants that a registration, a fast registration and a bind make. Contracts cite it.
use Rattle.std.specs.Prelude.{ℕ, ◌+◌, ◌*◌, ◌%◌, Bool, true, false, not, ◌&&◌, ◌||◌, ◌==◌, nat_lt, List, [], ◌∷◌, map, Option, None}
use Rattle.ca_keys.specs.declared.grant.Grant.{Grant}
use Rattle.ca_base.specs.declared.limits.TheConstants.{PAGE_BYTES}
use Rattle.ca_keys.specs.declared.names.QueueId.{QueueId}
use Rattle.ca_keys.specs.declared.names.Slot.{Slot}
use Rattle.ca_keys.specs.declared.place.Run.{Run}
use Rattle.ca_base.specs.declared.refusals.RegionError.{RegionError}
use Rattle.ca_base.specs.declared.refusals.RegionError.TheVariants.{Empty, OutsideBuffer, RightsNeedLocalWrite}
use Rattle.ca_keys.specs.declared.rights.Rights.{Rights}
use Rattle.ca_keys.specs.Memory.{cut, runs_at}
use Rattle.ca_keys.specs.Numbers.{key_at, region_index, window_index, first_address}
use Rattle.ca_keys.specs.Refusals.{first_of}

-- the low byte that follows, as a registration and the drawing of a bind take it
abbrev pub next_low : ℕ → ℕ
next_low low = (low + 1) % 256

-- the grant of a region over these runs: for every queue pair of the domain, by L_Key too
abbrev pub region_grant : Slot → ℕ → ℕ → ℕ → Rights → List Run → Grant
region_grant slot low address count rights runs = record {
  key = key_at (region_index slot) low;
  domain = slot.domain;
  queue = None;
  local = true;
  address = address;
  length = count;
  rights = rights;
  runs = runs;
}

-- the grant of a registration of one run, with this low byte
abbrev pub grant_of_registration : Slot → Run → Rights → ℕ → Grant
grant_of_registration slot at rights low =
    region_grant slot low (first_address at.buffer + at.offset) at.length rights (at ∷ [])

-- the run of a page of a buffer
abbrev pub page_run : ℕ → ℕ → ℕ → Run
page_run adapter buffer page =
    record { adapter = adapter; buffer = buffer; offset = page * PAGE_BYTES; length = PAGE_BYTES }

-- the runs of a fast registration: its pages in order, cut to the range; the first byte lies in the first page as far
-- from the page's begin as the address does from a multiple of the page's bytes
abbrev pub page_runs : ℕ → ℕ → ℕ → ℕ → List ℕ → List Run
page_runs adapter buffer address count pages = cut (address % PAGE_BYTES) count (map (page_run adapter buffer) pages)

-- the grant of a fast registration
abbrev pub grant_of_fast_registration : Slot → ℕ → ℕ → ℕ → ℕ → Rights → List ℕ → Grant
grant_of_fast_registration slot low buffer address count rights pages =
    region_grant slot low address count rights (page_runs slot.domain.adapter buffer address count pages)

-- the remote rights among these
abbrev pub remote_rights : Rights → Rights
remote_rights rights = record rights { local_write = false; window_bind = false }

-- the grant of a bind of the window in a slot to a part of what a region grants, perhaps for one queue pair
abbrev pub grant_of_bind : Slot → ℕ → Option QueueId → Grant → ℕ → ℕ → Rights → Grant
grant_of_bind slot low queue region address count rights = record {
  key = key_at (window_index slot) low;
  domain = slot.domain;
  queue = queue;
  local = false;
  address = address;
  length = count;
  rights = remote_rights rights;
  runs = runs_at region address count;
}

-- remote write or remote atomic without local write
abbrev pub needs_local_write : Rights → Bool
needs_local_write rights = (rights.remote_write || rights.remote_atomic) && not rights.local_write

-- why a registration over a run of a buffer of this length is refused, in order
abbrev pub registration_refusals : Run → ℕ → Rights → List (Bool × RegionError)
registration_refusals at buffer_length rights =
    (at.length == 0, Empty)
    ∷ (nat_lt buffer_length (at.offset + at.length), OutsideBuffer)
    ∷ (needs_local_write rights, RightsNeedLocalWrite)
    ∷ []

-- the first refusal of a registration
abbrev pub registration_refusal : Run → ℕ → Rights → Option RegionError
registration_refusal at buffer_length rights = first_of (registration_refusals at buffer_length rights)

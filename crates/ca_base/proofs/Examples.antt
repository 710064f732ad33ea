-- What the definitions say of small values. For proofs only.
use Rattle.std.proofs.Common.{◌≡◌, ℕ, [], ◌∷◌, true, false, None, Some, refl}
use Rattle.ca_keys.specs.declared.access.Ask.{Ask}
use Rattle.ca_keys.specs.declared.access.Denial.TheVariants.{NoGrant, WrongQueue, NoRight, OutOfRange}
use Rattle.ca_keys.specs.declared.access.Kind.{Kind}
use Rattle.ca_keys.specs.declared.access.Kind.TheVariants as kinds
use Rattle.ca_keys.specs.declared.grant.Grant.{Grant}
use Rattle.ca_keys.specs.declared.key.Key.{Key}
use Rattle.ca_keys.specs.declared.names.DomainId.{DomainId}
use Rattle.ca_keys.specs.declared.names.QueueId.{QueueId}
use Rattle.ca_keys.specs.declared.names.Slot.{Slot}
use Rattle.ca_keys.specs.declared.place.Run.{Run}
use Rattle.ca_base.specs.declared.refusals.RegionError.TheVariants.{Empty, OutsideBuffer, RightsNeedLocalWrite}
use Rattle.ca_keys.specs.declared.rights.Rights.{Rights}
use Rattle.ca_keys.specs.Allowed.{denial_of}
use Rattle.ca_base.specs.Configuration.{part_count}
use Rattle.ca_keys.specs.Memory.{zeros, places_of, runs_at, memory_after}
use Rattle.ca_keys.specs.Numbers.{key_at, region_index, window_index, queue_of, domain_of, first_address}
use Rattle.ca_base.specs.Grants.{grant_of_registration, grant_of_bind, page_runs, registration_refusal, next_low}

abbrev domain : ℕ → DomainId
domain d = record { adapter = 0; domain = d }

abbrev slot : ℕ → ℕ → Slot
slot d s = record { domain = domain d; slot = s }

abbrev queue : ℕ → QueueId
queue n = record { adapter = 0; number = n }

abbrev key : ℕ → Key
key k = record { 0 = k }

abbrev lw : Rights
lw = record { local_write = true; remote_read = false; remote_write = true; remote_atomic = false; window_bind = false }

abbrev l : Rights
l = record { local_write = true; remote_read = false; remote_write = false; remote_atomic = false; window_bind = false }

abbrev w : Rights
w = record { local_write = false; remote_read = false; remote_write = true; remote_atomic = false; window_bind = false }

abbrev lwb : Rights
lwb = record { local_write = true; remote_read = false; remote_write = true; remote_atomic = false; window_bind = true }

abbrev none : Rights
none = record { local_write = false; remote_read = false; remote_write = false; remote_atomic = false; window_bind = false }

abbrev run : ℕ → ℕ → Run
run offset count = record { adapter = 0; buffer = 0; offset = offset; length = count }

abbrev region : Rights → Grant
region rights = grant_of_registration (slot 0 0) (run 0 64) rights 1

-- a remote access by queue pair 256 of domain 0
abbrev asks : Kind → ℕ → ℕ → ℕ → Ask
asks kind k address count = record {
  queue = queue 256;
  domain = domain 0;
  key = key k;
  local = false;
  kind = kind;
  address = address;
  length = count;
  touch = count;
}

first_region : key_at (region_index (slot 0 0)) 1 ≡ key 0x00000001
first_region = refl

a_window : key_at (window_index (slot 0 0)) 7 ≡ key 0x00800007
a_window = refl

first_queue : queue_of (slot 0 0) ≡ queue 256
first_queue = refl

last_queue : queue_of (slot 15 63) ≡ queue 4159
last_queue = refl

its_domain : domain_of (queue 4159) ≡ domain 15
its_domain = refl

low_number : domain_of (queue 255) ≡ domain 0
low_number = refl

buffer_0 : first_address 0 ≡ 0x100000000
buffer_0 = refl

first_byte : denial_of (asks kinds.Write 1 0x100000000 1) (region lw ∷ []) ≡ None
first_byte = refl

all_bytes : denial_of (asks kinds.Write 1 0x100000000 64) (region lw ∷ []) ≡ None
all_bytes = refl

last_byte : denial_of (asks kinds.Write 1 0x10000003f 1) (region lw ∷ []) ≡ None
last_byte = refl

too_many : denial_of (asks kinds.Write 1 0x100000000 65) (region lw ∷ []) ≡ Some OutOfRange
too_many = refl

behind : denial_of (asks kinds.Write 1 0x100000040 1) (region lw ∷ []) ≡ Some OutOfRange
behind = refl

before : denial_of (asks kinds.Write 1 0xffffffff 1) (region lw ∷ []) ≡ Some OutOfRange
before = refl

no_wrap : denial_of (asks kinds.Write 1 0xffffffffffffffff 4294967295) (region lw ∷ []) ≡ Some OutOfRange
no_wrap = refl

other_key : denial_of (asks kinds.Write 2 0x100000000 1) (region lw ∷ []) ≡ Some NoGrant
other_key = refl

other_domain : denial_of (record (asks kinds.Write 1 0x100000000 1) { queue = queue 512; domain = domain 1 }) (region lw ∷ []) ≡ Some NoGrant
other_domain = refl

no_right : denial_of (asks kinds.Read 1 0x100000000 1) (region lw ∷ []) ≡ Some NoRight
no_right = refl

right_before_range : denial_of (asks kinds.Read 1 0 1) (region lw ∷ []) ≡ Some NoRight
right_before_range = refl

no_bytes : denial_of (asks kinds.Write 2 0x100000000 0) (region lw ∷ []) ≡ None
no_bytes = refl

wrong_queue : denial_of (asks kinds.Write 1 0 1) (record (region l) { queue = Some (queue 257) } ∷ []) ≡ Some WrongQueue
wrong_queue = refl

local_read : denial_of (record (asks kinds.Read 1 0x100000000 1) { local = true }) (region none ∷ []) ≡ None
local_read = refl

local_atomic : denial_of (record (asks kinds.FetchAdd 1 0x100000000 8) { local = true }) (region lw ∷ []) ≡ Some NoRight
local_atomic = refl

latest_decides : denial_of (asks kinds.Write 1 0x100000000 1) (region l ∷ region lw ∷ []) ≡ Some NoRight
latest_decides = refl

refused_empty : registration_refusal (run 64 0) 64 w ≡ Some Empty
refused_empty = refl

refused_outside : registration_refusal (run 64 1) 64 lw ≡ Some OutsideBuffer
refused_outside = refl

refused_rights : registration_refusal (run 0 64) 64 w ≡ Some RightsNeedLocalWrite
refused_rights = refl

not_refused : registration_refusal (run 63 1) 64 lw ≡ None
not_refused = refl

after_255 : next_low 255 ≡ 0
after_255 = refl

two_places : places_of (runs_at (region lw) 0x10000003e 4) ≡ record { adapter = 0; buffer = 0; offset = 62 } ∷ record { adapter = 0; buffer = 0; offset = 63 } ∷ []
two_places = refl

a_byte : memory_after zeros (run 5 2 ∷ run 9 1 ∷ []) (7 ∷ 8 ∷ 9 ∷ []) (record { adapter = 0; buffer = 0; offset = 9 }) ≡ 9
a_byte = refl

later_byte : memory_after zeros (run 5 2 ∷ run 5 1 ∷ []) (7 ∷ 8 ∷ 9 ∷ []) (record { adapter = 0; buffer = 0; offset = 5 }) ≡ 9
later_byte = refl

other_byte : memory_after zeros (run 5 1 ∷ []) (7 ∷ []) (record { adapter = 0; buffer = 0; offset = 6 }) ≡ 0
other_byte = refl

-- pages 3 and 1 of a buffer, 12 bytes from address 4090 on
two_pages : page_runs 0 0 4090 12 (3 ∷ 1 ∷ []) ≡ run 16378 6 ∷ run 4096 6 ∷ []
two_pages = refl

window_lies_inside : (grant_of_bind (slot 0 0) 7 None (region lw) 0x100000010 16 lwb).runs ≡ run 16 16 ∷ []
window_lies_inside = refl

window_keeps_remote_rights : (grant_of_bind (slot 0 0) 7 None (region lw) 0x100000010 16 lwb).rights ≡ w
window_keeps_remote_rights = refl

one_adapter : part_count (record {
  adapters = record { buffers = 4096 ∷ []; domains = 4; regions = 8; windows = 8; cqs = 4; srqs = 2; qps = 4 } ∷ [];
  events = 100;
}) ≡ 125
one_adapter = refl

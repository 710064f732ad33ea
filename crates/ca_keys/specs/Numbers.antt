-- How keys, queue pairs and addresses are numbered. All of it is this profile's choice. Contracts cite it.
use Rattle.std.specs.Prelude.{◌≡◌, ℕ, ◌+◌, ◌-◌, ◌*◌, ◌/◌, ◌%◌, nat_le, Bool}
use Rattle.ca_keys.specs.declared.key.Key.{Key}
use Rattle.ca_keys.specs.declared.names.DomainId.{DomainId}
use Rattle.ca_keys.specs.declared.names.Slot.{Slot}
use Rattle.ca_keys.specs.declared.names.QueueId.{QueueId}

-- the key index of the region in a slot
abbrev pub region_index : Slot → ℕ
region_index s = s.domain.domain * 0x10000 + s.slot

-- the key index of the window in a slot
abbrev pub window_index : Slot → ℕ
window_index s = s.domain.domain * 0x10000 + 0x8000 + s.slot

-- the key with this index and this low byte, which counts modulo 256
abbrev pub key_at : ℕ → ℕ → Key
key_at index low = record { 0 = index * 256 + low % 256 }

abbrev pub index_of : Key → ℕ
index_of k = k.0 / 256

abbrev pub low_of : Key → ℕ
low_of k = k.0 % 256

-- a key names a window, and else a region
abbrev pub is_window_key : Key → Bool
is_window_key key = nat_le 0x8000 (index_of key % 0x10000)

-- the queue pair in a slot
abbrev pub queue_of : Slot → QueueId
queue_of s = record { adapter = s.domain.adapter; number = (s.domain.domain + 1) * 256 + s.slot }

-- the domain of a queue pair, by its number
abbrev pub domain_of : QueueId → DomainId
domain_of q = record { adapter = q.adapter; domain = q.number / 256 - 1 }

-- the queue pair's number is one of this domain
abbrev pub IsOfDomain : QueueId → DomainId → Type 0
IsOfDomain q d = (d.adapter ≡ q.adapter) × (q.number / 256 ≡ d.domain + 1)

-- the address of a buffer's first byte
abbrev pub first_address : ℕ → ℕ
first_address buffer = (buffer + 1) * 0x1_0000_0000

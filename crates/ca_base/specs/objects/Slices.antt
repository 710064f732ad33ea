-- Which names the configuration has, and what a key names. Contracts cite it.
use Rattle.std.specs.Prelude.{ℕ, ◌-◌, ◌/◌, ◌%◌, ◌==◌, ◌&&◌, nat_le, nat_lt, Bool, false, not, Option, slice_get}
use Rattle.std.specs.Option.{option_map_or, option_and_then}
use Rattle.ca_keys.specs.declared.key.Key.{Key}
use Rattle.ca_keys.specs.declared.names.DomainId.{DomainId}
use Rattle.ca_keys.specs.declared.names.QueueId.{QueueId}
use Rattle.ca_keys.specs.declared.names.Slot.{Slot}
use Rattle.ca_base.specs.Configuration.{Adapter, Configuration}
use Rattle.ca_keys.specs.Numbers.{index_of, is_window_key}

-- an adapter of the configuration
abbrev pub adapter_at : Configuration → ℕ → Option Adapter
adapter_at c adapter = slice_get c.adapters adapter

-- the domain is configured
abbrev pub has_domain : Configuration → DomainId → Bool
has_domain c d = option_map_or (λ a. nat_lt d.domain a.domains) (adapter_at c d.adapter) false

-- the slot is configured, where a domain has so many of its kind
abbrev pub has_slot : Configuration → (Adapter → ℕ) → Slot → Bool
has_slot c slots s =
    has_domain c s.domain && option_map_or (λ a. nat_lt s.slot (slots a)) (adapter_at c s.domain.adapter) false

-- the bytes of a buffer, if it is configured
abbrev pub buffer_length : Configuration → ℕ → ℕ → Option ℕ
buffer_length c adapter buffer = option_and_then (λ a. slice_get a.buffers buffer) (adapter_at c adapter)

-- the slot of a queue pair's number
abbrev pub slot_of_queue : QueueId → Slot
slot_of_queue q = record {
  domain = record { adapter = q.adapter; domain = q.number / 256 - 1 };
  slot = q.number % 256;
}

-- the queue pair's number is that of a configured slot
abbrev pub has_queue : Configuration → QueueId → Bool
has_queue c q = nat_le 256 q.number && has_slot c (λ a. a.qps) (slot_of_queue q)

-- the slot that a key names, at a domain's adapter
abbrev pub slot_of_key : DomainId → Key → Slot
slot_of_key d key = record {
  domain = record { adapter = d.adapter; domain = index_of key / 0x10000 };
  slot = index_of key % 0x8000;
}

-- the key is one of this domain
abbrev pub is_key_of : DomainId → Key → Bool
is_key_of d key = index_of key / 0x10000 == d.domain

-- the key names a configured region of this domain
abbrev pub names_region : Configuration → DomainId → Key → Bool
names_region c d key = not (is_window_key key) && is_key_of d key && has_slot c (λ a. a.regions) (slot_of_key d key)

-- the key names a configured window of this domain
abbrev pub names_window : Configuration → DomainId → Key → Bool
names_window c d key = is_window_key key && is_key_of d key && has_slot c (λ a. a.windows) (slot_of_key d key)

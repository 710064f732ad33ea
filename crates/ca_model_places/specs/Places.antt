-- The row of all parts of a fabric, and the place of each part in it. Contracts cite it.
use Rattle.std.specs.Prelude.{ℕ, suc, ◌+◌, ◌*◌, ◌%◌, if◌then◌else◌, Option, None}
use Rattle.std.specs.Prelude.{List, [], ◌∷◌, ◌++◌, length, map, take, sum_by}
use Rattle.std.specs.List.{flat_map, range_with_len}
use Rattle.std.specs.Option.{option_map}
use Rattle.ca_keys.specs.declared.names.DomainId.{DomainId}
use Rattle.ca_keys.specs.declared.names.Slot.{Slot}
use Rattle.ca_keys.specs.Numbers.{queue_of}
use Rattle.ca_base.specs.Configuration.{Adapter, Configuration, parts_of_adapter}
use Rattle.ca_base.specs.objects.Slices.{adapter_at, slot_of_queue}
use Rattle.ca_model.specs.declared.part_name.PartName.{PartName}
use Rattle.ca_model.specs.declared.part_name.PartName.TheVariants as names
use Rattle.ca_model.specs.machine.Parts.{is_configured_part}

-- the parts of one kind in a domain, by slot
abbrev pub parts_of_kind : (Slot → PartName) → DomainId → ℕ → List PartName
parts_of_kind name d n = map (λ slot. name (record { domain = d; slot = slot })) (range_with_len 0 n)

-- the parts of a domain: its control part, queue pairs, mailboxes, completion queues, shared receive queues, windows
-- and regions
abbrev pub parts_of_domain : Adapter → DomainId → List PartName
parts_of_domain a d =
    names.Control d
    ∷ (parts_of_kind (λ s. names.Queue (queue_of s)) d a.qps
    ++ (parts_of_kind (λ s. names.Mailbox (queue_of s)) d a.qps
    ++ (parts_of_kind (λ s. names.Cq s) d a.cqs
    ++ (parts_of_kind (λ s. names.Srq s) d a.srqs
    ++ (parts_of_kind (λ s. names.Window s) d a.windows
    ++ parts_of_kind (λ s. names.Region s) d a.regions)))))

-- the parts of an adapter: those of its domains, and its buffers
abbrev pub parts_at : ℕ → Adapter → List PartName
parts_at adapter a =
    flat_map (λ domain. parts_of_domain a (record { adapter = adapter; domain = domain })) (range_with_len 0 a.domains)
    ++ map (names.Buffer adapter) (range_with_len 0 (length a.buffers))

-- the parts of adapters, the first of which has this number
abbrev pub parts_from : ℕ → List Adapter → List PartName
parts_from adapter [] = []
parts_from adapter (a ∷ more) = parts_at adapter a ++ parts_from (suc adapter) more

-- all parts of a fabric
abbrev pub all_parts : Configuration → List PartName
all_parts c = parts_from 0 c.adapters

-- how many parts a domain has
abbrev pub domain_parts : Adapter → ℕ
domain_parts a = 1 + a.regions + a.windows + a.cqs + a.srqs + 2 * a.qps

-- how many parts the adapters before this one have
abbrev pub parts_before : Configuration → ℕ → ℕ
parts_before c adapter = sum_by parts_of_adapter (take adapter c.adapters)

-- the domain of a part; that of a buffer is its adapter's first
abbrev pub domain_of_part : PartName → DomainId
domain_of_part (names.Control d) = d
domain_of_part (names.Queue q) = (slot_of_queue q).domain
domain_of_part (names.Mailbox q) = (slot_of_queue q).domain
domain_of_part (names.Cq s) = s.domain
domain_of_part (names.Srq s) = s.domain
domain_of_part (names.Window s) = s.domain
domain_of_part (names.Region s) = s.domain
domain_of_part (names.Buffer adapter index) = record { adapter = adapter; domain = 0 }

-- how many parts stand before this one in its domain; a buffer stands behind all domains
abbrev pub place_in_domain : Adapter → PartName → ℕ
place_in_domain a (names.Control d) = 0
place_in_domain a (names.Queue q) = 1 + q.number % 256
place_in_domain a (names.Mailbox q) = 1 + a.qps + q.number % 256
place_in_domain a (names.Cq s) = 1 + 2 * a.qps + s.slot
place_in_domain a (names.Srq s) = 1 + 2 * a.qps + a.cqs + s.slot
place_in_domain a (names.Window s) = 1 + 2 * a.qps + a.cqs + a.srqs + s.slot
place_in_domain a (names.Region s) = 1 + 2 * a.qps + a.cqs + a.srqs + a.windows + s.slot
place_in_domain a (names.Buffer adapter index) = a.domains * domain_parts a + index

-- how many parts stand before this one at its adapter
abbrev pub place_at : PartName → Adapter → ℕ
place_at p a = (domain_of_part p).domain * domain_parts a + place_in_domain a p

-- the place of a part among all parts, if it is configured
abbrev pub place_of : Configuration → PartName → Option ℕ
place_of c p =
    if is_configured_part c p
    then option_map (λ a. parts_before c (domain_of_part p).adapter + place_at p a)
    (adapter_at c (domain_of_part p).adapter)
    else None

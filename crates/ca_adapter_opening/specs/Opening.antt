-- The parts of a fabric before the first event, by their names. Contracts cite it.
use Rattle.std.specs.Prelude.{◌≡◌, ℕ, List, [], ◌∷◌, ◌++◌, length, map, take, drop, sum_by, slice_get, Some, None}
use Rattle.std.specs.Option.{option_map_or}
use Rattle.ca_base.specs.Configuration.{Adapter, Configuration}
use Rattle.ca_base.specs.objects.Domain.{free_domain}
use Rattle.ca_base.specs.objects.Mailbox.{empty_mailbox}
use Rattle.ca_base.specs.objects.QueuePair.{vacant_queue}
use Rattle.ca_base.specs.objects.Region.{vacant_region}
use Rattle.ca_base.specs.objects.SharedReceives.{vacant_srq}
use Rattle.ca_base.specs.objects.Window.{vacant_window}
use Rattle.ca_keys.specs.Memory.{ByteMap}
use Rattle.ca_memory.specs.Buffer.{memory_of}
use Rattle.ca_model.specs.declared.part_name.PartName.{PartName}
use Rattle.ca_model.specs.declared.part_name.PartName.TheVariants as names
use Rattle.ca_adapter_parts.specs.declared.part.Part.{Part}
use Rattle.ca_adapter_parts.specs.declared.part.Part.TheVariants as parts
use Rattle.ca_adapter_parts.specs.Parts.{slot_of}

-- the bytes of each buffer of these adapters, in rising adapter and buffer
abbrev pub buffer_lengths : List Adapter → List ℕ
buffer_lengths [] = []
buffer_lengths (a ∷ more) = a.buffers ++ buffer_lengths more

-- contents are those of all buffers, in rising adapter and buffer, each of the configured length
abbrev pub FitContents : Configuration → List (List ℕ) → Type 0
FitContents c contents = map length contents ≡ buffer_lengths c.adapters

-- how many buffers the adapters before this one have
abbrev pub buffers_before : Configuration → ℕ → ℕ
buffers_before c adapter = sum_by (λ a. length a.buffers) (take adapter c.adapters)

-- the contents of the buffers of an adapter and of those behind it
abbrev pub contents_from : Configuration → List (List ℕ) → ℕ → List (List ℕ)
contents_from c contents adapter = drop (buffers_before c adapter) contents

-- the part of this name is vacant, and no buffer
abbrev pub IsVacantPart : PartName → Part → Type 0
IsVacantPart (names.Control d) (parts.Control x) = x ≡ free_domain
IsVacantPart (names.Queue q) (parts.Queue x) = slot_of x.value ≡ vacant_queue
IsVacantPart (names.Mailbox q) (parts.Mailbox x) = x ≡ empty_mailbox
IsVacantPart (names.Cq s) (parts.Cq x) = x ≡ None
IsVacantPart (names.Srq s) (parts.Srq x) = x ≡ vacant_srq
IsVacantPart (names.Window s) (parts.Window x) = x ≡ vacant_window s
IsVacantPart (names.Region s) (parts.Region x) = x ≡ vacant_region
IsVacantPart name part = ⊥

-- the part of this name before the first event, in a fabric that opens with these contents: a buffer with its bytes, or
-- else vacant
abbrev pub IsOpeningPart : Configuration → List (List ℕ) → PartName → Part → Type 0
IsOpeningPart c contents (names.Buffer adapter index) (parts.Buffer bytes) =
    slice_get (contents_from c contents adapter) index ≡ Some bytes
IsOpeningPart c contents name part = IsVacantPart name part

-- parts are those of these names, one for each, in order
abbrev pub AreParts : (PartName → Part → Type 0) → List PartName → List Part → Type 0
AreParts P [] [] = Unit {0}
AreParts P (n ∷ ns) (p ∷ ps) = P n p × AreParts P ns ps
AreParts P ns ps = ⊥

-- the memory of a fabric that opens with these contents
abbrev pub opening_bytes : Configuration → List (List ℕ) → ByteMap
opening_bytes c contents p =
    option_map_or (λ bytes. memory_of bytes p) (slice_get (contents_from c contents p.adapter) p.buffer) 0

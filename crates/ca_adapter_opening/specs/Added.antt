-- Parts that were added to a row. Contracts of the crate's own functions cite it.
use Rattle.std.specs.Prelude.{◌≡◌, ℕ, List, ◌++◌, slice_get, Some}
use Rattle.ca_adapter_parts.specs.declared.part.Part.{Part}
use Rattle.ca_adapter_parts.specs.declared.part.Part.TheVariants as parts
use Rattle.ca_keys.specs.declared.names.Slot.{Slot}
use Rattle.ca_keys.specs.Numbers.{queue_of}
use Rattle.ca_model.specs.declared.part_name.PartName.{PartName}
use Rattle.ca_model.specs.declared.part_name.PartName.TheVariants as names
use Rattle.ca_adapter_opening.specs.declared.slots.SlotKind.{SlotKind}
use Rattle.ca_adapter_opening.specs.declared.slots.SlotKind.TheVariants as kinds
use Rattle.ca_adapter_opening.specs.Opening.{AreParts}

-- parts were added behind others, one for each of these names
pub record AddsParts (P : PartName → Part → Type 0) (ns : List PartName) (old new : List Part) : Type 0 where
  pub added : List Part
  pub all : new ≡ old ++ added
  pub are : AreParts P ns added

-- the name of the part of this kind in a slot
abbrev pub name_in : SlotKind → Slot → PartName
name_in kinds.Queue s = names.Queue (queue_of s)
name_in kinds.Mailbox s = names.Mailbox (queue_of s)
name_in kinds.Cq s = names.Cq s
name_in kinds.Srq s = names.Srq s
name_in kinds.Window s = names.Window s
name_in kinds.Region s = names.Region s

-- the part is a buffer of this adapter, with its bytes of these contents
abbrev pub IsBufferOf : ℕ → List (List ℕ) → PartName → Part → Type 0
IsBufferOf number contents (names.Buffer adapter index) (parts.Buffer bytes) =
    (adapter ≡ number) × (slice_get contents index ≡ Some bytes)
IsBufferOf number contents name part = ⊥

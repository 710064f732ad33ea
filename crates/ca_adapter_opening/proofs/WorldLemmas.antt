-- A part of the opening in a world: its things are those of the opening world. For proofs only.
use Rattle.std.proofs.Common.{◌≡◌, true, refl, sym, ap, subst, ℕ, List}
use Rattle.std.proofs.lemmas.Bool.{and_from, eq-eqb}
use Rattle.std.specs.Option.{option_map_or}
use Rattle.ca_base.specs.Configuration.{Configuration}
use Rattle.ca_adapter_parts.specs.declared.part.Part.{Part}
use Rattle.ca_adapter_parts.specs.declared.part.Part.TheVariants as parts
use Rattle.ca_adapter_parts.specs.Taking.{is_of_kind, world_with}
use Rattle.ca_memory.specs.Buffer.{memory_of}
use Rattle.ca_model.specs.declared.part_name.PartName.{PartName}
use Rattle.ca_model.specs.declared.part_name.PartName.TheVariants as names
use Rattle.ca_model.specs.machine.Parts.{part_of}
use Rattle.ca_model.specs.machine.World.{World, Name, Domain_of, Region_of, Window_of, Cq_of, Srq_of, Queue_of, Mailbox_of, Byte_at, get, opening_world}
use Rattle.ca_model.proofs.ThingLemmas.{domain-refl, queue-refl, slot-refl}
use Rattle.ca_adapter_opening.specs.Opening.{IsOpeningPart, opening_bytes}

module _ (c : Configuration) (contents : List (List ℕ)) (w : World) where
  same-thing : (n : Name) (part : Part) → IsOpeningPart c contents (part_of n) part → get (world_with (part_of n) part w) n ≡ get (opening_world (opening_bytes c contents)) n
  same-thing (Domain_of d) (parts.Control x) is = rw (domain-refl d) is
  same-thing (Domain_of d) (parts.Queue x) is = absurd is
  same-thing (Domain_of d) (parts.Mailbox x) is = absurd is
  same-thing (Domain_of d) (parts.Cq x) is = absurd is
  same-thing (Domain_of d) (parts.Srq x) is = absurd is
  same-thing (Domain_of d) (parts.Window x) is = absurd is
  same-thing (Domain_of d) (parts.Region x) is = absurd is
  same-thing (Domain_of d) (parts.Buffer x) is = absurd is
  same-thing (Region_of s) (parts.Region x) is = rw (slot-refl s) is
  same-thing (Region_of s) (parts.Control x) is = absurd is
  same-thing (Region_of s) (parts.Queue x) is = absurd is
  same-thing (Region_of s) (parts.Mailbox x) is = absurd is
  same-thing (Region_of s) (parts.Cq x) is = absurd is
  same-thing (Region_of s) (parts.Srq x) is = absurd is
  same-thing (Region_of s) (parts.Window x) is = absurd is
  same-thing (Region_of s) (parts.Buffer x) is = absurd is
  same-thing (Window_of s) (parts.Window x) is = rw (slot-refl s) is
  same-thing (Window_of s) (parts.Control x) is = absurd is
  same-thing (Window_of s) (parts.Queue x) is = absurd is
  same-thing (Window_of s) (parts.Mailbox x) is = absurd is
  same-thing (Window_of s) (parts.Cq x) is = absurd is
  same-thing (Window_of s) (parts.Srq x) is = absurd is
  same-thing (Window_of s) (parts.Region x) is = absurd is
  same-thing (Window_of s) (parts.Buffer x) is = absurd is
  same-thing (Cq_of s) (parts.Cq x) is = rw (slot-refl s) is
  same-thing (Cq_of s) (parts.Control x) is = absurd is
  same-thing (Cq_of s) (parts.Queue x) is = absurd is
  same-thing (Cq_of s) (parts.Mailbox x) is = absurd is
  same-thing (Cq_of s) (parts.Srq x) is = absurd is
  same-thing (Cq_of s) (parts.Window x) is = absurd is
  same-thing (Cq_of s) (parts.Region x) is = absurd is
  same-thing (Cq_of s) (parts.Buffer x) is = absurd is
  same-thing (Srq_of s) (parts.Srq x) is = rw (slot-refl s) is
  same-thing (Srq_of s) (parts.Control x) is = absurd is
  same-thing (Srq_of s) (parts.Queue x) is = absurd is
  same-thing (Srq_of s) (parts.Mailbox x) is = absurd is
  same-thing (Srq_of s) (parts.Cq x) is = absurd is
  same-thing (Srq_of s) (parts.Window x) is = absurd is
  same-thing (Srq_of s) (parts.Region x) is = absurd is
  same-thing (Srq_of s) (parts.Buffer x) is = absurd is
  same-thing (Queue_of q) (parts.Queue x) is = rw (queue-refl q) is
  same-thing (Queue_of q) (parts.Control x) is = absurd is
  same-thing (Queue_of q) (parts.Mailbox x) is = absurd is
  same-thing (Queue_of q) (parts.Cq x) is = absurd is
  same-thing (Queue_of q) (parts.Srq x) is = absurd is
  same-thing (Queue_of q) (parts.Window x) is = absurd is
  same-thing (Queue_of q) (parts.Region x) is = absurd is
  same-thing (Queue_of q) (parts.Buffer x) is = absurd is
  same-thing (Mailbox_of q) (parts.Mailbox x) is = rw (queue-refl q) is
  same-thing (Mailbox_of q) (parts.Control x) is = absurd is
  same-thing (Mailbox_of q) (parts.Queue x) is = absurd is
  same-thing (Mailbox_of q) (parts.Cq x) is = absurd is
  same-thing (Mailbox_of q) (parts.Srq x) is = absurd is
  same-thing (Mailbox_of q) (parts.Window x) is = absurd is
  same-thing (Mailbox_of q) (parts.Region x) is = absurd is
  same-thing (Mailbox_of q) (parts.Buffer x) is = absurd is
  same-thing (Byte_at p) (parts.Buffer bytes) is = rw (and_from _ _ (eq-eqb p.adapter p.adapter refl) (eq-eqb p.buffer p.buffer refl)) (sym (ap (λ o. option_map_or (λ bs. memory_of bs p) o 0) is))
  same-thing (Byte_at p) (parts.Control x) is = absurd is
  same-thing (Byte_at p) (parts.Queue x) is = absurd is
  same-thing (Byte_at p) (parts.Mailbox x) is = absurd is
  same-thing (Byte_at p) (parts.Cq x) is = absurd is
  same-thing (Byte_at p) (parts.Srq x) is = absurd is
  same-thing (Byte_at p) (parts.Window x) is = absurd is
  same-thing (Byte_at p) (parts.Region x) is = absurd is

pub opening-thing : (c : Configuration) (contents : List (List ℕ)) (name : PartName) (part : Part) (w : World) (n : Name) → IsOpeningPart c contents name part → part_of n ≡ name
    → get (world_with name part w) n ≡ get (opening_world (opening_bytes c contents)) n
opening-thing c contents name part w n is same = subst (λ m. IsOpeningPart c contents m part → get (world_with m part w) n ≡ get (opening_world (opening_bytes c contents)) n) same (same-thing c contents w n part) is

-- the part of a name is of its kind
pub opening-kind : (c : Configuration) (contents : List (List ℕ)) (name : PartName) (part : Part) → IsOpeningPart c contents name part → is_of_kind name part ≡ true
opening-kind c contents (names.Control d) (parts.Control x) is = refl
opening-kind c contents (names.Control d) (parts.Queue x) is = absurd is
opening-kind c contents (names.Control d) (parts.Mailbox x) is = absurd is
opening-kind c contents (names.Control d) (parts.Cq x) is = absurd is
opening-kind c contents (names.Control d) (parts.Srq x) is = absurd is
opening-kind c contents (names.Control d) (parts.Window x) is = absurd is
opening-kind c contents (names.Control d) (parts.Region x) is = absurd is
opening-kind c contents (names.Control d) (parts.Buffer x) is = absurd is
opening-kind c contents (names.Queue q) (parts.Control x) is = absurd is
opening-kind c contents (names.Queue q) (parts.Queue x) is = refl
opening-kind c contents (names.Queue q) (parts.Mailbox x) is = absurd is
opening-kind c contents (names.Queue q) (parts.Cq x) is = absurd is
opening-kind c contents (names.Queue q) (parts.Srq x) is = absurd is
opening-kind c contents (names.Queue q) (parts.Window x) is = absurd is
opening-kind c contents (names.Queue q) (parts.Region x) is = absurd is
opening-kind c contents (names.Queue q) (parts.Buffer x) is = absurd is
opening-kind c contents (names.Mailbox q) (parts.Control x) is = absurd is
opening-kind c contents (names.Mailbox q) (parts.Queue x) is = absurd is
opening-kind c contents (names.Mailbox q) (parts.Mailbox x) is = refl
opening-kind c contents (names.Mailbox q) (parts.Cq x) is = absurd is
opening-kind c contents (names.Mailbox q) (parts.Srq x) is = absurd is
opening-kind c contents (names.Mailbox q) (parts.Window x) is = absurd is
opening-kind c contents (names.Mailbox q) (parts.Region x) is = absurd is
opening-kind c contents (names.Mailbox q) (parts.Buffer x) is = absurd is
opening-kind c contents (names.Cq s) (parts.Control x) is = absurd is
opening-kind c contents (names.Cq s) (parts.Queue x) is = absurd is
opening-kind c contents (names.Cq s) (parts.Mailbox x) is = absurd is
opening-kind c contents (names.Cq s) (parts.Cq x) is = refl
opening-kind c contents (names.Cq s) (parts.Srq x) is = absurd is
opening-kind c contents (names.Cq s) (parts.Window x) is = absurd is
opening-kind c contents (names.Cq s) (parts.Region x) is = absurd is
opening-kind c contents (names.Cq s) (parts.Buffer x) is = absurd is
opening-kind c contents (names.Srq s) (parts.Control x) is = absurd is
opening-kind c contents (names.Srq s) (parts.Queue x) is = absurd is
opening-kind c contents (names.Srq s) (parts.Mailbox x) is = absurd is
opening-kind c contents (names.Srq s) (parts.Cq x) is = absurd is
opening-kind c contents (names.Srq s) (parts.Srq x) is = refl
opening-kind c contents (names.Srq s) (parts.Window x) is = absurd is
opening-kind c contents (names.Srq s) (parts.Region x) is = absurd is
opening-kind c contents (names.Srq s) (parts.Buffer x) is = absurd is
opening-kind c contents (names.Window s) (parts.Control x) is = absurd is
opening-kind c contents (names.Window s) (parts.Queue x) is = absurd is
opening-kind c contents (names.Window s) (parts.Mailbox x) is = absurd is
opening-kind c contents (names.Window s) (parts.Cq x) is = absurd is
opening-kind c contents (names.Window s) (parts.Srq x) is = absurd is
opening-kind c contents (names.Window s) (parts.Window x) is = refl
opening-kind c contents (names.Window s) (parts.Region x) is = absurd is
opening-kind c contents (names.Window s) (parts.Buffer x) is = absurd is
opening-kind c contents (names.Region s) (parts.Control x) is = absurd is
opening-kind c contents (names.Region s) (parts.Queue x) is = absurd is
opening-kind c contents (names.Region s) (parts.Mailbox x) is = absurd is
opening-kind c contents (names.Region s) (parts.Cq x) is = absurd is
opening-kind c contents (names.Region s) (parts.Srq x) is = absurd is
opening-kind c contents (names.Region s) (parts.Window x) is = absurd is
opening-kind c contents (names.Region s) (parts.Region x) is = refl
opening-kind c contents (names.Region s) (parts.Buffer x) is = absurd is
opening-kind c contents (names.Buffer adapter index) (parts.Control x) is = absurd is
opening-kind c contents (names.Buffer adapter index) (parts.Queue x) is = absurd is
opening-kind c contents (names.Buffer adapter index) (parts.Mailbox x) is = absurd is
opening-kind c contents (names.Buffer adapter index) (parts.Cq x) is = absurd is
opening-kind c contents (names.Buffer adapter index) (parts.Srq x) is = absurd is
opening-kind c contents (names.Buffer adapter index) (parts.Window x) is = absurd is
opening-kind c contents (names.Buffer adapter index) (parts.Region x) is = absurd is
opening-kind c contents (names.Buffer adapter index) (parts.Buffer x) is = refl

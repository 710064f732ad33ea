-- A part in a world: its things, and those of other parts. For proofs only.
use Rattle.std.proofs.Common.{◌≡◌, refl, sym, ap, subst, ◌==◌, Bool, true, false, if◌then◌else◌, true≢false}
use Rattle.std.proofs.lemmas.Bool.{and_from, and_parts, eq-eqb, eqb-true}
use Rattle.ca_adapter_parts.specs.declared.part.Part.{Part}
use Rattle.ca_adapter_parts.specs.declared.part.Part.TheVariants as parts
use Rattle.ca_adapter_parts.specs.Taking.{is_of_kind, world_with, world_without}
use Rattle.ca_model.proofs.ThingLemmas.{domain-path, domain-refl, queue-path, queue-refl, slot-path, slot-refl}
use Rattle.ca_model.specs.declared.part_name.PartName.{PartName}
use Rattle.ca_model.specs.declared.part_name.PartName.TheVariants as names
use Rattle.ca_model.specs.machine.Parts.{part_eq, part_of}
use Rattle.ca_model.specs.machine.World.{World, Name, Domain_of, Region_of, Window_of, Cq_of, Srq_of, Queue_of, Mailbox_of, Byte_at, get}

-- names that are the same are one
pub part-path : (a b : PartName) → part_eq a b ≡ true → a ≡ b
part-path (names.Control a) (names.Control b) same = ap names.Control (domain-path a b same)
part-path (names.Region a) (names.Region b) same = ap names.Region (slot-path a b same)
part-path (names.Window a) (names.Window b) same = ap names.Window (slot-path a b same)
part-path (names.Cq a) (names.Cq b) same = ap names.Cq (slot-path a b same)
part-path (names.Srq a) (names.Srq b) same = ap names.Srq (slot-path a b same)
part-path (names.Queue a) (names.Queue b) same = ap names.Queue (queue-path a b same)
part-path (names.Mailbox a) (names.Mailbox b) same = ap names.Mailbox (queue-path a b same)
part-path (names.Buffer a i) (names.Buffer b j) same = λ k. names.Buffer (eqb-true a b both.0 k) (eqb-true i j both.1 k)
  where
    both : ((a == b) ≡ true) × ((i == j) ≡ true)
    both = and_parts (a == b) (i == j) same
part-path a b same = absurd (true≢false (sym same))

other-choice : {A : Type 0} (x y : A) (b : Bool) → b ≡ false → (if b then x else y) ≡ y
other-choice x y true e = absurd (true≢false e)
other-choice x y false e = refl

-- a part in a world leaves the things of other parts
pub other-with : (name : PartName) (part : Part) (w : World) (n : Name) → is_of_kind name part ≡ true → part_eq name (part_of n) ≡ false
    → get (world_with name part w) n ≡ get w n
other-with (names.Control d) (parts.Control x) w (Domain_of a) kind e = other-choice _ _ _ e
other-with (names.Region s) (parts.Region x) w (Region_of a) kind e = other-choice _ _ _ e
other-with (names.Window s) (parts.Window x) w (Window_of a) kind e = other-choice _ _ _ e
other-with (names.Cq s) (parts.Cq x) w (Cq_of a) kind e = other-choice _ _ _ e
other-with (names.Srq s) (parts.Srq x) w (Srq_of a) kind e = other-choice _ _ _ e
other-with (names.Queue q) (parts.Queue x) w (Queue_of a) kind e = other-choice _ _ _ e
other-with (names.Mailbox q) (parts.Mailbox x) w (Mailbox_of a) kind e = other-choice _ _ _ e
other-with (names.Buffer adapter index) (parts.Buffer bytes) w (Byte_at p) kind e = other-choice _ _ _ e
other-with name part w n kind e = refl

-- and so does the place that it left
pub other-without : (name : PartName) (w : World) (n : Name) → part_eq name (part_of n) ≡ false → get (world_without name w) n ≡ get w n
other-without (names.Control d) w (Domain_of a) e = other-choice _ _ _ e
other-without (names.Region s) w (Region_of a) e = other-choice _ _ _ e
other-without (names.Window s) w (Window_of a) e = other-choice _ _ _ e
other-without (names.Cq s) w (Cq_of a) e = other-choice _ _ _ e
other-without (names.Srq s) w (Srq_of a) e = other-choice _ _ _ e
other-without (names.Queue q) w (Queue_of a) e = other-choice _ _ _ e
other-without (names.Mailbox q) w (Mailbox_of a) e = other-choice _ _ _ e
other-without (names.Buffer adapter index) w (Byte_at p) e = other-choice _ _ _ e
other-without name w n e = refl

first-choice : {A : Type 0} (x y z : A) (b : Bool) → b ≡ true → (if b then x else y) ≡ (if b then x else z)
first-choice x y z true e = refl
first-choice x y z false e = absurd (true≢false (sym e))

-- what stands in a part does not depend on the world around it
in-part : (n : Name) (part : Part) (v w : World) → is_of_kind (part_of n) part ≡ true → get (world_with (part_of n) part v) n ≡ get (world_with (part_of n) part w) n
in-part (Domain_of d) (parts.Control x) v w kind = first-choice x _ _ _ (domain-refl d)
in-part (Region_of s) (parts.Region x) v w kind = first-choice x _ _ _ (slot-refl s)
in-part (Window_of s) (parts.Window x) v w kind = first-choice x _ _ _ (slot-refl s)
in-part (Cq_of s) (parts.Cq x) v w kind = first-choice x _ _ _ (slot-refl s)
in-part (Srq_of s) (parts.Srq x) v w kind = first-choice x _ _ _ (slot-refl s)
in-part (Queue_of q) (parts.Queue x) v w kind = first-choice _ _ _ _ (queue-refl q)
in-part (Mailbox_of q) (parts.Mailbox x) v w kind = first-choice x _ _ _ (queue-refl q)
in-part (Byte_at p) (parts.Buffer bytes) v w kind =
    first-choice _ _ _ _ (and_from (p.adapter == p.adapter) (p.buffer == p.buffer) (eq-eqb p.adapter p.adapter refl) (eq-eqb p.buffer p.buffer refl))
in-part n part v w kind = absurd (true≢false (sym kind))

pub part-apart : (name : PartName) (part : Part) (v w : World) (n : Name) → is_of_kind name part ≡ true → part_of n ≡ name
    → get (world_with name part v) n ≡ get (world_with name part w) n
part-apart name part v w n kind is =
    subst (λ m. is_of_kind m part ≡ true → get (world_with m part v) n ≡ get (world_with m part w) n) is (in-part n part v w) kind

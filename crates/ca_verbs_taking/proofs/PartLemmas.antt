-- A part in a small world: its value, and what it leaves. For proofs only.
use Rattle.std.proofs.Common.{◌≡◌, ◌∙◌, refl, sym, ap, subst, ℕ, ◌<◌, nat_lt, get_or, ◌==◌, arith, Bool, true, false, [], length, Some, if◌then◌else◌, true≢false}
use Rattle.std.proofs.lemmas.Bool.{and_from, and_parts, eq-eqb, eqb-true}
use Rattle.std.proofs.lemmas.Bool.Decides.{nat_tests}
use Rattle.std.proofs.lemmas.Grind.{same_number_lists}
use Rattle.std.proofs.lemmas.Option.{none-some}
use Rattle.std.specs.Option.{option_map_or}
use Rattle.ca_verbs_machine.specs.Values.{A_cq, A_domain, A_mailbox, A_queue, A_region, A_srq, A_window, Bytes_of, PartValue, has_byte, thing_in, value_of}
use Rattle.ca_adapter_parts.specs.HeldView.{Holding}
use Rattle.ca_adapter_parts.specs.declared.part.Part.{Part}
use Rattle.ca_adapter_parts.specs.declared.part.Part.TheVariants as parts
use Rattle.ca_adapter_parts.specs.Parts.{slot_of}
use Rattle.ca_adapter_parts.specs.Taking.{has_in, is_of_kind, world_with, world_without}
use Rattle.ca_keys.specs.declared.place.Place.{Place}
use Rattle.ca_model.proofs.ThingLemmas.{domain-path, domain-refl, queue-path, queue-refl, slot-path, slot-refl}
use Rattle.ca_model.specs.declared.part_name.PartName.{PartName}
use Rattle.ca_model.specs.declared.part_name.PartName.TheVariants as names
use Rattle.ca_model.specs.machine.Parts.{part_eq, part_of}
use Rattle.ca_model.specs.machine.World.{World, Name, Domain_of, Region_of, Window_of, Cq_of, Srq_of, Queue_of, Mailbox_of, Byte_at, Thing, get}
use Rattle.ca_verbs_taking.specs.Holding.{IsPartOf}

-- names that are the same are one
pub part-path : (a b : PartName) → part_eq a b ≡ true → a ≡ b
part-path (names.Control a) (names.Control b) same = ap names.Control (domain-path a b same)
part-path (names.Region a) (names.Region b) same = ap names.Region (slot-path a b same)
part-path (names.Window a) (names.Window b) same = ap names.Window (slot-path a b same)
part-path (names.Cq a) (names.Cq b) same = ap names.Cq (slot-path a b same)
part-path (names.Srq a) (names.Srq b) same = ap names.Srq (slot-path a b same)
part-path (names.Queue a) (names.Queue b) same = ap names.Queue (queue-path a b same)
part-path (names.Mailbox a) (names.Mailbox b) same = ap names.Mailbox (queue-path a b same)
part-path (names.Buffer a i) (names.Buffer b j) same = λ k. names.Buffer (eqb-true a b both.0 k) (eqb-true i j both.1 k)
  where
    both : ((a == b) ≡ true) × ((i == j) ≡ true)
    both = and_parts (a == b) (i == j) same
part-path a b same = absurd (true≢false (sym same))

other-choice : {A : Type 0} (x y : A) (b : Bool) → b ≡ false → (if b then x else y) ≡ y
other-choice x y true e = absurd (true≢false e)
other-choice x y false e = refl

first-choice : {A : Type 0} (x y : A) (b : Bool) → b ≡ true → (if b then x else y) ≡ x
first-choice x y true e = refl
first-choice x y false e = absurd (true≢false (sym e))

-- a part in a world leaves the things of other parts
pub other-with : (name : PartName) (part : Part) (w : World) (n : Name) → is_of_kind name part ≡ true → part_eq name (part_of n) ≡ false
    → get (world_with name part w) n ≡ get w n
other-with (names.Control d) (parts.Control x) w (Domain_of a) kind e = other-choice _ _ _ e
other-with (names.Region s) (parts.Region x) w (Region_of a) kind e = other-choice _ _ _ e
other-with (names.Window s) (parts.Window x) w (Window_of a) kind e = other-choice _ _ _ e
other-with (names.Cq s) (parts.Cq x) w (Cq_of a) kind e = other-choice _ _ _ e
other-with (names.Srq s) (parts.Srq x) w (Srq_of a) kind e = other-choice _ _ _ e
other-with (names.Queue q) (parts.Queue x) w (Queue_of a) kind e = other-choice _ _ _ e
other-with (names.Mailbox q) (parts.Mailbox x) w (Mailbox_of a) kind e = other-choice _ _ _ e
other-with (names.Buffer adapter index) (parts.Buffer bytes) w (Byte_at p) kind e = other-choice _ _ _ e
other-with name part w n kind e = refl

-- and so does the place that it left
pub other-without : (name : PartName) (w : World) (n : Name) → part_eq name (part_of n) ≡ false → get (world_without name w) n ≡ get w n
other-without (names.Control d) w (Domain_of a) e = other-choice _ _ _ e
other-without (names.Region s) w (Region_of a) e = other-choice _ _ _ e
other-without (names.Window s) w (Window_of a) e = other-choice _ _ _ e
other-without (names.Cq s) w (Cq_of a) e = other-choice _ _ _ e
other-without (names.Srq s) w (Srq_of a) e = other-choice _ _ _ e
other-without (names.Queue q) w (Queue_of a) e = other-choice _ _ _ e
other-without (names.Mailbox q) w (Mailbox_of a) e = other-choice _ _ _ e
other-without (names.Buffer adapter index) w (Byte_at p) e = other-choice _ _ _ e
other-without name w n e = refl

-- the thing of a part that a world has is that of its value
in-value : (n : Name) (part : Part) (w : World) → is_of_kind (part_of n) part ≡ true → thing_in n (value_of part) ≡ Some (get (world_with (part_of n) part w) n)
in-value (Domain_of d) (parts.Control x) w kind = ap Some (sym (first-choice x (w.domain d) _ (domain-refl d)))
in-value (Region_of s) (parts.Region x) w kind = ap Some (sym (first-choice x (w.region s) _ (slot-refl s)))
in-value (Window_of s) (parts.Window x) w kind = ap Some (sym (first-choice x (w.window s) _ (slot-refl s)))
in-value (Cq_of s) (parts.Cq x) w kind = ap Some (sym (first-choice x (w.cq s) _ (slot-refl s)))
in-value (Srq_of s) (parts.Srq x) w kind = ap Some (sym (first-choice x (w.srq s) _ (slot-refl s)))
in-value (Queue_of q) (parts.Queue x) w kind = ap Some (sym (first-choice (slot_of x.value) (w.queue q) _ (queue-refl q)))
in-value (Mailbox_of q) (parts.Mailbox x) w kind = ap Some (sym (first-choice x (w.mailbox q) _ (queue-refl q)))
in-value (Byte_at p) (parts.Buffer bytes) w kind = ap Some (sym (first-choice _ (w.byte p) _
    (and_from (p.adapter == p.adapter) (p.buffer == p.buffer) (eq-eqb p.adapter p.adapter refl) (eq-eqb p.buffer p.buffer refl))))
in-value n part w kind = absurd (true≢false (sym kind))

pub value-with : (name : PartName) (part : Part) (w : World) (n : Name) → is_of_kind name part ≡ true → part_of n ≡ name
    → thing_in n (value_of part) ≡ Some (get (world_with name part w) n)
value-with name part w n kind is =
    subst (λ m. is_of_kind m part ≡ true → thing_in n (value_of part) ≡ Some (get (world_with m part w) n)) is (in-value n part w) kind

-- the bytes that a part has are those of its value
bytes-in : (p : Place) (part : Part) → is_of_kind (part_of (Byte_at p)) part ≡ true → has_in part (Byte_at p) ≡ has_byte (value_of part) p
bytes-in p (parts.Buffer bytes) kind = refl
bytes-in p part kind = absurd (true≢false (sym kind))

pub bytes-with : (name : PartName) (part : Part) (p : Place) → is_of_kind name part ≡ true → part_of (Byte_at p) ≡ name → has_in part (Byte_at p) ≡ has_byte (value_of part) p
bytes-with name part p kind is = subst (λ m. is_of_kind m part ≡ true → has_in part (Byte_at p) ≡ has_byte (value_of part) p) is (bytes-in p part) kind

-- a part whose value has the thing of a name is of its kind
of-kind : (n : Name) (part : Part) (v : Thing n) → thing_in n (value_of part) ≡ Some v → is_of_kind (part_of n) part ≡ true
of-kind (Domain_of d) (parts.Control x) v is = refl
of-kind (Region_of s) (parts.Region x) v is = refl
of-kind (Window_of s) (parts.Window x) v is = refl
of-kind (Cq_of s) (parts.Cq x) v is = refl
of-kind (Srq_of s) (parts.Srq x) v is = refl
of-kind (Queue_of q) (parts.Queue x) v is = refl
of-kind (Mailbox_of q) (parts.Mailbox x) v is = refl
of-kind (Byte_at p) (parts.Buffer bytes) v is = refl
of-kind n part v is = absurd (none-some v is)

-- a thing of each part
abbrev pub thing_of : PartName → Name
thing_of (names.Control d) = Domain_of d
thing_of (names.Region s) = Region_of s
thing_of (names.Window s) = Window_of s
thing_of (names.Cq s) = Cq_of s
thing_of (names.Srq s) = Srq_of s
thing_of (names.Queue q) = Queue_of q
thing_of (names.Mailbox q) = Mailbox_of q
thing_of (names.Buffer adapter index) = Byte_at (record { adapter = adapter; buffer = index; offset = 0 })

pub of-part : (name : PartName) → part_of (thing_of name) ≡ name
of-part (names.Control d) = refl
of-part (names.Region s) = refl
of-part (names.Window s) = refl
of-part (names.Cq s) = refl
of-part (names.Srq s) = refl
of-part (names.Queue q) = refl
of-part (names.Mailbox q) = refl
of-part (names.Buffer adapter index) = refl

pub kind-of : (name : PartName) (part : Part) (f : (n : Name) → Thing n) → ((n : Name) → part_of n ≡ name → thing_in n (value_of part) ≡ Some (f n)) → is_of_kind name part ≡ true
kind-of name part f is = subst (λ m. is_of_kind m part ≡ true) (of-part name) (of-kind (thing_of name) part (f (thing_of name)) (is (thing_of name) (of-part name)))

-- ---- a part of what is held has one value

-- the value that has a thing other than a byte
value_with : (n : Name) → Thing n → PartValue
value_with (Domain_of d) v = A_domain v
value_with (Region_of s) v = A_region v
value_with (Window_of s) v = A_window v
value_with (Cq_of s) v = A_cq v
value_with (Srq_of s) v = A_srq v
value_with (Queue_of q) v = A_queue v
value_with (Mailbox_of q) v = A_mailbox v
value_with (Byte_at p) v = Bytes_of []

some-same : {A : Type 0} (a b : A) → Some a ≡ Some b → a ≡ b
some-same a b is = ap (λ o. option_map_or (λ x. x) o a) is

abbrev is_byte : Name → Bool
is_byte (Byte_at p) = true
is_byte n = false

value-is : (n : Name) (x : PartValue) (v : Thing n) → is_byte n ≡ false → thing_in n x ≡ Some v → x ≡ value_with n v
unfolding value_with
value-is (Domain_of d) (A_domain x) v no_byte is = ap A_domain (some-same x v is)
value-is (Region_of s) (A_region x) v no_byte is = ap A_region (some-same x v is)
value-is (Window_of s) (A_window x) v no_byte is = ap A_window (some-same x v is)
value-is (Cq_of s) (A_cq x) v no_byte is = ap A_cq (some-same x v is)
value-is (Srq_of s) (A_srq x) v no_byte is = ap A_srq (some-same x v is)
value-is (Queue_of q) (A_queue x) v no_byte is = ap A_queue (some-same x v is)
value-is (Mailbox_of q) (A_mailbox x) v no_byte is = ap A_mailbox (some-same x v is)
value-is (Byte_at p) (Bytes_of bytes) v no_byte is = absurd (true≢false no_byte)
value-is n x v no_byte is = absurd (none-some v is)

same-length : (m n : ℕ) → ((k : ℕ) → nat_lt k m ≡ nat_lt k n) → m ≡ n
same-length m n same = by (same m) (same n)
  where
    by : nat_lt m m ≡ nat_lt m n → nat_lt n m ≡ nat_lt n n → m ≡ n
    by one other = grind (arith, nat_tests)

module _ (h : Holding) where
  one-thing : (name : PartName) (n : Name) (x y : PartValue) → is_byte n ≡ false → part_of n ≡ name → IsPartOf h name x → IsPartOf h name y → x ≡ y
  one-thing name n x y no_byte is one other = value-is n x (get h.world n) no_byte (one.things n is) ∙ sym (value-is n y (get h.world n) no_byte (other.things n is))

  one-buffer : (a i : ℕ) (x y : PartValue) → IsPartOf h (names.Buffer a i) x → IsPartOf h (names.Buffer a i) y → x ≡ y
  one-buffer a i (Bytes_of xs) (Bytes_of ys) one other = ap Bytes_of (same_number_lists xs ys (same-length (length xs) (length ys) reach) bytes)
    where
      reach : (k : ℕ) → nat_lt k (length xs) ≡ nat_lt k (length ys)
      reach k = sym (one.bytes (record { adapter = a; buffer = i; offset = k }) refl) ∙ other.bytes (record { adapter = a; buffer = i; offset = k }) refl

      bytes : (k : ℕ) → k < length xs → get_or xs k 0 ≡ get_or ys k 0
      bytes k within = some-same _ _ (one.things (Byte_at (record { adapter = a; buffer = i; offset = k })) refl ∙ sym (other.things (Byte_at (record { adapter = a; buffer = i; offset = k })) refl))
  one-buffer a i (Bytes_of xs) y one other = absurd (none-some _ (other.things (Byte_at (record { adapter = a; buffer = i; offset = 0 })) refl))
  one-buffer a i x y one other = absurd (none-some _ (one.things (Byte_at (record { adapter = a; buffer = i; offset = 0 })) refl))

  pub one-value : (name : PartName) (x y : PartValue) → IsPartOf h name x → IsPartOf h name y → x ≡ y
  one-value (names.Control d) x y one other = one-thing (names.Control d) (Domain_of d) x y refl refl one other
  one-value (names.Region s) x y one other = one-thing (names.Region s) (Region_of s) x y refl refl one other
  one-value (names.Window s) x y one other = one-thing (names.Window s) (Window_of s) x y refl refl one other
  one-value (names.Cq s) x y one other = one-thing (names.Cq s) (Cq_of s) x y refl refl one other
  one-value (names.Srq s) x y one other = one-thing (names.Srq s) (Srq_of s) x y refl refl one other
  one-value (names.Queue q) x y one other = one-thing (names.Queue q) (Queue_of q) x y refl refl one other
  one-value (names.Mailbox q) x y one other = one-thing (names.Mailbox q) (Mailbox_of q) x y refl refl one other
  one-value (names.Buffer a i) x y one other = one-buffer a i x y one other

-- The things of a world by their names: which are the same, and what changes under names make of them.
use Rattle.std.proofs.Common.{◌≡◌, ◌∙◌, ◌&&◌, ◌==◌, Bool, true, false, if◌then◌else◌, List, [], ◌∷◌, ap, ap₂, sym, subst, refl, true≢false}
use Rattle.std.proofs.lemmas.Bool.{and_parts, eq-eqb, eqb-true}
use Rattle.ca_keys.specs.declared.names.DomainId.{DomainId}
use Rattle.ca_keys.specs.declared.names.QueueId.{QueueId}
use Rattle.ca_keys.specs.declared.names.Slot.{Slot}
use Rattle.ca_keys.specs.declared.place.Place.{Place}
use Rattle.ca_keys.specs.Equal.{domain_eq, place_eq, queue_eq, slot_eq}
use Rattle.ca_model.specs.machine.Frame.{name_eq}
use Rattle.ca_model.specs.machine.Plan.{Update, put_all, ◌:=◌}
use Rattle.ca_model.specs.machine.World.{Byte_at, Cq_of, Domain_of, Mailbox_of, Name, Queue_of, Region_of, Srq_of, Thing, Window_of, World, get, put}
use Rattle.ca_model.proofs.RestLemmas.{put-leaves}

pub domain-path : (a b : DomainId) → domain_eq a b ≡ true → a ≡ b
domain-path a b same = by (and_parts (a.adapter == b.adapter) (a.domain == b.domain) same)
  where
    by : ((a.adapter == b.adapter) ≡ true) × ((a.domain == b.domain) ≡ true) → a ≡ b
    by parts = λ i. record { adapter = eqb-true a.adapter b.adapter parts.0 i; domain = eqb-true a.domain b.domain parts.1 i }

pub slot-path : (a b : Slot) → slot_eq a b ≡ true → a ≡ b
slot-path a b same = by (and_parts (domain_eq a.domain b.domain) (a.slot == b.slot) same)
  where
    by : (domain_eq a.domain b.domain ≡ true) × ((a.slot == b.slot) ≡ true) → a ≡ b
    by parts = λ i. record { domain = domain-path a.domain b.domain parts.0 i; slot = eqb-true a.slot b.slot parts.1 i }

pub queue-path : (a b : QueueId) → queue_eq a b ≡ true → a ≡ b
queue-path a b same = by (and_parts (a.adapter == b.adapter) (a.number == b.number) same)
  where
    by : ((a.adapter == b.adapter) ≡ true) × ((a.number == b.number) ≡ true) → a ≡ b
    by parts = λ i. record { adapter = eqb-true a.adapter b.adapter parts.0 i; number = eqb-true a.number b.number parts.1 i }

pub place-path : (a b : Place) → place_eq a b ≡ true → a ≡ b
place-path a b same = by (and_parts ((a.adapter == b.adapter) && (a.buffer == b.buffer)) (a.offset == b.offset) same)
  where
    at : ((a.adapter == b.adapter) ≡ true) × ((a.buffer == b.buffer) ≡ true) → (a.offset == b.offset) ≡ true → a ≡ b
    at parts offset = λ i. record {
      adapter = eqb-true a.adapter b.adapter parts.0 i;
      buffer = eqb-true a.buffer b.buffer parts.1 i;
      offset = eqb-true a.offset b.offset offset i;
    }

    by : (((a.adapter == b.adapter) && (a.buffer == b.buffer)) ≡ true) × ((a.offset == b.offset) ≡ true) → a ≡ b
    by parts = at (and_parts (a.adapter == b.adapter) (a.buffer == b.buffer) parts.0) parts.1

pub domain-refl : (a : DomainId) → domain_eq a a ≡ true
domain-refl a = ap₂ (λ x y. x && y) (eq-eqb a.adapter a.adapter refl) (eq-eqb a.domain a.domain refl)

pub slot-refl : (a : Slot) → slot_eq a a ≡ true
slot-refl a = ap₂ (λ x y. x && y) (domain-refl a.domain) (eq-eqb a.slot a.slot refl)

pub queue-refl : (a : QueueId) → queue_eq a a ≡ true
queue-refl a = ap₂ (λ x y. x && y) (eq-eqb a.adapter a.adapter refl) (eq-eqb a.number a.number refl)

pub place-refl : (a : Place) → place_eq a a ≡ true
place-refl a = ap₂ (λ x y. x && y) (ap₂ (λ x y. x && y) (eq-eqb a.adapter a.adapter refl) (eq-eqb a.buffer a.buffer refl)) (eq-eqb a.offset a.offset refl)

-- the same name by the test is the same name
pub name-path : (m n : Name) → name_eq m n ≡ true → m ≡ n
name-path (Domain_of a) (Domain_of b) same = ap Domain_of (domain-path a b same)
name-path (Region_of a) (Region_of b) same = ap Region_of (slot-path a b same)
name-path (Window_of a) (Window_of b) same = ap Window_of (slot-path a b same)
name-path (Cq_of a) (Cq_of b) same = ap Cq_of (slot-path a b same)
name-path (Srq_of a) (Srq_of b) same = ap Srq_of (slot-path a b same)
name-path (Queue_of a) (Queue_of b) same = ap Queue_of (queue-path a b same)
name-path (Mailbox_of a) (Mailbox_of b) same = ap Mailbox_of (queue-path a b same)
name-path (Byte_at a) (Byte_at b) same = ap Byte_at (place-path a b same)
name-path m n same = absurd (true≢false (sym same))

-- worlds of the same things are the same
pub same-worlds : (v w : World) → ((n : Name) → get v n ≡ get w n) → v ≡ w
same-worlds v w same = λ i. record {
  domain = λ d. same (Domain_of d) i;
  region = λ s. same (Region_of s) i;
  window = λ s. same (Window_of s) i;
  cq = λ s. same (Cq_of s) i;
  srq = λ s. same (Srq_of s) i;
  queue = λ q. same (Queue_of q) i;
  mailbox = λ q. same (Mailbox_of q) i;
  byte = λ p. same (Byte_at p) i;
}

chosen : {A : Type 0} (b : Bool) (x y : A) → b ≡ true → (if b then x else y) ≡ x
chosen true x y is = refl
chosen false x y is = absurd (true≢false (sym is))

-- a thing that is put is there
pub put-there : (w : World) (n : Name) (x : Thing n) → get (put w n x) n ≡ x
put-there w (Domain_of d) x = chosen (domain_eq d d) x (w.domain d) (domain-refl d)
put-there w (Region_of s) x = chosen (slot_eq s s) x (w.region s) (slot-refl s)
put-there w (Window_of s) x = chosen (slot_eq s s) x (w.window s) (slot-refl s)
put-there w (Cq_of s) x = chosen (slot_eq s s) x (w.cq s) (slot-refl s)
put-there w (Srq_of s) x = chosen (slot_eq s s) x (w.srq s) (slot-refl s)
put-there w (Queue_of q) x = chosen (queue_eq q q) x (w.queue q) (queue-refl q)
put-there w (Mailbox_of q) x = chosen (queue_eq q q) x (w.mailbox q) (queue-refl q)
put-there w (Byte_at p) x = chosen (place_eq p p) x (w.byte p) (place-refl p)

-- a thing that is put, and any other, by the test of names
pub put-one : (w : World) (m n : Name) (f : (n : Name) → Thing n) → get (put w m (f m)) n ≡ (if name_eq m n then f n else get w n)
put-one w m n f = by (name_eq m n) refl
  where
    by : (b : Bool) → name_eq m n ≡ b → get (put w m (f m)) n ≡ (if b then f n else get w n)
    by true is = subst (λ k. get (put w m (f m)) k ≡ f k) (name-path m n is) (put-there w m (f m))
    by false is = put-leaves w m (f m) n is

-- a thing that is put as it was leaves the world
pub put-same : (w : World) (n : Name) → put w n (get w n) ≡ w
put-same w n = same-worlds (put w n (get w n)) w (λ m. put-one w n m (get w) ∙ by m (name_eq n m))
  where
    by : (m : Name) (b : Bool) → (if b then get w m else get w m) ≡ get w m
    by m true = refl
    by m false = refl

-- changes under names, each to what a function has for its name
abbrev pub updates_by : ((n : Name) → Thing n) → List Name → List Update
updates_by f [] = []
updates_by f (n ∷ ns) = (n := f n) ∷ updates_by f ns

-- a name is one of these
abbrev pub is_named_in : List Name → Name → Bool
is_named_in [] n = false
is_named_in (m ∷ ms) n = if is_named_in ms n then true else name_eq m n

-- what each thing is after such changes
pub put-names : (f : (n : Name) → Thing n) (ns : List Name) (w : World) (m : Name) → get (put_all (updates_by f ns) w) m ≡ (if is_named_in ns m then f m else get w m)
put-names f [] w m = refl
put-names f (n ∷ ns) w m = put-names f ns (put w n (f n)) m ∙ by (is_named_in ns m)
  where
    by : (b : Bool) → (if b then f m else get (put w n (f n)) m) ≡ (if (if b then true else name_eq n m) then f m else get w m)
    by true = refl
    by false = put-one w n m f

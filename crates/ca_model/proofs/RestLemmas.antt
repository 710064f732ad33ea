-- What a plan leaves as it was: by induction on the plan, with no event named.
use Rattle.std.proofs.Common.{◌≡◌, ℕ, zero, suc, ◌+◌, ◌-◌, ◌<◌, ◌≤◌, ◌==◌, ◌&&◌, ◌⊎◌, inl, inr, Bool, true, false, List, [], ◌∷◌, ◌++◌, map, drop, slice_index_or, if◌then◌else◌, refl, sym, ◌∙◌, eq-or-lt_of_le, true≢false, not-le_of_lt, arith, nat_le, nat_lt}
use Rattle.std.proofs.lemmas.Bool.{and_from, and_parts, false_from_ne_true, eqb-true, eq-eqb, leb-true, ltb-true}
use Rattle.std.specs.List.{range_with_len}
use Rattle.ca_keys.specs.declared.place.Place.{Place}
use Rattle.ca_keys.specs.declared.place.Run.{Run}
use Rattle.ca_base.specs.Configuration.{Configuration}
use Rattle.ca_keys.specs.Equal.{domain_eq, place_eq, queue_eq, slot_eq}
use Rattle.ca_keys.specs.Memory.{ByteMap, bytes_at, is_in, memory_after, places_of, run_places}
use Rattle.ca_model.specs.declared.event.Event.{Event}
use Rattle.ca_model.specs.machine.Frame.{IsNoneOf, LeavesRest, name_eq}
use Rattle.ca_model.specs.machine.Plan.{Update, Did, Finish, If, Look, NotReady, Outcome, Plan, Read, Stuck, Write, byte_names, names_updated, names_written, perform, put_all, touches, write_all}
use Rattle.ca_model.specs.machine.Step.{plan, step}
use Rattle.ca_model.specs.machine.World.{Byte_at, Cq_of, Domain_of, Mailbox_of, Name, Queue_of, Region_of, Srq_of, Thing, Window_of, World, get, put}
use Rattle.ca_model.proofs.FrameLemmas.{after_write}

other-choice : {A : Type 0} (x y : A) (b : Bool) → b ≡ false → (if b then x else y) ≡ y
other-choice x y true e = absurd (true≢false e)
other-choice x y false e = refl

-- a change of one thing leaves the others
pub put-leaves : (w : World) (m : Name) (x : Thing m) (n : Name) → name_eq m n ≡ false → get (put w m x) n ≡ get w n
put-leaves w (Domain_of d) x (Domain_of a) e = other-choice x (get w (Domain_of a)) (domain_eq d a) e
put-leaves w (Region_of d) x (Region_of a) e = other-choice x (get w (Region_of a)) (slot_eq d a) e
put-leaves w (Window_of d) x (Window_of a) e = other-choice x (get w (Window_of a)) (slot_eq d a) e
put-leaves w (Cq_of d) x (Cq_of a) e = other-choice x (get w (Cq_of a)) (slot_eq d a) e
put-leaves w (Srq_of d) x (Srq_of a) e = other-choice x (get w (Srq_of a)) (slot_eq d a) e
put-leaves w (Queue_of d) x (Queue_of a) e = other-choice x (get w (Queue_of a)) (queue_eq d a) e
put-leaves w (Mailbox_of d) x (Mailbox_of a) e = other-choice x (get w (Mailbox_of a)) (queue_eq d a) e
put-leaves w (Byte_at d) x (Byte_at a) e = other-choice x (get w (Byte_at a)) (place_eq d a) e
put-leaves w m x n e = refl

is-none-left : (n : Name) (xs ys : List Name) → IsNoneOf n (xs ++ ys) → IsNoneOf n xs
is-none-left n [] ys none = record {}
is-none-left n (x ∷ xs) ys none = (none.0, is-none-left n xs ys none.1)

is-none-right : (n : Name) (xs ys : List Name) → IsNoneOf n (xs ++ ys) → IsNoneOf n ys
is-none-right n [] ys none = none
is-none-right n (x ∷ xs) ys none = is-none-right n xs ys none.1

puts-leave : (cs : List Update) (w : World) (n : Name) → IsNoneOf n (names_updated cs) → get (put_all cs w) n ≡ get w n
puts-leave [] w n none = refl
puts-leave (c ∷ cs) w n none = puts-leave cs (put w c.name c.thing) n none.1 ∙ put-leaves w c.name c.thing n none.0

-- a place of a run is one of its places
abbrev place_in : ℕ → ℕ → ℕ → Place
place_in adapter buffer at = record { adapter = adapter; buffer = buffer; offset = at }

place-is : (p : Place) (adapter buffer at : ℕ) → p.adapter ≡ adapter → p.buffer ≡ buffer → p.offset ≡ at → place_eq (place_in adapter buffer at) p ≡ true
place-is p adapter buffer at a b o =
    and_from ((adapter == p.adapter) && (buffer == p.buffer)) (at == p.offset)
    (and_from (adapter == p.adapter) (buffer == p.buffer) (eq-eqb adapter p.adapter (sym a)) (eq-eqb buffer p.buffer (sym b)))
    (eq-eqb at p.offset (sym o))

none-outside : (p : Place) (adapter buffer count from : ℕ) → p.adapter ≡ adapter → p.buffer ≡ buffer → from ≤ p.offset → p.offset < from + count
    → IsNoneOf (Byte_at p) (map Byte_at (map (place_in adapter buffer) (range_with_len from count))) → ⊥
none-outside p adapter buffer zero from a b le lt none = not-le_of_lt lt (omega (arith, le))
none-outside p adapter buffer (suc count) from a b le lt none =
    by (eq-or-lt_of_le le) (λ more. none-outside p adapter buffer count (from + 1) a b more (omega (arith, lt)) none.1)
  where
    by : (from ≡ p.offset) ⊎ (from < p.offset) → (from + 1 ≤ p.offset → ⊥) → ⊥
    by (inl e) tail = true≢false (sym (place-is p adapter buffer from a b (sym e)) ∙ none.0)
    by (inr more) tail = tail (omega (arith, more))

outside-run : (r : Run) (p : Place) → IsNoneOf (Byte_at p) (map Byte_at (run_places r)) → is_in r p ≡ false
outside-run r p none = false_from_ne_true (is_in r p) inside
  where
    same : Bool
    same = (p.adapter == r.adapter) && (p.buffer == r.buffer)

    inside : is_in r p ≡ true → ⊥
    inside is = by (and_parts (same && nat_le r.offset p.offset) (nat_lt p.offset (r.offset + r.length)) is)
      where
        parts : (same ≡ true) × (nat_le r.offset p.offset ≡ true) → p.offset < r.offset + r.length → ⊥
        parts both lt = at (and_parts (p.adapter == r.adapter) (p.buffer == r.buffer) both.0)
          where
            at : ((p.adapter == r.adapter) ≡ true) × ((p.buffer == r.buffer) ≡ true) → ⊥
            at equal = none-outside p r.adapter r.buffer r.length r.offset
                (eqb-true p.adapter r.adapter equal.0) (eqb-true p.buffer r.buffer equal.1)
                (leb-true r.offset p.offset both.1) lt none

        by : ((same && nat_le r.offset p.offset) ≡ true) × (nat_lt p.offset (r.offset + r.length) ≡ true) → ⊥
        by both = parts (and_parts same (nat_le r.offset p.offset) both.0) (ltb-true p.offset (r.offset + r.length) both.1)

is-none-here : (n : Name) (xs ys : List Place) → IsNoneOf n (map Byte_at (xs ++ ys)) → IsNoneOf n (map Byte_at xs)
is-none-here n [] ys none = record {}
is-none-here n (x ∷ xs) ys none = (none.0, is-none-here n xs ys none.1)

is-none-there : (n : Name) (xs ys : List Place) → IsNoneOf n (map Byte_at (xs ++ ys)) → IsNoneOf n (map Byte_at ys)
is-none-there n [] ys none = none
is-none-there n (x ∷ xs) ys none = is-none-there n xs ys none.1

memory-leaves : (rs : List Run) (m : ByteMap) (bytes : List ℕ) (p : Place) → IsNoneOf (Byte_at p) (byte_names rs) → memory_after m rs bytes p ≡ m p
memory-leaves [] m bytes p none = refl
memory-leaves (r ∷ rs) m bytes p none =
    memory-leaves rs (λ q. if is_in r q then slice_index_or bytes (q.offset - r.offset) 0 else m q) (drop r.length bytes) p
    (is-none-there (Byte_at p) (run_places r) (places_of rs) none)
    ∙ other-choice (slice_index_or bytes (p.offset - r.offset) 0) (m p) (is_in r p)
    (outside-run r p (is-none-here (Byte_at p) (run_places r) (places_of rs) none))

write-leaves : (x : Write) (w : World) (n : Name) → IsNoneOf n (byte_names x.runs) → get (after_write x w) n ≡ get w n
write-leaves x w (Byte_at a) none = memory-leaves x.runs w.byte x.bytes a none
write-leaves x w n none = refl

writes-leave : (xs : List Write) (w : World) (n : Name) → IsNoneOf n (names_written xs) → get (write_all xs w) n ≡ get w n
writes-leave [] w n none = refl
writes-leave (x ∷ xs) w n none =
    writes-leave xs (after_write x w) n (is-none-right n (byte_names x.runs) (names_written xs) none)
    ∙ write-leaves x w n (is-none-left n (byte_names x.runs) (names_written xs) none)

-- an outcome leaves a thing as it was
abbrev LeavesAt : Name → World → Outcome → Type 0
LeavesAt n w (NotReady reason) = Unit {0}
LeavesAt n w (Did v ms) = get v n ≡ get w n

perform-leaves : (p : Plan) (w : World) (n : Name) → IsNoneOf n (touches w p) → LeavesAt n w (perform w p)
perform-leaves (Stuck reason) w n none = record {}
perform-leaves (Look m k) w n none = perform-leaves (k (get w m)) w n none.1
perform-leaves (Read runs k) w n none =
    perform-leaves (k (bytes_at w.byte runs)) w n (is-none-right n (byte_names runs) _ none)
perform-leaves (If true p q) w n none = perform-leaves p w n none
perform-leaves (If false p q) w n none = perform-leaves q w n none
perform-leaves (Finish changes writes marks) w n none =
    writes-leave writes (put_all changes w) n (is-none-right n (names_updated changes) (names_written writes) none)
    ∙ puts-leave changes w n (is-none-left n (names_updated changes) (names_written writes) none)

leaves-all : (names : List Name) (w : World) (o : Outcome) → ((n : Name) → IsNoneOf n names → LeavesAt n w o) → LeavesRest names w o
leaves-all names w (NotReady reason) leaves = record {}
leaves-all names w (Did v ms) leaves = leaves

pub event-leaves : (c : Configuration) (event : Event) (w : World) → LeavesRest (touches w (plan c event)) w (step c w event)
event-leaves c event w = leaves-all (touches w (plan c event)) w (step c w event) (perform-leaves (plan c event) w)

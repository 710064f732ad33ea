-- The bytes of buffers that are held, and a write to a run of one. For proofs only.
use Rattle.std.proofs.Common.{◌≡◌, ◌∙◌, refl, sym, ap, ap₂, arith, ℕ, zero, suc, ◌+◌, ◌-◌, ◌<◌, ◌≤◌, ◌==◌, ◌&&◌, nat_le, nat_lt, Bool, true, false, List, [], ◌∷◌, ◌++◌, map, Option, None, Some, is_some, length, slice_index_or, if◌then◌else◌, true≢false}
use Rattle.std.proofs.Math.Path.{fun_ext}
use Rattle.std.proofs.lemmas.Bool.{ltb-true}
use Rattle.std.proofs.lemmas.Bool.Decides.{nat_tests}
use Rattle.std.specs.List.{range_with_len}
use Rattle.std.specs.Option.{option_map_or}
use Rattle.ca_keys.specs.declared.place.Place.{Place}
use Rattle.ca_keys.specs.declared.place.Run.{Run}
use Rattle.ca_keys.specs.Memory.{bytes_at, is_in, memory_after}
use Rattle.ca_adapter_reach.specs.ca_memory.Buffer.{IsInside, IsWrittenAt, memory_of}
use Rattle.ca_qpstate.specs.ca_model.declared.part_name.PartName.{PartName}
use Rattle.ca_qpstate.specs.ca_model.declared.part_name.PartName.TheVariants as names
use Rattle.ca_qpstate.specs.ca_model.machine.Frame.{AllPass}
use Rattle.ca_qpstate.specs.ca_model.machine.World.{Name, Domain_of, Region_of, Window_of, Cq_of, Srq_of, Queue_of, Mailbox_of, Byte_at}
use Rattle.ca_adapter_reach.specs.Shelved.{has_thing, thing_under, with_thing}
use Rattle.ca_adapter_parts.specs.declared.held.Held.{Held}
use Rattle.ca_adapter_reach.specs.declared.reached.BufferId.{BufferId}
use Rattle.ca_adapter_parts.specs.HeldView.{IsRunHeld, holding, held_world, is_held_name, is_held_part, with_buffer, with_bytes}
use Rattle.ca_adapter_reach.specs.Laws.{has-with, thing-with}
use Rattle.ca_adapter_reach.specs.Names.{buffer_eq, buffer_of, buffer_of_run, buffer_path}

place_in : Run → ℕ → Place
place_in r at = record { adapter = r.adapter; buffer = r.buffer; offset = at }

-- the last of the places of a run passes what all of them pass
last-passes : (test : Name → Bool) (r : Run) (n from : ℕ) → AllPass test (map Byte_at (map (place_in r) (range_with_len from (suc n)) ++ []))
    → test (Byte_at (place_in r (from + n))) ≡ true
last-passes test r zero from all = let e : from + 0 ≡ from = omega arith in rw e all.0
last-passes test r (suc n) from all = let e : from + suc n ≡ (from + 1) + n = omega arith in rw e (last-passes test r n (from + 1) all.1)

-- a run of some bytes that is held lies in its buffer
inside : (h : Held) (r : Run) → 0 < r.length → IsRunHeld (holding h) r
    → option_map_or (λ bytes. nat_lt (r.offset + (r.length - 1)) (length bytes)) (thing_under buffer_eq (buffer_of_run r) h.reached.buffers.things) false ≡ true
unfolding holding place_in
inside h r some all = by r.length some all
  where
    by : (n : ℕ) → 0 < n → AllPass (is_held_name h) (map Byte_at (map (place_in r) (range_with_len r.offset n) ++ []))
        → option_map_or (λ bytes. nat_lt (r.offset + (n - 1)) (length bytes)) (thing_under buffer_eq (buffer_of_run r) h.reached.buffers.things) false ≡ true
    by zero some all = absurd (omega (arith, some))
    by (suc n) some all = let e : suc n - 1 ≡ n = omega arith in rw e (last-passes (is_held_name h) r n r.offset all)

pub run_has : (h : Held) (r : Run) → 0 < r.length → IsRunHeld (holding h) r → has_thing buffer_eq (buffer_of_run r) h.reached.buffers.things ≡ true
run_has h r some all = by (thing_under buffer_eq (buffer_of_run r) h.reached.buffers.things) (inside h r some all)
  where
    by : (o : Option (List ℕ)) → option_map_or (λ bytes. nat_lt (r.offset + (r.length - 1)) (length bytes)) o false ≡ true → is_some o ≡ true
    by None e = absurd (true≢false (sym e))
    by (Some bytes) e = refl

pub run_fits : (h : Held) (r : Run) (bytes : List ℕ) → 0 < r.length → IsRunHeld (holding h) r
    → Some bytes ≡ thing_under buffer_eq (buffer_of_run r) h.reached.buffers.things → IsInside r.offset r.length bytes
run_fits h r bytes some all is = by (ap (λ o. option_map_or (λ xs. nat_lt (r.offset + (r.length - 1)) (length xs)) o false) is ∙ inside h r some all)
  where
    by : nat_lt (r.offset + (r.length - 1)) (length bytes) ≡ true → r.offset + r.length ≤ length bytes
    by e = omega (arith, some, ltb-true (r.offset + (r.length - 1)) (length bytes) e)

-- a held buffer's bytes at a run are those of the small world
pub bytes_held : (h : Held) (r : Run) (bytes : List ℕ) → Some bytes ≡ thing_under buffer_eq (buffer_of_run r) h.reached.buffers.things
    → bytes_at (memory_of bytes) (r ∷ []) ≡ bytes_at (holding h).world.byte (r ∷ [])
unfolding holding place_in
bytes_held h r bytes is = each (range_with_len r.offset r.length)
  where
    each : (ns : List ℕ) → map (memory_of bytes) (map (place_in r) ns ++ []) ≡ map (held_world h).byte (map (place_in r) ns ++ [])
    each [] = refl
    each (n ∷ ns) = ap₂ (λ x xs. x ∷ xs) (ap (λ o. option_map_or (λ xs. memory_of xs (place_in r n)) o 0) is) (each ns)

-- a write to a run of a held buffer is one in the small world
pub put_bytes : (h : Held) (r : Run) (written old new : List ℕ) → Some old ≡ thing_under buffer_eq (buffer_of_run r) h.reached.buffers.things
    → IsWrittenAt r written old new → length new ≡ length old → holding (with_buffer h (buffer_of_run r) new) ≡ with_bytes (holding h) r written
unfolding holding with_buffer
put_bytes h r written old new is put same = λ i. record {
  world = record (held_world h) { byte = fun_ext (λ p. at p (buffer_eq (buffer_of_run r) (buffer_of p)) refl) i };
  has = fun_ext kept i;
  parts = fun_ext parts i;
}
  where
    parts : (p : PartName) → is_held_part (with_buffer h (buffer_of_run r) new) p ≡ is_held_part h p
    parts (names.Control m) = refl
    parts (names.Region m) = refl
    parts (names.Window m) = refl
    parts (names.Cq m) = refl
    parts (names.Srq m) = refl
    parts (names.Queue m) = refl
    parts (names.Mailbox m) = refl
    parts (names.Buffer a x) = has-with buffer_eq buffer_path h.reached.buffers.things (buffer_of_run r) (record { adapter = a; index = x }) new (sym (ap is_some is))

    things : (name : BufferId) → thing_under buffer_eq name (with_thing buffer_eq (buffer_of_run r) new h.reached.buffers.things)
        ≡ (if buffer_eq (buffer_of_run r) name then Some new else thing_under buffer_eq name h.reached.buffers.things)
    things name = thing-with buffer_eq buffer_path h.reached.buffers.things (buffer_of_run r) name new (sym (ap is_some is))

    here : (p : Place) → buffer_eq (buffer_of_run r) (buffer_of p) ≡ true → Some old ≡ thing_under buffer_eq (buffer_of p) h.reached.buffers.things
    here p e = is ∙ ap (λ b. thing_under buffer_eq b h.reached.buffers.things) (buffer_path (buffer_of_run r) (buffer_of p) e)

    outside : (p : Place) → buffer_eq (buffer_of_run r) (buffer_of p) ≡ false → is_in r p ≡ false
    outside p e = apart (r.adapter == p.adapter) refl e
      where
        apart : (b : Bool) → (r.adapter == p.adapter) ≡ b → (b && (r.buffer == p.buffer)) ≡ false → is_in r p ≡ false
        apart true is e = let buffers : (p.buffer == r.buffer) ≡ false = grind (arith, nat_tests, e) in rw buffers (no (p.adapter == r.adapter))
          where
            no : (b : Bool) → (b && false && nat_le r.offset p.offset && nat_lt p.offset (r.offset + r.length)) ≡ false
            no true = refl
            no false = refl
        apart false is e = let adapters : (p.adapter == r.adapter) ≡ false = grind (arith, nat_tests, is) in rw adapters refl

    at : (p : Place) (b : Bool) → buffer_eq (buffer_of_run r) (buffer_of p) ≡ b
        → option_map_or (λ xs. memory_of xs p) (thing_under buffer_eq (buffer_of p) (with_thing buffer_eq (buffer_of_run r) new h.reached.buffers.things)) 0
        ≡ memory_after (held_world h).byte (r ∷ []) written p
    at p true e = ap (λ o. option_map_or (λ xs. memory_of xs p) o 0) (things (buffer_of p) ∙ ap (λ b. if b then Some new else thing_under buffer_eq (buffer_of p) h.reached.buffers.things) e)
        ∙ put p (ap (λ b. b.adapter) (sym (buffer_path (buffer_of_run r) (buffer_of p) e))) (ap (λ b. b.index) (sym (buffer_path (buffer_of_run r) (buffer_of p) e)))
        ∙ ap (λ o. if is_in r p then slice_index_or written (p.offset - r.offset) 0 else option_map_or (λ xs. memory_of xs p) o 0) (here p e)
    at p false e = ap (λ o. option_map_or (λ xs. memory_of xs p) o 0) (things (buffer_of p) ∙ ap (λ b. if b then Some new else thing_under buffer_eq (buffer_of p) h.reached.buffers.things) e)
        ∙ sym (ap (λ b. if b then slice_index_or written (p.offset - r.offset) 0 else (held_world h).byte p) (outside p e))

    kept : (n : Name) → is_held_name (with_buffer h (buffer_of_run r) new) n ≡ is_held_name h n
    kept (Domain_of m) = refl
    kept (Region_of m) = refl
    kept (Window_of m) = refl
    kept (Cq_of m) = refl
    kept (Srq_of m) = refl
    kept (Queue_of m) = refl
    kept (Mailbox_of m) = refl
    kept (Byte_at p) = by (buffer_eq (buffer_of_run r) (buffer_of p)) refl
      where
        by : (b : Bool) → buffer_eq (buffer_of_run r) (buffer_of p) ≡ b
            → option_map_or (λ bytes. nat_lt p.offset (length bytes)) (thing_under buffer_eq (buffer_of p) (with_thing buffer_eq (buffer_of_run r) new h.reached.buffers.things)) false
            ≡ option_map_or (λ bytes. nat_lt p.offset (length bytes)) (thing_under buffer_eq (buffer_of p) h.reached.buffers.things) false
        by true e = ap (λ o. option_map_or (λ bytes. nat_lt p.offset (length bytes)) o false) (things (buffer_of p) ∙ ap (λ b. if b then Some new else thing_under buffer_eq (buffer_of p) h.reached.buffers.things) e)
            ∙ ap (nat_lt p.offset) same ∙ ap (λ o. option_map_or (λ bytes. nat_lt p.offset (length bytes)) o false) (here p e)
        by false e = ap (λ o. option_map_or (λ bytes. nat_lt p.offset (length bytes)) o false) (things (buffer_of p) ∙ ap (λ b. if b then Some new else thing_under buffer_eq (buffer_of p) h.reached.buffers.things) e)

pub ruleset reading = (run_has, run_fits, bytes_held)

pub ruleset writing = (run_has, run_fits, put_bytes)

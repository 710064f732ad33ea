-- The bytes of a buffer by places and by parts of its list: a read and a write are the same in both words.
use Rattle.std.proofs.Common.{◌≡◌, ℕ, ◌+◌, ◌<◌, ◌≤◌, List, [], ◌∷◌, length, take, drop, map, get_or, refl, sym, ◌∙◌, arith}
use Rattle.std.proofs.lemmas.List.{places, same_lists, append-nil, length-drop, get_or-take, get_or-drop, get_or_default, length-take-le}
use Rattle.std.proofs.lemmas.List.FromFn.{get_or-map-range_with_len, length-map-range_with_len}
use Rattle.std.proofs.lemmas.Simd.{map-map}
use Rattle.std.specs.List.{range_with_len}
use Rattle.ca_base.specs.ca_keys.declared.place.Run.{Run}
use Rattle.ca_base.specs.ca_keys.Memory.{bytes_at}
use Rattle.ca_memory.specs.Buffer.{memory_of, IsInside, bytes_after, bytes_from, IsWrittenAt}

-- numbers in a row, looked up in a list
looked-up : (bytes : List ℕ) (a n : ℕ) → a + n ≤ length bytes → map (λ i. get_or bytes i 0) (range_with_len a n) ≡ take n (drop a bytes)
looked-up bytes a n inside =
    let left : length (map (λ i. get_or bytes i 0) (range_with_len a n)) ≡ n = length-map-range_with_len (λ i. get_or bytes i 0) a n in
    let right : length (take n (drop a bytes)) ≡ n = length-take-le n (drop a bytes) (omega (arith, length-drop a bytes)) in
    same_lists _ _ (left ∙ sym right) (λ k d h.
    let below : k < n = omega arith in
    get_or-map-range_with_len (λ i. get_or bytes i 0) a n k (a + k) d below refl
    ∙ (get_or_default bytes (a + k) 0 d (omega arith) ∙ (sym (get_or-drop a bytes k d) ∙ sym (get_or-take n (drop a bytes) k d below))))

-- the bytes at the places of a run are a part of the list
pub read-places : (bytes : List ℕ) (at : Run) → IsInside at.offset at.length bytes → bytes_at (memory_of bytes) (at ∷ []) ≡ bytes_from at.offset at.length bytes
read-places bytes at inside =
    simp (append-nil, map-map) (looked-up bytes at.offset at.length inside)

-- a write into the list is a write to the places of a run
pub write-places : (bytes written new : List ℕ) (at : Run) (a : ℕ) → at.offset ≡ a → at.length ≡ length written → a + length written ≤ length bytes → new ≡ bytes_after a written bytes → IsWrittenAt at written bytes new
write-places bytes written new at a starts count inside is place same other = grind (arith, places)

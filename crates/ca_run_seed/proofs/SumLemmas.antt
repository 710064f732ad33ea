-- The sums of the bytes of buffers. For proofs only.
use Rattle.std.proofs.Common.{◌≡◌, ◌∙◌, refl, sym, ap, subst, ℕ, ◌+◌, ◌≤◌, List, [], ◌∷◌, ◌++◌, length, map, sum_by, slice_get, None, Some}
use Rattle.std.proofs.lemmas.List.{append-nil, map-append}
use Rattle.std.proofs.lemmas.List.Sums.{sum_by-append}
use Rattle.std.specs.List.{range_with_len}
use Rattle.std.specs.Option.{option_and_then, option_map_or}
use Rattle.ca_base.specs.Configuration.{Adapter, Configuration}
use Rattle.ca_base.specs.objects.Slices.{buffer_length}
use Rattle.ca_keys.specs.Memory.{ByteMap, bytes_at, run_places}
use Rattle.ca_keys.specs.declared.place.Place.{Place}
use Rattle.ca_keys.specs.declared.place.Run.{Run}
use Rattle.ca_run_seed.specs.Buffers.{HasTwoBuffers, IsBufferOf, sum_in}
use Rattle.ca_memory.specs.Buffer.{memory_of}
use Rattle.ca_model.specs.machine.Step.{bytes_of_buffer, run_of}
use Rattle.ca_model.specs.machine.World.{World}
use Rattle.ca_script_order.specs.Summary.{runs_from, runs_of_buffers}

-- ---- one buffer

same-bytes : (m n : ByteMap) (place : ℕ → Place) → ((at : ℕ) → m (place at) ≡ n (place at)) → (ats : List ℕ) → map m (map place ats ++ []) ≡ map n (map place ats ++ [])
same-bytes m n place same [] = refl
same-bytes m n place same (at ∷ ats) = λ i. same at i ∷ same-bytes m n place same ats i

-- the bytes that a buffer holds are the world's
pub whole-sum : (c k : Configuration) (w : World) (a b n : ℕ) (there read : List ℕ) → c ≡ k → buffer_length c a b ≡ Some n → IsBufferOf k w a b there → read ≡ bytes_at (memory_of there) (run_of a b 0 n ∷ [])
    → sum_by (λ byte. byte) read ≡ sum_in k w a b
whole-sum c k w a b n there read same long is bytes =
    ap (sum_by (λ byte. byte)) (bytes ∙ same-bytes (memory_of there) w.byte (λ at. record { adapter = a; buffer = b; offset = at }) is.same (range_with_len 0 n))
    ∙ ap (λ size. sum_by (λ byte. byte) (bytes_at w.byte (run_of a b 0 size ∷ []))) (sym (ap (λ o. option_map_or (λ n. n) o 0) (ap (λ x. buffer_length x a b) (sym same) ∙ long)))

-- where it is not configured there are none
pub no-sum : (c k : Configuration) (w : World) (a b : ℕ) → c ≡ k → buffer_length c a b ≡ None → 0 ≡ sum_in k w a b
no-sum c k w a b same none =
    ap (λ size. sum_by (λ byte. byte) (bytes_at w.byte (run_of a b 0 size ∷ []))) (sym (ap (λ o. option_map_or (λ n. n) o 0) (ap (λ x. buffer_length x a b) (sym same) ∙ none)))

pub is-long : (c : Configuration) (w : World) (a b n : ℕ) (there : List ℕ) → buffer_length c a b ≡ Some n → IsBufferOf c w a b there → n ≤ length there
is-long c w a b n there long is = subst (λ size. size ≤ length there) (ap (λ o. option_map_or (λ n. n) o 0) long) is.enough

-- ---- two buffers

both-sums : (m : ByteMap) (r s : Run) → sum_by (λ byte. byte) (bytes_at m (r ∷ s ∷ [])) ≡ sum_by (λ byte. byte) (bytes_at m (r ∷ [])) + sum_by (λ byte. byte) (bytes_at m (s ∷ []))
both-sums m r s =
    ap (sum_by (λ byte. byte)) (map-append m (run_places r) (run_places s ++ []))
    ∙ sum_by-append (λ byte. byte) (map m (run_places r)) (map m (run_places s ++ []))
    ∙ ap (λ places. sum_by (λ byte. byte) (map m places) + sum_by (λ byte. byte) (map m (run_places s ++ []))) (sym (append-nil (run_places r)))

pub two-sums : (c : Configuration) (w : World) → HasTwoBuffers c → sum_by (λ byte. byte) (bytes_at w.byte (runs_from 0 c.adapters)) ≡ sum_in c w 0 0 + sum_in c w 1 0
two-sums c w has =
    ap (λ runs. sum_by (λ byte. byte) (bytes_at w.byte runs)) (ap (runs_from 0) has.both ∙ ap (λ sizes. runs_of_buffers 0 0 sizes ++ (runs_of_buffers 1 0 sizes ++ [])) has.one)
    ∙ both-sums w.byte (run_of 0 0 0 has.size) (run_of 1 0 0 has.size)
    ∙ (λ i. at 0 (sym first i) + at 1 (sym second i))
  where
    at : ℕ → ℕ → ℕ
    at a size = sum_by (λ byte. byte) (bytes_at w.byte (run_of a 0 0 size ∷ []))

    sized : (o : List Adapter) (k : ℕ) → ℕ
    sized adapters k = option_map_or (λ n. n) (option_and_then (λ a. slice_get a.buffers 0) (slice_get adapters k)) 0

    first : bytes_of_buffer c 0 0 ≡ has.size
    first = ap (λ adapters. sized adapters 0) has.both ∙ ap (λ sizes. option_map_or (λ n. n) (slice_get sizes 0) 0) has.one

    second : bytes_of_buffer c 1 0 ≡ has.size
    second = ap (λ adapters. sized adapters 1) has.both ∙ ap (λ sizes. option_map_or (λ n. n) (slice_get sizes 0) 0) has.one

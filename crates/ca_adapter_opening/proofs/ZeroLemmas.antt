-- Contents of zeros: their sizes, and the memory that they make. For proofs only.
use Rattle.std.proofs.Common.{◌≡◌, ◌∙◌, refl, sym, ap, ℕ, zero, suc, ◌≤◌, List, [], ◌∷◌, ◌++◌, drop, get_or, length, map, replicate, slice_get}
use Rattle.std.proofs.lemmas.List.{append-nil, drop_all, length-replicate}
use Rattle.std.specs.Option.{option_map_or}
use Rattle.ca_base.specs.Configuration.{Configuration, adapter_of}
use Rattle.ca_base.specs.declared.config.AdapterConfig.{AdapterConfig}
use Rattle.ca_keys.specs.Memory.{zeros}
use Rattle.ca_adapter_opening.specs.Opening.{FitContents, buffer_lengths, buffers_before, opening_bytes}
use Rattle.ca_adapter_opening.specs.Zeros.{zeros_of}

zero-sizes : (sizes : List ℕ) → map length (zeros_of sizes) ≡ sizes
zero-sizes [] = refl
zero-sizes (n ∷ ns) = λ i. length-replicate {A = ℕ} n 0 i ∷ zero-sizes ns i

zero-byte : (size at : ℕ) → get_or (replicate {A = ℕ} size 0) at 0 ≡ 0
zero-byte zero at = refl
zero-byte (suc size) zero = refl
zero-byte (suc size) (suc at) = zero-byte size at

zero-place : (before buffer at : ℕ) (sizes : List ℕ) → option_map_or (λ bytes. get_or bytes at 0) (slice_get (drop before (zeros_of sizes)) buffer) 0 ≡ 0
zero-place zero buffer at [] = refl
zero-place (suc before) buffer at [] = refl
zero-place (suc before) buffer at (n ∷ ns) = zero-place before buffer at ns
zero-place zero zero at (n ∷ ns) = zero-byte n at
zero-place zero (suc buffer) at (n ∷ ns) = zero-place zero buffer at ns

-- the contents behind the last adapter
pub zeros_done : (now : List (List ℕ)) (index : ℕ) (adapters : List AdapterConfig) (all : List (List ℕ)) → length adapters ≤ index
    → now ++ zeros_of (buffer_lengths (map adapter_of (drop index adapters))) ≡ all → now ≡ all
zeros_done now index adapters all past is =
    sym (ap (λ xs. now ++ zeros_of (buffer_lengths (map adapter_of xs))) (drop_all index adapters past) ∙ append-nil now) ∙ is

module _ (c : Configuration) (contents : List (List ℕ)) (are : contents ≡ zeros_of (buffer_lengths c.adapters)) where
  pub zeros_fit : FitContents c contents
  zeros_fit = ap (map length) are ∙ zero-sizes (buffer_lengths c.adapters)

  pub zeros_open : opening_bytes c contents ≡ zeros
  zeros_open = ap (opening_bytes c) are
      ∙ (λ i place. zero-place (buffers_before c place.adapter) place.buffer place.offset (buffer_lengths c.adapters) i)

-- Contents that fit the adapters up to one, and those behind them that fit the others. For proofs only.
use Rattle.std.proofs.Common.{◌≡◌, ◌∙◌, sym, ap, ℕ, ◌+◌, ◌-◌, ◌<◌, List, ◌++◌, length, map, take, drop, get_or}
use Rattle.std.proofs.Math.Seq.{drop-append_seam}
use Rattle.std.proofs.lemmas.List.{at_drop_more, drop-map, take-append-drop, take_rest}
use Rattle.ca_base.specs.Configuration.{adapter_of}
use Rattle.ca_base.specs.declared.config.AdapterConfig.{AdapterConfig}
use Rattle.ca_adapter_opening.specs.Opening.{buffer_lengths}

-- the lengths of the buffers of these adapters
abbrev pub lengths_of : List AdapterConfig → List ℕ
lengths_of adapters = buffer_lengths (map adapter_of adapters)

-- a statement holds where the contents that are left fit the adapters that are left; so too one adapter later, whose
-- buffers have these sizes, which the contents begin with
pub fits-next : (W : Type 0) (all : List AdapterConfig) (n : ℕ) (a : AdapterConfig) (sizes : List ℕ) (rest : List (List ℕ)) → n < length all → a ≡ get_or all n a → sizes ≡ a.buffers.items
    → take (length sizes) (map length rest) ≡ sizes → (W → map length rest ≡ lengths_of (drop n all)) × (map length rest ≡ lengths_of (drop n all) → W)
    → (W → map length (take (length rest - length sizes) (drop (length sizes) rest)) ≡ lengths_of (drop (n + 1) all))
    × (map length (take (length rest - length sizes) (drop (length sizes) rest)) ≡ lengths_of (drop (n + 1) all) → W)
fits-next W all n a sizes rest less is same begins both = (on, back)
  where
    here : lengths_of (drop n all) ≡ sizes ++ lengths_of (drop (n + 1) all)
    here = at_drop_more lengths_of all n a less ∙ ap (λ (ys : List ℕ). ys ++ lengths_of (drop (n + 1) all)) (ap (λ (b : AdapterConfig). b.buffers.items) (sym is) ∙ sym same)

    left : map length (take (length rest - length sizes) (drop (length sizes) rest)) ≡ drop (length sizes) (map length rest)
    left = ap (map length) (take_rest rest (length sizes)) ∙ sym (drop-map length (length sizes) rest)

    on : W → map length (take (length rest - length sizes) (drop (length sizes) rest)) ≡ lengths_of (drop (n + 1) all)
    on w = left ∙ ap (drop (length sizes)) (both.0 w ∙ here) ∙ drop-append_seam sizes (lengths_of (drop (n + 1) all))

    back : map length (take (length rest - length sizes) (drop (length sizes) rest)) ≡ lengths_of (drop (n + 1) all) → W
    back e = both.1 (sym (take-append-drop (length sizes) (map length rest)) ∙ ap (λ xs. xs ++ drop (length sizes) (map length rest)) begins ∙ ap (λ xs. sizes ++ xs) (sym left ∙ e) ∙ sym here)

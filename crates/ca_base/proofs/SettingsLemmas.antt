-- One more adapter is copied.
use Rattle.std.proofs.Common.{◌≡◌, ℕ, ◌+◌, ◌<◌, List, [], ◌∷◌, ◌++◌, length, map, take, suc, get_or, sym, ap, add-one, arith, refl}
use Rattle.std.proofs.Math.ListN.{set}
use Rattle.std.proofs.Math.Seq.{take-suc, take-suc-set}
use Rattle.std.proofs.lemmas.List.{map-append, take_all}
use Rattle.ca_base.specs.declared.config.Config.{Config}
use Rattle.ca_base.specs.declared.config.AdapterConfig.{AdapterConfig}
use Rattle.ca_base.specs.declared.settings.AdapterSettings.{AdapterSettings}
use Rattle.ca_base.specs.Configuration.{Adapter, Configuration, adapter_in, adapter_of, configuration_in, configuration_of}

pub one_more_copied : (copies : List AdapterSettings) (cs : List AdapterConfig) (i : ℕ) (a : AdapterSettings) (c : AdapterConfig)
    → map adapter_in (take i copies) ≡ map adapter_of (take i cs) → i < length copies → i < length cs
    → c ≡ get_or cs i c → adapter_in a ≡ adapter_of c
    → map adapter_in (take (i + 1) (set copies i a)) ≡ map adapter_of (take (i + 1) cs)
one_more_copied copies cs i a c so_far within there is same =
    let inside : List Adapter → Adapter → List Adapter = λ xs x. xs ++ x ∷ [] in
    let left : map adapter_in (take (suc i) (set copies i a)) ≡ inside (map adapter_in (take i copies)) (adapter_in a) =
    rw (take-suc-set copies i a within, map-append) in
    let right : map adapter_of (take (suc i) cs) ≡ inside (map adapter_of (take i cs)) (adapter_of (get_or cs i c)) =
    rw (take-suc cs i c there, map-append) in
    let last : adapter_of (get_or cs i c) ≡ adapter_of c = ap adapter_of (sym is) in
    rw add-one cc

pub all_copied : (config : Config) (copies : List AdapterSettings) (cs : List AdapterConfig) (i : ℕ)
    → cs ≡ config.adapters.items → i ≡ length cs → map adapter_in (take i copies) ≡ map adapter_of (take i cs)
    → configuration_in (record { adapters = copies; adapter_count = length cs; events = config.events }) ≡ configuration_of config
all_copied config copies cs i are all same =
    let whole : take i cs ≡ cs = take_all i cs (omega arith) in
    let equal : map adapter_in (take (length cs) copies) ≡ map adapter_of config.adapters.items =
    rw (← all, same, whole, are) refl in
    ap (λ (xs : List Adapter). let c : Configuration = record { adapters = xs; events = config.events } in c) equal

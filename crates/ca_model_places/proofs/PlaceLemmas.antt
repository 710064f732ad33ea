-- The adapters before one that is configured. For proofs only.
use Rattle.std.proofs.Common.{◌≡◌, ◌∙◌, ap, arith, ℕ, ◌<◌, map, take}
use Rattle.std.proofs.lemmas.List.{take-map, take-take}
use Rattle.ca_base.specs.declared.settings.Settings.{Settings}
use Rattle.ca_base.specs.Configuration.{adapter_in, configuration_in}

pub adapters_before : (s : Settings) (n : ℕ) → n < s.adapter_count → take n (configuration_in s).adapters ≡ map adapter_in (take n s.adapters)
adapters_before s n within = take-map adapter_in n (take s.adapter_count s.adapters) ∙ ap (map adapter_in) (take-take n s.adapter_count s.adapters (omega (arith, within)))

-- Why a fabric is not started. Contracts cite it.
use Rattle.std.specs.Prelude.{◌≡◌, ◌<◌}
use Rattle.ca_adapter_opening.specs.Limits.{IsWithin}
use Rattle.ca_base.specs.Configuration.{Configuration, part_count}
use Rattle.ca_base.specs.declared.limits.TheConstants.{MAX_PARTS}
use Rattle.ca_verbs.specs.declared.start_error.StartError.{StartError}
use Rattle.ca_verbs.specs.declared.start_error.StartError.TheVariants as errors

-- why a fabric is not started; of want of memory nothing is said
abbrev pub IsCause : Configuration → StartError → Type 0
IsCause c errors.BadConfig = ¬ IsWithin c
IsCause c (errors.TooManyParts n) = IsWithin c × (n ≡ part_count c) × (MAX_PARTS < n)
IsCause c errors.Memory = Unit {0}

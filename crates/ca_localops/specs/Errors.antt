-- Why a local operation fails. Contracts cite it.
use Rattle.std.specs.Prelude.{◌≡◌, Option, None, Some}
use Rattle.ca_base.specs.declared.refusals.OpRefusal.{OpRefusal}
use Rattle.ca_base.specs.declared.refusals.OpRefusal.TheVariants.{Region}
use Rattle.ca_base.specs.declared.refusals.RegistrationError.{RegistrationError}
use Rattle.ca_base.specs.declared.refusals.RegistrationError.TheVariants as registrations
use Rattle.ca_localops.specs.declared.marks.OpError.{OpError}
use Rattle.ca_localops.specs.declared.marks.OpError.TheVariants.{Refused, Memory}

-- the error is the first refusal that applies, and out of memory comes only where none does
abbrev pub FailsBy : Option OpRefusal → OpError → Type 0
FailsBy first Memory = first ≡ None
FailsBy first (Refused refusal) = first ≡ Some refusal

-- a registration's error as that of a local operation; out of memory stays an answer of its own
abbrev pub error_of_registration : RegistrationError → OpError
error_of_registration (registrations.Refused error) = Refused (Region error)
error_of_registration registrations.Memory = Memory

-- The grants in force, the latest last. Contracts of the crate's own functions cite it.
use Rattle.std.specs.Prelude.{◌≡◌, List, reverse}
use Rattle.ca_keys.specs.declared.grant.Grant.{Grant}
use Rattle.ca_model.specs.Past.{Past}

-- these are the grants in force after a past, the latest last
abbrev pub AreInForce : List Grant → Past → Type 0
AreInForce grants past = past.grants ≡ reverse grants

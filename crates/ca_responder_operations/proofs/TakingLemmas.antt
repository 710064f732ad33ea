-- How a row ends whose asks are allowed, and what is taken as it ends.
use Rattle.std.proofs.Common.{◌≡◌, map, refl, None}
use Rattle.std.specs.Option.{option_and_then}
use Rattle.ca_base.specs.Sight.{Sight, bytes_in, first_denied}
use Rattle.ca_model.specs.machine.Row.{Row, ending_of}
use Rattle.ca_responder_operations.specs.Taking.{ended_by, unless_refused}

pub ending-allowed : (s : Sight) (row : Row) → first_denied s row.asks ≡ None
    → ending_of s row ≡ row.allowed (map (bytes_in s) row.asks) (option_and_then s.refusal row.invalidation)
ending-allowed s row e = rw e refl

pub ended-allowed : (s : Sight) (row : Row) → first_denied s row.asks ≡ None → ended_by s row ≡ unless_refused s row.invalidation
ended-allowed s row e = rw e refl

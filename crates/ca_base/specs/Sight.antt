-- Sight: what an adapter sees of keys and memory at one moment. Rows of an engine meet both through it alone. Contracts
-- cite it.
use Rattle.std.specs.Prelude.{ℕ, ◌<◌, ◌≤◌, ◌==◌, if◌then◌else◌, List, [], ◌∷◌, Option, None, Some}
use Rattle.std.specs.Option.{option_map_or}
use Rattle.ca_keys.specs.declared.access.Ask.{Ask}
use Rattle.ca_keys.specs.declared.access.Denial.{Denial}
use Rattle.ca_keys.specs.declared.grant.Grant.{Grant}
use Rattle.ca_keys.specs.declared.key.Key.{Key}
use Rattle.ca_keys.specs.declared.names.DomainId.{DomainId}
use Rattle.ca_keys.specs.declared.names.QueueId.{QueueId}
use Rattle.ca_base.specs.declared.denied_ask.DeniedAsk.{DeniedAsk}
use Rattle.ca_keys.specs.declared.place.Run.{Run}
use Rattle.ca_base.specs.declared.refusals.OpRefusal.{OpRefusal}
use Rattle.ca_keys.specs.Allowed.{denial_under}
use Rattle.ca_keys.specs.Memory.{ByteMap, bytes_at, runs_at}

-- a key that a queue pair of a domain wants to end
pub record Invalidation : Type 0 where
  pub queue : QueueId
  pub domain : DomainId
  pub key : Key

-- for each ask the grant that it goes by, for each place its byte, and for each invalidation why it is refused
pub record Sight : Type 0 where
  pub grant : Ask → Option Grant
  pub byte : ByteMap
  pub refusal : Invalidation → Option OpRefusal

-- the part that fails for an ask which goes by this grant; an access of no bytes is allowed
abbrev pub denial_by_grant : Ask → Option Grant → Option Denial
denial_by_grant ask g = if ask.length == 0 then None else denial_under ask g

-- the runs that the bytes which an ask touches have in this grant
abbrev pub runs_by_grant : Ask → Option Grant → List Run
runs_by_grant ask g = option_map_or (λ g. runs_at g ask.address ask.touch) g []

-- the first part that fails for an ask
abbrev pub denial_in : Sight → Ask → Option Denial
denial_in s ask = denial_by_grant ask (s.grant ask)

-- where the bytes lie that an ask touches
abbrev pub runs_in : Sight → Ask → List Run
runs_in s ask = runs_by_grant ask (s.grant ask)

-- the bytes that an ask touches
abbrev pub bytes_in : Sight → Ask → List ℕ
bytes_in s ask = bytes_at s.byte (runs_in s ask)

-- this ask is denied so, or else what stands
abbrev pub or_denied : Ask → Option Denial → Option DeniedAsk → Option DeniedAsk
or_denied ask None rest = rest
or_denied ask (Some denial) rest = Some (record { ask = ask; denial = denial })

-- the first ask that is denied
abbrev pub first_denied : Sight → List Ask → Option DeniedAsk
first_denied s [] = None
first_denied s (ask ∷ asks) = or_denied ask (denial_in s ask) (first_denied s asks)

-- an ask touches at least one byte, and no more than it is judged for
abbrev pub IsTouching : Ask → Type 0
IsTouching ask = (0 < ask.touch) × (ask.touch ≤ ask.length)

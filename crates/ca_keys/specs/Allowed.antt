-- Allowed: which access a list of grants in force allows, and which part fails first where it allows none. Contracts
-- cite it. Sums are whole numbers that never wrap.
use Rattle.std.specs.Prelude.{◌≡◌, Bool, true, false, ◌&&◌, ◌||◌, not, nat_le, ◌==◌, ◌+◌, if◌then◌else◌, List, [], ◌∷◌, Option, None, Some}
use Rattle.ca_keys.specs.declared.access.Ask.{Ask}
use Rattle.ca_keys.specs.declared.access.Denial.{Denial}
use Rattle.ca_keys.specs.declared.access.Denial.TheVariants.{NoGrant, WrongQueue, NoRight, OutOfRange}
use Rattle.ca_keys.specs.declared.access.KeyUse.{KeyUse}
use Rattle.ca_keys.specs.declared.access.KeyUse.TheVariants.{LKey, RKey}
use Rattle.ca_keys.specs.declared.access.Kind.{Kind}
use Rattle.ca_keys.specs.declared.access.Kind.TheVariants as kinds
use Rattle.ca_keys.specs.declared.grant.Grant.{Grant}
use Rattle.ca_keys.specs.declared.names.QueueId.{QueueId}
use Rattle.ca_keys.specs.declared.rights.Rights.{Rights}
use Rattle.ca_keys.specs.Equal.{key_eq, domain_eq, queue_eq}
use Rattle.ca_keys.specs.Refusals.{first_of}

-- which key an ask comes by, by its flag
abbrev pub key_use : Bool → KeyUse
key_use true = LKey
key_use false = RKey

-- part 1: the grant has this key and this domain, and may be used as an L_Key where one is asked
abbrev pub fits : Ask → Grant → Bool
fits ask g = key_eq g.key ask.key && domain_eq g.domain ask.domain && (not ask.local || g.local)

-- part 2: the grant names no queue pair, or this one
abbrev pub serves : Option QueueId → QueueId → Bool
serves None queue = true
serves (Some named) queue = queue_eq named queue

-- part 3: the right that an access of this kind needs, by an L_Key or by an R_Key; no L_Key is used for an atomic
abbrev pub suffice : Rights → KeyUse → Kind → Bool
suffice rights RKey kinds.Read = rights.remote_read
suffice rights RKey kinds.Write = rights.remote_write
suffice rights RKey kinds.CmpSwap = rights.remote_atomic
suffice rights RKey kinds.FetchAdd = rights.remote_atomic
suffice rights LKey kinds.Read = true
suffice rights LKey kinds.Write = rights.local_write
suffice rights LKey kinds.CmpSwap = false
suffice rights LKey kinds.FetchAdd = false

-- part 4: all addresses that are asked for are the grant's
abbrev pub covers : Grant → Ask → Bool
covers g ask = nat_le g.address ask.address && nat_le (ask.address + ask.length) (g.address + g.length)

-- parts 2 to 4, in order
abbrev pub denials : Ask → Grant → List (Bool × Denial)
denials ask g =
    (not (serves g.queue ask.queue), WrongQueue)
    ∷ (not (suffice g.rights (key_use ask.local) ask.kind), NoRight)
    ∷ (not (covers g ask), OutOfRange)
    ∷ []

-- the first of parts 2 to 4 that fails
abbrev pub denial_by : Ask → Grant → Option Denial
denial_by ask g = first_of (denials ask g)

-- the grant that an ask goes by: of the grants in force, the latest first, the first that passes part 1
abbrev pub grant_for : Ask → List Grant → Option Grant
grant_for ask [] = None
grant_for ask (g ∷ grants) = if fits ask g then Some g else grant_for ask grants

-- the first part that fails under the grant that the ask goes by
abbrev pub denial_under : Ask → Option Grant → Option Denial
denial_under ask None = Some NoGrant
denial_under ask (Some g) = denial_by ask g

-- The first part that fails, over the grants in force, the latest first. An access of no bytes is allowed.
abbrev pub denial_of : Ask → List Grant → Option Denial
denial_of ask grants = if ask.length == 0 then None else denial_under ask (grant_for ask grants)

-- no part fails
abbrev pub IsAllowed : Ask → List Grant → Type 0
IsAllowed ask grants = denial_of ask grants ≡ None

-- What an engine reaches: which asks may be handed on, what was found of an ask, and what an access, a write and the end of
-- a key make of what is seen. Contracts cite it.
use Rattle.std.specs.Prelude.{◌≡◌, ℕ, ◌%◌, ◌≤◌, ◌==◌, ◌&&◌, Bool, if◌then◌else◌, List, Option, None}
use Rattle.std.specs.List.{AllByRecursion}
use Rattle.ca_keys.specs.declared.access.Ask.{Ask}
use Rattle.ca_keys.specs.declared.access.AtomicOp.{AtomicOp}
use Rattle.ca_keys.specs.declared.access.AtomicOp.TheVariants as operations
use Rattle.ca_keys.specs.declared.access.Kind.{Kind}
use Rattle.ca_keys.specs.declared.access.Kind.TheVariants as kinds
use Rattle.ca_keys.specs.declared.grant.Grant.{Grant}
use Rattle.ca_keys.specs.declared.key.Key.{Key}
use Rattle.ca_keys.specs.declared.place.Span.{Span}
use Rattle.ca_base.specs.declared.limits.TheConstants.{ATOMIC_BYTES, MAX_PAYLOAD_BYTES}
use Rattle.ca_keys.specs.declared.names.QueueId.{QueueId}
use Rattle.ca_keys.specs.Equal.{key_eq}
use Rattle.ca_keys.specs.Memory.{memory_after, places_count}
use Rattle.ca_keys.specs.Numbers.{domain_of}
use Rattle.ca_base.specs.Sight.{Sight, Invalidation, IsTouching, denial_in, first_denied, runs_in}
use Rattle.ca_region.specs.Span.{runs_of_span}

-- a list of asks that may be handed on: the parts of their keys are at hand, and where none is denied their bytes too
pub record AreAtHand {S : Type 0} (sight : S → Sight) (judges touches : S → Ask → Type 0) (reach : S) (asks : List Ask) : Type 0 where
  pub keys : AllByRecursion (judges reach) asks
  pub bytes : first_denied (sight reach) asks ≡ None → AllByRecursion (touches reach) asks

-- an ask touches at least one byte, no more than it is judged for, and no more than a packet carries
abbrev pub IsPacketAsk : Ask → Type 0
IsPacketAsk ask = IsTouching ask × (ask.touch ≤ MAX_PAYLOAD_BYTES)

-- the kind of access that an atomic is
abbrev pub kind_of : AtomicOp → Kind
kind_of (operations.CmpSwap compare swap) = kinds.CmpSwap
kind_of (operations.FetchAdd add) = kinds.FetchAdd

-- an ask for the eight bytes of an atomic of its kind, at an address that is a multiple of eight
pub record IsAtomicAsk (ask : Ask) (op : AtomicOp) : Type 0 where
  pub kind : ask.kind ≡ kind_of op
  pub length : ask.length ≡ ATOMIC_BYTES
  pub touch : ask.touch ≡ ATOMIC_BYTES
  pub aligned : ask.address % ATOMIC_BYTES ≡ 0

-- this was found of an ask: it is allowed, and these are the places of the bytes that it touches, as many as it touches;
-- a number at an address that is a multiple of eight lies in one run
pub record IsFound (sight : Sight) (ask : Ask) (span : Span) : Type 0 where
  pub allowed : denial_in sight ask ≡ None
  pub places : runs_of_span span ≡ runs_in sight ask
  pub count : places_count (runs_of_span span) ≡ ask.touch
  pub whole : ask.address % ATOMIC_BYTES ≡ 0 → ask.touch ≤ ATOMIC_BYTES → span.second ≡ None

-- a queue pair of the key's domain wants to end it
abbrev pub invalidation_by : Key → QueueId → Invalidation
invalidation_by key queue = record { queue = queue; domain = domain_of queue; key = key }

-- what is seen after these bytes were written to the places that an ask touches
abbrev pub sight_after_write : Sight → Ask → List ℕ → Sight
sight_after_write s ask bytes = record s { byte = memory_after s.byte (runs_in s ask) bytes }

-- an ask is by the key that ends, at its adapter
abbrev pub is_by_key : Invalidation → Ask → Bool
is_by_key i ask = (ask.domain.adapter == i.domain.adapter) && key_eq ask.key i.key

-- the grants that asks go by, after the key ended
abbrev pub grants_without : Invalidation → (Ask → Option Grant) → Ask → Option Grant
grants_without i grant ask = if is_by_key i ask then None else grant ask

-- What the small engine does with asks, and a key that is to end. Contracts cite it.
use Rattle.std.specs.Prelude.{◌≡◌, ℕ, ◌+◌, List, [], ◌∷◌, ◌++◌, Option, None, Some}
use Rattle.std.specs.Option.{option_map}
use Rattle.ca_keys.specs.declared.access.Ask.{Ask}
use Rattle.ca_keys.specs.declared.access.Denial.{Denial}
use Rattle.ca_keys.specs.declared.access.Kind.TheVariants as kinds
use Rattle.ca_base.specs.declared.queue_numbers.WindowCount.{WindowCount}
use Rattle.ca_base.specs.declared.refusals.OpRefusal.{OpRefusal}
use Rattle.ca_base.specs.Sight.{Sight, Invalidation, denial_in, bytes_in, first_denied}
use Rattle.ca_base.specs.objects.Window.{count_without}
use Rattle.ca_grant.specs.Reaching.{IsPacketAsk}
use Rattle.test_fixture_reach.specs.declared.engine.Outcome.{Outcome}
use Rattle.test_fixture_reach.specs.declared.engine.Outcome.TheVariants.{Denied, Refused, Done}

-- the first part that fails for the first ask that is denied
abbrev pub first_denial_in : Sight → List Ask → Option Denial
first_denial_in s asks = option_map (λ d. d.denial) (first_denied s asks)

-- the first of two
abbrev pub first_some : {A : Type 0} → Option A → Option A → Option A
first_some (Some a) b = Some a
first_some None b = b

-- the ask is allowed
abbrev pub IsGranted : Sight → Ask → Type 0
IsGranted s ask = denial_in s ask ≡ None

-- an ask to read
abbrev pub IsReadAsk : Ask → Type 0
IsReadAsk ask = IsPacketAsk ask × (ask.kind ≡ kinds.Read)

-- the bytes that asks touch, one after another
abbrev pub all_bytes_in : Sight → List Ask → List ℕ
all_bytes_in s [] = []
all_bytes_in s (ask ∷ asks) = bytes_in s ask ++ all_bytes_in s asks

-- how many bytes asks touch
abbrev pub touched_by : List Ask → ℕ
touched_by [] = 0
touched_by (ask ∷ asks) = ask.touch + touched_by asks

-- what is reached, and how many windows are bound to the queue pair
pub record Around (S : Type 0) : Type 0 where
  pub reach : S
  pub windows : WindowCount

-- a key's end, which was refused or not
abbrev pub IsEnded : {S : Type 0} → (S → Invalidation → S) → Invalidation → Option OpRefusal → Around S → Outcome → Around S → Type 0
IsEnded revoked i (Some refusal) before outcome after = (outcome ≡ Refused refusal) × (after ≡ before)
IsEnded revoked i None before outcome after =
    (outcome ≡ Done) × (after ≡ record { reach = revoked before.reach i; windows = count_without i.key before.windows })

-- a turn: where an ask is denied it changes nothing; else it writes what it reads, and then ends the key
abbrev pub IsTurn : {S : Type 0} → (S → Invalidation → S) → Invalidation → Option Denial → Option OpRefusal → Around S → S → Outcome → Around S → Type 0
IsTurn revoked i (Some denial) refusal before wrote outcome after = (outcome ≡ Denied denial) × (after ≡ before)
IsTurn revoked i None refusal before wrote outcome after =
    IsEnded revoked i refusal (record { reach = wrote; windows = before.windows }) outcome after

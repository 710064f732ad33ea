-- What an atomic finds and leaves at its responder. Contracts cite it.
use Rattle.std.specs.Prelude.{◌≡◌, ℕ, ◌%◌, None}
use Rattle.std.specs.Option.{option_map_or}
use Rattle.ca_keys.specs.declared.access.Ask.{Ask}
use Rattle.ca_keys.specs.declared.access.Kind.{Kind}
use Rattle.ca_keys.specs.declared.verdict.Verdict.{Verdict}
use Rattle.ca_keys.specs.declared.verdict.Verdict.TheVariants as verdicts
use Rattle.ca_base.specs.declared.limits.TheConstants.{ATOMIC_BYTES}
use Rattle.ca_base.specs.Sight.{Sight, denial_in}
use Rattle.ca_wire.specs.declared.atomic_eth.AtomicEth.{AtomicEth}
use Rattle.ca_model.specs.Packets.{number_put}
use Rattle.ca_wire.specs.Shapes.{IsAtomicKind}

-- an ask for the eight bytes of an atomic, at an address that is a multiple of eight, which is allowed and at hand
pub record IsAtomicRequest {S : Type 0} (sight : S → Sight) (judges touches : S → Ask → Type 0) (reach : S) (ask : Ask) : Type 0 where
  pub atomic : IsAtomicKind ask.kind
  pub length : ask.length ≡ ATOMIC_BYTES
  pub touch : ask.touch ≡ ATOMIC_BYTES
  pub aligned : ask.address % ATOMIC_BYTES ≡ 0
  pub key : judges reach ask
  pub bytes : touches reach ask
  pub allowed : denial_in (sight reach) ask ≡ None

-- the number that an atomic leaves where it found this one
abbrev pub number_left : Kind → AtomicEth → ℕ → ℕ
number_left kind a found = option_map_or (λ n. n) (number_put kind a found) 0

-- the number that an atomic found
abbrev pub number_found : Verdict → ℕ
number_found (verdicts.Read bytes) = 0
number_found (verdicts.Wrote bytes) = 0
number_found (verdicts.Swapped found put) = found
number_found (verdicts.Denied denial) = 0

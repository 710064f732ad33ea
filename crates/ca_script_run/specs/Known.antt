-- The turns of a round that are known to be in vain, by their places in it. Contracts of the crate's own functions cite it.
use Rattle.std.specs.Prelude.{◌≡◌, ℕ, zero, suc, ◌+◌, ◌-◌, ◌*◌, ◌/◌, ◌%◌, ◌<◌, ◌≤◌, Bool, true, false, List, [], replicate, slice_get, Option, None, Some, unwrap_or}
use Rattle.std.specs.Option.{option_map_or}
use Rattle.ca_base.specs.Configuration.{Configuration}
use Rattle.ca_base.specs.declared.limits.TheConstants.{MAX_DOMAINS}
use Rattle.ca_engine.specs.Engine.{EngineValue, engine_after, engine_after_all, offer_of}
use Rattle.ca_engine.specs.declared.offer.Offer.{Offer}
use Rattle.ca_engine.specs.declared.offer.Offer.TheVariants as offers
use Rattle.ca_engine.specs.declared.outcome.Outcome.TheVariants as outcomes
use Rattle.ca_keys.specs.declared.names.QueueId.{QueueId}
use Rattle.ca_model.specs.declared.part_name.PartName.{PartName}
use Rattle.ca_model.specs.declared.part_name.PartName.TheVariants as names
use Rattle.ca_model.specs.machine.Parts.{is_held}
use Rattle.ca_model.specs.machine.World.{World}
use Rattle.ca_adapter_store.specs.Rows.{IsRowOf}
use Rattle.ca_adapter_store.specs.declared.row.Row.{Row}
use Rattle.ca_script_run.specs.Vain.{IsIdle}
use Rattle.ca_script_run.specs.declared.known.Known.{Known}
use Rattle.ca_script_run.specs.declared.known.TheConstants.{BLOCK}
use Rattle.ca_base.specs.declared.step.Turn.{Turn}
use Rattle.ca_base.specs.declared.step.Turn.TheVariants as turns

-- ---- places

-- where the first turn of a queue pair stands in a round, by where those of each domain begin
abbrev pub start_of : List ℕ → QueueId → ℕ
start_of starts q =
    option_map_or (λ start. start + 3 * (q.number % 256)) (slice_get starts (q.adapter * MAX_DOMAINS + (q.number / 256 - 1))) 0

-- where a turn stands in a round, if it does
abbrev pub place_of_turn : List ℕ → Turn → Option ℕ
place_of_turn starts (turns.Due q) = Some (start_of starts q)
place_of_turn starts (turns.Respond q) = Some (start_of starts q + 1)
place_of_turn starts (turns.Request q) = Some (start_of starts q + 2)
place_of_turn starts turn = None

-- the part by which it is seen that a turn is in vain
abbrev pub part_of_turn : Turn → PartName
part_of_turn (turns.Due q) = names.Mailbox q
part_of_turn (turns.Deliver q index) = names.Mailbox q
part_of_turn (turns.Respond q) = names.Queue q
part_of_turn (turns.Request q) = names.Queue q
part_of_turn (turns.Timeout q) = names.Queue q
part_of_turn (turns.RnrWake q) = names.Queue q

-- a flag stands at a place and is set
abbrev pub is_set : List Bool → ℕ → Bool
is_set flags place = unwrap_or (slice_get flags place) false

-- this is offered at a place of a round, if one is given
abbrev pub IsOfferedAt : List Offer → Option ℕ → Offer → Type 0
IsOfferedAt round None offer = Unit {0}
IsOfferedAt round (Some place) offer = slice_get round place ≡ Some offer

-- ---- what is known

-- At a place of a round stands a turn that is in vain in a world. Where its part is not among these, it is not among all.
pub record IsLeft (starts : List ℕ) (round : List Offer) (w : World) (rest all : List PartName) (place : ℕ) : Type 0 where
  pub turn : Turn
  pub offered : slice_get round place ≡ Some (offers.Turn turn)
  pub placed : place_of_turn starts turn ≡ Some place
  pub idle : IsIdle w turn
  pub apart : is_held rest (part_of_turn turn) ≡ false → is_held all (part_of_turn turn) ≡ false

-- so it is at each place that has a flag, or that lies in a block that has one
pub record AreLeft (round : List Offer) (w : World) (rest all : List PartName) (k : Known) : Type 0 where
  pub each : (place : ℕ) → is_set k.offers.items place ≡ true → IsLeft k.starts.items round w rest all place
  pub blocks : (place : ℕ) → is_set k.blocks.items (place / BLOCK) ≡ true → IsLeft k.starts.items round w rest all place

-- each turn that is known to be in vain is so
abbrev pub AreKnown : List Offer → World → Known → Type 0
AreKnown round w k = AreLeft round w [] [] k

-- so are those at the places from one to another
abbrev pub AreKnownFrom : List ℕ → List Offer → World → ℕ → ℕ → Type 0
AreKnownFrom starts round w from upto = (place : ℕ) → from ≤ place → place < upto → IsLeft starts round w [] [] place

-- what is known of the places from one to another was noted, and no more
pub record ComesTo (from upto : ℕ) (old new : Known) : Type 0 where
  pub starts : new.starts ≡ old.starts
  pub within : from ≤ upto
  pub known : (round : List Offer) (w : World) → AreKnown round w old → AreKnown round w new
  pub between : (round : List Offer) (w : World) → AreKnown round w old → AreKnownFrom old.starts.items round w from upto

-- nothing more is known, and nothing of this place
pub record Forgets (place : ℕ) (old new : Known) : Type 0 where
  pub starts : new.starts ≡ old.starts
  pub each : (n : ℕ) → is_set new.offers.items n ≡ true → (is_set old.offers.items n ≡ true) × (n ≡ place → ⊥)
  pub blocks : (n : ℕ) → is_set new.blocks.items (n / BLOCK) ≡ true → (is_set old.blocks.items (n / BLOCK) ≡ true) × (n ≡ place → ⊥)

-- what is known stays true where one row becomes another
abbrev pub KeepsKnown : List Offer → Row → Row → Known → Known → Type 0
KeepsKnown round old new k l = (c : Configuration) (w v : World) → IsRowOf c w old → IsRowOf c v new → AreKnown round w k → AreKnown round v l

-- ---- passing over

-- a turn is offered that is in vain in a world
abbrev pub IsVainOffer : World → Offer → Type 0
IsVainOffer w (offers.Consumer k) = ⊥
IsVainOffer w (offers.Turn turn) = IsIdle w turn
IsVainOffer w offers.Quiet = ⊥

-- so are as many offers, each of which is told to be not ready at this clock
abbrev pub AreVain : World → ℕ → ℕ → EngineValue → Type 0
AreVain w now zero e = Unit {0}
AreVain w now (suc n) e = IsVainOffer w (offer_of e) × AreVain w now n (engine_after e (outcomes.NotReady now))

-- an engine goes past offers of turns in vain
pub record PassesOver (w : World) (now : ℕ) (e f : EngineValue) : Type 0 where
  pub count : ℕ
  pub vain : AreVain w now count e
  pub engine : f ≡ engine_after_all e (replicate count (outcomes.NotReady now))

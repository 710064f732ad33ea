-- Lists of asks: the first and those behind it, and which may be judged.
use Rattle.std.proofs.Common.{◌≡◌, ◌≤◌, ◌-◌, ℕ, List, [], ◌∷◌, get_or, length, drop, take, arith, sym, ap, subst, ◌∙◌}
use Rattle.std.proofs.Math.Seq.{take-length}
use Rattle.std.specs.List.{AllByRecursion}
use Rattle.ca_keys.specs.declared.access.Ask.{Ask}
use Rattle.ca_keys.specs.declared.access.Kind.{Kind}
use Rattle.ca_grant.specs.Reaching.{IsPacketAsk}
use Rattle.ca_qp_rows.specs.Asks.{AreAsksFor, CanJudge, IsAskOf}

-- what stands behind the first of some asks
pub behind-first : (ask : Ask) (asks : List Ask) → take (length (ask ∷ asks) - 1) (drop 1 (ask ∷ asks)) ≡ asks
behind-first ask asks =
    let count : length (ask ∷ asks) - 1 ≡ length asks = omega arith in
    ap (λ (n : ℕ). take n asks) count ∙ take-length asks

-- some asks are the first and those behind it
pub whole : (d : Ask) (asks : List Ask) → 1 ≤ length asks → get_or asks 0 d ∷ take (length asks - 1) (drop 1 asks) ≡ asks
whole d [] some = grind (arith, some)
whole d (ask ∷ asks) some = ap (λ (xs : List Ask). ask ∷ xs) (behind-first ask asks)

-- asks that may be handed on may be judged
packet-asks : (kind : Kind) (asks : List Ask) → AllByRecursion (IsAskOf kind) asks → AllByRecursion IsPacketAsk asks
packet-asks kind [] all = tt
packet-asks kind (ask ∷ asks) all = (all.0.0, packet-asks kind asks all.1)

pub can-judge : {S : Type 0} (judges : S → Ask → Type 0) (reach : S) (kind : Kind) (most : ℕ) (asks : List Ask)
    → AllByRecursion (judges reach) asks → AreAsksFor kind most asks → CanJudge judges reach asks
can-judge judges reach kind most asks keys are = record { keys = keys; packet = packet-asks kind asks are.each }

-- those behind the first may be judged
pub judge-behind : {S : Type 0} (judges : S → Ask → Type 0) (reach : S) (asks : List Ask) → CanJudge judges reach asks
    → CanJudge judges reach (take (length asks - 1) (drop 1 asks))
judge-behind judges reach [] can = record { keys = record {}; packet = record {} }
judge-behind judges reach (ask ∷ asks) can =
    subst (λ (xs : List Ask). CanJudge judges reach xs) (sym (behind-first ask asks)) (record { keys = can.keys.1; packet = can.packet.1 })

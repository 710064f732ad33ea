use Rattle.std.proofs.Common.{◌≡◌, drop}
use Rattle.std.specs.List.{AllByRecursion}
use Rattle.ca_base.specs.Sight.{first_denied}
use Rattle.ca_grant.specs.Reaching.{IsPacketAsk}
use Rattle.ca_qp_rows.specs.Asks.{IsGranted}
use Rattle.ca_qp_rows.proofs.asks.first_denied.Given as goal

-- the first that is denied is among the asks to come, and where none of these is denied, none is
abbrev pub invariant-loop-ask : goal.invariant-loop-ask
invariant-loop-ask g l =
    (first_denied (g.R.Reach.sight l.reach) (drop l.ask-index l.asks) ≡ first_denied (g.R.Reach.sight l.reach) l.asks)
    × (AllByRecursion (g.R.Reach.judges l.reach) (drop l.ask-index l.asks)
    × (AllByRecursion IsPacketAsk (drop l.ask-index l.asks)
    × (AllByRecursion (IsGranted (g.R.Reach.sight l.reach)) (drop l.ask-index l.asks) → AllByRecursion (IsGranted (g.R.Reach.sight l.reach)) l.asks)))

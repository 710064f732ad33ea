use Rattle.std.proofs.Common.{◌≡◌, ◌+◌, ◌≤◌, ◌++◌, drop, length, take}
use Rattle.std.specs.List.{AllByRecursion}
use Rattle.ca_base.specs.Sight.{first_denied}
use Rattle.ca_keys.specs.declared.access.Kind.TheVariants as kinds
use Rattle.ca_qp_rows.specs.Asks.{AreBytesAtHand, IsAskOf, payload_of, read_marks, reads_by, touched_by}
use Rattle.ca_qp_rows.proofs.reads.read_until_denied.Given as goal

-- none of the asks before is denied; their marks stand behind those that there were, and the others are missing
abbrev pub invariant-loop-ask : goal.invariant-loop-ask
invariant-loop-ask g l =
    (l.reach ≡ l.initial.reach)
    × ((first_denied (g.R.Reach.sight l.initial.reach) (drop l.ask-index l.asks) ≡ first_denied (g.R.Reach.sight l.initial.reach) l.asks)
    × ((l.marks.marks ++ read_marks (reads_by (g.R.Reach.sight l.initial.reach) (drop l.ask-index l.asks))
    ≡ l.initial.marks.marks ++ read_marks (reads_by (g.R.Reach.sight l.initial.reach) l.asks))
    × ((l.initial.marks.room + length (drop l.ask-index l.asks) ≤ l.marks.room + length l.asks)
    × ((length (drop l.ask-index l.asks) ≤ l.marks.room)
    × ((take (length l.initial.marks.marks) l.marks.marks ≡ l.initial.marks.marks)
    × ((length (payload_of (reads_by (g.R.Reach.sight l.initial.reach) (drop l.ask-index l.asks))) ≡ touched_by (drop l.ask-index l.asks)
    → length (payload_of (reads_by (g.R.Reach.sight l.initial.reach) l.asks)) ≡ touched_by l.asks)
    × (AllByRecursion (g.R.Reach.judges l.initial.reach) (drop l.ask-index l.asks)
    × (AllByRecursion (AreBytesAtHand (g.R.Reach.sight l.initial.reach) (g.R.Reach.touches l.initial.reach)) (drop l.ask-index l.asks)
    × AllByRecursion (IsAskOf kinds.Read) (drop l.ask-index l.asks)))))))))

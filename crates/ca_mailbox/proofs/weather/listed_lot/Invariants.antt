use Rattle.std.proofs.Common.{◌≡◌, drop}
use Rattle.ca_mailbox.specs.Weather.{listed_lot}
use Rattle.ca_mailbox.proofs.weather.listed_lot.Given as goal

-- the lines that were passed do not name the packet
abbrev pub invariant-loop-line : goal.invariant-loop-line
invariant-loop-line l = listed_lot (drop l.line-index l.lines) l.queue l.index ≡ listed_lot l.lines l.queue l.index

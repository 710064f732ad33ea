use Rattle.std.proofs.Common.{◌≡◌, drop}
use Rattle.ca_mailbox.specs.Weather.{is_listed_hasten}
use Rattle.ca_mailbox.proofs.weather.is_listed_hasten.Given as goal

-- the lines that were passed do not hasten the timer
abbrev pub invariant-loop-line : goal.invariant-loop-line
invariant-loop-line l = is_listed_hasten (drop l.line-index l.lines) l.queue l.nth ≡ is_listed_hasten l.lines l.queue l.nth

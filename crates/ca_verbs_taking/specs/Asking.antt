-- What is asked for, as callers ask for it. Contracts cite it.
use Rattle.ca_verbs_machine.specs.declared.asked.Asked as machine
use Rattle.ca_verbs_machine.specs.declared.asked.Asked.TheVariants as asks
use Rattle.ca_verbs_taking.specs.declared.ask.Ask.{Ask}
use Rattle.ca_verbs_taking.specs.declared.ask.Ask.TheVariants as own

-- what the machine calls it
abbrev pub asked_of : Ask → machine.Asked
asked_of (own.Event event) = asks.Event event.now
asked_of (own.Turn turn weather) = asks.Turn turn weather.now

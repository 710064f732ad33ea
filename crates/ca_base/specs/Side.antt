-- The two queues of a queue pair. Contracts cite it.
use Rattle.std.specs.Prelude.{Bool, true, false}
use Rattle.ca_base.specs.declared.completion.Side.{Side}
use Rattle.ca_base.specs.declared.completion.Side.TheVariants.{Sends, Receives}

-- the queue of receives, as the flag of a completion says it
abbrev pub is_receives : Side → Bool
is_receives Sends = false
is_receives Receives = true

-- ProgressView: what the place of a reader stands for. Contracts cite it.
use Rattle.std.specs.Prelude.{◌+◌, ◌<◌, ◌≤◌, length}
use Rattle.ca_base.specs.declared.limits.TheConstants.{MAX_POLLED}
use Rattle.ca_model.specs.Entries.{entry_of}
use Rattle.ca_trace_read.specs.declared.progress.Progress.{Progress}
use Rattle.ca_trace_read.specs.declared.progress.Progress.TheVariants as places
use Rattle.ca_trace_read.specs.Steps.{Stage, Start, Polling, Open, Over, Stopped}

abbrev pub stage_of : Progress → Stage
stage_of places.Start = Start
stage_of (places.Polling poll) = Polling poll
stage_of (places.Open entry) = Open (entry_of entry)
stage_of places.Over = Over
stage_of places.Stopped = Stopped

-- some completions of a poll are still to come, and with them it gives no more than a poll gives
abbrev pub HasRoom : Progress → Type 0
HasRoom (places.Polling poll) = (0 < poll.wanted) × (length poll.given + poll.wanted ≤ MAX_POLLED)
HasRoom place = Unit {0}

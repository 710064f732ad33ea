-- ReaderValue: what contracts see of a reader of a trace. Contracts cite it.
use Rattle.std.specs.Prelude.{ℕ}
use Rattle.ca_trace_read.specs.Steps.{Reading, start}

-- the number of the next line, or of the one that was refused, and what is known behind the lines before it
pub record ReaderValue : Type 0 where
  pub next : ℕ
  pub reading : Reading

-- before the first line
abbrev pub at_start : ReaderValue
at_start = record { next = 1; reading = start }

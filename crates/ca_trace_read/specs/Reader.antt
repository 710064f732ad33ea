-- Reader: what a reader of a trace does with the next line, and what a whole text is read as. Contracts cite it.
use Rattle.std.specs.Prelude.{◌≡◌, ℕ, ◌+◌, ◌++◌, min, List, [], Option, Result, Ok, Err, length}
use Rattle.ca_model.specs.Entries.{EntryValue}
use Rattle.ca_trace_read.specs.declared.error.TraceError.{TraceError}
use Rattle.ca_trace_read.specs.declared.error.TraceError.TheVariants as errors
use Rattle.ca_trace_read.specs.ReaderValue.{ReaderValue}
use Rattle.ca_trace_read.specs.Steps.{before, start, stopped}
use Rattle.ca_trace_read.specs.Outside.{IsFirstOutside, line_number}
use Rattle.ca_trace_read.specs.Taken.{IsTaken, IsRefused, AreTaken, lined}

-- the reader took the line; its number stands still at the greatest number of its type
pub record Takes (old : ReaderValue) (text : List ℕ) (new : ReaderValue) (shown : Option EntryValue) : Type 0 where
  pub taken : IsTaken old.reading text new.reading shown
  pub next : new.next ≡ min (old.next + 1) 4294967295

-- the reader did not take the line: no line that may stand here has this text, and no later one is taken; or memory ran
-- out, and the reader is as it was
abbrev pub Refuses : ReaderValue → List ℕ → ReaderValue → TraceError → Type 0
Refuses old text new (errors.Refused n) = (n ≡ old.next) × IsRefused old.reading text × (new ≡ record { next = old.next; reading = stopped old.reading })
Refuses old text new errors.Memory = new ≡ old

-- lines from a text's front on lead to this reader, and show these entries to be complete
pub record IsReached (value : ReaderValue) (shown : List EntryValue) : Type 0 where
  pub lines : List (List ℕ)
  pub taken : AreTaken start lines value.reading shown
  pub number : value.next ≡ line_number (length lines)

-- the same lines, with what stands behind them in this text
pub record HasRead (bytes rest : List ℕ) (value : ReaderValue) (shown : List EntryValue) : Type 0 where
  pub lines : List (List ℕ)
  pub whole : bytes ≡ lined lines ++ rest
  pub taken : AreTaken start lines value.reading shown
  pub number : value.next ≡ line_number (length lines)

-- the entry that a line showed stands behind those before it
pub record TakesInto (old : ReaderValue) (given : List EntryValue) (text : List ℕ) (new : ReaderValue) (more : List EntryValue) : Type 0 where
  pub shown : Option EntryValue
  pub taken : Takes old text new shown
  pub added : more ≡ given ++ before shown []

-- the line was refused, or memory ran out
abbrev pub IsCause : ReaderValue → List ℕ → TraceError → Type 0
IsCause old text (errors.Refused n) = (n ≡ old.next) × IsRefused old.reading text
IsCause old text errors.Memory = Unit {0}

-- a refusal comes at the first line outside the grammar
abbrev pub IsRefusedRight : List ℕ → TraceError → Type 0
IsRefusedRight bytes (errors.Refused n) = IsFirstOutside bytes n
IsRefusedRight bytes errors.Memory = Unit {0}

-- these entries were read, unless memory ran out
abbrev pub IsReadAs : List EntryValue → Result (List EntryValue) TraceError → Type 0
IsReadAs es (Ok read) = read ≡ es
IsReadAs es (Err (errors.Refused n)) = ⊥
IsReadAs es (Err errors.Memory) = Unit {0}

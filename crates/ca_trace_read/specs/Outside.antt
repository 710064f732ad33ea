-- Outside: which line of a text is the first that is outside the grammar. Contracts cite it.
use Rattle.std.specs.Prelude.{◌≡◌, ℕ, ◌+◌, ◌==◌, min, not, ◌&&◌, Bool, true, List, [], ◌∷◌, ◌++◌, length}
use Rattle.ca_model.specs.Entries.{EntryValue}
use Rattle.ca_trace.specs.Trace.{text}
use Rattle.ca_trace_read_fits.specs.Histories.{HistoryFits}
use Rattle.ca_trace_read.specs.Taken.{lined}

-- the text of some history begins so
pub record BeginsText (front : List ℕ) : Type 0 where
  pub entries : List EntryValue
  pub fits : HistoryFits entries
  pub rest : List ℕ
  pub whole : text entries ≡ front ++ rest

-- the number of the line behind so many lines; it stands still at the greatest number of its type
abbrev pub line_number : ℕ → ℕ
line_number before = min (before + 1) 4294967295

-- no line feed is among these
abbrev pub is_one_line : List ℕ → Bool
is_one_line [] = true
is_one_line (c ∷ cs) = not (c == 10) && is_one_line cs

-- the lines before line n begin the text of a history; no text of a history begins with these lines and line n too, and
-- the bytes are none
pub record IsFirstOutside (bytes : List ℕ) (n : ℕ) : Type 0 where
  pub before : List (List ℕ)
  pub rest : List ℕ
  pub whole : bytes ≡ lined before ++ rest
  pub number : n ≡ line_number (length before)
  pub begins : BeginsText (lined before)
  pub outside : (line more : List ℕ) → is_one_line line ≡ true → rest ≡ line ++ 10 ∷ more → BeginsText (lined before ++ (line ++ 10 ∷ [])) → ⊥
  pub no_text : (entries : List EntryValue) → HistoryFits entries → bytes ≡ text entries → ⊥

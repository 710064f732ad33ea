-- Rows: a table of lines by their words, and what a row makes of the words of a line, word by word from the left.
-- Contracts cite it.
use Rattle.std.specs.Prelude.{ℕ, if◌then◌else◌, List, [], ◌∷◌, Result, Ok, Err}
use Rattle.std.specs.Str.{bytes_eq}
use Rattle.ca_script_lex.specs.Kinds.{Kind, ValueOf, word_of}
use Rattle.ca_script_lex.specs.Reading.{◌>>=◌, first_word, field}
use Rattle.ca_script_lex.specs.declared.cause.ScriptCause.{ScriptCause}
use Rattle.ca_script_lex.specs.declared.cause.ScriptCause.TheVariants.{UnknownWord}

-- the words that are left
abbrev pub Words : Type 0
Words = List (List ℕ)

-- what stands behind the word of a row, and what it makes
pub data Row (Y : Type 0) : Type 0 where
  -- a word of this kind, and then what follows by its value
  Takes : (kind : Kind) → (ValueOf kind → Row Y) → Row Y
  -- a row of another table
  Goes : (Words → Result (Y × Words) ScriptCause) → Row Y
  -- no word more
  Makes : Y → Row Y

-- what a row makes of the words at the front
abbrev pub read_row : {Y : Type 0} → Row Y → Words → Result (Y × Words) ScriptCause
read_row (Takes kind next) ws = do
  x ← field (word_of kind) ws
  read_row (next x.0) x.1
read_row (Goes reader) ws = reader ws
read_row (Makes y) ws = Ok (y, ws)

-- the row of a word, by the first that has it
abbrev pub read_named : {Y : Type 0} → List (List ℕ × Row Y) → List ℕ → Words → Result (Y × Words) ScriptCause
read_named [] name ws = Err UnknownWord
read_named (row ∷ rows) name ws = if bytes_eq name row.0 then read_row row.1 ws else read_named rows name ws

-- a row of the table, by the first word
abbrev pub read_table : {Y : Type 0} → List (List ℕ × Row Y) → Words → Result (Y × Words) ScriptCause
read_table rows ws = do
  name ← first_word ws
  read_named rows name.0 name.1

-- a row of another table, and what this one makes of it
abbrev pub one_of : {Z Y : Type 0} → (Words → Result (Z × Words) ScriptCause) → (Z → Y) → Row Y
one_of reader make = Goes (λ ws. reader ws >>= λ z. Ok (make z.0, z.1))

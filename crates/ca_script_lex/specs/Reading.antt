-- Reading: what a reader of a script answers, a value or the first cause of a refusal, step by step. Contracts cite it.
use Rattle.std.specs.Prelude.{◌≡◌, ℕ, List, [], ◌∷◌, Result, Ok, Err}
use Rattle.ca_script_lex.specs.declared.cause.ScriptCause.{ScriptCause}
use Rattle.ca_script_lex.specs.declared.cause.ScriptCause.TheVariants as causes
use Rattle.ca_script_lex.specs.declared.line_error.LineError.{LineError}
use Rattle.ca_script_lex.specs.declared.line_error.LineError.TheVariants as errors

-- a step after another, where that one gave a value; else its cause
infixl 10 ◌>>=◌
abbrev pub ◌>>=◌ : {A B : Type 0} → Result A ScriptCause → (A → Result B ScriptCause) → Result B ScriptCause
Ok x >>= f = f x
Err cause >>= f = Err cause

-- a refusal is the one that reading finds, unless memory ran out
abbrev pub IsRefusalOf : {Y : Type 0} → LineError → Result Y ScriptCause → Type 0
IsRefusalOf (errors.Refused cause) read = read ≡ Err cause
IsRefusalOf errors.Memory read = Unit {0}

-- what a reader answered, seen by a view, is what reading finds, unless memory ran out
abbrev pub Answers : {X Y : Type 0} → (X → Y) → Result X LineError → Result Y ScriptCause → Type 0
Answers view (Ok x) read = read ≡ Ok (view x)
Answers view (Err error) read = IsRefusalOf error read

-- the same of a reader of words at the front, with the words that it left
abbrev pub AnswersFrom : {X Y : Type 0} → (X → Y) → Result X LineError → List (List ℕ) → Result (Y × List (List ℕ)) ScriptCause → Type 0
AnswersFrom view (Ok x) left read = read ≡ Ok (view x, left)
AnswersFrom view (Err error) left read = IsRefusalOf error read

-- the first word, and those behind it
abbrev pub first_word : List (List ℕ) → Result (List ℕ × List (List ℕ)) ScriptCause
first_word [] = Err causes.Missing
first_word (w ∷ ws) = Ok (w, ws)

-- what the first word is read as, and the words behind it
abbrev pub field : {Y : Type 0} → (List ℕ → Result Y ScriptCause) → List (List ℕ) → Result (Y × List (List ℕ)) ScriptCause
field reader ws = do
  w ← first_word ws
  x ← reader w.0
  Ok (x, w.1)

-- what each word is read as
abbrev pub each : {Y : Type 0} → (List ℕ → Result Y ScriptCause) → List (List ℕ) → Result (List Y) ScriptCause
each reader [] = Ok []
each reader (w ∷ ws) = do
  x ← reader w
  xs ← each reader ws
  Ok (x ∷ xs)

-- Script: what a text means as a script, or its first refused line with the first cause. Contracts cite it.
use Rattle.std.specs.Prelude.{◌≡◌, ℕ, zero, suc, ◌+◌, ◌-◌, ◌==◌, nat_le, nat_lt, Bool, not, ◌&&◌, if◌then◌else◌, List, [], ◌∷◌, ◌++◌, length, map, drop, slice_index, Result, Ok, Err}
use Rattle.std.specs.List.{list_all}
use Rattle.ca_base.specs.Configuration.{Configuration, adapter_of, configuration_of}
use Rattle.ca_base.specs.declared.limits.TheConstants.{MAX_SCRIPT_BYTES, MAX_CONSUMERS}
use Rattle.ca_mailbox.specs.declared.weather.Weather.{Weather}
use Rattle.ca_script_lines.specs.ca_trace_lex.Words.{pieces}
use Rattle.ca_script_lines.specs.ca_script_lex.Reading.{◌>>=◌, IsRefusalOf}
use Rattle.ca_script_lines.specs.ca_script_lex.Words.{words_of, is_consumer, limited}
use Rattle.ca_script_lines.specs.ca_script_lex.declared.cause.ScriptCause.{ScriptCause}
use Rattle.ca_script_lines.specs.ca_script_lex.declared.line_error.LineError.{LineError}
use Rattle.ca_script_lines.specs.ca_script_lex.declared.cause.ScriptCause.TheVariants as causes
use Rattle.ca_script_lines.specs.Grammar.{consumer_lines}
use Rattle.ca_script_lines.specs.Rows.{Words, read_table}
use Rattle.ca_script_lines.specs.declared.what.Line.{Line}
use Rattle.ca_script.specs.declared.script.Script.{Script}
use Rattle.ca_script.specs.declared.draft.ScriptSoFar.{ScriptSoFar}
use Rattle.ca_script.specs.declared.setup.SetupSoFar.{SetupSoFar}
use Rattle.ca_script.specs.declared.script_error.ScriptError.{ScriptError}
use Rattle.ca_script.specs.declared.script_error.ScriptError.TheVariants as errors
use Rattle.ca_script.specs.Setup.{Setup, opening, setup_lines, is_setup_word, is_late, after_setting, has_room_for, is_within_limits}

-- a script, without where it lies in memory: the lines of each consumer, from 0 to the highest that occurs
pub record ScriptValue : Type 0 where
  pub config : Configuration
  pub weather : Weather
  pub consumers : List (List Line)

-- what the lines so far say
pub record Draft : Type 0 where
  pub setup : Setup
  pub consumers : List (List Line)

-- ---- one line

-- a space, or a printable character of ASCII
abbrev pub is_text : ℕ → Bool
is_text c = nat_le 32 c && nat_le c 126

abbrev pub is_comment : List ℕ → Bool
is_comment line = slice_index line 0 == 35

-- what was read, where no word is left
abbrev pub whole : {Y : Type 0} → Result (Y × Words) ScriptCause → Result Y ScriptCause
whole read = read >>= λ x. if length x.1 == 0 then Ok x.0 else Err causes.Extra

-- a line behind those of its consumer; a consumer before it has no lines where none were there
abbrev pub with_line : ℕ → Line → List (List Line) → List (List Line)
with_line zero line [] = (line ∷ []) ∷ []
with_line zero line (c ∷ cs) = (c ++ line ∷ []) ∷ cs
with_line (suc k) line [] = [] ∷ with_line k line []
with_line (suc k) line (c ∷ cs) = c ∷ with_line k line cs

-- the setup, where there was room for what its last line says, and it is within the limits of the whole
abbrev pub within_limits : Bool → Setup → Result Setup ScriptCause
within_limits room s = if room && is_within_limits s then Ok s else Err causes.OutOfLimit

-- a setup line, by its words
unfoldable pub after_setup_line : Setup → Words → Result Setup ScriptCause
after_setup_line s ws =
    if is_late s ws then Err causes.SetupLate
    else (do
      setting ← whole (read_table (setup_lines (length s.adapters - 1)) ws)
      within_limits (has_room_for setting s) (after_setting setting s))

-- what a line makes of what the lines before it say, by its words
unfoldable pub after_words : ℕ → Draft → Words → Result Draft ScriptCause
after_words number d [] = Ok d
after_words number d (name ∷ ws) =
    if is_consumer name then (do
      k ← limited 0 (MAX_CONSUMERS - 1) (drop 1 name)
      what ← whole (read_table consumer_lines ws)
      Ok (record d { consumers = with_line k (record { number = number; what = what }) d.consumers }))
    else if not (is_setup_word name) then Err causes.UnknownWord
    else if not (length d.consumers == 0) then Err causes.SetupLate
    else (do
      setup ← after_setup_line d.setup (name ∷ ws)
      Ok (record d { setup = setup }))

unfoldable pub after_line : ℕ → Draft → List ℕ → Result Draft ScriptCause
after_line number d line =
    if not (list_all is_text line) then Err causes.NotText
    else if is_comment line then Ok d
    else after_words number d (words_of line)

-- ---- all lines

-- the bytes of a line with its line feed; the last has none
abbrev pub size_of : List ℕ → List (List ℕ) → ℕ
size_of line [] = length line
size_of line (next ∷ more) = length line + 1

-- a refusal with the number of its line
abbrev pub refused_at : {A B : Type 0} → ℕ → Result A ScriptCause → (A → Result B (ℕ × ScriptCause)) → Result B (ℕ × ScriptCause)
refused_at number (Ok x) next = next x
refused_at number (Err cause) next = Err (number, cause)

-- what the lines say behind what those before them say; they begin with this number, and there is room for so many bytes
abbrev pub after_lines : ℕ → ℕ → Draft → List (List ℕ) → Result Draft (ℕ × ScriptCause)
after_lines number room d [] = Ok d
after_lines number room d (line ∷ lines) =
    if nat_lt room (size_of line lines) then Err (number, causes.TooLarge)
    else refused_at number (after_line number d line) (λ after. after_lines (number + 1) (room - size_of line lines) after lines)

abbrev pub value_of_draft : Draft → ScriptValue
value_of_draft d = record {
  config = record { adapters = d.setup.adapters; events = d.setup.events };
  weather = d.setup.weather;
  consumers = d.consumers;
}

abbrev pub finished : Result Draft (ℕ × ScriptCause) → Result ScriptValue (ℕ × ScriptCause)
finished (Ok d) = Ok (value_of_draft d)
finished (Err refusal) = Err refusal

-- what a text means, or the number of its first refused line, counted from 1, and the first cause there
unfoldable pub script_of : List ℕ → Result ScriptValue (ℕ × ScriptCause)
script_of bytes = finished (after_lines 1 MAX_SCRIPT_BYTES (record { setup = opening; consumers = [] }) (pieces 10 bytes))

-- ---- what the code keeps, and what a caller is told

abbrev pub setup_of : SetupSoFar → Setup
setup_of s = record {
  begun = s.begun;
  adapters = map adapter_of s.config.adapters.items;
  slotted = s.slotted.items;
  limited = s.limited;
  events = s.config.events;
  weather = s.weather;
}

abbrev pub draft_of : ScriptSoFar → Draft
draft_of d = record { setup = setup_of d.setup; consumers = d.consumers.items }

-- a reader of a line left what reading finds, or refused it so, unless memory ran out
abbrev pub Leaves : {X Y : Type 0} → Result X LineError → Y → Result Y ScriptCause → Type 0
Leaves (Ok x) left read = read ≡ Ok left
Leaves (Err error) left read = IsRefusalOf error read

-- the same of all lines
abbrev pub LeavesLines : {X Y : Type 0} → Result X ScriptError → Y → Result Y (ℕ × ScriptCause) → Type 0
LeavesLines (Ok x) left read = read ≡ Ok left
LeavesLines (Err (errors.Refused line cause)) left read = read ≡ Err (line, cause)
LeavesLines (Err errors.Memory) left read = Unit {0}

abbrev pub script_value : Script → ScriptValue
script_value s = record { config = configuration_of s.config; weather = s.weather; consumers = s.consumers }

-- what `read_script` answered is what the text means, unless memory ran out
abbrev pub IsReadingOf : Result Script ScriptError → Result ScriptValue (ℕ × ScriptCause) → Type 0
IsReadingOf (Ok script) read = read ≡ Ok (script_value script)
IsReadingOf (Err (errors.Refused line cause)) read = read ≡ Err (line, cause)
IsReadingOf (Err errors.Memory) read = Unit {0}

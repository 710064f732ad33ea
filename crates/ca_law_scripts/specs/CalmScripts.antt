-- Scripts in calm weather, what befalls none of their histories, and how many entries these have at most. Laws cite it.
use Rattle.std.specs.Prelude.{◌≡◌, ℕ, ◌+◌, ◌*◌, List, length}
use Rattle.std.specs.List.{AllByRecursion, sum_by}
use Rattle.ca_mailbox.specs.declared.weather.Weather.TheVariants.{Calm}
use Rattle.ca_model.specs.Entries.{EntryValue}
use Rattle.ca_model.specs.declared.mark.Mark.{Mark}
use Rattle.ca_model.specs.declared.mark.Mark.TheVariants as marks
use Rattle.ca_law_lossless.specs.Standing.{IsNoRnrNak}
use Rattle.ca_script.specs.Script.{ScriptValue}
use Rattle.ca_script_lines.specs.declared.Line.{Line}
use Rattle.ca_script_lines.specs.declared.what.What.{What}
use Rattle.ca_script_lines.specs.declared.what.What.TheVariants as whats
use Rattle.ca_law_bounds.specs.PostWeights.{InjectsNothing, packets_posted}

-- a line injects no packet
abbrev pub IsNoInjection : What → Type 0
IsNoInjection (whats.Verb verb) = InjectsNothing verb
IsNoInjection (whats.At t) = Unit {0}

abbrev pub AreNoInjections : List Line → Type 0
AreNoInjections lines = AllByRecursion (λ line. IsNoInjection line.what) lines

-- A script in calm weather: each packet passes, and no line injects one.
pub record IsCalmScript (s : ScriptValue) : Type 0 where
  pub weather : s.weather ≡ Calm
  pub injects : AllByRecursion AreNoInjections s.consumers

-- the packets of the request that a line posts, at the smallest path MTU
abbrev pub packets_on : What → ℕ
packets_on (whats.Verb verb) = packets_posted verb
packets_on (whats.At t) = 0

-- those of all lines
abbrev pub packets_of_lines : List Line → ℕ
packets_of_lines lines = sum_by (λ line. packets_on line.what) lines

-- four for each packet that the lines of a script post, and one for each line
abbrev pub most_entries : ScriptValue → ℕ
most_entries s = 4 * sum_by packets_of_lines s.consumers + sum_by (λ (lines : List Line). length lines) s.consumers

-- no timer fires, nothing is lost, and no RNR NAK is sent
abbrev pub IsUntroubledMark : Mark → Type 0
IsUntroubledMark (marks.Timer queue silent) = ⊥
IsUntroubledMark (marks.Lost target index) = ⊥
IsUntroubledMark (marks.Sent source target index request bytes) = IsNoRnrNak bytes
IsUntroubledMark mark = Unit {0}

-- Nothing befalls a history: all its marks are so.
abbrev pub AreUntroubled : List EntryValue → Type 0
AreUntroubled es = AllByRecursion (λ e. AllByRecursion IsUntroubledMark e.marks) es

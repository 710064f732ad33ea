-- Short forms in which the histories of traces are written, beside those of ca_model's Literals. For proofs only.
use Rattle.std.proofs.Common.{ℕ, ◌+◌, ◌-◌, ◌*◌, nat_le, if◌then◌else◌, List, [] as none, ◌∷◌ as ◌∷ᴸ◌}
use Prim.Native.Char.{code}
use Prim.Native.String.{String, ◌∷◌}
use Rattle.ca_model.specs.declared.answer.Answer.{Answer}
use Rattle.ca_model.specs.declared.event.Event.TheVariants as events
use Rattle.ca_model.specs.declared.mark.Mark.{Mark}
use Rattle.ca_model.specs.declared.mark.Mark.TheVariants as marks
use Rattle.ca_model.specs.declared.verb.Verb.{Verb}
use Rattle.ca_model.specs.Entries.{EntryValue}
use Rattle.ca_model.proofs.Literals.{entry}

-- the entry of a verb that a consumer called: its event, its own mark, and the marks behind that
abbrev pub called : ℕ → ℕ → ℕ → Verb → Answer → List Mark → EntryValue
called stamp pass consumer verb answer others =
    entry stamp pass (events.Verb consumer verb) (marks.Verb consumer verb answer ∷ᴸ others)

-- the value of a digit, 0 to 9 or a to f, by its code
abbrev digit : ℕ → ℕ
digit c = if nat_le 97 c then c - 87 else c - 48

-- the bytes of a text of hexadecimal digits, two for each
abbrev pub hex : String → List ℕ
hex (high ∷ low ∷ rest) = (16 * digit (code high) + digit (code low)) ∷ᴸ hex rest
hex rest = none

-- History: which lists of entries are histories. Contracts cite it.
use Rattle.std.specs.Prelude.{◌≡◌, ℕ, suc, List, [], ◌∷◌}
use Rattle.ca_model.specs.declared.event.Event.{Event}
use Rattle.ca_model.specs.declared.event.Event.TheVariants as events
use Rattle.ca_model.specs.declared.mark.Mark.{Mark}
use Rattle.ca_model.specs.declared.mark.Mark.TheVariants as marks
use Rattle.ca_model.specs.declared.verb.Verb.{Verb}
use Rattle.ca_model.specs.Entries.{EntryValue}

-- a mark that is no verb's; a Done and its completion name one queue pair
abbrev pub IsPlain : Mark → Type 0
IsPlain (marks.Verb by verb answer) = ⊥
IsPlain (marks.Done queue completion cause) = completion.queue ≡ queue
IsPlain mark = Unit {0}

abbrev pub ArePlain : List Mark → Type 0
ArePlain [] = Unit {0}
ArePlain (m ∷ ms) = IsPlain m × ArePlain ms

-- a Verb mark with this consumer and verb
abbrev pub IsAnswerTo : ℕ → Verb → Mark → Type 0
IsAnswerTo by verb (marks.Verb by' verb' answer) = (by' ≡ by) × (verb' ≡ verb)
IsAnswerTo by verb mark = ⊥

-- the first mark of a verb's entry is a Verb mark with the same consumer and verb; no other mark is a Verb mark
abbrev pub FitTheEvent : Event → List Mark → Type 0
FitTheEvent (events.Verb by verb) [] = ⊥
FitTheEvent (events.Verb by verb) (m ∷ ms) = IsAnswerTo by verb m × ArePlain ms
FitTheEvent turn ms = ArePlain ms

-- an entry that may stand at position n
pub record IsEntry (n : ℕ) (e : EntryValue) : Type 0 where
  pub stamp : e.stamp ≡ n
  pub marks : FitTheEvent e.event e.marks

abbrev pub IsHistoryFrom : ℕ → List EntryValue → Type 0
IsHistoryFrom n [] = Unit {0}
IsHistoryFrom n (e ∷ es) = IsEntry n e × IsHistoryFrom (suc n) es

-- the entry at position n has stamp n, and its marks fit its event
abbrev pub IsHistory : List EntryValue → Type 0
IsHistory es = IsHistoryFrom 0 es

use Rattle.std.proofs.Common.{◌≡◌, ℕ, suc, ◌+◌, List, [], ◌∷◌, ◌++◌, length, map, subst, add-zero, ◌∙◌, arith}
use Rattle.std.proofs.lemmas.List.{map-append}
use Rattle.ca_model.specs.declared.entry.Entry.{Entry}
use Rattle.ca_model.specs.Entries.{EntryValue, entry_of}
use Rattle.ca_model.specs.History.{IsEntry, IsHistoryFrom, IsHistory}

-- one more entry, at the end
pub history-push : (es : List EntryValue) (n m : ℕ) (e : EntryValue) → IsHistoryFrom n es → m ≡ n + length es → IsEntry m e → IsHistoryFrom n (es ++ e ∷ [])
history-push [] n m e h at one = (let P : ℕ → Type 0 = λ k. IsEntry k e in subst P (at ∙ add-zero n) one, tt)
history-push (f ∷ es) n m e h at one = (h.0, history-push es (suc n) m e h.1 (omega (arith, at)) one)

-- the same of entries as the code has them
pub entries-push : (es : List Entry) (m : ℕ) (e : Entry) → IsHistory (map entry_of es) → m ≡ length (map entry_of es) → IsEntry m (entry_of e) → IsHistory (map entry_of (es ++ e ∷ []))
entries-push es m e h at one = rw map-append (history-push (map entry_of es) 0 m (entry_of e) h (omega (arith, at)) one)

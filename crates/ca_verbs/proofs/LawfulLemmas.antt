-- The history of a fabric that is closed is lawful. For proofs only.
use Rattle.std.proofs.Common.{◌≡◌, ◌∙◌, refl, sym, ap, ℕ, suc, List, [], ◌∷◌, map, Ok}
use Rattle.std.specs.List.{AllByRecursion}
use Rattle.ca_law_endings.proofs.EventFitLemmas.{followed-is-history}
use Rattle.ca_law_endings.specs.Runs.{AreStamped}
use Rattle.ca_base.specs.Configuration.{configuration_in}
use Rattle.ca_base.specs.declared.settings.Settings.{Settings}
use Rattle.ca_verbs_machine.specs.declared.asked.Told.{Told}
use Rattle.ca_law_isolation.proofs.AloneLemmas.{alone-goes}
use Rattle.ca_keys.specs.Memory.{zeros}
use Rattle.ca_law_caused.proofs.RelationLemmas.{relations-along}
use Rattle.ca_model.specs.Entries.{EntryValue, entry_of}
use Rattle.ca_model.specs.declared.entry.Entry.{Entry}
use Rattle.ca_model.specs.declared.event.Event.{Event}
use Rattle.ca_model.specs.declared.mark.Mark.{Mark}
use Rattle.ca_model.specs.machine.Run.{Follows, run}
use Rattle.ca_model.specs.machine.Sound.{AreLimited, CanBeMade}
use Rattle.ca_verbs_taking.specs.Holding.{Known}
use Rattle.ca_verbs.specs.Closing.{IsHistoryOf, IsLawful, stamped_from}
use Rattle.ca_verbs.specs.Kept.{Kept, kept_of}

events-seen : (j : List Entry) → map (λ (e : EntryValue). e.event) (map entry_of j) ≡ map (λ (e : Entry). e.event) j
events-seen [] = refl
events-seen (e ∷ es) = ap (λ (l : List Event). e.event ∷ l) (events-seen es)

marks-seen : (j : List Entry) → map (λ (e : EntryValue). e.marks) (map entry_of j) ≡ map (λ (e : Entry). e.marks.marks) j
marks-seen [] = refl
marks-seen (e ∷ es) = ap (λ (l : List (List Mark)). e.marks.marks ∷ l) (marks-seen es)

made-seen : (j : List Entry) → AllByRecursion (λ (e : Entry). CanBeMade e.event) j → AllByRecursion (λ (e : EntryValue). CanBeMade e.event) (map entry_of j)
made-seen [] all = record {}
made-seen (e ∷ es) all = (all.0, made-seen es all.1)

follows-seen : (key : Settings) (v : Known) (j : List Entry) → IsHistoryOf key v j → Follows (configuration_in key) zeros (map entry_of j)
follows-seen key v j history = ap (run (configuration_in key)) (events-seen j) ∙ history.runs ∙ ap Ok (sym (marks-seen j))

first-kept : (k : Kept) (ks : List Kept) (n : ℕ) (t : Told) (ts : List Told) → k ∷ ks ≡ stamped_from n (t ∷ ts) → (k.0 ≡ n) × (ks ≡ stamped_from (suc n) ts)
first-kept k ks n t ts same = search

stamps-count : (n : ℕ) (j : List Entry) (log : List Told) → kept_of j ≡ stamped_from n log → AreStamped n (map entry_of j)
stamps-count n [] log same = record {}
stamps-count n (e ∷ es) [] same = absurd cc
stamps-count n (e ∷ es) (t ∷ ts) same = (first.0, stamps-count (suc n) es ts first.1)
  where
    first : (e.stamp ≡ n) × (kept_of es ≡ stamped_from (suc n) ts)
    first = first-kept (e.stamp, e.event, e.marks.marks) (kept_of es) n t ts same

-- the history of all passes, of a configuration that keeps to its limits
pub lawful-of : (key : Settings) (v : Known) (j : List Entry) → AreLimited (configuration_in key) → AllByRecursion (λ (e : Entry). CanBeMade e.event) j → IsHistoryOf key v j → IsLawful key j
lawful-of key v j limited all history = record {
  history = followed-is-history (configuration_in key) zeros (map entry_of j) (stamps-count 0 j history.log history.kept) follows;
  relations = relations-along (configuration_in key) zeros (map entry_of j) limited made follows;
  isolated = alone-goes (configuration_in key) zeros (map entry_of j) limited made follows;
}
  where
    made : AllByRecursion (λ (e : EntryValue). CanBeMade e.event) (map entry_of j)
    made = made-seen j all

    follows : Follows (configuration_in key) zeros (map entry_of j)
    follows = follows-seen key v j history

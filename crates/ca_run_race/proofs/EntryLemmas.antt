-- Entries that are pushed one after another. For proofs only.
use Rattle.std.proofs.Common.{◌≡◌, ◌∙◌, sym, ap, subst, ℕ, suc, ◌+◌, arith, List, [], ◌∷◌, ◌++◌, length, map, reverse}
use Rattle.std.proofs.lemmas.List.{append_assoc, reverse-append}
use Rattle.ca_model.specs.Entries.{EntryValue, entry_of}
use Rattle.ca_model.specs.History.{IsEntry, IsHistory, IsHistoryFrom}
use Rattle.ca_model.specs.declared.entry.Entry.{Entry}

entry-at : (n : ℕ) (front : List EntryValue) (e : EntryValue) (rest : List EntryValue) → IsHistoryFrom n (front ++ e ∷ rest) → IsEntry (n + length front) e
entry-at n [] e rest is = let same : n ≡ n + 0 = omega arith in subst (λ k. IsEntry k e) same is.0
entry-at n (x ∷ xs) e rest is = let same : suc n + length xs ≡ n + suc (length xs) = omega arith in subst (λ k. IsEntry k e) same (entry-at (suc n) xs e rest is.1)

-- with one entry taken from what is left
split : (history : List EntryValue) (left less all : List Entry) (entry : Entry) → history ++ map entry_of (reverse left) ≡ map entry_of all → left ≡ less ++ entry ∷ []
    → history ++ entry_of entry ∷ map entry_of (reverse less) ≡ map entry_of all
split history left less all entry is taken =
    ap (λ (l : List EntryValue). history ++ l) (sym (ap (map entry_of) (ap reverse taken ∙ reverse-append less (entry ∷ [])))) ∙ is

-- it may be pushed
pub may-push : (history : List EntryValue) (left less all : List Entry) (entry : Entry) → history ++ map entry_of (reverse left) ≡ map entry_of all → left ≡ less ++ entry ∷ []
    → IsHistory (map entry_of all) → IsEntry (length history) (entry_of entry)
may-push history left less all entry is taken whole =
    let same : 0 + length history ≡ length history = omega arith in
    subst (λ k. IsEntry k (entry_of entry)) same (entry-at 0 history (entry_of entry) (map entry_of (reverse less)) (subst IsHistory (sym (split history left less all entry is taken)) whole))

-- and then so much more is there
pub pushed-more : (history more : List EntryValue) (left less all : List Entry) (entry : Entry) → history ++ map entry_of (reverse left) ≡ map entry_of all → left ≡ less ++ entry ∷ []
    → more ≡ history ++ entry_of entry ∷ [] → more ++ map entry_of (reverse less) ≡ map entry_of all
pushed-more history more left less all entry is taken pushed =
    ap (λ (l : List EntryValue). l ++ map entry_of (reverse less)) pushed ∙ append_assoc history (entry_of entry ∷ []) (map entry_of (reverse less)) ∙ split history left less all entry is taken

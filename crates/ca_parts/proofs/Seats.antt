-- Each step, as a call on a seat asks it.
use Rattle.std.proofs.Common.{◌≡◌, ◌≢◌, ℕ, ◌+◌, ◌%◌, ◌^◌, ◌<◌, List, [], ◌∷◌, ◌++◌, Option, Some, None, sym, ap, ◌∙◌, subst, arith}
use mathlib.Core.Logic.{dite}
use native.Mathlib.Decide.{ℕ_discrete}
use Rattle.std.specs.Prelude.{◌==◌}
use mathlib.Core.Option.{none}
use prog.Atomic.{either}
use Rattle.atomic_table.specs.Table.{Me, Allows, step, rest}
use Rattle.ca_parts.specs.declared.view.View.{View}
use Rattle.ca_parts.specs.Lists.{Has, times, numbers_of, without}
use Rattle.ca_parts.specs.Hands.{IsTakenFor, Suffices, AllStand}
use Rattle.ca_parts.specs.Facts.{word_of, FactsOfParts}
use Rattle.ca_parts.specs.Calls.{MayTake, MayStamp}
use Rattle.ca_parts.specs.Told.{settled, took, shelved, fetched, gave, looked, stamped_as, weighed}
use Rattle.ca_parts.proofs.Lists.{times_last, times_without, bit_other}
use Rattle.ca_parts.proofs.Moves.{shelves, fetches, gives_back, takes_or_not}
use Rattle.ca_parts.proofs.Stamping.{looks, stamps}
use Rattle.ca_parts.proofs.Ranges.{weighs}

-- a list that begins with p begins with it before its own rest
pub first_slot : {A : Type 0} (l c : List (ℕ × A)) (p : ℕ × A) → l ≡ p ∷ c → l ≡ p ∷ rest l
first_slot l c p e = e ∙ ap (λ r. p ∷ r) (sym (ap rest e))

-- what stands first is one thing
pub same_slot : {A : Type 0} (l c : List (ℕ × A)) (k : ℕ) (a b : A) → l ≡ (k, a) ∷ c → l ≡ (k, b) ∷ rest l → b ≡ a
same_slot {A} l c k a b e d = let q : (k, b) ∷ rest l ≡ (k, a) ∷ c = sym d ∙ e in let pair : ◌≡◌ {A = ℕ × A} (k, b) (k, a) = cc in ap (λ (z : ℕ × A). z.1) pair

pub rest_of : {A : Type 0} (l c : List (ℕ × A)) (p : ℕ × A) → l ≡ p ∷ c → c ≡ [] → rest l ≡ []
rest_of l c p e d = ap rest e ∙ d

-- each part in hand is one of the row, also after a part was taken, after a stamp, and after a part was given
pub taken_inside : {T : Type 0} (n k : ℕ) (x : T) (hand : List (ℕ × T)) → k < n → ((j : ℕ) → 0 < times j (numbers_of hand) → j < n) → (j : ℕ) → 0 < times j (numbers_of (hand ++ (k, x) ∷ [])) → j < n
taken_inside n k x hand near inside j some_hand = dite (ℕ_discrete j k) (λ (e : j ≡ k). omega arith) (λ (ne : j ≢ k). let last = times_last j hand (k, x) in let other = bit_other j k ne in inside j (omega arith))

pub stamped_inside : {T : Type 0} (n : ℕ) (hand news : List (ℕ × T)) → numbers_of news ≡ numbers_of hand → ((j : ℕ) → 0 < times j (numbers_of hand) → j < n) → (j : ℕ) → 0 < times j (numbers_of news) → j < n
stamped_inside n hand news same inside j some_hand = let e : times j (numbers_of news) ≡ times j (numbers_of hand) = ap (λ (l : List ℕ). times j l) same in inside j (omega arith)

pub given_inside : {T : Type 0} (n k : ℕ) (x : T) (hand : List (ℕ × T)) → Has (k, x) hand → ((j : ℕ) → 0 < times j (numbers_of hand) → j < n) → (j : ℕ) → 0 < times j (numbers_of (without k hand)) → j < n
given_inside n k x hand has inside j some_hand = let less = times_without j k x hand has in inside j (omega arith)

-- a view with nothing out is settled
pub settled_is : {S E N T : Type 0} (u : View S E N T) → u.out ≡ None → settled u ≡ u
settled_is u e = λ i. record u { out = sym e i }

module _ {S E N T : Type 0} (needs : S → E → List (ℕ × T) → Option ℕ) (steps : S → List N → N → Type 0) (stands : S → List N → ℕ → T → Type 0) (key : S) (slots id : ℕ) (me : Me (Option T) (View S E N T)) where
  -- what holds of a seat with these slots holds of the seat
  with_slots : (P : Me (Option T) (View S E N T) → Type 0) (c : List (ℕ × Option T)) → me.1 ≡ c → P (me.0, c) → P me
  with_slots P c e p = subst P (λ i. (me.0, sym e i)) p

  pub looks_at : me.1 ≡ [] → me.0.settings ≡ Some key → 0 < me.0.count → Allows (FactsOfParts needs steps stands key) slots id me 0 (λ n. n) (looked needs steps stands (step slots 0 0 0 none) me)
  looks_at bare settings some_number = with_slots (λ m. Allows (FactsOfParts needs steps stands key) slots id m 0 (λ n. n) (looked needs steps stands (step slots 0 0 0 none) m)) [] bare (looks needs steps stands key slots id me.0 settings some_number)

  pub weighs_at : me.1 ≡ [] → Allows (FactsOfParts needs steps stands key) slots id me 0 (λ n. n) (weighed (step slots 0 0 0 none) me)
  weighs_at bare = with_slots (λ m. Allows (FactsOfParts needs steps stands key) slots id m 0 (λ n. n) (weighed (step slots 0 0 0 none) m)) [] bare (weighs needs steps stands key slots id me.0)

  pub stamps_at : (records : N → E → Type 0) → ((log : List N) (entry : N) (event : E) (hand : List (ℕ × T)) (k : ℕ) (x : T) → records entry event → Suffices needs key event hand → AllStand (stands key log) hand → steps key log entry → ((y : T) → ¬ Has (k, y) hand) → stands key log k x → stands key (log ++ entry ∷ []) k x)
      → (plan : Option (N × List (ℕ × T))) (entry : N) (news : List (ℕ × T)) → plan ≡ Some (entry, news) → me.1 ≡ [] → me.0.settings ≡ Some key → me.0.out ≡ None → 0 < me.0.count → MayStamp records needs steps stands key entry news me.0
      → Allows (FactsOfParts needs steps stands key) slots id me 0 (λ n. (n + 1) % 2 ^ 64) (stamped_as needs steps stands plan (step slots 0 1 0 none) me)
  stamps_at records frame plan entry news plan_is bare settings out some_number may =
      subst (λ (o : Option (N × List (ℕ × T))). Allows (FactsOfParts needs steps stands key) slots id me 0 (λ n. (n + 1) % 2 ^ 64) (stamped_as needs steps stands o (step slots 0 1 0 none) me)) (sym plan_is)
      (with_slots (λ m. Allows (FactsOfParts needs steps stands key) slots id m 0 (λ n. (n + 1) % 2 ^ 64) (stamped_as needs steps stands (Some (entry, news)) (step slots 0 1 0 none) m)) [] bare
      (stamps needs steps stands key records frame slots id me.0 entry news settings out some_number may))

  pub takes_at : (word k : ℕ) → word ≡ word_of k → ((event : E) (hand : List (ℕ × T)) (k : ℕ) → IsTakenFor needs key event hand → needs key event hand ≡ Some k → (y : T) → ¬ Has (k, y) hand)
      → (name : ℕ) (asked : Option E) (event : E) → asked ≡ Some event → k < slots → name ≡ me.0.first + 1 → me.1 ≡ [] → me.0.settings ≡ Some key → me.0.out ≡ None → 0 < me.0.count → MayTake needs key event k me.0
      → Allows (FactsOfParts needs steps stands key) slots id me word (λ n. either (n == 0) name n) (took needs steps stands asked (step slots word 0 name none) me)
  takes_at word k word_is apart name asked event asked_is inside name_is bare settings out some_number may =
      subst (λ (i : ℕ). Allows (FactsOfParts needs steps stands key) slots id me i (λ n. either (n == 0) name n) (took needs steps stands asked (step slots i 0 name none) me)) (sym word_is)
      (subst (λ (o : Option E). Allows (FactsOfParts needs steps stands key) slots id me (word_of k) (λ n. either (n == 0) name n) (took needs steps stands o (step slots (word_of k) 0 name none) me)) (sym asked_is)
      (with_slots (λ m. Allows (FactsOfParts needs steps stands key) slots id m (word_of k) (λ n. either (n == 0) name n) (took needs steps stands (Some event) (step slots (word_of k) 0 name none) m)) [] bare
      (takes_or_not needs steps stands key apart slots id k name me.0 event inside name_is settings out some_number may)))

  pub shelves_at : (word k : ℕ) → word ≡ word_of k → me.1 ≡ (k, None) ∷ [] → me.0.out ≡ Some k → Allows (FactsOfParts needs steps stands key) slots id me word (λ n. n) (shelved (step slots word 0 0 none) me)
  shelves_at word k word_is slot out = subst (λ (i : ℕ). Allows (FactsOfParts needs steps stands key) slots id me i (λ n. n) (shelved (step slots i 0 0 none) me)) (sym word_is)
      (with_slots (λ m. Allows (FactsOfParts needs steps stands key) slots id m (word_of k) (λ n. n) (shelved (step slots (word_of k) 0 0 none) m)) ((k, None) ∷ []) slot (shelves needs steps stands key slots id k me.0 out))

  pub fetches_at : (word k : ℕ) → word ≡ word_of k → (x : T) → me.1 ≡ [] → Has (k, x) me.0.hand → me.0.out ≡ None → Allows (FactsOfParts needs steps stands key) slots id me word (λ n. n) (fetched (step slots word 0 0 none) me)
  fetches_at word k word_is x bare has out = subst (λ (i : ℕ). Allows (FactsOfParts needs steps stands key) slots id me i (λ n. n) (fetched (step slots i 0 0 none) me)) (sym word_is)
      (with_slots (λ m. Allows (FactsOfParts needs steps stands key) slots id m (word_of k) (λ n. n) (fetched (step slots (word_of k) 0 0 none) m)) [] bare (fetches needs steps stands key slots id k me.0 x has out))

  pub gives_at : (word k : ℕ) → word ≡ word_of k → (x : T) → me.1 ≡ (k, Some x) ∷ [] → Has (k, x) me.0.hand → me.0.out ≡ Some k → Allows (FactsOfParts needs steps stands key) slots id me word (λ _. 0) (λ _. gave (step slots word 0 0 none) me 0)
  gives_at word k word_is x slot has out = subst (λ (i : ℕ). Allows (FactsOfParts needs steps stands key) slots id me i (λ _. 0) (λ _. gave (step slots i 0 0 none) me 0)) (sym word_is)
      (with_slots (λ m. Allows (FactsOfParts needs steps stands key) slots id m (word_of k) (λ _. 0) (λ _. gave (step slots (word_of k) 0 0 none) m 0)) ((k, Some x) ∷ []) slot (gives_back needs steps stands key slots id k me.0 x has out))

-- What one step on the table tells the pass that makes it. For proofs alone.
use Rattle.std.specs.Prelude.{◌≡◌, ◌≢◌, ◌≤◌, ℕ, List, ◌∷◌, Option, Some, None}
use Rattle.atomic_table.specs.Table.{Me, Step, rest}
use Rattle.ca_base.specs.declared.limits.TheConstants.{MAX_PASSES}
use Rattle.ca_parts.specs.declared.view.View.{View}
use Rattle.ca_parts.specs.Views.{with_part, with_refusal, with_look, with_entry, without_part}
use Rattle.ca_parts.specs.Facts.{word_of}
use Rattle.ca_parts.specs.Calls.{IsMoment, WasTaken}

module _ {S E N T : Type 0} where
  -- the value of the part is on its way to the caller
  abbrev pub sent_out : ℕ → View S E N T → View S E N T
  sent_out k v = record v { out = Some k }

  -- no value is on its way
  abbrev pub settled : View S E N T → View S E N T
  settled v = record v { out = None }

  -- the part was free and is in hand, with its slot; or its word was taken, and it is one refusal more
  abbrev pub took : (S → E → List (ℕ × T) → Option ℕ) → (S → List N → N → Type 0) → (S → List N → ℕ → T → Type 0) → Option E → Step (Option T) → Me (Option T) (View S E N T) → ℕ → Me (Option T) (View S E N T) → Type 0
  took needs steps stands event s m found m' = (k : ℕ) → s.word ≡ word_of k
      → (found ≡ 0 → (e : E) → event ≡ Some e → (x : T) × (m'.0 ≡ sent_out k (with_part e k x m.0)) × (m'.1 ≡ (k, Some x) ∷ m.1))
      × (found ≢ 0 → (m' ≡ (with_refusal k m.0, m.1)) × ((key : S) → m.0.settings ≡ Some key → WasTaken needs steps stands key k m.0) × (m.0.share ≢ MAX_PASSES))

  -- the slot that was taken last is home again
  abbrev pub shelved : Step (Option T) → Me (Option T) (View S E N T) → ℕ → Me (Option T) (View S E N T) → Type 0
  shelved s m found m' = m' ≡ (settled m.0, rest m.1)

  -- the empty slot of a part in hand is fetched from its home
  abbrev pub fetched : Step (Option T) → Me (Option T) (View S E N T) → ℕ → Me (Option T) (View S E N T) → Type 0
  fetched s m found m' = (k : ℕ) → s.word ≡ word_of k → m' ≡ (sent_out k m.0, (k, None) ∷ m.1)

  -- the part is free, and its slot is home
  abbrev pub gave : Step (Option T) → Me (Option T) (View S E N T) → ℕ → Me (Option T) (View S E N T) → Type 0
  gave s m found m' = (k : ℕ) → s.word ≡ word_of k → m' ≡ (settled (without_part k m.0), rest m.1)

  abbrev pub looked : (S → E → List (ℕ × T) → Option ℕ) → (S → List N → N → Type 0) → (S → List N → ℕ → T → Type 0) → Step (Option T) → Me (Option T) (View S E N T) → ℕ → Me (Option T) (View S E N T) → Type 0
  looked needs steps stands s m found m' = (m' ≡ (with_look found m.0, m.1)) × ((key : S) → m.0.settings ≡ Some key → IsMoment needs steps stands key found m.0)

  abbrev pub stamped_as : (S → E → List (ℕ × T) → Option ℕ) → (S → List N → N → Type 0) → (S → List N → ℕ → T → Type 0) → Option (N × List (ℕ × T)) → Step (Option T) → Me (Option T) (View S E N T) → ℕ → Me (Option T) (View S E N T) → Type 0
  stamped_as needs steps stands plan s m found m' = ((entry : N) (news : List (ℕ × T)) → plan ≡ Some (entry, news) → m' ≡ (with_entry entry news found m.0, m.1)) × ((key : S) → m.0.settings ≡ Some key → IsMoment needs steps stands key found m.0)

  -- no share is above the whole
  abbrev pub weighed : Step (Option T) → Me (Option T) (View S E N T) → ℕ → Me (Option T) (View S E N T) → Type 0
  weighed s m found m' = (m' ≡ m) × (m.0.share ≤ MAX_PASSES)

-- The facts of parts: what holds between any two steps, in every schedule, for any number of passes. Contracts cite it.
-- The words of a row are the clock, word 0, and one word for each part; the homes are the places of the values; the views are what the passes know.
use Rattle.std.specs.Prelude.{◌≡◌, ◌≢◌, ℕ, ◌+◌, ◌-◌, ◌*◌, ◌<◌, ◌≤◌, ◌⊎◌, true, false, List, [], length, take, Option, Some, None, slice_get, slice_index}
use mathlib.Core.Option.{some}
use mathlib.Core.Option as maybe
use lib.ListN.{get_elem?}
use Rattle.atomic_table.specs.Table.{State}
use Rattle.ca_base.specs.declared.limits.TheConstants.{MAX_PASSES, LATE_STAMP}
use Rattle.ca_parts.specs.declared.words.TheConstants.{WORDS_APART}
use Rattle.ca_parts.specs.declared.view.View.{View}
use Rattle.ca_parts.specs.Lists.{Has, EachFollows, bit, below, times, total, numbers_of}
use Rattle.ca_parts.specs.Hands.{IsTakenFor, AllStand}

-- the word of a part
abbrev pub word_of : ℕ → ℕ
word_of k = WORDS_APART * (k + 1)

-- how many words stand for this many parts and the clock
abbrev pub word_count : ℕ → ℕ
word_count parts = WORDS_APART * (parts + 1)

-- a part whose word and home these are, and which is in so many hands: its word is free and its value is home, or it is in one hand
pub record IsPart {T : Type 0} (stands : ℕ → T → Type 0) (k word : ℕ) (home : maybe.Option (maybe.Option (Option T))) (hands : ℕ) : Type 0 where
  pub free : word ≡ 0 → (hands ≡ 0) × ((x : T) × (home ≡ some (some (Some x))) × stands k x)
  pub taken : word ≢ 0 → hands ≡ 1

module _ {S E N T : Type 0} where
  -- 1 where the part is in the pass's hand, and else 0
  abbrev pub held : ℕ → View S E N T → ℕ
  held k v = times k (numbers_of v.hand)

  -- 1 where the pass has an entry of this stamp, and else 0
  abbrev pub stamped : ℕ → View S E N T → ℕ
  stamped n v = times n (numbers_of v.entries)

  -- 1 where the pass has this number in its range, and else 0
  abbrev pub covers : ℕ → View S E N T → ℕ
  covers n v = below n (v.first + v.count) - below n v.first

  -- its late entries, and its numbers that have none yet
  abbrev pub late_or_fresh : View S E N T → ℕ
  late_or_fresh v = v.late + (v.count - bit v.burnt)

  -- a pass that another took in has nothing
  pub record IsSpent (v : View S E N T) : Type 0 where
    pub no_share : v.share ≡ 0
    pub no_part : v.hand ≡ []
    pub no_entry : v.entries ≡ []
    pub no_note : v.notes ≡ []
    pub none_late : v.late ≡ 0

  -- what is true of each pass, after the list of all entries so far
  pub record IsPass (needs : S → E → List (ℕ × T) → Option ℕ) (stands : S → List N → ℕ → T → Type 0) (key : S) (log : List N) (words : List ℕ) (homes : List (maybe.Option (Option T))) (v : View S E N T) : Type 0 where
    -- a part in hand: its word names the pass, its value is what it stands for, and its home is empty
    pub in_hand : (k : ℕ) (x : T) → Has (k, x) v.hand → (k < length homes) × (slice_index words (word_of k) ≡ v.first + 1) × stands key log k x × (v.out ≢ Some k → get_elem? homes k ≡ some (some None))
    pub out_of_home : (k : ℕ) → v.out ≡ Some k → (x : T) × Has (k, x) v.hand
    -- the hand of a taking pass is what the event of its call needs, in the order of taking
    pub in_order : v.giving ≡ false → (v.hand ≡ []) ⊎ ((event : E) × (v.event ≡ Some event) × IsTakenFor needs key event v.hand)
    pub entries_true : (n : ℕ) (entry : N) → Has (n, entry) v.entries → slice_get log n ≡ Some entry
    -- a note says truly what parts stood for after the first n entries
    pub notes_true : (n : ℕ) (hand : List (ℕ × T)) → Has (n, hand) v.notes → (n ≤ length log) × AllStand (stands key (take n log)) hand
    pub looked_true : (n : ℕ) → v.looked ≡ Some n → (n ≤ length log) × (v.burnt ≡ true → LATE_STAMP ≤ n)
    pub burnt_true : v.burnt ≡ true → LATE_STAMP < length log
    pub room : v.count ≤ v.share
    pub spent : v.count ≡ 0 → IsSpent v

  pub record FactsOfParts (needs : S → E → List (ℕ × T) → Option ℕ) (steps : S → List N → N → Type 0) (stands : S → List N → ℕ → T → Type 0) (key : S) (s : State (Option T) (View S E N T)) : Type 0 where
    -- all entries so far, in the order of their stamps
    pub log : List N
    pub follows : EachFollows (steps key) [] log
    pub shape : length s.words ≡ word_count (length s.homes)
    pub clock : slice_index s.words 0 ≡ length log
    pub part : (k : ℕ) → k < length s.homes → IsPart (stands key log) k (slice_index s.words (word_of k)) (get_elem? s.homes k) (total (held k) s.views)
    pub pass : (id : ℕ) (v : View S E N T) → get_elem? s.views id ≡ some v → IsPass needs stands key log s.words s.homes v
    -- the stamps are the numbers below the clock, each once
    pub once : (n : ℕ) → total (stamped n) s.views ≡ below n (length log)
    pub shares : total (λ v. v.share) s.views ≡ MAX_PASSES
    -- no number is in the ranges of two passes
    pub ranges : (n : ℕ) → total (covers n) s.views ≤ 1
    -- no number has two late entries, so the clock never comes near its end
    pub late_once : total late_or_fresh s.views ≤ MAX_PASSES
    pub clock_ends : length log ≤ LATE_STAMP + total (λ v. v.late) s.views

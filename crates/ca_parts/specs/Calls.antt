-- What the calls on a row ask and show. Contracts cite it.
use Rattle.std.specs.Prelude.{◌≡◌, ◌≢◌, ℕ, ◌<◌, ◌≤◌, ◌⊎◌, false, List, [], ◌∷◌, ◌++◌, length, take, Option, Some, None, slice_get, slice_index}
use mathlib.Core.Option.{some}
use lib.ListN.{get_elem?}
use Rattle.atomic_table.specs.Table.{State}
use Rattle.ca_base.specs.declared.limits.TheConstants.{LATE_STAMP}
use Rattle.ca_parts.specs.declared.view.View.{View}
use Rattle.ca_parts.specs.Lists.{Has, EachFollows, below, numbers_of}
use Rattle.ca_parts.specs.Hands.{AllStand}
use Rattle.ca_parts.specs.Facts.{word_of, stamped, FactsOfParts}

module _ {S E N T : Type 0} where
  -- the pass may take this part for the event: it is the next one that the event needs, and the pass has taken for this event alone, and neither stamped nor given, since its hand was empty
  pub record MayTake (needs : S → E → List (ℕ × T) → Option ℕ) (key : S) (event : E) (k : ℕ) (v : View S E N T) : Type 0 where
    pub next : needs key event v.hand ≡ Some k
    pub taking : (v.hand ≡ []) ⊎ ((v.giving ≡ false) × (v.event ≡ Some event))

  -- the pass may stamp the entry, after which the parts in hand stand for the news: it has looked and read less than a late stamp, it has all that the entry's event needs, and the entry is one step of the machine after every list after which the parts in hand stand for their values
  pub record MayStamp (records : N → E → Type 0) (needs : S → E → List (ℕ × T) → Option ℕ) (steps : S → List N → N → Type 0) (stands : S → List N → ℕ → T → Type 0) (key : S) (entry : N) (news : List (ℕ × T)) (v : View S E N T) : Type 0 where
    pub looked : (n : ℕ) × (v.looked ≡ Some n) × (n < LATE_STAMP)
    pub event : E
    pub recorded : records entry event
    pub taking : (v.hand ≡ []) ⊎ ((v.giving ≡ false) × (v.event ≡ Some event))
    pub all : needs key event v.hand ≡ None
    pub same_parts : numbers_of news ≡ numbers_of v.hand
    pub step : (log : List N) → AllStand (stands key log) v.hand → steps key log entry × AllStand (stands key (log ++ entry ∷ [])) news

  module _ (needs : S → E → List (ℕ × T) → Option ℕ) (steps : S → List N → N → Type 0) (stands : S → List N → ℕ → T → Type 0) (key : S) where
    -- at one moment of the call the facts of parts held, the clock was n, and the pass knew v
    pub record IsMoment (n : ℕ) (v : View S E N T) : Type 0 where
      pub state : State (Option T) (View S E N T)
      pub facts : FactsOfParts needs steps stands key state
      pub clock : slice_index state.words 0 ≡ n
      pub id : ℕ
      pub pass : get_elem? state.views id ≡ some v

    -- at one moment of the call the facts of parts held, the part's word was taken, and the pass knew v
    pub record WasTaken (k : ℕ) (v : View S E N T) : Type 0 where
      pub state : State (Option T) (View S E N T)
      pub facts : FactsOfParts needs steps stands key state
      pub taken : slice_index state.words (word_of k) ≢ 0
      pub id : ℕ
      pub pass : get_elem? state.views id ≡ some v

    -- what a pass that knows v sees of the first n entries: they are a history of the machine, after which the parts in hand stand for their values; its own entries and notes are true of them
    pub record Sees (n : ℕ) (v : View S E N T) : Type 0 where
      pub log : List N
      pub length_is : length log ≡ n
      pub follows : EachFollows (steps key) [] log
      pub hand_stands : AllStand (stands key log) v.hand
      pub entries_true : (m : ℕ) (entry : N) → Has (m, entry) v.entries → (m < n) × (slice_get log m ≡ Some entry)
      pub notes_true : (m : ℕ) (hand : List (ℕ × T)) → Has (m, hand) v.notes → (m ≤ n) × AllStand (stands key (take m log)) hand
      pub look_before : (m : ℕ) → v.looked ≡ Some m → m ≤ n

    -- the whole history, of n entries: it is one of the machine, the values stand for it, the pass has all its entries, each once and at its stamp, and every note is true of it
    pub record IsWhole (n : ℕ) (values : List T) (v : View S E N T) : Type 0 where
      pub log : List N
      pub length_is : length log ≡ n
      pub follows : EachFollows (steps key) [] log
      pub values_stand : (k : ℕ) (x : T) → slice_get values k ≡ Some x → stands key log k x
      pub entries_true : (m : ℕ) (entry : N) → Has (m, entry) v.entries → (m < n) × (slice_get log m ≡ Some entry)
      pub entries_all : (m : ℕ) → stamped m v ≡ below m n
      pub notes_true : (m : ℕ) (hand : List (ℕ × T)) → Has (m, hand) v.notes → (m ≤ n) × AllStand (stands key (take m log)) hand

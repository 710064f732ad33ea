-- How each call changes what a pass knows. Contracts cite it.
use Rattle.std.specs.Prelude.{ℕ, ◌+◌, ◌-◌, ◌/◌, Bool, true, false, ◌||◌, nat_le, List, [], ◌∷◌, ◌++◌, Some, None}
use Rattle.ca_base.specs.declared.limits.TheConstants.{MAX_PASSES, LATE_STAMP}
use Rattle.ca_parts.specs.declared.view.View.{View}
use Rattle.ca_parts.specs.Lists.{bit, without}

-- a stamp after which its pass number has no other
abbrev pub is_late : ℕ → Bool
is_late n = nat_le LATE_STAMP n

module _ {S E N T : Type 0} where
  -- the first pass over a row
  abbrev pub first_view : S → View S E N T
  first_view key = record { settings = Some key; first = 0; count = MAX_PASSES; share = MAX_PASSES; passes = 1; event = None; giving = false; out = None; hand = []; looked = None; refused = []; notes = []; entries = []; late = 0; burnt = false }

  -- the part is in hand, last of all, with the value, and it was taken for the event
  abbrev pub with_part : E → ℕ → T → View S E N T → View S E N T
  with_part event k x v = record v { event = Some event; giving = false; hand = v.hand ++ (k, x) ∷ [] }

  -- the part is one refusal more
  abbrev pub with_refusal : ℕ → View S E N T → View S E N T
  with_refusal k v = record v { refused = v.refused ++ k ∷ [] }

  -- the clock was read as n, and it is noted that the parts in hand stood for their values after n entries
  abbrev pub with_look : ℕ → View S E N T → View S E N T
  with_look n v = record v { looked = Some n; notes = v.notes ++ (n, v.hand) ∷ [] }

  -- the entry has the stamp n, and the parts in hand stand for new values
  abbrev pub with_entry : N → List (ℕ × T) → ℕ → View S E N T → View S E N T
  with_entry entry news n v = record v { giving = true; hand = news; looked = None; entries = v.entries ++ (n, entry) ∷ []; late = v.late + bit (is_late n); burnt = v.burnt || is_late n }

  -- the part is out of hand
  abbrev pub without_part : ℕ → View S E N T → View S E N T
  without_part k v = record v { giving = true; hand = without k v.hand }

  -- what a pass keeps that gives half of its numbers and share away: the lower half, rounded up
  abbrev pub lower_half : View S E N T → View S E N T
  lower_half v = record v { count = v.count - v.count / 2; share = v.share - v.share / 2 }

  -- the new pass: the upper half, rounded down, and nothing else
  abbrev pub upper_half : View S E N T → View S E N T
  upper_half v = record { settings = v.settings; first = v.first + (v.count - v.count / 2); count = v.count / 2; share = v.share / 2; passes = 1; event = None; giving = false; out = None; hand = []; looked = None; refused = []; notes = []; entries = []; late = 0; burnt = false }

  -- a pass with what another had: its share, the passes that it is made of, its refusals, notes and entries. The numbers of
  -- the other are not used again
  abbrev pub joined_with : View S E N T → View S E N T → View S E N T
  joined_with v w = record v { share = v.share + w.share; passes = v.passes + w.passes; refused = v.refused ++ w.refused; notes = v.notes ++ w.notes; entries = v.entries ++ w.entries; late = v.late + w.late }

  -- what is left of a pass that another took in
  abbrev pub spent_view : View S E N T
  spent_view = record { settings = None; first = 0; count = 0; share = 0; passes = 0; event = None; giving = false; out = None; hand = []; looked = None; refused = []; notes = []; entries = []; late = 0; burnt = false }

-- What came of reading by asks: where none is denied, the marks of what was read, and else those that there were. Contracts
-- cite it.
use Rattle.std.specs.Prelude.{◌≡◌, ◌+◌, ◌≤◌, Bool, true, false, List, [], ◌∷◌, ◌++◌, Result, Ok, Err, None, is_some, length, take}
use Rattle.ca_keys.specs.declared.access.Ask.{Ask}
use Rattle.ca_keys.specs.declared.memory.Memory.{Memory}
use Rattle.ca_keys.specs.declared.verdict.Verdict.TheVariants as verdicts
use Rattle.ca_base.specs.Sight.{Sight, bytes_in, denial_in, first_denied}
use Rattle.ca_qpstate.specs.ca_model.Marks.{MarkList}
use Rattle.ca_qp_rows.specs.Asks.{mark_of, payload_of, read_marks, reads_by, touched_by}
use Rattle.ca_qp_rows.specs.Made.{AreAdded}

-- none is denied: each was read, as many bytes as it touches, and has its mark
pub record AreRead (s : Sight) (asks : List Ask) (before after : MarkList) : Type 0 where
  pub granted : first_denied s asks ≡ None
  pub marks : after.marks ≡ before.marks ++ read_marks (reads_by s asks)
  pub room : before.room ≤ after.room + length asks
  pub count : length (payload_of (reads_by s asks)) ≡ touched_by asks

-- one is denied: some marks may stand behind those that there were
pub record IsOneDenied (s : Sight) (asks : List Ask) (before after : MarkList) : Type 0 where
  pub denied : is_some (first_denied s asks) ≡ true
  pub front : take (length before.marks) after.marks ≡ before.marks
  pub room : before.room ≤ after.room + length asks

abbrev pub IsReading : Sight → List Ask → Result Bool Memory → MarkList → MarkList → Type 0
IsReading s asks (Ok true) before after = AreRead s asks before after
IsReading s asks (Ok false) before after = IsOneDenied s asks before after
IsReading s asks (Err memory) before after = take (length before.marks) after.marks ≡ before.marks

-- one ask was read, and has its mark
pub record IsRead (s : Sight) (ask : Ask) (before after : MarkList) : Type 0 where
  pub granted : denial_in s ask ≡ None
  pub marks : AreAdded (mark_of ask (verdicts.Read (bytes_in s ask)) ∷ []) before after
  pub count : length (bytes_in s ask) ≡ ask.touch

-- one ask was denied, and no mark was added
pub record IsDenied (s : Sight) (ask : Ask) (before after : MarkList) : Type 0 where
  pub denied : is_some (denial_in s ask) ≡ true
  pub marks : AreAdded [] before after

abbrev pub IsReadingOne : Sight → Ask → Result Bool Memory → MarkList → MarkList → Type 0
IsReadingOne s ask (Ok true) before after = IsRead s ask before after
IsReadingOne s ask (Ok false) before after = IsDenied s ask before after
IsReadingOne s ask (Err memory) before after = after.marks ≡ before.marks

-- What a call of an engine makes: the effects of its row where it answers Ok, and nothing where it answers an error.
-- Contracts cite it.
use Rattle.std.specs.Prelude.{◌≡◌, ℕ, ◌+◌, ◌≤◌, List, [], ◌∷◌, ◌++◌, Result, Ok, Err, length}
use Rattle.ca_keys.specs.declared.access.Ask.{Ask}
use Rattle.ca_base.specs.declared.step.Reason.{Reason}
use Rattle.ca_base.specs.declared.step.Sent.{Sent}
use Rattle.ca_base.specs.declared.step.ActError.{ActError}
use Rattle.ca_base.specs.declared.step.ActError.TheVariants as steps
use Rattle.ca_base.specs.objects.QueuePair.{QueuePair}
use Rattle.ca_wire.specs.declared.packet.TheConstants.{MAX_PACKET_BYTES}
use Rattle.ca_qpstate.specs.ca_model.Marks.{MarkList}
use Rattle.ca_qpstate.specs.ca_model.declared.mark.Mark.{Mark}
use Rattle.ca_qpstate.specs.ca_model.declared.marks.TheConstants.{SPARE_MARKS}
use Rattle.ca_qpstate.specs.ca_model.machine.Row.{Effects, Ending, NotPossible, Does}

-- marks were added in the spare room
pub record AreAdded (more : List Mark) (before after : MarkList) : Type 0 where
  pub marks : after.marks ≡ before.marks ++ more
  pub room : before.room ≤ after.room + length more

-- nothing changed
pub record IsUnchanged (queue_before queue_after : QueuePair) (before after : MarkList) : Type 0 where
  pub queue : queue_after ≡ queue_before
  pub marks : after.marks ≡ before.marks

-- these effects were made: the new queue pair, and their marks behind those that there were; and the spare room is
-- there
pub record HasMade (e : Effects) (queue_after : QueuePair) (before after : MarkList) : Type 0 where
  pub queue : queue_after ≡ e.queue
  pub marks : after.marks ≡ before.marks ++ e.marks
  pub room : SPARE_MARKS ≤ after.room

-- a call made these effects, or nothing
abbrev pub IsMade : {A E : Type 0} → Result A E → Effects → QueuePair → QueuePair → MarkList → MarkList → Type 0
IsMade (Ok done) e queue_before queue_after before after = HasMade e queue_after before after
IsMade (Err error) e queue_before queue_after before after = IsUnchanged queue_before queue_after before after

-- what is reached after these writes
abbrev pub written_all : {S : Type 0} → (S → Ask → List ℕ → S) → S → List (Ask × List ℕ) → S
written_all f s [] = s
written_all f s (x ∷ xs) = written_all f (f s x.0 x.1) xs

-- the row's effects were made, and what they write
abbrev pub HasEnded : {S : Type 0} → (S → Ask → List ℕ → S) → Ending → QueuePair → MarkList → MarkList → S → S → Type 0
HasEnded written (Does e) queue_after before after reach_before reach_after =
    HasMade e queue_after before after × (reach_after ≡ written_all written reach_before e.writes)
HasEnded written (NotPossible reason) queue_after before after reach_before reach_after = ⊥

-- a packet was taken as its row ends, or nothing changed
abbrev pub IsTaking : {S A E : Type 0} → (S → Ask → List ℕ → S) → Result A E → Ending → QueuePair → QueuePair → MarkList → MarkList → S → S → Type 0
IsTaking written (Ok done) ending queue_before queue_after before after reach_before reach_after =
    HasEnded written ending queue_after before after reach_before reach_after
IsTaking written (Err error) ending queue_before queue_after before after reach_before reach_after =
    IsUnchanged queue_before queue_after before after × (reach_after ≡ reach_before)

-- bytes were added to those that there were, no more than a packet has
pub record IsSpelt (bytes out_before out_after : List ℕ) : Type 0 where
  pub spelt : out_after ≡ out_before ++ bytes
  pub size : length out_after ≤ length out_before + MAX_PACKET_BYTES

-- the row's effects were made, what they write, and the packet that they spell
abbrev pub HasTurned : {S : Type 0} → (S → Ask → List ℕ → S) → Sent → Ending → QueuePair → MarkList → MarkList → S → S → List ℕ → List ℕ → Type 0
HasTurned written sent (Does e) queue_after before after reach_before reach_after out_before out_after =
    (sent ≡ e.sent) × (HasMade e queue_after before after × ((reach_after ≡ written_all written reach_before e.writes) × IsSpelt e.spelt out_before out_after))
HasTurned written sent (NotPossible reason) queue_after before after reach_before reach_after out_before out_after = ⊥

-- the row is not possible, for this reason
abbrev pub IsUnable : Ending → Reason → Type 0
IsUnable (Does e) reason = ⊥
IsUnable (NotPossible r) reason = reason ≡ r

-- a turn was done as its row ends, or nothing changed
abbrev pub IsTurn : {S : Type 0} → (S → Ask → List ℕ → S) → Result Sent ActError → Ending → QueuePair → QueuePair → MarkList → MarkList → S → S → List ℕ → List ℕ → Type 0
IsTurn written (Ok sent) ending queue_before queue_after before after reach_before reach_after out_before out_after =
    HasTurned written sent ending queue_after before after reach_before reach_after out_before out_after
IsTurn written (Err (steps.NotReady reason)) ending queue_before queue_after before after reach_before reach_after out_before out_after =
    IsUnable ending reason × (IsUnchanged queue_before queue_after before after × ((reach_after ≡ reach_before) × (out_after ≡ out_before)))
IsTurn written (Err steps.Memory) ending queue_before queue_after before after reach_before reach_after out_before out_after =
    IsUnchanged queue_before queue_after before after × ((reach_after ≡ reach_before) × (out_after ≡ out_before))

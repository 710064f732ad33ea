-- How a request is taken: as its row ends, also for the key that it ends and for the receive that it takes of a shared
-- receive queue. Contracts cite it.
use Rattle.std.specs.Prelude.{◌≡◌, ℕ, ◌<◌, Bool, true, false, if◌then◌else◌, List, Option, None, Some, Result, Ok, Err, IfSome, is_none}
use Rattle.std.specs.Option.{option_map}
use Rattle.ca_keys.specs.declared.access.Ask.{Ask}
use Rattle.ca_keys.specs.declared.memory.Memory.{Memory}
use Rattle.ca_base.specs.declared.denied_ask.DeniedAsk.{DeniedAsk}
use Rattle.ca_base.specs.Sight.{Invalidation, Sight, first_denied}
use Rattle.ca_base.specs.objects.QueuePair.{QueuePair}
use Rattle.ca_base.specs.objects.SharedReceives.{SharedReceives, after_receive_take}
use Rattle.ca_keys.specs.Numbers.{is_window_key}
use Rattle.ca_grant.specs.Reaching.{AreAtHand, invalidation_by}
use Rattle.ca_model.specs.Marks.{MarkList}
use Rattle.ca_model.specs.machine.Row.{Effects, Ending, NotPossible, Does, Row, ending_of}
use Rattle.ca_responder_answers.specs.ca_qp_rows.Made.{HasMade, IsUnchanged, written_all}
use Rattle.ca_responder_operations.specs.declared.request.SharedReceive.{SharedReceive}
use Rattle.ca_responder_operations.specs.declared.request.SharedReceive.TheVariants.{Stays, Taken}

-- the next receive of the shared receive queue is taken
abbrev pub is_taken : SharedReceive → Bool
is_taken Stays = false
is_taken Taken = true

-- the end of a key, where it is not refused
abbrev pub unless_refused : Sight → Option Invalidation → Option Invalidation
unless_refused s None = None
unless_refused s (Some i) = if is_none (s.refusal i) then Some i else None

-- the key that a row ends: none where one of its asks is denied, and none where the end is refused
abbrev pub ended_by : Sight → Row → Option Invalidation
ended_by s row = by (first_denied s row.asks)
  where
    by : Option DeniedAsk → Option Invalidation
    by (Some denied) = None
    by None = unless_refused s row.invalidation

-- what a row comes to: how it ends, and the key that is gone then
pub record Outcome : Type 0 where
  pub ending : Ending
  pub ended : Option Invalidation

-- what a row comes to, by what is seen of keys and memory
abbrev pub outcome_in : Sight → Row → Outcome
outcome_in s row = record { ending = ending_of s row; ended = ended_by s row }

-- these effects, with which this key is gone, if any
abbrev pub does : Effects → Option Invalidation → Outcome
does e ended = record { ending = Does e; ended = ended }

-- what is reached after a key ended, if one did
abbrev pub without_key : {S : Type 0} → (S → Invalidation → S) → Option Invalidation → S → S
without_key f None s = s
without_key f (Some i) s = f s i

-- the effects were made, what they write, and the end of the key; and it is said whether a shared receive is to be taken
abbrev pub HasTaken : {S : Type 0} → (S → Ask → List ℕ → S) → (S → Invalidation → S) → SharedReceive → Ending → Option Invalidation
    → QueuePair → MarkList → MarkList → S → S → Type 0
HasTaken written revoked shared (Does e) ended queue_after before after reach_before reach_after =
    (is_taken shared ≡ e.takes_shared) × (HasMade e queue_after before after × (reach_after ≡ without_key revoked ended (written_all written reach_before e.writes)))
HasTaken written revoked shared (NotPossible reason) ended queue_after before after reach_before reach_after = ⊥

-- a packet is taken as its row comes out, but for the receive of the shared queue, or nothing changed
abbrev pub IsTaken : {S : Type 0} → (S → Ask → List ℕ → S) → (S → Invalidation → S) → Result SharedReceive Memory → Outcome
    → QueuePair → QueuePair → MarkList → MarkList → S → S → Type 0
IsTaken written revoked (Ok shared) o queue_before queue_after before after reach_before reach_after =
    HasTaken written revoked shared o.ending o.ended queue_after before after reach_before reach_after
IsTaken written revoked (Err memory) o queue_before queue_after before after reach_before reach_after =
    IsUnchanged queue_before queue_after before after × (reach_after ≡ reach_before)

-- the effects were made, what they write, the end of the key, and what they take of the shared queue
abbrev pub HasArrived : {S : Type 0} → (S → Ask → List ℕ → S) → (S → Invalidation → S) → Ending → Option Invalidation
    → QueuePair → MarkList → MarkList → S → S → Option SharedReceives → Option SharedReceives → Type 0
HasArrived written revoked (Does e) ended queue_after before after reach_before reach_after shared_before shared_after =
    HasMade e queue_after before after × ((reach_after ≡ without_key revoked ended (written_all written reach_before e.writes))
    × (shared_after ≡ (if e.takes_shared then option_map after_receive_take shared_before else shared_before)))
HasArrived written revoked (NotPossible reason) ended queue_after before after reach_before reach_after shared_before shared_after = ⊥

-- a request is taken as its row comes out, or nothing changed
abbrev pub IsArrival : {S : Type 0} → (S → Ask → List ℕ → S) → (S → Invalidation → S) → Result (Unit {0}) Memory → Outcome
    → QueuePair → QueuePair → MarkList → MarkList → S → S → Option SharedReceives → Option SharedReceives → Type 0
IsArrival written revoked (Ok done) o queue_before queue_after before after reach_before reach_after shared_before shared_after =
    HasArrived written revoked o.ending o.ended queue_after before after reach_before reach_after shared_before shared_after
IsArrival written revoked (Err memory) o queue_before queue_after before after reach_before reach_after shared_before shared_after =
    IsUnchanged queue_before queue_after before after × ((reach_after ≡ reach_before) × (shared_after ≡ shared_before))

-- the end of a key may be handed on: it is one of the queue pair's own domain, its parts are at hand, and where it ends a
-- window's key, that window is counted
pub record MayEnd {S : Type 0} (sight : S → Sight) (ends : S → Invalidation → Type 0) (reach : S) (q : QueuePair) (i : Invalidation) : Type 0 where
  pub own : i ≡ invalidation_by i.key i.queue
  pub at_hand : ends reach i
  pub counted : is_window_key i.key ≡ true → (sight reach).refusal i ≡ None → 0 < q.windows

-- a row of a queue pair may be met: its asks are at hand, and so is the key that it ends
pub record CanMeet {S : Type 0} (sight : S → Sight) (judges touches : S → Ask → Type 0) (ends : S → Invalidation → Type 0) (reach : S) (q : QueuePair) (row : Row) : Type 0 where
  pub asks : AreAtHand sight judges touches reach row.asks
  pub ended : IfSome row.invalidation (MayEnd sight ends reach q)

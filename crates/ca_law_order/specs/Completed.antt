-- What the past of a history and the world of the machine say alike of the sends that completed: they stand before all
-- that are unfinished. Laws cite it.
use Rattle.std.specs.Prelude.{◌≡◌, ℕ, ◌≤◌, ◌<◌, true, List, Option, None}
use Rattle.ca_law_keys.specs.Posts.{life}
use Rattle.ca_base.specs.declared.correspondent.Correspondent.{Correspondent}
use Rattle.ca_base.specs.objects.QueuePair.{QueueSlot, NoQueue, Present}
use Rattle.ca_keys.specs.declared.names.QueueId.{QueueId}
use Rattle.ca_model.specs.Ordered.{are_unsignalled, place_behind}
use Rattle.ca_model.specs.Past.{Past, Posted}
use Rattle.ca_model.specs.machine.World.{World}

-- The latest send that completed stands before the oldest that is unfinished, and none between the two is signalled.
pub record StandBefore (posted : List Posted) (last : Option ℕ) (oldest : ℕ) : Type 0 where
  pub before : place_behind last ≤ oldest
  pub between : are_unsignalled posted (place_behind last) oldest ≡ true

-- the same of what stands in a slot
abbrev pub CompletedInSlot : List Posted → Option ℕ → QueueSlot → Type 0
CompletedInSlot posted last (NoQueue incarnation timers) = Unit {0}
CompletedInSlot posted last (Present q) = StandBefore posted last q.requester.oldest

-- Each slot has what completed in its present incarnation; nothing is told of a later one.
pub record AgreeOnCompleted (lives : QueueId → ℕ) (posted : Correspondent → List Posted) (last : Correspondent → Option ℕ) (queue : QueueId → QueueSlot) : Type 0
  where
    pub sends : (q : QueueId) → CompletedInSlot (posted (life q (lives q))) (last (life q (lives q))) (queue q)
    pub later : (q : QueueId) (n : ℕ) → lives q < n → last (life q n) ≡ None

-- what a past and a world say of the sends that completed
abbrev pub CompletedAgree : Past → World → Type 0
CompletedAgree past w = AgreeOnCompleted past.incarnation past.posted past.last_send w.queue

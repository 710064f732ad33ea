-- What the past of a history and the world of the machine say alike of posted send requests: which they are, at which
-- place, and how many local operations were performed. Laws cite it.
use Rattle.std.specs.Prelude.{◌≡◌, ℕ, suc, ◌<◌, true, false, List, [], ◌∷◌, length, map, take, drop}
use Rattle.ca_base.specs.declared.change.State.TheVariants as states
use Rattle.ca_base.specs.declared.correspondent.Correspondent.{Correspondent}
use Rattle.ca_base.specs.declared.request.PostedSend.{PostedSend}
use Rattle.ca_base.specs.objects.QueuePair.{QueuePair, QueueSlot, NoQueue, Present}
use Rattle.ca_base.specs.objects.StateTable.{state_eq}
use Rattle.ca_base.specs.objects.Window.{Window}
use Rattle.ca_base.specs.objects.WorkQueue.{next_place}
use Rattle.ca_keys.specs.declared.names.QueueId.{QueueId}
use Rattle.ca_keys.specs.declared.names.Slot.{Slot}
use Rattle.ca_law_keys.specs.InForce.{is_window_slot, slot_at}
use Rattle.ca_model.specs.Past.{KeySlot, Past, Posted, local_operations}
use Rattle.ca_model.specs.machine.World.{World}

-- a request as it occupies a send queue
abbrev pub as_posted : Posted → PostedSend
as_posted p = record { request = p.request; drawn = p.drawn }

-- each has the place at which it stands, from this one on
abbrev pub AreInPlace : ℕ → List Posted → Type 0
AreInPlace n [] = Unit {0}
AreInPlace n (p ∷ ps) = (p.place ≡ n) × AreInPlace (suc n) ps

-- how many local operations were posted before a place
abbrev pub operations_before : List Posted → ℕ → ℕ
operations_before posted place = length (local_operations (take place posted))

-- What was posted to a queue pair in its life, and its send queue. The requests that occupy the queue are those that
-- were posted last; and, unless it is in Error, as many local operations were performed as stand before the one that
-- begins next.
pub record AgreeOnSends (posted : List Posted) (operations : ℕ) (q : QueuePair) : Type 0 where
  pub places : AreInPlace 0 posted
  pub count : next_place q.sends ≡ length posted
  pub items : q.sends.items ≡ map as_posted (drop q.sends.first posted)
  pub performed : state_eq q.state states.Error ≡ false → operations ≡ operations_before posted q.requester.next

-- the same of what stands in a slot
abbrev pub AgreeInSlot : List Posted → ℕ → QueueSlot → Type 0
AgreeInSlot posted performed (NoQueue incarnation timers) = Unit {0}
AgreeInSlot posted performed (Present q) = AgreeOnSends posted performed q

-- a queue pair in an incarnation
abbrev pub life : QueueId → ℕ → Correspondent
life q incarnation = record { queue = q; incarnation = incarnation }

-- Each slot has what was posted in its present incarnation; nothing is told of a later one. Each window has the byte
-- that its key slot drew last.
pub record AgreeOnPosts (lives : QueueId → ℕ) (posted : Correspondent → List Posted) (performed : Correspondent → ℕ) (bytes : KeySlot → ℕ) (queue : QueueId → QueueSlot) (window : Slot → Window) : Type 0
  where
    pub sends : (q : QueueId) → AgreeInSlot (posted (life q (lives q))) (performed (life q (lives q))) (queue q)
    pub later : (q : QueueId) (n : ℕ) → lives q < n → (posted (life q n) ≡ []) × (performed (life q n) ≡ 0)
    pub drawn : (k : KeySlot) → is_window_slot k ≡ true → bytes k ≡ (window (slot_at k)).drawn

-- what a past and a world say of posted requests
abbrev pub PostsAgree : Past → World → Type 0
PostsAgree past w = AgreeOnPosts past.incarnation past.posted past.performed past.drawn w.queue w.window

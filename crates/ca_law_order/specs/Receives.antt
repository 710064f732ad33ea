-- What the past of a history and the world of the machine say alike of receives: which of a queue pair completed last,
-- and which it holds or takes next. Laws cite it.
use Rattle.std.specs.Prelude.{◌≡◌, ℕ, ◌≤◌, ◌<◌, Bool, true, if◌then◌else◌, List, ◌++◌, map, Option, None, IfSome, IsTrue}
use Rattle.ca_base.specs.declared.correspondent.Correspondent.{Correspondent}
use Rattle.ca_base.specs.objects.QueuePair.{QueuePair, QueueSlot, NoQueue, Present, srq_of}
use Rattle.ca_base.specs.objects.SharedReceives.{SrqSlot}
use Rattle.ca_keys.specs.Memory.{ByteMap}
use Rattle.ca_keys.specs.declared.names.QueueId.{QueueId}
use Rattle.ca_keys.specs.declared.names.Slot.{Slot}
use Rattle.ca_model.specs.Entries.{EntryValue}
use Rattle.ca_model.specs.Ordered.{is_receive_in_order, place_behind}
use Rattle.ca_model.specs.Past.{Past, each_entry, opening_past}
use Rattle.ca_model.specs.declared.mark.Mark.{Mark}
use Rattle.ca_model.specs.declared.mark.Mark.TheVariants as marks
use Rattle.ca_model.specs.machine.Places.{Ascend, first_held, places_in_use}
use Rattle.ca_model.specs.machine.World.{World}

-- a queue pair in an incarnation
abbrev pub life_of : QueueId → ℕ → Correspondent
life_of q incarnation = record { queue = q; incarnation = incarnation }

-- these places, and behind them those of the receives that wait in a shared receive queue, ascend from a place on
abbrev pub AscendTo : ℕ → List ℕ → SrqSlot → Type 0
AscendTo low places slot = IfSome slot.srq (λ s. Ascend low s.next (places ++ map (λ r. r.place) s.waiting))

-- The receives of a queue pair that have not completed lie from this place on: of its own, the one that it holds, or else
-- the one that it takes next; of a shared receive queue, the one that it holds, and behind it all that wait there, in
-- order.
pub record AreBehind (low : ℕ) (srq : Slot → SrqSlot) (q : QueuePair) : Type 0 where
  pub own : IfSome q.receives (λ r. low ≤ first_held r q.responder.message)
  pub shared : IfSome q.srq (λ t. AscendTo low (places_in_use q.responder.message) (srq (srq_of q t)))

-- the same of what stands in a slot
abbrev pub AgreeOnSlot : ℕ → (Slot → SrqSlot) → QueueSlot → Type 0
AgreeOnSlot low srq (NoQueue incarnation timers) = Unit {0}
AgreeOnSlot low srq (Present q) = AreBehind low srq q

-- In each slot the receives lie behind the latest that completed in the present incarnation; nothing is told of a later
-- one.
pub record AgreeOnReceives (lives : QueueId → ℕ) (last : Correspondent → Option ℕ) (queue : QueueId → QueueSlot) (srq : Slot → SrqSlot) : Type 0
  where
    pub receives : (q : QueueId) → AgreeOnSlot (place_behind (last (life_of q (lives q)))) srq (queue q)
    pub later : (q : QueueId) (n : ℕ) → lives q < n → last (life_of q n) ≡ None

-- what a past and a world say of receives
abbrev pub ReceivesAgree : Past → World → Type 0
ReceivesAgree past w = AgreeOnReceives past.incarnation past.last_receive w.queue w.srq

-- a receive completes behind those that its queue pair completed before it
abbrev pub is_receive_done_in_order : Past → Mark → Bool
is_receive_done_in_order past (marks.Done queue completion cause) = if completion.receive then is_receive_in_order past completion else true
is_receive_done_in_order past mark = true

-- each receive of a history does so, over these bytes
abbrev pub AreReceivesInOrder : ByteMap → List EntryValue → Type 0
AreReceivesInOrder bytes es = IsTrue (each_entry is_receive_done_in_order (λ past. true) (opening_past bytes) es)

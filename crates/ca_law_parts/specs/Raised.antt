-- Numbers that only events raise: how large they are at most after so many events. Laws cite it.
use Rattle.std.specs.Prelude.{◌≡◌, ℕ, suc, ◌+◌, ◌*◌, ◌^◌, ◌≤◌, ◌<◌, true, List, [], ◌∷◌, IfSome, is_some}
use Rattle.std.specs.List.{AllByRecursion}
use Rattle.ca_base.specs.Configuration.{Configuration}
use Rattle.ca_base.specs.declared.completion.Completion.{Completion}
use Rattle.ca_base.specs.objects.Mailbox.{Mailbox}
use Rattle.ca_base.specs.objects.QueuePair.{QueuePair, QueueSlot, NoQueue, Present}
use Rattle.ca_base.specs.objects.SharedReceives.{SrqSlot}
use Rattle.ca_base.specs.objects.WorkQueue.{next_place}
use Rattle.ca_model.specs.declared.event.Event.{Event}
use Rattle.ca_model.specs.machine.Frame.{Afterwards}
use Rattle.ca_model.specs.machine.Invariants.{begun_end, is_fresh}
use Rattle.ca_model.specs.machine.Sound.{IsSoundWorld}
use Rattle.ca_model.specs.machine.Step.{step}
use Rattle.ca_model.specs.machine.World.{World, Name, Domain_of, Region_of, Window_of, Cq_of, Srq_of, Queue_of, Mailbox_of, Byte_at, Thing, get}

-- how large whole PSNs are at most after so many events: a change sets at most 24 bits beside the base, and an event goes
-- on by one request, which has at most 4096
abbrev pub psn_bound : ℕ → ℕ
psn_bound events = 2 ^ 25 + 4096 * events

-- the numbers of a queue pair, of which whole PSNs are at most one number, and counts and posting places another; before
-- it sends, no request of it has begun
pub record AreNumbersWithin (psns events : ℕ) (q : QueuePair) : Type 0 where
  pub una : q.requester.una ≤ psns
  pub cursor : q.requester.cursor ≤ psns
  pub begun_end : begun_end q ≤ psns
  pub expected : q.responder.expected ≤ psns
  pub incarnation : q.incarnation ≤ events
  pub timers : q.requester.timers ≤ events
  pub rnrs : q.requester.rnrs ≤ events
  pub sends : next_place q.sends ≤ events
  pub receives : IfSome q.receives (λ r. next_place r ≤ events)
  pub windows : q.windows ≤ events
  pub fresh : is_fresh q.state ≡ true → q.requester.next ≡ q.requester.oldest

-- the slot of a queue pair
abbrev pub IsSlotWithin : ℕ → QueueSlot → Type 0
IsSlotWithin events (NoQueue incarnation timers) = (incarnation ≤ events) × (timers ≤ events)
IsSlotWithin events (Present q) = AreNumbersWithin (psn_bound events) events q

-- a mailbox: how many envelopes it had, and how often each was delivered
abbrev pub IsMailboxWithin : ℕ → Mailbox → Type 0
IsMailboxWithin events m = (m.next ≤ events) × AllByRecursion (λ e. e.delivered ≤ events) m.envelopes

-- a shared receive queue: how many queue pairs use it, and how many receives it had
abbrev pub IsSharedWithin : ℕ → SrqSlot → Type 0
IsSharedWithin events s = (s.users ≤ events) × IfSome s.srq (λ r. r.next ≤ events)

-- what only events raise of a thing, after so many
abbrev pub IsThingWithin : ℕ → (x : Name) → Thing x → Type 0
IsThingWithin events (Domain_of d) v = v.objects ≤ events
IsThingWithin events (Region_of s) r = r.bound ≤ events
IsThingWithin events (Window_of s) w = Unit {0}
IsThingWithin events (Cq_of s) v = Unit {0}
IsThingWithin events (Srq_of s) v = IsSharedWithin events v
IsThingWithin events (Queue_of q) v = IsSlotWithin events v
IsThingWithin events (Mailbox_of q) m = IsMailboxWithin events m
IsThingWithin events (Byte_at p) v = Unit {0}

-- a world after so many events
abbrev pub IsWorldWithin : ℕ → World → Type 0
IsWorldWithin events w = (x : Name) → IsThingWithin events x (get w x)

-- from a world after so many events on, each world that these events lead to is sound, and within one event more
abbrev pub AreWorldsWithin : Configuration → ℕ → World → List Event → Type 0
AreWorldsWithin c n w [] = IsSoundWorld c w × IsWorldWithin n w
AreWorldsWithin c n w (event ∷ events) =
    (IsSoundWorld c w × IsWorldWithin n w) × Afterwards (λ v. AreWorldsWithin c (suc n) v events) (step c w event)

-- the place of a completion can be freed: a send's, or that of a receive of the queue pair's own
abbrev pub CanFree : QueueSlot → Completion → Type 0
CanFree (NoQueue incarnation timers) x = Unit {0}
CanFree (Present q) x = (x.receive ≡ true → is_some q.receives ≡ true) → suc x.place < 2 ^ 64

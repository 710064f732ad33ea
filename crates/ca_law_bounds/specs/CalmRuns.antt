-- Histories in calm weather, and that requesters go on along them. Laws cite it.
use Rattle.std.specs.Prelude.{◌≡◌, ℕ, ◌≤◌, true, IsTrue, List, [], ◌∷◌}
use Rattle.std.specs.List.{list_all}
use Rattle.ca_base.specs.Configuration.{Configuration}
use Rattle.ca_base.specs.declared.correspondent.Correspondent.{Correspondent}
use Rattle.ca_base.specs.objects.QueuePair.{QueuePair, Present}
use Rattle.ca_keys.specs.declared.names.QueueId.{QueueId}
use Rattle.ca_model.specs.declared.event.Event.{Event}
use Rattle.ca_model.specs.declared.event.Event.TheVariants as events
use Rattle.ca_model.specs.Entries.{EntryValue}
use Rattle.ca_model.specs.Once.{is_clean}
use Rattle.ca_model.specs.Past.{Past}
use Rattle.ca_model.specs.machine.Frame.{Afterwards}
use Rattle.ca_model.specs.machine.Invariants.{is_sending}
use Rattle.ca_model.specs.machine.Step.{step}
use Rattle.ca_model.specs.machine.World.{World}
use Rattle.ca_law_lossless.specs.CalmEvents.{AreCalm, IsCalmEvent}
use Rattle.ca_law_lossless.specs.CalmTies.{CursorGoesOn}
use Rattle.ca_law_bounds.specs.Forward.{HasOneWidth}
use Rattle.ca_law_bounds.specs.WorldWeights.{IsFreshAt, cursor_of}

-- Entries from a world on are a run in calm weather: each packet passes, and what is delivered is what is due; nothing
-- is injected or lost, no timer fires, nobody is woken, and no RNR NAK is sent; and what arrives is a packet for its
-- queue pair.
abbrev pub IsCalmRun : Configuration → World → List EntryValue → Type 0
IsCalmRun c w [] = Unit {0}
IsCalmRun c w (e ∷ es) = IsCalmEvent w e.event × AreCalm e.marks × Afterwards (λ v. IsCalmRun c v es) (step c w e.event)

-- no entry lowers the cursor of the requester of a life, once it sends
abbrev pub CursorGoesOnAlong : Correspondent → Configuration → World → List EntryValue → Type 0
CursorGoesOnAlong s c w [] = Unit {0}
CursorGoesOnAlong s c w (e ∷ es) = Afterwards (λ v. CursorGoesOn s w v × CursorGoesOnAlong s c v es) (step c w e.event)

-- every connection is clean: each life that has named a peer is an end of a clean one
abbrev pub AreAllClean : Past → Type 0
AreAllClean past = IsTrue (list_all (λ a. is_clean past a.own) past.namings)

-- no requester that sends goes back, in one life
abbrev pub NoCursorGoesBack : World → World → Type 0
NoCursorGoesBack w v = (n : QueueId) (q p : QueuePair) → w.queue n ≡ Present q → v.queue n ≡ Present p → p.incarnation ≡ q.incarnation
    → is_sending q.state ≡ true → q.requester.cursor ≤ p.requester.cursor

-- The envelope that is delivered wants one delivery and had none, and the cursor at its target is not lowered.
pub record DeliversOnce (w v : World) (name : QueueId) (index : ℕ) : Type 0 where
  pub fresh : IsFreshAt index (w.mailbox name)
  pub cursor : cursor_of (w.queue name) ≤ cursor_of (v.queue name)

-- An event leads on from one world to another: no requester goes back, a delivery is of what had none, and a requester
-- whose turn it is and its peer have one path MTU.
abbrev pub LeadsOn : World → Event → World → Type 0
LeadsOn w (events.Deliver name index) v = NoCursorGoesBack w v × DeliversOnce w v name index
LeadsOn w (events.Request name lot) v = NoCursorGoesBack w v × HasOneWidth w name
LeadsOn w event v = NoCursorGoesBack w v

-- each entry does, from a world on
abbrev pub LeadsOnAlong : Configuration → World → List EntryValue → Type 0
LeadsOnAlong c w [] = Unit {0}
LeadsOnAlong c w (e ∷ es) = Afterwards (λ v. LeadsOn w e.event v × LeadsOnAlong c v es) (step c w e.event)

-- What befell the queue pairs that refused a request: what the past of a history and the world of the machine say alike
-- of NAKs that wait to be sent, and of those that are under way. Laws cite it.
use Rattle.std.specs.List.{AllByRecursion, list_any}
use Rattle.std.specs.Prelude.{◌≡◌, true, IsTrue, List, Some, ℕ}
use Rattle.ca_law_keys.specs.Posts.{life}
use Rattle.ca_base.specs.declared.correspondent.Correspondent.{Correspondent}
use Rattle.ca_base.specs.objects.Mailbox.{Mailbox}
use Rattle.ca_base.specs.objects.QueuePair.{QueueSlot, NoQueue, Present}
use Rattle.ca_connection.specs.Link.{NakReason, Response}
use Rattle.ca_connection.specs.Link.NakReason.{PsnSequenceError, InvalidRequest, RemoteAccessError, RemoteOperationalError, ReceiverNotReady}
use Rattle.ca_connection.specs.Link.Response.{Nak}
use Rattle.ca_keys.specs.declared.names.QueueId.{QueueId}
use Rattle.ca_model.specs.Caused.{makes_access_error, makes_invalid, makes_operational_error}
use Rattle.ca_model.specs.Packets.{is_response}
use Rattle.ca_model.specs.Past.{Fault, Past}
use Rattle.ca_model.specs.Progress.{Refuses, response_in}
use Rattle.ca_model.specs.machine.World.{World}
use Rattle.ca_law_once.specs.Entries.{IfPacket}
use Rattle.ca_law_once.specs.Sides.{reason_of, said}
use Rattle.ca_wire.specs.declared.syndrome.NakCode.{NakCode}

-- Among what befell a queue pair is what makes it refuse a request for a reason. A sequence error and an RNR NAK refuse
-- none.
abbrev pub HasBefallen : NakReason → List Fault → Type 0
HasBefallen PsnSequenceError faults = Unit {0}
HasBefallen InvalidRequest faults = IsTrue (list_any makes_invalid faults)
HasBefallen RemoteAccessError faults = IsTrue (list_any makes_access_error faults)
HasBefallen RemoteOperationalError faults = IsTrue (list_any makes_operational_error faults)
HasBefallen ReceiverNotReady faults = Unit {0}

-- a response, if it is a NAK, has its reason among what befell its sender
abbrev pub HasReason : List Fault → Response → Type 0
HasReason faults (Nak reason n) = HasBefallen reason faults
HasReason faults response = Unit {0}

-- the bytes of a response that refuses a request have it, too
abbrev pub SpellReason : List Fault → List ℕ → Type 0
SpellReason faults bytes = IfPacket bytes (λ p. is_response p.opcode ≡ true
    → (code : NakCode) → response_in p ≡ Some (Refuses code) → HasBefallen (reason_of code) faults)

-- each answer that waits at a queue pair has its reason among what befell it in its incarnation
abbrev pub SlotHasReasons : (Correspondent → List Fault) → QueueId → QueueSlot → Type 0
SlotHasReasons faults n (NoQueue incarnation timers) = Unit {0}
SlotHasReasons faults n (Present q) =
    AllByRecursion (λ a. HasReason (faults (life n q.incarnation)) (said a)) q.responder.answers

-- each envelope of a mailbox has its reason among what befell the peer that the mailbox accepts
abbrev pub BoxHasReasons : (Correspondent → List Fault) → Mailbox → Type 0
BoxHasReasons faults m = (peer : Correspondent) → m.peer ≡ Some peer →
    AllByRecursion (λ e. SpellReason (faults peer) e.bytes) m.envelopes

-- In a world, each NAK that waits and each that is under way has its reason among what befell the queue pair that sends
-- it.
pub record HaveReasons (faults : Correspondent → List Fault) (w : World) : Type 0 where
  pub queues : (n : QueueId) → SlotHasReasons faults n (w.queue n)
  pub mail : (n : QueueId) → BoxHasReasons faults (w.mailbox n)

-- a past tells these reasons
abbrev pub ReasonsAgree : Past → World → Type 0
ReasonsAgree past w = HaveReasons past.faults w

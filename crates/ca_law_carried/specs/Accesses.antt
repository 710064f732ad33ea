-- What the past of a history and the world of the machine say alike of remote accesses in progress: where the WRITE of a
-- message goes on, and of which READ requests the responses that wait are the rest. Laws cite it.
use Rattle.std.specs.List.{AllByRecursion, list_any}
use Rattle.std.specs.Prelude.{IfSome, List, None, Option, Some, true, ℕ, ◌+◌, ◌^◌, ◌≡◌, ◌≤◌}
use Rattle.ca_base.specs.declared.correspondent.Correspondent.{Correspondent}
use Rattle.ca_base.specs.declared.queue_numbers.Message.{Message}
use Rattle.ca_base.specs.declared.queue_numbers.Queued.{Queued}
use Rattle.ca_base.specs.objects.QueuePair.{NoQueue, Present, QueuePair, QueueSlot}
use Rattle.ca_base.specs.objects.Region.{grant_of_region}
use Rattle.ca_keys.specs.declared.grant.Grant.{Grant}
use Rattle.ca_keys.specs.declared.key.Key.{Key}
use Rattle.ca_keys.specs.declared.names.QueueId.{QueueId}
use Rattle.ca_keys.specs.declared.names.Slot.{Slot}
use Rattle.ca_model.specs.Carried.{is_rest_of}
use Rattle.ca_model.specs.Past.{LatestWrite, Naming, Past, ReadRequest}
use Rattle.ca_model.specs.machine.World.{World}
use Rattle.ca_base.specs.declared.queue_numbers.Message.TheVariants as messages
use Rattle.ca_base.specs.declared.queue_numbers.Queued.TheVariants as queued

-- the WRITE goes on where the latest one ended: under its key, behind its bytes, with what it left
abbrev pub IsFrom : Key → ℕ → ℕ → Option LatestWrite → Type 0
IsFrom key address left None = ⊥
IsFrom key address left (Some w) = (w.key ≡ key) × (w.address + w.wrote ≡ address) × (w.asked ≡ left + w.wrote)

-- a message in progress, if it is a WRITE, goes on so
abbrev pub GoesOn : Option Message → Option LatestWrite → Type 0
GoesOn None latest = Unit {0}
GoesOn (Some (messages.Send place receive bytes)) latest = Unit {0}
GoesOn (Some (messages.Write key address left count)) latest = IsFrom key address left latest

-- a READ that waits to be answered is the rest of one of these requests
abbrev pub IsAsked : ℕ → List ReadRequest → Queued → Type 0
IsAsked mtu requests (queued.Read psn key address left first envelope duplicate) =
    list_any (is_rest_of mtu key address left envelope) requests ≡ true
IsAsked mtu requests answer = Unit {0}

-- A queue pair's message in progress goes on with the WRITE that it performed last; its path MTU is the one that it was
-- told, and each READ that waits is the rest of a READ request that arrived in its present incarnation.
pub record AgreeOnResponder (latest : Option LatestWrite) (naming : Option Naming) (requests : List ReadRequest) (q : QueuePair) : Type 0
  where
    pub write : GoesOn q.responder.message latest
    pub mtu : IfSome naming (λ n. n.mtu ≡ q.responder.mtu)
    pub reads : AllByRecursion (IsAsked q.responder.mtu requests) q.responder.answers

-- the same of what stands in a slot
abbrev pub AgreeInSlot : Option LatestWrite → Option Naming → List ReadRequest → QueueSlot → Type 0
AgreeInSlot latest naming requests (NoQueue incarnation timers) = Unit {0}
AgreeInSlot latest naming requests (Present q) = AgreeOnResponder latest naming requests q

-- the queue pair in each slot agrees with what its latest write and its present incarnation have left
abbrev pub AgreeOnAccesses : (QueueId → ℕ) → (QueueId → Option LatestWrite) → (QueueId → Option Naming)
    → (Correspondent → List ReadRequest) → (QueueId → QueueSlot) → Type 0
AgreeOnAccesses lives latest naming requests queue =
    (q : QueueId) → AgreeInSlot (latest q) (naming q) (requests (record { queue = q; incarnation = lives q })) (queue q)

-- what a past and a world say of remote accesses in progress
abbrev pub AccessesAgree : Past → World → Type 0
AccessesAgree past w = AgreeOnAccesses past.incarnation past.latest_write past.naming past.read_requests w.queue

-- a grant ends where addresses end, or before
abbrev pub IsEnded : Option Grant → Type 0
IsEnded grant = IfSome grant (λ g. g.address + g.length ≤ 2 ^ 64)

-- a world in which the grant of each region does
abbrev pub IsEndedWorld : World → Type 0
IsEndedWorld w = (s : Slot) → IsEnded (grant_of_region (w.region s))

-- Sound worlds: what holds of each thing of a world that comes up, and of its completions. Laws cite it.
use Rattle.std.specs.Prelude.{◌≡◌, ℕ, ◌+◌, ◌≤◌, ◌<◌, Bool, true, false, List, [], ◌∷◌, length, Option, None, IfSome}
use Rattle.std.specs.List.{AllByRecursion, sum_by}
use Rattle.ca_base.specs.declared.completion.Completion.{Completion}
use Rattle.ca_keys.specs.declared.grant.Grant.{Grant}
use Rattle.ca_base.specs.declared.limits.TheConstants.{MAX_ADAPTERS, MAX_BUFFERS, MAX_BUFFER_BYTES, MAX_CQS, MAX_DOMAINS, MAX_EVENTS, MAX_PARTS, MAX_PIECES, MAX_QPS, MAX_REGIONS, MAX_SRQS, MAX_TOTAL_BYTES, MAX_WINDOWS}
use Rattle.ca_keys.specs.declared.names.QueueId.{QueueId}
use Rattle.ca_keys.specs.declared.names.Slot.{Slot}
use Rattle.ca_keys.specs.declared.place.Run.{Run}
use Rattle.ca_base.specs.Configuration.{Adapter, Configuration, part_count}
use Rattle.ca_keys.specs.Equal.{slot_eq}
use Rattle.ca_keys.specs.Memory.{places_count}
use Rattle.ca_keys.specs.Numbers.{key_at, region_index}
use Rattle.ca_base.specs.objects.CompletionQueue.{CompletionQueue}
use Rattle.ca_base.specs.objects.QueuePair.{QueuePair, QueueSlot, NoQueue, Present, recv_cq_of, send_cq_of}
use Rattle.ca_base.specs.objects.Region.{RegionState, NoRegion, Free, Registered, FastRegistered}
use Rattle.ca_base.specs.objects.Slices.{slot_of_queue}
use Rattle.ca_model.specs.declared.event.Event.{Event}
use Rattle.ca_model.specs.declared.event.Event.TheVariants as events
use Rattle.ca_model.specs.declared.verb.Verb.{Verb}
use Rattle.ca_model.specs.declared.verb.Verb.TheVariants as verbs
use Rattle.ca_model.specs.Requests.{list_of}
use Rattle.ca_model.specs.machine.Step.{bytes_of_buffer}
use Rattle.ca_model.specs.machine.World.{World, Name, Domain_of, Region_of, Window_of, Cq_of, Srq_of, Queue_of, Mailbox_of, Byte_at, Thing, get}
use Rattle.ca_model.specs.machine.Invariants.{IsCompletionQueue, IsDomain, IsMailbox, IsQueue, IsSharedReceives, IsWindow}

-- an adapter within the limits: its buffers, of which none is empty, its domains, of which it has one at least, and the slots
-- of each kind in a domain
pub record IsLimitedAdapter (a : Adapter) : Type 0 where
  pub buffers : length a.buffers ≤ MAX_BUFFERS
  pub least_bytes : AllByRecursion (λ bytes. 1 ≤ bytes) a.buffers
  pub bytes : AllByRecursion (λ bytes. bytes ≤ MAX_BUFFER_BYTES) a.buffers
  pub least_domains : 1 ≤ a.domains
  pub domains : a.domains ≤ MAX_DOMAINS
  pub regions : a.regions ≤ MAX_REGIONS
  pub windows : a.windows ≤ MAX_WINDOWS
  pub cqs : a.cqs ≤ MAX_CQS
  pub srqs : a.srqs ≤ MAX_SRQS
  pub qps : a.qps ≤ MAX_QPS

-- a configuration within the limits: its adapters, of which it has one at least, the bytes of all buffers together, its
-- parts, and its events, of which it allows one at least
pub record AreLimited (c : Configuration) : Type 0 where
  pub least_count : 1 ≤ length c.adapters
  pub count : length c.adapters ≤ MAX_ADAPTERS
  pub adapters : AllByRecursion IsLimitedAdapter c.adapters
  pub bytes : sum_by (λ a. sum_by (λ bytes. bytes) a.buffers) c.adapters ≤ MAX_TOTAL_BYTES
  pub parts : part_count c ≤ MAX_PARTS
  pub least_events : 1 ≤ c.events
  pub events : c.events ≤ MAX_EVENTS

-- runs lie in this buffer, which has so many bytes
abbrev pub LieIn : ℕ → ℕ → ℕ → List Run → Type 0
LieIn adapter buffer bytes [] = Unit {0}
LieIn adapter buffer bytes (r ∷ rs) =
    ((r.adapter ≡ adapter) × (r.buffer ≡ buffer) × (r.offset + r.length ≤ bytes)) × LieIn adapter buffer bytes rs

-- the grant of a region in a slot, under a low byte: its key, its domain, as many places as bytes, in runs of some bytes
-- each, in one buffer
pub record IsRegionGrant (c : Configuration) (s : Slot) (low : ℕ) (g : Grant) : Type 0 where
  pub key : g.key ≡ key_at (region_index s) low
  pub domain : g.domain ≡ s.domain
  pub queue : g.queue ≡ None
  pub local : g.local ≡ true
  pub places : places_count g.runs ≡ g.length
  pub some : AllByRecursion (λ r. 0 < r.length) g.runs
  pub buffer : ℕ
  pub inside : LieIn s.domain.adapter buffer (bytes_of_buffer c s.domain.adapter buffer) g.runs

abbrev pub IsSoundState : Configuration → Slot → ℕ → RegionState → Type 0
IsSoundState c s low NoRegion = Unit {0}
IsSoundState c s low (Free pages) = Unit {0}
IsSoundState c s low (Registered g) = IsRegionGrant c s low g
IsSoundState c s low (FastRegistered pages g) = IsRegionGrant c s low g

-- a queue pair under a name: it can come up, and has this number, and the domain of its slot
abbrev pub IsQueueOf : QueueId → QueueSlot → Type 0
IsQueueOf name (NoQueue incarnation timers) = Unit {0}
IsQueueOf name (Present q) = (q.queue ≡ name) × (q.domain ≡ (slot_of_queue name).domain) × IsQueue q

-- what holds of a thing under its name
abbrev pub IsSoundThing : Configuration → (n : Name) → Thing n → Type 0
IsSoundThing c (Domain_of d) v = IsDomain v
IsSoundThing c (Region_of s) r = IsSoundState c s r.low r.state
IsSoundThing c (Window_of s) w = (w.slot ≡ s) × IsWindow w
IsSoundThing c (Cq_of s) v = IfSome v IsCompletionQueue
IsSoundThing c (Srq_of s) v = IfSome v.srq IsSharedReceives
IsSoundThing c (Queue_of q) v = IsQueueOf q v
IsSoundThing c (Mailbox_of q) m = IsMailbox m
IsSoundThing c (Byte_at p) v = Unit {0}

-- the request of a queue pair at this place is finished, or its receive taken
abbrev pub IsFinished : QueuePair → Bool → ℕ → Type 0
IsFinished q true place = IfSome q.receives (λ r. place < r.next_taken)
IsFinished q false place = place < q.requester.oldest

-- the completion queue of a queue pair for its receives, or for its sends
abbrev pub side_of : QueuePair → Bool → Slot
side_of q true = recv_cq_of q
side_of q false = send_cq_of q

-- a completion that waits in this completion queue is of a queue pair that is there, and completes there what it is of
abbrev pub IsSettled : Slot → QueueSlot → Completion → Type 0
IsSettled s (NoQueue incarnation timers) x = ⊥
IsSettled s (Present q) x = (slot_eq (side_of q x.receive) s ≡ true) × IsFinished q x.receive x.place

-- all completions that wait are so
abbrev pub AreSettled : (QueueId → QueueSlot) → (Slot → Option CompletionQueue) → Type 0
AreSettled queue cq = (s : Slot) → IfSome (cq s) (λ v. AllByRecursion (λ x. IsSettled s (queue x.queue) x) v.waiting)

-- a world that can come up
pub record IsSoundWorld (c : Configuration) (w : World) : Type 0 where
  pub things : (n : Name) → IsSoundThing c n (get w n)
  pub settled : AreSettled w.queue w.cq

-- the list of a request that a verb posts has as few pieces as its type allows
abbrev pub HasFewPieces : Verb → Type 0
HasFewPieces (verbs.PostSend slot request) = length (list_of request.op) ≤ MAX_PIECES
HasFewPieces (verbs.PostRecv slot request) = length request.list.items ≤ MAX_PIECES
HasFewPieces (verbs.PostSrq slot request) = length request.list.items ≤ MAX_PIECES
HasFewPieces verb = Unit {0}

-- an event that can be made: its verb keeps to the types of its fields
abbrev pub CanBeMade : Event → Type 0
CanBeMade (events.Verb by verb) = HasFewPieces verb
CanBeMade event = Unit {0}

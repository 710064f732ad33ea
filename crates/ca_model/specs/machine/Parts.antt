-- The parts of a fabric, and which of them an event needs: the table of parts. Laws cite it.
use Rattle.std.specs.Prelude.{◌≡◌, ℕ, zero, suc, ◌==◌, min, ◌⊎◌, ◌&&◌, ◌||◌, Bool, true, false, if◌then◌else◌, List, [], ◌∷◌, take, Option, None, Some}
use Rattle.std.specs.Option.{option_map_or}
use Rattle.ca_base.specs.declared.completion.Completion.{Completion}
use Rattle.ca_base.specs.declared.correspondent.Correspondent.{Correspondent}
use Rattle.ca_keys.specs.declared.access.Ask.{Ask}
use Rattle.ca_keys.specs.declared.key.Key.{Key}
use Rattle.ca_base.specs.declared.limits.TheConstants.{MAX_POLLED}
use Rattle.ca_keys.specs.declared.names.DomainId.{DomainId}
use Rattle.ca_keys.specs.declared.names.QueueId.{QueueId}
use Rattle.ca_keys.specs.declared.names.Slot.{Slot}
use Rattle.ca_keys.specs.declared.place.Run.{Run}
use Rattle.ca_base.specs.declared.request.SendOp.{SendOp}
use Rattle.ca_base.specs.declared.request.SendOp.TheVariants as ops
use Rattle.ca_base.specs.Configuration.{Configuration}
use Rattle.ca_keys.specs.Equal.{domain_eq, queue_eq, slot_eq}
use Rattle.ca_keys.specs.Numbers.{queue_of}
use Rattle.ca_base.specs.objects.CompletionQueue.{CompletionQueue}
use Rattle.ca_base.specs.objects.Mailbox.{bytes_lent}
use Rattle.ca_base.specs.objects.QueuePair.{QueuePair, QueueSlot, NoQueue, Present, recv_cq_of, send_cq_of, srq_of}
use Rattle.ca_base.specs.objects.Region.{grant_of_region}
use Rattle.ca_base.specs.objects.SharedReceives.{SharedReceives}
use Rattle.ca_base.specs.objects.Slices.{has_domain, has_queue, has_slot, names_region, names_window, slot_of_key}
use Rattle.ca_base.specs.objects.Window.{Binding, Window}
use Rattle.ca_model.specs.declared.event.Event.{Event}
use Rattle.ca_model.specs.declared.event.Event.TheVariants as events
use Rattle.ca_model.specs.declared.verb.Verb.{Verb}
use Rattle.ca_model.specs.declared.verb.Verb.TheVariants as verbs
use Rattle.ca_model.specs.declared.part_name.PartName.{PartName}
use Rattle.ca_model.specs.declared.part_name.PartName.TheVariants as names
use Rattle.ca_model.specs.machine.CompletionVerbs.{source_of_completion}
use Rattle.ca_model.specs.machine.Delivery.{arrival_row}
use Rattle.ca_model.specs.machine.LocalOperations.{region_slot, window_slot}
use Rattle.ca_model.specs.machine.QueuePairVerbs.{Creation, beside, has_queues}
use Rattle.ca_model.specs.machine.Requester.{RequestTurn, Waits, Performs, Sends, packet_row, turn_of}
use Rattle.ca_model.specs.machine.Respond.{respond_row}
use Rattle.ca_model.specs.machine.Row.{Row, region_under}
use Rattle.ca_model.specs.machine.Step.{has_buffer, is_named}
use Rattle.ca_model.specs.machine.World.{World, Name, Domain_of, Region_of, Window_of, Cq_of, Srq_of, Queue_of, Mailbox_of, Byte_at, Thing, get}

-- the part in which a thing stands; bytes stand in their buffer
abbrev pub part_of : Name → PartName
part_of (Domain_of d) = names.Control d
part_of (Region_of s) = names.Region s
part_of (Window_of s) = names.Window s
part_of (Cq_of s) = names.Cq s
part_of (Srq_of s) = names.Srq s
part_of (Queue_of q) = names.Queue q
part_of (Mailbox_of q) = names.Mailbox q
part_of (Byte_at p) = names.Buffer p.adapter p.buffer

-- the part is configured: its domain, its slot, or its buffer
abbrev pub is_configured_part : Configuration → PartName → Bool
is_configured_part c (names.Control d) = has_domain c d
is_configured_part c (names.Region s) = has_slot c (λ a. a.regions) s
is_configured_part c (names.Window s) = has_slot c (λ a. a.windows) s
is_configured_part c (names.Cq s) = has_slot c (λ a. a.cqs) s
is_configured_part c (names.Srq s) = has_slot c (λ a. a.srqs) s
is_configured_part c (names.Queue q) = has_queue c q
is_configured_part c (names.Mailbox q) = has_queue c q
is_configured_part c (names.Buffer adapter buffer) = has_buffer c adapter buffer

abbrev pub IsAmong : List PartName → PartName → Type 0
IsAmong [] p = ⊥
IsAmong (x ∷ xs) p = (p ≡ x) ⊎ IsAmong xs p

-- two names are of one part
abbrev pub part_eq : PartName → PartName → Bool
part_eq (names.Control a) (names.Control b) = domain_eq a b
part_eq (names.Region a) (names.Region b) = slot_eq a b
part_eq (names.Window a) (names.Window b) = slot_eq a b
part_eq (names.Cq a) (names.Cq b) = slot_eq a b
part_eq (names.Srq a) (names.Srq b) = slot_eq a b
part_eq (names.Queue a) (names.Queue b) = queue_eq a b
part_eq (names.Mailbox a) (names.Mailbox b) = queue_eq a b
part_eq (names.Buffer a i) (names.Buffer b j) = (a == b) && (i == j)
part_eq a b = false

-- the part is one of those in hand
abbrev pub is_held : List PartName → PartName → Bool
is_held [] p = false
is_held (x ∷ xs) p = part_eq x p || is_held xs p

-- Which parts an event needs, in order: no more; or a part, and more; or the part in which a thing stands, and what the
-- thing decides.
pub data Needs : Type 0 where
  Enough : Needs
  Part : PartName → Needs → Needs
  By : (n : Name) → (Thing n → Needs) → Needs

-- the parts that are needed in a world
abbrev pub listed : World → Needs → List PartName
listed w Enough = []
listed w (Part p more) = p ∷ listed w more
listed w (By n decides) = part_of n ∷ listed w (decides (get w n))

-- the first part that is needed and not held, by what the held parts show
abbrev pub next_part : (PartName → Bool) → World → Needs → Option PartName
next_part held w Enough = None
next_part held w (Part p more) = if held p then next_part held w more else Some p
next_part held w (By n decides) = if held (part_of n) then next_part held w (decides (get w n)) else Some (part_of n)

-- the things of the parts that are held are the same in two worlds
abbrev pub ShowsHeld : (PartName → Bool) → World → World → Type 0
ShowsHeld held v w = (n : Name) → held (part_of n) ≡ true → get v n ≡ get w n

-- the parts in hand, the latest first, after so many were named and taken, one after another, beside these
abbrev pub gathered : ℕ → World → Needs → List PartName → List PartName
gathered zero w needs held = held
gathered (suc n) w needs held = by (next_part (is_held held) w needs) (gathered n w needs)
  where
    by : Option PartName → (List PartName → List PartName) → List PartName
    by None rest = held
    by (Some p) rest = rest (p ∷ held)

-- what is needed first, and then what else
abbrev pub also : Needs → Needs → Needs
also Enough rest = rest
also (Part p more) rest = Part p (also more rest)
also (By n decides) rest = By n (λ thing. also (decides thing) rest)

-- one part
abbrev pub part : PartName → Needs
part p = Part p Enough

-- where there is a value, what it needs
abbrev pub where_some : {A : Type 0} → (A → Needs) → Option A → Needs
where_some f o = option_map_or f o Enough

-- a queue pair's part, and what the queue pair needs, if it is there
abbrev pub present_needs : QueueId → (QueuePair → Needs) → Needs
present_needs name more = By (Queue_of name) by
  where
    by : QueueSlot → Needs
    by (NoQueue incarnation timers) = Enough
    by (Present q) = more q

-- the same for an engine's turn: a queue pair outside the slices needs nothing
abbrev pub turn_needs : Configuration → QueueId → (QueuePair → Needs) → Needs
turn_needs c name more = if has_queue c name then present_needs name more else Enough

-- what stands around a queue pair: its completion queues and its shared receive queue, and what this decides
abbrev pub around_needs : QueuePair → (Option SharedReceives → Needs) → Needs
around_needs q more = Part (names.Cq (send_cq_of q)) (Part (names.Cq (recv_cq_of q)) (by q.srq))
  where
    by : Option ℕ → Needs
    by None = more None
    by (Some srq) = By (Srq_of (srq_of q srq)) (λ slot. more slot.srq)

-- the buffer in which a grant's places lie
abbrev pub buffer_needs : List Run → Needs
buffer_needs [] = Enough
buffer_needs (r ∷ rs) = part (names.Buffer r.adapter r.buffer)

-- a region, and its buffer
abbrev pub region_needs : Slot → Needs
region_needs s = By (Region_of s) (λ region. where_some (λ g. buffer_needs g.runs) (grant_of_region region))

-- a window, and what the region of its binding needs
abbrev pub window_needs : (Slot → Needs) → Slot → Needs
window_needs more s = By (Window_of s) (λ window. where_some (λ b. more (region_under window b)) window.binding)

-- what the key of an access names, with its buffer: a region, or a window where it is no L_Key. A key of another domain
-- or outside the slices names no part.
abbrev pub ask_needs : Configuration → Ask → Needs
ask_needs c ask =
    if names_region c ask.domain ask.key then region_needs (slot_of_key ask.domain ask.key)
    else if (if ask.local then false else names_window c ask.domain ask.key)
    then window_needs region_needs (slot_of_key ask.domain ask.key)
    else Enough

abbrev pub asks_needs : Configuration → List Ask → Needs
asks_needs c [] = Enough
asks_needs c (ask ∷ asks) = also (ask_needs c ask) (asks_needs c asks)

-- a region's part alone
abbrev pub region_part : Slot → Needs
region_part s = part (names.Region s)

-- what a key names that ends
abbrev pub ending_needs : Configuration → DomainId → Key → Needs
ending_needs c d key =
    if names_region c d key then region_part (slot_of_key d key)
    else if names_window c d key then window_needs region_part (slot_of_key d key)
    else Enough

-- what a row asks for, and the key that it ends
abbrev pub row_needs : Configuration → Row → Needs
row_needs c row = also (asks_needs c row.asks) (where_some (λ i. ending_needs c i.domain i.key) row.invalidation)

-- a bind: its window with the region of its present binding, and the region that it names
abbrev pub bind_needs : Configuration → QueuePair → ℕ → Key → Needs
bind_needs c q window key =
    also (window_needs region_part (window_slot q window))
    (if names_region c q.domain key then region_part (slot_of_key q.domain key) else Enough)

-- a local operation
abbrev pub operation_needs : Configuration → QueuePair → SendOp → Needs
operation_needs c q (ops.Bind1 window key address count rights) = bind_needs c q window key
operation_needs c q (ops.Bind2 window key low address count rights) = bind_needs c q window key
operation_needs c q (ops.FastReg region low buffer address count rights pages) = region_part (region_slot q region)
operation_needs c q (ops.LocalInv key) = ending_needs c q.domain key
operation_needs c q op = Enough

-- what a requester's turn needs beside the queue pair and what stands around it; a packet also the peer's mailbox
abbrev pub request_needs : Configuration → QueuePair → RequestTurn → Needs
request_needs c q (Waits reason) = Enough
request_needs c q (Performs n) = operation_needs c q n.request.op
request_needs c q (Sends n) = where_some (λ p. Part (names.Mailbox p.queue) (row_needs c (packet_row q true n))) q.peer

-- what bytes that arrive at a queue pair need beside it
abbrev pub arrival_needs : Configuration → Option ℕ → List ℕ → QueuePair → Needs
arrival_needs c envelope bytes q = around_needs q (λ shared. row_needs c (arrival_row bytes envelope shared q))

-- what a responder's turn needs beside the queue pair
abbrev pub respond_needs : Configuration → QueuePair → Needs
respond_needs c q = around_needs q (λ shared.
    where_some (λ p. Part (names.Mailbox p.queue) (row_needs c (respond_row true q))) q.peer)

-- the peer's queue pair, its mailbox, and its shared receive queue
abbrev pub peer_needs : Correspondent → Needs
peer_needs p = By (Queue_of p.queue) (λ slot. Part (names.Mailbox p.queue) (by slot))
  where
    by : QueueSlot → Needs
    by (NoQueue incarnation timers) = Enough
    by (Present q) = where_some (λ srq. part (names.Srq (srq_of q srq))) q.srq

-- the window of a bind that draws a byte as it is posted
abbrev pub drawing_needs : Slot → SendOp → Needs
drawing_needs s (ops.Bind1 window key address count rights) = part (names.Window (beside s window))
drawing_needs s op = Enough

-- what a completion that is taken frees: its shared receive queue, or else its queue pair
abbrev pub place_part : Slot → CompletionQueue → Completion → PartName
place_part s cq x = by (source_of_completion cq x)
  where
    by : Option ℕ → PartName
    by None = names.Queue x.queue
    by (Some srq) = names.Srq (record { domain = s.domain; slot = srq })

abbrev pub places_needs : Slot → CompletionQueue → List Completion → Needs
places_needs s cq [] = Enough
places_needs s cq (x ∷ xs) = Part (place_part s cq x) (places_needs s cq xs)

-- a verb on an object of a domain
abbrev pub object_needs : DomainId → PartName → Needs
object_needs d p = Part (names.Control d) (part p)

-- the queues of a queue pair that is made, where they are configured
abbrev pub queues_needs : Configuration → Creation → Needs
queues_needs c x =
    if has_queues c x
    then Part (names.Cq (beside x.slot x.send_cq)) (Part (names.Cq (beside x.slot x.recv_cq))
    (where_some (λ srq. part (names.Srq (beside x.slot srq))) x.srq))
    else Enough

-- what stands around a queue pair, and its mailbox
abbrev pub emptying_needs : QueuePair → Needs
emptying_needs q = Part (names.Mailbox q.queue) (around_needs q (λ shared. Enough))

-- what a verb needs whose names are configured
abbrev pub verb_needs : Configuration → Verb → Needs
verb_needs c (verbs.AllocPd domain) = part (names.Control domain)
verb_needs c (verbs.DeallocPd domain) = part (names.Control domain)
verb_needs c (verbs.RegMr slot buffer offset count rights) = object_needs slot.domain (names.Region slot)
verb_needs c (verbs.AllocMr slot pages) = object_needs slot.domain (names.Region slot)
verb_needs c (verbs.DeregMr slot) = object_needs slot.domain (names.Region slot)
verb_needs c (verbs.AllocMw slot kind) = object_needs slot.domain (names.Window slot)
verb_needs c (verbs.DeallocMw slot) = Part (names.Control slot.domain) (By (Window_of slot) (λ window. where_some (binding window) window.binding))
  where
    binding : Window → Binding → Needs
    binding window b = Part (names.Region (region_under window b)) (where_some (λ q. part (names.Queue q)) b.queue)
verb_needs c (verbs.CreateCq slot capacity) = object_needs slot.domain (names.Cq slot)
verb_needs c (verbs.DestroyCq slot) = object_needs slot.domain (names.Cq slot)
verb_needs c (verbs.CreateSrq slot depth) = object_needs slot.domain (names.Srq slot)
verb_needs c (verbs.DestroySrq slot) = object_needs slot.domain (names.Srq slot)
verb_needs c (verbs.CreateQp slot send_cq recv_cq send_depth recv_depth srq) =
    Part (names.Control slot.domain) (Part (names.Queue (queue_of slot)) (Part (names.Mailbox (queue_of slot)) (queues_needs c (record {
      slot = slot;
      send_cq = send_cq;
      recv_cq = recv_cq;
      send_depth = send_depth;
      recv_depth = recv_depth;
      srq = srq;
    }))))
verb_needs c (verbs.ModifyQp slot change) = present_needs (queue_of slot) emptying_needs
verb_needs c (verbs.QueryQp slot) = part (names.Queue (queue_of slot))
verb_needs c (verbs.DestroyQp slot) = Part (names.Control slot.domain) (present_needs (queue_of slot) emptying_needs)
verb_needs c (verbs.PostSend slot request) =
    present_needs (queue_of slot) (λ q. Part (names.Cq (send_cq_of q)) (drawing_needs slot request.op))
verb_needs c (verbs.PostRecv slot request) = present_needs (queue_of slot) (λ q. part (names.Cq (recv_cq_of q)))
verb_needs c (verbs.PostSrq slot request) = part (names.Srq slot)
verb_needs c (verbs.Poll slot n least) =
    By (Cq_of slot) (λ cq. where_some (λ v. places_needs slot v (take (min n MAX_POLLED) v.waiting)) cq)
verb_needs c (verbs.Store adapter buffer offset bytes) = part (names.Buffer adapter buffer)
verb_needs c (verbs.Load adapter buffer offset count) = part (names.Buffer adapter buffer)
verb_needs c (verbs.Inject queue bytes) = present_needs queue (λ q. Part (names.Mailbox queue) (arrival_needs c None bytes q))

-- what an event needs; a verb that names something that is not configured needs nothing
abbrev pub event_needs : Configuration → Event → Needs
event_needs c (events.Verb by verb) = if is_named c verb then verb_needs c verb else Enough
event_needs c (events.Request queue lot) =
    turn_needs c queue (λ q. around_needs q (λ shared. request_needs c q (turn_of q)))
event_needs c (events.Deliver queue index) =
    if has_queue c queue
    then By (Mailbox_of queue) (λ m. where_some (λ bytes. present_needs queue (arrival_needs c (Some index) bytes)) (bytes_lent index m))
    else Enough
event_needs c (events.Respond queue lot) = turn_needs c queue (respond_needs c)
event_needs c (events.Timeout queue hasten) =
    turn_needs c queue (λ q. Part (names.Mailbox queue) (around_needs q (λ shared.
    where_some (λ p. Part (names.Queue p.queue) (part (names.Mailbox p.queue))) q.peer)))
event_needs c (events.RnrWake queue) = turn_needs c queue (λ q. where_some peer_needs q.peer)

-- the table of parts, by event
abbrev pub event_parts : Configuration → World → Event → List PartName
event_parts c w event = listed w (event_needs c event)

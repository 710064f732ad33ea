-- Whose things are: the domain of each thing of a world by its name, and what a group's event may look at. Laws cite
-- it.
use Rattle.std.specs.Prelude.{◌≡◌, Bool, true, false, Option, None, Some, IfSome}
use Rattle.std.specs.List.{list_any}
use Rattle.std.specs.Option.{option_map_or}
use Rattle.ca_base.specs.objects.QueuePair.{NoQueue, Present, QueueSlot}
use Rattle.ca_isolation.specs.Groups.{Group, event_domain}
use Rattle.ca_base.specs.objects.Region.{grant_of_region}
use Rattle.ca_keys.specs.Memory.{is_in}
use Rattle.ca_keys.specs.Numbers.{domain_of}
use Rattle.ca_keys.specs.declared.names.DomainId.{DomainId}
use Rattle.ca_keys.specs.declared.names.QueueId.{QueueId}
use Rattle.ca_keys.specs.declared.names.Slot.{Slot}
use Rattle.ca_keys.specs.declared.place.Place.{Place}
use Rattle.ca_model.specs.declared.event.Event.{Event}
use Rattle.ca_model.specs.declared.event.Event.TheVariants as events
use Rattle.ca_model.specs.declared.part_name.PartName.{PartName}
use Rattle.ca_model.specs.declared.part_name.PartName.TheVariants as names
use Rattle.ca_model.specs.machine.Parts.{part_of}
use Rattle.ca_model.specs.machine.World.{Byte_at, Name, World}

-- the domain of a part; a buffer is of no domain
abbrev pub part_domain : PartName → Option DomainId
part_domain (names.Control d) = Some d
part_domain (names.Region s) = Some s.domain
part_domain (names.Window s) = Some s.domain
part_domain (names.Cq s) = Some s.domain
part_domain (names.Srq s) = Some s.domain
part_domain (names.Queue q) = Some (domain_of q)
part_domain (names.Mailbox q) = Some (domain_of q)
part_domain (names.Buffer adapter index) = None

-- the part is of the group, or of nobody
abbrev pub IsPartOf : Group → PartName → Type 0
IsPartOf group p = IfSome (part_domain p) (λ d. group d ≡ true)

-- the thing of this name is of the group, or of nobody: bytes are
abbrev pub IsThingOf : Group → Name → Type 0
IsThingOf group n = IsPartOf group (part_of n)

-- the event is of the group, or of nobody: a Store is, and a Load
abbrev pub IsEventOf : Group → Event → Type 0
IsEventOf group event = IfSome (event_domain event) (λ d. group d ≡ true)

-- the peer of a queue pair is of the group
abbrev pub IsPeerOf : Group → QueueSlot → Type 0
IsPeerOf group (NoQueue incarnation timers) = Unit {0}
IsPeerOf group (Present q) = IfSome q.peer (λ p. group (domain_of p.queue) ≡ true)

-- the peer of the queue pair whose turn it is, where the turn looks at it, is of the group
abbrev pub LooksWithin : Group → World → Event → Type 0
LooksWithin group w (events.Request queue lot) = IsPeerOf group (w.queue queue)
LooksWithin group w (events.Respond queue lot) = IsPeerOf group (w.queue queue)
LooksWithin group w (events.Timeout queue hasten) = IsPeerOf group (w.queue queue)
LooksWithin group w (events.RnrWake queue) = IsPeerOf group (w.queue queue)
LooksWithin group w event = Unit {0}

-- a thing of the group; a byte is nobody's
abbrev pub is_thing_of : Group → Name → Bool
is_thing_of group n = option_map_or group (part_domain (part_of n)) false

-- no mailbox of the group accepts a queue pair of others
abbrev pub AcceptsWithin : Group → World → Type 0
AcceptsWithin group w =
    (q : QueueId) → group (domain_of q) ≡ true → IfSome (w.mailbox q).peer (λ p. group (domain_of p.queue) ≡ true)

-- no queue pair of the group names a peer outside it, and no mailbox of it accepts one
pub record StaysWithin (group : Group) (w : World) : Type 0 where
  pub accepts : AcceptsWithin group w
  pub peers : (q : QueueId) → group (domain_of q) ≡ true → IsPeerOf group (w.queue q)

-- the queue pair through which a window is bound is of the window's domain
abbrev pub AreBoundBeside : World → Type 0
AreBoundBeside w = (s : Slot) → IfSome (w.window s).binding (λ b. IfSome b.queue (λ q. domain_of q ≡ s.domain))

-- the byte at this place is one of what a valid region of the group grants
pub record IsGrantedTo (group : Group) (w : World) (p : Place) : Type 0 where
  pub slot : Slot
  pub own : group slot.domain ≡ true
  pub granted : option_map_or (λ g. list_any (λ r. is_in r p) g.runs) (grant_of_region (w.region slot)) false ≡ true

-- a byte is so; of other things nothing is said
abbrev pub IsGrantedThing : Group → World → Name → Type 0
IsGrantedThing group w (Byte_at p) = IsGrantedTo group w p
IsGrantedThing group w n = Unit {0}

-- a thing of the group, or a byte that is covered
abbrev pub is_seen_by : Group → (Place → Bool) → Name → Bool
is_seen_by group cover (Byte_at p) = cover p
is_seen_by group cover n = is_thing_of group n

-- The parts that a group's event needs are of the group: a walk over the table of parts. For proofs only.
use Rattle.std.proofs.Common.{◌≡◌, ◌∙◌, ℕ, zero, suc, ◌+◌, ◌*◌, ◌<◌, ◌-◌, ◌/◌, ◌&&◌, nat_le, nat_lt, arith, Bool, true, false, not, List, [], ◌∷◌, min, take, Option, None, Some, IfSome, ap, subst, sym, if◌then◌else◌, refl, true≢false}
use Rattle.std.proofs.lemmas.Bool.{and_parts, eqb-true, le-ltb, leb-true}
use Rattle.std.specs.List.{AllByRecursion}
use Rattle.ca_base.specs.Configuration.{Configuration}
use Rattle.ca_base.specs.Sight.{Invalidation}
use Rattle.ca_base.specs.declared.completion.Completion.{Completion}
use Rattle.ca_base.specs.declared.correspondent.Correspondent.{Correspondent}
use Rattle.ca_base.specs.declared.limits.TheConstants.{MAX_POLLED, MAX_QPS}
use Rattle.ca_base.specs.declared.request.SendOp.{SendOp}
use Rattle.ca_base.specs.declared.request.SendOp.TheVariants as ops
use Rattle.ca_base.specs.objects.CompletionQueue.{CompletionQueue}
use Rattle.ca_base.specs.objects.Mailbox.{bytes_lent}
use Rattle.ca_base.specs.objects.QueuePair.{NoQueue, Present, QueuePair, QueueSlot, recv_cq_of, send_cq_of, srq_of}
use Rattle.ca_base.specs.objects.Region.{grant_of_region}
use Rattle.ca_base.specs.objects.SharedReceives.{SharedReceives}
use Rattle.ca_base.specs.objects.Slices.{has_queue, has_slot, is_key_of, names_region, names_window, slot_of_key, slot_of_queue}
use Rattle.ca_base.specs.objects.Window.{Binding, Window}
use Rattle.ca_isolation.specs.Groups.{Group, domain_of_queue}
use Rattle.ca_keys.specs.Equal.{slot_eq}
use Rattle.ca_keys.specs.Numbers.{domain_of, index_of, is_window_key, queue_of}
use Rattle.ca_keys.specs.declared.access.Ask.{Ask}
use Rattle.ca_keys.specs.declared.grant.Grant.{Grant}
use Rattle.ca_keys.specs.declared.key.Key.{Key}
use Rattle.ca_keys.specs.declared.names.DomainId.{DomainId}
use Rattle.ca_keys.specs.declared.names.QueueId.{QueueId}
use Rattle.ca_keys.specs.declared.names.Slot.{Slot}
use Rattle.ca_keys.specs.declared.place.Run.{Run}
use Rattle.ca_law_isolation.proofs.RowLemmas.{AreAsksOf, IsRowOf, arrival-of, packet-of, respond-of}
use Rattle.ca_law_isolation.specs.Domains.{AreBoundBeside, IsEventOf, IsPartOf, IsPeerOf, LooksWithin}
use Rattle.ca_law_parts.proofs.Parts.NeedsLemmas.{listed-also}
use Rattle.ca_law_world.proofs.Sound.SettledLemmas.{append-all, slot-path}
use Rattle.ca_law_world.proofs.Sound.VerbLemmas.{queue-slot}
use Rattle.ca_model.specs.declared.event.Event.{Event}
use Rattle.ca_model.specs.declared.event.Event.TheVariants as events
use Rattle.ca_model.specs.declared.part_name.PartName.{PartName}
use Rattle.ca_model.specs.declared.part_name.PartName.TheVariants as names
use Rattle.ca_model.specs.declared.verb.Verb.{Verb}
use Rattle.ca_model.specs.declared.verb.Verb.TheVariants as verbs
use Rattle.ca_model.specs.machine.CompletionVerbs.{source_of_completion}
use Rattle.ca_model.specs.machine.Delivery.{arrival_row}
use Rattle.ca_model.specs.machine.LocalOperations.{window_slot}
use Rattle.ca_model.specs.machine.Parts.{By, Enough, Needs, Part, also, around_needs, arrival_needs, ask_needs, asks_needs, bind_needs, buffer_needs, drawing_needs, emptying_needs, ending_needs, event_needs, listed, operation_needs, part, peer_needs, place_part, places_needs, present_needs, queues_needs, region_needs, region_part, request_needs, respond_needs, row_needs, turn_needs, verb_needs, where_some, window_needs}
use Rattle.ca_model.specs.machine.QueuePairVerbs.{Creation, beside, has_queues}
use Rattle.ca_model.specs.machine.Requester.{Performs, RequestTurn, Sends, Waits, packet_row, turn_of}
use Rattle.ca_model.specs.machine.Respond.{respond_row}
use Rattle.ca_model.specs.machine.Row.{Row, region_under}
use Rattle.ca_model.specs.machine.Seen.{asks_window}
use Rattle.ca_model.specs.machine.Sound.{AreLimited, IsQueueOf, IsSettled, IsSoundWorld, side_of}
use Rattle.ca_model.specs.machine.Step.{has_named_slot, is_named}
use Rattle.ca_model.specs.machine.World.{Cq_of, Mailbox_of, Queue_of, Srq_of, Window_of, World}

-- a domain is of the group
abbrev pub Has : Group → DomainId → Type 0
Has group d = group d ≡ true

-- all parts that are needed are of the group, or of nobody
abbrev pub NeedsOf : Group → World → Needs → Type 0
NeedsOf group w needs = AllByRecursion (IsPartOf group) (listed w needs)

also-of : (g : Group) (w : World) (a b : Needs) → NeedsOf g w a → NeedsOf g w b → NeedsOf g w (also a b)
also-of g w a b one other = subst (AllByRecursion (IsPartOf g)) (sym (listed-also w a b)) (append-all (IsPartOf g) (listed w a) (listed w b) one other)

some-of : {A : Type 0} (g : Group) (w : World) (f : A → Needs) (o : Option A) → ((x : A) → NeedsOf g w (f x)) → NeedsOf g w (where_some f o)
some-of g w f None all = record {}
some-of g w f (Some x) all = all x

buffer-of : (g : Group) (w : World) (rs : List Run) → NeedsOf g w (buffer_needs rs)
buffer-of g w [] = record {}
buffer-of g w (r ∷ rs) = (record {}, record {})

region-of : (g : Group) (w : World) (s : Slot) → Has g s.domain → NeedsOf g w (region_needs s)
region-of g w s has = (has, some-of g w (λ (x : Grant). buffer_needs x.runs) (grant_of_region (w.region s)) (λ x. buffer-of g w x.runs))

window-of : (c : Configuration) (g : Group) (w : World) (s : Slot) (more : Slot → Needs) → IsSoundWorld c w → Has g s.domain → ((at : Slot) → Has g at.domain → NeedsOf g w (more at))
    → NeedsOf g w (window_needs more s)
window-of c g w s more sound has each = (
  has,
  some-of g w (λ b. more (region_under (w.window s) b)) (w.window s).binding
      (λ b. each (region_under (w.window s) b) (subst (λ (x : Slot). Has g x.domain) (sym (sound.things (Window_of s)).0) has)),
)

-- a slot that a key of the domain names is of the domain
key-domain : (d : DomainId) (key : Key) → is_key_of d key ≡ true → (slot_of_key d key).domain ≡ d
key-domain d key is = λ i. record { adapter = d.adapter; domain = eqb-true (index_of key / 0x10000) d.domain is i }

pub region-key : (c : Configuration) (g : Group) (d : DomainId) (key : Key) → Has g d → names_region c d key ≡ true → Has g (slot_of_key d key).domain
region-key c g d key has named = subst (Has g) (sym (key-domain d key (and_parts (not (is_window_key key)) (is_key_of d key)
    (and_parts (not (is_window_key key) && is_key_of d key) (has_slot c (λ a. a.regions) (slot_of_key d key)) named).0).1)) has

pub window-key : (c : Configuration) (g : Group) (d : DomainId) (key : Key) → Has g d → names_window c d key ≡ true → Has g (slot_of_key d key).domain
window-key c g d key has named = subst (Has g) (sym (key-domain d key (and_parts (is_window_key key) (is_key_of d key)
    (and_parts (is_window_key key && is_key_of d key) (has_slot c (λ a. a.windows) (slot_of_key d key)) named).0).1)) has

ask-of : (c : Configuration) (g : Group) (w : World) (ask : Ask) → IsSoundWorld c w → Has g ask.domain → NeedsOf g w (ask_needs c ask)
ask-of c g w ask sound has = by (names_region c ask.domain ask.key) refl (asks_window c ask) refl
  where
    slot : Slot
    slot = slot_of_key ask.domain ask.key

    asked : (b : Bool) → (if b then false else names_window c ask.domain ask.key) ≡ true → names_window c ask.domain ask.key ≡ true
    asked true e = absurd (true≢false (sym e))
    asked false e = e

    by : (b : Bool) → names_region c ask.domain ask.key ≡ b → (z : Bool) → asks_window c ask ≡ z
        → NeedsOf g w (if b then region_needs slot else if z then window_needs region_needs slot else Enough)
    by true named z e = region-of g w slot (region-key c g ask.domain ask.key has named)
    by false none true named = window-of c g w slot region_needs sound (window-key c g ask.domain ask.key has (asked ask.local named)) (region-of g w)
    by false none false e = record {}

asks-of : (c : Configuration) (g : Group) (w : World) (d : DomainId) (asks : List Ask) → IsSoundWorld c w → Has g d → AreAsksOf d asks → NeedsOf g w (asks_needs c asks)
asks-of c g w d [] sound has all = record {}
asks-of c g w d (ask ∷ asks) sound has all = also-of g w (ask_needs c ask) (asks_needs c asks)
    (ask-of c g w ask sound (subst (Has g) (sym all.0) has)) (asks-of c g w d asks sound has all.1)

ending-of : (c : Configuration) (g : Group) (w : World) (d : DomainId) (key : Key) → IsSoundWorld c w → Has g d → NeedsOf g w (ending_needs c d key)
ending-of c g w d key sound has = by (names_region c d key) refl (names_window c d key) refl
  where
    slot : Slot
    slot = slot_of_key d key

    by : (b : Bool) → names_region c d key ≡ b → (z : Bool) → names_window c d key ≡ z
        → NeedsOf g w (if b then region_part slot else if z then window_needs region_part slot else Enough)
    by true named z e = (region-key c g d key has named, record {})
    by false none true named = window-of c g w slot region_part sound (window-key c g d key has named) (λ at there. (there, record {}))
    by false none false e = record {}

row-of : (c : Configuration) (g : Group) (w : World) (d : DomainId) (row : Row) → IsSoundWorld c w → Has g d → IsRowOf d row → NeedsOf g w (row_needs c row)
row-of c g w d row sound has own = also-of g w (asks_needs c row.asks) (where_some (λ i. ending_needs c i.domain i.key) row.invalidation)
    (asks-of c g w d row.asks sound has own.asks) (by row.invalidation own.ended)
  where
    by : (o : Option Invalidation) → IfSome o (λ i. i.domain ≡ d) → NeedsOf g w (where_some (λ i. ending_needs c i.domain i.key) o)
    by None is = record {}
    by (Some i) is = ending-of c g w i.domain i.key sound (subst (Has g) (sym is) has)

bind-of : (c : Configuration) (g : Group) (w : World) (q : QueuePair) (window : ℕ) (key : Key) → IsSoundWorld c w → Has g q.domain → NeedsOf g w (bind_needs c q window key)
bind-of c g w q window key sound has = also-of g w (window_needs region_part (window_slot q window)) (chosen (names_region c q.domain key))
    (window-of c g w (window_slot q window) region_part sound has (λ at there. (there, record {}))) (by (names_region c q.domain key) refl)
  where
    chosen : Bool → Needs
    chosen b = if b then region_part (slot_of_key q.domain key) else Enough

    by : (b : Bool) → names_region c q.domain key ≡ b → NeedsOf g w (chosen b)
    by true named = (region-key c g q.domain key has named, record {})
    by false none = record {}

operation-of : (c : Configuration) (g : Group) (w : World) (q : QueuePair) (op : SendOp) → IsSoundWorld c w → Has g q.domain → NeedsOf g w (operation_needs c q op)
operation-of c g w q (ops.Bind1 window key address count rights) sound has = bind-of c g w q window key sound has
operation-of c g w q (ops.Bind2 window key low address count rights) sound has = bind-of c g w q window key sound has
operation-of c g w q (ops.FastReg region low buffer address count rights pages) sound has = (has, record {})
operation-of c g w q (ops.LocalInv key) sound has = ending-of c g w q.domain key sound has
operation-of c g w q (ops.Send list) sound has = record {}
operation-of c g w q (ops.SendImm imm list) sound has = record {}
operation-of c g w q (ops.SendInv key list) sound has = record {}
operation-of c g w q (ops.Write address key list) sound has = record {}
operation-of c g w q (ops.WriteImm address key imm list) sound has = record {}
operation-of c g w q (ops.Read address key list) sound has = record {}
operation-of c g w q (ops.CmpSwap address key compare swap list) sound has = record {}
operation-of c g w q (ops.FetchAdd address key add list) sound has = record {}

around-of : (g : Group) (w : World) (q : QueuePair) (more : Option SharedReceives → Needs) → Has g q.domain → ((s : Option SharedReceives) → NeedsOf g w (more s)) → NeedsOf g w (around_needs q more)
around-of g w q more has each = (has, (has, by q.srq))
  where
    needs : Option ℕ → Needs
    needs None = more None
    needs (Some srq) = By (Srq_of (srq_of q srq)) (λ slot. more slot.srq)

    by : (o : Option ℕ) → NeedsOf g w (needs o)
    by None = each None
    by (Some srq) = (has, each _)

-- the number of a configured slot is of a domain, which is of the group
pub number-of : (c : Configuration) (g : Group) (q : QueueId) → has_queue c q ≡ true → IfSome (domain_of_queue q) (Has g) → Has g (domain_of q)
number-of c g q has = by (nat_lt q.number 256) (le-ltb q.number 256 (leb-true 256 q.number (and_parts (nat_le 256 q.number) (has_slot c (λ a. a.qps) (slot_of_queue q)) has).0))
  where
    by : (b : Bool) → b ≡ false → IfSome (if b then None else Some (domain_of q)) (Has g) → Has g (domain_of q)
    by true is = absurd (true≢false is)
    by false is = λ one. one

-- a queue pair of the group that is there, under its name
pub record IsOwn (g : Group) (w : World) (name : QueueId) (q : QueuePair) : Type 0 where
  pub there : w.queue name ≡ Present q
  pub number : Has g (domain_of q.queue)
  pub called : Has g (domain_of name)
  pub domain : Has g q.domain

-- a queue pair whose number is of the group
present-of : (c : Configuration) (g : Group) (w : World) (name : QueueId) (more : QueuePair → Needs) → IsSoundWorld c w → Has g (domain_of name)
    → ((q : QueuePair) → IsOwn g w name q → NeedsOf g w (more q)) → NeedsOf g w (present_needs name more)
present-of c g w name more sound has each = (has, by (w.queue name) refl)
  where
    needs : QueueSlot → Needs
    needs (NoQueue incarnation timers) = Enough
    needs (Present q) = more q

    own : (q : QueuePair) → w.queue name ≡ Present q → IsQueueOf name (Present q) → NeedsOf g w (more q)
    own q is one = each q (record {
      there = is;
      number = subst (λ (x : QueueId). Has g (domain_of x)) (sym one.0) has;
      called = has;
      domain = subst (Has g) (sym one.1) has;
    })

    by : (s : QueueSlot) → w.queue name ≡ s → NeedsOf g w (needs s)
    by (NoQueue incarnation timers) is = record {}
    by (Present q) is = own q is (subst (IsQueueOf name) is (sound.things (Queue_of name)))

turn-of : (c : Configuration) (g : Group) (w : World) (name : QueueId) (more : QueuePair → Needs) → IsSoundWorld c w → IfSome (domain_of_queue name) (Has g)
    → ((q : QueuePair) → IsOwn g w name q → NeedsOf g w (more q)) → NeedsOf g w (turn_needs c name more)
turn-of c g w name more sound one each = by (has_queue c name) refl
  where
    by : (b : Bool) → has_queue c name ≡ b → NeedsOf g w (if b then present_needs name more else Enough)
    by true has = present-of c g w name more sound (number-of c g name has one) each
    by false none = record {}

arrival-needs-of : (c : Configuration) (g : Group) (w : World) (envelope : Option ℕ) (bytes : List ℕ) (q : QueuePair) → IsSoundWorld c w → Has g q.domain → NeedsOf g w (arrival_needs c envelope bytes q)
arrival-needs-of c g w envelope bytes q sound has = around-of g w q (λ shared. row_needs c (arrival_row bytes envelope shared q)) has
    (λ shared. row-of c g w q.domain (arrival_row bytes envelope shared q) sound has (arrival-of q.domain bytes envelope shared q refl))

-- the peer of a queue pair
abbrev pub PeerIn : Group → Option Correspondent → Type 0
PeerIn g o = IfSome o (λ p. Has g (domain_of p.queue))

peered-of : (c : Configuration) (g : Group) (w : World) (d : DomainId) (row : Row) (o : Option Correspondent) → IsSoundWorld c w → Has g d → IsRowOf d row → PeerIn g o
    → NeedsOf g w (where_some (λ (p : Correspondent). Part (names.Mailbox p.queue) (row_needs c row)) o)
peered-of c g w d row None sound has own peer = record {}
peered-of c g w d row (Some p) sound has own peer = (peer, row-of c g w d row sound has own)

request-needs-of : (c : Configuration) (g : Group) (w : World) (q : QueuePair) (turn : RequestTurn) → IsSoundWorld c w → Has g q.domain → PeerIn g q.peer → NeedsOf g w (request_needs c q turn)
request-needs-of c g w q (Waits reason) sound has peer = record {}
request-needs-of c g w q (Performs n) sound has peer = operation-of c g w q n.request.op sound has
request-needs-of c g w q (Sends n) sound has peer = peered-of c g w q.domain (packet_row q true n) q.peer sound has (packet-of q.domain q true n refl) peer

peer-needs-of : (c : Configuration) (g : Group) (w : World) (p : Correspondent) → IsSoundWorld c w → Has g (domain_of p.queue) → NeedsOf g w (peer_needs p)
peer-needs-of c g w p sound has = (has, (has, by (w.queue p.queue) (sound.things (Queue_of p.queue))))
  where
    needs : QueueSlot → Needs
    needs (NoQueue incarnation timers) = Enough
    needs (Present q) = where_some (λ srq. part (names.Srq (srq_of q srq))) q.srq

    by : (s : QueueSlot) → IsQueueOf p.queue s → NeedsOf g w (needs s)
    by (NoQueue incarnation timers) one = record {}
    by (Present q) one = some-of g w (λ srq. part (names.Srq (srq_of q srq))) q.srq (λ srq. (subst (Has g) (sym one.1) has, record {}))

emptying-of : (g : Group) (w : World) (q : QueuePair) → Has g (domain_of q.queue) → Has g q.domain → NeedsOf g w (emptying_needs q)
emptying-of g w q name has = (name, around-of g w q (λ shared. Enough) has (λ s. record {}))

-- ---- verbs

drawing-of : (g : Group) (w : World) (s : Slot) (op : SendOp) → Has g s.domain → NeedsOf g w (drawing_needs s op)
drawing-of g w s (ops.Bind1 window key address count rights) has = (has, record {})
drawing-of g w s (ops.Bind2 window key low address count rights) has = record {}
drawing-of g w s (ops.FastReg region low buffer address count rights pages) has = record {}
drawing-of g w s (ops.LocalInv key) has = record {}
drawing-of g w s (ops.Send list) has = record {}
drawing-of g w s (ops.SendImm imm list) has = record {}
drawing-of g w s (ops.SendInv key list) has = record {}
drawing-of g w s (ops.Write address key list) has = record {}
drawing-of g w s (ops.WriteImm address key imm list) has = record {}
drawing-of g w s (ops.Read address key list) has = record {}
drawing-of g w s (ops.CmpSwap address key compare swap list) has = record {}
drawing-of g w s (ops.FetchAdd address key add list) has = record {}

-- a completion that waits in a completion queue of a domain is of a queue pair of that domain
waiting-of : (c : Configuration) (g : Group) (w : World) (s : Slot) (x : Completion) → IsSoundWorld c w → Has g s.domain → IsSettled s (w.queue x.queue) x → Has g (domain_of x.queue)
waiting-of c g w s x sound has settled = by (w.queue x.queue) (sound.things (Queue_of x.queue)) settled
  where
    side : (q : QueuePair) (b : Bool) → slot_eq (side_of q b) s ≡ true → q.domain ≡ s.domain
    side q true same = ap (λ (t : Slot). t.domain) (slot-path (recv_cq_of q) s same)
    side q false same = ap (λ (t : Slot). t.domain) (slot-path (send_cq_of q) s same)

    by : (v : QueueSlot) → IsQueueOf x.queue v → IsSettled s v x → Has g (domain_of x.queue)
    by (NoQueue incarnation timers) one none = absurd none
    by (Present q) one there = subst (Has g) (sym (side q x.receive there.0) ∙ one.1) has

place-of : (g : Group) (s : Slot) (cq : CompletionQueue) (x : Completion) → Has g s.domain → Has g (domain_of x.queue) → IsPartOf g (place_part s cq x)
place-of g s cq x has queue = by (source_of_completion cq x)
  where
    place : Option ℕ → PartName
    place None = names.Queue x.queue
    place (Some srq) = names.Srq (record { domain = s.domain; slot = srq })

    by : (o : Option ℕ) → IsPartOf g (place o)
    by None = queue
    by (Some srq) = has

places-of : (c : Configuration) (g : Group) (w : World) (s : Slot) (cq : CompletionQueue) (n : ℕ) (xs : List Completion) → IsSoundWorld c w → Has g s.domain
    → AllByRecursion (λ x. IsSettled s (w.queue x.queue) x) xs → NeedsOf g w (places_needs s cq (take n xs))
places-of c g w s cq zero xs sound has all = record {}
places-of c g w s cq (suc n) [] sound has all = record {}
places-of c g w s cq (suc n) (x ∷ xs) sound has all = (place-of g s cq x has (waiting-of c g w s x sound has all.0), places-of c g w s cq n xs sound has all.1)

poll-of : (c : Configuration) (g : Group) (w : World) (s : Slot) (n : ℕ) → IsSoundWorld c w → Has g s.domain
    → NeedsOf g w (By (Cq_of s) (λ cq. where_some (λ v. places_needs s v (take (min n MAX_POLLED) v.waiting)) cq))
poll-of c g w s n sound has = (has, by (w.cq s) (sound.settled s))
  where
    by : (o : Option CompletionQueue) → IfSome o (λ v. AllByRecursion (λ x. IsSettled s (w.queue x.queue) x) v.waiting)
        → NeedsOf g w (where_some (λ v. places_needs s v (take (min n MAX_POLLED) v.waiting)) o)
    by None all = record {}
    by (Some v) all = places-of c g w s v (min n MAX_POLLED) v.waiting sound has all

queues-of : (c : Configuration) (g : Group) (w : World) (x : Creation) → Has g x.slot.domain → NeedsOf g w (queues_needs c x)
queues-of c g w x has = by (has_queues c x)
  where
    queues : Needs
    queues = Part (names.Cq (beside x.slot x.send_cq)) (Part (names.Cq (beside x.slot x.recv_cq)) (where_some (λ srq. part (names.Srq (beside x.slot srq))) x.srq))

    by : (b : Bool) → NeedsOf g w (if b then queues else Enough)
    by true = (has, (has, some-of g w (λ srq. part (names.Srq (beside x.slot srq))) x.srq (λ srq. (has, record {}))))
    by false = record {}

dealloc_mw-of : (c : Configuration) (g : Group) (w : World) (s : Slot) → IsSoundWorld c w → AreBoundBeside w → Has g s.domain → NeedsOf g w (verb_needs c (verbs.DeallocMw s))
dealloc_mw-of c g w s sound beside has = (has, (has, by (w.window s).binding (beside s)))
  where
    x : Window
    x = w.window s

    binding : Binding → Needs
    binding b = Part (names.Region (region_under x b)) (where_some (λ q. part (names.Queue q)) b.queue)

    queues : (o : Option QueueId) → IfSome o (λ q. domain_of q ≡ s.domain) → NeedsOf g w (where_some (λ q. part (names.Queue q)) o)
    queues None own = record {}
    queues (Some q) own = (subst (Has g) (sym own) has, record {})

    by : (o : Option Binding) → IfSome o (λ b. IfSome b.queue (λ q. domain_of q ≡ s.domain)) → NeedsOf g w (where_some binding o)
    by None own = record {}
    by (Some b) own = (subst (λ (y : Slot). Has g y.domain) (sym (sound.things (Window_of s)).0) has, queues b.queue own)

-- the number of a queue pair's configured slot is of the slot's domain
slot-number : (c : Configuration) (g : Group) (s : Slot) → AreLimited c → has_slot c (λ a. a.qps) s ≡ true → Has g s.domain → Has g (domain_of (queue_of s))
slot-number c g s limited named has = by (queue-slot c s limited named)
  where
    by : s.slot < MAX_QPS → Has g (domain_of (queue_of s))
    by few = subst (Has g) (λ i. record { adapter = s.domain.adapter; domain = number i }) has
      where
        number : s.domain.domain ≡ ((s.domain.domain + 1) * 256 + s.slot) / 256 - 1
        number = omega (arith, few)

verb-of : (c : Configuration) (g : Group) (w : World) (by : ℕ) (verb : Verb) → AreLimited c → IsSoundWorld c w → AreBoundBeside w → is_named c verb ≡ true → IsEventOf g (events.Verb by verb)
    → NeedsOf g w (verb_needs c verb)
verb-of c g w by (verbs.AllocPd domain) limited sound beside named has = (has, record {})
verb-of c g w by (verbs.DeallocPd domain) limited sound beside named has = (has, record {})
verb-of c g w by (verbs.RegMr slot buffer offset count rights) limited sound beside named has = (has, (has, record {}))
verb-of c g w by (verbs.AllocMr slot pages) limited sound beside named has = (has, (has, record {}))
verb-of c g w by (verbs.DeregMr slot) limited sound beside named has = (has, (has, record {}))
verb-of c g w by (verbs.AllocMw slot kind) limited sound beside named has = (has, (has, record {}))
verb-of c g w by (verbs.DeallocMw slot) limited sound beside named has = dealloc_mw-of c g w slot sound beside has
verb-of c g w by (verbs.CreateCq slot capacity) limited sound beside named has = (has, (has, record {}))
verb-of c g w by (verbs.DestroyCq slot) limited sound beside named has = (has, (has, record {}))
verb-of c g w by (verbs.CreateSrq slot depth) limited sound beside named has = (has, (has, record {}))
verb-of c g w by (verbs.DestroySrq slot) limited sound beside named has = (has, (has, record {}))
verb-of c g w by (verbs.CreateQp slot send_cq recv_cq send_depth recv_depth srq) limited sound beside named has = (
  has,
  (
    slot-number c g slot limited named has,
    (
      slot-number c g slot limited named has,
      queues-of c g w (record { slot = slot; send_cq = send_cq; recv_cq = recv_cq; send_depth = send_depth; recv_depth = recv_depth; srq = srq }) has,
    ),
  ),
)
verb-of c g w by (verbs.ModifyQp slot change) limited sound beside named has =
    present-of c g w (queue_of slot) emptying_needs sound (slot-number c g slot limited named has) (λ q own. emptying-of g w q own.number own.domain)
verb-of c g w by (verbs.QueryQp slot) limited sound beside named has = (slot-number c g slot limited named has, record {})
verb-of c g w by (verbs.DestroyQp slot) limited sound beside named has =
    (has, present-of c g w (queue_of slot) emptying_needs sound (slot-number c g slot limited named has) (λ q own. emptying-of g w q own.number own.domain))
verb-of c g w by (verbs.PostSend slot request) limited sound beside named has =
    present-of c g w (queue_of slot) (λ q. Part (names.Cq (send_cq_of q)) (drawing_needs slot request.op)) sound
    (slot-number c g slot limited (and_parts (has_slot c (λ a. a.qps) slot) (has_named_slot c slot.domain request.op) named).0 has)
    (λ q own. (own.domain, drawing-of g w slot request.op has))
verb-of c g w by (verbs.PostRecv slot request) limited sound beside named has =
    present-of c g w (queue_of slot) (λ q. part (names.Cq (recv_cq_of q))) sound (slot-number c g slot limited named has) (λ q own. (own.domain, record {}))
verb-of c g w by (verbs.PostSrq slot request) limited sound beside named has = (has, record {})
verb-of c g w by (verbs.Poll slot n least) limited sound beside named has = poll-of c g w slot n sound has
verb-of c g w by (verbs.Store adapter buffer offset bytes) limited sound beside named has = (record {}, record {})
verb-of c g w by (verbs.Load adapter buffer offset count) limited sound beside named has = (record {}, record {})
verb-of c g w by (verbs.Inject queue bytes) limited sound beside named has =
    present-of c g w queue (λ q. Part (names.Mailbox queue) (arrival_needs c None bytes q)) sound (number-of c g queue named has)
    (λ q own. (number-of c g queue named has, arrival-needs-of c g w None bytes q sound own.domain))

-- ---- events

peer-in : (g : Group) (w : World) (name : QueueId) (q : QueuePair) → w.queue name ≡ Present q → IsPeerOf g (w.queue name) → PeerIn g q.peer
peer-in g w name q is within = subst (IsPeerOf g) is within

pub event-of : (c : Configuration) (g : Group) (w : World) (event : Event) → AreLimited c → IsSoundWorld c w → AreBoundBeside w → IsEventOf g event → LooksWithin g w event
    → NeedsOf g w (event_needs c event)
event-of c g w (events.Verb by verb) limited sound beside has within = at (is_named c verb) refl
  where
    at : (b : Bool) → is_named c verb ≡ b → NeedsOf g w (if b then verb_needs c verb else Enough)
    at true named = verb-of c g w by verb limited sound beside named has
    at false none = record {}
event-of c g w (events.Request queue lot) limited sound beside has within =
    turn-of c g w queue (λ q. around_needs q (λ shared. request_needs c q (turn_of q))) sound has
    (λ q own. around-of g w q (λ shared. request_needs c q (turn_of q)) own.domain (λ shared. request-needs-of c g w q (turn_of q) sound own.domain (peer-in g w queue q own.there within)))
event-of c g w (events.Deliver queue index) limited sound beside has within = at (has_queue c queue) refl
  where
    needs : Option (List ℕ) → Needs
    needs o = where_some (λ bytes. present_needs queue (arrival_needs c (Some index) bytes)) o

    lent : (o : Option (List ℕ)) → Has g (domain_of queue) → NeedsOf g w (needs o)
    lent None own = record {}
    lent (Some bytes) own = present-of c g w queue (arrival_needs c (Some index) bytes) sound own (λ q own. arrival-needs-of c g w (Some index) bytes q sound own.domain)

    at : (b : Bool) → has_queue c queue ≡ b → NeedsOf g w (if b then By (Mailbox_of queue) (λ m. needs (bytes_lent index m)) else Enough)
    at true there = (number-of c g queue there has, lent (bytes_lent index (w.mailbox queue)) (number-of c g queue there has))
    at false none = record {}
event-of c g w (events.Respond queue lot) limited sound beside has within = turn-of c g w queue (respond_needs c) sound has
    (λ q own. around-of g w q (λ shared. where_some (λ p. Part (names.Mailbox p.queue) (row_needs c (respond_row true q))) q.peer) own.domain
    (λ shared. peered-of c g w q.domain (respond_row true q) q.peer sound own.domain (respond-of q.domain true q refl) (peer-in g w queue q own.there within)))
event-of c g w (events.Timeout queue hasten) limited sound beside has within = turn-of c g w queue more sound has
    (λ q own. (own.called, around-of g w q (λ shared. where_some two q.peer) own.domain (λ shared. peer q.peer (peer-in g w queue q own.there within))))
  where
    two : Correspondent → Needs
    two p = Part (names.Queue p.queue) (part (names.Mailbox p.queue))

    more : QueuePair → Needs
    more q = Part (names.Mailbox queue) (around_needs q (λ shared. where_some two q.peer))

    peer : (o : Option Correspondent) → PeerIn g o → NeedsOf g w (where_some two o)
    peer None is = record {}
    peer (Some p) is = (is, (is, record {}))
event-of c g w (events.RnrWake queue) limited sound beside has within = turn-of c g w queue (λ q. where_some peer_needs q.peer) sound has
    (λ q own. by q.peer (peer-in g w queue q own.there within))
  where
    by : (o : Option Correspondent) → PeerIn g o → NeedsOf g w (where_some peer_needs o)
    by None is = record {}
    by (Some p) is = peer-needs-of c g w p sound is

-- Only configured parts are needed, in a sound and placed world.
use Rattle.std.proofs.Common.{◌≡◌, ◌∙◌, ℕ, zero, suc, ◌≤◌, ◌&&◌, arith, Bool, true, false, not, List, [], ◌∷◌, min, take, Option, None, Some, IfSome, ap, is_some, subst, sym, if◌then◌else◌, refl, true≢false}
use Rattle.std.proofs.lemmas.Bool.{and_parts}
use Rattle.std.specs.List.{AllByRecursion}
use Rattle.std.specs.Option.{option_and_then, option_map, option_map_or}
use Rattle.ca_keys.specs.declared.access.Ask.{Ask}
use Rattle.ca_keys.specs.declared.key.Key.{Key}
use Rattle.ca_keys.specs.declared.names.DomainId.{DomainId}
use Rattle.ca_keys.specs.declared.names.QueueId.{QueueId}
use Rattle.ca_keys.specs.declared.names.Slot.{Slot}
use Rattle.ca_keys.specs.declared.place.Run.{Run}
use Rattle.ca_keys.specs.Numbers.{is_window_key, queue_of}
use Rattle.ca_base.specs.Configuration.{Configuration}
use Rattle.ca_base.specs.Sight.{Invalidation}
use Rattle.ca_base.specs.declared.completion.Completion.{Completion}
use Rattle.ca_base.specs.declared.correspondent.Correspondent.{Correspondent}
use Rattle.ca_base.specs.declared.limits.TheConstants.{MAX_POLLED}
use Rattle.ca_base.specs.declared.request.SendOp.{SendOp}
use Rattle.ca_base.specs.declared.request.SendOp.TheVariants as ops
use Rattle.ca_base.specs.objects.CompletionQueue.{CompletionQueue}
use Rattle.ca_base.specs.objects.Mailbox.{bytes_lent}
use Rattle.ca_base.specs.objects.QueuePair.{NoQueue, Present, QueuePair, QueueSlot, recv_cq_of, send_cq_of, srq_of}
use Rattle.ca_base.specs.objects.Region.{FastRegistered, Free, NoRegion, RegionState, Registered, grant_in_state}
use Rattle.ca_base.specs.objects.SharedReceives.{SharedReceives}
use Rattle.ca_base.specs.objects.Slices.{buffer_length, has_queue, has_slot, is_key_of, names_region, names_window, slot_of_key}
use Rattle.ca_base.specs.objects.Window.{Binding, Window}
use Rattle.ca_law_parts.specs.Placed.{IsConfigured, IsPlacedBinding, IsPlacedQueue, IsPlacedReservation, IsPlacedSlot, IsPlacedWorld}
use Rattle.ca_law_parts.proofs.Names.PlacedLemmas.{waiting-configured}
use Rattle.ca_law_parts.proofs.Names.PlacedOperationLemmas.{IsNamedTurn, turn-named}
use Rattle.ca_law_parts.proofs.Names.PlacedQueueVerbLemmas.{IsPlacedCreation, creation-placed, queue-in}
use Rattle.ca_law_parts.proofs.Names.PlacedTurnLemmas.{IsPlacedHere, placed-here}
use Rattle.ca_law_parts.proofs.Names.PlacedVerbLemmas.{domain-in, source-in}
use Rattle.ca_law_parts.proofs.Names.PlanLemmas.{IsFit}
use Rattle.ca_law_parts.proofs.Parts.NeedsLemmas.{listed-also}
use Rattle.ca_law_world.proofs.Sound.SettledLemmas.{append-all}
use Rattle.ca_model.specs.declared.event.Event.{Event}
use Rattle.ca_model.specs.declared.event.Event.TheVariants as events
use Rattle.ca_model.specs.declared.part_name.PartName.{PartName}
use Rattle.ca_model.specs.declared.part_name.PartName.TheVariants as names
use Rattle.ca_model.specs.declared.verb.Verb.{Verb}
use Rattle.ca_model.specs.declared.verb.Verb.TheVariants as verbs
use Rattle.ca_model.specs.machine.CompletionVerbs.{source_of_completion}
use Rattle.ca_model.specs.machine.Delivery.{arrival_row}
use Rattle.ca_model.specs.machine.LocalOperations.{window_slot}
use Rattle.ca_model.specs.machine.Parts.{By, Enough, Needs, Part, also, around_needs, arrival_needs, ask_needs, asks_needs, bind_needs, buffer_needs, drawing_needs, emptying_needs, ending_needs, event_needs, is_configured_part, listed, operation_needs, part, peer_needs, place_part, places_needs, present_needs, queues_needs, region_needs, region_part, request_needs, respond_needs, row_needs, turn_needs, verb_needs, where_some, window_needs}
use Rattle.ca_model.specs.machine.QueuePairVerbs.{Creation, beside, has_queues}
use Rattle.ca_model.specs.machine.Requester.{Performs, RequestTurn, Sends, Waits, packet_row, turn_of}
use Rattle.ca_model.specs.machine.Respond.{respond_row}
use Rattle.ca_model.specs.machine.Row.{Row, region_under}
use Rattle.ca_model.specs.machine.Seen.{asks_window, shared_receives}
use Rattle.ca_model.specs.machine.Sound.{AreLimited, IsSoundState, IsSoundWorld, LieIn}
use Rattle.ca_model.specs.machine.Step.{bytes_of_buffer, has_buffer, has_named_slot, is_named}
use Rattle.ca_model.specs.machine.World.{Cq_of, Domain_of, Mailbox_of, Queue_of, Region_of, Srq_of, Window_of, World}

-- all parts of these are configured
abbrev AreParts : Configuration → List PartName → Type 0
AreParts c ps = AllByRecursion (λ p. is_configured_part c p ≡ true) ps

-- all parts are configured that are needed
abbrev NeedsConfigured : Configuration → World → Needs → Type 0
NeedsConfigured c w needs = AreParts c (listed w needs)

also-configured : (c : Configuration) (w : World) (a b : Needs) → NeedsConfigured c w a → NeedsConfigured c w b → NeedsConfigured c w (also a b)
also-configured c w a b one other = subst (AreParts c) (sym (listed-also w a b)) (append-all (λ p. is_configured_part c p ≡ true) (listed w a) (listed w b) one other)

some-configured : {A : Type 0} (c : Configuration) (w : World) (f : A → Needs) (o : Option A) → IfSome o (λ x. NeedsConfigured c w (f x)) → NeedsConfigured c w (where_some f o)
some-configured c w f None all = record {}
some-configured c w f (Some x) all = all

-- a buffer with some bytes is configured
buffer-there : (c : Configuration) (adapter buffer : ℕ) → 1 ≤ bytes_of_buffer c adapter buffer → has_buffer c adapter buffer ≡ true
buffer-there c adapter buffer some = by (buffer_length c adapter buffer) some
  where
    by : (o : Option ℕ) → 1 ≤ option_map_or (λ n. n) o 0 → is_some o ≡ true
    by None some = absurd (omega (arith, some))
    by (Some n) some = refl

buffer-configured : (c : Configuration) (w : World) (adapter buffer : ℕ) (rs : List Run) → AllByRecursion (λ r. 1 ≤ r.length) rs → LieIn adapter buffer (bytes_of_buffer c adapter buffer) rs
    → NeedsConfigured c w (buffer_needs rs)
buffer-configured c w adapter buffer [] some lie = record {}
buffer-configured c w adapter buffer (r ∷ rs) some lie = (
  ap (λ a. has_buffer c a r.buffer) lie.0.0 ∙ ap (has_buffer c adapter) lie.0.1 ∙ buffer-there c adapter buffer (omega (arith, some.0, lie.0.2)),
  record {},
)

region-configured : (c : Configuration) (w : World) (s : Slot) → IsSoundWorld c w → IsConfigured c (Region_of s) → NeedsConfigured c w (region_needs s)
region-configured c w s sound has = (has, by (w.region s).state (sound.things (Region_of s)))
  where
    by : (state : RegionState) → IsSoundState c s (w.region s).low state → NeedsConfigured c w (where_some (λ g. buffer_needs g.runs) (grant_in_state state))
    by NoRegion one = record {}
    by (Free pages) one = record {}
    by (Registered g) one = buffer-configured c w s.domain.adapter one.buffer g.runs one.some one.inside
    by (FastRegistered pages g) one = buffer-configured c w s.domain.adapter one.buffer g.runs one.some one.inside

window-configured : (c : Configuration) (w : World) (s : Slot) (more : Slot → Needs) → IsFit c w → IsConfigured c (Window_of s)
    → ((at : Slot) → IsConfigured c (Region_of at) → NeedsConfigured c w (more at)) → NeedsConfigured c w (window_needs more s)
window-configured c w s more fit has each = (has, by (w.window s).binding (fit.placed.things (Window_of s)))
  where
    under : (b : Binding) → IsPlacedBinding c s b → IsConfigured c (Region_of (region_under (w.window s) b))
    under b placed = subst (λ (x : Slot). IsConfigured c (Region_of (record { domain = x.domain; slot = b.region }))) (sym (fit.sound.things (Window_of s)).0) placed.region

    by : (o : Option Binding) → IfSome o (IsPlacedBinding c s) → NeedsConfigured c w (where_some (λ b. more (region_under (w.window s) b)) o)
    by None placed = record {}
    by (Some b) placed = each (region_under (w.window s) b) (under b placed)

region-named : (c : Configuration) (d : DomainId) (key : Key) → names_region c d key ≡ true → IsConfigured c (Region_of (slot_of_key d key))
region-named c d key named = (and_parts (not (is_window_key key) && is_key_of d key) (has_slot c (λ a. a.regions) (slot_of_key d key)) named).1

window-named : (c : Configuration) (d : DomainId) (key : Key) → names_window c d key ≡ true → IsConfigured c (Window_of (slot_of_key d key))
window-named c d key named = (and_parts (is_window_key key && is_key_of d key) (has_slot c (λ a. a.windows) (slot_of_key d key)) named).1

ask-configured : (c : Configuration) (w : World) (ask : Ask) → IsFit c w → NeedsConfigured c w (ask_needs c ask)
ask-configured c w ask fit = by (names_region c ask.domain ask.key) refl (asks_window c ask) refl
  where
    slot : Slot
    slot = slot_of_key ask.domain ask.key

    asked : (b : Bool) → (if b then false else names_window c ask.domain ask.key) ≡ true → names_window c ask.domain ask.key ≡ true
    asked true e = absurd (true≢false (sym e))
    asked false e = e

    by : (b : Bool) → names_region c ask.domain ask.key ≡ b → (z : Bool) → asks_window c ask ≡ z
        → NeedsConfigured c w (if b then region_needs slot else if z then window_needs region_needs slot else Enough)
    by true named z e = region-configured c w slot fit.sound (region-named c ask.domain ask.key named)
    by false none true named = window-configured c w slot region_needs fit (window-named c ask.domain ask.key (asked ask.local named)) (λ at has. region-configured c w at fit.sound has)
    by false none false e = record {}

asks-configured : (c : Configuration) (w : World) (asks : List Ask) → IsFit c w → NeedsConfigured c w (asks_needs c asks)
asks-configured c w [] fit = record {}
asks-configured c w (ask ∷ asks) fit = also-configured c w (ask_needs c ask) (asks_needs c asks) (ask-configured c w ask fit) (asks-configured c w asks fit)

ending-configured : (c : Configuration) (w : World) (d : DomainId) (key : Key) → IsFit c w → NeedsConfigured c w (ending_needs c d key)
ending-configured c w d key fit = by (names_region c d key) refl (names_window c d key) refl
  where
    slot : Slot
    slot = slot_of_key d key

    by : (b : Bool) → names_region c d key ≡ b → (z : Bool) → names_window c d key ≡ z
        → NeedsConfigured c w (if b then region_part slot else if z then window_needs region_part slot else Enough)
    by true named z e = (region-named c d key named, record {})
    by false none true named = window-configured c w slot region_part fit (window-named c d key named) (λ at has. (has, record {}))
    by false none false e = record {}

row-configured : (c : Configuration) (w : World) (row : Row) → IsFit c w → NeedsConfigured c w (row_needs c row)
row-configured c w row fit = also-configured c w (asks_needs c row.asks) (where_some (λ i. ending_needs c i.domain i.key) row.invalidation) (asks-configured c w row.asks fit) (by row.invalidation)
  where
    by : (o : Option Invalidation) → NeedsConfigured c w (where_some (λ i. ending_needs c i.domain i.key) o)
    by None = record {}
    by (Some i) = ending-configured c w i.domain i.key fit

bind-configured : (c : Configuration) (w : World) (q : QueuePair) (window : ℕ) (key : Key) → IsFit c w → IsConfigured c (Window_of (window_slot q window)) → NeedsConfigured c w (bind_needs c q window key)
bind-configured c w q window key fit has = also-configured c w (window_needs region_part (window_slot q window)) (chosen (names_region c q.domain key))
    (window-configured c w (window_slot q window) region_part fit has (λ at there. (there, record {}))) (by (names_region c q.domain key) refl)
  where
    chosen : Bool → Needs
    chosen b = if b then region_part (slot_of_key q.domain key) else Enough

    by : (b : Bool) → names_region c q.domain key ≡ b → NeedsConfigured c w (chosen b)
    by true named = (region-named c q.domain key named, record {})
    by false none = record {}

operation-configured : (c : Configuration) (w : World) (q : QueuePair) (op : SendOp) → IsFit c w → has_named_slot c q.domain op ≡ true → NeedsConfigured c w (operation_needs c q op)
operation-configured c w q (ops.Bind1 window key address count rights) fit has = bind-configured c w q window key fit has
operation-configured c w q (ops.Bind2 window key low address count rights) fit has = bind-configured c w q window key fit has
operation-configured c w q (ops.FastReg region low buffer address count rights pages) fit has = (has, record {})
operation-configured c w q (ops.LocalInv key) fit has = ending-configured c w q.domain key fit
operation-configured c w q (ops.Send list) fit has = record {}
operation-configured c w q (ops.SendImm imm list) fit has = record {}
operation-configured c w q (ops.SendInv key list) fit has = record {}
operation-configured c w q (ops.Write address key list) fit has = record {}
operation-configured c w q (ops.WriteImm address key imm list) fit has = record {}
operation-configured c w q (ops.Read address key list) fit has = record {}
operation-configured c w q (ops.CmpSwap address key compare swap list) fit has = record {}
operation-configured c w q (ops.FetchAdd address key add list) fit has = record {}

around-configured : (c : Configuration) (w : World) (q : QueuePair) (more : Option SharedReceives → Needs) → IsPlacedQueue c q → NeedsConfigured c w (more (shared_receives w q))
    → NeedsConfigured c w (around_needs q more)
around-configured c w q more placed rest = (placed.send, (placed.recv, by q.srq placed.shared rest))
  where
    needs : Option ℕ → Needs
    needs None = more None
    needs (Some srq) = By (Srq_of (srq_of q srq)) (λ slot. more slot.srq)

    shared : Option ℕ → Option SharedReceives
    shared o = option_and_then (λ slot. slot.srq) (option_map (λ srq. w.srq (srq_of q srq)) o)

    by : (o : Option ℕ) → IfSome o (λ srq. IsConfigured c (Srq_of (srq_of q srq))) → NeedsConfigured c w (more (shared o)) → NeedsConfigured c w (needs o)
    by None has rest = rest
    by (Some srq) has rest = (has, rest)

-- a queue pair of a configured name, if it is there
present-configured : (c : Configuration) (w : World) (name : QueueId) (more : QueuePair → Needs) → IsFit c w → IsConfigured c (Queue_of name)
    → ((q : QueuePair) → IsPlacedHere c w q → NeedsConfigured c w (more q)) → NeedsConfigured c w (present_needs name more)
present-configured c w name more fit has each = (has, by (w.queue name) refl)
  where
    needs : QueueSlot → Needs
    needs (NoQueue incarnation timers) = Enough
    needs (Present q) = more q

    by : (s : QueueSlot) → w.queue name ≡ s → NeedsConfigured c w (needs s)
    by (NoQueue incarnation timers) is = record {}
    by (Present q) is = each q (placed-here c w name q fit is has)

turn-configured : (c : Configuration) (w : World) (name : QueueId) (more : QueuePair → Needs) → IsFit c w
    → ((q : QueuePair) → IsPlacedHere c w q → NeedsConfigured c w (more q)) → NeedsConfigured c w (turn_needs c name more)
turn-configured c w name more fit each = by (has_queue c name) refl
  where
    by : (b : Bool) → has_queue c name ≡ b → NeedsConfigured c w (if b then present_needs name more else Enough)
    by true has = present-configured c w name more fit has each
    by false none = record {}

-- a peer's mailbox and a row
peered-configured : (c : Configuration) (w : World) (row : Row) (o : Option Correspondent) → IsFit c w → IfSome o (λ p. IsConfigured c (Queue_of p.queue))
    → NeedsConfigured c w (where_some (λ p. Part (names.Mailbox p.queue) (row_needs c row)) o)
peered-configured c w row None fit has = record {}
peered-configured c w row (Some p) fit has = (has, row-configured c w row fit)

request-configured : (c : Configuration) (w : World) (q : QueuePair) (turn : RequestTurn) → IsFit c w → IsPlacedQueue c q → IsNamedTurn c q turn → NeedsConfigured c w (request_needs c q turn)
request-configured c w q (Waits reason) fit placed named = record {}
request-configured c w q (Performs n) fit placed named = operation-configured c w q n.request.op fit named
request-configured c w q (Sends n) fit placed named = peered-configured c w (packet_row q true n) q.peer fit placed.peer

arrival-configured : (c : Configuration) (w : World) (envelope : Option ℕ) (bytes : List ℕ) (q : QueuePair) → IsFit c w → IsPlacedHere c w q → NeedsConfigured c w (arrival_needs c envelope bytes q)
arrival-configured c w envelope bytes q fit here = around-configured c w q (λ shared. row_needs c (arrival_row bytes envelope shared q)) here.placed
    (row-configured c w (arrival_row bytes envelope (shared_receives w q) q) fit)

peer-configured : (c : Configuration) (w : World) (p : Correspondent) → IsFit c w → IsConfigured c (Queue_of p.queue) → NeedsConfigured c w (peer_needs p)
peer-configured c w p fit has = (has, (has, by (w.queue p.queue) (fit.placed.things (Queue_of p.queue))))
  where
    needs : QueueSlot → Needs
    needs (NoQueue incarnation timers) = Enough
    needs (Present q) = where_some (λ srq. part (names.Srq (srq_of q srq))) q.srq

    shared : (q : QueuePair) (o : Option ℕ) → IfSome o (λ srq. IsConfigured c (Srq_of (srq_of q srq))) → NeedsConfigured c w (where_some (λ srq. part (names.Srq (srq_of q srq))) o)
    shared q None has = record {}
    shared q (Some srq) has = (has, record {})

    by : (s : QueueSlot) → IsPlacedSlot c s → NeedsConfigured c w (needs s)
    by (NoQueue incarnation timers) placed = record {}
    by (Present q) placed = shared q q.srq placed.shared

emptying-configured : (c : Configuration) (w : World) (q : QueuePair) → IsPlacedHere c w q → NeedsConfigured c w (emptying_needs q)
emptying-configured c w q here = (here.name, around-configured c w q (λ shared. Enough) here.placed (record {}))

drawing-configured : (c : Configuration) (w : World) (s : Slot) (op : SendOp) → has_named_slot c s.domain op ≡ true → NeedsConfigured c w (drawing_needs s op)
drawing-configured c w s (ops.Bind1 window key address count rights) has = (has, record {})
drawing-configured c w s (ops.Bind2 window key low address count rights) has = record {}
drawing-configured c w s (ops.FastReg region low buffer address count rights pages) has = record {}
drawing-configured c w s (ops.LocalInv key) has = record {}
drawing-configured c w s (ops.Send list) has = record {}
drawing-configured c w s (ops.SendImm imm list) has = record {}
drawing-configured c w s (ops.SendInv key list) has = record {}
drawing-configured c w s (ops.Write address key list) has = record {}
drawing-configured c w s (ops.WriteImm address key imm list) has = record {}
drawing-configured c w s (ops.Read address key list) has = record {}
drawing-configured c w s (ops.CmpSwap address key compare swap list) has = record {}
drawing-configured c w s (ops.FetchAdd address key add list) has = record {}

place-configured : (c : Configuration) (s : Slot) (cq : CompletionQueue) (x : Completion) → AllByRecursion (IsPlacedReservation c s) cq.reservations → IsConfigured c (Queue_of x.queue)
    → is_configured_part c (place_part s cq x) ≡ true
place-configured c s cq x reserved waits = by (source_of_completion cq x) (source-in c s cq x reserved)
  where
    place : Option ℕ → PartName
    place None = names.Queue x.queue
    place (Some srq) = names.Srq (record { domain = s.domain; slot = srq })

    by : (o : Option ℕ) → IfSome o (λ srq. IsConfigured c (Srq_of (record { domain = s.domain; slot = srq }))) → is_configured_part c (place o) ≡ true
    by None has = waits
    by (Some srq) has = has

places-configured : (c : Configuration) (w : World) (s : Slot) (cq : CompletionQueue) (n : ℕ) (xs : List Completion) → AllByRecursion (IsPlacedReservation c s) cq.reservations
    → AllByRecursion (λ x. IsConfigured c (Queue_of x.queue)) xs → NeedsConfigured c w (places_needs s cq (take n xs))
places-configured c w s cq zero xs reserved all = record {}
places-configured c w s cq (suc n) [] reserved all = record {}
places-configured c w s cq (suc n) (x ∷ xs) reserved all = (place-configured c s cq x reserved all.0, places-configured c w s cq n xs reserved all.1)

poll-configured : (c : Configuration) (w : World) (s : Slot) (n : ℕ) → IsFit c w → IsConfigured c (Cq_of s)
    → NeedsConfigured c w (By (Cq_of s) (λ cq. where_some (λ v. places_needs s v (take (min n MAX_POLLED) v.waiting)) cq))
poll-configured c w s n fit has = (has, by (w.cq s) (fit.placed.things (Cq_of s)) (waiting-configured c w s fit.sound fit.placed))
  where
    by : (o : Option CompletionQueue) → IfSome o (λ v. AllByRecursion (IsPlacedReservation c s) v.reservations) → IfSome o (λ v. AllByRecursion (λ x. IsConfigured c (Queue_of x.queue)) v.waiting)
        → NeedsConfigured c w (where_some (λ v. places_needs s v (take (min n MAX_POLLED) v.waiting)) o)
    by None reserved waits = record {}
    by (Some v) reserved waits = places-configured c w s v (min n MAX_POLLED) v.waiting reserved waits

queues-configured : (c : Configuration) (w : World) (x : Creation) → IsConfigured c (Domain_of x.slot.domain) → IsConfigured c (Queue_of (queue_of x.slot)) → NeedsConfigured c w (queues_needs c x)
queues-configured c w x domain queue = by (has_queues c x) refl
  where
    queues : Needs
    queues = Part (names.Cq (beside x.slot x.send_cq)) (Part (names.Cq (beside x.slot x.recv_cq)) (where_some (λ srq. part (names.Srq (beside x.slot srq))) x.srq))

    shared : (o : Option ℕ) → IfSome o (λ srq. IsConfigured c (Srq_of (beside x.slot srq))) → NeedsConfigured c w (where_some (λ srq. part (names.Srq (beside x.slot srq))) o)
    shared None has = record {}
    shared (Some srq) has = (has, record {})

    made : IsPlacedCreation c x → NeedsConfigured c w queues
    made placed = (placed.send, (placed.recv, shared x.srq placed.shared))

    by : (b : Bool) → has_queues c x ≡ b → NeedsConfigured c w (if b then queues else Enough)
    by true has = made (creation-placed c x domain queue has)
    by false none = record {}

dealloc_mw-configured : (c : Configuration) (w : World) (s : Slot) → IsFit c w → IsConfigured c (Window_of s) → NeedsConfigured c w (verb_needs c (verbs.DeallocMw s))
dealloc_mw-configured c w s fit has = (domain-in c (λ a. a.windows) s has, (has, by (w.window s).binding (fit.placed.things (Window_of s))))
  where
    x : Window
    x = w.window s

    binding : Binding → Needs
    binding b = Part (names.Region (region_under x b)) (where_some (λ q. part (names.Queue q)) b.queue)

    queues : (o : Option QueueId) → IfSome o (λ q. IsConfigured c (Queue_of q)) → NeedsConfigured c w (where_some (λ q. part (names.Queue q)) o)
    queues None has = record {}
    queues (Some q) has = (has, record {})

    by : (o : Option Binding) → IfSome o (IsPlacedBinding c s) → NeedsConfigured c w (where_some binding o)
    by None placed = record {}
    by (Some b) placed = (
      subst (λ (y : Slot). IsConfigured c (Region_of (record { domain = y.domain; slot = b.region }))) (sym (fit.sound.things (Window_of s)).0) placed.region,
      queues b.queue placed.queue,
    )

verb-configured : (c : Configuration) (w : World) (verb : Verb) → AreLimited c → IsFit c w → is_named c verb ≡ true → NeedsConfigured c w (verb_needs c verb)
verb-configured c w (verbs.AllocPd domain) limited fit named = (named, record {})
verb-configured c w (verbs.DeallocPd domain) limited fit named = (named, record {})
verb-configured c w (verbs.RegMr slot buffer offset count rights) limited fit named = (domain-in c (λ a. a.regions) slot both.0, (both.0, record {}))
  where
    both : (has_slot c (λ a. a.regions) slot ≡ true) × (has_buffer c slot.domain.adapter buffer ≡ true)
    both = and_parts (has_slot c (λ a. a.regions) slot) (has_buffer c slot.domain.adapter buffer) named
verb-configured c w (verbs.AllocMr slot pages) limited fit named = (domain-in c (λ a. a.regions) slot named, (named, record {}))
verb-configured c w (verbs.DeregMr slot) limited fit named = (domain-in c (λ a. a.regions) slot named, (named, record {}))
verb-configured c w (verbs.AllocMw slot kind) limited fit named = (domain-in c (λ a. a.windows) slot named, (named, record {}))
verb-configured c w (verbs.DeallocMw slot) limited fit named = dealloc_mw-configured c w slot fit named
verb-configured c w (verbs.CreateCq slot capacity) limited fit named = (domain-in c (λ a. a.cqs) slot named, (named, record {}))
verb-configured c w (verbs.DestroyCq slot) limited fit named = (domain-in c (λ a. a.cqs) slot named, (named, record {}))
verb-configured c w (verbs.CreateSrq slot depth) limited fit named = (domain-in c (λ a. a.srqs) slot named, (named, record {}))
verb-configured c w (verbs.DestroySrq slot) limited fit named = (domain-in c (λ a. a.srqs) slot named, (named, record {}))
verb-configured c w (verbs.CreateQp slot send_cq recv_cq send_depth recv_depth srq) limited fit named = (
  domain-in c (λ a. a.qps) slot named,
  (
    queue-in c slot limited named,
    (
      queue-in c slot limited named,
      queues-configured c w (record { slot = slot; send_cq = send_cq; recv_cq = recv_cq; send_depth = send_depth; recv_depth = recv_depth; srq = srq }) (domain-in c (λ a. a.qps) slot named) (queue-in c slot limited named),
    ),
  ),
)
verb-configured c w (verbs.ModifyQp slot change) limited fit named = present-configured c w (queue_of slot) emptying_needs fit (queue-in c slot limited named) (emptying-configured c w)
verb-configured c w (verbs.QueryQp slot) limited fit named = (queue-in c slot limited named, record {})
verb-configured c w (verbs.DestroyQp slot) limited fit named =
    (domain-in c (λ a. a.qps) slot named, present-configured c w (queue_of slot) emptying_needs fit (queue-in c slot limited named) (emptying-configured c w))
verb-configured c w (verbs.PostSend slot request) limited fit named =
    present-configured c w (queue_of slot) (λ q. Part (names.Cq (send_cq_of q)) (drawing_needs slot request.op)) fit (queue-in c slot limited both.0)
    (λ q here. (here.placed.send, drawing-configured c w slot request.op both.1))
  where
    both : (has_slot c (λ a. a.qps) slot ≡ true) × (has_named_slot c slot.domain request.op ≡ true)
    both = and_parts (has_slot c (λ a. a.qps) slot) (has_named_slot c slot.domain request.op) named
verb-configured c w (verbs.PostRecv slot request) limited fit named =
    present-configured c w (queue_of slot) (λ q. part (names.Cq (recv_cq_of q))) fit (queue-in c slot limited named) (λ q here. (here.placed.recv, record {}))
verb-configured c w (verbs.PostSrq slot request) limited fit named = (named, record {})
verb-configured c w (verbs.Poll slot n least) limited fit named = poll-configured c w slot n fit named
verb-configured c w (verbs.Store adapter buffer offset bytes) limited fit named = (named, record {})
verb-configured c w (verbs.Load adapter buffer offset count) limited fit named = (named, record {})
verb-configured c w (verbs.Inject queue bytes) limited fit named =
    present-configured c w queue (λ q. Part (names.Mailbox queue) (arrival_needs c None bytes q)) fit named (λ q here. (named, arrival-configured c w None bytes q fit here))

event-configured : (c : Configuration) (w : World) (event : Event) → AreLimited c → IsFit c w → NeedsConfigured c w (event_needs c event)
event-configured c w (events.Verb by verb) limited fit = at (is_named c verb) refl
  where
    at : (b : Bool) → is_named c verb ≡ b → NeedsConfigured c w (if b then verb_needs c verb else Enough)
    at true named = verb-configured c w verb limited fit named
    at false none = record {}
event-configured c w (events.Request queue lot) limited fit = turn-configured c w queue (λ q. around_needs q (λ shared. request_needs c q (turn_of q))) fit
    (λ q here. around-configured c w q (λ shared. request_needs c q (turn_of q)) here.placed (request-configured c w q (turn_of q) fit here.placed (turn-named c w q here)))
event-configured c w (events.Deliver queue index) limited fit = at (has_queue c queue) refl
  where
    needs : Option (List ℕ) → Needs
    needs o = where_some (λ bytes. present_needs queue (arrival_needs c (Some index) bytes)) o

    lent : (o : Option (List ℕ)) → has_queue c queue ≡ true → NeedsConfigured c w (needs o)
    lent None has = record {}
    lent (Some bytes) has = present-configured c w queue (arrival_needs c (Some index) bytes) fit has (λ q here. arrival-configured c w (Some index) bytes q fit here)

    at : (b : Bool) → has_queue c queue ≡ b → NeedsConfigured c w (if b then By (Mailbox_of queue) (λ m. needs (bytes_lent index m)) else Enough)
    at true has = (has, lent (bytes_lent index (w.mailbox queue)) has)
    at false none = record {}
event-configured c w (events.Respond queue lot) limited fit = turn-configured c w queue (respond_needs c) fit
    (λ q here. around-configured c w q (λ shared. where_some (λ p. Part (names.Mailbox p.queue) (row_needs c (respond_row true q))) q.peer) here.placed
    (peered-configured c w (respond_row true q) q.peer fit here.placed.peer))
event-configured c w (events.Timeout queue hasten) limited fit = at (has_queue c queue) refl
  where
    two : Correspondent → Needs
    two p = Part (names.Queue p.queue) (part (names.Mailbox p.queue))

    more : QueuePair → Needs
    more q = Part (names.Mailbox queue) (around_needs q (λ shared. where_some two q.peer))

    peer : (o : Option Correspondent) → IfSome o (λ p. IsConfigured c (Queue_of p.queue)) → NeedsConfigured c w (where_some two o)
    peer None has = record {}
    peer (Some p) has = (has, (has, record {}))

    at : (b : Bool) → has_queue c queue ≡ b → NeedsConfigured c w (if b then present_needs queue more else Enough)
    at true has = present-configured c w queue more fit has (λ q here. (has, around-configured c w q (λ shared. where_some two q.peer) here.placed (peer q.peer here.placed.peer)))
    at false none = record {}
event-configured c w (events.RnrWake queue) limited fit = turn-configured c w queue (λ q. where_some peer_needs q.peer) fit (λ q here. by q.peer here.placed.peer)
  where
    by : (o : Option Correspondent) → IfSome o (λ p. IsConfigured c (Queue_of p.queue)) → NeedsConfigured c w (where_some peer_needs o)
    by None has = record {}
    by (Some p) has = peer-configured c w p fit has

pub parts-configured : (c : Configuration) (w : World) (event : Event) → AreLimited c → IsSoundWorld c w → IsPlacedWorld c w → AllByRecursion (λ p. is_configured_part c p ≡ true) (listed w (event_needs c event))
parts-configured c w event limited sound placed = event-configured c w event limited (record { sound = sound; placed = placed })

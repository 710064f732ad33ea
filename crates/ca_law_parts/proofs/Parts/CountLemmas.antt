-- How many parts an event needs at most.
use Rattle.std.proofs.Common.{◌≡◌, ℕ, ◌+◌, ◌*◌, ◌≤◌, min, arith, Bool, true, false, List, [], ◌∷◌, length, take, Option, None, Some, IfSome, if◌then◌else◌, ap, suc, refl}
use Rattle.std.proofs.lemmas.List.{length-append, length-take}
use Rattle.std.specs.Option.{option_and_then, option_map}
use Rattle.ca_keys.specs.declared.access.Ask.{Ask}
use Rattle.ca_keys.specs.declared.grant.Grant.{Grant}
use Rattle.ca_keys.specs.declared.key.Key.{Key}
use Rattle.ca_base.specs.declared.limits.TheConstants.{MAX_PIECES, MAX_POLLED}
use Rattle.ca_keys.specs.declared.names.DomainId.{DomainId}
use Rattle.ca_keys.specs.declared.names.QueueId.{QueueId}
use Rattle.ca_keys.specs.declared.names.Slot.{Slot}
use Rattle.ca_keys.specs.declared.place.Run.{Run}
use Rattle.ca_base.specs.declared.request.SendOp.{SendOp}
use Rattle.ca_base.specs.declared.request.SendOp.TheVariants as ops
use Rattle.ca_base.specs.Configuration.{Configuration}
use Rattle.ca_keys.specs.Numbers.{queue_of}
use Rattle.ca_base.specs.Sight.{Invalidation}
use Rattle.ca_model.specs.machine.QueuePairVerbs.{Creation, beside, has_queues}
use Rattle.ca_base.specs.objects.CompletionQueue.{CompletionQueue}
use Rattle.ca_base.specs.declared.correspondent.Correspondent.{Correspondent}
use Rattle.ca_base.specs.objects.Mailbox.{Mailbox, bytes_lent}
use Rattle.ca_base.specs.objects.QueuePair.{NoQueue, Present, QueuePair, QueueSlot, recv_cq_of, send_cq_of, srq_of}
use Rattle.ca_base.specs.objects.Region.{grant_of_region}
use Rattle.ca_base.specs.objects.Slices.{has_queue, names_region, names_window, slot_of_key}
use Rattle.ca_base.specs.objects.SharedReceives.{SharedReceives}
use Rattle.ca_keys.specs.declared.place.Run.{Run}
use Rattle.ca_keys.specs.declared.names.Slot.{Slot}
use Rattle.ca_base.specs.declared.completion.Completion.{Completion}
use Rattle.ca_base.specs.objects.Window.{Binding}
use Rattle.ca_model.specs.declared.event.Event.{Event}
use Rattle.ca_model.specs.declared.event.Event.TheVariants as events
use Rattle.ca_model.specs.declared.verb.Verb.{Verb}
use Rattle.ca_model.specs.declared.verb.Verb.TheVariants as verbs
use Rattle.ca_model.specs.machine.Delivery.{arrival_row}
use Rattle.ca_model.specs.machine.LocalOperations.{window_slot}
use Rattle.ca_model.specs.machine.Requester.{Performs, RequestTurn, Sends, Waits, packet_row, turn_of}
use Rattle.ca_model.specs.machine.Respond.{respond_row}
use Rattle.ca_model.specs.machine.Row.{Row, region_under}
use Rattle.ca_model.specs.machine.World.{Mailbox_of, Queue_of, Srq_of, World}
use Rattle.ca_model.specs.machine.Invariants.{IsQueue, IsSharedReceives}
use Rattle.ca_model.specs.declared.part_name.PartName.TheVariants as names
use Rattle.ca_model.specs.machine.Parts.{By, Enough, Needs, Part, also, around_needs, arrival_needs, ask_needs, asks_needs, bind_needs, buffer_needs, drawing_needs, emptying_needs, ending_needs, event_needs, listed, operation_needs, part, peer_needs, places_needs, present_needs, queues_needs, region_needs, region_part, request_needs, respond_needs, row_needs, turn_needs, verb_needs, where_some, window_needs}
use Rattle.ca_model.specs.machine.Sound.{IsQueueOf, IsSoundWorld}
use Rattle.ca_law_world.proofs.Sound.RespondLemmas.{arrival-good, respond-good}
use Rattle.ca_law_world.proofs.Sound.TurnLemmas.{packet-good}
use Rattle.ca_law_world.proofs.Sound.WorldLemmas.{around_in, shared_of}
use Rattle.ca_law_parts.proofs.Parts.NeedsLemmas.{listed-also}
use Rattle.ca_model.specs.machine.Seen.{asks_window}
use Rattle.ca_model.specs.machine.Around.{shared_in}
use Rattle.ca_model.specs.machine.Step.{is_named}

-- needs list no more than so many parts
abbrev AreFew : World → ℕ → Needs → Type 0
AreFew w most needs = length (listed w needs) ≤ most

few-some : {A : Type 0} (w : World) (most : ℕ) (f : A → Needs) (o : Option A) → ((x : A) → AreFew w most (f x)) → AreFew w most (where_some f o)
few-some w most f None few = omega arith
few-some w most f (Some x) few = few x

few-also : (w : World) (m n : ℕ) (a b : Needs) → AreFew w m a → AreFew w n b → AreFew w (m + n) (also a b)
few-also w m n a b one other = omega (arith, one, other, ap length (listed-also w a b), length-append (listed w a) (listed w b))

few-around : (w : World) (q : QueuePair) (most : ℕ) (more : Option SharedReceives → Needs) → AreFew w most (more (shared_in (around_in w q (shared_of w q)))) → AreFew w (3 + most) (around_needs q more)
few-around w q most more few = by q.srq few
  where
    needs : Option ℕ → Needs
    needs None = more None
    needs (Some srq) = By (Srq_of (srq_of q srq)) (λ slot. more slot.srq)

    by : (o : Option ℕ) → AreFew w most (more (option_and_then (λ s. s.srq) (option_map (λ srq. w.srq (srq_of q srq)) o)))
        → suc (suc (length (listed w (needs o)))) ≤ 3 + most
    by None few = omega (arith, few)
    by (Some srq) few = omega (arith, few)

few-buffer : (w : World) (rs : List Run) → AreFew w 1 (buffer_needs rs)
few-buffer w [] = omega arith
few-buffer w (r ∷ rs) = omega arith

few-region : (w : World) (s : Slot) → AreFew w 2 (region_needs s)
few-region w s = omega (arith, few-some w 1 (λ (g : Grant). buffer_needs g.runs) (grant_of_region (w.region s)) (λ g. few-buffer w g.runs))

few-window : (w : World) (s : Slot) (most : ℕ) (more : Slot → Needs) → ((s : Slot) → AreFew w most (more s)) → AreFew w (suc most) (window_needs more s)
few-window w s most more few = omega (arith, few-some w most (λ (b : Binding). more (region_under (w.window s) b)) (w.window s).binding (λ b. few (region_under (w.window s) b)))

few-ask : (c : Configuration) (w : World) (ask : Ask) → AreFew w 3 (ask_needs c ask)
few-ask c w ask = by (names_region c ask.domain ask.key) (asks_window c ask)
  where
    slot : Slot
    slot = slot_of_key ask.domain ask.key

    by : (b z : Bool) → AreFew w 3 (if b then region_needs slot else if z then window_needs region_needs slot else Enough)
    by true z = omega (arith, few-region w slot)
    by false true = omega (arith, few-window w slot 2 region_needs (few-region w))
    by false false = omega arith

few-asks : (c : Configuration) (w : World) (asks : List Ask) → AreFew w (3 * length asks) (asks_needs c asks)
few-asks c w [] = omega arith
few-asks c w (ask ∷ asks) = omega (arith, few-also w 3 (3 * length asks) (ask_needs c ask) (asks_needs c asks) (few-ask c w ask) (few-asks c w asks))

few-ending : (c : Configuration) (w : World) (d : DomainId) (key : Key) → AreFew w 2 (ending_needs c d key)
few-ending c w d key = by (names_region c d key) (names_window c d key)
  where
    slot : Slot
    slot = slot_of_key d key

    by : (b z : Bool) → AreFew w 2 (if b then region_part slot else if z then window_needs region_part slot else Enough)
    by true z = omega arith
    by false true = omega (arith, few-window w slot 1 region_part (λ s. omega arith))
    by false false = omega arith

few-row : (c : Configuration) (w : World) (row : Row) → length row.asks ≤ MAX_PIECES → AreFew w 14 (row_needs c row)
few-row c w row few = omega (
  arith,
  few,
  few-also w (3 * length row.asks) 2 (asks_needs c row.asks) (where_some (λ i. ending_needs c i.domain i.key) row.invalidation) (few-asks c w row.asks)
      (few-some w 2 (λ (i : Invalidation). ending_needs c i.domain i.key) row.invalidation (λ i. few-ending c w i.domain i.key)),
)

few-bind : (c : Configuration) (w : World) (q : QueuePair) (window : ℕ) (key : Key) → AreFew w 3 (bind_needs c q window key)
few-bind c w q window key = few-also w 2 1 (window_needs region_part (window_slot q window)) (chosen (names_region c q.domain key))
    (omega (arith, few-window w (window_slot q window) 1 region_part (λ s. omega arith))) (by (names_region c q.domain key))
  where
    chosen : Bool → Needs
    chosen b = if b then region_part (slot_of_key q.domain key) else Enough

    by : (b : Bool) → AreFew w 1 (chosen b)
    by true = omega arith
    by false = omega arith

few-operation : (c : Configuration) (w : World) (q : QueuePair) (op : SendOp) → AreFew w 3 (operation_needs c q op)
few-operation c w q (ops.Bind1 window key address count rights) = few-bind c w q window key
few-operation c w q (ops.Bind2 window key low address count rights) = few-bind c w q window key
few-operation c w q (ops.FastReg region low buffer address count rights pages) = omega arith
few-operation c w q (ops.LocalInv key) = omega (arith, few-ending c w q.domain key)
few-operation c w q (ops.Send list) = omega arith
few-operation c w q (ops.SendImm imm list) = omega arith
few-operation c w q (ops.SendInv key list) = omega arith
few-operation c w q (ops.Write address key list) = omega arith
few-operation c w q (ops.WriteImm address key imm list) = omega arith
few-operation c w q (ops.Read address key list) = omega arith
few-operation c w q (ops.CmpSwap address key compare swap list) = omega arith
few-operation c w q (ops.FetchAdd address key add list) = omega arith

few-request : (c : Configuration) (w : World) (q : QueuePair) → IsQueue q → (turn : RequestTurn) → turn_of q ≡ turn → AreFew w 15 (request_needs c q turn)
few-request c w q s (Waits reason) e = omega arith
few-request c w q s (Performs n) e = omega (arith, few-operation c w q n.request.op)
few-request c w q s (Sends n) e = few-some w 15 (λ (p : Correspondent). Part (names.Mailbox p.queue) (row_needs c (packet_row q true n))) q.peer
    (λ p. omega (arith, few-row c w (packet_row q true n) (packet-good q true n s e).few))

few-arrival : (c : Configuration) (w : World) (envelope : Option ℕ) (bytes : List ℕ) (q : QueuePair) → IsSoundWorld c w → IsQueue q → AreFew w 17 (arrival_needs c envelope bytes q)
few-arrival c w envelope bytes q sound s = few-around w q 14 (λ shared. row_needs c (arrival_row bytes envelope shared q))
    (few-row c w (arrival_row bytes envelope (shared_in (around_in w q (shared_of w q))) q)
    (arrival-good bytes envelope (shared_in (around_in w q (shared_of w q))) q s (shared q.srq)).few)
  where
    shared : (o : Option ℕ) → IfSome (option_and_then (λ s. s.srq) (option_map (λ srq. w.srq (srq_of q srq)) o)) IsSharedReceives
    shared None = record {}
    shared (Some srq) = sound.things (Srq_of (srq_of q srq))

few-present : (c : Configuration) (w : World) (name : QueueId) (most : ℕ) (more : QueuePair → Needs) → IsSoundWorld c w → ((q : QueuePair) → IsQueue q → AreFew w most (more q))
    → AreFew w (suc most) (present_needs name more)
few-present c w name most more sound few = by (w.queue name) (sound.things (Queue_of name))
  where
    needs : QueueSlot → Needs
    needs (NoQueue incarnation timers) = Enough
    needs (Present q) = more q

    by : (s : QueueSlot) → IsQueueOf name s → suc (length (listed w (needs s))) ≤ suc most
    by (NoQueue incarnation timers) one = omega arith
    by (Present q) one = omega (arith, few q one.2)

few-turn : (c : Configuration) (w : World) (name : QueueId) (most : ℕ) (more : QueuePair → Needs) → IsSoundWorld c w → ((q : QueuePair) → IsQueue q → AreFew w most (more q))
    → AreFew w (suc most) (turn_needs c name more)
few-turn c w name most more sound few = by (has_queue c name)
  where
    by : (b : Bool) → AreFew w (suc most) (if b then present_needs name more else Enough)
    by true = few-present c w name most more sound few
    by false = omega arith

few-drawing : (w : World) (s : Slot) (op : SendOp) → AreFew w 1 (drawing_needs s op)
few-drawing w s (ops.Bind1 window key address count rights) = omega arith
few-drawing w s (ops.Bind2 window key low address count rights) = omega arith
few-drawing w s (ops.FastReg region low buffer address count rights pages) = omega arith
few-drawing w s (ops.LocalInv key) = omega arith
few-drawing w s (ops.Send list) = omega arith
few-drawing w s (ops.SendImm imm list) = omega arith
few-drawing w s (ops.SendInv key list) = omega arith
few-drawing w s (ops.Write address key list) = omega arith
few-drawing w s (ops.WriteImm address key imm list) = omega arith
few-drawing w s (ops.Read address key list) = omega arith
few-drawing w s (ops.CmpSwap address key compare swap list) = omega arith
few-drawing w s (ops.FetchAdd address key add list) = omega arith

few-places : (w : World) (s : Slot) (cq : CompletionQueue) (xs : List Completion) → AreFew w (length xs) (places_needs s cq xs)
few-places w s cq [] = omega arith
few-places w s cq (x ∷ xs) = omega (arith, few-places w s cq xs)

few-emptying : (w : World) (q : QueuePair) → AreFew w 4 (emptying_needs q)
few-emptying w q = omega (arith, few-around w q 0 (λ shared. Enough) (omega arith))

few-queues : (c : Configuration) (w : World) (x : Creation) → AreFew w 3 (queues_needs c x)
few-queues c w x = by (has_queues c x)
  where
    by : (b : Bool) → AreFew w 3 (if b then Part (names.Cq (beside x.slot x.send_cq)) (Part (names.Cq (beside x.slot x.recv_cq))
        (where_some (λ srq. part (names.Srq (beside x.slot srq))) x.srq)) else Enough)
    by true = omega (arith, few-some w 1 (λ srq. part (names.Srq (beside x.slot srq))) x.srq (λ srq. omega arith))
    by false = omega arith

few-verb : (c : Configuration) (w : World) (verb : Verb) → IsSoundWorld c w → AreFew w 32 (verb_needs c verb)
few-verb c w (verbs.AllocPd domain) sound = omega arith
few-verb c w (verbs.DeallocPd domain) sound = omega arith
few-verb c w (verbs.RegMr slot buffer offset count rights) sound = omega arith
few-verb c w (verbs.AllocMr slot pages) sound = omega arith
few-verb c w (verbs.DeregMr slot) sound = omega arith
few-verb c w (verbs.AllocMw slot kind) sound = omega arith
few-verb c w (verbs.DeallocMw slot) sound = omega (
  arith,
  few-some w 2 (λ (b : Binding). Part (names.Region (region_under (w.window slot) b)) (where_some (λ q. part (names.Queue q)) b.queue)) (w.window slot).binding
      (λ b. omega (arith, few-some w 1 (λ q. part (names.Queue q)) b.queue (λ q. omega arith))),
)
few-verb c w (verbs.CreateCq slot capacity) sound = omega arith
few-verb c w (verbs.DestroyCq slot) sound = omega arith
few-verb c w (verbs.CreateSrq slot depth) sound = omega arith
few-verb c w (verbs.DestroySrq slot) sound = omega arith
few-verb c w (verbs.CreateQp slot send_cq recv_cq send_depth recv_depth srq) sound =
    omega (arith, few-queues c w (record { slot = slot; send_cq = send_cq; recv_cq = recv_cq; send_depth = send_depth; recv_depth = recv_depth; srq = srq }))
few-verb c w (verbs.ModifyQp slot change) sound = omega (arith, few-present c w (queue_of slot) 4 emptying_needs sound (λ q s. few-emptying w q))
few-verb c w (verbs.QueryQp slot) sound = omega arith
few-verb c w (verbs.DestroyQp slot) sound = omega (arith, few-present c w (queue_of slot) 4 emptying_needs sound (λ q s. few-emptying w q))
few-verb c w (verbs.PostSend slot request) sound =
    omega (arith, few-present c w (queue_of slot) 2 (λ q. Part (names.Cq (send_cq_of q)) (drawing_needs slot request.op)) sound (λ q s. omega (arith, few-drawing w slot request.op)))
few-verb c w (verbs.PostRecv slot request) sound = omega (arith, few-present c w (queue_of slot) 1 (λ q. part (names.Cq (recv_cq_of q))) sound (λ q s. omega arith))
few-verb c w (verbs.PostSrq slot request) sound = omega arith
few-verb c w (verbs.Poll slot n least) sound = omega (
  arith,
  few-some w 16 (λ v. places_needs slot v (take (min n MAX_POLLED) v.waiting)) (w.cq slot) (λ v. omega (
    arith,
    few-places w slot v (take (min n MAX_POLLED) v.waiting),
    length-take (min n MAX_POLLED) v.waiting,
  )),
)
few-verb c w (verbs.Store adapter buffer offset bytes) sound = omega arith
few-verb c w (verbs.Load adapter buffer offset count) sound = omega arith
few-verb c w (verbs.Inject queue bytes) sound =
    omega (arith, few-present c w queue 18 (λ q. Part (names.Mailbox queue) (arrival_needs c None bytes q)) sound (λ q s. omega (arith, few-arrival c w None bytes q sound s)))

pub few-event : (c : Configuration) (w : World) (event : Event) → IsSoundWorld c w → AreFew w 32 (event_needs c event)
few-event c w (events.Verb by verb) sound = at (is_named c verb)
  where
    at : (b : Bool) → AreFew w 32 (if b then verb_needs c verb else Enough)
    at true = few-verb c w verb sound
    at false = omega arith
few-event c w (events.Request queue lot) sound = omega (
  arith,
  few-turn c w queue 18 (λ q. around_needs q (λ shared. request_needs c q (turn_of q))) sound
      (λ q s. few-around w q 15 (λ shared. request_needs c q (turn_of q)) (few-request c w q s (turn_of q) refl)),
)
few-event c w (events.Deliver queue index) sound = at (has_queue c queue)
  where
    needs : Mailbox → Needs
    needs m = where_some (λ bytes. present_needs queue (arrival_needs c (Some index) bytes)) (bytes_lent index m)

    at : (b : Bool) → AreFew w 32 (if b then By (Mailbox_of queue) needs else Enough)
    at true = omega (
      arith,
      few-some w 18 (λ bytes. present_needs queue (arrival_needs c (Some index) bytes)) (bytes_lent index (w.mailbox queue))
          (λ bytes. few-present c w queue 17 (arrival_needs c (Some index) bytes) sound (λ q s. few-arrival c w (Some index) bytes q sound s)),
    )
    at false = omega arith
few-event c w (events.Respond queue lot) sound = omega (
  arith,
  few-turn c w queue 18 (respond_needs c) sound (λ q s. few-around w q 15 (λ shared. where_some (λ (p : Correspondent). Part (names.Mailbox p.queue) (row_needs c (respond_row true q))) q.peer) (few-some w 15 (λ (p : Correspondent). Part (names.Mailbox p.queue) (row_needs c (respond_row true q))) q.peer
      (λ p. omega (arith, few-row c w (respond_row true q) (respond-good true q s).few)))),
)
few-event c w (events.Timeout queue hasten) sound = omega (
  arith,
  few-turn c w queue 6 (λ q. Part (names.Mailbox queue) (around_needs q (λ shared. where_some two q.peer))) sound
      (λ q s. omega (arith, few-around w q 2 (λ shared. where_some two q.peer) (few-some w 2 two q.peer (λ p. omega arith)))),
)
  where
    two : Correspondent → Needs
    two p = Part (names.Queue p.queue) (part (names.Mailbox p.queue))
few-event c w (events.RnrWake queue) sound = omega (arith, few-turn c w queue 3 (λ q. where_some peer_needs q.peer) sound (λ q s. few-some w 3 peer_needs q.peer (λ p. peer p)))
  where
    needs : QueueSlot → Needs
    needs (NoQueue incarnation timers) = Enough
    needs (Present q) = where_some (λ srq. part (names.Srq (srq_of q srq))) q.srq

    slot : (s : QueueSlot) → AreFew w 1 (needs s)
    slot (NoQueue incarnation timers) = omega arith
    slot (Present q) = few-some w 1 (λ srq. part (names.Srq (srq_of q srq))) q.srq (λ srq. omega arith)

    peer : (p : Correspondent) → AreFew w 3 (peer_needs p)
    peer p = omega (arith, slot (w.queue p.queue))

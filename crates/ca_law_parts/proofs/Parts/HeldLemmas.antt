-- What the held parts serve: where no part is missing, the keys and the bytes of a row's asks are at hand.
use Rattle.std.proofs.Common.{◌≡◌, ℕ, Bool, true, List, [], ◌∷◌, Option, None, Some, IfSome, inl, inr, subst, if◌then◌else◌, refl}
use Rattle.std.specs.List.{AllByRecursion}
use Rattle.std.specs.Option.{option_and_then, option_map}
use Rattle.ca_keys.specs.declared.access.Ask.{Ask}
use Rattle.ca_keys.specs.declared.grant.Grant.{Grant}
use Rattle.ca_keys.specs.declared.names.QueueId.{QueueId}
use Rattle.ca_keys.specs.declared.names.Slot.{Slot}
use Rattle.ca_keys.specs.declared.place.Run.{Run}
use Rattle.ca_base.specs.Configuration.{Configuration}
use Rattle.ca_base.specs.Sight.{Invalidation, runs_by_grant}
use Rattle.ca_base.specs.declared.correspondent.Correspondent.{Correspondent}
use Rattle.ca_base.specs.declared.lot.Lot.{Lot}
use Rattle.ca_base.specs.objects.Mailbox.{bytes_lent}
use Rattle.ca_base.specs.objects.QueuePair.{NoQueue, Present, QueuePair, QueueSlot, recv_cq_of, send_cq_of, srq_of}
use Rattle.ca_base.specs.objects.Region.{grant_of_region}
use Rattle.ca_base.specs.objects.SharedReceives.{SharedReceives}
use Rattle.ca_base.specs.objects.Slices.{has_queue, slot_of_key}
use Rattle.ca_base.specs.objects.Window.{Binding}
use Rattle.ca_law_parts.proofs.Parts.EventPartLemmas.{among-held}
use Rattle.ca_law_parts.proofs.Parts.NeedsLemmas.{AreHeld, none-behind, none-decided, none-held}
use Rattle.ca_law_parts.proofs.Parts.PartLemmas.{Given, In, asks-in, given-first, given-second, invalidation-in, respond-given}
use Rattle.ca_law_parts.proofs.Parts.TableLemmas.{packet-given}
use Rattle.ca_law_parts.proofs.Parts.TouchLemmas.{AskIn, EndingIn, GrantIn, InBuffers, RegionIn, granted-in, seen-in}
use Rattle.ca_model.specs.declared.event.Event.TheVariants as events
use Rattle.ca_model.specs.declared.verb.Verb.TheVariants as verbs
use Rattle.ca_model.specs.declared.part_name.PartName.{PartName}
use Rattle.ca_model.specs.declared.part_name.PartName.TheVariants as names
use Rattle.ca_model.specs.machine.Held.{AreBuffersHeld, IsAskHeld, IsEndHeld, IsRegionHeld}
use Rattle.ca_model.specs.machine.Numbering.{Numbered}
use Rattle.ca_model.specs.machine.Parts.{By, Enough, IsAmong, Needs, Part, around_needs, arrival_needs, asks_needs, ending_needs, event_needs, listed, next_part, operation_needs, present_needs, request_needs, respond_needs, row_needs, turn_needs, verb_needs, where_some}
use Rattle.ca_model.specs.machine.Delivery.{arrival_row}
use Rattle.ca_model.specs.machine.Requester.{Performs, Sends, packet_row, turn_of}
use Rattle.ca_model.specs.machine.Respond.{respond_row}
use Rattle.ca_model.specs.machine.Row.{Row, region_under}
use Rattle.ca_model.specs.machine.Seen.{grant_in, shared_receives}
use Rattle.ca_model.specs.machine.Sound.{IsSoundWorld}
use Rattle.ca_model.specs.machine.World.{Mailbox_of, Queue_of, Srq_of, World}

buffers-held : (held : PartName → Bool) (ps : List PartName) (rs : List Run) → AreHeld held ps → InBuffers (In ps) rs → AreBuffersHeld held rs
buffers-held held ps [] all lie = record {}
buffers-held held ps (r ∷ rs) all lie =
    (among-held held ps (names.Buffer r.adapter r.buffer) all (lie.0 (record { adapter = r.adapter; buffer = r.buffer; offset = 0 }) refl refl), buffers-held held ps rs all lie.1)

grant-held : (held : PartName → Bool) (ps : List PartName) (g : Option Grant) → AreHeld held ps → GrantIn (In ps) g → IfSome g (λ g. AreBuffersHeld held g.runs)
grant-held held ps None all lie = record {}
grant-held held ps (Some g) all lie = buffers-held held ps g.runs all lie

region-held : (held : PartName → Bool) (w : World) (ps : List PartName) (s : Slot) → AreHeld held ps → RegionIn w (In ps) s → IsRegionHeld held w s
region-held held w ps s all one = record {
  region = among-held held ps (names.Region s) all one.region;
  buffer = grant-held held ps (grant_of_region (w.region s)) all one.buffer;
}

ask-held : (c : Configuration) (held : PartName → Bool) (w : World) (ps : List PartName) (ask : Ask) → AreHeld held ps → AskIn c w (In ps) ask → IsAskHeld c held w ask
ask-held c held w ps ask all one = record {
  region = λ named. region-held held w ps slot all (one.region named);
  window = λ named. among-held held ps (names.Window slot) all (one.window named);
  under = λ named. by (w.window slot).binding (one.under named);
  bytes = buffers-held held ps (runs_by_grant ask (grant_in c w ask)) all (granted-in (In ps) ask (grant_in c w ask) (seen-in c w (In ps) ask one));
}
  where
    slot : Slot
    slot = slot_of_key ask.domain ask.key

    by : (o : Option Binding) → IfSome o (λ b. RegionIn w (In ps) (region_under (w.window slot) b)) → IfSome o (λ b. IsRegionHeld held w (region_under (w.window slot) b))
    by None under = record {}
    by (Some b) under = region-held held w ps (region_under (w.window slot) b) all under

asks-held : (c : Configuration) (held : PartName → Bool) (w : World) (ps : List PartName) (asks : List Ask) → AreHeld held ps → AllByRecursion (AskIn c w (In ps)) asks → AllByRecursion (IsAskHeld c held w) asks
asks-held c held w ps [] all each = record {}
asks-held c held w ps (ask ∷ asks) all each = (ask-held c held w ps ask all each.0, asks-held c held w ps asks all each.1)

end-held : (c : Configuration) (held : PartName → Bool) (w : World) (ps : List PartName) (i : Invalidation) → AreHeld held ps → EndingIn c w (In ps) i.domain i.key → IsEndHeld c held w i
end-held c held w ps i all one = record {
  region = λ named. among-held held ps (names.Region slot) all (one.region named);
  window = λ named. among-held held ps (names.Window slot) all (one.window named);
  under = λ named. by (w.window slot).binding (one.under named);
}
  where
    slot : Slot
    slot = slot_of_key i.domain i.key

    by : (o : Option Binding) → IfSome o (λ b. IsAmong ps (names.Region (region_under (w.window slot) b))) → IfSome o (λ b. held (names.Region (region_under (w.window slot) b)) ≡ true)
    by None under = record {}
    by (Some b) under = among-held held ps (names.Region (region_under (w.window slot) b)) all under

pub row-asks-held : (c : Configuration) (held : PartName → Bool) (w : World) (row : Row) → IsSoundWorld c w → next_part held w (row_needs c row) ≡ None → AllByRecursion (IsAskHeld c held w) row.asks
row-asks-held c held w row sound none = asks-held c held w ps row.asks (none-held held w (row_needs c row) none)
    (asks-in c w ps row.asks sound (given-first w ps (asks_needs c row.asks) (where_some (λ i. ending_needs c i.domain i.key) row.invalidation) (λ p among. among)))
  where
    ps : List PartName
    ps = listed w (row_needs c row)

pub row-end-held : (c : Configuration) (held : PartName → Bool) (w : World) (row : Row) → next_part held w (row_needs c row) ≡ None → IfSome row.invalidation (IsEndHeld c held w)
row-end-held c held w row none = by row.invalidation (invalidation-in c w ps row.invalidation
    (given-second w ps (asks_needs c row.asks) (where_some (λ i. ending_needs c i.domain i.key) row.invalidation) (λ p among. among)))
  where
    ps : List PartName
    ps = listed w (row_needs c row)

    by : (o : Option Invalidation) → IfSome o (λ i. EndingIn c w (In ps) i.domain i.key) → IfSome o (IsEndHeld c held w)
    by None one = record {}
    by (Some i) one = end-held c held w ps i (none-held held w (row_needs c row) none) one

-- parts that are held one by one
held-all : (held : PartName → Bool) (xs : List PartName) → ((p : PartName) → IsAmong xs p → held p ≡ true) → AreHeld held xs
held-all held [] each = record {}
held-all held (x ∷ xs) each = (each x (inl refl), held-all held xs (λ p among. each p (inr among)))

-- parts among those that are held are held
held-given : (held : PartName → Bool) (w : World) (a b : Needs) → AreHeld held (listed w a) → Given w (listed w a) b → AreHeld held (listed w b)
held-given held w a b all given = held-all held (listed w b) (λ p among. among-held held (listed w a) p all (given p among))

-- what a queue pair that is there needs is held
present-held : (held : PartName → Bool) (w : World) (name : QueueId) (q : QueuePair) (more : QueuePair → Needs) → w.queue name ≡ Present q → next_part held w (present_needs name more) ≡ None
    → next_part held w (more q) ≡ None
present-held held w name q more is none = subst (λ s. next_part held w (by s) ≡ None) is (none-decided held w (Queue_of name) by none)
  where
    by : QueueSlot → Needs
    by (NoQueue incarnation timers) = Enough
    by (Present q) = more q

-- the same for an engine's turn
turn-held : (c : Configuration) (held : PartName → Bool) (w : World) (name : QueueId) (q : QueuePair) (more : QueuePair → Needs) → has_queue c name ≡ true → w.queue name ≡ Present q
    → next_part held w (turn_needs c name more) ≡ None → next_part held w (more q) ≡ None
turn-held c held w name q more has is none =
    present-held held w name q more is (subst (λ b. next_part held w (if b then present_needs name more else Enough) ≡ None) has none)

-- what stands around a queue pair is held, and what the shared receive queue decides
around-held : (held : PartName → Bool) (w : World) (q : QueuePair) (more : Option SharedReceives → Needs) → next_part held w (around_needs q more) ≡ None
    → next_part held w (more (shared_receives w q)) ≡ None
around-held held w q more none =
    by q.srq (none-behind held w (names.Cq (recv_cq_of q)) (needs q.srq) (none-behind held w (names.Cq (send_cq_of q)) (Part (names.Cq (recv_cq_of q)) (needs q.srq)) none))
  where
    needs : Option ℕ → Needs
    needs None = more None
    needs (Some srq) = By (Srq_of (srq_of q srq)) (λ slot. more slot.srq)

    by : (o : Option ℕ) → next_part held w (needs o) ≡ None → next_part held w (more (option_and_then (λ slot. slot.srq) (option_map (λ srq. w.srq (srq_of q srq)) o))) ≡ None
    by None none = none
    by (Some srq) none = none-decided held w (Srq_of (srq_of q srq)) (λ slot. more slot.srq) none

-- where nothing is missing of a peer's mailbox and a row, the row's parts are held
peer-held : (held : PartName → Bool) (w : World) (row : Needs) (o : Option Correspondent) (peer : Correspondent) → o ≡ Some peer
    → next_part held w (where_some (λ p. Part (names.Mailbox p.queue) row) o) ≡ None → AreHeld held (listed w row)
peer-held held w row o peer is none = none-held held w row (none-behind held w (names.Mailbox peer.queue) row
    (subst (λ o. next_part held w (where_some (λ p. Part (names.Mailbox p.queue) row) o) ≡ None) is none))

pub packet-held : (c : Configuration) (held : PartName → Bool) (w : World) (name : QueueId) (lot : Lot) (q : QueuePair) (n : Numbered) (peer : Correspondent) (room : Bool) → IsSoundWorld c w
    → has_queue c name ≡ true → w.queue name ≡ Present q → q.peer ≡ Some peer → turn_of q ≡ Sends n → next_part held w (event_needs c (events.Request name lot)) ≡ None
    → AllByRecursion (IsAskHeld c held w) (packet_row q room n).asks
packet-held c held w name lot q n peer room sound has is peered turn none = asks-held c held w ps (packet_row q room n).asks
    (held-given held w (row_needs c (packet_row q true n)) (row_needs c (packet_row q room n)) (peer-held held w (row_needs c (packet_row q true n)) q.peer peer peered sends)
    (packet-given c w room q n (listed w (row_needs c (packet_row q true n))) (λ p among. among)))
    (asks-in c w ps (packet_row q room n).asks sound (given-first w ps (asks_needs c (packet_row q room n).asks) (where_some (λ i. ending_needs c i.domain i.key) (packet_row q room n).invalidation) (λ p among. among)))
  where
    ps : List PartName
    ps = listed w (row_needs c (packet_row q room n))

    sends : next_part held w (request_needs c q (Sends n)) ≡ None
    sends = subst (λ t. next_part held w (request_needs c q t) ≡ None) turn
        (around-held held w q (λ shared. request_needs c q (turn_of q)) (turn-held c held w name q (λ q. around_needs q (λ shared. request_needs c q (turn_of q))) has is none))

pub operation-held : (c : Configuration) (held : PartName → Bool) (w : World) (name : QueueId) (lot : Lot) (q : QueuePair) (n : Numbered)
    → has_queue c name ≡ true → w.queue name ≡ Present q → turn_of q ≡ Performs n → next_part held w (event_needs c (events.Request name lot)) ≡ None
    → next_part held w (operation_needs c q n.request.op) ≡ None
operation-held c held w name lot q n has is turn none = subst (λ t. next_part held w (request_needs c q t) ≡ None) turn
    (around-held held w q (λ shared. request_needs c q (turn_of q)) (turn-held c held w name q (λ q. around_needs q (λ shared. request_needs c q (turn_of q))) has is none))

pub respond-held : (c : Configuration) (held : PartName → Bool) (w : World) (name : QueueId) (lot : Lot) (q : QueuePair) (peer : Correspondent) (room : Bool) → IsSoundWorld c w
    → has_queue c name ≡ true → w.queue name ≡ Present q → q.peer ≡ Some peer → next_part held w (event_needs c (events.Respond name lot)) ≡ None
    → AllByRecursion (IsAskHeld c held w) (respond_row room q).asks
respond-held c held w name lot q peer room sound has is peered none = asks-held c held w ps (respond_row room q).asks
    (held-given held w (row_needs c (respond_row true q)) (row_needs c (respond_row room q)) (peer-held held w (row_needs c (respond_row true q)) q.peer peer peered answers)
    (respond-given c w room q (listed w (row_needs c (respond_row true q))) (λ p among. among)))
    (asks-in c w ps (respond_row room q).asks sound (given-first w ps (asks_needs c (respond_row room q).asks) (where_some (λ i. ending_needs c i.domain i.key) (respond_row room q).invalidation) (λ p among. among)))
  where
    ps : List PartName
    ps = listed w (row_needs c (respond_row room q))

    row : Correspondent → Needs
    row p = Part (names.Mailbox p.queue) (row_needs c (respond_row true q))

    answers : next_part held w (where_some row q.peer) ≡ None
    answers = around-held held w q (λ shared. where_some row q.peer) (turn-held c held w name q (respond_needs c) has is none)

-- nothing is missing of a packet that arrives
pub deliver-held : (c : Configuration) (held : PartName → Bool) (w : World) (name : QueueId) (index : ℕ) (bytes : List ℕ) (q : QueuePair)
    → has_queue c name ≡ true → w.queue name ≡ Present q → bytes_lent index (w.mailbox name) ≡ Some bytes → next_part held w (event_needs c (events.Deliver name index)) ≡ None
    → next_part held w (row_needs c (arrival_row bytes (Some index) (shared_receives w q) q)) ≡ None
deliver-held c held w name index bytes q has is lent none = around-held held w q (λ shared. row_needs c (arrival_row bytes (Some index) shared q))
    (present-held held w name q (arrival_needs c (Some index) bytes) is (subst (λ o. next_part held w (needs o) ≡ None) lent
    (none-decided held w (Mailbox_of name) (λ m. needs (bytes_lent index m)) (subst (λ b. next_part held w (if b then By (Mailbox_of name) (λ m. needs (bytes_lent index m)) else Enough) ≡ None) has none))))
  where
    needs : Option (List ℕ) → Needs
    needs o = where_some (λ bytes. present_needs name (arrival_needs c (Some index) bytes)) o

pub inject-held : (c : Configuration) (held : PartName → Bool) (w : World) (by : ℕ) (name : QueueId) (bytes : List ℕ) (q : QueuePair)
    → has_queue c name ≡ true → w.queue name ≡ Present q → next_part held w (event_needs c (events.Verb by (verbs.Inject name bytes))) ≡ None
    → next_part held w (row_needs c (arrival_row bytes None (shared_receives w q) q)) ≡ None
inject-held c held w by name bytes q has is none = around-held held w q (λ shared. row_needs c (arrival_row bytes None shared q))
    (none-behind held w (names.Mailbox name) (arrival_needs c None bytes q)
    (present-held held w name q (λ q. Part (names.Mailbox name) (arrival_needs c None bytes q)) is (subst (λ b. next_part held w (if b then verb_needs c (verbs.Inject name bytes) else Enough) ≡ None) has none)))

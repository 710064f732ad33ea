-- What each event touches lies in the table of parts.
use Rattle.std.proofs.Common.{rules, ◌≡◌, ℕ, inl, inr, Bool, true, false, List, [], ◌∷◌, ◌++◌, Option, None, Some, IfSome, subst, ◌∙◌, ◌&&◌, not, ap₂, sym, true≢false, if◌then◌else◌, is_none, slice_get, refl}
use Rattle.std.proofs.lemmas.List.{append-nil}
use Rattle.std.proofs.lemmas.Bool.{and_parts}
use Rattle.std.specs.List.{AllByRecursion}
use Rattle.std.specs.Option.{option_and_then, option_map, option_map_or}
use Rattle.ca_keys.specs.declared.access.Ask.{Ask}
use Rattle.ca_keys.specs.declared.key.Key.{Key}
use Rattle.ca_base.specs.declared.lot.Lot.{Lot}
use Rattle.ca_keys.specs.declared.names.DomainId.{DomainId}
use Rattle.ca_keys.specs.declared.names.QueueId.{QueueId}
use Rattle.ca_keys.specs.declared.names.Slot.{Slot}
use Rattle.ca_keys.specs.declared.place.Run.{Run}
use Rattle.ca_base.specs.declared.step.Reason.{Reason}
use Rattle.ca_base.specs.declared.step.Reason.TheVariants as reasons
use Rattle.ca_base.specs.Configuration.{Configuration}
use Rattle.ca_keys.specs.Refusals.{first_of}
use Rattle.ca_base.specs.Sight.{Invalidation}
use Rattle.ca_base.specs.objects.CompletionQueue.{CompletionQueue}
use Rattle.ca_base.specs.declared.correspondent.Correspondent.{Correspondent}
use Rattle.ca_base.specs.objects.Mailbox.{Mailbox, after_delivery, bytes_lent}
use Rattle.ca_base.specs.objects.QueuePair.{QueuePair, QueueSlot, NoQueue, Present, recv_cq_of, send_cq_of, srq_of}
use Rattle.ca_base.specs.objects.Region.{RegionState, NoRegion, Free, Registered, FastRegistered, grant_in_state}
use Rattle.ca_base.specs.objects.SharedReceives.{SharedReceives, SrqSlot, after_receive_take}
use Rattle.ca_keys.specs.Numbers.{is_window_key}
use Rattle.ca_base.specs.objects.Slices.{has_slot, is_key_of, names_region, names_window, slot_of_key}
use Rattle.ca_base.specs.objects.Window.{Binding}
use Rattle.ca_model.specs.declared.event.Event.TheVariants as events
use Rattle.ca_model.specs.declared.mark.Mark.{Mark}
use Rattle.ca_model.specs.declared.mark.Mark.TheVariants as marks
use Rattle.ca_model.specs.declared.verb.Verb.TheVariants as verbs
use Rattle.ca_model.specs.machine.Around.{Around, With_around, With_queue, shared_in, srq_updates, updates_of}
use Rattle.ca_model.specs.machine.Delivery.{Arrive, arrival_row, deliver_plan}
use Rattle.ca_model.specs.machine.Plan.{Plan, Stuck, Look, Finish, Update, ◌:=◌, Write, names_updated, unless_refused}
use Rattle.ca_model.specs.machine.Row.{Effects, NotPossible, Row, Row_plan, plain_row, region_under}
use Rattle.ca_base.specs.declared.queue_numbers.Queued.{Queued}
use Rattle.ca_model.specs.declared.answer.Answer.TheVariants as answers
use Rattle.ca_model.specs.declared.answer.Refusal.TheVariants.{NoSuch}
use Rattle.ca_model.specs.machine.Arrivals.{next_receive}
use Rattle.ca_model.specs.machine.HostVerbs.{inject_plan}
use Rattle.ca_model.specs.machine.Seen.{asks_window}
use Rattle.ca_model.specs.machine.Respond.{answer_turn, respond_refusals, respond_row}
use Rattle.ca_model.specs.machine.Timers.{after_timeout, after_wake, wake_refusals}
use Rattle.ca_model.specs.machine.Turns.{Fire, Leave_plan, Respond_around, Timeout_around, With_receives, has_room_for, packet_sent, reaches_peer, respond_plan, sent_updates, timeout_plan, wake_plan}
use Rattle.ca_model.specs.machine.VerbAnswers.{Call, Refuse_plan, answer_mark}
use Rattle.ca_model.specs.machine.World.{World, Name, Region_of, Srq_of, Queue_of, Mailbox_of}
use Rattle.ca_model.specs.declared.part_name.PartName.{PartName}
use Rattle.ca_model.specs.declared.part_name.PartName.TheVariants as names
use Rattle.ca_model.specs.machine.Parts.{By, Enough, IsAmong, Needs, Part, also, around_needs, arrival_needs, ask_needs, asks_needs, buffer_needs, ending_needs, event_needs, listed, part, part_of, peer_needs, present_needs, region_needs, region_part, respond_needs, row_needs, turn_needs, verb_needs, where_some, window_needs}
use Rattle.ca_law_parts.proofs.Parts.NeedsLemmas.{listed-also}
use Rattle.ca_model.specs.machine.Sound.{IsQueueOf, IsSoundWorld, IsSoundState, LieIn}
use Rattle.ca_law_parts.proofs.Parts.TouchLemmas.{AskIn, EndingIn, GrantIn, InBuffers, NamesIn, RegionIn, TouchesIn, WritesAt, touches-row, updated-append}
use Rattle.ca_law_world.proofs.Sound.TurnLemmas.{all-fail}
use Rattle.ca_law_world.proofs.Sound.WorldLemmas.{around_in, shared_of}
use Rattle.ca_law_parts.proofs.Parts.WriteLemmas.{RowWrites, arrival-writes, respond-writes}

-- a name whose part is among these
abbrev pub In : List PartName → Name → Type 0
In ps n = IsAmong ps (part_of n)

abbrev pub Included : List PartName → List PartName → Type 0
Included xs ps = (p : PartName) → IsAmong xs p → IsAmong ps p

pub among-left : (xs ys : List PartName) (p : PartName) → IsAmong xs p → IsAmong (xs ++ ys) p
among-left [] ys p in_xs = absurd in_xs
among-left (x ∷ xs) ys p (inl is) = inl is
among-left (x ∷ xs) ys p (inr rest) = inr (among-left xs ys p rest)

pub among-right : (xs ys : List PartName) (p : PartName) → IsAmong ys p → IsAmong (xs ++ ys) p
among-right [] ys p in_ys = in_ys
among-right (x ∷ xs) ys p in_ys = inr (among-right xs ys p in_ys)

-- all parts of needs are among these
abbrev pub Given : World → List PartName → Needs → Type 0
Given w ps needs = Included (listed w needs) ps

pub given-first : (w : World) (ps : List PartName) (a b : Needs) → Given w ps (also a b) → Given w ps a
given-first w ps a b inc p among = inc p (subst (λ xs. IsAmong xs p) (sym (listed-also w a b)) (among-left (listed w a) (listed w b) p among))

pub given-second : (w : World) (ps : List PartName) (a b : Needs) → Given w ps (also a b) → Given w ps b
given-second w ps a b inc p among = inc p (subst (λ xs. IsAmong xs p) (sym (listed-also w a b)) (among-right (listed w a) (listed w b) p among))

-- the buffer of runs that lie in one
runs-in : (ps : List PartName) (adapter buffer bytes : ℕ) (rs : List Run) → LieIn adapter buffer bytes rs → IsAmong ps (names.Buffer adapter buffer) → InBuffers (In ps) rs
runs-in ps adapter buffer bytes [] lie among = record {}
runs-in ps adapter buffer bytes (r ∷ rs) lie among =
    ((λ p a b. subst (λ x. IsAmong ps x) (sym (ap₂ (λ x y. names.Buffer x y) (a ∙ lie.0.0) (b ∙ lie.0.1))) among), runs-in ps adapter buffer bytes rs lie.1 among)

grant-runs-in : (w : World) (ps : List PartName) (adapter buffer bytes : ℕ) (rs : List Run) → LieIn adapter buffer bytes rs → Given w ps (buffer_needs rs) → InBuffers (In ps) rs
grant-runs-in w ps adapter buffer bytes [] lie inc = record {}
grant-runs-in w ps adapter buffer bytes (r ∷ rs) lie inc =
    runs-in ps adapter buffer bytes (r ∷ rs) lie (subst (λ x. IsAmong ps x) (ap₂ (λ x y. names.Buffer x y) lie.0.0 lie.0.1) (inc (names.Buffer r.adapter r.buffer) (inl refl)))

pub region-in : (c : Configuration) (w : World) (ps : List PartName) (s : Slot) → IsSoundWorld c w → Given w ps (region_needs s) → RegionIn w (In ps) s
region-in c w ps s sound inc = record {
  region = inc (names.Region s) (inl refl);
  buffer = by (w.region s).state (sound.things (Region_of s)) (λ p among. inc p (inr among));
}
  where
    by : (state : RegionState) → IsSoundState c s (w.region s).low state → Given w ps (where_some (λ g. buffer_needs g.runs) (grant_in_state state))
        → GrantIn (In ps) (grant_in_state state)
    by NoRegion sound inc = record {}
    by (Free pages) sound inc = record {}
    by (Registered g) sound inc = grant-runs-in w ps s.domain.adapter sound.buffer _ g.runs sound.inside inc
    by (FastRegistered pages g) sound inc = grant-runs-in w ps s.domain.adapter sound.buffer _ g.runs sound.inside inc

-- the region under a window, with its buffer
under-in : (c : Configuration) (w : World) (ps : List PartName) (s : Slot) → IsSoundWorld c w → Given w ps (window_needs region_needs s)
    → IfSome (w.window s).binding (λ b. RegionIn w (In ps) (region_under (w.window s) b))
under-in c w ps s sound inc = by (w.window s).binding (λ p among. inc p (inr among))
  where
    by : (o : Option Binding) → Given w ps (where_some (λ b. region_needs (region_under (w.window s) b)) o) → IfSome o (λ b. RegionIn w (In ps) (region_under (w.window s) b))
    by None inc = record {}
    by (Some b) inc = region-in c w ps (region_under (w.window s) b) sound inc

-- the region under a window, without its buffer
pub former-region : (w : World) (ps : List PartName) (s : Slot) → Given w ps (window_needs region_part s)
    → IfSome (w.window s).binding (λ b. IsAmong ps (names.Region (region_under (w.window s) b)))
former-region w ps s inc = by (w.window s).binding (λ p among. inc p (inr among))
  where
    by : (o : Option Binding) → Given w ps (where_some (λ b. region_part (region_under (w.window s) b)) o)
        → IfSome o (λ b. IsAmong ps (names.Region (region_under (w.window s) b)))
    by None inc = record {}
    by (Some b) inc = inc (names.Region (region_under (w.window s) b)) (inl refl)

window-no-region : (c : Configuration) (d : DomainId) (key : Key) → names_window c d key ≡ true → names_region c d key ≡ false
window-no-region c d key named = by (is_window_key key) refl
  where
    by : (b : Bool) → is_window_key key ≡ b → (not b && is_key_of d key && has_slot c (λ a. a.regions) (slot_of_key d key)) ≡ false
    by true e = refl
    by false e = absurd (true≢false (sym (and_parts (is_window_key key) (is_key_of d key)
        (and_parts (is_window_key key && is_key_of d key) (has_slot c (λ a. a.windows) (slot_of_key d key)) named).0).0 ∙ e))

asked-no-region : (c : Configuration) (ask : Ask) → asks_window c ask ≡ true → names_region c ask.domain ask.key ≡ false
asked-no-region c ask named = by ask.local named
  where
    by : (b : Bool) → (if b then false else names_window c ask.domain ask.key) ≡ true → names_region c ask.domain ask.key ≡ false
    by true none = absurd (true≢false (sym none))
    by false named = window-no-region c ask.domain ask.key named

ask-in : (c : Configuration) (w : World) (ps : List PartName) (ask : Ask) → IsSoundWorld c w → Given w ps (ask_needs c ask) → AskIn c w (In ps) ask
ask-in c w ps ask sound inc = record {
  region = λ named. region-in c w ps slot sound (λ p among. inc p (subst (λ b. IsAmong (listed w (chosen b (asks_window c ask))) p) (sym named) among));
  window = λ named. windows named (names.Window slot) (inl refl);
  under = λ named. under-in c w ps slot sound (windows named);
}
  where
    slot : Slot
    slot = slot_of_key ask.domain ask.key

    chosen : Bool → Bool → Needs
    chosen b z = if b then region_needs slot else if z then window_needs region_needs slot else Enough

    windows : asks_window c ask ≡ true → Given w ps (window_needs region_needs slot)
    windows named p among = inc p (subst (λ b. IsAmong (listed w (chosen b (asks_window c ask))) p) (sym (asked-no-region c ask named))
        (subst (λ z. IsAmong (listed w (chosen false z)) p) (sym named) among))

ending-in : (c : Configuration) (w : World) (ps : List PartName) (d : DomainId) (key : Key) → Given w ps (ending_needs c d key) → EndingIn c w (In ps) d key
ending-in c w ps d key inc = record {
  region = λ named. inc (names.Region slot) (subst (λ b. IsAmong (listed w (chosen b (names_window c d key))) (names.Region slot)) (sym named) (inl refl));
  window = λ named. windows named (names.Window slot) (inl refl);
  under = λ named. former-region w ps slot (windows named);
}
  where
    slot : Slot
    slot = slot_of_key d key

    chosen : Bool → Bool → Needs
    chosen b z = if b then region_part slot else if z then window_needs region_part slot else Enough

    windows : names_window c d key ≡ true → Given w ps (window_needs region_part slot)
    windows named p among = inc p (subst (λ b. IsAmong (listed w (chosen b (names_window c d key))) p) (sym (window-no-region c d key named))
        (subst (λ z. IsAmong (listed w (chosen false z)) p) (sym named) among))

pub asks-in : (c : Configuration) (w : World) (ps : List PartName) (asks : List Ask) → IsSoundWorld c w → Given w ps (asks_needs c asks) → AllByRecursion (AskIn c w (In ps)) asks
asks-in c w ps [] sound inc = record {}
asks-in c w ps (ask ∷ asks) sound inc = (
  ask-in c w ps ask sound (given-first w ps (ask_needs c ask) (asks_needs c asks) inc),
  asks-in c w ps asks sound (given-second w ps (ask_needs c ask) (asks_needs c asks) inc),
)

pub invalidation-in : (c : Configuration) (w : World) (ps : List PartName) (i : Option Invalidation) → Given w ps (where_some (λ i. ending_needs c i.domain i.key) i)
    → IfSome i (λ i. EndingIn c w (In ps) i.domain i.key)
invalidation-in c w ps None inc = record {}
invalidation-in c w ps (Some i) inc = ending-in c w ps i.domain i.key inc

-- a row's plan touches the parts of its asks, and what comes after
pub row-in : (c : Configuration) (w : World) (ps : List PartName) (row : Row) (finish : Effects → List Update → List Write → Plan) → IsSoundWorld c w → RowWrites row → Given w ps (row_needs c row)
    → ((e : Effects) (cs : List Update) (ws : List Write) → NamesIn (In ps) (names_updated cs) → WritesAt (In ps) ws → TouchesIn w (In ps) (finish e cs ws))
    → TouchesIn w (In ps) (Row_plan c row finish)
row-in c w ps row finish sound writes inc more = touches-row c w (In ps) row finish asks
    (invalidation-in c w ps row.invalidation (given-second w ps (asks_needs c row.asks) _ inc))
    (writes (AskIn c w (In ps)) asks) more
  where
    asks : AllByRecursion (AskIn c w (In ps)) row.asks
    asks = asks-in c w ps row.asks sound (given-first w ps (asks_needs c row.asks) _ inc)

-- the completion queues of a queue pair, and its shared receive queue
abbrev pub around_parts : QueuePair → List PartName
around_parts q =
    names.Cq (send_cq_of q) ∷ names.Cq (recv_cq_of q) ∷ option_map_or (λ srq. names.Srq (srq_of q srq) ∷ []) q.srq []

-- what stands around a queue pair is given, and what the shared receive queue decides
pub record IsAround (w : World) (ps : List PartName) (q : QueuePair) (decides : Option SharedReceives → Needs) : Type 0 where
  pub around : Included (around_parts q) ps
  pub more : Given w ps (decides (shared_in (around_in w q (shared_of w q))))

pub around-given : (w : World) (ps : List PartName) (q : QueuePair) (more : Option SharedReceives → Needs) → Given w ps (around_needs q more) → IsAround w ps q more
around-given w ps q more inc = record {
  around = λ p among. at p among;
  more = (by q.srq (λ p among. inc p (inr (inr among)))).1;
}
  where
    needs : Option ℕ → Needs
    needs None = more None
    needs (Some srq) = By (Srq_of (srq_of q srq)) (λ slot. more slot.srq)

    by : (o : Option ℕ) → Given w ps (needs o) → Included (option_map_or (λ srq. names.Srq (srq_of q srq) ∷ []) o []) ps
        × Given w ps (more (option_and_then (λ s. s.srq) (option_map (λ srq. w.srq (srq_of q srq)) o)))
    by None inc = ((λ p among. absurd among), inc)
    by (Some srq) inc = (one, λ p among. inc p (inr among))
      where
        one : Included (names.Srq (srq_of q srq) ∷ []) ps
        one p (inl is) = inc p (inl is)
        one p (inr rest) = absurd rest

    at : Included (around_parts q) ps
    at p (inl is) = inc p (inl is)
    at p (inr (inl is)) = inc p (inr (inl is))
    at p (inr (inr rest)) = (by q.srq (λ p among. inc p (inr (inr among)))).0 p rest

-- what stands around a queue pair
pub around-in : (w : World) (ps : List PartName) (q : QueuePair) (k : Around → Plan) → Included (around_parts q) ps → TouchesIn w (In ps) (k (around_in w q (shared_of w q)))
    → TouchesIn w (In ps) (With_around q k)
around-in w ps q k inc ends = (inc (names.Cq (send_cq_of q)) (inl refl), (inc (names.Cq (recv_cq_of q)) (inr (inl refl)), by q.srq (λ p among. inc p (inr (inr among))) ends))
  where
    plan : Option CompletionQueue → Option CompletionQueue → Option ℕ → Plan
    plan send recv None = k (record { send = send; recv = recv; shared = None })
    plan send recv (Some srq) = Look (Srq_of (srq_of q srq)) (λ shared. k (record { send = send; recv = recv; shared = Some shared }))

    by : (o : Option ℕ) → Included (option_map_or (λ srq. names.Srq (srq_of q srq) ∷ []) o []) ps
        → TouchesIn w (In ps) (k (around_in w q (option_map (λ srq. w.srq (srq_of q srq)) o))) → TouchesIn w (In ps) (plan (w.cq (send_cq_of q)) (w.cq (recv_cq_of q)) o)
    by None inc ends = ends
    by (Some srq) inc ends = (inc (names.Srq (srq_of q srq)) (inl refl), ends)

pub srq-in : (ps : List PartName) (q : QueuePair) (a : Around) (f : SharedReceives → SharedReceives) → Included (around_parts q) ps → NamesIn (In ps) (names_updated (srq_updates q a f))
srq-in ps q a f inc = by q.srq a.shared (λ p among. inc p (inr (inr among)))
  where
    updates : Option ℕ → Option SrqSlot → List Update
    updates (Some srq) (Some slot) = (Srq_of (srq_of q srq) := record slot { srq = option_map f slot.srq }) ∷ []
    updates srq slot = []

    by : (o : Option ℕ) (t : Option SrqSlot) → Included (option_map_or (λ srq. names.Srq (srq_of q srq) ∷ []) o []) ps → NamesIn (In ps) (names_updated (updates o t))
    by None t inc = record {}
    by (Some srq) None inc = record {}
    by (Some srq) (Some slot) inc = (inc (names.Srq (srq_of q srq)) (inl refl), record {})

-- what a turn changes
pub updates-in : (ps : List PartName) (q : QueuePair) (a : Around) (e : Effects) (more : List Update) → IsAmong ps (names.Queue q.queue) → Included (around_parts q) ps → NamesIn (In ps) (names_updated more)
    → NamesIn (In ps) (names_updated (updates_of q a e ++ more))
updates-in ps q a e more queue inc rest = (
  queue,
  (
    inc (names.Cq (send_cq_of q)) (inl refl),
    (
      inc (names.Cq (recv_cq_of q)) (inr (inl refl)),
      updated-append (In ps) (if e.takes_shared then srq_updates q a after_receive_take else []) more (taken e.takes_shared) rest,
    ),
  ),
)
  where
    taken : (b : Bool) → NamesIn (In ps) (names_updated (if b then srq_updates q a after_receive_take else []))
    taken true = srq-in ps q a after_receive_take inc
    taken false = record {}

-- a plan that goes on with a queue pair that is there
abbrev pub slot_plan : Plan → (QueuePair → Plan) → QueueSlot → Plan
slot_plan none k (NoQueue incarnation timers) = none
slot_plan none k (Present q) = k q

queue-part : (ps : List PartName) (q name : QueueId) → q ≡ name → IsAmong ps (names.Queue name) → IsAmong ps (names.Queue q)
queue-part ps q name is among = subst (λ n. IsAmong ps (names.Queue n)) (sym is) among

-- a queue pair of a name, with what it needs where it is there
pub present-in : (c : Configuration) (w : World) (ps : List PartName) (name : QueueId) (more : QueuePair → Needs) (k : QueuePair → Plan) (none : Plan) → IsSoundWorld c w
    → Given w ps (present_needs name more) → TouchesIn w (In ps) none
    → ((q : QueuePair) → IsAmong ps (names.Queue q.queue) → Given w ps (more q) → TouchesIn w (In ps) (k q)) → TouchesIn w (In ps) (Look (Queue_of name) (slot_plan none k))
present-in c w ps name more k none sound inc absent there = (inc (names.Queue name) (inl refl), at (w.queue name) refl (λ p among. inc p (inr among)))
  where
    needs : QueueSlot → Needs
    needs (NoQueue incarnation timers) = Enough
    needs (Present q) = more q

    by : (q : QueuePair) → w.queue name ≡ Present q → IsQueueOf name (Present q) → Given w ps (more q) → TouchesIn w (In ps) (k q)
    by q is one given = there q (queue-part ps q.queue name one.0 (inc (names.Queue name) (inl refl))) given

    at : (s : QueueSlot) → w.queue name ≡ s → Given w ps (needs s) → TouchesIn w (In ps) (slot_plan none k s)
    at (NoQueue incarnation timers) is inc = absent
    at (Present q) is inc = by q is (subst (IsQueueOf name) is (sound.things (Queue_of name))) inc

-- the same for an engine's turn
pub turn-in : (c : Configuration) (w : World) (ps : List PartName) (name : QueueId) (reason : Reason) (more : QueuePair → Needs) (k : QueuePair → Plan) → IsSoundWorld c w
    → Given w ps (turn_needs c name more)
    → ((q : QueuePair) → IsAmong ps (names.Queue q.queue) → Given w ps (more q) → TouchesIn w (In ps) (k q)) → TouchesIn w (In ps) (With_queue c name reason k)
turn-in c w ps name reason more k sound inc there = (
  λ has. present-in c w ps name more k (Stuck reason) sound (λ p among. inc p (subst (λ b. IsAmong (listed w (if b then present_needs name more else Enough)) p) (sym has) among)) (record {}) there,
  λ none. record {},
)

-- bytes that arrive, behind changes that lie in the table
arrive-in : (c : Configuration) (w : World) (ps : List PartName) (q : QueuePair) (bytes : List ℕ) (envelope : Option ℕ) (cs : List Update) (ms : List Mark) → IsSoundWorld c w
    → IsAmong ps (names.Queue q.queue) → Given w ps (arrival_needs c envelope bytes q) → NamesIn (In ps) (names_updated cs) → TouchesIn w (In ps) (Arrive c q bytes envelope cs ms)
arrive-in c w ps q bytes envelope cs ms sound queue inc before = by (around-given w ps q (λ shared. row_needs c (arrival_row bytes envelope shared q)) inc)
  where
    a : Around
    a = around_in w q (shared_of w q)

    finish : Around → Effects → List Update → List Write → Plan
    finish a e more writes = Finish (cs ++ (updates_of q a e ++ more)) writes (ms ++ marks.Arrived q.queue envelope ∷ e.marks)

    by : IsAround w ps q (λ shared. row_needs c (arrival_row bytes envelope shared q)) → TouchesIn w (In ps) (Arrive c q bytes envelope cs ms)
    by all = around-in w ps q (λ a. Row_plan c (arrival_row bytes envelope (shared_in a) q) (finish a)) all.around
        (row-in c w ps (arrival_row bytes envelope (shared_in a) q) (finish a) sound (arrival-writes bytes envelope (shared_in a) q) all.more
        (λ e more ws named at. (updated-append (In ps) cs (updates_of q a e ++ more) before (updates-in ps q a e more queue all.around named), at)))

pub deliver-in : (c : Configuration) (w : World) (ps : List PartName) (name : QueueId) (index : ℕ) → IsSoundWorld c w → Given w ps (event_needs c (events.Deliver name index))
    → TouchesIn w (In ps) (deliver_plan c name index)
deliver-in c w ps name index sound inc = (λ has. by (λ p among. inc p (subst (λ b. IsAmong (listed w (chosen b)) p) (sym has) among)), λ none. record {})
  where
    m : Mailbox
    m = w.mailbox name

    needs : Option (List ℕ) → Needs
    needs o = where_some (λ bytes. present_needs name (arrival_needs c (Some index) bytes)) o

    chosen : Bool → Needs
    chosen b = if b then By (Mailbox_of name) (λ m. needs (bytes_lent index m)) else Enough

    at : List ℕ → QueuePair → Plan
    at bytes q = Arrive c q bytes (Some index) ((Mailbox_of name := after_delivery index m) ∷ []) []

    plan : Option (List ℕ) → Plan
    plan None = Stuck reasons.NotKept
    plan (Some bytes) = Look (Queue_of name) (slot_plan (Stuck reasons.NotKept) (at bytes))

    lent : (o : Option (List ℕ)) → IsAmong ps (names.Mailbox name) → Given w ps (needs o) → TouchesIn w (In ps) (plan o)
    lent None mailbox inc = record {}
    lent (Some bytes) mailbox inc = present-in c w ps name (arrival_needs c (Some index) bytes) (at bytes) (Stuck reasons.NotKept) sound inc (record {})
        (λ q queue given. arrive-in c w ps q bytes (Some index) ((Mailbox_of name := after_delivery index m) ∷ []) [] sound queue given (mailbox, record {}))

    by : Given w ps (chosen true) → IsAmong ps (names.Mailbox name) × TouchesIn w (In ps) (plan (bytes_lent index m))
    by inc = (inc (names.Mailbox name) (inl refl), lent (bytes_lent index m) (inc (names.Mailbox name) (inl refl)) (λ p among. inc p (inr among)))

pub inject-in : (c : Configuration) (w : World) (ps : List PartName) (call : Call) (name : QueueId) (bytes : List ℕ) → IsSoundWorld c w → Given w ps (verb_needs c (verbs.Inject name bytes))
    → TouchesIn w (In ps) (inject_plan c call name bytes)
inject-in c w ps call name bytes sound inc = present-in c w ps name (λ q. Part (names.Mailbox name) (arrival_needs c None bytes q))
    (λ q. Arrive c q bytes None [] (answer_mark call answers.Fine ∷ [])) (Refuse_plan call NoSuch) sound inc (record {}, record {})
    (λ q queue given. arrive-in c w ps q bytes None [] (answer_mark call answers.Fine ∷ []) sound queue (λ p among. given p (inr among)) (record {}))

-- a packet goes to the peer's mailbox
sent-in : (ps : List PartName) (q : QueuePair) (peer : Correspondent) (m : Mailbox) (lot : Lot) (e : Effects) → IsAmong ps (names.Mailbox peer.queue)
    → NamesIn (In ps) (names_updated (option_map_or (sent_updates q peer m lot) (packet_sent e) []))
sent-in ps q peer m lot e among = search rules

pub left-in : (c : Configuration) (w : World) (ps : List PartName) (q : QueuePair) (peer : Correspondent) (lot : Lot) (row : Row) → IsSoundWorld c w → RowWrites row → Given w ps (row_needs c row)
    → IsAmong ps (names.Queue q.queue) → Included (around_parts q) ps → IsAmong ps (names.Mailbox peer.queue)
    → TouchesIn w (In ps) (Row_plan c row (Leave_plan q (around_in w q (shared_of w q)) peer (w.mailbox peer.queue) lot))
left-in c w ps q peer lot row sound writes inc queue around mailbox = row-in c w ps row (Leave_plan q a peer m lot) sound writes inc
    (λ e cs ws named at. (
      updates-in ps q a e (cs ++ option_map_or (sent_updates q peer m lot) (packet_sent e) []) queue around
          (updated-append (In ps) cs (option_map_or (sent_updates q peer m lot) (packet_sent e) []) named (sent-in ps q peer m lot e mailbox)),
      at,
    ))
  where
    a : Around
    a = around_in w q (shared_of w q)

    m : Mailbox
    m = w.mailbox peer.queue

-- where there is no room, a responder's turn asks for nothing
pub respond-given : (c : Configuration) (w : World) (room : Bool) (q : QueuePair) (ps : List PartName) → Given w ps (row_needs c (respond_row true q)) → Given w ps (row_needs c (respond_row room q))
respond-given c w true q ps inc = inc
respond-given c w false q ps inc = by (first_of (respond_refusals false q)) refl (slice_get q.responder.answers 0)
  where
    front : Option Reason → Option Queued → Row
    front (Some reason) answer = plain_row (NotPossible reason)
    front None None = plain_row (NotPossible reasons.Empty)
    front None (Some answer) = answer_turn q answer

    by : (o : Option Reason) → first_of (respond_refusals false q) ≡ o → (a : Option Queued) → Given w ps (row_needs c (front o a))
    by (Some reason) e a p among = absurd among
    by None e None p among = absurd among
    by None e (Some a) p among = absurd (true≢false (all-fail (respond_refusals false q) e).1.1.0)

pub respond-in : (c : Configuration) (w : World) (ps : List PartName) (name : QueueId) (lot : Lot) → IsSoundWorld c w → Given w ps (event_needs c (events.Respond name lot))
    → TouchesIn w (In ps) (respond_plan c name lot)
respond-in c w ps name lot sound inc = turn-in c w ps name reasons.State (respond_needs c) (λ q. With_around q (λ a. Respond_around c lot q a q.peer)) sound inc
    (λ q queue given. at q queue (around-given w ps q (λ shared. where_some (turn q) q.peer) given))
  where
    turn : QueuePair → Correspondent → Needs
    turn q p = Part (names.Mailbox p.queue) (row_needs c (respond_row true q))

    peered : (q : QueuePair) (o : Option Correspondent) → IsAmong ps (names.Queue q.queue) → Included (around_parts q) ps → Given w ps (where_some (turn q) o)
        → TouchesIn w (In ps) (Respond_around c lot q (around_in w q (shared_of w q)) o)
    peered q None queue around inc = search rules
    peered q (Some peer) queue around inc = (
      inc (names.Mailbox peer.queue) (inl refl),
      left-in c w ps q peer lot (respond_row (has_room_for q peer (w.mailbox peer.queue)) q) sound (respond-writes (has_room_for q peer (w.mailbox peer.queue)) q)
          (respond-given c w (has_room_for q peer (w.mailbox peer.queue)) q ps (λ p among. inc p (inr among))) queue around (inc (names.Mailbox peer.queue) (inl refl)),
    )

    at : (q : QueuePair) → IsAmong ps (names.Queue q.queue) → IsAround w ps q (λ shared. where_some (turn q) q.peer) → TouchesIn w (In ps) (With_around q (λ a. Respond_around c lot q a q.peer))
    at q queue all = around-in w ps q (λ a. Respond_around c lot q a q.peer) all.around (peered q q.peer queue all.around all.more)

pub timeout-in : (c : Configuration) (w : World) (ps : List PartName) (name : QueueId) (hasten : Bool) → IsSoundWorld c w → Given w ps (event_needs c (events.Timeout name hasten))
    → TouchesIn w (In ps) (timeout_plan c name hasten)
timeout-in c w ps name hasten sound inc = turn-in c w ps name reasons.State needs (λ q. Look (Mailbox_of name) (λ own. With_around q (λ a. Timeout_around hasten q own a q.peer))) sound inc
    (λ q queue given. at q queue (given (names.Mailbox name) (inl refl)) (around-given w ps q (λ shared. where_some two q.peer) (λ p among. given p (inr among))))
  where
    two : Correspondent → Needs
    two p = Part (names.Queue p.queue) (part (names.Mailbox p.queue))

    needs : QueuePair → Needs
    needs q = Part (names.Mailbox name) (around_needs q (λ shared. where_some two q.peer))

    changed : (q : QueuePair) (silent : Bool) → IsAmong ps (names.Queue q.queue) → Included (around_parts q) ps
        → NamesIn (In ps) (names_updated (updates_of q (around_in w q (shared_of w q)) (after_timeout silent q)))
    changed q silent queue around = subst (λ us. NamesIn (In ps) (names_updated us)) (append-nil (updates_of q (around_in w q (shared_of w q)) (after_timeout silent q)))
        (updates-in ps q (around_in w q (shared_of w q)) (after_timeout silent q) [] queue around (record {}))

    fire : (q : QueuePair) (silent : Bool) → IsAmong ps (names.Queue q.queue) → Included (around_parts q) ps → TouchesIn w (In ps) (Fire hasten q (around_in w q (shared_of w q)) silent)
    fire q silent queue around = (λ is. record {}, λ is. (λ is. record {}, λ is. (λ is. record {}, λ is. (changed q silent queue around, record {}))))

    peered : (q : QueuePair) (o : Option Correspondent) → IsAmong ps (names.Queue q.queue) → Included (around_parts q) ps → Given w ps (where_some two o)
        → TouchesIn w (In ps) (Timeout_around hasten q (w.mailbox name) (around_in w q (shared_of w q)) o)
    peered q None queue around inc = search rules
    peered q (Some peer) queue around inc = (inc (names.Queue peer.queue) (inl refl), (inc (names.Mailbox peer.queue) (inr (inl refl)), fire q _ queue around))

    at : (q : QueuePair) → IsAmong ps (names.Queue q.queue) → IsAmong ps (names.Mailbox name) → IsAround w ps q (λ shared. where_some two q.peer)
        → TouchesIn w (In ps) (Look (Mailbox_of name) (λ own. With_around q (λ a. Timeout_around hasten q own a q.peer)))
    at q queue mailbox all = (
      mailbox,
      around-in w ps q (λ a. Timeout_around hasten q (w.mailbox name) a q.peer) all.around (peered q q.peer queue all.around all.more),
    )

pub wake-in : (c : Configuration) (w : World) (ps : List PartName) (name : QueueId) → IsSoundWorld c w → Given w ps (event_needs c (events.RnrWake name)) → TouchesIn w (In ps) (wake_plan c name)
wake-in c w ps name sound inc = turn-in c w ps name reasons.State needs (λ q. plan q q.peer) sound inc
    (λ q queue given. by q q.peer queue given)
  where
    needs : QueuePair → Needs
    needs q = where_some peer_needs q.peer

    wakes : QueuePair → Bool → Plan
    wakes q empty = unless_refused (wake_refusals empty q) Stuck (Finish ((Queue_of q.queue := Present (after_wake q).queue) ∷ []) [] (after_wake q).marks)

    plan : QueuePair → Option Correspondent → Plan
    plan q None = unless_refused (wake_refusals false q) Stuck (Stuck reasons.Empty)
    plan q (Some peer) = Look (Queue_of peer.queue) (λ slot. Look (Mailbox_of peer.queue) (λ m.
        With_receives slot (λ empty. wakes q (reaches_peer q peer m && empty))))

    wake : (q : QueuePair) (empty : Bool) → IsAmong ps (names.Queue q.queue) → TouchesIn w (In ps) (wakes q empty)
    wake q empty queue = (λ is. record {}, λ is. (λ is. record {}, λ is. (λ is. record {}, λ is. ((queue, record {}), record {}))))

    shared_needs : QueueSlot → Needs
    shared_needs (NoQueue incarnation timers) = Enough
    shared_needs (Present p) = where_some (λ srq. part (names.Srq (srq_of p srq))) p.srq

    receives : (slot : QueueSlot) (k : Bool → Plan) → Given w ps (shared_needs slot) → ((b : Bool) → TouchesIn w (In ps) (k b)) → TouchesIn w (In ps) (With_receives slot k)
    receives (NoQueue incarnation timers) k inc more = more true
    receives (Present p) k inc more = shared p.srq inc
      where
        source : Option ℕ → Plan
        source None = k (is_none (next_receive p None))
        source (Some srq) = Look (Srq_of (srq_of p srq)) (λ s. k (is_none (next_receive p s.srq)))

        shared : (o : Option ℕ) → Given w ps (where_some (λ srq. part (names.Srq (srq_of p srq))) o) → TouchesIn w (In ps) (source o)
        shared None inc = more _
        shared (Some srq) inc = (inc (names.Srq (srq_of p srq)) (inl refl), more _)

    by : (q : QueuePair) (o : Option Correspondent) → IsAmong ps (names.Queue q.queue) → Given w ps (where_some peer_needs o) → TouchesIn w (In ps) (plan q o)
    by q None queue inc = search rules
    by q (Some peer) queue inc = (
      inc (names.Queue peer.queue) (inl refl),
      (
        inc (names.Mailbox peer.queue) (inr (inl refl)),
        receives (w.queue peer.queue) (λ empty. wakes q (reaches_peer q peer (w.mailbox peer.queue) && empty)) (λ p among. inc p (inr (inr among))) (λ empty. wake q _ queue),
      ),
    )

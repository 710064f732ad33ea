-- Turns and packets keep the agreement on accesses, and each access that they make is asked for. For proofs only.
use Rattle.std.proofs.Common.{Bool, IfSome, List, None, Option, Some, [], ap, false, if◌then◌else◌, is_some, option_map, refl, rules, subst, sym, true, true≢false, ℕ, ◌&&◌, ◌++◌, ◌∙◌, ◌∷◌, ◌≡◌}
use Rattle.std.specs.List.{AllByRecursion, list_any}
use Rattle.std.specs.Option.{option_map_or}
use Rattle.ca_law_endings.proofs.LeadsLemmas.{leads-around, leads-queue, leads-unless}
use Rattle.ca_law_endings.proofs.PathLemmas.{marks-append}
use Rattle.ca_law_endings.proofs.PathTurnLemmas.{found}
use Rattle.ca_law_endings.specs.Agreement.{PathsAgree, peer_in, peer_named}
use Rattle.ca_law_endings.specs.Runs.{Leads}
use Rattle.ca_law_carried.proofs.Accesses.CarryLemmas.{Carries, IsCarried, Leaves, is_accessed, leaves-unheard, passes-append, passes-unheard, quiet-carries}
use Rattle.ca_law_carried.proofs.Accesses.EndLemmas.{AreSafe, IsSafe, RowSees, does-sees, leads-performed, leads-seen}
use Rattle.ca_law_carried.proofs.Accesses.QuietLemmas.{AreUnheard, IsQuiet, packet-quiet, timeout-quiet}
use Rattle.ca_law_carried.proofs.Accesses.RespondLemmas.{RespondsAt, respond-carried}
use Rattle.ca_law_carried.specs.Accesses.{AccessesAgree, AgreeInSlot, AgreeOnResponder, GoesOn, IsAsked, IsEnded, IsEndedWorld}
use Rattle.ca_law_keys.proofs.Keys.ToldLemmas.{ended}
use Rattle.ca_base.specs.Configuration.{Configuration}
use Rattle.ca_base.specs.declared.correspondent.Correspondent.{Correspondent}
use Rattle.ca_base.specs.declared.lot.Lot.{Lot}
use Rattle.ca_base.specs.declared.queue_numbers.Queued.{Queued}
use Rattle.ca_base.specs.declared.queue_numbers.ResponderNumbers.{ResponderNumbers}
use Rattle.ca_base.specs.objects.CompletionQueue.{after_puts}
use Rattle.ca_base.specs.objects.Mailbox.{Mailbox, after_send, is_lost}
use Rattle.ca_base.specs.objects.QueuePair.{NoQueue, Present, QueuePair, QueueSlot, recv_cq_of, send_cq_of, srq_of}
use Rattle.ca_base.specs.objects.Region.{Region, grant_of_region}
use Rattle.ca_base.specs.objects.SharedReceives.{SrqSlot, after_receive_take}
use Rattle.ca_keys.specs.Equal.{queue_eq, slot_eq}
use Rattle.ca_keys.specs.Memory.{memory_after}
use Rattle.ca_keys.specs.declared.names.QueueId.{QueueId}
use Rattle.ca_keys.specs.declared.names.Slot.{Slot}
use Rattle.ca_law_world.proofs.Sound.SettledLemmas.{queue-path, queue-refl}
use Rattle.ca_law_world.proofs.Sound.WorldLemmas.{around_in, shared_of}
use Rattle.ca_law_world.specs.Bindings.{IsBoundWorld}
use Rattle.ca_model.specs.Carried.{is_rest_of}
use Rattle.ca_model.specs.Past.{LatestWrite, Naming, Past, ReadRequest, after_marks, at_begin, each_mark, mtu_of, present_incarnation}
use Rattle.ca_model.specs.declared.event.Event.{Event}
use Rattle.ca_model.specs.declared.mark.Mark.{Mark}
use Rattle.ca_model.specs.machine.Around.{Around, With_around, completions_to, srq_updates, updates_of}
use Rattle.ca_model.specs.machine.Plan.{Finish, Look, Plan, Stuck, Update, Write, put_all, unless_refused, write_all, ◌:=◌}
use Rattle.ca_model.specs.machine.Requester.{Performs, RequestTurn, Sends, Waits, packet_row, turn_of}
use Rattle.ca_model.specs.machine.Respond.{respond_refusals, respond_row}
use Rattle.ca_model.specs.machine.Row.{Effects, Row, Row_plan}
use Rattle.ca_model.specs.machine.Seen.{sight_in}
use Rattle.ca_model.specs.machine.Sound.{AreLimited, IsQueueOf, IsSoundWorld}
use Rattle.ca_model.specs.machine.Timers.{after_timeout, after_wake, timeout_refusals, wake_refusals}
use Rattle.ca_model.specs.machine.Turns.{Fire, Leave_plan, Packet, Request_around, Respond_around, Timeout_around, With_receives, has_room_for, packet_sent, reaches_peer, request_plan, respond_plan, sent_marks, sent_updates, timeout_plan, wake_plan}
use Rattle.ca_model.specs.machine.World.{Byte_at, Cq_of, Domain_of, Mailbox_of, Name, Queue_of, Region_of, Srq_of, Thing, Window_of, World, put}
use Rattle.ca_model.specs.declared.event.Event.TheVariants as events
use Rattle.ca_model.specs.declared.mark.Mark.TheVariants as marks
use Rattle.ca_base.specs.declared.queue_numbers.Queued.TheVariants as queued
use Rattle.ca_base.specs.declared.step.Reason.TheVariants as reasons

-- ---- slots

-- what stands in a slot agrees with all with which another agreed
abbrev pub IsKeptSlot : QueueSlot → QueueSlot → Type 0
IsKeptSlot s t = (latest : Option LatestWrite) (naming : Option Naming) (requests : List ReadRequest) → AgreeInSlot latest naming requests s → AgreeInSlot latest naming requests t

-- a queue pair whose responder is the same
pub same-slot : (q p : QueuePair) → p.responder ≡ q.responder → IsKeptSlot (Present q) (Present p)
same-slot q p same latest naming requests agree = record {
  write = subst (λ (r : ResponderNumbers). GoesOn r.message latest) (sym same) agree.write;
  mtu = subst (λ (r : ResponderNumbers). IfSome naming (λ n. n.mtu ≡ r.mtu)) (sym same) agree.mtu;
  reads = subst (λ (r : ResponderNumbers). AllByRecursion (IsAsked r.mtu requests) r.answers) (sym same) agree.reads;
}

-- a change that leaves what queue pairs agree with, and regions that end where addresses end
abbrev pub IsKept : World → (n : Name) → Thing n → Type 0
IsKept w (Queue_of q) s = IsKeptSlot (w.queue q) s
IsKept w (Region_of s) r = IsEnded (grant_of_region r)
IsKept w n x = Unit {0}

abbrev pub AreKept : World → List Update → Type 0
AreKept w [] = Unit {0}
AreKept w (u ∷ us) = IsKept w u.name u.thing × AreKept w us

pub kept-append : (w : World) (us vs : List Update) → AreKept w us → AreKept w vs → AreKept w (us ++ vs)
kept-append w [] vs one other = other
kept-append w (u ∷ us) vs one other = (one.0, kept-append w us vs one.1 other)

-- a world in which each slot agrees with what it agreed with in another, and regions end
pub record KeepsAccesses (w v : World) : Type 0 where
  pub slots : (n : QueueId) → IsKeptSlot (w.queue n) (v.queue n)
  pub ended : IsEndedWorld v

pub same-world : (w : World) → IsEndedWorld w → KeepsAccesses w w
same-world w ended = record { slots = λ n latest naming requests agree. agree; ended = ended }

slot-put : (f g : QueueId → QueueSlot) (q : QueueId) (x : QueueSlot) → IsKeptSlot (f q) x → ((n : QueueId) → IsKeptSlot (f n) (g n)) → (n : QueueId) (b : Bool) → queue_eq q n ≡ b → IsKeptSlot (f n) (if b then x else g n)
slot-put f g q x one other n true e = subst (λ m. IsKeptSlot (f m) x) (queue-path q n e) one
slot-put f g q x one other n false e = other n

region-put : (f : Slot → Region) (s : Slot) (r : Region) → IsEnded (grant_of_region r) → ((t : Slot) → IsEnded (grant_of_region (f t))) → (t : Slot) (b : Bool) → IsEnded (grant_of_region (if b then r else f t))
region-put f s r one other t true = one
region-put f s r one other t false = other t

kept-put : (w v : World) (n : Name) (x : Thing n) → IsKept w n x → KeepsAccesses w v → KeepsAccesses w (put v n x)
kept-put w v (Queue_of q) x kept keeps = record { slots = λ n. slot-put w.queue v.queue q x kept keeps.slots n (queue_eq q n) refl; ended = keeps.ended }
kept-put w v (Region_of s) x kept keeps = record { slots = keeps.slots; ended = λ t. region-put v.region s x kept keeps.ended t (slot_eq s t) }
kept-put w v (Domain_of d) x kept keeps = record { slots = keeps.slots; ended = keeps.ended }
kept-put w v (Window_of s) x kept keeps = record { slots = keeps.slots; ended = keeps.ended }
kept-put w v (Cq_of s) x kept keeps = record { slots = keeps.slots; ended = keeps.ended }
kept-put w v (Srq_of s) x kept keeps = record { slots = keeps.slots; ended = keeps.ended }
kept-put w v (Mailbox_of q) x kept keeps = record { slots = keeps.slots; ended = keeps.ended }
kept-put w v (Byte_at p) x kept keeps = record { slots = keeps.slots; ended = keeps.ended }

pub kept-puts : (w v : World) (us : List Update) → AreKept w us → KeepsAccesses w v → KeepsAccesses w (put_all us v)
kept-puts w v [] kept keeps = keeps
kept-puts w v (u ∷ us) kept keeps = kept-puts w (put v u.name u.thing) us kept.1 (kept-put w v u.name u.thing kept.0 keeps)

pub kept-writes : (w : World) (ws : List Write) (v : World) → KeepsAccesses w v → KeepsAccesses w (write_all ws v)
kept-writes w [] v keeps = keeps
kept-writes w (x ∷ xs) v keeps = kept-writes w xs (record v { byte = memory_after v.byte x.runs x.bytes }) (record { slots = keeps.slots; ended = keeps.ended })

safe-one : (w : World) (n : Name) (x : Thing n) → IsSafe n x → IsKept w n x
safe-one w (Region_of s) x safe = safe
safe-one w (Window_of s) x safe = record {}
safe-one w (Domain_of d) x safe = absurd safe
safe-one w (Cq_of s) x safe = absurd safe
safe-one w (Srq_of s) x safe = absurd safe
safe-one w (Queue_of q) x safe = absurd safe
safe-one w (Mailbox_of q) x safe = absurd safe
safe-one w (Byte_at p) x safe = absurd safe

pub kept-safe : (w : World) (us : List Update) → AreSafe us → AreKept w us
kept-safe w [] safe = record {}
kept-safe w (u ∷ us) safe = (safe-one w u.name u.thing safe.0, kept-safe w us safe.1)

pub srq-kept : (w : World) (q : QueuePair) (a : Around) (b : Bool) → AreKept w (if b then srq_updates q a after_receive_take else [])
srq-kept w q a false = record {}
srq-kept w q a true = by q.srq a.shared
  where
    updates : Option ℕ → Option SrqSlot → List Update
    updates (Some srq) (Some slot) = (Srq_of (srq_of q srq) := record slot { srq = option_map after_receive_take slot.srq }) ∷ []
    updates srq slot = []

    by : (o : Option ℕ) (t : Option SrqSlot) → AreKept w (updates o t)
    by None t = record {}
    by (Some srq) None = record {}
    by (Some srq) (Some slot) = (record {}, record {})

-- what a turn's effects change beside the queue pair
abbrev pub beside_of : QueuePair → Around → Effects → List Update
beside_of q a e =
    (Cq_of (send_cq_of q) := option_map (after_puts (completions_to q q.send_cq e.marks)) a.send)
    ∷ (Cq_of (recv_cq_of q) := option_map (after_puts (completions_to q q.recv_cq e.marks)) a.recv)
    ∷ (if e.takes_shared then srq_updates q a after_receive_take else [])

beside-kept : (w : World) (q : QueuePair) (a : Around) (e : Effects) → AreKept w (beside_of q a e)
beside-kept w q a e = (record {}, (record {}, srq-kept w q a e.takes_shared))

-- ---- pasts

-- a past that tells no more of accesses than another, but perhaps of requests
pub record Grows (p r : Past) : Type 0 where
  pub incarnation : r.incarnation ≡ p.incarnation
  pub naming : r.naming ≡ p.naming
  pub latest : (n : QueueId) → r.latest_write n ≡ p.latest_write n
  pub requests : (l : Correspondent) (test : ReadRequest → Bool) → list_any test (p.read_requests l) ≡ true → list_any test (r.read_requests l) ≡ true

pub same-past : (p : Past) → Grows p p
same-past p = record { incarnation = refl; naming = refl; latest = λ n. refl; requests = λ l test any. any }

pub grows-then : (p r s : Past) → Grows p r → Grows r s → Grows p s
grows-then p r s one other = record {
  incarnation = other.incarnation ∙ one.incarnation;
  naming = other.naming ∙ one.naming;
  latest = λ n. other.latest n ∙ one.latest n;
  requests = λ l test any. other.requests l test (one.requests l test any);
}

pub unheard-grows : (ms : List Mark) → AreUnheard ms → (p : Past) → Grows p (after_marks ms p)
unheard-grows ms unheard p = record {
  incarnation = (left (record { adapter = 0; number = 0 })).incarnation;
  naming = (left (record { adapter = 0; number = 0 })).naming;
  latest = λ n. (left n).own;
  requests = (left (record { adapter = 0; number = 0 })).requests;
}
  where
    left : (n : QueueId) → Leaves n (p.latest_write n) p (after_marks ms p)
    left n = leaves-unheard n (p.latest_write n) ms unheard p refl

asked-more : (mtu : ℕ) (rs ss : List ReadRequest) → ((test : ReadRequest → Bool) → list_any test rs ≡ true → list_any test ss ≡ true) → (a : Queued) → IsAsked mtu rs a → IsAsked mtu ss a
asked-more mtu rs ss more (queued.Ack psn) asked = record {}
asked-more mtu rs ss more (queued.Rnr psn) asked = record {}
asked-more mtu rs ss more (queued.Nak psn code) asked = record {}
asked-more mtu rs ss more (queued.Read psn key address left first envelope duplicate) asked = more (is_rest_of mtu key address left envelope) asked
asked-more mtu rs ss more (queued.Atomic psn found duplicate) asked = record {}

all-asked-more : (mtu : ℕ) (rs ss : List ReadRequest) → ((test : ReadRequest → Bool) → list_any test rs ≡ true → list_any test ss ≡ true) → (xs : List Queued) → AllByRecursion (IsAsked mtu rs) xs → AllByRecursion (IsAsked mtu ss) xs
all-asked-more mtu rs ss more [] all = record {}
all-asked-more mtu rs ss more (x ∷ xs) all = (asked-more mtu rs ss more x all.0, all-asked-more mtu rs ss more xs all.1)

pub slot-grown : (s : QueueSlot) (a b : Option LatestWrite) (m n : Option Naming) (rs ss : List ReadRequest) → b ≡ a → n ≡ m → ((test : ReadRequest → Bool) → list_any test rs ≡ true → list_any test ss ≡ true) → AgreeInSlot a m rs s → AgreeInSlot b n ss s
slot-grown (NoQueue incarnation timers) a b m n rs ss latest naming more agree = record {}
slot-grown (Present q) a b m n rs ss latest naming more agree = record {
  write = subst (GoesOn q.responder.message) (sym latest) agree.write;
  mtu = subst (λ o. IfSome o (λ n. n.mtu ≡ q.responder.mtu)) (sym naming) agree.mtu;
  reads = all-asked-more q.responder.mtu rs ss more q.responder.answers agree.reads;
}

-- the agreement over a past that grows and a world that keeps it
pub agree-kept : (p r : Past) (w v : World) → Grows p r → KeepsAccesses w v → AccessesAgree p w → AccessesAgree r v
agree-kept p r w v grows keeps agree = λ n. keeps.slots n (r.latest_write n) (r.naming n) (r.read_requests (record { queue = n; incarnation = r.incarnation n }))
    (slot-grown (w.queue n) (p.latest_write n) (r.latest_write n) (p.naming n) (r.naming n) (p.read_requests (record { queue = n; incarnation = p.incarnation n }))
    (r.read_requests (record { queue = n; incarnation = r.incarnation n })) (grows.latest n) (ap (λ f. f n) grows.naming)
    (λ test any. subst (λ f. list_any test (r.read_requests (record { queue = n; incarnation = f n })) ≡ true) (sym grows.incarnation) (grows.requests (record { queue = n; incarnation = p.incarnation n }) test any)) (agree n))

-- ---- turns

-- the requests that arrived at a queue pair in its present incarnation
abbrev pub requests_of : Past → QueueId → List ReadRequest
requests_of p n = p.read_requests (present_incarnation p n)

pub agree-at : (p : Past) (w : World) (q : QueuePair) → AccessesAgree p w → w.queue q.queue ≡ Present q → AgreeOnResponder (p.latest_write q.queue) (p.naming q.queue) (requests_of p q.queue) q
agree-at p w q agree is = subst (AgreeInSlot (p.latest_write q.queue) (p.naming q.queue) (requests_of p q.queue)) is (agree q.queue)

-- effects that are carried leave the agreement
pub turn-agrees : (p : Past) (w : World) (q : QueuePair) (e : Effects) (rest : List Update) (ws : List Write) → w.queue q.queue ≡ Present q → AccessesAgree p w → IsEndedWorld w
    → IsCarried q.queue q.responder.mtu (requests_of p q.queue) e p → ((v : World) → AreKept v rest)
    → AccessesAgree (after_marks e.marks p) (write_all ws (put_all ((Queue_of q.queue := Present e.queue) ∷ rest) w)) × IsEndedWorld (write_all ws (put_all ((Queue_of q.queue := Present e.queue) ∷ rest) w))
turn-agrees p w q e rest ws is agree ended carried kept = (agree-kept r r v (write_all ws (put_all rest v)) (same-past r) keeps moved, keeps.ended)
  where
    r : Past
    r = after_marks e.marks p

    v : World
    v = put w (Queue_of q.queue) (Present e.queue)

    keeps : KeepsAccesses v (write_all ws (put_all rest v))
    keeps = kept-writes v ws (put_all rest v) (kept-puts v v rest (kept v) (same-world v ended))

    more : (n : QueueId) (test : ReadRequest → Bool) → list_any test (requests_of p n) ≡ true → list_any test (requests_of r n) ≡ true
    more n test any = subst (λ f. list_any test (r.read_requests (record { queue = n; incarnation = f n })) ≡ true) (sym carried.leaves.incarnation)
        (carried.leaves.requests (present_incarnation p n) test any)

    own : AgreeOnResponder (r.latest_write q.queue) (r.naming q.queue) (requests_of r q.queue) e.queue
    own = record {
      write = subst (GoesOn e.queue.responder.message) (sym carried.leaves.own) carried.write;
      mtu = subst (λ (m : ℕ). IfSome (r.naming q.queue) (λ n. n.mtu ≡ m)) (sym carried.mtu)
          (subst (λ f. IfSome (f q.queue) (λ n. n.mtu ≡ q.responder.mtu)) (sym carried.leaves.naming) (agree-at p w q agree is).mtu);
      reads = subst (λ m. AllByRecursion (IsAsked m (requests_of r q.queue)) e.queue.responder.answers) (sym carried.mtu)
          (all-asked-more q.responder.mtu (requests_of p q.queue) (requests_of r q.queue) (more q.queue) e.queue.responder.answers carried.reads);
    }

    moved : AccessesAgree r v
    moved = λ n. at n (queue_eq q.queue n) refl
      where
        at : (n : QueueId) (b : Bool) → queue_eq q.queue n ≡ b → AgreeInSlot (r.latest_write n) (r.naming n) (requests_of r n) (if b then Present e.queue else w.queue n)
        at n true same = subst (λ k. AgreeInSlot (r.latest_write k) (r.naming k) (requests_of r k) (Present e.queue)) (queue-path q.queue n same) own
        at n false other = slot-grown (w.queue n) (p.latest_write n) (r.latest_write n) (p.naming n) (r.naming n) (requests_of p n) (requests_of r n) (carried.leaves.others n other)
            (ap (λ f. f n) carried.leaves.naming) (more n) (agree n)

-- what an event that ends so leaves: each access is asked for, and past and world agree
abbrev pub Right : Past → Event → World → List Mark → Type 0
Right past event v ms = (each_mark is_accessed (at_begin event past) ms ≡ true) × (AccessesAgree (after_marks ms (at_begin event past)) v × IsEndedWorld v)

-- a world that comes up, and a past that agrees with it on paths and on accesses
pub record IsMet (c : Configuration) (past : Past) (w : World) : Type 0 where
  pub limited : AreLimited c
  pub sound : IsSoundWorld c w
  pub bound : IsBoundWorld w
  pub ended : IsEndedWorld w
  pub paths : PathsAgree past w
  pub agree : AccessesAgree past w

sent-unheard : (q : QueuePair) (peer : Correspondent) (m : Mailbox) (lot : Lot) (o : Option Packet) → AreUnheard (option_map_or (sent_marks q peer m lot) o [])
sent-unheard q peer m lot None = record {}
sent-unheard q peer m lot (Some x) = by (reaches_peer q peer m) (is_lost lot)
  where
    by : (b z : Bool) → AreUnheard (if b
        then marks.Sent q.queue peer.queue (Some m.next) x.request x.bytes ∷ (if z then marks.Lost peer.queue (Some m.next) ∷ [] else [])
        else marks.Sent q.queue peer.queue None x.request x.bytes ∷ marks.Lost peer.queue None ∷ [])
    by true true = (record {}, (record {}, record {}))
    by true false = (record {}, record {})
    by false z = (record {}, (record {}, record {}))

sent-kept : (v : World) (q : QueuePair) (peer : Correspondent) (m : Mailbox) (lot : Lot) (o : Option Packet) → AreKept v (option_map_or (sent_updates q peer m lot) o [])
sent-kept v q peer m lot None = record {}
sent-kept v q peer m lot (Some x) = by (reaches_peer q peer m)
  where
    by : (b : Bool) → AreKept v (if b then (Mailbox_of peer.queue := after_send lot x.bytes m) ∷ [] else [])
    by true = (record {}, record {})
    by false = record {}

-- a turn's row, and what it sends
right-left : (c : Configuration) (past : Past) (event : Event) (w : World) (q : QueuePair) (peer : Correspondent) (lot : Lot) (row : Row) (I : Past → Type 0) → IsMet c past w → w.queue q.queue ≡ Present q
    → I (at_begin event past) → RowSees (sight_in c w) (Carries I q (requests_of past q.queue)) row
    → Leads w (Right past event) (Row_plan c row (Leave_plan q (around_in w q (shared_of w q)) peer (w.mailbox peer.queue) lot))
right-left c past event w q peer lot row I met is at sees = leads-seen c w (Right past event) (Carries I q (requests_of past q.queue)) row (Leave_plan q a peer m lot) met.ended sees
    (λ e cs ws carries safe. left e cs ws (carries (at_begin event past) at) safe)
  where
    a : Around
    a = around_in w q (shared_of w q)

    m : Mailbox
    m = w.mailbox peer.queue

    tells : Effects → List Mark
    tells e = option_map_or (sent_marks q peer m lot) (packet_sent e) []

    sends : Effects → List Update
    sends e = option_map_or (sent_updates q peer m lot) (packet_sent e) []

    left : (e : Effects) (cs : List Update) (ws : List Write) → IsCarried q.queue q.responder.mtu (requests_of past q.queue) e (at_begin event past) → AreSafe cs
        → Right past event (write_all ws (put_all (updates_of q a e ++ (cs ++ sends e)) w)) (e.marks ++ tells e)
    left e cs ws carried safe = (
      passes-append e.marks (tells e) (at_begin event past) carried.passes (sent-unheard q peer m lot (packet_sent e)),
      (
        subst (λ p. AccessesAgree p v) (sym (marks-append e.marks (tells e) (at_begin event past)))
            (agree-kept r (after_marks (tells e) r) v v (unheard-grows (tells e) (sent-unheard q peer m lot (packet_sent e)) r) (same-world v moved.1) moved.0),
        moved.1,
      ),
    )
      where
        r : Past
        r = after_marks e.marks (at_begin event past)

        v : World
        v = write_all ws (put_all (updates_of q a e ++ (cs ++ sends e)) w)

        moved : AccessesAgree r v × IsEndedWorld v
        moved = turn-agrees (at_begin event past) w q e
            ((Cq_of (send_cq_of q) := option_map (after_puts (completions_to q q.send_cq e.marks)) a.send)
            ∷ (Cq_of (recv_cq_of q) := option_map (after_puts (completions_to q q.recv_cq e.marks)) a.recv)
            ∷ ((if e.takes_shared then srq_updates q a after_receive_take else []) ++ (cs ++ sends e))) ws is met.agree met.ended carried
            (λ u. (
              record {},
              (
                record {},
                kept-append u (if e.takes_shared then srq_updates q a after_receive_take else []) (cs ++ sends e) (srq-kept u q a e.takes_shared)
                    (kept-append u cs (sends e) (kept-safe u cs safe) (sent-kept u q peer m lot (packet_sent e))),
              ),
            ))

-- effects that tell of no access end an event
right-quiet : (c : Configuration) (past : Past) (event : Event) (w : World) (q : QueuePair) (e : Effects) (cs : List Update) (ws : List Write) → IsMet c past w → w.queue q.queue ≡ Present q
    → IsQuiet (past.latest_write q.queue) (requests_of past q.queue) q e → AreSafe cs → Right past event (write_all ws (put_all (updates_of q (around_in w q (shared_of w q)) e ++ cs) w)) e.marks
right-quiet c past event w q e cs ws met is quiet safe = (passes-unheard e.marks quiet.marks (at_begin event past), moved)
  where
    a : Around
    a = around_in w q (shared_of w q)

    own : AgreeOnResponder (past.latest_write q.queue) (past.naming q.queue) (requests_of past q.queue) q
    own = agree-at past w q met.agree is

    carried : IsCarried q.queue q.responder.mtu (requests_of past q.queue) e (at_begin event past)
    carried = quiet-carries (λ p. p.latest_write q.queue ≡ past.latest_write q.queue) q (past.latest_write q.queue) (requests_of past q.queue) e (λ p at. at) own.write own.reads quiet (at_begin event past) refl

    moved : AccessesAgree (after_marks e.marks (at_begin event past)) (write_all ws (put_all (updates_of q a e ++ cs) w)) × IsEndedWorld (write_all ws (put_all (updates_of q a e ++ cs) w))
    moved = turn-agrees (at_begin event past) w q e
        ((Cq_of (send_cq_of q) := option_map (after_puts (completions_to q q.send_cq e.marks)) a.send)
        ∷ (Cq_of (recv_cq_of q) := option_map (after_puts (completions_to q q.recv_cq e.marks)) a.recv)
        ∷ ((if e.takes_shared then srq_updates q a after_receive_take else []) ++ cs)) ws is met.agree met.ended carried
        (λ u. (record {}, (record {}, kept-append u (if e.takes_shared then srq_updates q a after_receive_take else []) cs (srq-kept u q a e.takes_shared) (kept-safe u cs safe))))

pub right-request : (c : Configuration) (past : Past) (event : Event) (w : World) (name : QueueId) (lot : Lot) → IsMet c past w → Leads w (Right past event) (request_plan c name lot)
right-request c past event w name lot met = leads-queue c w (Right past event) name reasons.State (λ q. With_around q (λ a. Request_around c lot q a q.peer (turn_of q)))
    (λ q is. leads-around w (Right past event) q (λ a. Request_around c lot q a q.peer (turn_of q)) (by q (found c w name q met.sound is) q.peer (turn_of q)))
  where
    latest : QueuePair → Option LatestWrite
    latest q = past.latest_write q.queue

    by : (q : QueuePair) → w.queue q.queue ≡ Present q → (peer : Option Correspondent) (turn : RequestTurn) → Leads w (Right past event) (Request_around c lot q (around_in w q (shared_of w q)) peer turn)
    by q is peer (Waits reason) = record {}
    by q is peer (Performs n) = leads-performed c w (Right past event) (latest q) (requests_of past q.queue) q n (λ e changes writes. Finish (updates_of q (around_in w q (shared_of w q)) e ++ changes) writes e.marks) n.request.op met.ended
        (λ e cs ws quiet safe. right-quiet c past event w q e cs ws met is quiet safe)
    by q is None (Sends n) = record {}
    by q is (Some peer) (Sends n) = right-left c past event w q peer lot (packet_row q (has_room_for q peer (w.mailbox peer.queue)) n) (λ p. p.latest_write q.queue ≡ latest q) met is refl
        (does-sees (sight_in c w) (IsQuiet (latest q) (requests_of past q.queue) q) (Carries (λ p. p.latest_write q.queue ≡ latest q) q (requests_of past q.queue)) (packet_row q (has_room_for q peer (w.mailbox peer.queue)) n)
        (λ e quiet. quiet-carries (λ p. p.latest_write q.queue ≡ latest q) q (latest q) (requests_of past q.queue) e (λ p at. at) (agree-at past w q met.agree is).write (agree-at past w q met.agree is).reads quiet)
        (packet-quiet (latest q) (requests_of past q.queue) q (has_room_for q peer (w.mailbox peer.queue)) n))

-- a queue pair that is found has its name
named : (c : Configuration) (w : World) (name : QueueId) (q : QueuePair) → IsSoundWorld c w → w.queue name ≡ Present q → q.queue ≡ name
named c w name q sound is = (subst (IsQueueOf name) is (sound.things (Queue_of name))).0

-- the path MTU that a queue pair with a peer was told is its own
pub told-mtu : (past : Past) (w : World) (q : QueuePair) (peer : Correspondent) → PathsAgree past w → AccessesAgree past w → w.queue q.queue ≡ Present q → q.peer ≡ Some peer → mtu_of past q.queue ≡ q.responder.mtu
told-mtu past w q peer paths agree is names = by (past.naming q.queue) (sym (paths.peers q.queue) ∙ ap peer_in is ∙ names) (agree-at past w q agree is).mtu
  where
    by : (o : Option Naming) → peer_named o ≡ Some peer → IfSome o (λ n. n.mtu ≡ q.responder.mtu) → option_map_or (λ n. n.mtu) o 0 ≡ q.responder.mtu
    by None none mtu = absurd (true≢false (sym (ap is_some none)))
    by (Some n) some mtu = mtu

pub right-respond : (c : Configuration) (past : Past) (w : World) (name : QueueId) (lot : Lot) → IsMet c past w → Leads w (Right past (events.Respond name lot)) (respond_plan c name lot)
right-respond c past w name lot met = leads-queue c w P name reasons.State (λ q. With_around q (λ a. Respond_around c lot q a q.peer))
    (λ q is. leads-around w P q (λ a. Respond_around c lot q a q.peer) (by q (found c w name q met.sound is) (named c w name q met.sound is) q.peer refl))
  where
    P : World → List Mark → Type 0
    P = Right past (events.Respond name lot)

    by : (q : QueuePair) → w.queue q.queue ≡ Present q → q.queue ≡ name → (peer : Option Correspondent) → q.peer ≡ peer → Leads w P (Respond_around c lot q (around_in w q (shared_of w q)) peer)
    by q is same None names = leads-unless w P (respond_refusals true q) Stuck (Stuck reasons.Empty) (λ r. record {}) (record {})
    by q is same (Some peer) names = right-left c past (events.Respond name lot) w q peer lot (respond_row (has_room_for q peer (w.mailbox peer.queue)) q)
        (RespondsAt q.queue q.responder.mtu (requests_of past q.queue) (past.latest_write q.queue)) met is
        (record { latest = refl; event = subst (λ k. queue_eq name k ≡ true) (sym same) (queue-refl name); mtu = told-mtu past w q peer met.paths met.agree is names; requests = refl })
        (respond-carried (sight_in c w) (past.latest_write q.queue) (requests_of past q.queue) q (agree-at past w q met.agree is).write (agree-at past w q met.agree is).reads (has_room_for q peer (w.mailbox peer.queue)))

pub right-timeout : (c : Configuration) (past : Past) (event : Event) (w : World) (name : QueueId) (hasten : Bool) → IsMet c past w → Leads w (Right past event) (timeout_plan c name hasten)
right-timeout c past event w name hasten met =
    leads-queue c w (Right past event) name reasons.State (λ q. Look (Mailbox_of name) (λ own. With_around q (λ a. Timeout_around hasten q own a q.peer)))
    (λ q is. leads-around w (Right past event) q (λ a. Timeout_around hasten q (w.mailbox name) a q.peer) (by q (found c w name q met.sound is) q.peer))
  where
    fire : (q : QueuePair) → w.queue q.queue ≡ Present q → (silent : Bool) → Leads w (Right past event) (Fire hasten q (around_in w q (shared_of w q)) silent)
    fire q is silent = leads-unless w (Right past event) (timeout_refusals silent hasten q) Stuck
        (Finish (updates_of q (around_in w q (shared_of w q)) (after_timeout silent q)) [] (after_timeout silent q).marks) (λ r. record {})
        (passes-unheard (after_timeout silent q).marks (timeout-quiet (past.latest_write q.queue) (requests_of past q.queue) q silent).marks (at_begin event past), moved)
      where
        own : AgreeOnResponder (past.latest_write q.queue) (past.naming q.queue) (requests_of past q.queue) q
        own = agree-at past w q met.agree is

        moved : AccessesAgree (after_marks (after_timeout silent q).marks (at_begin event past)) (put_all (updates_of q (around_in w q (shared_of w q)) (after_timeout silent q)) w)
            × IsEndedWorld (put_all (updates_of q (around_in w q (shared_of w q)) (after_timeout silent q)) w)
        moved = turn-agrees (at_begin event past) w q (after_timeout silent q) (beside_of q (around_in w q (shared_of w q)) (after_timeout silent q)) [] is met.agree met.ended
            (quiet-carries (λ p. p.latest_write q.queue ≡ past.latest_write q.queue) q (past.latest_write q.queue) (requests_of past q.queue) (after_timeout silent q) (λ p at. at) own.write own.reads
            (timeout-quiet (past.latest_write q.queue) (requests_of past q.queue) q silent) (at_begin event past) refl)
            (λ u. beside-kept u q (around_in w q (shared_of w q)) (after_timeout silent q))

    by : (q : QueuePair) → w.queue q.queue ≡ Present q → (peer : Option Correspondent) → Leads w (Right past event) (Timeout_around hasten q (w.mailbox name) (around_in w q (shared_of w q)) peer)
    by q is None = leads-unless w (Right past event) (timeout_refusals false hasten q) Stuck (Stuck reasons.Empty) (λ r. record {}) (record {})
    by q is (Some peer) = fire q is _

pub right-wake : (c : Configuration) (past : Past) (event : Event) (w : World) (name : QueueId) → IsMet c past w → Leads w (Right past event) (wake_plan c name)
right-wake c past event w name met = leads-queue c w (Right past event) name reasons.State (λ q. waking q q.peer) (λ q is. by q (found c w name q met.sound is) q.peer)
  where
    wakes : QueuePair → Bool → Plan
    wakes q empty = unless_refused (wake_refusals empty q) Stuck (Finish ((Queue_of q.queue := Present (after_wake q).queue) ∷ []) [] (after_wake q).marks)

    waking : QueuePair → Option Correspondent → Plan
    waking q None = unless_refused (wake_refusals false q) Stuck (Stuck reasons.Empty)
    waking q (Some peer) = Look (Queue_of peer.queue) (λ slot. Look (Mailbox_of peer.queue) (λ m.
        With_receives slot (λ empty. wakes q (reaches_peer q peer m && empty))))

    wake : (q : QueuePair) → w.queue q.queue ≡ Present q → (empty : Bool) → Leads w (Right past event) (wakes q empty)
    wake q is empty = leads-unless w (Right past event) (wake_refusals empty q) Stuck (Finish ((Queue_of q.queue := Present (after_wake q).queue) ∷ []) [] (after_wake q).marks) (λ r. record {})
        (refl, (agree-kept (at_begin event past) (at_begin event past) w v (same-past (at_begin event past)) keeps met.agree, keeps.ended))
      where
        v : World
        v = put w (Queue_of q.queue) (Present (after_wake q).queue)

        keeps : KeepsAccesses w v
        keeps = kept-puts w w ((Queue_of q.queue := Present (after_wake q).queue) ∷ []) (subst (λ s. IsKeptSlot s (Present (after_wake q).queue)) (sym is) (same-slot q (after_wake q).queue refl), record {}) (same-world w met.ended)

    receives : (slot : QueueSlot) (k : Bool → Plan) → ((b : Bool) → Leads w (Right past event) (k b)) → Leads w (Right past event) (With_receives slot k)
    receives slot k more = search rules

    by : (q : QueuePair) → w.queue q.queue ≡ Present q → (peer : Option Correspondent) → Leads w (Right past event) (waking q peer)
    by q is None = leads-unless w (Right past event) (wake_refusals false q) Stuck (Stuck reasons.Empty) (λ r. record {}) (record {})
    by q is (Some peer) = receives (w.queue peer.queue) (λ empty. wakes q (reaches_peer q peer (w.mailbox peer.queue) && empty)) (λ empty. wake q is _)

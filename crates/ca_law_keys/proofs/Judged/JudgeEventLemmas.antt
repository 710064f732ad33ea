-- In every event each mark is judged rightly, and so in every history that follows the machine. For proofs only.
use Rattle.std.proofs.Common.{◌≡◌, ℕ, suc, Bool, true, false, ◌&&◌, if◌then◌else◌, List, [], ◌∷◌, ◌++◌, map, Option, None, Some, Ok, Err, refl, sym, ap, subst, rules, true≢false, nat_le, ◌==◌, ◌<◌, ◌∙◌}
use Rattle.std.specs.List.{AllByRecursion}
use Rattle.std.specs.Option.{option_and_then, option_map, option_map_or}
use Rattle.std.specs.Str.{bytes_eq}
use Rattle.ca_law_endings.proofs.EventFitLemmas.{first-marks}
use Rattle.ca_law_endings.proofs.LeadsLemmas.{comes, leads-around, leads-queue, leads-unless, leads-weaker}
use Rattle.ca_law_endings.proofs.PathChangeLemmas.{Behind}
use Rattle.ca_law_endings.proofs.PathVerbLemmas.{call_of}
use Rattle.ca_law_endings.specs.Runs.{Comes, Leads}
use Rattle.ca_law_keys.proofs.Judged.JudgeLemmas.{Judges, RowJudged, Sees, both-true, bytes-refl, plain-judged}
use Rattle.ca_law_keys.proofs.Keys.KeyLaws.{event-keys-agree, opening-keys-agree}
use Rattle.ca_law_keys.proofs.Keys.KeyTurnLemmas.{found}
use Rattle.ca_law_keys.proofs.Keys.KeyFrame.{IsUp}
use Rattle.ca_law_keys.proofs.Judged.JudgeRowLemmas.{Arrives, arrival-judged, packet-judged, respond-judged, some-mtu}
use Rattle.ca_law_keys.proofs.Keys.SightLemmas.{grant-seen}
use Rattle.ca_law_keys.proofs.Keys.PlainLemmas.{timeout-plain, ArePlainMarks}
use Rattle.ca_law_keys.proofs.Judged.JudgeVerbLemmas.{Answers, IsQuietVerb, quiet-judged, quiet-verb, refused-loaded}
use Rattle.ca_law_keys.specs.InForce.{KeysAgree}
use Rattle.ca_base.specs.Configuration.{Configuration}
use Rattle.ca_base.specs.declared.correspondent.Correspondent.{Correspondent}
use Rattle.ca_base.specs.declared.lot.Lot.{Lot}
use Rattle.ca_base.specs.declared.step.Reason.TheVariants as reasons
use Rattle.ca_base.specs.objects.Mailbox.{Mailbox, after_delivery, bytes_lent, is_lost}
use Rattle.ca_base.specs.objects.QueuePair.{QueuePair, QueueSlot, NoQueue, Present, is_present}
use Rattle.ca_keys.specs.Memory.{ByteMap, bytes_at}
use Rattle.ca_keys.specs.declared.names.DomainId.{DomainId}
use Rattle.ca_keys.specs.declared.names.QueueId.{QueueId}
use Rattle.ca_law_parts.proofs.Names.PlacedLemmas.{event-placed, opening-placed}
use Rattle.ca_law_parts.specs.Placed.{IsPlacedWorld}
use Rattle.ca_law_world.proofs.Sound.SoundLemmas.{event-sound, opening-sound}
use Rattle.ca_law_world.proofs.Sound.WorldLemmas.{around_in, shared_of, IsThere}
use Rattle.ca_law_world.proofs.Windows.WindowEventLemmas.{event-bound, opening-bound}
use Rattle.ca_law_world.specs.Bindings.{IsBoundWorld}
use Rattle.ca_model.specs.Entries.{EntryValue}
use Rattle.ca_model.specs.Past.{Envelope, Past, after_entry, after_mark, after_marks, at_begin, each_entry, each_mark, opening_past, packet_at}
use Rattle.ca_model.specs.declared.answer.Answer.TheVariants as answers
use Rattle.ca_model.specs.declared.answer.Refusal.TheVariants.{NoSuch}
use Rattle.ca_model.specs.declared.event.Event.{Event}
use Rattle.ca_model.specs.declared.event.Event.TheVariants as events
use Rattle.ca_model.specs.declared.mark.Mark.{Mark}
use Rattle.ca_model.specs.declared.mark.Mark.TheVariants as marks
use Rattle.ca_model.specs.declared.verb.Verb.{Verb}
use Rattle.ca_model.specs.declared.verb.Verb.TheVariants as verbs
use Rattle.ca_model.specs.machine.Around.{Around, With_around, shared_in, updates_of}
use Rattle.ca_model.specs.machine.Delivery.{Arrive, arrival_row, deliver_plan}
use Rattle.ca_model.specs.machine.Frame.{Afterwards}
use Rattle.ca_model.specs.machine.HostVerbs.{inject_plan, host_refusals, load_plan}
use Rattle.ca_model.specs.machine.Plan.{Did, NotReady, Outcome, Plan, Stuck, Look, Read, Finish, Update, ◌:=◌, Write, unless_refused}
use Rattle.ca_model.specs.machine.Requester.{Performs, RequestTurn, Sends, Waits, packet_row, turn_of}
use Rattle.ca_model.specs.machine.Respond.{respond_refusals, respond_row}
use Rattle.ca_model.specs.machine.Row.{Effects, Row, Row_plan}
use Rattle.ca_model.specs.machine.Run.{Follows, Ran, go_on, run_from}
use Rattle.ca_model.specs.machine.Seen.{sight_in}
use Rattle.ca_model.specs.machine.Sound.{AreLimited, CanBeMade, IsQueueOf, IsSoundWorld}
use Rattle.ca_model.specs.machine.Step.{plan, step, verb_plan, bytes_of_buffer, run_of}
use Rattle.ca_model.specs.machine.Timers.{after_timeout, after_wake, timeout_refusals, wake_refusals}
use Rattle.ca_model.specs.machine.Turns.{Fire, Leave_plan, Packet, Request_around, Respond_around, Timeout_around, With_receives, has_room_for, packet_sent, reaches_peer, request_plan, respond_plan, sent_marks, timeout_plan, wake_plan}
use Rattle.ca_model.specs.machine.VerbAnswers.{Answer_plan, Call, Refuse_plan, answer_mark}
use Rattle.ca_model.specs.machine.World.{Mailbox_of, Queue_of, World, opening_world}
use Rattle.std.proofs.lemmas.Bool.{and_parts, eq-eqb}
use Rattle.ca_law_endings.proofs.MailSentLemmas.{lent-sent}
use Rattle.ca_law_endings.proofs.PathEventLemmas.{event-agrees, opening-agrees}
use Rattle.ca_law_endings.specs.Agreement.{PathsAgree, WereSent}
use Rattle.ca_law_keys.proofs.Keys.ToldLemmas.{At}
use Rattle.ca_base.specs.objects.Slices.{has_queue, has_slot, slot_of_queue}
use Rattle.ca_law_keys.proofs.Judged.JudgeOperationLemmas.{leads-judged, leads-perform}
use Rattle.ca_law_keys.proofs.Judged.WholeLemmas.{agreed-whole}
use Rattle.ca_keys.specs.Equal.{domain_eq}
use Rattle.ca_keys.specs.Numbers.{domain_of}
use Rattle.ca_keys.specs.declared.place.Run.{Run}
use Rattle.ca_model.specs.Judged.{Judged, is_judged, is_loaded, is_of_domain}
use Rattle.ca_model.specs.Packets.{packet_of}

-- what holds of the marks of an event
abbrev Right : Past → Event → World → List Mark → Type 0
Right past event v ms = each_mark is_judged (at_begin event past) ms ≡ true

-- a world that comes up, and a past that agrees with it on keys and on paths
record IsMet (c : Configuration) (past : Past) (w : World) : Type 0 where
  up : IsUp c past w
  paths : PathsAgree past w

-- plain marks, behind others
pass-plain : (ms ns : List Mark) (p : Past) → each_mark is_judged p ms ≡ true → ArePlainMarks ns → each_mark is_judged p (ms ++ ns) ≡ true
pass-plain [] ns p one plain = plain-judged ns plain p
pass-plain (m ∷ ms) ns p one plain = both-true (is_judged p m) _ (and_parts (is_judged p m) (each_mark is_judged (after_mark m p) ms) one).0
    (pass-plain ms ns (after_mark m p) (and_parts (is_judged p m) (each_mark is_judged (after_mark m p) ms) one).1 plain)

sees : (c : Configuration) (past : Past) (w : World) → IsUp c past w → Sees (sight_in c w) past.grants past.memory
sees c past w up = record {
  grant = λ ask. grant-seen c w past.grants ask up.sound up.placed up.agree.keys;
  byte = up.agree.bytes;
  whole = agreed-whole c w past.grants up.sound up.bound up.agree.keys;
}

-- a queue pair that is there is one of its domain
owns : (c : Configuration) (w : World) (q : QueuePair) → IsPlacedWorld c w → IsThere w q → is_of_domain q.queue q.domain ≡ true
owns c w q placed there = by (has_queue c q.queue) refl
  where
    same : (d : DomainId) → domain_eq d d ≡ true
    same d = both-true (d.adapter == d.adapter) (d.domain == d.domain) (eq-eqb d.adapter d.adapter refl) (eq-eqb d.domain d.domain refl)

    by : (b : Bool) → has_queue c q.queue ≡ b → is_of_domain q.queue q.domain ≡ true
    by true e = both-true (nat_le 256 q.queue.number) _ (and_parts (nat_le 256 q.queue.number) (has_slot c (λ a. a.qps) (slot_of_queue q.queue)) e).0
        (subst (λ d. domain_eq (domain_of q.queue) d ≡ true) (sym there.domain) (same (domain_of q.queue)))
    by false e = absurd (true≢false (ap is_present (sym there.present ∙ placed.vacant (Queue_of q.queue) e)))

some-bytes : (w : World) (q : QueuePair) → IsThere w q → 0 < q.responder.mtu
some-bytes w q there = some-mtu q.responder.mtu there.sound.responder.mtu

sent-plain : (q : QueuePair) (peer : Correspondent) (m : Mailbox) (lot : Lot) (o : Option Packet) → ArePlainMarks (option_map_or (sent_marks q peer m lot) o [])
sent-plain q peer m lot None = record {}
sent-plain q peer m lot (Some x) = by (reaches_peer q peer m) (is_lost lot)
  where
    by : (b z : Bool) → ArePlainMarks (if b
        then marks.Sent q.queue peer.queue (Some m.next) x.request x.bytes ∷ (if z then marks.Lost peer.queue (Some m.next) ∷ [] else [])
        else marks.Sent q.queue peer.queue None x.request x.bytes ∷ marks.Lost peer.queue None ∷ [])
    by true true = (record {}, (record {}, record {}))
    by true false = (record {}, record {})
    by false z = (record {}, (record {}, record {}))

right-left : (c : Configuration) (past : Past) (event : Event) (w : World) (q : QueuePair) (a : Around) (peer : Correspondent) (m : Mailbox) (lot : Lot) (row : Row) → RowJudged (sight_in c w) (At past.grants past.memory) row
    → Leads w (Right past event) (Row_plan c row (Leave_plan q a peer m lot))
right-left c past event w q a peer m lot row judged = leads-judged c w (Right past event) (At past.grants past.memory) row (Leave_plan q a peer m lot) judged
    (λ e cs ws pass. pass-plain e.marks (option_map_or (sent_marks q peer m lot) (packet_sent e) []) (at_begin event past) (pass (at_begin event past) (record { grants = refl; memory = refl })) (sent-plain q peer m lot (packet_sent e)))

right-request : (c : Configuration) (past : Past) (event : Event) (w : World) (name : QueueId) (lot : Lot) → IsUp c past w → Leads w (Right past event) (request_plan c name lot)
right-request c past event w name lot up = leads-queue c w (Right past event) name reasons.State (λ q. With_around q (λ a. Request_around c lot q a q.peer (turn_of q)))
    (λ q is. leads-around w (Right past event) q (λ a. Request_around c lot q a q.peer (turn_of q)) (by q (owns c w q up.placed (found c w name q up.sound is)) (around_in w q (shared_of w q)) q.peer (turn_of q)))
  where
    by : (q : QueuePair) → is_of_domain q.queue q.domain ≡ true → (a : Around) (peer : Option Correspondent) (turn : RequestTurn) → Leads w (Right past event) (Request_around c lot q a peer turn)
    by q own a peer (Waits reason) = record {}
    by q own a peer (Performs n) = leads-perform c w (Right past event) q n (λ e changes writes. Finish (updates_of q a e ++ changes) writes e.marks) n.request.op up.sound (λ e cs ws pass. pass (at_begin event past))
    by q own a None (Sends n) = record {}
    by q own a (Some peer) (Sends n) = right-left c past event w q a peer (w.mailbox peer.queue) lot (packet_row q (has_room_for q peer (w.mailbox peer.queue)) n)
        (packet-judged (sight_in c w) past.grants past.memory q (has_room_for q peer (w.mailbox peer.queue)) n own (sees c past w up))

right-respond : (c : Configuration) (past : Past) (event : Event) (w : World) (name : QueueId) (lot : Lot) → IsUp c past w → Leads w (Right past event) (respond_plan c name lot)
right-respond c past event w name lot up = leads-queue c w (Right past event) name reasons.State (λ q. With_around q (λ a. Respond_around c lot q a q.peer))
    (λ q is. leads-around w (Right past event) q (λ a. Respond_around c lot q a q.peer) (by q (found c w name q up.sound is) (around_in w q (shared_of w q)) q.peer))
  where
    by : (q : QueuePair) → IsThere w q → (a : Around) (peer : Option Correspondent) → Leads w (Right past event) (Respond_around c lot q a peer)
    by q there a None = leads-unless w (Right past event) (respond_refusals true q) Stuck (Stuck reasons.Empty) (λ r. record {}) (record {})
    by q there a (Some peer) = right-left c past event w q a peer (w.mailbox peer.queue) lot (respond_row (has_room_for q peer (w.mailbox peer.queue)) q)
        (respond-judged (sight_in c w) past.grants past.memory (has_room_for q peer (w.mailbox peer.queue)) q (owns c w q up.placed there) (sees c past w up) (some-bytes w q there))

right-timeout : (c : Configuration) (past : Past) (event : Event) (w : World) (name : QueueId) (hasten : Bool) → Leads w (Right past event) (timeout_plan c name hasten)
right-timeout c past event w name hasten =
    leads-queue c w (Right past event) name reasons.State (λ q. Look (Mailbox_of name) (λ own. With_around q (λ a. Timeout_around hasten q own a q.peer)))
    (λ q is. leads-around w (Right past event) q (λ a. Timeout_around hasten q (w.mailbox name) a q.peer) (by q q.peer))
  where
    fire : (q : QueuePair) (silent : Bool) → Leads w (Right past event) (Fire hasten q (around_in w q (shared_of w q)) silent)
    fire q silent = leads-unless w (Right past event) (timeout_refusals silent hasten q) Stuck
        (Finish (updates_of q (around_in w q (shared_of w q)) (after_timeout silent q)) [] (after_timeout silent q).marks) (λ r. record {})
        (plain-judged (after_timeout silent q).marks (timeout-plain q silent).marks (at_begin event past))

    by : (q : QueuePair) (peer : Option Correspondent) → Leads w (Right past event) (Timeout_around hasten q (w.mailbox name) (around_in w q (shared_of w q)) peer)
    by q None = leads-unless w (Right past event) (timeout_refusals false hasten q) Stuck (Stuck reasons.Empty) (λ r. record {}) (record {})
    by q (Some peer) = fire q _

right-arrive : (c : Configuration) (past : Past) (w : World) (P : World → List Mark → Type 0) (q : QueuePair) (bytes : List ℕ) (envelope : Option ℕ) (pre : List Update) (ms : List Mark) → IsUp c past w → IsThere w q
    → ((v : World) (e : Effects) → Judges (Arrives past.grants past.memory q.queue envelope (packet_of bytes)) e.marks → P v (ms ++ marks.Arrived q.queue envelope ∷ e.marks)) → Leads w P (Arrive c q bytes envelope pre ms)
right-arrive c past w P q bytes envelope pre ms up there more = leads-around w P q (λ a. Row_plan c (arrival_row bytes envelope (shared_in a) q) (finish a))
    (leads-judged c w P (Arrives past.grants past.memory q.queue envelope (packet_of bytes)) (arrival_row bytes envelope (shared_in a) q) (finish a)
    (arrival-judged (sight_in c w) past.grants past.memory bytes envelope (shared_in a) q (owns c w q up.placed there) (sees c past w up) (some-bytes w q there))
    (λ e cs ws pass. more _ e pass))
  where
    a : Around
    a = around_in w q (shared_of w q)

    finish : Around → Effects → List Update → List Write → Plan
    finish a e more writes = Finish (pre ++ (updates_of q a e ++ more)) writes (ms ++ marks.Arrived q.queue envelope ∷ e.marks)

-- the packet that a mark names by an index is the one that was lent
lent-packet : (past : Past) (q : QueueId) (index : ℕ) (bytes : List ℕ) → WereSent past q index bytes → packet_at past q (Some index) ≡ packet_of bytes
lent-packet past q index bytes was = ap (λ o. option_and_then packet_of (option_map (λ (e : Envelope). e.bytes) o)) was.sent ∙ ap packet_of was.bytes

right-deliver : (c : Configuration) (past : Past) (event : Event) (w : World) (name : QueueId) (index : ℕ) → IsMet c past w → Leads w (Right past event) (deliver_plan c name index)
right-deliver c past event w name index met = (λ has. lent (bytes_lent index (w.mailbox name)) refl, λ none. record {})
  where
    m : Mailbox
    m = w.mailbox name

    at : List ℕ → QueueSlot → Plan
    at bytes (NoQueue incarnation timers) = Stuck reasons.NotKept
    at bytes (Present q) = Arrive c q bytes (Some index) ((Mailbox_of name := after_delivery index m) ∷ []) []

    under_way : Option (List ℕ) → Plan
    under_way None = Stuck reasons.NotKept
    under_way (Some bytes) = Look (Queue_of name) (at bytes)

    there : (bytes : List ℕ) → WereSent past name index bytes → (s : QueueSlot) → w.queue name ≡ s → Leads w (Right past event) (at bytes s)
    there bytes was (NoQueue incarnation timers) is = record {}
    there bytes was (Present q) is = right-arrive c past w (Right past event) q bytes (Some index) ((Mailbox_of name := after_delivery index m) ∷ []) [] met.up (found c w name q met.up.sound is)
        (λ v e pass. pass (after_mark (marks.Arrived q.queue (Some index)) (at_begin event past)) (record {
          grants = refl;
          memory = refl;
          packet = lent-packet past q.queue index bytes (subst (λ k. WereSent past k index bytes) (sym (subst (IsQueueOf name) is (met.up.sound.things (Queue_of name))).0) was);
        }))

    lent : (o : Option (List ℕ)) → bytes_lent index m ≡ o → Leads w (Right past event) (under_way o)
    lent None is = record {}
    lent (Some bytes) is = there bytes (lent-sent c past w name index bytes met.up.sound met.paths is) (w.queue name) refl

right-wake : (c : Configuration) (past : Past) (event : Event) (w : World) (name : QueueId) → Leads w (Right past event) (wake_plan c name)
right-wake c past event w name = leads-queue c w (Right past event) name reasons.State (λ q. waking q q.peer) (λ q is. by q q.peer)
  where
    wakes : QueuePair → Bool → Plan
    wakes q empty = unless_refused (wake_refusals empty q) Stuck (Finish ((Queue_of q.queue := Present (after_wake q).queue) ∷ []) [] (after_wake q).marks)

    waking : QueuePair → Option Correspondent → Plan
    waking q None = unless_refused (wake_refusals false q) Stuck (Stuck reasons.Empty)
    waking q (Some peer) = Look (Queue_of peer.queue) (λ slot. Look (Mailbox_of peer.queue) (λ m.
        With_receives slot (λ empty. wakes q (reaches_peer q peer m && empty))))

    wake : (q : QueuePair) (empty : Bool) → Leads w (Right past event) (wakes q empty)
    wake q empty = leads-unless w (Right past event) (wake_refusals empty q) Stuck (Finish ((Queue_of q.queue := Present (after_wake q).queue) ∷ []) [] (after_wake q).marks) (λ r. record {}) refl

    receives : (slot : QueueSlot) (k : Bool → Plan) → ((b : Bool) → Leads w (Right past event) (k b)) → Leads w (Right past event) (With_receives slot k)
    receives slot k more = search rules

    by : (q : QueuePair) (peer : Option Correspondent) → Leads w (Right past event) (waking q peer)
    by q None = leads-unless w (Right past event) (wake_refusals false q) Stuck (Stuck reasons.Empty) (λ r. record {}) (record {})
    by q (Some peer) = receives (w.queue peer.queue) (λ empty. wakes q (reaches_peer q peer (w.mailbox peer.queue) && empty)) (λ empty. wake q _)

right-inject : (c : Configuration) (past : Past) (w : World) (by : ℕ) (q : QueueId) (bytes : List ℕ) → IsUp c past w
    → Leads w (Right past (events.Verb by (verbs.Inject q bytes))) (inject_plan c (call_of by (verbs.Inject q bytes)) q bytes)
right-inject c past w by q bytes up = at (w.queue q) refl
  where
    call : Call
    call = call_of by (verbs.Inject q bytes)

    P : World → List Mark → Type 0
    P = Right past (events.Verb by (verbs.Inject q bytes))

    arrives : QueueSlot → Plan
    arrives (NoQueue incarnation timers) = Refuse_plan call NoSuch
    arrives (Present p) = Arrive c p bytes None [] (answer_mark call answers.Fine ∷ [])

    at : (s : QueueSlot) → w.queue q ≡ s → Leads w P (arrives s)
    at (NoQueue incarnation timers) is = refl
    at (Present p) is = right-arrive c past w P p bytes None [] (answer_mark call answers.Fine ∷ []) up (found c w q p up.sound is)
        (λ v e pass. pass (after_mark (marks.Arrived p.queue None) (Behind past by (verbs.Inject q bytes) answers.Fine)) (record { grants = refl; memory = refl; packet = refl }))

-- a Load gives what memory holds
right-load : (c : Configuration) (past : Past) (w : World) (by adapter buffer offset count : ℕ) → IsUp c past w
    → Leads w (Right past (events.Verb by (verbs.Load adapter buffer offset count))) (load_plan (call_of by (verbs.Load adapter buffer offset count)) (run_of adapter buffer offset count) (bytes_of_buffer c adapter buffer))
right-load c past w by adapter buffer offset count up = leads-unless w (Right past (events.Verb by (verbs.Load adapter buffer offset count))) (host_refusals at (bytes_of_buffer c adapter buffer)) (Refuse_plan call)
    (Read (at ∷ []) (λ bytes. Answer_plan call (answers.Loaded bytes) [] [])) (λ r. refl)
    (both-true (bytes_eq (bytes_at w.byte (at ∷ [])) (bytes_at past.memory (at ∷ []))) true (ap (λ m. bytes_eq (bytes_at w.byte (at ∷ [])) (bytes_at m (at ∷ []))) (sym up.agree.bytes) ∙ bytes-refl (bytes_at w.byte (at ∷ []))) refl)
  where
    call : Call
    call = call_of by (verbs.Load adapter buffer offset count)

    at : Run
    at = run_of adapter buffer offset count

right-verb : (c : Configuration) (past : Past) (w : World) (by : ℕ) (verb : Verb) → IsQuietVerb verb → Leads w (Right past (events.Verb by verb)) (verb_plan c (call_of by verb) verb)
right-verb c past w by verb quiet = leads-weaker w (Answers (call_of by verb)) (Right past (events.Verb by verb)) (verb_plan c (call_of by verb) verb)
    (λ v ms quiet. quiet-judged ms quiet (at_begin (events.Verb by verb) past)) (quiet-verb c w by verb quiet)

right-call : (c : Configuration) (past : Past) (w : World) (by : ℕ) (verb : Verb) → IsUp c past w → Leads w (Right past (events.Verb by verb)) (verb_plan c (call_of by verb) verb)
right-call c past w by (verbs.Inject queue bytes) up = right-inject c past w by queue bytes up
right-call c past w by (verbs.Load adapter buffer offset count) up = right-load c past w by adapter buffer offset count up
right-call c past w by (verbs.AllocPd domain) up = right-verb c past w by (verbs.AllocPd domain) (record {})
right-call c past w by (verbs.DeallocPd domain) up = right-verb c past w by (verbs.DeallocPd domain) (record {})
right-call c past w by (verbs.RegMr slot buffer offset count rights) up = right-verb c past w by (verbs.RegMr slot buffer offset count rights) (record {})
right-call c past w by (verbs.AllocMr slot pages) up = right-verb c past w by (verbs.AllocMr slot pages) (record {})
right-call c past w by (verbs.DeregMr slot) up = right-verb c past w by (verbs.DeregMr slot) (record {})
right-call c past w by (verbs.AllocMw slot kind) up = right-verb c past w by (verbs.AllocMw slot kind) (record {})
right-call c past w by (verbs.DeallocMw slot) up = right-verb c past w by (verbs.DeallocMw slot) (record {})
right-call c past w by (verbs.CreateCq slot capacity) up = right-verb c past w by (verbs.CreateCq slot capacity) (record {})
right-call c past w by (verbs.DestroyCq slot) up = right-verb c past w by (verbs.DestroyCq slot) (record {})
right-call c past w by (verbs.CreateSrq slot depth) up = right-verb c past w by (verbs.CreateSrq slot depth) (record {})
right-call c past w by (verbs.DestroySrq slot) up = right-verb c past w by (verbs.DestroySrq slot) (record {})
right-call c past w by (verbs.CreateQp slot send_cq recv_cq send_depth recv_depth srq) up = right-verb c past w by (verbs.CreateQp slot send_cq recv_cq send_depth recv_depth srq) (record {})
right-call c past w by (verbs.ModifyQp slot change) up = right-verb c past w by (verbs.ModifyQp slot change) (record {})
right-call c past w by (verbs.QueryQp slot) up = right-verb c past w by (verbs.QueryQp slot) (record {})
right-call c past w by (verbs.DestroyQp slot) up = right-verb c past w by (verbs.DestroyQp slot) (record {})
right-call c past w by (verbs.PostSend slot request) up = right-verb c past w by (verbs.PostSend slot request) (record {})
right-call c past w by (verbs.PostRecv slot request) up = right-verb c past w by (verbs.PostRecv slot request) (record {})
right-call c past w by (verbs.PostSrq slot request) up = right-verb c past w by (verbs.PostSrq slot request) (record {})
right-call c past w by (verbs.Poll slot n least) up = right-verb c past w by (verbs.Poll slot n least) (record {})
right-call c past w by (verbs.Store adapter buffer offset bytes) up = right-verb c past w by (verbs.Store adapter buffer offset bytes) (record {})

right-event : (c : Configuration) (past : Past) (w : World) (event : Event) → IsMet c past w → Leads w (Right past event) (plan c event)
right-event c past w (events.Verb by verb) met = (λ named. right-call c past w by verb met.up, λ none. both-true (is_loaded (at_begin (events.Verb by verb) past) verb (answers.Refused NoSuch)) true (refused-loaded (at_begin (events.Verb by verb) past) verb NoSuch) refl)
right-event c past w (events.Request queue lot) met = right-request c past (events.Request queue lot) w queue lot met.up
right-event c past w (events.Deliver queue index) met = right-deliver c past (events.Deliver queue index) w queue index met
right-event c past w (events.Respond queue lot) met = right-respond c past (events.Respond queue lot) w queue lot met.up
right-event c past w (events.Timeout queue hasten) met = right-timeout c past (events.Timeout queue hasten) w queue hasten
right-event c past w (events.RnrWake queue) met = right-wake c past (events.RnrWake queue) w queue

along : (c : Configuration) (n : ℕ) (es : List EntryValue) (past : Past) (w : World) → AllByRecursion (λ e. CanBeMade e.event) es → IsMet c past w
    → run_from c n w (map (λ e. e.event) es) ≡ Ok (map (λ e. e.marks) es) → each_entry is_judged (λ p. true) past es ≡ true
along c n [] past w made met follows = refl
along c n (e ∷ es) past w made met follows =
    by (step c w e.event) (comes w (Right past e.event) (plan c e.event) (right-event c past w e.event met)) (event-keys-agree c past w e.event up.limited up.sound up.placed up.bound up.agree)
    (event-agrees c past w e.event up.sound met.paths)
    (event-sound c e.event w up.limited up.sound made.0) (event-placed c e.event w up.limited up.sound up.placed) (event-bound c e.event w up.sound up.bound) follows
    (λ v next told. along c (suc n) es (after_entry e past) v made.1 next told)
  where
    up : IsUp c past w
    up = met.up

    Rest : Type 0
    Rest = (v : World) → IsMet c (after_entry e past) v → run_from c (suc n) v (map (λ e. e.event) es) ≡ Ok (map (λ e. e.marks) es) → each_entry is_judged (λ p. true) (after_entry e past) es ≡ true

    stopped : Ran → Bool
    stopped (Ok told) = false
    stopped (Err stop) = true

    same : (v : World) → KeysAgree (after_marks e.marks (at_begin e.event past)) v → KeysAgree (after_entry e past) v
    same v agree = agree

    same-paths : (v : World) → PathsAgree (after_marks e.marks (at_begin e.event past)) v → PathsAgree (after_entry e past) v
    same-paths v agree = agree

    by : (o : Outcome) → Comes (Right past e.event) o → Comes (λ v ms. KeysAgree (after_marks ms (at_begin e.event past)) v) o → Comes (λ v ms. PathsAgree (after_marks ms (at_begin e.event past)) v) o
        → Afterwards (IsSoundWorld c) o → Afterwards (IsPlacedWorld c) o
        → Afterwards IsBoundWorld o → go_on n o (λ v. run_from c (suc n) v (map (λ e. e.event) es)) ≡ Ok (e.marks ∷ map (λ e. e.marks) es) → Rest
        → each_entry is_judged (λ p. true) past (e ∷ es) ≡ true
    by (NotReady reason) right agrees paths sound placed bound follows rest = absurd (true≢false (ap stopped follows))
    by (Did v ms) right agrees paths sound placed bound follows rest = at (first-marks ms e.marks (run_from c (suc n) v (map (λ e. e.event) es)) (map (λ e. e.marks) es) follows)
      where
        at : (ms ≡ e.marks) × (run_from c (suc n) v (map (λ e. e.event) es) ≡ Ok (map (λ e. e.marks) es)) → each_entry is_judged (λ p. true) past (e ∷ es) ≡ true
        at told = both-true _ _ (both-true _ true (subst (λ xs. each_mark is_judged (at_begin e.event past) xs ≡ true) told.0 right) refl)
            (rest v (record {
              up = record { limited = up.limited; sound = sound; placed = placed; bound = bound; agree = same v (subst (λ xs. KeysAgree (after_marks xs (at_begin e.event past)) v) told.0 agrees) };
              paths = same-paths v (subst (λ xs. PathsAgree (after_marks xs (at_begin e.event past)) v) told.0 paths);
            }) told.1)

pub judged-along : (c : Configuration) (bytes : ByteMap) (es : List EntryValue) → AreLimited c → AllByRecursion (λ e. CanBeMade e.event) es → Follows c bytes es → Judged bytes es
judged-along c bytes es limited made follows = along c 0 es (opening_past bytes) (opening_world bytes) made (record {
  up = record { limited = limited; sound = opening-sound c bytes; placed = opening-placed c bytes; bound = opening-bound bytes; agree = opening-keys-agree bytes };
  paths = opening-agrees bytes;
}) follows

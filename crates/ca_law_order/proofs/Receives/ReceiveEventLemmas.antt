-- Every event keeps the agreement on receives, which complete in order; so does every history that follows the machine. For
-- proofs only.
use Rattle.std.proofs.Common.{◌≡◌, ℕ, suc, Bool, true, false, List, [], ◌∷◌, map, Ok, Err, refl, ap, subst, rules, true≢false}
use Rattle.std.specs.List.{AllByRecursion}
use Rattle.ca_law_endings.proofs.EventFitLemmas.{first-marks}
use Rattle.ca_law_endings.proofs.LeadsLemmas.{comes, leads-weaker}
use Rattle.ca_law_endings.proofs.PathVerbLemmas.{call_of}
use Rattle.ca_law_endings.specs.Agreement.{HoldsAlong}
use Rattle.ca_law_endings.specs.Runs.{Comes, Leads}
use Rattle.ca_law_order.proofs.Receives.ReceiveVerbLemmas.{ReceivesBy, receives-create, receives-create_srq, receives-dealloc_mw, receives-destroy, receives-destroy_srq, receives-inject, receives-modify, receives-poll, receives-post_recv, receives-post_send, receives-post_srq}
use Rattle.ca_law_order.proofs.Polls.TurnLemmas.{IsTurn, turns-deliver, turns-request, turns-respond, turns-timeout, turns-wake}
use Rattle.ca_law_order.proofs.Polls.WaitLemmas.{both-true}
use Rattle.ca_law_order.proofs.Receives.ReceiveLemmas.{Receives, turn-receives}
use Rattle.ca_law_order.specs.Receives.{AreReceivesInOrder, ReceivesAgree, is_receive_done_in_order}
use Rattle.ca_law_parts.proofs.Room.EventRoomLemmas.{event-room}
use Rattle.ca_law_parts.proofs.Room.RoomLemmas.{opening-room}
use Rattle.ca_law_parts.specs.Room.{HasRoom}
use Rattle.ca_base.specs.Configuration.{Configuration}
use Rattle.ca_keys.specs.Memory.{ByteMap}
use Rattle.ca_law_world.proofs.Sound.SoundLemmas.{event-sound, opening-sound}
use Rattle.ca_model.specs.Entries.{EntryValue}
use Rattle.ca_model.specs.Past.{Past, after_entry, after_marks, at_begin, each_entry, opening_past}
use Rattle.ca_model.specs.declared.answer.Refusal.TheVariants.{NoSuch}
use Rattle.ca_model.specs.declared.event.Event.{Event}
use Rattle.ca_model.specs.declared.event.Event.TheVariants as events
use Rattle.ca_model.specs.declared.verb.Verb.{Verb}
use Rattle.ca_model.specs.declared.verb.Verb.TheVariants as verbs
use Rattle.ca_model.specs.machine.Frame.{Afterwards}
use Rattle.ca_model.specs.machine.Plan.{Did, NotReady, Outcome, Plan}
use Rattle.ca_model.specs.machine.Run.{Follows, Ran, go_on, run_from}
use Rattle.ca_model.specs.machine.Sound.{AreLimited, CanBeMade, HasFewPieces, IsSoundWorld}
use Rattle.ca_model.specs.machine.Step.{plan, step, verb_plan}
use Rattle.ca_model.specs.machine.VerbAnswers.{Refuse_plan}
use Rattle.ca_model.specs.machine.World.{World, opening_world}

-- ---- events

receives-verb : (c : Configuration) (past : Past) (w : World) (by : ℕ) (verb : Verb) → IsSoundWorld c w → HasRoom w → HasFewPieces verb → ReceivesAgree past w → Leads w (ReceivesBy past by verb) (verb_plan c (call_of by verb) verb)
receives-verb c past w by (verbs.AllocPd domain) sound room few agree = search (rules, agree)
receives-verb c past w by (verbs.DeallocPd domain) sound room few agree = search (rules, agree)
receives-verb c past w by (verbs.RegMr slot buffer offset count rights) sound room few agree = search (rules, agree)
receives-verb c past w by (verbs.AllocMr slot pages) sound room few agree = search (rules, agree)
receives-verb c past w by (verbs.DeregMr slot) sound room few agree = search (rules, agree)
receives-verb c past w by (verbs.AllocMw slot kind) sound room few agree = search (rules, agree)
receives-verb c past w by (verbs.DeallocMw slot) sound room few agree = receives-dealloc_mw c past w by slot sound room agree
receives-verb c past w by (verbs.CreateCq slot capacity) sound room few agree = search (rules, agree)
receives-verb c past w by (verbs.DestroyCq slot) sound room few agree = search (rules, agree)
receives-verb c past w by (verbs.CreateSrq slot depth) sound room few agree = receives-create_srq past w by slot depth room agree
receives-verb c past w by (verbs.DestroySrq slot) sound room few agree = receives-destroy_srq past w by slot agree
receives-verb c past w by (verbs.CreateQp slot send_cq recv_cq send_depth recv_depth srq) sound room few agree = receives-create c past w by (record {
  slot = slot;
  send_cq = send_cq;
  recv_cq = recv_cq;
  send_depth = send_depth;
  recv_depth = recv_depth;
  srq = srq;
}) room agree
receives-verb c past w by (verbs.ModifyQp slot change) sound room few agree = receives-modify c past w by slot change sound room agree
receives-verb c past w by (verbs.QueryQp slot) sound room few agree = search (rules, agree)
receives-verb c past w by (verbs.DestroyQp slot) sound room few agree = receives-destroy c past w by slot sound agree
receives-verb c past w by (verbs.PostSend slot request) sound room few agree = receives-post_send c past w by slot request sound room few agree
receives-verb c past w by (verbs.PostRecv slot request) sound room few agree = receives-post_recv c past w by slot request sound room few agree
receives-verb c past w by (verbs.PostSrq slot request) sound room few agree = receives-post_srq past w by slot request agree
receives-verb c past w by (verbs.Poll slot n least) sound room few agree = receives-poll past w by slot n least agree
receives-verb c past w by (verbs.Store adapter buffer offset bytes) sound room few agree = search (rules, agree)
receives-verb c past w by (verbs.Load adapter buffer offset count) sound room few agree = search (rules, agree)
receives-verb c past w by (verbs.Inject queue bytes) sound room few agree = receives-inject c past w by queue bytes sound room agree

-- a turn, or a packet that arrives
receives-turn : (past : Past) (event : Event) (w : World) (p : Plan) → HasRoom w → ReceivesAgree past w → Leads w (IsTurn w []) p → Leads w (Receives past event) p
receives-turn past event w p room agree turns = leads-weaker w (IsTurn w []) (Receives past event) p (λ v ms turn. turn-receives past event w v [] ms room agree refl refl refl turn) turns

receives-event : (c : Configuration) (past : Past) (w : World) (event : Event) → IsSoundWorld c w → HasRoom w → CanBeMade event → ReceivesAgree past w → Leads w (Receives past event) (plan c event)
receives-event c past w (events.Verb by verb) sound room made agree = (λ named. receives-verb c past w by verb sound room made agree, λ none. refused verb)
  where
    -- a verb that is refused tells of no receive
    refused : (verb : Verb) → Leads w (ReceivesBy past by verb) (Refuse_plan (call_of by verb) NoSuch)
    refused (verbs.AllocPd domain) = record { agree = agree; right = refl }
    refused (verbs.DeallocPd domain) = record { agree = agree; right = refl }
    refused (verbs.RegMr slot buffer offset count rights) = record { agree = agree; right = refl }
    refused (verbs.AllocMr slot pages) = record { agree = agree; right = refl }
    refused (verbs.DeregMr slot) = record { agree = agree; right = refl }
    refused (verbs.AllocMw slot kind) = record { agree = agree; right = refl }
    refused (verbs.DeallocMw slot) = record { agree = agree; right = refl }
    refused (verbs.CreateCq slot capacity) = record { agree = agree; right = refl }
    refused (verbs.DestroyCq slot) = record { agree = agree; right = refl }
    refused (verbs.CreateSrq slot depth) = record { agree = agree; right = refl }
    refused (verbs.DestroySrq slot) = record { agree = agree; right = refl }
    refused (verbs.CreateQp slot send_cq recv_cq send_depth recv_depth srq) = record { agree = agree; right = refl }
    refused (verbs.ModifyQp slot change) = record { agree = agree; right = refl }
    refused (verbs.QueryQp slot) = record { agree = agree; right = refl }
    refused (verbs.DestroyQp slot) = record { agree = agree; right = refl }
    refused (verbs.PostSend slot request) = record { agree = agree; right = refl }
    refused (verbs.PostRecv slot request) = record { agree = agree; right = refl }
    refused (verbs.PostSrq slot request) = record { agree = agree; right = refl }
    refused (verbs.Poll slot n least) = record { agree = agree; right = refl }
    refused (verbs.Store adapter buffer offset bytes) = record { agree = agree; right = refl }
    refused (verbs.Load adapter buffer offset count) = record { agree = agree; right = refl }
    refused (verbs.Inject queue bytes) = record { agree = agree; right = refl }
receives-event c past w (events.Request queue lot) sound room made agree = receives-turn past (events.Request queue lot) w (plan c (events.Request queue lot)) room agree (turns-request c w queue lot sound)
receives-event c past w (events.Deliver queue index) sound room made agree = receives-turn past (events.Deliver queue index) w (plan c (events.Deliver queue index)) room agree (turns-deliver c w queue index sound)
receives-event c past w (events.Respond queue lot) sound room made agree = receives-turn past (events.Respond queue lot) w (plan c (events.Respond queue lot)) room agree (turns-respond c w queue lot sound)
receives-event c past w (events.Timeout queue hasten) sound room made agree = receives-turn past (events.Timeout queue hasten) w (plan c (events.Timeout queue hasten)) room agree (turns-timeout c w queue hasten sound)
receives-event c past w (events.RnrWake queue) sound room made agree = receives-turn past (events.RnrWake queue) w (plan c (events.RnrWake queue)) room agree (turns-wake c w queue sound)

receives-comes : (c : Configuration) (past : Past) (w : World) (event : Event) → IsSoundWorld c w → HasRoom w → CanBeMade event → ReceivesAgree past w → Comes (Receives past event) (step c w event)
receives-comes c past w event sound room made agree = comes w (Receives past event) (plan c event) (receives-event c past w event sound room made agree)

-- the event's marks leave a past that agrees with the world that it leaves
pub event-receives-agree : (c : Configuration) (past : Past) (w : World) (event : Event) → IsSoundWorld c w → HasRoom w → CanBeMade event → ReceivesAgree past w
    → Comes (λ v ms. ReceivesAgree (after_marks ms (at_begin event past)) v) (step c w event)
event-receives-agree c past w event sound room made agree = by (step c w event) (receives-comes c past w event sound room made agree)
  where
    by : (o : Outcome) → Comes (Receives past event) o → Comes (λ v ms. ReceivesAgree (after_marks ms (at_begin event past)) v) o
    by (NotReady reason) receives = record {}
    by (Did v ms) receives = receives.agree

pub opening-receives-agree : (bytes : ByteMap) → ReceivesAgree (opening_past bytes) (opening_world bytes)
opening-receives-agree bytes = record { receives = λ q. record {}; later = λ q n less. refl }

-- ---- histories

-- what holds along a history, and of its receives
record Goes (c : Configuration) (past : Past) (w : World) (es : List EntryValue) : Type 0 where
  along : HoldsAlong ReceivesAgree c past w es
  right : each_entry is_receive_done_in_order (λ p. true) past es ≡ true

goes : (c : Configuration) (n : ℕ) (es : List EntryValue) (past : Past) (w : World) → AreLimited c → AllByRecursion (λ e. CanBeMade e.event) es → IsSoundWorld c w → HasRoom w → ReceivesAgree past w
    → run_from c n w (map (λ e. e.event) es) ≡ Ok (map (λ e. e.marks) es) → Goes c past w es
goes c n [] past w limited made sound room agree follows = record { along = agree; right = refl }
goes c n (e ∷ es) past w limited made sound room agree follows =
    joined (whole (step c w e.event) (receives-comes c past w e.event sound room made.0 agree) (event-sound c e.event w limited sound made.0) (event-room c e.event w sound room made.0) follows
    (λ v sound room agree told. goes c (suc n) es (after_entry e past) v limited made.1 sound room agree told))
  where
    Rest : Type 0
    Rest = (v : World) → IsSoundWorld c v → HasRoom v → ReceivesAgree (after_entry e past) v → run_from c (suc n) v (map (λ e. e.event) es) ≡ Ok (map (λ e. e.marks) es) → Goes c (after_entry e past) v es

    Whole : Outcome → Type 0
    Whole o = Afterwards (λ v. HoldsAlong ReceivesAgree c (after_entry e past) v es) o × (each_entry is_receive_done_in_order (λ p. true) past (e ∷ es) ≡ true)

    stopped : Ran → Bool
    stopped (Ok told) = false
    stopped (Err stop) = true

    whole : (o : Outcome) → Comes (Receives past e.event) o → Afterwards (IsSoundWorld c) o → Afterwards HasRoom o → go_on n o (λ v. run_from c (suc n) v (map (λ e. e.event) es)) ≡ Ok (e.marks ∷ map (λ e. e.marks) es) → Rest → Whole o
    whole (NotReady reason) receives sound room follows rest = absurd (true≢false (ap stopped follows))
    whole (Did v ms) receives sound room follows rest = at (first-marks ms e.marks (run_from c (suc n) v (map (λ e. e.event) es)) (map (λ e. e.marks) es) follows)
      where
        after : (ms ≡ e.marks) → Receives past e.event v e.marks
        after same = subst (Receives past e.event v) same receives

        at : (ms ≡ e.marks) × (run_from c (suc n) v (map (λ e. e.event) es) ≡ Ok (map (λ e. e.marks) es)) → Whole (Did v ms)
        at told = (next.along, both-true _ _ (both-true _ true (after told.0).right refl) next.right)
          where
            next : Goes c (after_entry e past) v es
            next = rest v sound room (after told.0).agree told.1

    joined : Whole (step c w e.event) → Goes c past w (e ∷ es)
    joined both = record { along = (agree, both.0); right = both.1 }

pub receives-along : (c : Configuration) (bytes : ByteMap) (es : List EntryValue) → AreLimited c → AllByRecursion (λ e. CanBeMade e.event) es → Follows c bytes es
    → HoldsAlong ReceivesAgree c (opening_past bytes) (opening_world bytes) es
receives-along c bytes es limited made follows = (goes c 0 es (opening_past bytes) (opening_world bytes) limited made (opening-sound c bytes) (opening-room bytes) (opening-receives-agree bytes) follows).along

pub receives-in-order : (c : Configuration) (bytes : ByteMap) (es : List EntryValue) → AreLimited c → AllByRecursion (λ e. CanBeMade e.event) es → Follows c bytes es → AreReceivesInOrder bytes es
receives-in-order c bytes es limited made follows = (goes c 0 es (opening_past bytes) (opening_world bytes) limited made (opening-sound c bytes) (opening-room bytes) (opening-receives-agree bytes) follows).right

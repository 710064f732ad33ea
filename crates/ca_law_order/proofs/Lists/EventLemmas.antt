-- Every event keeps the agreement on lists; so does every history that follows the machine. For proofs only.
use Rattle.std.proofs.Common.{◌≡◌, ℕ, suc, Bool, true, false, List, [], ◌∷◌, map, Ok, Err, refl, ap, subst, rules, true≢false}
use Rattle.std.specs.List.{AllByRecursion}
use Rattle.ca_law_endings.proofs.EventFitLemmas.{first-marks}
use Rattle.ca_law_endings.proofs.LeadsLemmas.{comes}
use Rattle.ca_law_endings.proofs.PathVerbLemmas.{call_of}
use Rattle.ca_law_endings.specs.Agreement.{HoldsAlong}
use Rattle.ca_law_endings.specs.Runs.{Comes, Leads}
use Rattle.ca_law_order.proofs.Lists.VerbLemmas.{ListsBy, lists-post_recv, lists-post_send}
use Rattle.ca_law_order.proofs.Lists.QueueLemmas.{lists-create, lists-create_srq, lists-dealloc_mw, lists-destroy, lists-destroy_srq, lists-inject, lists-modify, lists-poll, lists-post_srq}
use Rattle.ca_law_order.proofs.Lists.PlanLemmas.{lists-deliver, lists-request, lists-respond, lists-timeout, lists-wake}
use Rattle.ca_law_endings.proofs.PathEventLemmas.{event-agrees, opening-agrees}
use Rattle.ca_law_endings.specs.Agreement.{PathsAgree}
use Rattle.ca_law_order.proofs.Lists.TurnLemmas.{Lists}
use Rattle.ca_law_order.specs.Lists.{ListsAgree}
use Rattle.ca_law_parts.proofs.Room.EventRoomLemmas.{event-room}
use Rattle.ca_law_parts.proofs.Room.RoomLemmas.{opening-room}
use Rattle.ca_law_parts.specs.Room.{HasRoom}
use Rattle.ca_base.specs.Configuration.{Configuration}
use Rattle.ca_keys.specs.Memory.{ByteMap}
use Rattle.ca_law_world.proofs.Sound.SoundLemmas.{event-sound, opening-sound}
use Rattle.ca_model.specs.Entries.{EntryValue}
use Rattle.ca_model.specs.Past.{Past, after_entry, after_marks, at_begin, at_end, opening_past}
use Rattle.ca_model.specs.declared.answer.Refusal.TheVariants.{NoSuch}
use Rattle.ca_model.specs.declared.event.Event.{Event}
use Rattle.ca_model.specs.declared.event.Event.TheVariants as events
use Rattle.ca_model.specs.declared.verb.Verb.{Verb}
use Rattle.ca_model.specs.declared.verb.Verb.TheVariants as verbs
use Rattle.ca_model.specs.machine.Frame.{Afterwards}
use Rattle.ca_model.specs.machine.Plan.{Did, NotReady, Outcome}
use Rattle.ca_model.specs.machine.Run.{Follows, Ran, go_on, run_from}
use Rattle.ca_model.specs.machine.Sound.{AreLimited, CanBeMade, IsSoundWorld}
use Rattle.ca_model.specs.machine.Step.{plan, step, verb_plan}
use Rattle.ca_model.specs.machine.VerbAnswers.{Refuse_plan}
use Rattle.ca_model.specs.machine.World.{World, opening_world}

-- ---- events

lists-verb : (c : Configuration) (past : Past) (w : World) (by : ℕ) (verb : Verb) → IsSoundWorld c w → HasRoom w → ListsAgree past w → Leads w (ListsBy past by verb) (verb_plan c (call_of by verb) verb)
lists-verb c past w by (verbs.AllocPd domain) sound room agree = search (rules, agree)
lists-verb c past w by (verbs.DeallocPd domain) sound room agree = search (rules, agree)
lists-verb c past w by (verbs.RegMr slot buffer offset count rights) sound room agree = search (rules, agree)
lists-verb c past w by (verbs.AllocMr slot pages) sound room agree = search (rules, agree)
lists-verb c past w by (verbs.DeregMr slot) sound room agree = search (rules, agree)
lists-verb c past w by (verbs.AllocMw slot kind) sound room agree = search (rules, agree)
lists-verb c past w by (verbs.DeallocMw slot) sound room agree = lists-dealloc_mw c past w by slot sound agree
lists-verb c past w by (verbs.CreateCq slot capacity) sound room agree = search (rules, agree)
lists-verb c past w by (verbs.DestroyCq slot) sound room agree = search (rules, agree)
lists-verb c past w by (verbs.CreateSrq slot depth) sound room agree = lists-create_srq past w by slot depth room agree
lists-verb c past w by (verbs.DestroySrq slot) sound room agree = lists-destroy_srq past w by slot agree
lists-verb c past w by (verbs.CreateQp slot send_cq recv_cq send_depth recv_depth srq) sound room agree = lists-create c past w by (record {
  slot = slot;
  send_cq = send_cq;
  recv_cq = recv_cq;
  send_depth = send_depth;
  recv_depth = recv_depth;
  srq = srq;
}) agree
lists-verb c past w by (verbs.ModifyQp slot change) sound room agree = lists-modify c past w by slot change sound agree
lists-verb c past w by (verbs.QueryQp slot) sound room agree = search (rules, agree)
lists-verb c past w by (verbs.DestroyQp slot) sound room agree = lists-destroy c past w by slot sound agree
lists-verb c past w by (verbs.PostSend slot request) sound room agree = lists-post_send c past w by slot request sound agree
lists-verb c past w by (verbs.PostRecv slot request) sound room agree = lists-post_recv c past w by slot request sound agree
lists-verb c past w by (verbs.PostSrq slot request) sound room agree = lists-post_srq past w by slot request agree
lists-verb c past w by (verbs.Poll slot n least) sound room agree = lists-poll c past w by slot n least sound agree
lists-verb c past w by (verbs.Store adapter buffer offset bytes) sound room agree = search (rules, agree)
lists-verb c past w by (verbs.Load adapter buffer offset count) sound room agree = search (rules, agree)
lists-verb c past w by (verbs.Inject queue bytes) sound room agree = lists-inject c past w by queue bytes sound agree

lists-event : (c : Configuration) (past : Past) (w : World) (event : Event) → IsSoundWorld c w → HasRoom w → PathsAgree past w → ListsAgree past w → Leads w (Lists past event) (plan c event)
lists-event c past w (events.Verb by verb) sound room paths agree = (λ named. lists-verb c past w by verb sound room agree, λ none. refused verb)
  where
    -- a verb that is refused tells of no list
    refused : (verb : Verb) → Leads w (ListsBy past by verb) (Refuse_plan (call_of by verb) NoSuch)
    refused (verbs.AllocPd domain) = agree
    refused (verbs.DeallocPd domain) = agree
    refused (verbs.RegMr slot buffer offset count rights) = agree
    refused (verbs.AllocMr slot pages) = agree
    refused (verbs.DeregMr slot) = agree
    refused (verbs.AllocMw slot kind) = agree
    refused (verbs.DeallocMw slot) = agree
    refused (verbs.CreateCq slot capacity) = agree
    refused (verbs.DestroyCq slot) = agree
    refused (verbs.CreateSrq slot depth) = agree
    refused (verbs.DestroySrq slot) = agree
    refused (verbs.CreateQp slot send_cq recv_cq send_depth recv_depth srq) = agree
    refused (verbs.ModifyQp slot change) = agree
    refused (verbs.QueryQp slot) = agree
    refused (verbs.DestroyQp slot) = agree
    refused (verbs.PostSend slot request) = agree
    refused (verbs.PostRecv slot request) = agree
    refused (verbs.PostSrq slot request) = agree
    refused (verbs.Poll slot n least) = agree
    refused (verbs.Store adapter buffer offset bytes) = agree
    refused (verbs.Load adapter buffer offset count) = agree
    refused (verbs.Inject queue bytes) = agree
lists-event c past w (events.Request queue lot) sound room paths agree = lists-request c past w queue lot sound agree
lists-event c past w (events.Deliver queue index) sound room paths agree = lists-deliver c past w queue index sound paths agree
lists-event c past w (events.Respond queue lot) sound room paths agree = lists-respond c past w queue lot sound agree
lists-event c past w (events.Timeout queue hasten) sound room paths agree = lists-timeout c past w queue hasten sound agree
lists-event c past w (events.RnrWake queue) sound room paths agree = lists-wake c past w queue sound agree

-- the event's marks leave a past that agrees with the world that it leaves
pub event-lists-agree : (c : Configuration) (past : Past) (w : World) (event : Event) → IsSoundWorld c w → HasRoom w → PathsAgree past w → ListsAgree past w
    → Comes (λ v ms. ListsAgree (at_end (after_marks ms (at_begin event past))) v) (step c w event)
event-lists-agree c past w event sound room paths agree = comes w (Lists past event) (plan c event) (lists-event c past w event sound room paths agree)

pub opening-lists-agree : (bytes : ByteMap) → ListsAgree (opening_past bytes) (opening_world bytes)
opening-lists-agree bytes = record { queues = λ q. record {}; later = λ q n less. refl; waiting = λ s. record {} }

-- ---- histories

goes : (c : Configuration) (n : ℕ) (es : List EntryValue) (past : Past) (w : World) → AreLimited c → AllByRecursion (λ e. CanBeMade e.event) es → IsSoundWorld c w → HasRoom w → PathsAgree past w → ListsAgree past w
    → run_from c n w (map (λ e. e.event) es) ≡ Ok (map (λ e. e.marks) es) → HoldsAlong ListsAgree c past w es
goes c n [] past w limited made sound room paths agree follows = agree
goes c n (e ∷ es) past w limited made sound room paths agree follows = (
  agree,
  whole (step c w e.event) (event-lists-agree c past w e.event sound room paths agree) (event-agrees c past w e.event sound paths) (event-sound c e.event w limited sound made.0) (event-room c e.event w sound room made.0) follows
      (λ v sound room paths agree told. goes c (suc n) es (after_entry e past) v limited made.1 sound room paths agree told),
)
  where
    Rest : Type 0
    Rest = (v : World) → IsSoundWorld c v → HasRoom v → PathsAgree (after_entry e past) v → ListsAgree (after_entry e past) v → run_from c (suc n) v (map (λ e. e.event) es) ≡ Ok (map (λ e. e.marks) es) → HoldsAlong ListsAgree c (after_entry e past) v es

    stopped : Ran → Bool
    stopped (Ok told) = false
    stopped (Err stop) = true

    whole : (o : Outcome) → Comes (λ v ms. ListsAgree (at_end (after_marks ms (at_begin e.event past))) v) o → Comes (λ v ms. PathsAgree (after_marks ms (at_begin e.event past)) v) o → Afterwards (IsSoundWorld c) o → Afterwards HasRoom o
        → go_on n o (λ v. run_from c (suc n) v (map (λ e. e.event) es)) ≡ Ok (e.marks ∷ map (λ e. e.marks) es) → Rest → Afterwards (λ v. HoldsAlong ListsAgree c (after_entry e past) v es) o
    whole (NotReady reason) lists paths sound room follows rest = absurd (true≢false (ap stopped follows))
    whole (Did v ms) lists paths sound room follows rest = at (first-marks ms e.marks (run_from c (suc n) v (map (λ e. e.event) es)) (map (λ e. e.marks) es) follows)
      where
        at : (ms ≡ e.marks) × (run_from c (suc n) v (map (λ e. e.event) es) ≡ Ok (map (λ e. e.marks) es)) → HoldsAlong ListsAgree c (after_entry e past) v es
        at told = rest v sound room (subst (λ xs. PathsAgree (after_marks xs (at_begin e.event past)) v) told.0 paths) (subst (λ xs. ListsAgree (at_end (after_marks xs (at_begin e.event past))) v) told.0 lists) told.1

pub lists-along : (c : Configuration) (bytes : ByteMap) (es : List EntryValue) → AreLimited c → AllByRecursion (λ e. CanBeMade e.event) es → Follows c bytes es
    → HoldsAlong ListsAgree c (opening_past bytes) (opening_world bytes) es
lists-along c bytes es limited made follows = goes c 0 es (opening_past bytes) (opening_world bytes) limited made (opening-sound c bytes) (opening-room bytes) (opening-agrees bytes) (opening-lists-agree bytes) follows

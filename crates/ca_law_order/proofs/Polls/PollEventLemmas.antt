-- Every event keeps the agreement on completions that wait, and each of its polls gives the front of them; so does every
-- history that follows the machine. For proofs only.
use Rattle.std.proofs.Common.{◌≡◌, ℕ, suc, Bool, true, false, List, [], ◌∷◌, map, Ok, Err, refl, ap, subst, rules, true≢false}
use Rattle.std.specs.List.{AllByRecursion}
use Rattle.ca_law_endings.proofs.EventFitLemmas.{first-marks}
use Rattle.ca_law_endings.proofs.LeadsLemmas.{comes, leads-weaker}
use Rattle.ca_law_endings.proofs.PathVerbLemmas.{call_of}
use Rattle.ca_law_endings.specs.Agreement.{HoldsAlong}
use Rattle.ca_law_endings.specs.Runs.{Comes, Leads}
use Rattle.ca_law_order.proofs.Polls.PollVerbLemmas.{PollsBy, polls-create, polls-create_cq, polls-dealloc_mw, polls-destroy, polls-destroy_cq, polls-inject, polls-modify, polls-poll, polls-post_recv, polls-post_send}
use Rattle.ca_law_order.proofs.Polls.TurnLemmas.{IsTurn, turns-deliver, turns-request, turns-respond, turns-timeout, turns-wake}
use Rattle.ca_law_order.proofs.Polls.WaitLemmas.{Polls, both-true, turn-polls}
use Rattle.ca_law_order.specs.Polls.{ArePollsInOrder, PollsAgree, is_poll_in_order}
use Rattle.ca_base.specs.Configuration.{Configuration}
use Rattle.ca_keys.specs.Memory.{ByteMap}
use Rattle.ca_law_world.proofs.Sound.SoundLemmas.{event-sound, opening-sound}
use Rattle.ca_model.specs.Entries.{EntryValue}
use Rattle.ca_model.specs.Past.{Past, after_entry, after_marks, at_begin, each_entry, opening_past}
use Rattle.ca_model.specs.declared.answer.Refusal.TheVariants.{NoSuch}
use Rattle.ca_model.specs.declared.event.Event.{Event}
use Rattle.ca_model.specs.declared.event.Event.TheVariants as events
use Rattle.ca_model.specs.declared.verb.Verb.{Verb}
use Rattle.ca_model.specs.declared.verb.Verb.TheVariants as verbs
use Rattle.ca_model.specs.machine.Frame.{Afterwards}
use Rattle.ca_model.specs.machine.Plan.{Did, NotReady, Outcome, Plan}
use Rattle.ca_model.specs.machine.Run.{Follows, Ran, go_on, run_from}
use Rattle.ca_model.specs.machine.Sound.{AreLimited, CanBeMade, HasFewPieces, IsSoundWorld}
use Rattle.ca_model.specs.machine.Step.{plan, step, verb_plan}
use Rattle.ca_model.specs.machine.VerbAnswers.{Refuse_plan}
use Rattle.ca_model.specs.machine.World.{World, opening_world}

-- ---- events

polls-verb : (c : Configuration) (past : Past) (w : World) (by : ℕ) (verb : Verb) → IsSoundWorld c w → HasFewPieces verb → PollsAgree past w → Leads w (PollsBy past by verb) (verb_plan c (call_of by verb) verb)
polls-verb c past w by (verbs.AllocPd domain) sound few agree = search (rules, agree)
polls-verb c past w by (verbs.DeallocPd domain) sound few agree = search (rules, agree)
polls-verb c past w by (verbs.RegMr slot buffer offset count rights) sound few agree = search (rules, agree)
polls-verb c past w by (verbs.AllocMr slot pages) sound few agree = search (rules, agree)
polls-verb c past w by (verbs.DeregMr slot) sound few agree = search (rules, agree)
polls-verb c past w by (verbs.AllocMw slot kind) sound few agree = search (rules, agree)
polls-verb c past w by (verbs.DeallocMw slot) sound few agree = polls-dealloc_mw c past w by slot sound agree
polls-verb c past w by (verbs.CreateCq slot capacity) sound few agree = polls-create_cq past w by slot capacity agree
polls-verb c past w by (verbs.DestroyCq slot) sound few agree = polls-destroy_cq past w by slot agree
polls-verb c past w by (verbs.CreateSrq slot depth) sound few agree = search (rules, agree)
polls-verb c past w by (verbs.DestroySrq slot) sound few agree = search (rules, agree)
polls-verb c past w by (verbs.CreateQp slot send_cq recv_cq send_depth recv_depth srq) sound few agree = polls-create c past w by (record {
  slot = slot;
  send_cq = send_cq;
  recv_cq = recv_cq;
  send_depth = send_depth;
  recv_depth = recv_depth;
  srq = srq;
}) agree
polls-verb c past w by (verbs.ModifyQp slot change) sound few agree = polls-modify c past w by slot change sound agree
polls-verb c past w by (verbs.QueryQp slot) sound few agree = search (rules, agree)
polls-verb c past w by (verbs.DestroyQp slot) sound few agree = polls-destroy c past w by slot sound agree
polls-verb c past w by (verbs.PostSend slot request) sound few agree = polls-post_send c past w by slot request sound few agree
polls-verb c past w by (verbs.PostRecv slot request) sound few agree = polls-post_recv c past w by slot request sound few agree
polls-verb c past w by (verbs.PostSrq slot request) sound few agree = search (rules, agree)
polls-verb c past w by (verbs.Poll slot n least) sound few agree = polls-poll c past w by slot n least sound agree
polls-verb c past w by (verbs.Store adapter buffer offset bytes) sound few agree = search (rules, agree)
polls-verb c past w by (verbs.Load adapter buffer offset count) sound few agree = search (rules, agree)
polls-verb c past w by (verbs.Inject queue bytes) sound few agree = polls-inject c past w by queue bytes sound agree

-- a turn, or a packet that arrives
polls-turn : (past : Past) (event : Event) (w : World) (p : Plan) → PollsAgree past w → Leads w (IsTurn w []) p → Leads w (Polls past event) p
polls-turn past event w p agree turns = leads-weaker w (IsTurn w []) (Polls past event) p (λ v ms turn. turn-polls past event w v [] ms agree refl refl refl turn) turns

polls-event : (c : Configuration) (past : Past) (w : World) (event : Event) → IsSoundWorld c w → CanBeMade event → PollsAgree past w → Leads w (Polls past event) (plan c event)
polls-event c past w (events.Verb by verb) sound made agree = (λ named. polls-verb c past w by verb sound made agree, λ none. refused verb)
  where
    -- a verb that is refused tells of no completion
    refused : (verb : Verb) → Leads w (PollsBy past by verb) (Refuse_plan (call_of by verb) NoSuch)
    refused (verbs.AllocPd domain) = record { agree = agree; right = refl }
    refused (verbs.DeallocPd domain) = record { agree = agree; right = refl }
    refused (verbs.RegMr slot buffer offset count rights) = record { agree = agree; right = refl }
    refused (verbs.AllocMr slot pages) = record { agree = agree; right = refl }
    refused (verbs.DeregMr slot) = record { agree = agree; right = refl }
    refused (verbs.AllocMw slot kind) = record { agree = agree; right = refl }
    refused (verbs.DeallocMw slot) = record { agree = agree; right = refl }
    refused (verbs.CreateCq slot capacity) = record { agree = agree; right = refl }
    refused (verbs.DestroyCq slot) = record { agree = agree; right = refl }
    refused (verbs.CreateSrq slot depth) = record { agree = agree; right = refl }
    refused (verbs.DestroySrq slot) = record { agree = agree; right = refl }
    refused (verbs.CreateQp slot send_cq recv_cq send_depth recv_depth srq) = record { agree = agree; right = refl }
    refused (verbs.ModifyQp slot change) = record { agree = agree; right = refl }
    refused (verbs.QueryQp slot) = record { agree = agree; right = refl }
    refused (verbs.DestroyQp slot) = record { agree = agree; right = refl }
    refused (verbs.PostSend slot request) = record { agree = agree; right = refl }
    refused (verbs.PostRecv slot request) = record { agree = agree; right = refl }
    refused (verbs.PostSrq slot request) = record { agree = agree; right = refl }
    refused (verbs.Poll slot n least) = record { agree = agree; right = refl }
    refused (verbs.Store adapter buffer offset bytes) = record { agree = agree; right = refl }
    refused (verbs.Load adapter buffer offset count) = record { agree = agree; right = refl }
    refused (verbs.Inject queue bytes) = record { agree = agree; right = refl }
polls-event c past w (events.Request queue lot) sound made agree = polls-turn past (events.Request queue lot) w (plan c (events.Request queue lot)) agree (turns-request c w queue lot sound)
polls-event c past w (events.Deliver queue index) sound made agree = polls-turn past (events.Deliver queue index) w (plan c (events.Deliver queue index)) agree (turns-deliver c w queue index sound)
polls-event c past w (events.Respond queue lot) sound made agree = polls-turn past (events.Respond queue lot) w (plan c (events.Respond queue lot)) agree (turns-respond c w queue lot sound)
polls-event c past w (events.Timeout queue hasten) sound made agree = polls-turn past (events.Timeout queue hasten) w (plan c (events.Timeout queue hasten)) agree (turns-timeout c w queue hasten sound)
polls-event c past w (events.RnrWake queue) sound made agree = polls-turn past (events.RnrWake queue) w (plan c (events.RnrWake queue)) agree (turns-wake c w queue sound)

polls-comes : (c : Configuration) (past : Past) (w : World) (event : Event) → IsSoundWorld c w → CanBeMade event → PollsAgree past w → Comes (Polls past event) (step c w event)
polls-comes c past w event sound made agree = comes w (Polls past event) (plan c event) (polls-event c past w event sound made agree)

-- the event's marks leave a past that agrees with the world that it leaves
pub event-polls-agree : (c : Configuration) (past : Past) (w : World) (event : Event) → IsSoundWorld c w → CanBeMade event → PollsAgree past w
    → Comes (λ v ms. PollsAgree (after_marks ms (at_begin event past)) v) (step c w event)
event-polls-agree c past w event sound made agree = by (step c w event) (polls-comes c past w event sound made agree)
  where
    by : (o : Outcome) → Comes (Polls past event) o → Comes (λ v ms. PollsAgree (after_marks ms (at_begin event past)) v) o
    by (NotReady reason) polls = record {}
    by (Did v ms) polls = polls.agree

pub opening-polls-agree : (bytes : ByteMap) → PollsAgree (opening_past bytes) (opening_world bytes)
opening-polls-agree bytes = record { sides = λ q. record {}; flushed = λ q. record {}; waits = λ s. record {} }

-- ---- histories

-- what holds along a history, and of its polls
record Goes (c : Configuration) (past : Past) (w : World) (es : List EntryValue) : Type 0 where
  along : HoldsAlong PollsAgree c past w es
  right : each_entry is_poll_in_order (λ p. true) past es ≡ true

goes : (c : Configuration) (n : ℕ) (es : List EntryValue) (past : Past) (w : World) → AreLimited c → AllByRecursion (λ e. CanBeMade e.event) es → IsSoundWorld c w → PollsAgree past w
    → run_from c n w (map (λ e. e.event) es) ≡ Ok (map (λ e. e.marks) es) → Goes c past w es
goes c n [] past w limited made sound agree follows = record { along = agree; right = refl }
goes c n (e ∷ es) past w limited made sound agree follows =
    joined (whole (step c w e.event) (polls-comes c past w e.event sound made.0 agree) (event-sound c e.event w limited sound made.0) follows
    (λ v sound agree told. goes c (suc n) es (after_entry e past) v limited made.1 sound agree told))
  where
    Rest : Type 0
    Rest = (v : World) → IsSoundWorld c v → PollsAgree (after_entry e past) v → run_from c (suc n) v (map (λ e. e.event) es) ≡ Ok (map (λ e. e.marks) es) → Goes c (after_entry e past) v es

    Whole : Outcome → Type 0
    Whole o = Afterwards (λ v. HoldsAlong PollsAgree c (after_entry e past) v es) o × (each_entry is_poll_in_order (λ p. true) past (e ∷ es) ≡ true)

    stopped : Ran → Bool
    stopped (Ok told) = false
    stopped (Err stop) = true

    whole : (o : Outcome) → Comes (Polls past e.event) o → Afterwards (IsSoundWorld c) o → go_on n o (λ v. run_from c (suc n) v (map (λ e. e.event) es)) ≡ Ok (e.marks ∷ map (λ e. e.marks) es) → Rest → Whole o
    whole (NotReady reason) polls sound follows rest = absurd (true≢false (ap stopped follows))
    whole (Did v ms) polls sound follows rest = at (first-marks ms e.marks (run_from c (suc n) v (map (λ e. e.event) es)) (map (λ e. e.marks) es) follows)
      where
        after : (ms ≡ e.marks) → Polls past e.event v e.marks
        after same = subst (Polls past e.event v) same polls

        at : (ms ≡ e.marks) × (run_from c (suc n) v (map (λ e. e.event) es) ≡ Ok (map (λ e. e.marks) es)) → Whole (Did v ms)
        at told = (next.along, both-true _ _ (both-true _ true (after told.0).right refl) next.right)
          where
            next : Goes c (after_entry e past) v es
            next = rest v sound (after told.0).agree told.1

    joined : Whole (step c w e.event) → Goes c past w (e ∷ es)
    joined both = record { along = (agree, both.0); right = both.1 }

pub polls-along : (c : Configuration) (bytes : ByteMap) (es : List EntryValue) → AreLimited c → AllByRecursion (λ e. CanBeMade e.event) es → Follows c bytes es
    → HoldsAlong PollsAgree c (opening_past bytes) (opening_world bytes) es
polls-along c bytes es limited made follows = (goes c 0 es (opening_past bytes) (opening_world bytes) limited made (opening-sound c bytes) (opening-polls-agree bytes) follows).along

pub polls-in-order : (c : Configuration) (bytes : ByteMap) (es : List EntryValue) → AreLimited c → AllByRecursion (λ e. CanBeMade e.event) es → Follows c bytes es → ArePollsInOrder bytes es
polls-in-order c bytes es limited made follows = (goes c 0 es (opening_past bytes) (opening_world bytes) limited made (opening-sound c bytes) (opening-polls-agree bytes) follows).right

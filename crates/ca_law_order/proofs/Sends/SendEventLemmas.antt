-- Every event completes sends in order and keeps the agreement on those that completed, and so does every history that
-- follows the machine. For proofs only.
use Rattle.std.proofs.Common.{◌≡◌, ℕ, suc, Bool, true, false, List, [], ◌∷◌, map, Ok, Err, refl, sym, ap, subst, rules, true≢false}
use Rattle.std.specs.List.{AllByRecursion}
use Rattle.ca_law_endings.proofs.EventFitLemmas.{first-marks}
use Rattle.ca_law_endings.proofs.LeadsLemmas.{comes, leads-weaker}
use Rattle.ca_law_endings.proofs.PathVerbLemmas.{call_of}
use Rattle.ca_law_endings.specs.Agreement.{HoldsAlong}
use Rattle.ca_law_endings.specs.Runs.{Comes, Leads}
use Rattle.ca_law_keys.proofs.Posts.GrantLemmas.{both-true}
use Rattle.ca_law_keys.proofs.Posts.PostLaws.{event-posts-agree, opening-posts-agree}
use Rattle.ca_law_keys.specs.Posts.{PostsAgree}
use Rattle.ca_law_order.proofs.Sends.PostingLemmas.{order-dealloc_mw, order-dereg_mr, order-inject, order-poll, order-post_recv, order-post_send}
use Rattle.ca_law_order.proofs.Sends.TurnLemmas.{IsMet, Ordering, order-deliver, order-request, order-respond, order-timeout, order-wake}
use Rattle.ca_law_order.proofs.Sends.VerbLemmas.{OrderingBy, order-create, order-destroy, order-modify}
use Rattle.ca_law_order.specs.Completed.{CompletedAgree}
use Rattle.ca_law_order.specs.InOrder.{DoCompleteInOrder, completes_in_order}
use Rattle.ca_base.specs.Configuration.{Configuration}
use Rattle.ca_keys.specs.Memory.{ByteMap}
use Rattle.ca_law_world.proofs.Sound.SoundLemmas.{event-sound, opening-sound}
use Rattle.ca_law_world.proofs.Steady.EventLemmas.{event-steady, opening-steady}
use Rattle.ca_law_world.specs.Steady.{IsSteadyWorld}
use Rattle.ca_model.specs.Entries.{EntryValue}
use Rattle.ca_model.specs.Past.{Past, after_entry, after_marks, at_begin, at_end, each_entry, each_mark, opening_past}
use Rattle.ca_model.specs.declared.answer.Refusal.TheVariants.{NoSuch}
use Rattle.ca_model.specs.declared.event.Event.{Event}
use Rattle.ca_model.specs.declared.event.Event.TheVariants as events
use Rattle.ca_model.specs.declared.mark.Mark.{Mark}
use Rattle.ca_model.specs.declared.verb.Verb.{Verb}
use Rattle.ca_model.specs.declared.verb.Verb.TheVariants as verbs
use Rattle.ca_model.specs.machine.Frame.{Afterwards}
use Rattle.ca_model.specs.machine.Plan.{Did, NotReady, Outcome}
use Rattle.ca_model.specs.machine.Run.{Follows, Ran, go_on, run_from}
use Rattle.ca_model.specs.machine.Sound.{AreLimited, CanBeMade, IsSoundWorld}
use Rattle.ca_model.specs.machine.Step.{plan, step, verb_plan}
use Rattle.ca_model.specs.machine.VerbAnswers.{Refuse_plan}
use Rattle.ca_model.specs.machine.World.{World, opening_world}

order-verb : (c : Configuration) (past : Past) (w : World) (by : ℕ) (verb : Verb) → IsMet c past w → Leads w (OrderingBy past by verb) (verb_plan c (call_of by verb) verb)
order-verb c past w by (verbs.AllocPd domain) met = search (rules, met.agree)
order-verb c past w by (verbs.DeallocPd domain) met = search (rules, met.agree)
order-verb c past w by (verbs.RegMr slot buffer offset count rights) met = search (rules, met.agree)
order-verb c past w by (verbs.AllocMr slot pages) met = search (rules, met.agree)
order-verb c past w by (verbs.DeregMr slot) met = order-dereg_mr past w by slot met.agree
order-verb c past w by (verbs.AllocMw slot kind) met = search (rules, met.agree)
order-verb c past w by (verbs.DeallocMw slot) met = order-dealloc_mw past w by slot met.agree
order-verb c past w by (verbs.CreateCq slot capacity) met = search (rules, met.agree)
order-verb c past w by (verbs.DestroyCq slot) met = search (rules, met.agree)
order-verb c past w by (verbs.CreateSrq slot depth) met = search (rules, met.agree)
order-verb c past w by (verbs.DestroySrq slot) met = search (rules, met.agree)
order-verb c past w by (verbs.CreateQp slot send_cq recv_cq send_depth recv_depth srq) met = order-create c past w by (record {
  slot = slot;
  send_cq = send_cq;
  recv_cq = recv_cq;
  send_depth = send_depth;
  recv_depth = recv_depth;
  srq = srq;
}) met.agree
order-verb c past w by (verbs.ModifyQp slot change) met = order-modify c past w by slot change met
order-verb c past w by (verbs.QueryQp slot) met = search (rules, met.agree)
order-verb c past w by (verbs.DestroyQp slot) met = order-destroy c past w by slot met
order-verb c past w by (verbs.PostSend slot request) met = order-post_send c past w by slot request met
order-verb c past w by (verbs.PostRecv slot request) met = order-post_recv c past w by slot request met
order-verb c past w by (verbs.PostSrq slot request) met = search (rules, met.agree)
order-verb c past w by (verbs.Poll slot n least) met = order-poll past w by slot n least met.agree
order-verb c past w by (verbs.Store adapter buffer offset bytes) met = search (rules, met.agree)
order-verb c past w by (verbs.Load adapter buffer offset count) met = search (rules, met.agree)
order-verb c past w by (verbs.Inject queue bytes) met = order-inject c past w by queue bytes met

order-event : (c : Configuration) (past : Past) (w : World) (event : Event) → IsMet c past w → Leads w (Ordering past event) (plan c event)
order-event c past w (events.Verb by verb) met = (λ named. order-verb c past w by verb met, λ none. refused verb)
  where
    -- a verb that is refused tells of no send
    refused : (verb : Verb) → Leads w (OrderingBy past by verb) (Refuse_plan (call_of by verb) NoSuch)
    refused (verbs.AllocPd domain) = (refl, met.agree)
    refused (verbs.DeallocPd domain) = (refl, met.agree)
    refused (verbs.RegMr slot buffer offset count rights) = (refl, met.agree)
    refused (verbs.AllocMr slot pages) = (refl, met.agree)
    refused (verbs.DeregMr slot) = (refl, met.agree)
    refused (verbs.AllocMw slot kind) = (refl, met.agree)
    refused (verbs.DeallocMw slot) = (refl, met.agree)
    refused (verbs.CreateCq slot capacity) = (refl, met.agree)
    refused (verbs.DestroyCq slot) = (refl, met.agree)
    refused (verbs.CreateSrq slot depth) = (refl, met.agree)
    refused (verbs.DestroySrq slot) = (refl, met.agree)
    refused (verbs.CreateQp slot send_cq recv_cq send_depth recv_depth srq) = (refl, met.agree)
    refused (verbs.ModifyQp slot change) = (refl, met.agree)
    refused (verbs.QueryQp slot) = (refl, met.agree)
    refused (verbs.DestroyQp slot) = (refl, met.agree)
    refused (verbs.PostSend slot request) = (refl, met.agree)
    refused (verbs.PostRecv slot request) = (refl, met.agree)
    refused (verbs.PostSrq slot request) = (refl, met.agree)
    refused (verbs.Poll slot n least) = (refl, met.agree)
    refused (verbs.Store adapter buffer offset bytes) = (refl, met.agree)
    refused (verbs.Load adapter buffer offset count) = (refl, met.agree)
    refused (verbs.Inject queue bytes) = (refl, met.agree)
order-event c past w (events.Request queue lot) met = order-request c past w queue lot met
order-event c past w (events.Deliver queue index) met = order-deliver c past w queue index met
order-event c past w (events.Respond queue lot) met = order-respond c past w queue lot met
order-event c past w (events.Timeout queue hasten) met = order-timeout c past w queue hasten met
order-event c past w (events.RnrWake queue) met = order-wake c past w queue met

event-orders : (c : Configuration) (past : Past) (w : World) (event : Event) → IsMet c past w → Comes (Ordering past event) (step c w event)
event-orders c past w event met = comes w (Ordering past event) (plan c event) (order-event c past w event met)

-- the event's marks leave a past that agrees with the world that it leaves
pub event-completed-agree : (c : Configuration) (past : Past) (w : World) (event : Event) → IsSoundWorld c w → IsSteadyWorld w → PostsAgree past w → CompletedAgree past w
    → Comes (λ v ms. CompletedAgree (at_end (after_marks ms (at_begin event past))) v) (step c w event)
event-completed-agree c past w event sound steady posts agree = comes w P (plan c event)
    (leads-weaker w (Ordering past event) P (plan c event) (λ v ms passes. passes.1) (order-event c past w event (record { posted = record { sound = sound; steady = steady; agree = posts }; agree = agree })))
  where
    P : World → List Mark → Type 0
    P v ms = CompletedAgree (at_end (after_marks ms (at_begin event past))) v

pub opening-completed-agree : (bytes : ByteMap) → CompletedAgree (opening_past bytes) (opening_world bytes)
opening-completed-agree bytes = record { sends = λ q. record {}; later = λ q n more. refl }

opening-met : (c : Configuration) (bytes : ByteMap) → IsMet c (opening_past bytes) (opening_world bytes)
opening-met c bytes = record {
  posted = record { sound = opening-sound c bytes; steady = opening-steady bytes; agree = opening-posts-agree bytes };
  agree = opening-completed-agree bytes;
}

-- what holds along a history from a past and a world on
record HoldAlong (c : Configuration) (past : Past) (w : World) (es : List EntryValue) : Type 0 where
  agree : HoldsAlong CompletedAgree c past w es
  passed : each_entry completes_in_order (λ p. true) past es ≡ true

along : (c : Configuration) (n : ℕ) (es : List EntryValue) (past : Past) (w : World) → AreLimited c → AllByRecursion (λ e. CanBeMade e.event) es → IsMet c past w
    → run_from c n w (map (λ e. e.event) es) ≡ Ok (map (λ e. e.marks) es) → HoldAlong c past w es
along c n [] past w limited made met follows = record { agree = met.agree; passed = refl }
along c n (e ∷ es) past w limited made met follows =
    by (step c w e.event) refl (event-orders c past w e.event met) (event-posts-agree c past w e.event limited met.posted.sound met.posted.steady met.posted.agree)
    (event-sound c e.event w limited met.posted.sound made.0) (event-steady c e.event w met.posted.sound met.posted.steady) follows
    (λ v next told. along c (suc n) es (after_entry e past) v limited made.1 next told)
  where
    Rest : Type 0
    Rest = (v : World) → IsMet c (after_entry e past) v → run_from c (suc n) v (map (λ e. e.event) es) ≡ Ok (map (λ e. e.marks) es) → HoldAlong c (after_entry e past) v es

    stopped : Ran → Bool
    stopped (Ok told) = false
    stopped (Err stop) = true

    by : (o : Outcome) → step c w e.event ≡ o → Comes (Ordering past e.event) o → Comes (λ v ms. PostsAgree (at_end (after_marks ms (at_begin e.event past))) v) o
        → Afterwards (IsSoundWorld c) o → Afterwards IsSteadyWorld o → go_on n o (λ v. run_from c (suc n) v (map (λ e. e.event) es)) ≡ Ok (e.marks ∷ map (λ e. e.marks) es) → Rest
        → HoldAlong c past w (e ∷ es)
    by (NotReady reason) is orders posts sound steady follows rest = absurd (true≢false (ap stopped follows))
    by (Did v ms) is orders posts sound steady follows rest = at (first-marks ms e.marks (run_from c (suc n) v (map (λ e. e.event) es)) (map (λ e. e.marks) es) follows)
      where
        at : (ms ≡ e.marks) × (run_from c (suc n) v (map (λ e. e.event) es) ≡ Ok (map (λ e. e.marks) es)) → HoldAlong c past w (e ∷ es)
        at told = joined (rest v (record {
          posted = record { sound = sound; steady = steady; agree = subst (λ xs. PostsAgree (at_end (after_marks xs (at_begin e.event past))) v) told.0 posts };
          agree = subst (λ xs. CompletedAgree (at_end (after_marks xs (at_begin e.event past))) v) told.0 orders.1;
        }) told.1)
          where
            joined : HoldAlong c (after_entry e past) v es → HoldAlong c past w (e ∷ es)
            joined more = record {
              agree = (met.agree, subst (Afterwards (λ x. HoldsAlong CompletedAgree c (after_entry e past) x es)) (sym is) more.agree);
              passed = both-true _ _ (both-true _ true (subst (λ xs. each_mark completes_in_order (at_begin e.event past) xs ≡ true) told.0 orders.0) refl) more.passed;
            }

pub completed-along : (c : Configuration) (bytes : ByteMap) (es : List EntryValue) → AreLimited c → AllByRecursion (λ e. CanBeMade e.event) es → Follows c bytes es
    → HoldsAlong CompletedAgree c (opening_past bytes) (opening_world bytes) es
completed-along c bytes es limited made follows = (along c 0 es (opening_past bytes) (opening_world bytes) limited made (opening-met c bytes) follows).agree

pub sends-in-order : (c : Configuration) (bytes : ByteMap) (es : List EntryValue) → AreLimited c → AllByRecursion (λ e. CanBeMade e.event) es → Follows c bytes es → DoCompleteInOrder bytes es
sends-in-order c bytes es limited made follows = (along c 0 es (opening_past bytes) (opening_world bytes) limited made (opening-met c bytes) follows).passed

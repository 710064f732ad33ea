-- What completes in an event has its cause, and queue pairs in Error have their faults behind it; so it is in every history
-- that follows the machine. For proofs only.
use Rattle.std.proofs.Common.{◌≡◌, ℕ, suc, Bool, true, false, List, [], ◌∷◌, map, Ok, Err, refl, sym, ap, subst, rules, true≢false}
use Rattle.std.specs.List.{AllByRecursion}
use Rattle.ca_law_endings.proofs.EventFitLemmas.{first-marks}
use Rattle.ca_law_endings.proofs.LeadsLemmas.{comes, leads-weaker}
use Rattle.ca_law_endings.proofs.PathVerbLemmas.{call_of}
use Rattle.ca_law_endings.specs.Agreement.{HoldsAlong}
use Rattle.ca_law_endings.specs.Runs.{Comes, Leads}
use Rattle.ca_law_keys.proofs.Posts.GrantLemmas.{both-true}
use Rattle.ca_law_keys.proofs.Posts.PostLaws.{event-posts-agree, opening-posts-agree}
use Rattle.ca_law_keys.specs.Posts.{PostsAgree}
use Rattle.ca_law_caused.proofs.Caused.PostingLemmas.{cause-dealloc_mw, cause-dereg_mr, cause-inject, cause-poll, cause-post_recv, cause-post_send}
use Rattle.ca_law_caused.proofs.Caused.TurnLemmas.{IsMet, Causing, cause-deliver, cause-request, cause-respond, cause-timeout, cause-wake}
use Rattle.ca_law_caused.proofs.Caused.VerbLemmas.{CausingBy, cause-create, cause-destroy, cause-modify}
use Rattle.ca_law_caused.specs.Explained.{CausesAgree}
use Rattle.ca_law_endings.proofs.PathEventLemmas.{event-agrees, opening-agrees}
use Rattle.ca_law_endings.specs.Agreement.{PathsAgree}
use Rattle.ca_law_caused.specs.Causes.{DoCompleteWithCauses, completes_with_cause}
use Rattle.ca_base.specs.Configuration.{Configuration}
use Rattle.ca_keys.specs.Memory.{ByteMap}
use Rattle.ca_law_world.proofs.Sound.SoundLemmas.{event-sound, opening-sound}
use Rattle.ca_law_world.proofs.Steady.EventLemmas.{event-steady, opening-steady}
use Rattle.ca_law_world.specs.Steady.{IsSteadyWorld}
use Rattle.ca_model.specs.Entries.{EntryValue}
use Rattle.ca_model.specs.Past.{Past, after_entry, after_marks, at_begin, at_end, each_entry, each_mark, opening_past}
use Rattle.ca_model.specs.declared.answer.Refusal.TheVariants.{NoSuch}
use Rattle.ca_model.specs.declared.event.Event.{Event}
use Rattle.ca_model.specs.declared.event.Event.TheVariants as events
use Rattle.ca_model.specs.declared.mark.Mark.{Mark}
use Rattle.ca_model.specs.declared.verb.Verb.{Verb}
use Rattle.ca_model.specs.declared.verb.Verb.TheVariants as verbs
use Rattle.ca_model.specs.machine.Frame.{Afterwards}
use Rattle.ca_model.specs.machine.Plan.{Did, NotReady, Outcome}
use Rattle.ca_model.specs.machine.Run.{Follows, Ran, go_on, run_from}
use Rattle.ca_model.specs.machine.Sound.{AreLimited, CanBeMade, IsSoundWorld}
use Rattle.ca_model.specs.machine.Step.{plan, step, verb_plan}
use Rattle.ca_model.specs.machine.VerbAnswers.{Refuse_plan}
use Rattle.ca_model.specs.machine.World.{World, opening_world}

cause-verb : (c : Configuration) (past : Past) (w : World) (by : ℕ) (verb : Verb) → IsMet c past w → Leads w (CausingBy past by verb) (verb_plan c (call_of by verb) verb)
cause-verb c past w by (verbs.AllocPd domain) met = search (rules, met.agree)
cause-verb c past w by (verbs.DeallocPd domain) met = search (rules, met.agree)
cause-verb c past w by (verbs.RegMr slot buffer offset count rights) met = search (rules, met.agree)
cause-verb c past w by (verbs.AllocMr slot pages) met = search (rules, met.agree)
cause-verb c past w by (verbs.DeregMr slot) met = cause-dereg_mr past w by slot met.agree
cause-verb c past w by (verbs.AllocMw slot kind) met = search (rules, met.agree)
cause-verb c past w by (verbs.DeallocMw slot) met = cause-dealloc_mw past w by slot met.agree
cause-verb c past w by (verbs.CreateCq slot capacity) met = search (rules, met.agree)
cause-verb c past w by (verbs.DestroyCq slot) met = search (rules, met.agree)
cause-verb c past w by (verbs.CreateSrq slot depth) met = search (rules, met.agree)
cause-verb c past w by (verbs.DestroySrq slot) met = search (rules, met.agree)
cause-verb c past w by (verbs.CreateQp slot send_cq recv_cq send_depth recv_depth srq) met = cause-create c past w by (record {
  slot = slot;
  send_cq = send_cq;
  recv_cq = recv_cq;
  send_depth = send_depth;
  recv_depth = recv_depth;
  srq = srq;
}) met.agree
cause-verb c past w by (verbs.ModifyQp slot change) met = cause-modify c past w by slot change met
cause-verb c past w by (verbs.QueryQp slot) met = search (rules, met.agree)
cause-verb c past w by (verbs.DestroyQp slot) met = cause-destroy c past w by slot met
cause-verb c past w by (verbs.PostSend slot request) met = cause-post_send c past w by slot request met
cause-verb c past w by (verbs.PostRecv slot request) met = cause-post_recv c past w by slot request met
cause-verb c past w by (verbs.PostSrq slot request) met = search (rules, met.agree)
cause-verb c past w by (verbs.Poll slot n least) met = cause-poll past w by slot n least met.agree
cause-verb c past w by (verbs.Store adapter buffer offset bytes) met = search (rules, met.agree)
cause-verb c past w by (verbs.Load adapter buffer offset count) met = search (rules, met.agree)
cause-verb c past w by (verbs.Inject queue bytes) met = cause-inject c past w by queue bytes met

cause-event : (c : Configuration) (past : Past) (w : World) (event : Event) → IsMet c past w → Leads w (Causing past event) (plan c event)
cause-event c past w (events.Verb by verb) met = (λ named. cause-verb c past w by verb met, λ none. refused verb)
  where
    -- a verb that is refused completes nothing
    refused : (verb : Verb) → Leads w (CausingBy past by verb) (Refuse_plan (call_of by verb) NoSuch)
    refused (verbs.AllocPd domain) = (refl, met.agree)
    refused (verbs.DeallocPd domain) = (refl, met.agree)
    refused (verbs.RegMr slot buffer offset count rights) = (refl, met.agree)
    refused (verbs.AllocMr slot pages) = (refl, met.agree)
    refused (verbs.DeregMr slot) = (refl, met.agree)
    refused (verbs.AllocMw slot kind) = (refl, met.agree)
    refused (verbs.DeallocMw slot) = (refl, met.agree)
    refused (verbs.CreateCq slot capacity) = (refl, met.agree)
    refused (verbs.DestroyCq slot) = (refl, met.agree)
    refused (verbs.CreateSrq slot depth) = (refl, met.agree)
    refused (verbs.DestroySrq slot) = (refl, met.agree)
    refused (verbs.CreateQp slot send_cq recv_cq send_depth recv_depth srq) = (refl, met.agree)
    refused (verbs.ModifyQp slot change) = (refl, met.agree)
    refused (verbs.QueryQp slot) = (refl, met.agree)
    refused (verbs.DestroyQp slot) = (refl, met.agree)
    refused (verbs.PostSend slot request) = (refl, met.agree)
    refused (verbs.PostRecv slot request) = (refl, met.agree)
    refused (verbs.PostSrq slot request) = (refl, met.agree)
    refused (verbs.Poll slot n least) = (refl, met.agree)
    refused (verbs.Store adapter buffer offset bytes) = (refl, met.agree)
    refused (verbs.Load adapter buffer offset count) = (refl, met.agree)
    refused (verbs.Inject queue bytes) = (refl, met.agree)
cause-event c past w (events.Request queue lot) met = cause-request c past w queue lot met
cause-event c past w (events.Deliver queue index) met = cause-deliver c past w queue index met
cause-event c past w (events.Respond queue lot) met = cause-respond c past w queue lot met
cause-event c past w (events.Timeout queue hasten) met = cause-timeout c past w queue hasten met
cause-event c past w (events.RnrWake queue) met = cause-wake c past w queue met

event-causes : (c : Configuration) (past : Past) (w : World) (event : Event) → IsMet c past w → Comes (Causing past event) (step c w event)
event-causes c past w event met = comes w (Causing past event) (plan c event) (cause-event c past w event met)

-- the event's marks leave a past that agrees with the world that it leaves
pub event-causes-agree : (c : Configuration) (past : Past) (w : World) (event : Event) → IsSoundWorld c w → IsSteadyWorld w → PostsAgree past w → PathsAgree past w → CausesAgree past w
    → Comes (λ v ms. CausesAgree (at_end (after_marks ms (at_begin event past))) v) (step c w event)
event-causes-agree c past w event sound steady posts paths agree = comes w P (plan c event)
    (leads-weaker w (Causing past event) P (plan c event) (λ v ms passes. passes.1) (cause-event c past w event (record { posted = record { sound = sound; steady = steady; agree = posts }; paths = paths; agree = agree })))
  where
    P : World → List Mark → Type 0
    P v ms = CausesAgree (at_end (after_marks ms (at_begin event past))) v

pub opening-causes-agree : (bytes : ByteMap) → CausesAgree (opening_past bytes) (opening_world bytes)
opening-causes-agree bytes = record { slots = λ q. record {} }

opening-met : (c : Configuration) (bytes : ByteMap) → IsMet c (opening_past bytes) (opening_world bytes)
opening-met c bytes = record {
  posted = record { sound = opening-sound c bytes; steady = opening-steady bytes; agree = opening-posts-agree bytes };
  paths = opening-agrees bytes;
  agree = opening-causes-agree bytes;
}

-- what holds along a history from a past and a world on
record HoldAlong (c : Configuration) (past : Past) (w : World) (es : List EntryValue) : Type 0 where
  agree : HoldsAlong CausesAgree c past w es
  passed : each_entry completes_with_cause (λ p. true) past es ≡ true

along : (c : Configuration) (n : ℕ) (es : List EntryValue) (past : Past) (w : World) → AreLimited c → AllByRecursion (λ e. CanBeMade e.event) es → IsMet c past w
    → run_from c n w (map (λ e. e.event) es) ≡ Ok (map (λ e. e.marks) es) → HoldAlong c past w es
along c n [] past w limited made met follows = record { agree = met.agree; passed = refl }
along c n (e ∷ es) past w limited made met follows =
    by (step c w e.event) refl (event-causes c past w e.event met) (event-posts-agree c past w e.event limited met.posted.sound met.posted.steady met.posted.agree)
    (event-agrees c past w e.event met.posted.sound met.paths)
    (event-sound c e.event w limited met.posted.sound made.0) (event-steady c e.event w met.posted.sound met.posted.steady) follows
    (λ v next told. along c (suc n) es (after_entry e past) v limited made.1 next told)
  where
    Rest : Type 0
    Rest = (v : World) → IsMet c (after_entry e past) v → run_from c (suc n) v (map (λ e. e.event) es) ≡ Ok (map (λ e. e.marks) es) → HoldAlong c (after_entry e past) v es

    stopped : Ran → Bool
    stopped (Ok told) = false
    stopped (Err stop) = true

    by : (o : Outcome) → step c w e.event ≡ o → Comes (Causing past e.event) o → Comes (λ v ms. PostsAgree (at_end (after_marks ms (at_begin e.event past))) v) o
        → Comes (λ v ms. PathsAgree (after_marks ms (at_begin e.event past)) v) o
        → Afterwards (IsSoundWorld c) o → Afterwards IsSteadyWorld o → go_on n o (λ v. run_from c (suc n) v (map (λ e. e.event) es)) ≡ Ok (e.marks ∷ map (λ e. e.marks) es) → Rest
        → HoldAlong c past w (e ∷ es)
    by (NotReady reason) is causes posts paths sound steady follows rest = absurd (true≢false (ap stopped follows))
    by (Did v ms) is causes posts paths sound steady follows rest = at (first-marks ms e.marks (run_from c (suc n) v (map (λ e. e.event) es)) (map (λ e. e.marks) es) follows)
      where
        at : (ms ≡ e.marks) × (run_from c (suc n) v (map (λ e. e.event) es) ≡ Ok (map (λ e. e.marks) es)) → HoldAlong c past w (e ∷ es)
        at told = joined (rest v (record {
          posted = record { sound = sound; steady = steady; agree = subst (λ xs. PostsAgree (at_end (after_marks xs (at_begin e.event past))) v) told.0 posts };
          paths = subst (λ xs. PathsAgree (after_marks xs (at_begin e.event past)) v) told.0 paths;
          agree = subst (λ xs. CausesAgree (at_end (after_marks xs (at_begin e.event past))) v) told.0 causes.1;
        }) told.1)
          where
            joined : HoldAlong c (after_entry e past) v es → HoldAlong c past w (e ∷ es)
            joined more = record {
              agree = (met.agree, subst (Afterwards (λ x. HoldsAlong CausesAgree c (after_entry e past) x es)) (sym is) more.agree);
              passed = both-true _ _ (both-true _ true (subst (λ xs. each_mark completes_with_cause (at_begin e.event past) xs ≡ true) told.0 causes.0) refl) more.passed;
            }

pub causes-along : (c : Configuration) (bytes : ByteMap) (es : List EntryValue) → AreLimited c → AllByRecursion (λ e. CanBeMade e.event) es → Follows c bytes es
    → HoldsAlong CausesAgree c (opening_past bytes) (opening_world bytes) es
causes-along c bytes es limited made follows = (along c 0 es (opening_past bytes) (opening_world bytes) limited made (opening-met c bytes) follows).agree

pub complete-with-causes : (c : Configuration) (bytes : ByteMap) (es : List EntryValue) → AreLimited c → AllByRecursion (λ e. CanBeMade e.event) es → Follows c bytes es → DoCompleteWithCauses bytes es
complete-with-causes c bytes es limited made follows = (along c 0 es (opening_past bytes) (opening_world bytes) limited made (opening-met c bytes) follows).passed

-- Every event keeps the agreement on PSNs. For proofs only.
use Rattle.std.proofs.Common.{List, Ok, [], map, rules, subst, suc, true, ℕ, ◌∷◌, ◌≡◌}
use Rattle.std.specs.List.{AllByRecursion}
use Rattle.ca_law_endings.proofs.EventFitLemmas.{first-marks}
use Rattle.ca_law_endings.proofs.LeadsLemmas.{comes}
use Rattle.ca_law_endings.proofs.PathVerbLemmas.{call_of}
use Rattle.ca_law_endings.specs.Agreement.{HoldsAlong}
use Rattle.ca_law_endings.specs.Runs.{Comes, Leads}
use Rattle.ca_law_keys.proofs.Posts.PostLaws.{event-posts-agree, opening-posts-agree}
use Rattle.ca_law_keys.specs.Posts.{PostsAgree}
use Rattle.ca_law_carried.proofs.Starts.StartChangeLemmas.{starts-create, starts-destroy, starts-modify}
use Rattle.ca_law_carried.proofs.Starts.StartTurnLemmas.{Agrees, IsReady, starts-deliver, starts-inject, starts-request, starts-respond, starts-timeout, starts-wake}
use Rattle.ca_law_carried.proofs.Starts.StartVerbLemmas.{AgreesBy, starts-dealloc_mw, starts-poll, starts-post_recv, starts-post_send}
use Rattle.ca_law_carried.specs.Starts.{StartsAgree}
use Rattle.ca_base.specs.Configuration.{Configuration}
use Rattle.ca_keys.specs.Memory.{ByteMap}
use Rattle.ca_law_world.proofs.Sound.SoundLemmas.{event-sound, opening-sound}
use Rattle.ca_law_world.proofs.Steady.EventLemmas.{event-steady, opening-steady}
use Rattle.ca_law_world.specs.Steady.{IsSteadyWorld}
use Rattle.ca_model.specs.Entries.{EntryValue}
use Rattle.ca_model.specs.Past.{Past, after_entry, after_marks, at_begin, at_end, opening_past}
use Rattle.ca_model.specs.declared.answer.Refusal.TheVariants.{NoSuch}
use Rattle.ca_model.specs.declared.event.Event.{Event}
use Rattle.ca_model.specs.declared.verb.Verb.{Verb}
use Rattle.ca_model.specs.machine.Frame.{Afterwards}
use Rattle.ca_model.specs.machine.Plan.{Did, NotReady, Outcome}
use Rattle.ca_model.specs.machine.Run.{Follows, go_on, run_from}
use Rattle.ca_model.specs.machine.Sound.{AreLimited, CanBeMade, IsSoundWorld}
use Rattle.ca_model.specs.machine.Step.{is_named, plan, step, verb_plan}
use Rattle.ca_model.specs.machine.VerbAnswers.{Refuse_plan}
use Rattle.ca_model.specs.machine.World.{World, opening_world}
use Rattle.ca_wire.specs.Packet.{follows}
use Rattle.ca_model.specs.declared.event.Event.TheVariants as events
use Rattle.ca_keys.specs.Spelling.{rights_text as rights}
use Rattle.ca_model.specs.declared.verb.Verb.TheVariants as verbs

starts-verb : (c : Configuration) (past : Past) (w : World) (by : ℕ) (verb : Verb) → IsReady c past w → is_named c verb ≡ true → Leads w (AgreesBy past by verb) (verb_plan c (call_of by verb) verb)
starts-verb c past w by (verbs.AllocPd domain) met named = search (rules, met.agree)
starts-verb c past w by (verbs.DeallocPd domain) met named = search (rules, met.agree)
starts-verb c past w by (verbs.RegMr slot buffer offset count rights) met named = search (rules, met.agree)
starts-verb c past w by (verbs.AllocMr slot pages) met named = search (rules, met.agree)
starts-verb c past w by (verbs.DeregMr slot) met named = search (rules, met.agree)
starts-verb c past w by (verbs.AllocMw slot kind) met named = search (rules, met.agree)
starts-verb c past w by (verbs.DeallocMw slot) met named = starts-dealloc_mw c past w by slot met
starts-verb c past w by (verbs.CreateCq slot capacity) met named = search (rules, met.agree)
starts-verb c past w by (verbs.DestroyCq slot) met named = search (rules, met.agree)
starts-verb c past w by (verbs.CreateSrq slot depth) met named = search (rules, met.agree)
starts-verb c past w by (verbs.DestroySrq slot) met named = search (rules, met.agree)
starts-verb c past w by (verbs.CreateQp slot send_cq recv_cq send_depth recv_depth srq) met named = starts-create c past w by (record {
  slot = slot;
  send_cq = send_cq;
  recv_cq = recv_cq;
  send_depth = send_depth;
  recv_depth = recv_depth;
  srq = srq;
}) met
starts-verb c past w by (verbs.ModifyQp slot change) met named = starts-modify c past w by slot change met
starts-verb c past w by (verbs.QueryQp slot) met named = search (rules, met.agree)
starts-verb c past w by (verbs.DestroyQp slot) met named = starts-destroy c past w by slot met
starts-verb c past w by (verbs.PostSend slot request) met named = starts-post_send c past w by slot request met
starts-verb c past w by (verbs.PostRecv slot request) met named = starts-post_recv c past w by slot request met
starts-verb c past w by (verbs.PostSrq slot request) met named = search (rules, met.agree)
starts-verb c past w by (verbs.Poll slot n least) met named = starts-poll c past w by slot n least met
starts-verb c past w by (verbs.Store adapter buffer offset bytes) met named = search (rules, met.agree)
starts-verb c past w by (verbs.Load adapter buffer offset count) met named = search (rules, met.agree)
starts-verb c past w by (verbs.Inject queue bytes) met named = starts-inject c past w by queue bytes met

starts-event : (c : Configuration) (past : Past) (w : World) (event : Event) → IsReady c past w → Leads w (Agrees past event) (plan c event)
starts-event c past w (events.Verb by verb) met = (λ named. starts-verb c past w by verb met named, λ none. refused verb)
  where
    refused : (verb : Verb) → Leads w (AgreesBy past by verb) (Refuse_plan (call_of by verb) NoSuch)
    refused (verbs.AllocPd domain) = met.agree
    refused (verbs.DeallocPd domain) = met.agree
    refused (verbs.RegMr slot buffer offset count rights) = met.agree
    refused (verbs.AllocMr slot pages) = met.agree
    refused (verbs.DeregMr slot) = met.agree
    refused (verbs.AllocMw slot kind) = met.agree
    refused (verbs.DeallocMw slot) = met.agree
    refused (verbs.CreateCq slot capacity) = met.agree
    refused (verbs.DestroyCq slot) = met.agree
    refused (verbs.CreateSrq slot depth) = met.agree
    refused (verbs.DestroySrq slot) = met.agree
    refused (verbs.CreateQp slot send_cq recv_cq send_depth recv_depth srq) = met.agree
    refused (verbs.ModifyQp slot change) = met.agree
    refused (verbs.QueryQp slot) = met.agree
    refused (verbs.DestroyQp slot) = met.agree
    refused (verbs.PostSend slot request) = met.agree
    refused (verbs.PostRecv slot request) = met.agree
    refused (verbs.PostSrq slot request) = met.agree
    refused (verbs.Poll slot n least) = met.agree
    refused (verbs.Store adapter buffer offset bytes) = met.agree
    refused (verbs.Load adapter buffer offset count) = met.agree
    refused (verbs.Inject queue bytes) = met.agree
starts-event c past w (events.Request queue lot) met = starts-request c past (events.Request queue lot) w queue lot met
starts-event c past w (events.Respond queue lot) met = starts-respond c past (events.Respond queue lot) w queue lot met
starts-event c past w (events.Deliver queue index) met = starts-deliver c past (events.Deliver queue index) w queue index met
starts-event c past w (events.Timeout queue hasten) met = starts-timeout c past (events.Timeout queue hasten) w queue hasten met
starts-event c past w (events.RnrWake queue) met = starts-wake c past (events.RnrWake queue) w queue met

-- the event's marks leave a past that agrees with the world that it leaves
pub event-starts-agree : (c : Configuration) (past : Past) (w : World) (event : Event) → IsSoundWorld c w → IsSteadyWorld w → PostsAgree past w → StartsAgree past w
    → Comes (λ v ms. StartsAgree (after_marks ms (at_begin event past)) v) (step c w event)
event-starts-agree c past w event sound steady posts agree = comes w (Agrees past event) (plan c event) (starts-event c past w event (record { sound = sound; steady = steady; posts = posts; agree = agree }))

pub opening-starts-agree : (bytes : ByteMap) → StartsAgree (opening_past bytes) (opening_world bytes)
opening-starts-agree bytes = λ q. record {}

along : (c : Configuration) (n : ℕ) (es : List EntryValue) (past : Past) (w : World) → AreLimited c → AllByRecursion (λ e. CanBeMade e.event) es → IsReady c past w
    → run_from c n w (map (λ e. e.event) es) ≡ Ok (map (λ e. e.marks) es) → HoldsAlong StartsAgree c past w es
along c n [] past w limited made met follows = met.agree
along c n (e ∷ es) past w limited made met follows = (
  met.agree,
  by (step c w e.event) (event-starts-agree c past w e.event met.sound met.steady met.posts met.agree) (event-posts-agree c past w e.event limited met.sound met.steady met.posts)
      (event-sound c e.event w limited met.sound made.0) (event-steady c e.event w met.sound met.steady) follows (λ v next told. along c (suc n) es (after_entry e past) v limited made.1 next told),
)
  where
    Rest : Type 0
    Rest = (v : World) → IsReady c (after_entry e past) v → run_from c (suc n) v (map (λ e. e.event) es) ≡ Ok (map (λ e. e.marks) es) → HoldsAlong StartsAgree c (after_entry e past) v es

    by : (o : Outcome) → Comes (λ v ms. StartsAgree (after_marks ms (at_begin e.event past)) v) o → Comes (λ v ms. PostsAgree (at_end (after_marks ms (at_begin e.event past))) v) o → Afterwards (IsSoundWorld c) o → Afterwards IsSteadyWorld o
        → go_on n o (λ v. run_from c (suc n) v (map (λ e. e.event) es)) ≡ Ok (e.marks ∷ map (λ e. e.marks) es) → Rest
        → Afterwards (λ v. HoldsAlong StartsAgree c (after_entry e past) v es) o
    by (NotReady reason) agrees posts sound steady follows rest = record {}
    by (Did v ms) agrees posts sound steady follows rest = at (first-marks ms e.marks (run_from c (suc n) v (map (λ e. e.event) es)) (map (λ e. e.marks) es) follows)
      where
        at : (ms ≡ e.marks) × (run_from c (suc n) v (map (λ e. e.event) es) ≡ Ok (map (λ e. e.marks) es)) → HoldsAlong StartsAgree c (after_entry e past) v es
        at told = rest v (record {
          sound = sound;
          steady = steady;
          posts = subst (λ xs. PostsAgree (at_end (after_marks xs (at_begin e.event past))) v) told.0 posts;
          agree = subst (λ xs. StartsAgree (after_marks xs (at_begin e.event past)) v) told.0 agrees;
        }) told.1

pub starts-along : (c : Configuration) (bytes : ByteMap) (es : List EntryValue) → AreLimited c → AllByRecursion (λ e. CanBeMade e.event) es → Follows c bytes es
    → HoldsAlong StartsAgree c (opening_past bytes) (opening_world bytes) es
starts-along c bytes es limited made follows = along c 0 es (opening_past bytes) (opening_world bytes) limited made
    (record { sound = opening-sound c bytes; steady = opening-steady bytes; posts = opening-posts-agree bytes; agree = opening-starts-agree bytes }) follows

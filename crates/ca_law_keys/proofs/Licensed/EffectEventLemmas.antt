-- Every event has its effects as it ends, and so has every history that follows the machine. For proofs only.
use Rattle.std.proofs.Common.{◌≡◌, ℕ, suc, Bool, true, false, List, [], ◌∷◌, map, Ok, Err, refl, ap, subst, rules, true≢false}
use Rattle.std.specs.List.{AllByRecursion}
use Rattle.ca_law_endings.proofs.EventFitLemmas.{first-marks}
use Rattle.ca_law_endings.proofs.LeadsLemmas.{comes}
use Rattle.ca_law_endings.proofs.PathVerbLemmas.{call_of}
use Rattle.ca_law_endings.specs.Runs.{Comes, Leads}
use Rattle.ca_law_keys.proofs.Keys.ChangeLemmas.{region-small, window-small}
use Rattle.ca_law_keys.proofs.Keys.KeyLaws.{event-keys-agree, opening-keys-agree}
use Rattle.ca_law_keys.proofs.Keys.KeyFrame.{IsUp}
use Rattle.ca_law_keys.specs.InForce.{KeysAgree}
use Rattle.ca_law_keys.proofs.Posts.PostLaws.{event-posts-agree, opening-posts-agree}
use Rattle.ca_law_keys.proofs.Posts.PostMade.{IsPosted}
use Rattle.ca_law_keys.specs.Posts.{PostsAgree}
use Rattle.ca_base.specs.Configuration.{Configuration}
use Rattle.ca_keys.specs.Memory.{ByteMap}
use Rattle.ca_law_parts.proofs.Names.PlacedLemmas.{event-placed, opening-placed}
use Rattle.ca_law_parts.specs.Placed.{IsPlacedWorld}
use Rattle.ca_law_world.proofs.Sound.SoundLemmas.{event-sound, opening-sound}
use Rattle.ca_law_world.proofs.Steady.EventLemmas.{event-steady, opening-steady}
use Rattle.ca_law_world.specs.Steady.{IsSteadyWorld}
use Rattle.ca_law_world.proofs.Windows.WindowEventLemmas.{event-bound, opening-bound}
use Rattle.ca_law_world.specs.Bindings.{IsBoundWorld}
use Rattle.ca_law_keys.proofs.Posts.GrantLemmas.{both-true}
use Rattle.ca_law_keys.proofs.Licensed.PerformedLemmas.{effects-request}
use Rattle.ca_law_keys.proofs.Licensed.SuccessLemmas.{Effective, effects-dealloc_mw, effects-deliver, effects-dereg_mr, effects-inject, effects-quiet, effects-refused, effects-reg_mr, effects-respond, effects-timeout, effects-wake}
use Rattle.ca_law_keys.specs.Effects.{HaveTheirEffects}
use Rattle.ca_model.specs.Entries.{EntryValue}
use Rattle.ca_model.specs.Licensed.{is_effective_at_end}
use Rattle.ca_model.specs.Past.{Past, after_entry, after_mark, after_marks, at_begin, at_end, each_entry, each_mark, opening_past}
use Rattle.ca_model.specs.declared.event.Event.{Event}
use Rattle.ca_model.specs.declared.event.Event.TheVariants as events
use Rattle.ca_model.specs.declared.mark.Mark.{Mark}
use Rattle.ca_model.specs.declared.verb.Verb.{Verb}
use Rattle.ca_model.specs.declared.verb.Verb.TheVariants as verbs
use Rattle.ca_model.specs.machine.Frame.{Afterwards}
use Rattle.ca_model.specs.machine.Plan.{Did, NotReady, Outcome}
use Rattle.ca_model.specs.machine.Run.{Follows, Ran, go_on, run_from}
use Rattle.ca_model.specs.machine.Sound.{AreLimited, CanBeMade, IsSoundWorld}
use Rattle.ca_model.specs.machine.Step.{bytes_of_buffer, is_named, plan, run_of, step, verb_plan}
use Rattle.ca_model.specs.machine.World.{World, opening_world}

-- a world that comes up, and a past that agrees with it on keys and on posted requests
record IsMet (c : Configuration) (past : Past) (w : World) : Type 0 where
  up : IsUp c past w
  posted : IsPosted c past w

effects-verb : (c : Configuration) (past : Past) (w : World) (by : ℕ) (verb : Verb) → IsMet c past w → is_named c verb ≡ true → Leads w (Effective past (events.Verb by verb)) (verb_plan c (call_of by verb) verb)
effects-verb c past w by (verbs.RegMr slot buffer offset count rights) met named =
    effects-reg_mr past w by slot buffer offset count (bytes_of_buffer c slot.domain.adapter buffer) (run_of slot.domain.adapter buffer offset count) rights
effects-verb c past w by (verbs.DeregMr slot) met named = effects-dereg_mr c past w by slot met.up (region-small c slot met.up.limited named)
effects-verb c past w by (verbs.DeallocMw slot) met named = effects-dealloc_mw c past w by slot met.up (window-small c slot met.up.limited named)
effects-verb c past w by (verbs.Store adapter buffer offset bytes) met named = search rules
effects-verb c past w by (verbs.Inject queue bytes) met named = effects-inject c past w by queue bytes met.posted
effects-verb c past w by (verbs.AllocPd domain) met named = effects-quiet c past w by (verbs.AllocPd domain) (record {})
effects-verb c past w by (verbs.DeallocPd domain) met named = effects-quiet c past w by (verbs.DeallocPd domain) (record {})
effects-verb c past w by (verbs.AllocMr slot pages) met named = effects-quiet c past w by (verbs.AllocMr slot pages) (record {})
effects-verb c past w by (verbs.AllocMw slot kind) met named = effects-quiet c past w by (verbs.AllocMw slot kind) (record {})
effects-verb c past w by (verbs.CreateCq slot capacity) met named = effects-quiet c past w by (verbs.CreateCq slot capacity) (record {})
effects-verb c past w by (verbs.DestroyCq slot) met named = effects-quiet c past w by (verbs.DestroyCq slot) (record {})
effects-verb c past w by (verbs.CreateSrq slot depth) met named = effects-quiet c past w by (verbs.CreateSrq slot depth) (record {})
effects-verb c past w by (verbs.DestroySrq slot) met named = effects-quiet c past w by (verbs.DestroySrq slot) (record {})
effects-verb c past w by (verbs.CreateQp slot send_cq recv_cq send_depth recv_depth srq) met named = effects-quiet c past w by (verbs.CreateQp slot send_cq recv_cq send_depth recv_depth srq) (record {})
effects-verb c past w by (verbs.ModifyQp slot change) met named = effects-quiet c past w by (verbs.ModifyQp slot change) (record {})
effects-verb c past w by (verbs.QueryQp slot) met named = effects-quiet c past w by (verbs.QueryQp slot) (record {})
effects-verb c past w by (verbs.DestroyQp slot) met named = effects-quiet c past w by (verbs.DestroyQp slot) (record {})
effects-verb c past w by (verbs.PostSend slot request) met named = effects-quiet c past w by (verbs.PostSend slot request) (record {})
effects-verb c past w by (verbs.PostRecv slot request) met named = effects-quiet c past w by (verbs.PostRecv slot request) (record {})
effects-verb c past w by (verbs.PostSrq slot request) met named = effects-quiet c past w by (verbs.PostSrq slot request) (record {})
effects-verb c past w by (verbs.Poll slot n least) met named = effects-quiet c past w by (verbs.Poll slot n least) (record {})
effects-verb c past w by (verbs.Load adapter buffer offset count) met named = effects-quiet c past w by (verbs.Load adapter buffer offset count) (record {})

effects-event : (c : Configuration) (past : Past) (w : World) (event : Event) → IsMet c past w → Leads w (Effective past event) (plan c event)
effects-event c past w (events.Verb by verb) met = (λ named. effects-verb c past w by verb met named, λ none. effects-refused past w by verb)
effects-event c past w (events.Request queue lot) met = effects-request c past w queue lot met.posted
effects-event c past w (events.Deliver queue index) met = effects-deliver c past w queue index met.posted
effects-event c past w (events.Respond queue lot) met = effects-respond c past w queue lot met.posted
effects-event c past w (events.Timeout queue hasten) met = effects-timeout c past w queue hasten met.posted
effects-event c past w (events.RnrWake queue) met = effects-wake c past w queue

no-test : (ms : List Mark) (p : Past) → each_mark (λ past mark. true) p ms ≡ true
no-test [] p = refl
no-test (m ∷ ms) p = both-true true _ refl (no-test ms (after_mark m p))

along : (c : Configuration) (n : ℕ) (es : List EntryValue) (past : Past) (w : World) → AllByRecursion (λ e. CanBeMade e.event) es → IsMet c past w
    → run_from c n w (map (λ e. e.event) es) ≡ Ok (map (λ e. e.marks) es) → each_entry (λ past mark. true) is_effective_at_end past es ≡ true
along c n [] past w made met follows = refl
along c n (e ∷ es) past w made met follows =
    by (step c w e.event) (comes w (Effective past e.event) (plan c e.event) (effects-event c past w e.event met)) (event-keys-agree c past w e.event up.limited up.sound up.placed up.bound up.agree)
    (event-posts-agree c past w e.event up.limited up.sound met.posted.steady met.posted.agree) (event-sound c e.event w up.limited up.sound made.0) (event-steady c e.event w up.sound met.posted.steady)
    (event-placed c e.event w up.limited up.sound up.placed) (event-bound c e.event w up.sound up.bound) follows
    (λ v next told. along c (suc n) es (after_entry e past) v made.1 next told)
  where
    up : IsUp c past w
    up = met.up

    Rest : Type 0
    Rest = (v : World) → IsMet c (after_entry e past) v → run_from c (suc n) v (map (λ e. e.event) es) ≡ Ok (map (λ e. e.marks) es) → each_entry (λ past mark. true) is_effective_at_end (after_entry e past) es ≡ true

    stopped : Ran → Bool
    stopped (Ok told) = false
    stopped (Err stop) = true

    same : (v : World) → KeysAgree (after_marks e.marks (at_begin e.event past)) v → KeysAgree (after_entry e past) v
    same v agree = agree

    by : (o : Outcome) → Comes (Effective past e.event) o → Comes (λ v ms. KeysAgree (after_marks ms (at_begin e.event past)) v) o → Comes (λ v ms. PostsAgree (at_end (after_marks ms (at_begin e.event past))) v) o
        → Afterwards (IsSoundWorld c) o → Afterwards IsSteadyWorld o → Afterwards (IsPlacedWorld c) o
        → Afterwards IsBoundWorld o → go_on n o (λ v. run_from c (suc n) v (map (λ e. e.event) es)) ≡ Ok (e.marks ∷ map (λ e. e.marks) es) → Rest
        → each_entry (λ past mark. true) is_effective_at_end past (e ∷ es) ≡ true
    by (NotReady reason) right keys posts sound steady placed bound follows rest = absurd (true≢false (ap stopped follows))
    by (Did v ms) right keys posts sound steady placed bound follows rest = at (first-marks ms e.marks (run_from c (suc n) v (map (λ e. e.event) es)) (map (λ e. e.marks) es) follows)
      where
        at : (ms ≡ e.marks) × (run_from c (suc n) v (map (λ e. e.event) es) ≡ Ok (map (λ e. e.marks) es)) → each_entry (λ past mark. true) is_effective_at_end past (e ∷ es) ≡ true
        at told = both-true _ _ (both-true _ _ (no-test e.marks (at_begin e.event past)) (subst (λ xs. is_effective_at_end (after_marks xs (at_begin e.event past)) ≡ true) told.0 right))
            (rest v (record {
              up = record { limited = up.limited; sound = sound; placed = placed; bound = bound; agree = same v (subst (λ xs. KeysAgree (after_marks xs (at_begin e.event past)) v) told.0 keys) };
              posted = record { sound = sound; steady = steady; agree = subst (λ xs. PostsAgree (at_end (after_marks xs (at_begin e.event past))) v) told.0 posts };
            }) told.1)

pub effects-along : (c : Configuration) (bytes : ByteMap) (es : List EntryValue) → AreLimited c → AllByRecursion (λ e. CanBeMade e.event) es → Follows c bytes es → HaveTheirEffects bytes es
effects-along c bytes es limited made follows = along c 0 es (opening_past bytes) (opening_world bytes) made (record {
  up = record { limited = limited; sound = opening-sound c bytes; placed = opening-placed c bytes; bound = opening-bound bytes; agree = opening-keys-agree bytes };
  posted = record { sound = opening-sound c bytes; steady = opening-steady bytes; agree = opening-posts-agree bytes };
}) follows

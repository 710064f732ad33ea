-- A history of a script in calm weather that nothing befalls is a run in calm weather. For proofs only.
use Rattle.std.proofs.Common.{◌≡◌, ℕ, suc, ◌+◌, ◌==◌, Bool, true, false, if◌then◌else◌, List, [], ◌∷◌, length, Option, None, Some, is_some, refl, ap, sym, subst, ◌∙◌, arith, eqb-true, true≢false}
use Rattle.std.proofs.lemmas.Option.{same_Some}
use Rattle.std.specs.List.{AllByRecursion}
use Rattle.std.specs.Option.{option_eq}
use Rattle.ca_law_endings.proofs.LeadsLemmas.{comes}
use Rattle.ca_law_endings.specs.Runs.{Comes}
use Rattle.ca_base.specs.Configuration.{Configuration}
use Rattle.ca_base.specs.declared.correspondent.Correspondent.{Correspondent}
use Rattle.ca_base.specs.declared.lot.Lot.{Lot}
use Rattle.ca_base.specs.declared.lot.Lot.TheVariants.{Pass, Lose, Repeat, Hold}
use Rattle.ca_base.specs.objects.Mailbox.{due}
use Rattle.ca_base.specs.objects.QueuePair.{QueuePair, QueueSlot, NoQueue, Present}
use Rattle.ca_law_bounds.specs.CalmMail.{IsWithoutInjection, IsNoWake, SendsNoRnrNak}
use Rattle.ca_law_bounds.specs.CalmRuns.{IsCalmRun}
use Rattle.ca_law_scripts.proofs.CalmScripts.CallLemmas.{IsGoodEvent}
use Rattle.ca_law_scripts.specs.CalmScripts.{AreUntroubled, IsUntroubledMark}
use Rattle.ca_keys.specs.declared.names.QueueId.{QueueId}
use Rattle.ca_mailbox.specs.declared.weather.Weather.TheVariants.{Calm}
use Rattle.ca_model.specs.Entries.{EntryValue}
use Rattle.ca_model.specs.Past.{Past, after_entry}
use Rattle.ca_model.specs.declared.event.Event.{Event}
use Rattle.ca_model.specs.declared.event.Event.TheVariants as events
use Rattle.ca_model.specs.declared.mark.Mark.{Mark}
use Rattle.ca_model.specs.declared.mark.Mark.TheVariants as marks
use Rattle.ca_model.specs.declared.verb.Verb.{Verb}
use Rattle.ca_model.specs.declared.verb.Verb.TheVariants as verbs
use Rattle.ca_model.specs.machine.Frame.{Afterwards}
use Rattle.ca_model.specs.machine.Plan.{Did, NotReady, Outcome}
use Rattle.ca_model.specs.machine.Step.{step}
use Rattle.ca_model.specs.machine.Sound.{IsSoundWorld}
use Rattle.ca_model.specs.machine.Turns.{reaches_peer, timeout_plan}
use Rattle.ca_model.specs.machine.World.{World}
use Rattle.ca_law_once.proofs.Once.RunLemmas.{Walk}
use Rattle.ca_script_order.specs.OfScript.{Reach, lot_eq, may_stand, left_after, reach_by, reach_from}
use Rattle.ca_law_lossless.specs.RowMail.{AreWholeDrops, DropsWhole}
use Rattle.ca_script.specs.Script.{ScriptValue}
use Rattle.ca_law_lossless.specs.CalmEvents.{AreCalm, IsCalmEvent, IsCalmMark}
use Rattle.ca_law_once.proofs.Verbs.TurnWalks.{leads-timeout}
use Rattle.ca_model_places.specs.Turns.{lot_at}
use Rattle.ca_law_bounds.specs.PostWeights.{InjectsNothing}

-- ---- one event

verb-calm : (w : World) (by : ℕ) (verb : Verb) → InjectsNothing verb → IsCalmEvent w (events.Verb by verb)
verb-calm w by (verbs.AllocPd domain) none = tt
verb-calm w by (verbs.DeallocPd domain) none = tt
verb-calm w by (verbs.RegMr slot buffer offset count rights) none = tt
verb-calm w by (verbs.AllocMr slot pages) none = tt
verb-calm w by (verbs.DeregMr slot) none = tt
verb-calm w by (verbs.AllocMw slot kind) none = tt
verb-calm w by (verbs.DeallocMw slot) none = tt
verb-calm w by (verbs.CreateCq slot capacity) none = tt
verb-calm w by (verbs.DestroyCq slot) none = tt
verb-calm w by (verbs.CreateSrq slot depth) none = tt
verb-calm w by (verbs.DestroySrq slot) none = tt
verb-calm w by (verbs.CreateQp slot send_cq recv_cq send_depth recv_depth srq) none = tt
verb-calm w by (verbs.ModifyQp slot change) none = tt
verb-calm w by (verbs.QueryQp slot) none = tt
verb-calm w by (verbs.DestroyQp slot) none = tt
verb-calm w by (verbs.PostSend slot request) none = tt
verb-calm w by (verbs.PostRecv slot request) none = tt
verb-calm w by (verbs.PostSrq slot request) none = tt
verb-calm w by (verbs.Poll slot count least) none = tt
verb-calm w by (verbs.Store adapter buffer offset bytes) none = tt
verb-calm w by (verbs.Load adapter buffer offset count) none = tt
verb-calm w by (verbs.Inject queue bytes) none = absurd none

-- calm weather lets each packet pass
lot-passes : (w : World) (n : QueueId) → lot_at Calm w n ≡ Pass
lot-passes w n = by (w.queue n) refl
  where
    leads : (b : Bool) → (if b then Pass else Pass) ≡ Pass
    leads true = refl
    leads false = refl

    way : (q : QueuePair) (o : Option Correspondent) → w.queue n ≡ Present q → q.peer ≡ o → lot_at Calm w n ≡ Pass
    way q None there peer = rw (there, peer) refl
    way q (Some p) there peer = rw (there, peer) (leads (reaches_peer q p (w.mailbox p.queue)))

    by : (slot : QueueSlot) → w.queue n ≡ slot → lot_at Calm w n ≡ Pass
    by (NoQueue incarnation timers) there = rw there refl
    by (Present q) there = way q q.peer there refl

lot-is : (lot : Lot) → lot_eq lot Pass ≡ true → lot ≡ Pass
lot-is Pass is = refl
lot-is Lose is = absurd (true≢false (sym is))
lot-is (Repeat n) is = absurd (true≢false (sym is))
lot-is (Hold n) is = absurd (true≢false (sym is))

lot-stands : (s : ScriptValue) (w : World) (n : QueueId) (lot : Lot) → s.weather ≡ Calm → lot_eq lot (lot_at s.weather w n) ≡ true → lot ≡ Pass
lot-stands s w n lot weather is = lot-is lot (ap (lot_eq lot) (sym (ap (λ weather. lot_at weather w n) weather ∙ lot-passes w n)) ∙ is)

due-stands : (o : Option ℕ) (index : ℕ) → option_eq (λ a b. a == b) o (Some index) ≡ true → o ≡ Some index
due-stands None index is = absurd (true≢false (sym is))
due-stands (Some n) index is = ap (λ k. Some k) (eqb-true n index is)

-- no timer fires, and nobody is woken
abbrev IsNoTimer : Event → Type 0
IsNoTimer (events.Timeout n hasten) = ⊥
IsNoTimer (events.RnrWake n) = ⊥
IsNoTimer event = Unit {0}

event-calm : (s : ScriptValue) (g : Reach) (event : Event) → s.weather ≡ Calm → may_stand s g event ≡ true → IsGoodEvent event → IsNoTimer event → IsCalmEvent g.world event
event-calm s g (events.Verb by verb) weather stands good none = verb-calm g.world by verb good.1
event-calm s g (events.Request n lot) weather stands good none = lot-stands s g.world n lot weather stands
event-calm s g (events.Respond n lot) weather stands good none = lot-stands s g.world n lot weather stands
event-calm s g (events.Deliver n index) weather stands good none = due-stands (due (g.world.mailbox n)) index stands
event-calm s g (events.Timeout n hasten) weather stands good none = absurd none
event-calm s g (events.RnrWake n) weather stands good none = absurd none

-- ---- all of them

-- where entries lead somewhere, the first may stand there, and leads on
record LeadsFrom (s : ScriptValue) (g : Reach) (e : EntryValue) (es : List EntryValue) (h : Reach) : Type 0 where
  stands : may_stand s g e.event ≡ true
  world : World
  marks : List Mark
  comes : step s.config g.world e.event ≡ Did world marks
  rest : reach_from s (record { world = world; count = suc g.count; left = left_after g e.event }) es ≡ Some h

leads-from : (s : ScriptValue) (g : Reach) (e : EntryValue) (es : List EntryValue) (h : Reach) → reach_from s g (e ∷ es) ≡ Some h → LeadsFrom s g e es h
leads-from s g e es h is = by (may_stand s g e.event) refl is
  where
    on : Reach → Option Reach
    on h = reach_from s h es

    at : (o : Outcome) → step s.config g.world e.event ≡ o → may_stand s g e.event ≡ true → reach_by g e.event o on ≡ Some h → LeadsFrom s g e es h
    at (NotReady reason) comes stands is = absurd (true≢false (sym (ap is_some is)))
    at (Did v ms) comes stands is = record { stands = stands; world = v; marks = ms; comes = comes; rest = is }

    by : (b : Bool) → may_stand s g e.event ≡ b → (if b then reach_by g e.event (step s.config g.world e.event) on else None) ≡ Some h → LeadsFrom s g e es h
    by true stands is = at (step s.config g.world e.event) refl stands is
    by false stands is = absurd (true≢false (sym (ap is_some is)))

-- a timer's event has its mark
abbrev IsTroubled : World → List Mark → Type 0
IsTroubled v ms = AllByRecursion IsUntroubledMark ms → ⊥

timer-marks : (c : Configuration) (w : World) (n : QueueId) (hasten : Bool) → IsSoundWorld c w → Comes IsTroubled (step c w (events.Timeout n hasten))
timer-marks c w n hasten sound = comes w IsTroubled (timeout_plan c n hasten) (leads-timeout c w IsTroubled n hasten sound (λ q silent v there sends replaces all. all.0))

-- so where no mark is a timer's, none fired
no-timer : (c : Configuration) (w v : World) (event : Event) (ms : List Mark) → IsSoundWorld c w → step c w event ≡ Did v ms → IsNoWake event → AllByRecursion IsUntroubledMark ms → IsNoTimer event
no-timer c w v (events.Verb by verb) ms sound is wake all = tt
no-timer c w v (events.Request n lot) ms sound is wake all = tt
no-timer c w v (events.Respond n lot) ms sound is wake all = tt
no-timer c w v (events.Deliver n index) ms sound is wake all = tt
no-timer c w v (events.Timeout n hasten) ms sound is wake all = subst (Comes IsTroubled) is (timer-marks c w n hasten sound) all
no-timer c w v (events.RnrWake n) ms sound is wake all = absurd wake

-- what befalls no mark, and what is no drop of a packet for what it is itself, is calm
marks-calm : (ms : List Mark) → AllByRecursion IsUntroubledMark ms → AreWholeDrops ms → AreCalm ms
marks-calm [] all whole = tt
marks-calm (m ∷ ms) all whole = (one m all.0 whole.0, marks-calm ms all.1 whole.1)
  where
    one : (m : Mark) → IsUntroubledMark m → DropsWhole m → IsCalmMark m
    one (marks.Verb by verb answer) is whole = tt
    one (marks.Granted g) is whole = tt
    one (marks.Revoked adapter key) is whole = tt
    one (marks.Remote queue domain envelope key kind address count verdict) is whole = tt
    one (marks.Local queue domain key kind address count verdict) is whole = tt
    one (marks.Stored place bytes) is whole = tt
    one (marks.Sent source target index request bytes) is whole = is
    one (marks.Lost target index) is whole = is
    one (marks.Arrived target index) is whole = tt
    one (marks.Dropped target cause) is whole = whole
    one (marks.Timer queue silent) is whole = tt
    one (marks.Done queue x cause) is whole = tt

-- no RNR NAK is sent
marks-ready : (ms : List Mark) → AllByRecursion IsUntroubledMark ms → AllByRecursion SendsNoRnrNak ms
marks-ready [] all = tt
marks-ready (m ∷ ms) all = (one m all.0, marks-ready ms all.1)
  where
    one : (m : Mark) → IsUntroubledMark m → SendsNoRnrNak m
    one (marks.Verb by verb answer) is = tt
    one (marks.Granted g) is = tt
    one (marks.Revoked adapter key) is = tt
    one (marks.Remote queue domain envelope key kind address count verdict) is = tt
    one (marks.Local queue domain key kind address count verdict) is = tt
    one (marks.Stored place bytes) is = tt
    one (marks.Sent source target index request bytes) is = is
    one (marks.Lost target index) is = tt
    one (marks.Arrived target index) is = tt
    one (marks.Dropped target cause) is = tt
    one (marks.Timer queue silent) is = tt
    one (marks.Done queue x cause) is = tt

-- nothing is injected, and no RNR NAK is sent
pub entries-asked : (es : List EntryValue) → AllByRecursion (λ e. IsGoodEvent e.event) es → AreUntroubled es → AllByRecursion (λ e. IsWithoutInjection e.event × AllByRecursion SendsNoRnrNak e.marks) es
entries-asked [] good none = tt
entries-asked (e ∷ es) good none = ((one e.event good.0, marks-ready e.marks none.0), entries-asked es good.1 none.1)
  where
    one : (event : Event) → IsGoodEvent event → IsWithoutInjection event
    one (events.Verb by verb) good = good.1
    one (events.Request n lot) good = tt
    one (events.Respond n lot) good = tt
    one (events.Deliver n index) good = tt
    one (events.Timeout n hasten) good = tt
    one (events.RnrWake n) good = tt

-- the world that an outcome leaves, or the one before it
abbrev world_of : World → Outcome → World
world_of w (NotReady reason) = w
world_of w (Did v ms) = v

pub run-calm : (s : ScriptValue) (past : Past) (g h : Reach) (es : List EntryValue) → s.weather ≡ Calm → AllByRecursion (λ e. IsGoodEvent e.event) es → AreUntroubled es → AllByRecursion (λ e. IsNoWake e.event × AreWholeDrops e.marks) es
    → Walk s.config past g.world es → reach_from s g es ≡ Some h → IsCalmRun s.config g.world es
run-calm s past g h [] weather good none spared walk is = tt
run-calm s past g h (e ∷ es) weather good none spared walk is = (
  event-calm s g e.event weather leads.stands good.0 (no-timer s.config g.world walk.1.0 e.event e.marks walk.0.sound walk.1.1.comes spared.0.0 none.0),
  marks-calm e.marks none.0 spared.0.1,
  subst (Afterwards (λ v. IsCalmRun s.config v es)) (sym leads.comes)
      (run-calm s (after_entry e past) (record { world = leads.world; count = suc g.count; left = left_after g e.event }) h es weather good.1 none.1 spared.1
      (subst (λ v. Walk s.config (after_entry e past) v es) (ap (world_of g.world) (sym walk.1.1.comes ∙ leads.comes)) walk.1.2) leads.rest),
)
  where
    leads : LeadsFrom s g e es h
    leads = leads-from s g e es h is

-- as many entries were made as are counted
pub reach-count : (s : ScriptValue) (g h : Reach) (es : List EntryValue) → reach_from s g es ≡ Some h → h.count ≡ g.count + length es
reach-count s g h [] is = omega (arith, ap (λ (x : Reach). x.count) (same_Some g h is))
reach-count s g h (e ∷ es) is = omega (arith, reach-count s (record { world = leads.world; count = suc g.count; left = left_after g e.event }) h es leads.rest)
  where
    leads : LeadsFrom s g e es h
    leads = leads-from s g e es h is

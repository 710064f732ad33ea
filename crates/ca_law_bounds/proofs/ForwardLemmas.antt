-- Where everything leads on in calm weather it goes forward, and so a history in calm weather is bounded. For proofs only.
use Rattle.std.proofs.Common.{ℕ, ◌+◌, ◌*◌, ◌≤◌, List, [], ◌∷◌, length}
use Rattle.std.specs.List.{AllByRecursion, sum_by}
use Rattle.ca_base.specs.Configuration.{Configuration}
use Rattle.ca_law_bounds.proofs.GoLemmas.{runs-lead-on}
use Rattle.ca_law_bounds.specs.CalmRuns.{AreAllClean, IsCalmRun, LeadsOn, LeadsOnAlong}
use Rattle.ca_keys.specs.Memory.{ByteMap}
use Rattle.ca_model.specs.Entries.{EntryValue}
use Rattle.ca_model.specs.Past.{after_entries, opening_past}
use Rattle.ca_model.specs.declared.event.Event.{Event}
use Rattle.ca_model.specs.declared.event.Event.TheVariants as events
use Rattle.ca_model.specs.declared.verb.Verb.{Verb}
use Rattle.ca_model.specs.declared.verb.Verb.TheVariants as verbs
use Rattle.ca_model.specs.machine.Frame.{Afterwards}
use Rattle.ca_model.specs.machine.Plan.{Did, NotReady, Outcome}
use Rattle.ca_model.specs.machine.Run.{Follows}
use Rattle.ca_model.specs.machine.Sound.{AreLimited, CanBeMade}
use Rattle.ca_model.specs.machine.Step.{step}
use Rattle.ca_model.specs.machine.World.{World, opening_world}
use Rattle.ca_law_lossless.specs.CalmEvents.{IsCalmEvent}
use Rattle.ca_law_bounds.proofs.RunWeights.{histories-bounded}
use Rattle.ca_law_bounds.specs.Forward.{AllGoForward, GoesForward, packets_in, verbs_in}
use Rattle.ca_law_bounds.specs.PostWeights.{InjectsNothing}

-- a verb of calm weather injects nothing
injects-nothing : (w : World) (by : ℕ) (verb : Verb) → IsCalmEvent w (events.Verb by verb) → InjectsNothing verb
injects-nothing w by (verbs.AllocPd domain) calm = tt
injects-nothing w by (verbs.DeallocPd domain) calm = tt
injects-nothing w by (verbs.RegMr slot buffer offset count rights) calm = tt
injects-nothing w by (verbs.AllocMr slot pages) calm = tt
injects-nothing w by (verbs.DeregMr slot) calm = tt
injects-nothing w by (verbs.AllocMw slot kind) calm = tt
injects-nothing w by (verbs.DeallocMw slot) calm = tt
injects-nothing w by (verbs.CreateCq slot capacity) calm = tt
injects-nothing w by (verbs.DestroyCq slot) calm = tt
injects-nothing w by (verbs.CreateSrq slot depth) calm = tt
injects-nothing w by (verbs.DestroySrq slot) calm = tt
injects-nothing w by (verbs.CreateQp slot send_cq recv_cq send_depth recv_depth srq) calm = tt
injects-nothing w by (verbs.ModifyQp slot change) calm = tt
injects-nothing w by (verbs.QueryQp slot) calm = tt
injects-nothing w by (verbs.DestroyQp slot) calm = tt
injects-nothing w by (verbs.PostSend slot request) calm = tt
injects-nothing w by (verbs.PostRecv slot request) calm = tt
injects-nothing w by (verbs.PostSrq slot request) calm = tt
injects-nothing w by (verbs.Poll slot count least) calm = tt
injects-nothing w by (verbs.Store adapter buffer offset bytes) calm = tt
injects-nothing w by (verbs.Load adapter buffer offset count) calm = tt
injects-nothing w by (verbs.Inject queue bytes) calm = absurd calm

-- an event of calm weather that leads on goes forward
event-forward : (w v : World) (event : Event) → IsCalmEvent w event → LeadsOn w event v → GoesForward w event v
event-forward w v (events.Verb by verb) calm leads = injects-nothing w by verb calm
event-forward w v (events.Request name lot) calm leads = leads.1
event-forward w v (events.Deliver name index) calm leads = (leads.1.fresh, leads.1.cursor)
event-forward w v (events.Respond name lot) calm leads = tt
event-forward w v (events.Timeout name hasten) calm leads = absurd calm
event-forward w v (events.RnrWake name) calm leads = absurd calm

forward-along : (c : Configuration) (w : World) (es : List EntryValue) → IsCalmRun c w es → LeadsOnAlong c w es → AllGoForward c w es
forward-along c w [] run leads = tt
forward-along c w (e ∷ es) run leads = by (step c w e.event) run.2 leads (λ v after on. forward-along c v es after on)
  where
    by : (o : Outcome) → Afterwards (λ v. IsCalmRun c v es) o → Afterwards (λ v. LeadsOn w e.event v × LeadsOnAlong c v es) o → ((v : World) → IsCalmRun c v es → LeadsOnAlong c v es → AllGoForward c v es)
        → Afterwards (λ v. GoesForward w e.event v × AllGoForward c v es) o
    by (NotReady reason) after on rest = tt
    by (Did v ms) after on rest = (event-forward w v e.event run.0 on.0, rest v after on.1)

pub runs-go-forward : (c : Configuration) (bytes : ByteMap) (es : List EntryValue) → AreLimited c → AllByRecursion (λ e. CanBeMade e.event) es → Follows c bytes es → IsCalmRun c (opening_world bytes) es
    → AreAllClean (after_entries es (opening_past bytes)) → AllGoForward c (opening_world bytes) es
runs-go-forward c bytes es limited made follows calm all = forward-along c (opening_world bytes) es calm (runs-lead-on c bytes es limited made follows calm all)

pub runs-bounded : (c : Configuration) (bytes : ByteMap) (es : List EntryValue) → AreLimited c → AllByRecursion (λ e. CanBeMade e.event) es → Follows c bytes es → IsCalmRun c (opening_world bytes) es
    → AreAllClean (after_entries es (opening_past bytes)) → length es ≤ sum_by (λ e. verbs_in e.event) es + 4 * sum_by (λ e. packets_in e.event) es
runs-bounded c bytes es limited made follows calm all = histories-bounded c bytes es limited made follows (runs-go-forward c bytes es limited made follows calm all)

-- The marks of every event fit it, and what the machine runs is a history. For proofs only.
use Rattle.std.proofs.Common.{refl, ◌≡◌, ℕ, suc, Bool, true, false, List, [], ◌∷◌, map, Ok, Err, subst, ap, true≢false}
use Rattle.ca_law_endings.specs.Runs.{AreStamped, Comes, Leads}
use Rattle.ca_law_endings.proofs.InnerLemmas.{own-inner}
use Rattle.ca_law_endings.proofs.FitLemmas.{Own_turns, Silent_turns, Turns, fits-deliver, fits-request, fits-respond, fits-timeout, fits-wake, plain}
use Rattle.ca_law_endings.proofs.LeadsLemmas.{comes, leads-weaker}
use Rattle.ca_law_endings.proofs.VerbFitLemmas.{Answers, AreAnswered, fits-verb}
use Rattle.ca_base.specs.Configuration.{Configuration}
use Rattle.ca_keys.specs.Memory.{ByteMap}
use Rattle.ca_model.specs.Entries.{EntryValue}
use Rattle.ca_model.specs.History.{FitTheEvent, IsHistory, IsHistoryFrom}
use Rattle.ca_model.specs.declared.event.Event.{Event}
use Rattle.ca_model.specs.declared.event.Event.TheVariants as events
use Rattle.ca_model.specs.declared.mark.Mark.{Mark}
use Rattle.ca_model.specs.declared.verb.Verb.{Verb}
use Rattle.ca_model.specs.machine.Delivery.{deliver_plan}
use Rattle.ca_model.specs.machine.Turns.{timeout_plan, wake_plan}
use Rattle.ca_model.specs.machine.VerbAnswers.{Call}
use Rattle.ca_model.specs.machine.Plan.{Did, NotReady, Outcome}
use Rattle.ca_model.specs.machine.Run.{Follows, Ran, go_on, run_from, with_marks}
use Rattle.ca_model.specs.machine.Step.{plan, step}
use Rattle.ca_model.specs.machine.World.{World, opening_world}

answered-fits : (call : Call) (ms : List Mark) → AreAnswered call ms → FitTheEvent (events.Verb call.by call.verb) ms
answered-fits call [] answered = absurd answered
answered-fits call (m ∷ ms) answered = (answered.0, plain ms answered.1)

-- the marks of a verb's event
pub verb-answered : (c : Configuration) (w : World) (by : ℕ) (verb : Verb) → Leads w (Answers (record { by = by; verb = verb })) (plan c (events.Verb by verb))
verb-answered c w by verb = (λ named. fits-verb c w (record { by = by; verb = verb }) verb, λ none. ((refl, refl), record {}))

fits-event : (c : Configuration) (w : World) (event : Event) → Leads w (λ v ms. FitTheEvent event ms) (plan c event)
fits-event c w (events.Verb by verb) = leads-weaker w (Answers call) (λ v ms. FitTheEvent (events.Verb by verb) ms) (plan c (events.Verb by verb)) (λ v ms. answered-fits call ms) (verb-answered c w by verb)
  where
    call : Call
    call = record { by = by; verb = verb }
fits-event c w (events.Request queue lot) = fits-request c w queue lot
fits-event c w (events.Deliver queue index) = leads-weaker w Silent_turns Turns (deliver_plan c queue index) (λ v ms. plain ms) (fits-deliver c w queue index)
fits-event c w (events.Respond queue lot) = fits-respond c w queue lot
fits-event c w (events.Timeout queue hasten) = leads-weaker w Own_turns Turns (timeout_plan c queue hasten) (λ v ms own. plain ms (own-inner ms own)) (fits-timeout c w queue hasten)
fits-event c w (events.RnrWake queue) = leads-weaker w Own_turns Turns (wake_plan c queue) (λ v ms own. plain ms (own-inner ms own)) (fits-wake c w queue)

pub event-fits : (c : Configuration) (event : Event) (w : World) → Comes (λ v ms. FitTheEvent event ms) (step c w event)
event-fits c event w = comes w (λ v ms. FitTheEvent event ms) (plan c event) (fits-event c w event)

-- the marks of a run, of which the first are these
pub first-marks : (ms ns : List Mark) (r : Ran) (rest : List (List Mark)) → with_marks ms r ≡ Ok (ns ∷ rest) → (ms ≡ ns) × (r ≡ Ok rest)
first-marks ms ns (Ok xs) rest e = search
first-marks ms ns (Err stop) rest e = search

run-fits : (c : Configuration) (n : ℕ) (w : World) (es : List EntryValue) → AreStamped n es → run_from c n w (map (λ e. e.event) es) ≡ Ok (map (λ e. e.marks) es) → IsHistoryFrom n es
run-fits c n w [] stamped follows = record {}
run-fits c n w (e ∷ es) stamped follows = by (step c w e.event) (event-fits c e.event w) follows (λ v. run-fits c (suc n) v es stamped.1)
  where
    Rest : Type 0
    Rest = (v : World) → run_from c (suc n) v (map (λ e. e.event) es) ≡ Ok (map (λ e. e.marks) es) → IsHistoryFrom (suc n) es

    stopped : Ran → Bool
    stopped (Ok told) = false
    stopped (Err stop) = true

    by : (o : Outcome) → Comes (λ v ms. FitTheEvent e.event ms) o
        → go_on n o (λ v. run_from c (suc n) v (map (λ e. e.event) es)) ≡ Ok (e.marks ∷ map (λ e. e.marks) es) → Rest → IsHistoryFrom n (e ∷ es)
    by (NotReady reason) fits follows rest = absurd (true≢false (ap stopped follows))
    by (Did v ms) fits follows rest = at (first-marks ms e.marks (run_from c (suc n) v (map (λ e. e.event) es)) (map (λ e. e.marks) es) follows)
      where
        at : (ms ≡ e.marks) × (run_from c (suc n) v (map (λ e. e.event) es) ≡ Ok (map (λ e. e.marks) es)) → IsHistoryFrom n (e ∷ es)
        at told = (record { stamp = stamped.0; marks = subst (FitTheEvent e.event) told.0 fits }, rest v told.1)

pub followed-is-history : (c : Configuration) (bytes : ByteMap) (es : List EntryValue) → AreStamped 0 es → Follows c bytes es → IsHistory es
followed-is-history c bytes es stamped follows = run-fits c 0 (opening_world bytes) es stamped follows

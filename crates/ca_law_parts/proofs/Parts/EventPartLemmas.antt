-- What any event touches lies in the table of parts.
use Rattle.std.proofs.Common.{◌≡◌, Bool, true, List, [], ◌∷◌, None, inl, inr, subst, sym, if◌then◌else◌}
use Rattle.std.specs.List.{AllByRecursion}
use Rattle.ca_base.specs.Configuration.{Configuration}
use Rattle.ca_model.specs.declared.event.Event.{Event}
use Rattle.ca_model.specs.declared.event.Event.TheVariants as events
use Rattle.ca_model.specs.machine.Plan.{touches}
use Rattle.ca_model.specs.machine.Step.{is_named, plan}
use Rattle.ca_model.specs.machine.World.{World}
use Rattle.ca_model.specs.declared.part_name.PartName.{PartName}
use Rattle.ca_model.specs.declared.verb.Verb.{Verb}
use Rattle.ca_law_world.proofs.Sound.SettledLemmas.{all-map}
use Rattle.ca_law_parts.proofs.Parts.NeedsLemmas.{AreHeld, none-held}
use Rattle.ca_model.specs.machine.Parts.{Enough, IsAmong, event_needs, event_parts, listed, next_part, part_of, verb_needs}
use Rattle.ca_model.specs.machine.Sound.{IsSoundWorld}
use Rattle.ca_law_parts.proofs.Parts.PartLemmas.{Given, In, deliver-in, respond-in, timeout-in, wake-in}
use Rattle.ca_law_parts.proofs.Parts.TableLemmas.{request-in}
use Rattle.ca_law_parts.proofs.Parts.TouchLemmas.{TouchesIn, touches-all}
use Rattle.ca_law_parts.proofs.Parts.VerbPartLemmas.{verb-in}

-- where a verb's names are configured, what it needs is given
verb-given : (c : Configuration) (w : World) (ps : List PartName) (verb : Verb) → Given w ps (if is_named c verb then verb_needs c verb else Enough) → is_named c verb ≡ true → Given w ps (verb_needs c verb)
verb-given c w ps verb inc named p among = inc p (subst (λ b. IsAmong (listed w (if b then verb_needs c verb else Enough)) p) (sym named) among)

event-in : (c : Configuration) (w : World) (ps : List PartName) (event : Event) → IsSoundWorld c w → Given w ps (event_needs c event) → TouchesIn w (In ps) (plan c event)
event-in c w ps (events.Verb by verb) sound inc =
    (λ named. verb-in c w ps (record { by = by; verb = verb }) verb sound (verb-given c w ps verb inc named), λ none. (record {}, record {}))
event-in c w ps (events.Request queue lot) sound inc = request-in c w ps queue lot sound inc
event-in c w ps (events.Deliver queue index) sound inc = deliver-in c w ps queue index sound inc
event-in c w ps (events.Respond queue lot) sound inc = respond-in c w ps queue lot sound inc
event-in c w ps (events.Timeout queue hasten) sound inc = timeout-in c w ps queue hasten sound inc
event-in c w ps (events.RnrWake queue) sound inc = wake-in c w ps queue sound inc

pub event-touches : (c : Configuration) (w : World) (event : Event) → IsSoundWorld c w → AllByRecursion (λ n. IsAmong (event_parts c w event) (part_of n)) (touches w (plan c event))
event-touches c w event sound = touches-all w (In (event_parts c w event)) (plan c event) (event-in c w (event_parts c w event) event sound (λ p among. among))

pub among-held : (held : PartName → Bool) (ps : List PartName) (p : PartName) → AreHeld held ps → IsAmong ps p → held p ≡ true
among-held held [] p all among = absurd among
among-held held (x ∷ xs) p all (inl is) = subst (λ y. held y ≡ true) (sym is) all.0
among-held held (x ∷ xs) p all (inr rest) = among-held held xs p all.1 rest

-- what is touched is held where no part is missing
pub event-held : (c : Configuration) (w : World) (event : Event) (held : PartName → Bool) → IsSoundWorld c w → next_part held w (event_needs c event) ≡ None
    → AllByRecursion (λ n. held (part_of n) ≡ true) (touches w (plan c event))
event-held c w event held sound none =
    all-map (λ n. IsAmong (event_parts c w event) (part_of n)) (λ n. held (part_of n) ≡ true) (λ n among. among-held held (event_parts c w event) (part_of n) (none-held held w (event_needs c event) none) among)
    (touches w (plan c event)) (event-touches c w event sound)

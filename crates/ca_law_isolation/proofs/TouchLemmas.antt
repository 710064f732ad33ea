-- What a group's event touches is of the group. For proofs only.
use Rattle.std.proofs.Common.{List, [], ◌∷◌, inl, inr, subst, sym}
use Rattle.std.specs.List.{AllByRecursion}
use Rattle.ca_base.specs.Configuration.{Configuration}
use Rattle.ca_isolation.specs.Groups.{Group}
use Rattle.ca_law_isolation.proofs.TableLemmas.{event-of}
use Rattle.ca_law_isolation.specs.Domains.{AreBoundBeside, IsEventOf, IsPartOf, IsThingOf, LooksWithin}
use Rattle.ca_law_parts.proofs.Parts.EventPartLemmas.{event-touches}
use Rattle.ca_law_world.proofs.Sound.SettledLemmas.{all-map}
use Rattle.ca_model.specs.declared.event.Event.{Event}
use Rattle.ca_model.specs.declared.part_name.PartName.{PartName}
use Rattle.ca_model.specs.machine.Parts.{IsAmong, event_parts, part_of}
use Rattle.ca_model.specs.machine.Plan.{touches}
use Rattle.ca_model.specs.machine.Sound.{AreLimited, IsSoundWorld}
use Rattle.ca_model.specs.machine.Step.{plan}
use Rattle.ca_model.specs.machine.World.{World}

among-of : (g : Group) (ps : List PartName) (p : PartName) → AllByRecursion (IsPartOf g) ps → IsAmong ps p → IsPartOf g p
among-of g [] p all among = absurd among
among-of g (x ∷ xs) p all (inl is) = subst (IsPartOf g) (sym is) all.0
among-of g (x ∷ xs) p all (inr rest) = among-of g xs p all.1 rest

pub touches-of : (c : Configuration) (w : World) (event : Event) (g : Group) → AreLimited c → IsSoundWorld c w → AreBoundBeside w → IsEventOf g event → LooksWithin g w event
    → AllByRecursion (IsThingOf g) (touches w (plan c event))
touches-of c w event g limited sound beside has within = all-map (λ n. IsAmong (event_parts c w event) (part_of n)) (IsThingOf g)
    (λ n among. among-of g (event_parts c w event) (part_of n) (event-of c g w event limited sound beside has within) among)
    (touches w (plan c event)) (event-touches c w event sound)

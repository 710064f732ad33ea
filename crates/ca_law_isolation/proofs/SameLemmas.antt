-- A group's event does the same in two worlds that are the same to the group. For proofs only.
use Rattle.std.proofs.Common.{◌≡◌, Bool, true, false, List, [], ◌∷◌, Option, None, Some, IfSome}
use Rattle.std.specs.List.{AllByRecursion}
use Rattle.std.specs.Option.{option_map_or}
use Rattle.ca_base.specs.Configuration.{Configuration}
use Rattle.ca_isolation.specs.Groups.{Group, event_domain, is_of}
use Rattle.ca_keys.specs.declared.names.DomainId.{DomainId}
use Rattle.ca_keys.specs.declared.place.Place.{Place}
use Rattle.ca_law_isolation.proofs.GrantedLemmas.{touches-granted}
use Rattle.ca_law_isolation.proofs.TouchLemmas.{touches-of}
use Rattle.ca_law_isolation.specs.Domains.{AreBoundBeside, IsEventOf, IsGrantedThing, IsGrantedTo, IsThingOf, LooksWithin, is_seen_by}
use Rattle.ca_model.proofs.FrameLemmas.{event-agrees}
use Rattle.ca_model.specs.declared.event.Event.{Event}
use Rattle.ca_model.specs.machine.Frame.{AllPass, SameOutcomeWhere, SameWhere}
use Rattle.ca_model.specs.machine.Plan.{touches}
use Rattle.ca_model.specs.machine.Sound.{AreLimited, IsSoundWorld}
use Rattle.ca_model.specs.machine.Step.{plan, step}
use Rattle.ca_model.specs.machine.World.{Byte_at, Cq_of, Domain_of, Mailbox_of, Name, Queue_of, Region_of, Srq_of, Window_of, World}

-- an event that is of the group is of nobody else
of-own : (g : Group) (event : Event) → is_of g event ≡ true → IsEventOf g event
of-own g event = by (event_domain event)
  where
    by : (o : Option DomainId) → option_map_or g o false ≡ true → IfSome o (λ d. g d ≡ true)
    by None is = record {}
    by (Some d) is = is

seen : (g : Group) (cover : Place → Bool) (w : World) (n : Name) → ((p : Place) → IsGrantedTo g w p → cover p ≡ true) → IsThingOf g n → IsGrantedThing g w n → is_seen_by g cover n ≡ true
seen g cover w (Domain_of d) covers own granted = own
seen g cover w (Region_of s) covers own granted = own
seen g cover w (Window_of s) covers own granted = own
seen g cover w (Cq_of s) covers own granted = own
seen g cover w (Srq_of s) covers own granted = own
seen g cover w (Queue_of q) covers own granted = own
seen g cover w (Mailbox_of q) covers own granted = own
seen g cover w (Byte_at p) covers own granted = covers p granted

all-seen : (g : Group) (cover : Place → Bool) (w : World) (ns : List Name) → ((p : Place) → IsGrantedTo g w p → cover p ≡ true) → AllByRecursion (IsThingOf g) ns
    → AllByRecursion (IsGrantedThing g w) ns → AllPass (is_seen_by g cover) ns
all-seen g cover w [] covers own granted = record {}
all-seen g cover w (n ∷ ns) covers own granted = (seen g cover w n covers own.0 granted.0, all-seen g cover w ns covers own.1 granted.1)

pub same-alone : (c : Configuration) (v w : World) (event : Event) (g : Group) (cover : Place → Bool) → AreLimited c → IsSoundWorld c v → AreBoundBeside v → is_of g event ≡ true
    → LooksWithin g v event → ((p : Place) → IsGrantedTo g v p → cover p ≡ true) → SameWhere (is_seen_by g cover) v w → SameOutcomeWhere (is_seen_by g cover) (step c v event) (step c w event)
same-alone c v w event g cover limited sound beside has within covers same = event-agrees (is_seen_by g cover) c event v w same
    (all-seen g cover v (touches v (plan c event)) covers (touches-of c v event g limited sound beside (of-own g event has) within) (touches-granted c v event g sound has))

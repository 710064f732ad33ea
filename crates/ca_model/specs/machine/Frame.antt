-- The frame: what an event depends on, and what it leaves as it was. Laws cite it.
use Rattle.std.specs.Prelude.{◌≡◌, Bool, true, false, List, [], ◌∷◌}
use Rattle.ca_base.specs.Configuration.{Configuration}
use Rattle.ca_keys.specs.Equal.{domain_eq, place_eq, queue_eq, slot_eq}
use Rattle.ca_model.specs.declared.event.Event.{Event}
use Rattle.ca_model.specs.machine.Plan.{Outcome, NotReady, Did, touches}
use Rattle.ca_model.specs.machine.Step.{plan, step}
use Rattle.ca_model.specs.machine.World.{World, Name, Domain_of, Region_of, Window_of, Cq_of, Srq_of, Queue_of, Mailbox_of, Byte_at, get}

-- the same name
abbrev pub name_eq : Name → Name → Bool
name_eq (Domain_of a) (Domain_of b) = domain_eq a b
name_eq (Region_of a) (Region_of b) = slot_eq a b
name_eq (Window_of a) (Window_of b) = slot_eq a b
name_eq (Cq_of a) (Cq_of b) = slot_eq a b
name_eq (Srq_of a) (Srq_of b) = slot_eq a b
name_eq (Queue_of a) (Queue_of b) = queue_eq a b
name_eq (Mailbox_of a) (Mailbox_of b) = queue_eq a b
name_eq (Byte_at a) (Byte_at b) = place_eq a b
name_eq _ _ = false

-- the things of these names are the same in two worlds
abbrev pub SameAt : List Name → World → World → Type 0
SameAt [] v w = Unit {0}
SameAt (n ∷ ns) v w = (get v n ≡ get w n) × SameAt ns v w

-- the things of all names that pass a test are the same in two worlds
abbrev pub SameWhere : (Name → Bool) → World → World → Type 0
SameWhere test v w = (n : Name) → test n ≡ true → get v n ≡ get w n

-- two outcomes have one reason, or the same marks and the same things under these names
abbrev pub SameOutcome : List Name → Outcome → Outcome → Type 0
SameOutcome names (NotReady a) (NotReady b) = a ≡ b
SameOutcome names (Did v ms) (Did w ns) = (ms ≡ ns) × SameAt names v w
SameOutcome names (NotReady a) (Did w ns) = ⊥
SameOutcome names (Did v ms) (NotReady b) = ⊥

-- two outcomes have one reason, or the same marks and the same things under all names that pass a test
abbrev pub SameOutcomeWhere : (Name → Bool) → Outcome → Outcome → Type 0
SameOutcomeWhere test (NotReady a) (NotReady b) = a ≡ b
SameOutcomeWhere test (Did v ms) (Did w ns) = (ms ≡ ns) × SameWhere test v w
SameOutcomeWhere test (NotReady a) (Did w ns) = ⊥
SameOutcomeWhere test (Did v ms) (NotReady b) = ⊥

-- a name is none of these
abbrev pub IsNoneOf : Name → List Name → Type 0
IsNoneOf n [] = Unit {0}
IsNoneOf n (m ∷ ms) = (name_eq m n ≡ false) × IsNoneOf n ms

-- an outcome leaves all things as they were that have none of these names
abbrev pub LeavesRest : List Name → World → Outcome → Type 0
LeavesRest names w (NotReady reason) = Unit {0}
LeavesRest names w (Did v ms) = (n : Name) → IsNoneOf n names → get v n ≡ get w n

-- all of these names pass a test
abbrev pub AllPass : (Name → Bool) → List Name → Type 0
AllPass test [] = Unit {0}
AllPass test (n ∷ ns) = (test n ≡ true) × AllPass test ns

-- what holds of the world that an outcome leaves, if it leaves one
abbrev pub Afterwards : (World → Type 0) → Outcome → Type 0
Afterwards P (NotReady reason) = Unit {0}
Afterwards P (Did v ms) = P v

-- all things that events touch, one after another from a world on, have names that pass a test
abbrev pub TouchesPass : (Name → Bool) → Configuration → World → List Event → Type 0
TouchesPass test c w [] = Unit {0}
TouchesPass test c w (event ∷ events) =
    AllPass test (touches w (plan c event)) × Afterwards (λ v. TouchesPass test c v events) (step c w event)

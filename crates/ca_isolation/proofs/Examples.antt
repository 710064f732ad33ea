-- What the definitions say of small values. For proofs only.
use Rattle.std.proofs.Common.{◌≡◌, ℕ, not, ◌==◌, true, false, List, [], ◌∷◌, None, Some, refl}
use Rattle.ca_base.specs.declared.change.Change.TheVariants as changes
use Rattle.ca_isolation.specs.Alone.{stretches_of_write}
use Rattle.ca_isolation.specs.declared.stretch.Stretch.{Stretch}
use Rattle.ca_isolation.specs.Groups.{Group, domain_of_queue, is_of, strays_by}
use Rattle.ca_keys.specs.Equal.{domain_eq}
use Rattle.ca_keys.specs.declared.names.DomainId.{DomainId}
use Rattle.ca_keys.specs.declared.names.QueueId.{QueueId}
use Rattle.ca_keys.specs.declared.names.Slot.{Slot}
use Rattle.ca_keys.specs.declared.place.Place.{Place}
use Rattle.ca_keys.specs.declared.place.Run.{Run}
use Rattle.ca_model.specs.declared.answer.Answer.TheVariants as answers
use Rattle.ca_model.specs.declared.event.Event.TheVariants as events
use Rattle.ca_model.specs.declared.mark.Mark.TheVariants as marks
use Rattle.ca_model.specs.declared.verb.Verb.TheVariants as verbs

abbrev domain : ℕ → DomainId
domain d = record { adapter = 0; domain = d }

abbrev queue : ℕ → QueueId
queue n = record { adapter = 0; number = n }

abbrev slot : ℕ → Slot
slot d = record { domain = domain d; slot = 0 }

abbrev place : ℕ → Place
place n = record { adapter = 0; buffer = 0; offset = n }

abbrev run : ℕ → ℕ → Run
run n count = record { adapter = 0; buffer = 0; offset = n; length = count }

abbrev stretch : ℕ → List ℕ → Stretch
stretch n bytes = record { at = place n; bytes = bytes }

-- the first domain alone
abbrev first : Group
first d = domain_eq d (domain 0)

-- the first 256 numbers are of no domain, and the next of the first one
no_domain : domain_of_queue (queue 255) ≡ None
no_domain = refl

first_domain : domain_of_queue (queue 256) ≡ Some (domain 0)
first_domain = refl

-- an injection there is nobody's, and so is a Store
injection_of_nobody : is_of first (events.Verb 0 (verbs.Inject (queue 255) [])) ≡ false
injection_of_nobody = refl

own_injection : is_of first (events.Verb 0 (verbs.Inject (queue 256) [])) ≡ true
own_injection = refl

store_of_nobody : is_of first (events.Verb 0 (verbs.Store 0 0 0 (1 ∷ []))) ≡ false
store_of_nobody = refl

-- a peer of the group is none outside, and another is
within : strays_by first (marks.Verb 0 (verbs.ModifyQp (slot 0) (changes.Rtr (queue 257) 1 0 256 0)) answers.Fine) ≡ []
within = refl

outside : strays_by first (marks.Verb 0 (verbs.ModifyQp (slot 0) (changes.Rtr (queue 512) 1 0 256 0)) answers.Fine) ≡ queue 256 ∷ []
outside = refl

-- stretches go on over the runs of a grant where places follow each other, and end at a byte that is not covered
one_stretch : stretches_of_write (λ p. true) (record { runs = run 0 2 ∷ run 2 2 ∷ []; bytes = 1 ∷ 2 ∷ 3 ∷ 4 ∷ [] }) ≡ stretch 0 (1 ∷ 2 ∷ 3 ∷ 4 ∷ []) ∷ []
one_stretch = refl

two_stretches : stretches_of_write (λ p. not (p.offset == 1)) (record { runs = run 0 4 ∷ []; bytes = 1 ∷ 2 ∷ 3 ∷ 4 ∷ [] }) ≡ stretch 0 (1 ∷ []) ∷ stretch 2 (3 ∷ 4 ∷ []) ∷ []
two_stretches = refl

-- places that do not follow each other are of two stretches, also where one stands in both
back_again : stretches_of_write (λ p. true) (record { runs = run 2 2 ∷ run 2 1 ∷ []; bytes = 1 ∷ 2 ∷ 3 ∷ [] }) ≡ stretch 2 (1 ∷ 2 ∷ []) ∷ stretch 2 (3 ∷ []) ∷ []
back_again = refl

-- nothing is covered
no_stretch : stretches_of_write (λ p. false) (record { runs = run 0 4 ∷ []; bytes = 1 ∷ 2 ∷ 3 ∷ 4 ∷ [] }) ≡ []
no_stretch = refl

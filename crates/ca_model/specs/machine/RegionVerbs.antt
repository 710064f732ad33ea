-- The verbs on memory regions. Contracts cite it.
use Rattle.std.specs.Prelude.{ℕ, ◌==◌, ◌||◌, nat_lt, not, List, [], ◌∷◌}
use Rattle.std.specs.Option.{option_map_or}
use Rattle.ca_base.specs.declared.change.Field.TheVariants as fields
use Rattle.ca_keys.specs.declared.grant.Grant.{Grant}
use Rattle.ca_base.specs.declared.limits.TheConstants.{MAX_PAGES}
use Rattle.ca_keys.specs.declared.names.Slot.{Slot}
use Rattle.ca_keys.specs.declared.place.Run.{Run}
use Rattle.ca_keys.specs.declared.rights.Rights.{Rights}
use Rattle.ca_base.specs.Grants.{grant_of_registration, next_low, registration_refusals}
use Rattle.ca_base.specs.objects.Domain.{with_object, without_object}
use Rattle.ca_base.specs.objects.Region.{after_allocation, after_deregistration, after_registration, deregistration_refusals, grant_of_region, is_vacant_region}
use Rattle.ca_model.specs.declared.answer.Answer.TheVariants as answers
use Rattle.ca_model.specs.declared.answer.Refusal.TheVariants.{NoDomain, OutOfRange, SlotTaken}
use Rattle.ca_model.specs.declared.mark.Mark.TheVariants as marks
use Rattle.ca_model.specs.machine.Plan.{Plan, Look, Update, ◌:=◌}
use Rattle.ca_model.specs.machine.VerbAnswers.{Call, Answer_plan, Unless_plan, of_region_refusals}
use Rattle.ca_model.specs.machine.World.{Domain_of, Region_of}

-- RegMr, over a buffer of this length
abbrev pub reg_mr_plan : Call → Slot → Run → ℕ → Rights → Plan
reg_mr_plan call s at bytes rights = Look (Domain_of s.domain) (λ domain. Look (Region_of s) (λ region.
    Unless_plan call
    ((not domain.allocated, NoDomain) ∷ (not (is_vacant_region region), SlotTaken)
    ∷ of_region_refusals (registration_refusals at bytes rights))
    (registered (grant_of_registration s at rights (next_low region.low))
    ((Domain_of s.domain := with_object domain) ∷ (Region_of s := after_registration s at rights region) ∷ []))))
  where
    registered : Grant → List Update → Plan
    registered g changes = Answer_plan call (answers.Key g.key) changes (marks.Granted g ∷ [])

-- AllocMr
abbrev pub alloc_mr_plan : Call → Slot → ℕ → Plan
alloc_mr_plan call s pages = Look (Domain_of s.domain) (λ domain. Look (Region_of s) (λ region.
    Unless_plan call
    ((not domain.allocated, NoDomain) ∷ (not (is_vacant_region region), SlotTaken)
    ∷ ((pages == 0) || nat_lt MAX_PAGES pages, OutOfRange fields.Pages) ∷ [])
    (Answer_plan call answers.Fine
    ((Domain_of s.domain := with_object domain) ∷ (Region_of s := after_allocation pages region) ∷ []) [])))

-- DeregMr: a key that was valid is revoked
abbrev pub dereg_mr_plan : Call → Slot → Plan
dereg_mr_plan call s = Look (Domain_of s.domain) (λ domain. Look (Region_of s) (λ region.
    Unless_plan call (of_region_refusals (deregistration_refusals region))
    (Answer_plan call answers.Fine
    ((Domain_of s.domain := without_object domain) ∷ (Region_of s := after_deregistration region) ∷ [])
    (option_map_or (λ g. marks.Revoked s.domain.adapter g.key ∷ []) (grant_of_region region) []))))

-- The verbs on protection domains. Contracts cite it.
use Rattle.std.specs.Prelude.{nat_lt, true, false, not, [], ◌∷◌}
use Rattle.ca_keys.specs.declared.names.DomainId.{DomainId}
use Rattle.ca_base.specs.objects.Domain.{with_allocation}
use Rattle.ca_model.specs.declared.answer.Answer.TheVariants as answers
use Rattle.ca_model.specs.declared.answer.Refusal.TheVariants.{DomainInUse, DomainTaken, NoDomain}
use Rattle.ca_model.specs.machine.Plan.{Plan, Look, ◌:=◌}
use Rattle.ca_model.specs.machine.VerbAnswers.{Call, Answer_plan, Unless_plan}
use Rattle.ca_model.specs.machine.World.{Domain_of}

-- AllocPd
abbrev pub alloc_pd_plan : Call → DomainId → Plan
alloc_pd_plan call d = Look (Domain_of d) (λ domain.
    Unless_plan call ((domain.allocated, DomainTaken) ∷ [])
    (Answer_plan call answers.Fine ((Domain_of d := with_allocation true domain) ∷ []) []))

-- DeallocPd
abbrev pub dealloc_pd_plan : Call → DomainId → Plan
dealloc_pd_plan call d = Look (Domain_of d) (λ domain.
    Unless_plan call ((not domain.allocated, NoDomain) ∷ (nat_lt 0 domain.objects, DomainInUse) ∷ [])
    (Answer_plan call answers.Fine ((Domain_of d := with_allocation false domain) ∷ []) []))

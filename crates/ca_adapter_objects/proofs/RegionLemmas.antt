-- The first refusal of a region that holds answers a verb on it. For proofs only.
use Rattle.std.proofs.Common.{◌≡◌, ◌∙◌, refl, sym, ap, ap₂, ℕ, Bool, true, false, not, List, [], ◌∷◌, Some, if◌then◌else◌}
use Rattle.std.specs.Option.{option_map, option_map_or}
use Rattle.ca_keys.specs.Refusals.{first_of}
use Rattle.ca_base.specs.declared.refusals.RegionError.{RegionError}
use Rattle.ca_model.specs.declared.answer.Answer.TheVariants as answers
use Rattle.ca_model.specs.declared.answer.Refusal.{Refusal}
use Rattle.ca_model.specs.declared.answer.Refusal.TheVariants as refusals
use Rattle.ca_model.specs.Answers.{refusal_of_region}
use Rattle.ca_model.specs.machine.Plan.{Did, Outcome, Plan, perform, ◌:=◌}
use Rattle.ca_model.specs.machine.VerbAnswers.{Answer_plan, Call, Unless_plan, answer_mark, of_region_refusals}
use Rattle.ca_model.specs.machine.RegionVerbs.{dereg_mr_plan, reg_mr_plan}
use Rattle.ca_model.specs.machine.World.{Domain_of, Region_of, World}
use Rattle.ca_model.specs.declared.mark.Mark.TheVariants as marks
use Rattle.ca_base.specs.Grants.{grant_of_registration, next_low, registration_refusals}
use Rattle.ca_base.specs.objects.Domain.{with_object, without_object}
use Rattle.ca_keys.specs.declared.grant.Grant.{Grant}
use Rattle.ca_base.specs.objects.Region.{after_deregistration, after_registration, deregistration_refusals, grant_of_region, is_vacant_region}
use Rattle.ca_keys.specs.declared.names.Slot.{Slot}
use Rattle.ca_keys.specs.declared.place.Run.{Run}
use Rattle.ca_keys.specs.declared.rights.Rights.{Rights}
use Rattle.ca_adapter_acts.proofs.RefusalLemmas.{unless-refused}

-- the first refusal of a region, as a verb's
first-of-region : (tests : List (Bool × RegionError)) → first_of (of_region_refusals tests) ≡ option_map refusal_of_region (first_of tests)
first-of-region [] = refl
first-of-region (t ∷ ts) = by t.0 (first-of-region ts)
  where
    by : (b : Bool) → first_of (of_region_refusals ts) ≡ option_map refusal_of_region (first_of ts)
        → (if b then Some (refusal_of_region t.1) else first_of (of_region_refusals ts)) ≡ option_map refusal_of_region (if b then Some t.1 else first_of ts)
    by true again = refl
    by false again = again

pub region_refused : (w : World) (call : Call) (p : Plan) (tests : List (Bool × RegionError)) (e : RegionError) (r : Refusal) → first_of tests ≡ Some e
    → r ≡ refusal_of_region e
    → perform w (Unless_plan call (of_region_refusals tests) p) ≡ Did w (answer_mark call (answers.Refused r) ∷ [])
region_refused w call p tests e r first is = unless-refused w call p (of_region_refusals tests) r
    (first-of-region tests ∙ ap (option_map refusal_of_region) first ∙ ap Some (sym is))

-- DeregMr, and RegMr of a vacant slot in a domain that is allocated
pub dereg_refused : (w : World) (call : Call) (s : Slot) (e : RegionError) (r : Refusal) → first_of (deregistration_refusals (w.region s)) ≡ Some e
    → r ≡ refusal_of_region e
    → perform w (dereg_mr_plan call s) ≡ Did w (answer_mark call (answers.Refused r) ∷ [])
dereg_refused w call s e r first is = region_refused w call done (deregistration_refusals (w.region s)) e r first is
  where
    done : Plan
    done = Answer_plan call answers.Fine
        ((Domain_of s.domain := without_object (w.domain s.domain)) ∷ (Region_of s := after_deregistration (w.region s)) ∷ [])
        (option_map_or (λ g. marks.Revoked s.domain.adapter g.key ∷ []) (grant_of_region (w.region s)) [])

pub reg_refused : (w : World) (call : Call) (s : Slot) (at : Run) (bytes : ℕ) (rights : Rights) (e : RegionError) (r : Refusal)
    → (w.domain s.domain).allocated ≡ true → is_vacant_region (w.region s) ≡ true → first_of (registration_refusals at bytes rights) ≡ Some e
    → r ≡ refusal_of_region e
    → perform w (reg_mr_plan call s at bytes rights) ≡ Did w (answer_mark call (answers.Refused r) ∷ [])
reg_refused w call s at bytes rights e r allocated vacant first is =
    ap₂ (λ a v. if not a then refused refusals.NoDomain else if not v then refused refusals.SlotTaken else rest) allocated vacant
    ∙ region_refused w call (done (grant_of_registration s at rights (next_low (w.region s).low))) (registration_refusals at bytes rights) e r first is
  where
    refused : Refusal → Outcome
    refused x = Did w (answer_mark call (answers.Refused x) ∷ [])

    done : Grant → Plan
    done g = Answer_plan call (answers.Key g.key)
        ((Domain_of s.domain := with_object (w.domain s.domain)) ∷ (Region_of s := after_registration s at rights (w.region s)) ∷ []) (marks.Granted g ∷ [])

    rest : Outcome
    rest = perform w (Unless_plan call (of_region_refusals (registration_refusals at bytes rights)) (done (grant_of_registration s at rights (next_low (w.region s).low))))

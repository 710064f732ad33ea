-- The first refusal that holds answers a verb. For proofs only.
use Rattle.std.proofs.Common.{◌≡◌, refl, sym, ap, Bool, true, false, List, [], ◌∷◌, None, Some, is_some, if◌then◌else◌, true≢false}
use Rattle.std.specs.Option.{option_map_or}
use Rattle.ca_keys.specs.Refusals.{first_of}
use Rattle.ca_model.specs.declared.answer.Answer.TheVariants as answers
use Rattle.ca_model.specs.declared.answer.Refusal.{Refusal}
use Rattle.ca_model.specs.machine.Plan.{Did, Outcome, Plan, perform}
use Rattle.ca_model.specs.machine.VerbAnswers.{Call, Unless_plan, answer_mark}
use Rattle.ca_model.specs.machine.World.{World}

-- the first refusal that holds answers the verb; where none holds, the plan goes on
pub unless-refused : (w : World) (call : Call) (p : Plan) (tests : List (Bool × Refusal)) (r : Refusal) → first_of tests ≡ Some r
    → perform w (Unless_plan call tests p) ≡ Did w (answer_mark call (answers.Refused r) ∷ [])
unless-refused w call p [] r is = absurd (true≢false (sym (ap is_some is)))
unless-refused w call p (t ∷ ts) r is = by t.0 is (unless-refused w call p ts r)
  where
    refused : Refusal → Outcome
    refused x = Did w (answer_mark call (answers.Refused x) ∷ [])

    by : (b : Bool) → (if b then Some t.1 else first_of ts) ≡ Some r → (first_of ts ≡ Some r → perform w (Unless_plan call ts p) ≡ refused r)
        → (if b then refused t.1 else perform w (Unless_plan call ts p)) ≡ refused r
    by true is again = ap (λ o. option_map_or refused o (refused r)) is
    by false is again = again is

pub unless-passed : (w : World) (call : Call) (p : Plan) (tests : List (Bool × Refusal)) → first_of tests ≡ None
    → perform w (Unless_plan call tests p) ≡ perform w p
unless-passed w call p [] is = refl
unless-passed w call p (t ∷ ts) is = by t.0 is (unless-passed w call p ts)
  where
    refused : Outcome
    refused = Did w (answer_mark call (answers.Refused t.1) ∷ [])

    by : (b : Bool) → (if b then Some t.1 else first_of ts) ≡ None → (first_of ts ≡ None → perform w (Unless_plan call ts p) ≡ perform w p)
        → (if b then refused else perform w (Unless_plan call ts p)) ≡ perform w p
    by true is again = absurd (true≢false (ap is_some is))
    by false is again = again is

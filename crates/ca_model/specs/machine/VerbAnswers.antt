-- How a verb's plan ends: an answer, or a refusal that changes nothing. Contracts cite it.
use Rattle.std.specs.Prelude.{ℕ, Bool, List, [], ◌∷◌, map}
use Rattle.ca_base.specs.declared.change.ModifyRefusal.{ModifyRefusal}
use Rattle.ca_base.specs.declared.refusals.RegionError.{RegionError}
use Rattle.ca_model.specs.declared.answer.Answer.{Answer}
use Rattle.ca_model.specs.declared.answer.Answer.TheVariants as answers
use Rattle.ca_model.specs.declared.answer.Refusal.{Refusal}
use Rattle.ca_model.specs.declared.mark.Mark.{Mark}
use Rattle.ca_model.specs.declared.mark.Mark.TheVariants as marks
use Rattle.ca_model.specs.declared.verb.Verb.{Verb}
use Rattle.ca_model.specs.Answers.{refusal_of_change, refusal_of_region}
use Rattle.ca_model.specs.machine.Plan.{Plan, Finish, Update, unless_refused}

-- who calls which verb
pub record Call : Type 0 where
  pub by : ℕ
  pub verb : Verb

-- the mark of its answer
abbrev pub answer_mark : Call → Answer → Mark
answer_mark call answer = marks.Verb call.by call.verb answer

-- the verb is done, with these changes and marks
abbrev pub Answer_plan : Call → Answer → List Update → List Mark → Plan
Answer_plan call answer changes ms = Finish changes [] (answer_mark call answer ∷ ms)

-- the verb is refused, and changes nothing
abbrev pub Refuse_plan : Call → Refusal → Plan
Refuse_plan call refusal = Answer_plan call (answers.Refused refusal) [] []

-- the first refusal that holds answers the verb
abbrev pub Unless_plan : Call → List (Bool × Refusal) → Plan → Plan
Unless_plan call tests p = unless_refused tests (Refuse_plan call) p

-- the refusals of a region, and of a queue pair's change, as those of a verb
abbrev pub of_region_refusals : List (Bool × RegionError) → List (Bool × Refusal)
of_region_refusals tests = map (λ t. (t.0, refusal_of_region t.1)) tests

abbrev pub of_change_refusals : List (Bool × ModifyRefusal) → List (Bool × Refusal)
of_change_refusals tests = map (λ t. (t.0, refusal_of_change t.1)) tests

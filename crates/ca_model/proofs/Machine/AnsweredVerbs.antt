-- A verb beside its answer, as tables of verbs write it. For proofs only.
use Rattle.std.proofs.Common.{List, ◌∷◌, Option, None, Some}
use Rattle.ca_model.specs.declared.answer.Answer.{Answer}
use Rattle.ca_model.specs.declared.answer.Answer.TheVariants as answers
use Rattle.ca_model.specs.declared.answer.Refusal.{Refusal}
use Rattle.ca_model.specs.declared.mark.Mark.{Mark}
use Rattle.ca_model.specs.declared.mark.Mark.TheVariants as marks
use Rattle.ca_model.specs.declared.verb.Verb.{Verb}

pub record AnsweredVerb : Type 0 where
  pub verb : Verb
  pub answer : Answer

infix 10 ◌⟶◌
abbrev pub ◌⟶◌ : Verb → Answer → AnsweredVerb
verb ⟶ answer = record { verb = verb; answer = answer }

abbrev pub refused : Refusal → Answer
refused refusal = answers.Refused refusal

-- the answer of a verb is its first mark
abbrev pub answer_in : List Mark → Option Answer
answer_in (marks.Verb by verb answer ∷ ms) = Some answer
answer_in ms = None

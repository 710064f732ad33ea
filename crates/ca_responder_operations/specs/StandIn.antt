-- An answer that stands at the end of a response queue for one to come. Contracts cite it.
use Rattle.std.specs.Prelude.{ℕ, ◌+◌, ◌≤◌, List, [], ◌∷◌, ◌++◌}
use Rattle.std.specs.List.{AllByRecursion}
use Rattle.ca_base.specs.declared.queue_numbers.Queued.{Queued}
use Rattle.ca_base.specs.declared.queue_numbers.Queued.TheVariants as queued
use Rattle.ca_base.specs.objects.Answers.{psn_of_answer}

-- the answers wait at this PSN, or before it
abbrev pub AreUntil : ℕ → List Queued → Type 0
AreUntil psn answers = AllByRecursion (λ a. psn_of_answer a ≤ psn) answers

-- an acknowledgement of the next PSN stands behind them
abbrev pub with_stand_in : ℕ → List Queued → List Queued
with_stand_in psn answers = answers ++ queued.Ack (psn + 1) ∷ []

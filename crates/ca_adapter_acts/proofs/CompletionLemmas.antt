-- The completions among one mark more. For proofs only.
use Rattle.std.proofs.Common.{◌≡◌, ◌∙◌, refl, sym, ap, ℕ, List, [], ◌∷◌, ◌++◌, append_assoc}
use Rattle.std.proofs.lemmas.List.{append-nil}
use Rattle.ca_base.specs.declared.completion.Completion.{Completion}
use Rattle.ca_base.specs.objects.QueuePair.{QueuePair}
use Rattle.ca_model.specs.declared.mark.Mark.{Mark}
use Rattle.ca_model.specs.machine.Around.{completions_to}

completions-step : (q : QueuePair) (cq : ℕ) (m : Mark) (ms : List Mark) → completions_to q cq (m ∷ ms) ≡ completions_to q cq (m ∷ []) ++ completions_to q cq ms
completions-step q cq m ms = rw append-nil refl

pub completion_pushed : (q : QueuePair) (cq : ℕ) (m : Mark) (ms : List Mark) (before pushed all : List Completion) → before ++ completions_to q cq (m ∷ ms) ≡ all
    → pushed ≡ before ++ completions_to q cq (m ∷ []) → pushed ++ completions_to q cq ms ≡ all
completion_pushed q cq m ms before pushed all so one =
    ap (λ cs. cs ++ completions_to q cq ms) one ∙ append_assoc before (completions_to q cq (m ∷ [])) (completions_to q cq ms)
    ∙ ap (λ cs. before ++ cs) (sym (completions-step q cq m ms)) ∙ so

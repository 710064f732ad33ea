-- What is removed from a response queue, and what takes its place.
use Rattle.std.proofs.Common.{◌≡◌, ℕ, ◌-◌, ◌<◌, nat_lt, refl, ap, ◌∙◌, List, [], ◌∷◌, ◌++◌, length, slice_set}
use Rattle.std.proofs.lemmas.Bool.{lt-ltb}
use Rattle.std.proofs.lemmas.List.Elements.{filter-append}
use Rattle.ca_base.specs.declared.queue_numbers.Queued.{Queued}
use Rattle.ca_base.specs.declared.queue_numbers.Queued.TheVariants.{Ack}
use Rattle.ca_base.specs.objects.Answers.{answers_before, psn_of_answer}
use Rattle.ca_responder_operations.proofs.of_ca_responder_answers.EndLemmas.{end-set}

kept : (psn n : ℕ) → n < psn → answers_before psn (Ack n ∷ []) ≡ Ack n ∷ []
kept psn n lt = rw (lt-ltb n psn lt) refl

-- an acknowledgement before the PSN stays
before-end : (psn n : ℕ) (xs : List Queued) → n < psn → answers_before psn (xs ++ Ack n ∷ []) ≡ answers_before psn xs ++ Ack n ∷ []
before-end psn n xs lt =
    filter-append (λ a. nat_lt (psn_of_answer a) psn) xs (Ack n ∷ []) ∙ ap (λ ys. answers_before psn xs ++ ys) (kept psn n lt)

-- and another answer takes its place
pub replaced : (psn n : ℕ) (answer : Queued) (old pushed left new : List Queued) → n < psn → pushed ≡ old ++ Ack n ∷ [] → left ≡ answers_before psn pushed
    → new ≡ slice_set left (length left - 1) answer → new ≡ answers_before psn old ++ answer ∷ []
replaced psn n answer old pushed left new lt e f g =
    g ∙ ap (λ xs. slice_set xs (length xs - 1) answer) (f ∙ ap (λ xs. answers_before psn xs) e ∙ before-end psn n old lt)
    ∙ end-set (answers_before psn old) (Ack n) answer

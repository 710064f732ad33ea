use Rattle.std.proofs.Common.{ap, ◌∙◌, [], ◌∷◌, ◌++◌, ◌-◌, ◌+◌, ℕ, length, List, slice_set}
use Rattle.ca_base.specs.declared.queue_numbers.Queued.{Queued}
use Rattle.ca_base.specs.declared.queue_numbers.Queued.TheVariants.{Ack, Nak}
use Rattle.ca_responder_answers.proofs.EndLemmas.{end-set}
use Rattle.ca_responder_operations.proofs.stand_in.replace_by_nak.Goals as goal

pub returns : goal.returns
returns c = λ before is.
    c.set_last.ensures ∙ ap (λ (xs : List Queued). slice_set xs (length xs - 1) (Nak c.args.psn c.code.result)) is
    ∙ end-set before (Ack (c.args.psn + 1)) (Nak c.args.psn c.code.result) ∙ ap (λ (code : ℕ). before ++ Nak c.args.psn code ∷ []) c.code.ensures

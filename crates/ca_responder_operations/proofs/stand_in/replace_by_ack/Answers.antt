use Rattle.std.proofs.Common.{sym, ap, ◌∙◌, ◌-◌, ◌+◌, length, List, slice_set}
use Rattle.ca_base.specs.declared.queue_numbers.Queued.{Queued}
use Rattle.ca_base.specs.declared.queue_numbers.Queued.TheVariants.{Ack}
use Rattle.ca_base.specs.objects.Answers.{answers_before}
use Rattle.ca_responder_operations.proofs.StandInLemmas.{given_for, given_up, taken_by}
use Rattle.ca_responder_operations.proofs.stand_in.replace_by_ack.Goals as goal

pub returns-then-not-ack : goal.returns-then-not-ack
returns-then-not-ack c = λ before is until.
    rw c.if-not-ack.true (c.keep_before.ensures ∙ ap (λ (xs : List Queued). answers_before (c.args.psn + 1) xs) is ∙ given_up c.args.psn before until)

pub returns-then-is_behind_ack : goal.returns-then-is_behind_ack
returns-then-is_behind_ack c = λ before is until.
    rw c.if-not-ack.false (given_for c.args.psn before c.keep_before-then-is_behind_ack.new.self c.set_last.new.self until
    (sym (c.is_behind_ack.ensures before (Ack (c.args.psn + 1)) is) ∙ c.if-is_behind_ack.true)
    (c.keep_before-then-is_behind_ack.ensures ∙ ap (λ (xs : List Queued). answers_before (c.args.psn + 1) xs) is) c.set_last.ensures)

pub returns : goal.returns
returns c = λ before is until.
    rw c.if-not-ack.false (taken_by c.args.psn before c.set_last-2.new.self
    (sym (c.is_behind_ack.ensures before (Ack (c.args.psn + 1)) is) ∙ c.if-is_behind_ack.false)
    (c.set_last-2.ensures ∙ ap (λ (xs : List Queued). slice_set xs (length xs - 1) (Ack c.args.psn)) is))

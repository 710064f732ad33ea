use Rattle.std.proofs.Common.{arith, ap, sym, ◌∙◌, length, List, slice_get}
use Rattle.ca_base.specs.declared.queue_numbers.Queued.{Queued}
use Rattle.ca_responder_operations.proofs.StandInLemmas.{ack-at, before_end}
use Rattle.ca_responder_operations.proofs.stand_in.is_behind_ack.Goals as goal

pub returns-in-Some-get : goal.returns-in-Some-get
returns-in-Some-get c = λ before answer is.
    c.is_ack.ensures ∙ ap ack-at (sym c.in-Some-get.is ∙ c.get.ensures ∙ ap (λ (xs : List Queued). slice_get xs c.in-Some.index) is)
    ∙ before_end before answer c.in-Some.index (omega (arith, c.in-Some.ensures, c.len.ensures, ap length is))

pub returns-in-None : goal.returns-in-None
returns-in-None c = λ before answer is.
    ap ack-at (sym c.in-None.is ∙ c.get.ensures ∙ ap (λ (xs : List Queued). slice_get xs c.in-Some.index) is)
    ∙ before_end before answer c.in-Some.index (omega (arith, c.in-Some.ensures, c.len.ensures, ap length is))

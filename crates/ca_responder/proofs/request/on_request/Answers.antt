use Rattle.std.proofs.Common.{refl, None, Some}
use Rattle.std.proofs.lemmas.Result.{err_from_is_err_and}
use Rattle.ca_responder.proofs.ArrivalLemmas.{arrives_taken, none_taken, some_taken}
use Rattle.ca_responder.proofs.request.on_request.Goals as goal

pub returns-in_default : goal.returns-in_default
returns-in_default g c =
    rw c.in_default.is (arrives_taken _ _ c.in_ok-take_request.field-0 _ _ _ _ _ _ _ None None (none_taken c.in_ok-take_request.field-0) c.in_ok-take_request.ensures)

pub returns-in_err-taken : goal.returns-in_err-taken
returns-in_err-taken g c =
    let p = err_from_is_err_and c.from_residual-in_err-taken.result c.from_residual-in_err-taken.ensures.1 in
    rw (p.1, c.in-Some.is) (c.in_err-taken.ensures.0, (c.in_err-taken.ensures.1, refl))

pub returns : goal.returns
returns g c =
    rw c.in-Some.is (arrives_taken _ _ c.in_ok-taken.taken _ _ _ _ _ _ _ (Some c.in-Some.srq.now) (Some c.take_shared.new.srq)
    (some_taken c.in_ok-taken.taken c.in-Some.srq.now c.take_shared.new.srq c.take_shared.ensures) c.in_ok-taken.ensures)

use Rattle.std.proofs.Common.{[], sym, subst, Ok}
use Rattle.ca_adapter_store.specs.Hand.{names_of}
use Rattle.ca_adapter_store.specs.Rest.{KeepsRest}
use Rattle.ca_script_run.proofs.EventLemmas.{left_otherwise}
use Rattle.ca_script_run.proofs.KnownLemmas.{left_still}
use Rattle.ca_script_run.specs.Progress.{IsLeftBy, IsTried}
use Rattle.ca_script_run.proofs.events.make_known.Goals as goal

pub returns-in-Did-clause-tried : goal.returns-in-Did-clause-tried
returns-in-Did-clause-tried c = λ s g at. subst (λ o. IsTried s c.args.event g c.make.new.progress (Ok o)) c.in-Did.is (c.in_ok-outcome.ensures.tried s g at)

pub returns-in-Did-clause-known : goal.returns-in-Did-clause-known
returns-in-Did-clause-known c = λ round k w v one other known. c.forget.ensures round w v known
    (subst (λ xs. KeepsRest (names_of xs) w v) (sym c.as_slice.ensures.value)
    (subst (λ o. IsLeftBy (Ok o) c.args.progress.now.row c.make.new.progress.row) c.in-Did.is c.in_ok-outcome.ensures.rest k w v one other))

pub returns-in_default-clause-known : goal.returns-in_default-clause-known
returns-in_default-clause-known c = λ round k w v one other known. left_still round w v [] c.args.known.now known
    (left_otherwise c.in_ok-outcome.outcome _ _ c.in_default.not-Did c.in_ok-outcome.ensures.rest k w v one other)

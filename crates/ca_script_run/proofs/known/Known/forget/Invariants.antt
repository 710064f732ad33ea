use Rattle.std.proofs.Common.{drop}
use Rattle.ca_engine.specs.declared.offer.Offer.{Offer}
use Rattle.ca_model.specs.machine.World.{World}
use Rattle.std.proofs.Common.{List}
use Rattle.ca_adapter_store.specs.Hand.{names_of}
use Rattle.ca_script_run.specs.Known.{AreKnown, AreLeft}
use Rattle.ca_script_run.proofs.known.Known.forget.Given as goal

-- what is known is by no part of those so far
abbrev pub invariant-loop-one : goal.invariant-loop-one
invariant-loop-one l = (round : List Offer) (w : World) → AreKnown round w l.fn.self → AreLeft round w (names_of (drop l.one-index l.taken)) (names_of l.taken) l.self

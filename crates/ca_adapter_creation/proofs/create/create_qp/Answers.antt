use Rattle.std.proofs.Common.{◌≡◌, sym, subst, arith}
use Rattle.std.proofs.lemmas.Grind.{common_steps}
use Rattle.ca_adapter_acts.specs.Act.{IsAct}
use Rattle.ca_adapter_acts.specs.Calls.{call_of}
use Rattle.ca_base.specs.Configuration.{configuration_in}
use Rattle.ca_adapter_parts.specs.HeldView.{holding}
use Rattle.ca_model.specs.machine.Plan.{perform}
use Rattle.ca_model.specs.machine.QueuePairVerbs.{create_qp_plan}
use Rattle.ca_adapter_creation.specs.Made.{outcome_of_creation}
use Rattle.ca_adapter_creation.proofs.CreateLemmas.{made_outcome}
use Rattle.ca_adapter_creation.proofs.create.create_qp.Goals as goal

pub returns : goal.returns
returns c = let is : perform (holding c.args.held.now).world (create_qp_plan (configuration_in c.args.settings.now) (call_of c.args.call.now) c.args.creation.now)
    ≡ outcome_of_creation (call_of c.args.call.now) c.args.creation.now c.in-Some-receive_room.room (holding c.args.held.now).world
    = grind (arith, common_steps, made_outcome)
    in record { act = subst (λ o. IsAct c.make.result o (holding c.args.held.now) (holding c.make.new.held)) (sym is) c.make.ensures }

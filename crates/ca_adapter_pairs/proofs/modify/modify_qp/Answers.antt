use Rattle.std.proofs.Common.{rules, ◌≡◌, sym, subst, None, IfSome}
use Rattle.ca_adapter_acts.specs.Calls.{call_of}
use Rattle.ca_base.specs.Configuration.{configuration_in}
use Rattle.ca_base.specs.objects.QueuePair.{Present, queue_in}
use Rattle.ca_base.specs.objects.StateTable.{modify_refusals}
use Rattle.ca_adapter_parts.specs.HeldView.{holding}
use Rattle.ca_keys.specs.Numbers.{queue_of}
use Rattle.ca_keys.specs.Refusals.{first_of}
use Rattle.ca_model.specs.machine.Sound.{IsQueueOf}
use Rattle.ca_adapter_pairs.specs.Changed.{CanChange, CanChangeAround, slot_after}
use Rattle.ca_adapter_pairs.specs.Names.{names_around}
use Rattle.ca_adapter_pairs.proofs.ModifyLemmas.{can_around, modify_acts, refused_acts}
use Rattle.ca_adapter_pairs.proofs.modify.modify_qp.Goals as goal

pub returns-in-Some : goal.returns-in-Some
returns-in-Some c =
    let is : (holding c.args.held.now).world.queue (queue_of c.args.slot) ≡ Present c.in-Present.queue = search rules in
    record {
      act = refused_acts (configuration_in c.args.settings.now) (call_of c.args.call.now) c.args.slot c.args.change.now (holding c.args.held.now)
          c.in_ok-refuse-2.field-0 c.in-Present.queue c.in-Some.refusal is (search rules) (search rules);
    }

pub change_around-requires-clause-can : goal.change_around-requires-clause-can
change_around-requires-clause-can c =
    let is : (holding c.args.held.now).world.queue (queue_of c.args.slot) ≡ Present c.in-Present.queue = search rules in
    let around : c.of-around.result ≡ names_around c.in-Present.queue = search rules in
    let none : first_of (modify_refusals (configuration_in c.args.settings.now) c.in-Present.queue c.args.change.now) ≡ None = search rules in
    subst (λ a. CanChangeAround a c.args.change.now c.in_ok-flushed.flushed.sends.items c.in_ok-flushed.flushed.receives.items (holding c.change_in.new.held).world) (sym around)
    (can_around (configuration_in c.args.settings.now) c.args.change.now c.in-Present.queue (holding c.args.held.now) (holding c.change_in.new.held)
    c.of_slot-name.result (slot_after c.args.change.now ((holding c.args.held.now).world.queue c.of_slot-name.result))
    c.in_ok-flushed.flushed.sends.items c.in_ok-flushed.flushed.receives.items none
    (subst (λ v. IfSome (queue_in v) (λ q. CanChange (configuration_in c.args.settings.now) c.args.change.now q (holding c.args.held.now).world)) is c.requires.can)
    c.change_in.ensures (search rules) (search rules))

pub returns : goal.returns
returns c =
    let is : (holding c.args.held.now).world.queue (queue_of c.args.slot) ≡ Present c.in-Present.queue = search rules in
    let none : first_of (modify_refusals (configuration_in c.args.settings.now) c.in-Present.queue c.args.change.now) ≡ None = search rules in
    record {
      act = modify_acts (configuration_in c.args.settings.now) (call_of c.args.call.now) c.args.slot c.args.change.now (holding c.args.held.now)
          (holding c.change_in.new.held) (holding c.change_around.new.held) c.append.new.self c.in-Present.queue
          c.in_ok-flushed.flushed.sends.items c.in_ok-flushed.flushed.receives.items
          is (subst (IsQueueOf (queue_of c.args.slot)) is c.requires.queue).0 none (search rules) (search rules) (search rules) (search rules) (search rules);
    }

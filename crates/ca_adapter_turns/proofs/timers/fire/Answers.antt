use Rattle.std.proofs.Common.{◌∙◌, sym, ap}
use Rattle.ca_adapter_parts.specs.Parts.{slot_of}
use Rattle.ca_adapter_parts.proofs.HoldLemmas.{put_queue}
use Rattle.ca_adapter_parts.specs.declared.part.QueueSlot.TheVariants as slots
use Rattle.ca_adapter_parts.specs.HeldView.{holding}
use Rattle.ca_keys.specs.Refusals.{first_of}
use Rattle.ca_model.specs.machine.Timers.{after_timeout, timeout_refusals}
use Rattle.ca_adapter_turns.proofs.TurnLemmas.{has-stepped}
use Rattle.ca_adapter_turns.proofs.timers.fire.Goals as goal

pub returns-clause-stepped : goal.returns-clause-stepped
returns-clause-stepped c = has-stepped (holding c.args.held.now) _ c.args.queue c.in-Present.q c.on_timeout.new.q (sym (ap slot_of c.in-Present.is) ∙ c.queue_mut.ensures.value) (put_queue c.args.held.now c.args.queue (slots.Present c.on_timeout.new.q) c.requires.held)
    c.on_timeout.result (λ q. first_of (timeout_refusals c.args.silent c.args.hasten q)) (after_timeout c.args.silent) c.args.marks.now c.on_timeout.new.marks c.on_timeout.ensures

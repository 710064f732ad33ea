use Rattle.std.proofs.Common.{◌∙◌, sym}
use Rattle.ca_adapter_turns.specs.Senders.{row_of}
use Rattle.ca_adapter_turns.proofs.ReachLemmas.{has-turned}
use Rattle.ca_adapter_turns.proofs.sending.turn_held.Goals as goal

pub returns-clause-turned : goal.returns-clause-turned
returns-clause-turned c = has-turned c.args.held.now c.args.queue c.at_mut-slot.result.now c.in-Present.q c.turn.new.q c.turn.new.reach
    (sym c.at_mut-slot.ensures.value) (sym c.deref_mut.ensures.value ∙ c.in-Present.is) c.turn.result (row_of c.args.sender c.args.room) c.args.marks.now c.turn.new.marks
    c.args.out.now.items c.turn.new.out.items c.requires.empty c.turn.ensures.turn

use Rattle.std.proofs.Common.{◌∙◌, None, Some, ap, subst, sym}
use Rattle.std.specs.Option.{option_copied}
use Rattle.ca_adapter_store.proofs.LookLemmas.{queue_seen}
use Rattle.ca_adapter_store.specs.Looks.{IsQueueIn}
use Rattle.ca_adapter_store.proofs.row.Row.queue.Goals as goal

pub returns-in-None : goal.returns-in-None
returns-in-None c = λ k w of. queue_seen c.args.self.now c.args.queue k w of None (sym (ap option_copied c.in-None.is) ∙ c.part.ensures)

pub returns-in-Some : goal.returns-in-Some
returns-in-Some c = λ k w of. subst (IsQueueIn w c.args.queue) (sym c.slot_in.ensures)
    (queue_seen c.args.self.now c.args.queue k w of (Some c.in-Some.part.now) (sym (ap option_copied c.in-Some.is) ∙ c.part.ensures))

use Rattle.std.proofs.Common.{length, ap, sym}
use Rattle.ca_model.proofs.HistoryLemmas.{entries-push}
use Rattle.ca_model.proofs.history.History.push.Goals as goal

pub invariant_of-self-2 : goal.invariant_of-self-2
invariant_of-self-2 c = rw c.in_ok-push.ensures.items (entries-push _ (length c.args.self.now) _ c.self.invariant (ap length (sym c.self.view_is)) c.requires)

use Rattle.std.proofs.Common.{◌∙◌, List, ap, is_none, slice_get}
use Rattle.ca_isolation.proofs.CallLemmas.{empty-first, strays-kept}
use Rattle.ca_isolation.specs.Groups.{group_of, strays_of}
use Rattle.ca_isolation.proofs.strays.closed.Goals as goal
use Rattle.ca_keys.specs.declared.names.QueueId.{QueueId}
use Rattle.ca_model.specs.Entries.{EntryValue}

pub returns-clause-first : goal.returns-clause-first
returns-clause-first c = c.first_of_entries.ensures ∙ ap (λ (qs : List QueueId). slice_get qs 0) (strays-kept (group_of c.args.group.now) c.as_slice.result.now)
    ∙ ap (λ (es : List EntryValue). slice_get (strays_of (group_of c.args.group.now) es) 0) c.as_slice.ensures.entries

pub returns-clause-closed : goal.returns-clause-closed
returns-clause-closed c = ap is_none (returns-clause-first c) ∙ empty-first (strays_of (group_of c.args.group.now) c.args.h.now)

use Rattle.std.proofs.Common.{List, [], ◌∷◌, ◌++◌, length, subst, sym}
use Rattle.ca_run_alone.proofs.CollectLemmas.{IsCollecting, collect-entry}
use Rattle.ca_run_alone.proofs.collecting.history_of.Goals as goal
use Rattle.ca_model.specs.Entries.{EntryValue}
use Rattle.ca_model.specs.History.{IsEntry}
use Rattle.ca_script_run.specs.ca_adapter_store.Replays.{history_of}

pub push-requires : goal.push-requires
push-requires c =
    let whole : List EntryValue = history_of c.args.events.items c.args.all.items in
    subst (λ n. IsEntry (length c.loop-event.history) (record { stamp = n; pass = 0; event = c.in-Some.event; marks = c.in-Some-pop.marks.marks })) (sym c.len.ensures)
    (collect-entry whole c.loop-event.history c.pop.new.self.items c.pop-in-Some.new.self.items c.in-Some.event c.in-Some-pop.marks
    (subst (λ es. IsCollecting whole c.loop-event.history es (c.pop-in-Some.new.self.items ++ c.in-Some-pop.marks ∷ [])) c.in-Some.ensures.items
    (subst (λ ms. IsCollecting whole c.loop-event.history c.loop-event.left.items ms) c.in-Some-pop.ensures.items c.loop-event.invariant))
    c.requires)

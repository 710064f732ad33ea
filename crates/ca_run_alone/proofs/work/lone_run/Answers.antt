use Rattle.std.proofs.Common.{◌≡◌, ◌∙◌, Err, Ok, ap, map, subst, sym}
use Rattle.ca_run_alone.proofs.CollectLemmas.{collected-events, collected-follows}
use Rattle.ca_run_alone.proofs.LoneLemmas.{if-ok, never-refused, runs-same}
use Rattle.ca_run_alone.proofs.work.lone_run.Goals as goal
use Rattle.ca_run_alone.specs.Lone.{IsLoneRun}
use Rattle.ca_base.specs.Configuration.{Configuration, configuration_of}
use Rattle.ca_isolation.specs.Alone.{alone_entries, alone_events}
use Rattle.ca_isolation.specs.Groups.{Group, group_of}
use Rattle.ca_keys.specs.Memory.{ByteMap, zeros}
use Rattle.ca_isolation.specs.Cover.{AreInReach}
use Rattle.ca_model.specs.Entries.{EntryValue}
use Rattle.ca_model.specs.machine.Run.{run_over}
use Rattle.ca_adapter_opening.specs.Opening.{opening_bytes}
use Rattle.ca_script_run.specs.ca_adapter_store.Replays.{history_of, marks_of_each}

pub unreachable-requires : goal.unreachable-requires
unreachable-requires c =
    let k : Configuration = configuration_of c.args.config in
    let group : Group = group_of c.args.group.now in
    let reach : AreInReach c.args.history.now = c.grants_are_in_reach.ensures k zeros c.args.history.now c.requires.limited c.events_can_be_made.ensures c.requires.follows in
    never-refused (run_over k (opening_bytes k c.in_ok-contents.contents) c.as_slice.result.now) (Err c.in-Err-NotReady.field-0)
    (map (λ (e : EntryValue). e.marks) (alone_entries group zeros c.args.history.now)) c.in-Err-NotReady.field-0-0 c.in-Err-NotReady.field-0-1
    (runs-same k (opening_bytes k c.in_ok-contents.contents) c.as_slice.result.now (alone_events group zeros c.args.history.now)
    (map (λ (e : EntryValue). e.marks) (alone_entries group zeros c.args.history.now)) c.in_ok-contents.ensures.zeros
    (c.as_slice.ensures.value ∙ c.in_ok-events.ensures reach zeros)
    (c.lone_runs_exist.ensures.possible k group c.args.history.now c.requires.limited c.events_can_be_made.ensures c.requires.follows c.requires.closed))
    (ap Err c.in-Err-NotReady.field-0-is) c.in-Err-NotReady.ensures.run

pub returns-in-Ok : goal.returns-in-Ok
returns-in-Ok c =
    let k : Configuration = configuration_of c.args.config in
    let group : Group = group_of c.args.group.now in
    let reach : AreInReach c.args.history.now = c.grants_are_in_reach.ensures k zeros c.args.history.now c.requires.limited c.events_can_be_made.ensures c.requires.follows in
    let ran : run_over k zeros c.in_ok-events.events.items ≡ Ok (marks_of_each c.in-Ok.all.items) =
    ap (run_over k zeros) (sym c.as_slice.ensures.value) ∙ ap (λ (b : ByteMap). run_over k b c.as_slice.result.now) (sym c.in_ok-contents.ensures.zeros) ∙ c.in-Ok.ensures.run in
    if-ok c.history_of.result (λ lone. lone ≡ history_of c.in_ok-events.events.items c.in-Ok.all.items) (IsLoneRun k group c.args.history.now)
    (λ lone is. subst (IsLoneRun k group c.args.history.now) (sym is)
    (c.lone_runs_exist.ensures.one k group c.args.history.now (history_of c.in_ok-events.events.items c.in-Ok.all.items) c.requires.limited c.events_can_be_made.ensures c.requires.follows c.requires.closed
    (collected-events k zeros c.in_ok-events.events.items c.in-Ok.all.items ran ∙ c.in_ok-events.ensures reach zeros)
    (collected-follows k zeros c.in_ok-events.events.items c.in-Ok.all.items ran)))
    c.history_of.ensures

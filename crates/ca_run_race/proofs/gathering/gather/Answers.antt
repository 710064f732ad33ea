use Rattle.std.proofs.Common.{◌≡◌, arith, length, map, refl, rules}
use Rattle.ca_verbs_machine.specs.Values.{value_of}
use Rattle.ca_model.specs.Entries.{entry_of}
use Rattle.ca_run_race.proofs.GatherLemmas.{few-entries, gathered}
use Rattle.ca_script.specs.Script.{script_value}
use Rattle.ca_verbs.specs.Passes.{known_of, settings_in}
use Rattle.ca_run_race.proofs.gathering.gather.Goals as goal

pub overflow_cast-row : goal.overflow_cast-row
overflow_cast-row c =
    let left = c.in-Ok.field-0 in
    let n : c.len.result ≡ length left.entries.items = search rules in
    record { fits = omega (arith, n, few-entries (settings_in c.args.fabric) (known_of c.args.work.pass) left.entries.items left.parts.items c.in-Ok.ensures.remains) }

pub returns : goal.returns
returns c =
    let left = c.in-Ok.field-0 in
    let n : c.len.result ≡ length left.entries.items = search rules in
    let parts : map value_of c.in_ok-parts_of.field-0.items ≡ left.parts.items = search rules in
    let history : c.in_ok-history.history ≡ map entry_of left.entries.items = search rules in
    gathered (script_value c.args.script.now) (settings_in c.args.fabric) c.requires.settings (known_of c.args.work.pass) left.entries.items left.parts.items c.in-Ok.ensures.remains
    c.args.work.done.items c.requires.work.2.worked c.works_are_in_their_history.ensures c.worked_histories_are_of_their_scripts.ensures
    (record {
      row = record { settings = c.of.result; parts = c.in_ok-parts_of.field-0; held = c.empty.result; taken = c.new.result; count = c.len.result };
      done = c.args.work.done;
      history = c.in_ok-history.history;
    })
    c.of.ensures parts c.empty.ensures n history refl

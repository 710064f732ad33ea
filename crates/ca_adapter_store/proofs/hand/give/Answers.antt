use Rattle.std.proofs.Common.{◌≡◌, ◌<◌, length, Some}
use Rattle.ca_base.specs.Configuration.{configuration_in}
use Rattle.ca_model_places.specs.Places.{place_of}
use Rattle.ca_adapter_store.proofs.RowLemmas.{set_leaves, set_places, set_there, within_row}
use Rattle.ca_adapter_store.proofs.hand.give.Goals as goal

pub returns : goal.returns
returns c =
    let place : place_of (configuration_in c.args._settings.now) c.args.one.name ≡ Some c.args.one.at = c.requires.at_place in
    let within : c.args.one.at < length c.args.parts.now.items =
    within_row (configuration_in c.args._settings.now) c.args.parts.now.items c.args.one.name c.args.one.at place c.requires.place in
    record {
      part = c.in-Some.part;
      kind = c.in-Some.ensures.kind;
      there = set_there (configuration_in c.args._settings.now) c.args.parts.now.items c.args.one.name c.args.one.at c.in-Some.part place within;
      others = set_leaves (configuration_in c.args._settings.now) c.args.parts.now.items c.args.one.name c.args.one.at c.in-Some.part c.requires.limits place;
      places = set_places (configuration_in c.args._settings.now) c.args.parts.now.items c.args.one.name c.args.one.at c.in-Some.part c.requires.limits place within;
      back = c.in-Some.ensures.part;
      held = c.in-Some.ensures.held;
    }

use Rattle.std.proofs.Common.{◌≡◌, ◌∙◌, ◌<◌, refl, sym, subst, get_or, length, Some}
use Rattle.std.proofs.lemmas.Option.{slice_get_read}
use Rattle.ca_base.specs.Configuration.{configuration_in}
use Rattle.ca_model_places.specs.Places.{place_of}
use Rattle.ca_adapter_store.proofs.RowLemmas.{at_place, kind_there, set_leaves, set_places, within_row}
use Rattle.ca_adapter_store.proofs.hand.take_up.Goals as goal

pub returns : goal.returns
returns c =
    let place : place_of (configuration_in c.args._settings.now) c.args.one.name ≡ Some c.args.one.at = c.requires.place in
    let within : c.args.one.at < length c.args.parts.now.items =
    within_row (configuration_in c.args._settings.now) c.args.parts.now.items c.args.one.name c.args.one.at place (kind_there c.args.one.name _ c.requires.there) in
    record {
      part = c.replace-part.result;
      there = at_place (configuration_in c.args._settings.now) c.args.parts.now.items c.args.one.name c.args.one.at place
          ∙ slice_get_read c.args.parts.now.items (length c.args.parts.now.items) c.args.one.at c.replace-part.result refl within
          (subst (λ x. x ≡ get_or c.args.parts.now.items c.args.one.at x) (sym c.replace-part.ensures.value) c.index_mut.ensures.value);
      others = set_leaves (configuration_in c.args._settings.now) c.args.parts.now.items c.args.one.name c.args.one.at c.replace-part.new.dest c.requires.limits place;
      places = set_places (configuration_in c.args._settings.now) c.args.parts.now.items c.args.one.name c.args.one.at c.replace-part.new.dest c.requires.limits place within;
      held = c.add.ensures.held;
      room = c.add.ensures.room;
    }

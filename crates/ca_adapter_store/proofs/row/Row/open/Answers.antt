use Rattle.std.proofs.Common.{refl, sym, ap, subst}
use Rattle.ca_base.specs.Configuration.{configuration_of}
use Rattle.ca_adapter_opening.specs.Opening.{opening_bytes}
use Rattle.ca_adapter_store.proofs.OpenLemmas.{opens}
use Rattle.ca_adapter_store.specs.Rows.{AreTogether, IsRowOf}
use Rattle.ca_adapter_store.proofs.MadeLemmas.{row_is}
use Rattle.ca_model.specs.machine.World.{opening_world}
use Rattle.ca_adapter.proofs.of_ca_law_parts.Worlds.LeadsLemmas.{opening-after}
use Rattle.ca_adapter_store.proofs.row.Row.open.Goals as goal

pub returns : goal.returns
returns c =
    let opened : IsRowOf (configuration_of c.args.opening.now.config)
    (opening_world (opening_bytes (configuration_of c.args.opening.now.config) c.args.opening.now.contents))
    (record { settings = c.of.result; parts = c.in_ok-parts.field-0; held = c.empty.result; taken = c.new.result; count = 0 }) = record {
      settings = c.of.ensures;
      after = opening-after (configuration_of c.args.opening.now.config) (opening_bytes (configuration_of c.args.opening.now.config) c.args.opening.now.contents) c.requires.limited;
      together = subst (AreTogether (configuration_of c.args.opening.now.config)
          (opening_world (opening_bytes (configuration_of c.args.opening.now.config) c.args.opening.now.contents)) c.in_ok-parts.field-0.items)
          (sym c.empty.ensures)
          (opens (configuration_of c.args.opening.now.config) c.args.opening.now.contents c.requires.limited c.requires.contents c.in_ok-parts.field-0.items c.in_ok-parts.ensures.count c.in_ok-parts.ensures.each);
      empty = λ p. ap (λ h. h.parts p) c.empty.ensures;
    } in
    record { world = opened; row = row_is _ _ _ opened; count = refl }

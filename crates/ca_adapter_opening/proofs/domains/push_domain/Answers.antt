use Rattle.std.proofs.Common.{refl, [], ◌∷◌}
use Rattle.ca_model.specs.declared.part_name.PartName.TheVariants as names
use Rattle.ca_adapter_opening.proofs.AddedLemmas.{adds-one, adds-then}
use Rattle.ca_adapter_opening.proofs.domains.push_domain.Goals as goal

pub returns : goal.returns
returns c = adds-then _ (names.Control c.args.domain ∷ []) _ _ _ _ (adds-one _ (names.Control c.args.domain) _ _ _ refl c.in_ok-push.ensures.items)
    (adds-then _ _ _ _ _ _ c.in_ok-push_slots.ensures
    (adds-then _ _ _ _ _ _ c.in_ok-push_slots-2.ensures
    (adds-then _ _ _ _ _ _ c.in_ok-push_slots-3.ensures
    (adds-then _ _ _ _ _ _ c.in_ok-push_slots-4.ensures
    (adds-then _ _ _ _ _ _ c.in_ok-push_slots-5.ensures c.in_ok-push_slots-6.ensures)))))

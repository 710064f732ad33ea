use Rattle.std.proofs.Common.{◌≡◌, ◌<◌, ◌≤◌, ◌∙◌, sym, ap, subst, arith, length, slice_get, is_some, true}
use Rattle.std.specs.List.{AllByRecursion}
use Rattle.ca_model.specs.machine.Sound.{CanBeMade}
use Rattle.ca_parts.specs.Rows.{settings_of}
use Rattle.ca_verbs.proofs.CloseLemmas.{as-many, filled-below, in-place, no-more, none-filled, remains-of, stamp-within}
use Rattle.ca_verbs.proofs.LawfulLemmas.{lawful-of}
use Rattle.ca_verbs.proofs.fabric.Fabric.into_parts.Goals as goal

pub place_all-requires-clause-fits : goal.place_all-requires-clause-fits
place_all-requires-clause-fits c = λ e has.
    let within : e.stamp < c.in-Ok-close.clock = stamp-within _ _ _ _ _ c.args.pass.kept c.in-Ok-close.ensures.whole e has in
    let most : c.in-Ok-close.clock ≤ length c.args.pass.entries.items = no-more _ _ _ _ _ c.args.pass.kept c.in-Ok-close.ensures.whole in
    omega (arith, within, most, c.len-count.ensures, as-many _ _ c.in-Ok.ensures.places)

pub place_all-requires-clause-none : goal.place_all-requires-clause-none
place_all-requires-clause-none c = λ m e at. none-filled _ m e (ap (λ l. slice_get l m) (sym c.in-Ok.ensures.places) ∙ at)

pub collect-requires-clause-filled : goal.collect-requires-clause-filled
collect-requires-clause-filled c = subst (AllByRecursion (λ o. is_some o ≡ true)) (sym c.truncate.ensures.items)
    (filled-below _ _ _ _ _ c.args.pass.kept c.in-Ok-close.ensures.whole _ c.place_all.ensures.filled)

pub returns-clause-remains : goal.returns-clause-remains
returns-clause-remains c =
    let count : length c.place_all.new.slots.items ≡ length c.args.pass.entries.items = omega (arith, c.place_all.ensures.count, as-many _ _ c.in-Ok.ensures.places, c.len-count.ensures) in
    remains-of _ _ _ _ _ c.args.pass.kept c.in-Ok-close.ensures.whole _ _ count c.place_all.ensures.right (c.collect.ensures ∙ c.truncate.ensures.items) c.args.self.limited (omega arith)
    (c.args.pass.few.late (settings_of c.args.self.parts) c.requires.of.2) (c.in-Ok-close.ensures.count ∙ c.args.self.row)

pub returns-clause-entries : goal.returns-clause-entries
returns-clause-entries c =
    let count : length c.place_all.new.slots.items ≡ length c.args.pass.entries.items = omega (arith, c.place_all.ensures.count, as-many _ _ c.in-Ok.ensures.places, c.len-count.ensures) in
    in-place _ _ _ _ _ c.args.pass.kept c.in-Ok-close.ensures.whole _ _ count c.place_all.ensures.right (c.collect.ensures ∙ c.truncate.ensures.items)

pub returns-clause-lawful : goal.returns-clause-lawful
returns-clause-lawful c = lawful-of _ _ _ c.args.self.limited (subst (AllByRecursion (λ e. CanBeMade e.event)) c.as_slice.ensures.value c.all_fit.ensures) (returns-clause-remains c).history

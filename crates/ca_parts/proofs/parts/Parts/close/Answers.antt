use Rattle.std.proofs.Common.{◌≡◌, slice_index, sym, ap, ◌∙◌, subst, rules}
use Rattle.std.specs.Mem.Slots.{slots_items}
use Rattle.ca_parts.specs.Calls.{IsWhole}
use Rattle.ca_base.specs.declared.limits.TheConstants.{MAX_PASSES}
use Rattle.ca_parts.proofs.Ends.{slots_full, whole, index_of}
use Rattle.ca_parts.proofs.parts.Parts.close.Goals as goal

pub take_values-requires-clause-home : goal.take_values-requires-clause-home
take_values-requires-clause-home g c = let row = c.args.self in let pass = c.args.pass in let closed = c.close_with-closed.result in let full : pass.seat.me.0.share ≡ MAX_PASSES = search rules in
    slots_full g.T.Machine.needs g.T.Machine.steps g.T.Machine.stands row.table.shared.key pass.seat.id pass.seat.me.0 (slots_items closed.words) (slots_items closed.slots) c.close_with-closed.ensures.values.2 full c.requires.no_part

pub returns-clause-whole : goal.returns-clause-whole
returns-clause-whole g c = let row = c.args.self in let pass = c.args.pass in let closed = c.close_with-closed.result in let full : pass.seat.me.0.share ≡ MAX_PASSES = search rules in
    let clock : c.word-clock.result ≡ slice_index (slots_items closed.words) 0 = index_of (slots_items c.take_values.new.closed.words) 0 c.word-clock.result c.word-clock.ensures ∙ ap (λ w. slice_index (slots_items w) 0) c.take_values.ensures.words in
    subst (λ n. IsWhole g.T.Machine.needs g.T.Machine.steps g.T.Machine.stands row.settings n c.take_values.new.values.items pass.seat.me.0) (sym clock)
    (subst (λ k. IsWhole g.T.Machine.needs g.T.Machine.steps g.T.Machine.stands k (slice_index (slots_items closed.words) 0) c.take_values.new.values.items pass.seat.me.0) c.requires.of.4
    (whole g.T.Machine.needs g.T.Machine.steps g.T.Machine.stands row.table.shared.key pass.seat.id pass.seat.me.0 (slots_items closed.words) (slots_items closed.slots) c.close_with-closed.ensures.values.2 full c.requires.no_part c.take_values.new.values.items c.take_values.ensures.values))

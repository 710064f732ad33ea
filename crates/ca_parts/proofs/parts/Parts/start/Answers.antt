use Rattle.std.proofs.Common.{ℕ, replicate, ap, ◌∙◌}
use Rattle.ca_parts.specs.Facts.{word_count}
use Rattle.ca_parts.proofs.Ends.{opens}
use Rattle.ca_parts.proofs.parts.Parts.start.Goals as goal

pub new-requires : goal.new-requires
new-requires g c = let values = c.args.values in
    opens g.T.Machine.needs g.T.Machine.steps g.T.Machine.stands c.args.settings values.items c.as_slice.result.now c.in_ok-room.slots.items
    (c.as_slice.ensures.value ∙ (c.in_ok-words.ensures.items_if_clones_equal (λ y e. e) ∙ ap (λ (n : ℕ). replicate (word_count n) 0) (c.len-count.ensures ∙ values.ok.0)))
    c.in_ok-room.ensures.slots c.requires.open

use Rattle.std.proofs.Common.{rules, ◌≡◌, Some, sym, ap, ◌∙◌, arith}
use Rattle.std.specs.Prelude.{slice_index_or, false, true}
use Rattle.std.specs.Mem.Slots.{slots_items, slots_filled, slots_len, slots_counts}
use mathlib.Core.Option.{some}
use lib.ListN.{get_elem?}
use Rattle.ca_parts.proofs.Ends.{next_value, still_full, more_empty}
use Rattle.ca_parts.proofs.parts.take_values.Goals as goal

pub unwrap-requires : goal.unwrap-requires
unwrap-requires g c = let now = c.loop-k in let inv = now.invariant in let k = now.k in let slots = c.args.closed.now.slots in
    let end = c.slot_count-k-end.ensures in let counts = slots_counts slots in
    let home = c.requires.home k (omega arith) in
    let found : get_elem? (slots_items now.closed.slots) k ≡ some c.take.result = c.take.ensures.value in
    let same : slots_items now.closed.slots ≡ slots_items slots = inv.items in
    let was : get_elem? (slots_items now.closed.slots) k ≡ get_elem? (slots_items slots) k = ap (λ l. get_elem? l k) same in
    let both : some c.take.result ≡ some (Some home.0) = sym found ∙ (was ∙ home.1) in
    let is : c.take.result ≡ Some home.0 = cc in search rules

pub loop-k-preserved : goal.loop-k-preserved
loop-k-preserved g c = let now = c.loop-k in let inv = now.invariant in let k = now.k in let slots = c.args.closed.now.slots in
    let others = c.take.ensures.others in let end = c.slot_count-k-end.ensures in let counts = slots_counts now.closed.slots in let pushed = c.push_reserved.ensures in let near = c.loop-k-test.true in
    let found : get_elem? (slots_items now.closed.slots) k ≡ some c.take.result = c.take.ensures.value in
    let value : c.take.result ≡ Some c.unwrap.result = c.unwrap.ensures in
    let at : get_elem? (slots_items slots) k ≡ some (Some c.unwrap.result) = sym (ap (λ l. get_elem? l k) inv.items) ∙ (found ∙ ap (λ (o : _). some o) value) in
    let count = inv.count in let len = others.2 in
    record {
      items = others.0 ∙ inv.items;
      count = len ∙ count;
      values = ap (λ l. Rattle.std.specs.Prelude.map Some l) pushed.items ∙ next_value now.values.items (slots_items slots) k c.unwrap.result inv.values at;
      taken = let t = inv.taken in let l = pushed.len in omega arith;
      room = pushed.capacity ∙ inv.room;
      words = others.3 ∙ inv.words;
      full = λ j above inside. ap (λ l. slice_index_or l j false) others.1 ∙ still_full (slots_filled now.closed.slots) k (slots_len now.closed.slots) inv.full j above (omega arith);
      empty = λ j below. ap (λ l. slice_index_or l j false) others.1 ∙ more_empty (slots_filled now.closed.slots) k (omega arith) inv.empty j below;
    }

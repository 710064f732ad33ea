use Rattle.std.proofs.Common.{◌≡◌, ℕ, ◌<◌, ◌≤◌, false, true, map, take, vec_len, vec_capacity, slice_index_or, Some}
use Rattle.std.specs.Mem.Slots.{slots_items, slots_filled, slots_len}
use Rattle.ca_parts.proofs.parts.take_values.Given as goal

abbrev pub invariant-loop-k : goal.invariant-loop-k
invariant-loop-k g l = record {
  items : slots_items l.closed.slots ≡ slots_items l.initial.closed.slots;
  count : slots_len l.closed.slots ≡ slots_len l.initial.closed.slots;
  values : map Some l.values.items ≡ take l.k (slots_items l.initial.closed.slots);
  taken : vec_len l.values ≡ l.k;
  room : vec_capacity l.values ≡ vec_capacity l.initial.values;
  words : l.closed.words ≡ l.initial.closed.words;
  full : (j : ℕ) → l.k ≤ j → j < slots_len l.closed.slots → slice_index_or (slots_filled l.closed.slots) j false ≡ true;
  empty : (j : ℕ) → j < l.k → slice_index_or (slots_filled l.closed.slots) j false ≡ false;
}

use Rattle.std.proofs.Common.{map}
use Rattle.std.specs.List.{range_with_len}
use Rattle.ca_model.specs.declared.part_name.PartName.TheVariants as names
use Rattle.ca_adapter_opening.specs.Added.{AddsParts, IsBufferOf}
use Rattle.ca_adapter_opening.proofs.buffers.push_buffers.Given as goal

abbrev pub invariant-loop-index : goal.invariant-loop-index
invariant-loop-index l = AddsParts (IsBufferOf l.number l.contents) (map (names.Buffer l.number) (range_with_len 0 l.index)) l.fn.row.items l.row.items

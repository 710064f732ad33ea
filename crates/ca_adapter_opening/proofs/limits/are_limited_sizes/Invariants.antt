use Rattle.std.proofs.Common.{◌≤◌, drop}
use Rattle.std.specs.List.{AllByRecursion}
use Rattle.ca_base.specs.declared.limits.TheConstants.{MAX_BUFFER_BYTES}
use Rattle.ca_adapter_opening.proofs.limits.are_limited_sizes.Given as goal

abbrev pub invariant-loop-size : goal.invariant-loop-size
invariant-loop-size l = record {
  least : AllByRecursion (λ bytes. 1 ≤ bytes) l.sizes → AllByRecursion (λ bytes. 1 ≤ bytes) (drop l.size-index l.sizes);
  all_least : AllByRecursion (λ bytes. 1 ≤ bytes) (drop l.size-index l.sizes) → AllByRecursion (λ bytes. 1 ≤ bytes) l.sizes;
  most : AllByRecursion (λ bytes. bytes ≤ MAX_BUFFER_BYTES) l.sizes → AllByRecursion (λ bytes. bytes ≤ MAX_BUFFER_BYTES) (drop l.size-index l.sizes);
  all_most : AllByRecursion (λ bytes. bytes ≤ MAX_BUFFER_BYTES) (drop l.size-index l.sizes) → AllByRecursion (λ bytes. bytes ≤ MAX_BUFFER_BYTES) l.sizes;
}

use Rattle.std.proofs.Common.{◌≡◌, ◌<◌, ◌≤◌, ◌==◌, ℕ, false, length, drop, get_or}
use Rattle.std.specs.List.{list_any}
use Rattle.ca_base.specs.objects.Region.{has_repeat}
use Rattle.ca_region.proofs.pages.repeats.Given as goal

-- no page from this place on stands twice, and those that a buffer may have are marked
abbrev pub invariant-loop-i : goal.invariant-loop-i
invariant-loop-i l =
    (l.i ≤ length l.pages) × (length l.seen ≡ 256) × (has_repeat (drop l.i l.pages) ≡ false)
    × ((k : ℕ) → k < 256 → get_or l.seen k false ≡ list_any (λ other. other == k) (drop l.i l.pages))

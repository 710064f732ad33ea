use Rattle.std.proofs.Common.{◌≡◌, ◌<◌, drop, map}
use Rattle.std.specs.List.{list_any}
use Rattle.ca_base.specs.Grants.{page_run}
use Rattle.ca_keys.specs.Memory.{cut}
use Rattle.ca_base.specs.objects.Region.{passes_end}
use Rattle.ca_region.proofs.pages.pages_pass_end.Given as goal

-- the pages that were not looked at yet tell
abbrev pub invariant-loop-page : goal.invariant-loop-page
invariant-loop-page l =
    (l.skipped < 4096)
    × (list_any (passes_end l.buffer_length) (cut l.skipped l.left (map (page_run l.adapter l.buffer) (drop l.page-index l.pages)))
    ≡ list_any (passes_end l.buffer_length) (cut l.skip l.count (map (page_run l.adapter l.buffer) l.pages)))

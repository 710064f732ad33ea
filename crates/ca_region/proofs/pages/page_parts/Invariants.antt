use Rattle.std.proofs.Common.{◌≡◌, ◌<◌, ◌++◌, drop, map}
use Rattle.ca_base.specs.Grants.{page_run}
use Rattle.ca_keys.specs.Memory.{cut}
use Rattle.ca_region.proofs.pages.page_parts.Given as goal

-- the parts so far, and those of the pages that were not looked at yet
abbrev pub invariant-loop-page : goal.invariant-loop-page
invariant-loop-page l =
    (l.skipped < 4096)
    × (l.runs.items ++ cut l.skipped l.left (map (page_run l.adapter l.buffer) (drop l.page-index l.pages))
    ≡ cut l.skip l.count (map (page_run l.adapter l.buffer) l.pages))

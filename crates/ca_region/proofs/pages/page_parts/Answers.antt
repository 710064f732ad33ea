use Rattle.std.proofs.Common.{◌∙◌, ap, arith, map, drop}
use Rattle.std.proofs.lemmas.Grind.{common_steps}
use Rattle.ca_base.specs.Grants.{page_run}
use Rattle.ca_keys.specs.Memory.{places_count}
use Rattle.ca_region.proofs.Cut.{cut-none}
use Rattle.ca_region.proofs.PageRuns.{range-count}
use Rattle.ca_region.proofs.pages.page_parts.Goals as goal
use Rattle.ca_region.proofs.pages.page_parts.Goals.{else-loop-page-test, then-loop-page-test+then-left-eq0}

pub returns-clause-places : goal.returns-clause-places
returns-clause-places c =
    let none = cut-none (map (page_run c.args.adapter c.args.buffer) (drop c.loop-page.page-index c.args.pages.now)) c.loop-page.skipped in
    elim c.loop-page-test.branch [
      | else-loop-page-test w ↦ grind (arith, common_steps, none)
      | then-loop-page-test+then-left-eq0 w ↦ grind (arith, common_steps, none)
    ]

pub returns-clause-count : goal.returns-clause-count
returns-clause-count c = λ enough. ap places_count (returns-clause-places c) ∙ range-count c.args.adapter c.args.buffer c.args.pages.now c.args.skip c.args.count enough

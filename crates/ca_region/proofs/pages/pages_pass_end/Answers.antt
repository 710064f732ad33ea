use Rattle.std.proofs.Common.{arith, map, drop}
use Rattle.std.proofs.lemmas.Grind.{common_steps}
use Rattle.ca_base.specs.Grants.{page_run}
use Rattle.ca_region.proofs.Cut.{cut-none}
use Rattle.ca_region.proofs.pages.pages_pass_end.Goals as goal

pub returns-then-left-eq0 : goal.returns-then-left-eq0
returns-then-left-eq0 c =
    let none = cut-none (map (page_run c.args.adapter c.args.buffer) (drop c.loop-page.page-index c.args.pages.now)) c.loop-page.skipped in
    grind (arith, common_steps, none)

use Rattle.std.proofs.Common.{◌≡◌, ◌/◌, ◌∙◌, List, IfOk, subst, ap, sym, drop, map, ℕ}
use Rattle.std.proofs.lemmas.List.{take_rest}
use Rattle.ca_keys.specs.declared.place.Run.{Run}
use Rattle.ca_base.specs.Grants.{page_run}
use Rattle.ca_keys.specs.Memory.{cut}
use Rattle.ca_region.proofs.PageRuns.{cut-pages}
use Rattle.ca_region.proofs.pages.page_runs.Goals as goal

pub returns-clause-places : goal.returns-clause-places
returns-clause-places c =
    let pages = c.args.pages.now in
    let page = page_run c.args.adapter c.args.buffer in
    let index = c.page_of-index.result.0 in
    let skip = c.page_of-index.result.1 in
    subst (λ (xs : List Run). IfOk c.page_parts.result (λ runs. runs ≡ xs)) (
    ap (λ (ps : List ℕ). cut skip c.args.count (map page ps)) (take_rest pages index)
    ∙ ap (λ (i : ℕ). cut skip c.args.count (map page (drop i pages))) c.page_of-index.ensures.index
    ∙ ap (λ (s : ℕ). cut s c.args.count (map page (drop (c.args.begin / 4096) pages))) c.page_of-index.ensures.skip
    ∙ sym (cut-pages c.args.adapter c.args.buffer pages c.args.begin c.args.count)) c.page_parts.ensures.places

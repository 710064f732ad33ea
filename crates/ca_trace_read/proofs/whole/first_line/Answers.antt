use Rattle.std.proofs.Common.{List, ℕ, ◌∷◌, ◌++◌, take, sym, ap, ◌∙◌}
use Rattle.ca_trace_read.proofs.FeedLemmas.{cut_line, no_cut}
use Rattle.ca_trace_read.proofs.whole.first_line.Goals as goal

pub returns-in-Some : goal.returns-in-Some
returns-in-Some c =
    let cut = cut_line c.args.text.now c.in-Some.place (sym c.in-Some.ensures) in
    (cut.0 ∙ ap (λ (x : List ℕ). take c.in-Some.place c.args.text.now ++ 10 ∷ x) (sym c.behind.ensures), cut.1)

pub returns-in-None : goal.returns-in-None
returns-in-None c = no_cut c.args.text.now (sym c.in-None.ensures)

use Rattle.std.proofs.Common.{ℕ, ◌+◌, List, Some, take, drop, sym, ap, ◌∙◌}
use Rattle.ca_trace_lex.specs.Words.{pieces}
use Rattle.ca_trace_lex.proofs.CutLemmas.{cut_at, cut_none, first_word, last_word}
use Rattle.ca_trace_lex.proofs.pieces.Pieces.take_word.Goals as goal

pub returns-in-Some : goal.returns-in-Some
returns-in-Some c =
    let p = c.self.inside in
    let place = c.in-Some.place in
    let rest = pieces p.separator (drop (place + 1) p.text.now) in
    first_word p.over (pieces p.separator p.text.now) c.args.self.now (take place p.text.now) rest c.if-self.false c.self.view_is (cut_at p.separator p.text.now place (cc))
    ∙ ap (λ (r : List (List ℕ)). Some (take place p.text.now, r)) (ap (λ (t : List ℕ). pieces p.separator t) (sym c.behind.ensures) ∙ sym c.of.ensures ∙ sym c.self-in-Some.view_is)

pub returns-in-None : goal.returns-in-None
returns-in-None c =
    let p = c.self.inside in
    last_word p.over (pieces p.separator p.text.now) c.args.self.now p.text.now c.if-self.false c.self.view_is (cut_none p.separator p.text.now (cc))

use Rattle.std.proofs.Common.{◌+◌, [], take, drop}
use Rattle.ca_trace_lex.specs.Words.{pieces}
use Rattle.ca_trace_lex.proofs.CutLemmas.{cut_at, cut_none, front_word}
use Rattle.ca_trace_lex.proofs.pieces.Pieces.first_word.Goals as goal

pub returns-in-Some : goal.returns-in-Some
returns-in-Some c =
    let p = c.self.inside in
    let place = c.in-Some.place in
    front_word p.over (pieces p.separator p.text.now) c.args.self.now (take place p.text.now) (pieces p.separator (drop (place + 1) p.text.now)) c.if-self.false c.self.view_is (cut_at p.separator p.text.now place (cc))

pub returns-in-None : goal.returns-in-None
returns-in-None c =
    let p = c.self.inside in
    front_word p.over (pieces p.separator p.text.now) c.args.self.now p.text.now [] c.if-self.false c.self.view_is (cut_none p.separator p.text.now (cc))

use Rattle.ca_trace_lex.proofs.ListLemmas.{over_is_empty}
use Rattle.ca_trace_lex.proofs.pieces.Pieces.is_empty.Goals as goal

pub returns : goal.returns
returns c = over_is_empty c.self.inside.over c.self.inside.separator c.self.inside.text.now c.args.self.now c.self.view_is

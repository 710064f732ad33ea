use Rattle.std.proofs.Common.{◌∙◌}
use Rattle.ca_trace_lex.proofs.ComparedLemmas.{named_is}
use Rattle.ca_trace_lex.proofs.find.is_named.Goals as goal

pub returns-in-Ok : goal.returns-in-Ok
returns-in-Ok g c =
    c.is_whole.ensures ∙ named_is c.args.word.now (g.N.Named.text c.args.value) _ c.write.new.self (g.met.N.Named.shows c.args.value) c.in-Ok.ensures.writes

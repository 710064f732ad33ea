use Rattle.std.proofs.lemmas.Option.{IfSome_then}
use Rattle.ca_script_lex.proofs.FrontLemmas.{begins_behind}
use Rattle.ca_script_lex.proofs.front.number_front.Goals as goal

pub returns-then-is_hexadecimal : goal.returns-then-is_hexadecimal
returns-then-is_hexadecimal c = IfSome_then c.digits_front.result c.digits_front.ensures (λ x p. begins_behind x.0 c.args.text.now x.1.now (cc) p.0 p.1)

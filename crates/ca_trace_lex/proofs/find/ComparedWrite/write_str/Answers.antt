use Rattle.std.proofs.Common.{ap, sym, ◌∙◌, List, ℕ, Option, Bor}
use Rattle.std.specs.Option.{option_map}
use Rattle.ca_trace_lex.proofs.ComparedLemmas.{stripped_is}
use Rattle.ca_trace_lex.proofs.find.ComparedWrite.write_str.Goals as goal

pub returns-in-Some : goal.returns-in-Some
returns-in-Some c = record {
  ok = λ _. stripped_is c.args.piece.now c.as_bytes.result.now c.in-Some.left.now c.args.self.now c.strip_prefix-self-inside.result (sym c.self.view_is ∙ ap (λ (left : Option (Bor (List ℕ))). option_map (λ x. x.now) left) c.in-Some.is) c.as_bytes.ensures.value c.strip_prefix-self-inside.ensures.cases;
}

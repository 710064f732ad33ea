use Rattle.std.proofs.Common.{arith, rules, ◌+◌, ◌∙◌}
use Rattle.std.proofs.lemmas.Grind.{common_steps}
use Rattle.ca_requester_sends.proofs.TurnLemmas.{any_behind}
use Rattle.ca_requester_sends.proofs.turn.+awaits_answer.Goals as goal

pub returns-in-Some : goal.returns-in-Some
returns-in-Some n c = grind (arith, common_steps)

pub returns-in-Some-2 : goal.returns-in-Some-2
returns-in-Some-2 t c =
    c.awaits_answer.ensures
    ∙ any_behind c.args.q.now c.args.posting (c.args.posting + 1) c.args.first (c.args.first + c.from.result) c.in-Some-2.n
    (omega arith) (search rules) (search rules) (search rules) (search rules)

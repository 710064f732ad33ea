use Rattle.std.proofs.Common.{◌-◌, ◌<◌, arith}
use Rattle.ca_responder.proofs.AnswerLemmas.{replaced}
use Rattle.ca_responder.proofs.duplicates.replace_from.Goals as goal

pub returns-clause-ok : goal.returns-clause-ok
returns-clause-ok c =
    let below : c.args.psn - 1 < c.args.psn = omega arith in
    replaced c.args.psn (c.args.psn - 1) c.args.answer c.args.answers.now c.push.new.self c.keep_before.new.self _ below c.in_ok-push.ensures.ok c.keep_before.ensures c.set_last.ensures

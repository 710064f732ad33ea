use Rattle.std.proofs.Common.{sym, subst}
use Rattle.std.specs.Option.{option_copied}
use Rattle.ca_script_run.proofs.TurnLemmas.{can_step_seen, false_of_not}
use Rattle.ca_script_run.specs.Vain.{IsIdle}
use Rattle.ca_script_run.proofs.turns.is_in_vain.Goals as goal

pub has_request-requires : goal.has_request-requires
has_request-requires c = can_step_seen c.args.row.now (option_copied c.queue.result) c.in-Request.queue c.requires c.queue.ensures

pub returns-in-Request : goal.returns-in-Request
returns-in-Request c = λ vain config w of. subst (IsIdle w) (sym c.in-Request.is) (record {
  slot = option_copied c.queue.result;
  is = c.queue.ensures config w of;
  such = (
    can_step_seen c.args.row.now (option_copied c.queue.result) c.in-Request.queue c.requires c.queue.ensures,
    c.has_request.ensures (false_of_not c.has_request.result vain),
  );
})

pub returns-in-Respond : goal.returns-in-Respond
returns-in-Respond c = λ vain config w of. subst (IsIdle w) (sym c.in-Respond.is) (record {
  slot = option_copied c.queue-in-Respond.result;
  is = c.queue-in-Respond.ensures config w of;
  such = c.owes_answer.ensures (false_of_not c.owes_answer.result vain);
})

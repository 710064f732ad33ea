use Rattle.std.proofs.Common.{◌∙◌, [], refl, sym, ap, subst, arith, Err, Ok}
use Rattle.std.proofs.lemmas.Result.{err_from_is_err_and}
use Rattle.ca_base.specs.Configuration.{configuration_in}
use Rattle.ca_model.specs.machine.Step.{step}
use Rattle.ca_adapter_store.proofs.MadeLemmas.{one_more, row_left, row_made_by}
use Rattle.ca_adapter_store.proofs.RestLemmas.{rest_kept, rest_left, row_kept}
use Rattle.ca_adapter_store.specs.declared.row.Row.{Row}
use Rattle.ca_adapter_store.specs.Rest.{KeepsRow, names_changed}
use Rattle.ca_adapter_store.proofs.row.Row.make.Goals as goal

pub returns-clause-step : goal.returns-clause-step
returns-clause-step c = row_made_by c.args.event.now c.args.self.now _ _ (Ok c.in_ok-marks.marks) _ (omega (arith, c.requires.few)) c.lists_fit.ensures refl
    (one_more c.args.self.now.count) c.act_in_hand.ensures.empty c.reserve.ensures.same c.in_ok-marks.was c.act_in_hand.ensures.step

pub returns-in_err-marks-clause-step : goal.returns-in_err-marks-clause-step
returns-in_err-marks-clause-step c =
    let p = err_from_is_err_and c.from_residual-in_err-marks.result c.from_residual-in_err-marks.ensures.1 in
    rw (p.1, p.2) (row_made_by c.args.event.now c.args.self.now _ _ (Err c.in_err-marks.field-0.0) _ (omega (arith, c.requires.few)) c.lists_fit.ensures refl
    refl c.act_in_hand.ensures.empty c.reserve.ensures.same c.in_err-marks.was c.act_in_hand.ensures.step)

pub returns-clause-row : goal.returns-clause-row
returns-clause-row c = row_left (configuration_in c.args.self.now.settings) c.requires.row.world _ (Ok c.in_ok-marks.marks) (step (configuration_in c.args.self.now.settings) c.requires.row.world c.args.event.now) (row_made_by c.args.event.now c.args.self.now _ _ (Ok c.in_ok-marks.marks) _ (omega (arith, c.requires.few))
    c.lists_fit.ensures refl (one_more c.args.self.now.count) c.act_in_hand.ensures.empty c.reserve.ensures.same c.in_ok-marks.was c.act_in_hand.ensures.step (configuration_in c.args.self.now.settings) c.requires.row.world c.requires.row.of)

pub returns-in_err-marks-clause-row : goal.returns-in_err-marks-clause-row
returns-in_err-marks-clause-row c =
    row_left (configuration_in c.args.self.now.settings) c.requires.row.world _ (Err c.in_err-marks.field-0.0) (step (configuration_in c.args.self.now.settings) c.requires.row.world c.args.event.now) (row_made_by c.args.event.now c.args.self.now _ _ (Err c.in_err-marks.field-0.0) _ (omega (arith, c.requires.few))
    c.lists_fit.ensures refl refl c.act_in_hand.ensures.empty c.reserve.ensures.same c.in_err-marks.was c.act_in_hand.ensures.step (configuration_in c.args.self.now.settings) c.requires.row.world c.requires.row.of)

pub returns-clause-rest : goal.returns-clause-rest
returns-clause-rest c = λ k w v one other. rest_kept k w v _ (Ok c.in_ok-marks.marks) (step k w c.args.event.now) _ other
    (row_made_by c.args.event.now c.args.self.now _ _ (Ok c.in_ok-marks.marks) _ (omega (arith, c.requires.few)) c.lists_fit.ensures refl
    (one_more c.args.self.now.count) c.act_in_hand.ensures.empty c.reserve.ensures.same c.in_ok-marks.was c.act_in_hand.ensures.step k w one)
    (rest_left c.args.event.now c.args.self.now _ (Ok c.in_ok-marks.marks) _ _ c.reserve.ensures.same c.in_ok-marks.was c.act_in_hand.ensures.rest k w one)

pub returns-in_err-marks-clause-rest : goal.returns-in_err-marks-clause-rest
returns-in_err-marks-clause-rest c =
    let p = err_from_is_err_and c.from_residual-in_err-marks.result c.from_residual-in_err-marks.ensures.1 in
    let left : Row = record { settings = c.args.self.now.settings; parts = c.act_in_hand.new.parts; held = c.act_in_hand.new.held; taken = c.act_in_hand.new.taken; count = c.args.self.now.count } in
    subst (λ r. KeepsRow (names_changed r c.act_in_hand.new.taken.items) c.args.self.now left) (sym (p.1 ∙ ap Err p.2)) (λ k w v one other. rest_kept k w v _ (Err c.in_err-marks.field-0.0) (step k w c.args.event.now) [] other
    (row_made_by c.args.event.now c.args.self.now _ _ (Err c.in_err-marks.field-0.0) _ (omega (arith, c.requires.few)) c.lists_fit.ensures refl
    refl c.act_in_hand.ensures.empty c.reserve.ensures.same c.in_err-marks.was c.act_in_hand.ensures.step k w one)
    (record {}))

pub returns-in_err-reserve-clause-rest : goal.returns-in_err-reserve-clause-rest
returns-in_err-reserve-clause-rest c = row_kept _ c.args.self.now _ refl refl refl c.reserve.ensures.same

pub returns-then-is_err-clause-rest : goal.returns-then-is_err-clause-rest
returns-then-is_err-clause-rest c = row_kept _ c.args.self.now _ refl refl refl c.reserve.ensures.same

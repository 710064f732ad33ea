use Rattle.std.specs.List.{AllByRecursion}
use Rattle.std.proofs.Common.{◌≡◌, ◌∙◌, List, [], None, Some, ap, length, subst, sym, refl}
use Rattle.ca_keys.specs.declared.access.Ask.{Ask}
use Rattle.ca_keys.specs.declared.access.Kind.TheVariants as kinds
use Rattle.ca_base.specs.Sight.{first_denied}
use Rattle.ca_model.specs.machine.Responses.{answer_asks, answer_bytes}
use Rattle.ca_model.specs.machine.Row.{Does, ending_of}
use Rattle.ca_requester_sends.proofs.of_ca_qp_rows.AskLemmas.{can-judge, judge-behind, whole}
use Rattle.ca_requester_sends.specs.ca_qp_rows.Asks.{AreAsksFor, IsGranted}
use Rattle.ca_requester.proofs.ResponseLemmas.{is_fit, row_fails}
use Rattle.ca_requester.proofs.TakingLemmas.{at-first, can_write_by, ends_allowed, ends_denied, none-below, row_asks, taken_by, taken_plain}
use Rattle.ca_requester.specs.Responses.{answer_effects}
use Rattle.ca_requester.proofs.taking.take_answer.Goals as goal

pub returns-in_default : goal.returns-in_default
returns-in_default g c =
    taken_plain g.R.Reach.written c.take_bad_answer.result _ _ c.args.q.now c.take_bad_answer.new.q c.args.marks.now c.take_bad_answer.new.marks c.args.reach.now
    (ap (ending_of (g.R.Reach.sight c.args.reach.now))
    (row_fails c.args.q.now c.args.psn c.args.p.now c.oldest_below-oldest.result.acknowledged c.oldest_below-oldest.result.oldest c.fitting_request.result
    c.oldest_below-oldest.ensures.acknowledged c.if-acknowledged.false c.oldest_below-oldest.ensures.oldest c.fitting_request.ensures.value c.in_default.is))
    refl c.take_bad_answer.ensures

pub returns-in_default-asks : goal.returns-in_default-asks
returns-in_default-asks g c =
    let fit = is_fit c.args.q.now c.args.psn c.args.p.now c.oldest_below-oldest.result.acknowledged c.oldest_below-oldest.result.oldest c.fitting_request.result c.in-Some.request
    c.oldest_below-oldest.ensures.acknowledged c.if-acknowledged.false c.oldest_below-oldest.ensures.oldest c.fitting_request.ensures.value c.in-Some.is in
    let asks = c.as_slice-asks.result.now in
    let same : asks ≡ answer_asks c.args.psn c.args.p.now c.args.q.now c.in-Some.request = c.as_slice-asks.ensures.value ∙ c.fill_answer_asks.ensures.value in
    let nothing : asks ≡ [] = none-below asks c.in_default-asks.len_below in
    taken_by g.R.Reach.written c.place_none.result _ _ c.args.q.now c.place_none.new.q c.args.marks.now c.place_none.new.marks c.args.reach.now c.place_none.new.reach
    (ends_allowed (g.R.Reach.sight c.args.reach.now) c.args.q.now c.args.psn c.args.p.now c.oldest_below-oldest.result.acknowledged c.in-Some.request _ asks fit same
    (ap (first_denied (g.R.Reach.sight c.args.reach.now)) nothing)
    ∙ ap (λ (xs : List Ask). Does (answer_effects c.oldest_below-oldest.result.acknowledged.until (answer_bytes c.args.p.now) xs c.args.q.now)) nothing)
    c.place_none.ensures

pub check-checked-requires-clause-at_hand : goal.check-checked-requires-clause-at_hand
check-checked-requires-clause-at_hand g c =
    let fit = is_fit c.args.q.now c.args.psn c.args.p.now c.oldest_below-oldest.result.acknowledged c.oldest_below-oldest.result.oldest c.fitting_request.result c.in-Some.request
    c.oldest_below-oldest.ensures.acknowledged c.if-acknowledged.false c.oldest_below-oldest.ensures.oldest c.fitting_request.ensures.value c.in-Some.is in
    let asks = c.as_slice-asks.result.now in
    let same : asks ≡ answer_asks c.args.psn c.args.p.now c.args.q.now c.in-Some.request = c.as_slice-asks.ensures.value ∙ c.fill_answer_asks.ensures.value in
    at-first (g.R.Reach.judges c.args.reach.now) _ asks c.in-len1-up.len_at_least
    (subst (λ (xs : List Ask). AllByRecursion (g.R.Reach.judges c.args.reach.now) xs) (sym (same ∙ row_asks c.args.q.now c.args.psn c.args.p.now c.oldest_below-oldest.result.acknowledged c.in-Some.request _ fit)) c.requires.at_hand.keys)

pub judge_all-requires-clause-judges : goal.judge_all-requires-clause-judges
judge_all-requires-clause-judges g c =
    let fit = is_fit c.args.q.now c.args.psn c.args.p.now c.oldest_below-oldest.result.acknowledged c.oldest_below-oldest.result.oldest c.fitting_request.result c.in-Some.request
    c.oldest_below-oldest.ensures.acknowledged c.if-acknowledged.false c.oldest_below-oldest.ensures.oldest c.fitting_request.ensures.value c.in-Some.is in
    let asks = c.as_slice-asks.result.now in
    let same : asks ≡ answer_asks c.args.psn c.args.p.now c.args.q.now c.in-Some.request = c.as_slice-asks.ensures.value ∙ c.fill_answer_asks.ensures.value in
    judge-behind g.R.Reach.judges c.args.reach.now asks
    (can-judge g.R.Reach.judges c.args.reach.now kinds.Write (length (answer_bytes c.args.p.now)) asks
    (subst (λ (xs : List Ask). AllByRecursion (g.R.Reach.judges c.args.reach.now) xs) (sym (same ∙ row_asks c.args.q.now c.args.psn c.args.p.now c.oldest_below-oldest.result.acknowledged c.in-Some.request _ fit)) c.requires.at_hand.keys)
    (subst (λ (xs : List Ask). AreAsksFor kinds.Write (length (answer_bytes c.args.p.now)) xs) (sym c.as_slice-asks.ensures.value) c.fill_answer_asks.ensures.asks))

pub place-requires-clause-can : goal.place-requires-clause-can
place-requires-clause-can g c =
    let fit = is_fit c.args.q.now c.args.psn c.args.p.now c.oldest_below-oldest.result.acknowledged c.oldest_below-oldest.result.oldest c.fitting_request.result c.in-Some.request
    c.oldest_below-oldest.ensures.acknowledged c.if-acknowledged.false c.oldest_below-oldest.ensures.oldest c.fitting_request.ensures.value c.in-Some.is in
    let asks = c.as_slice-asks.result.now in
    let same : asks ≡ answer_asks c.args.psn c.args.p.now c.args.q.now c.in-Some.request = c.as_slice-asks.ensures.value ∙ c.fill_answer_asks.ensures.value in
    can_write_by g.R.Reach.sight g.R.Reach.judges g.R.Reach.touches c.args.reach.now asks _ (answer_bytes c.args.p.now)
    (same ∙ row_asks c.args.q.now c.args.psn c.args.p.now c.oldest_below-oldest.result.acknowledged c.in-Some.request _ fit) c.requires.at_hand
    (subst (λ (xs : List Ask). AreAsksFor kinds.Write (length (answer_bytes c.args.p.now)) xs) (sym c.as_slice-asks.ensures.value) c.fill_answer_asks.ensures.asks) c.as_slice-asks.ensures.fits
    (subst (λ (xs : List Ask). first_denied (g.R.Reach.sight c.args.reach.now) xs ≡ None) (whole _ asks c.in-len1-up.len_at_least) c.in-Ok.ensures.none)
    (subst (λ (xs : List Ask). AllByRecursion (IsGranted (g.R.Reach.sight c.args.reach.now)) xs) (whole _ asks c.in-len1-up.len_at_least) c.in-Ok.ensures.allowed)

pub returns-in-Err : goal.returns-in-Err
returns-in-Err g c =
    let fit = is_fit c.args.q.now c.args.psn c.args.p.now c.oldest_below-oldest.result.acknowledged c.oldest_below-oldest.result.oldest c.fitting_request.result c.in-Some.request
    c.oldest_below-oldest.ensures.acknowledged c.if-acknowledged.false c.oldest_below-oldest.ensures.oldest c.fitting_request.ensures.value c.in-Some.is in
    let asks = c.as_slice-asks.result.now in
    let same : asks ≡ answer_asks c.args.psn c.args.p.now c.args.q.now c.in-Some.request = c.as_slice-asks.ensures.value ∙ c.fill_answer_asks.ensures.value in
    taken_plain g.R.Reach.written c.deny.result _ _ c.args.q.now c.deny.new.q c.args.marks.now c.deny.new.marks c.args.reach.now
    (ends_denied (g.R.Reach.sight c.args.reach.now) c.args.q.now c.args.psn c.args.p.now c.oldest_below-oldest.result.acknowledged c.in-Some.request _ asks c.in-Err.denied fit same
    (subst (λ (xs : List Ask). first_denied (g.R.Reach.sight c.args.reach.now) xs ≡ Some c.in-Err.denied) (whole _ asks c.in-len1-up.len_at_least) c.in-Err.ensures.denied))
    refl c.deny.ensures

pub returns-in-Ok : goal.returns-in-Ok
returns-in-Ok g c =
    let fit = is_fit c.args.q.now c.args.psn c.args.p.now c.oldest_below-oldest.result.acknowledged c.oldest_below-oldest.result.oldest c.fitting_request.result c.in-Some.request
    c.oldest_below-oldest.ensures.acknowledged c.if-acknowledged.false c.oldest_below-oldest.ensures.oldest c.fitting_request.ensures.value c.in-Some.is in
    let asks = c.as_slice-asks.result.now in
    let same : asks ≡ answer_asks c.args.psn c.args.p.now c.args.q.now c.in-Some.request = c.as_slice-asks.ensures.value ∙ c.fill_answer_asks.ensures.value in
    taken_by g.R.Reach.written c.place.result _ _ c.args.q.now c.place.new.q c.args.marks.now c.place.new.marks c.args.reach.now c.place.new.reach
    (ends_allowed (g.R.Reach.sight c.args.reach.now) c.args.q.now c.args.psn c.args.p.now c.oldest_below-oldest.result.acknowledged c.in-Some.request _ asks fit same
    (subst (λ (xs : List Ask). first_denied (g.R.Reach.sight c.args.reach.now) xs ≡ None) (whole _ asks c.in-len1-up.len_at_least) c.in-Ok.ensures.none))
    c.place.ensures

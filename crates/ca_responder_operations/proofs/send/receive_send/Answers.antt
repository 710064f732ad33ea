use Rattle.std.specs.List.{AllByRecursion}
use Rattle.std.proofs.Common.{◌≡◌, ◌+◌, ap, refl, sym, subst, ◌∙◌, false, nat_lt, length, List, [], ◌∷◌, None, Some}
use Rattle.ca_keys.specs.declared.access.Ask.{Ask}
use Rattle.ca_keys.specs.declared.access.Kind.TheVariants as kinds
use Rattle.ca_base.specs.Sight.{first_denied}
use Rattle.ca_base.specs.declared.completion.WcStatus.TheVariants.{LocalLength, LocalProtection}
use Rattle.ca_base.specs.declared.request.Piece.{Piece}
use Rattle.ca_wire.specs.declared.syndrome.NakCode.TheVariants.{InvalidRequest, RemoteOperationalError}
use Rattle.ca_model.specs.Requests.{list_length}
use Rattle.ca_model.specs.declared.mark.Mark.{Mark}
use Rattle.ca_model.specs.machine.Arrivals.{with_flag}
use Rattle.ca_model.specs.machine.Expected.{receive_asks, receive_failure_effects, send_row}
use Rattle.ca_model.specs.machine.Numbering.{list_asks}
use Rattle.ca_model.specs.machine.Requester.{local_denial}
use Rattle.ca_responder_answers.specs.ca_qp_rows.Asks.{AreAsksFor, IsGranted}
use Rattle.ca_responder_answers.proofs.of_ca_qp_rows.AskLemmas.{can-judge, judge-behind, whole}
use Rattle.ca_responder_answers.specs.Numbers.{without_taken_receive}
use Rattle.ca_responder_operations.specs.Sends.{outcome_of_send, receiving}
use Rattle.ca_responder_operations.specs.Taking.{does, outcome_in}
use Rattle.ca_responder_operations.proofs.EndLemmas.{failed-taken}
use Rattle.ca_responder_operations.proofs.SendLemmas.{asks-of-row, can-place, failed, is_too_long, list-denied, too-long}
use Rattle.ca_responder_operations.proofs.send.receive_send.Goals as goal

pub returns-then-exceeds_receive : goal.returns-then-exceeds_receive
unfolding outcome_of_send
returns-then-exceeds_receive g c =
    let q = c.args.q.now in
    let s = c.args.s.now in
    let p = s.packet.now in
    let r = receiving s in
    let e = receive_failure_effects (without_taken_receive r.taken (with_flag false q)) r.receive LocalLength None InvalidRequest in
    record {
      taken = failed-taken g.R.Reach.written g.R.Reach.revoked (outcome_in (g.R.Reach.sight c.args.reach.now) (send_row (with_flag false q) p s.position r)) q c.fail_receive.new.q r
          c.new-none.result.items e c.fail_receive.result c.args.marks.now c.fail_receive.new.marks c.args.reach.now
          (too-long (g.R.Reach.sight c.args.reach.now) q p s.position r r.taken
          (ap (λ (l : List Piece). nat_lt (list_length l) (r.before + length p.payload)) (sym c.as_slice-list.ensures.value) ∙ sym c.exceeds_receive.ensures ∙ c.if-exceeds_receive.true) refl
          ∙ ap (λ (ms : List Mark). does (failed q r ms e) None) (sym c.new-none.ensures.items))
          refl c.fail_receive.ensures.made c.fail_receive.ensures.shared;
    }

pub judge_all-requires-clause-judges : goal.judge_all-requires-clause-judges
judge_all-requires-clause-judges g c =
    let q = c.args.q.now in
    let s = c.args.s.now in
    let p = s.packet.now in
    let r = receiving s in
    let short : is_too_long p r ≡ false =
    ap (λ (l : List Piece). nat_lt (list_length l) (r.before + length p.payload)) (sym c.as_slice-list.ensures.value) ∙ sym c.exceeds_receive.ensures ∙ c.if-exceeds_receive.false in
    let asks : c.as_slice-asks.result.now ≡ receive_asks q p r =
    c.as_slice-asks.ensures.value ∙ c.fill_receive_asks.ensures.value ∙ ap (λ (l : List Piece). list_asks q.queue q.domain kinds.Write r.before (length p.payload) l) c.as_slice-list.ensures.value in
    judge-behind g.R.Reach.judges c.args.reach.now c.as_slice-asks.result.now
    (can-judge g.R.Reach.judges c.args.reach.now kinds.Write (length p.payload) c.as_slice-asks.result.now
    (subst (λ (xs : List Ask). AllByRecursion (g.R.Reach.judges c.args.reach.now) xs) (asks-of-row q p s.position r r.taken short refl ∙ sym asks) c.requires.at_hand.asks.keys)
    (subst (λ (xs : List Ask). AreAsksFor kinds.Write (length p.payload) xs) (sym c.as_slice-asks.ensures.value) c.fill_receive_asks.ensures.asks))

pub place-requires-clause-can : goal.place-requires-clause-can
place-requires-clause-can g c =
    let q = c.args.q.now in
    let s = c.args.s.now in
    let p = s.packet.now in
    let r = receiving s in
    let short : is_too_long p r ≡ false =
    ap (λ (l : List Piece). nat_lt (list_length l) (r.before + length p.payload)) (sym c.as_slice-list.ensures.value) ∙ sym c.exceeds_receive.ensures ∙ c.if-exceeds_receive.false in
    let asks : c.as_slice-asks.result.now ≡ receive_asks q p r =
    c.as_slice-asks.ensures.value ∙ c.fill_receive_asks.ensures.value ∙ ap (λ (l : List Piece). list_asks q.queue q.domain kinds.Write r.before (length p.payload) l) c.as_slice-list.ensures.value in
    can-place g.R.Reach.sight g.R.Reach.judges g.R.Reach.touches g.R.Reach.ends c.args.reach.now q s c.as_slice-asks.result.now
    c.requires.receiving short c.requires.at_hand asks c.as_slice-asks.ensures.fits
    (subst (λ (xs : List Ask). AreAsksFor kinds.Write (length p.payload) xs) (sym c.as_slice-asks.ensures.value) c.fill_receive_asks.ensures.asks)
    (subst (λ (xs : List Ask). AllByRecursion (IsGranted (g.R.Reach.sight c.args.reach.now)) xs) (whole _ c.as_slice-asks.result.now c.in-len1-up.len_at_least) c.in-Ok.ensures.allowed)
    (subst (λ (xs : List Ask). first_denied (g.R.Reach.sight c.args.reach.now) xs ≡ None) (whole _ c.as_slice-asks.result.now c.in-len1-up.len_at_least) c.in-Ok.ensures.none)

pub returns-in-Err : goal.returns-in-Err
unfolding outcome_of_send
returns-in-Err g c =
    let q = c.args.q.now in
    let s = c.args.s.now in
    let p = s.packet.now in
    let r = receiving s in
    let short : is_too_long p r ≡ false =
    ap (λ (l : List Piece). nat_lt (list_length l) (r.before + length p.payload)) (sym c.as_slice-list.ensures.value) ∙ sym c.exceeds_receive.ensures ∙ c.if-exceeds_receive.false in
    let asks : c.as_slice-asks.result.now ≡ receive_asks q p r =
    c.as_slice-asks.ensures.value ∙ c.fill_receive_asks.ensures.value ∙ ap (λ (l : List Piece). list_asks q.queue q.domain kinds.Write r.before (length p.payload) l) c.as_slice-list.ensures.value in
    let e = receive_failure_effects (without_taken_receive r.taken (with_flag false q)) r.receive LocalProtection None RemoteOperationalError in
    record {
      taken = failed-taken g.R.Reach.written g.R.Reach.revoked (outcome_in (g.R.Reach.sight c.args.reach.now) (send_row (with_flag false q) p s.position r)) q c.deny_receive.new.q r
          (local_denial c.in-Err.denied ∷ []) e c.deny_receive.result c.args.marks.now c.deny_receive.new.marks c.args.reach.now
          (list-denied (g.R.Reach.sight c.args.reach.now) q p s.position r c.in-Err.denied r.taken short refl
          (subst (λ (xs : List Ask). first_denied (g.R.Reach.sight c.args.reach.now) xs ≡ Some c.in-Err.denied) (whole _ c.as_slice-asks.result.now c.in-len1-up.len_at_least ∙ asks) c.in-Err.ensures.denied))
          refl c.deny_receive.ensures.made c.deny_receive.ensures.shared;
    }

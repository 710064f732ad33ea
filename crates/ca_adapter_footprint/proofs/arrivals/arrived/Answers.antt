use Rattle.std.proofs.Common.{rules, ◌≡◌, ◌∙◌, sym, ap, option_copied}
use Rattle.ca_base.specs.Configuration.{configuration_in}
use Rattle.ca_model.specs.machine.Delivery.{arrival_row}
use Rattle.ca_model.specs.machine.Parts.{row_needs}
use Rattle.ca_model.specs.machine.Responses.{response_row}
use Rattle.ca_requester.specs.ca_qp_rows.Arrival.{IsResponseOf}
use Rattle.ca_adapter_footprint.specs.Next.{next_of}
use Rattle.ca_adapter_footprint.proofs.KeyLemmas.{response_no_key}
use Rattle.ca_adapter_footprint.proofs.arrivals.arrived.Goals as goal

pub returns-in-Ok-Response : goal.returns-in-Ok-Response
returns-in-Ok-Response c = λ envelope.
    let p = c.in-Ok-Response.p in
    let q = c.args.q.now in
    let response : IsResponseOf c.args.bytes.now q p = search rules in
    let met : arrival_row c.args.bytes.now envelope (option_copied c.args.srq) q ≡ response_row p q =
    response.row envelope (option_copied c.args.srq) in
    let asks : c.as_slice.result.now ≡ (response_row p q).asks = search rules in
    c.row.ensures (response_row p q) asks (response_no_key p q)
    ∙ ap (λ row. next_of c.args.held.now (row_needs (configuration_in c.args.settings.now) row)) (sym met)

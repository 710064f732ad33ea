use Rattle.std.proofs.Common.{rules}
use Rattle.ca_adapter_reach.specs.Seen.{sight_of}
use Rattle.ca_responder.specs.ca_qp_rows.Arrival.{IsResponseOf}
use Rattle.ca_adapter_arrivals.specs.Arrived.{shared_on}
use Rattle.ca_adapter_arrivals.proofs.MeetLemmas.{response_arrived}
use Rattle.ca_adapter_arrivals.proofs.ShelfLemmas.{shelf_same}
use Rattle.ca_adapter_arrivals.proofs.arriving.meet.Goals as goal

pub returns-in-Ok-Response-clause-arrival : goal.returns-in-Ok-Response-clause-arrival
returns-in-Ok-Response-clause-arrival c =
    let response : IsResponseOf c.args.incoming.now.bytes.now c.args.q.now c.in-Ok-Response.p = search rules in
    response_arrived c.on_response.result (sight_of c.args.reach.now) c.in-Ok-Response.p _ c.args.q.now c.on_response.new.q c.args.marks.now c.on_response.new.marks
    c.args.reach.now c.on_response.new.reach (shared_on c.args.srqs.now c.args.q.now)
    (response.row c.args.incoming.now.envelope (shared_on c.args.srqs.now c.args.q.now)) c.on_response.ensures

pub returns-in-Ok-Response-clause-shelf : goal.returns-in-Ok-Response-clause-shelf
returns-in-Ok-Response-clause-shelf c = shelf_same c.args.srqs.now c.args.q.now

pub returns-in-Err-clause-shelf : goal.returns-in-Err-clause-shelf
returns-in-Err-clause-shelf c = shelf_same c.args.srqs.now c.args.q.now

use Rattle.std.proofs.Common.{◌≡◌, None, Some, arith, subst}
use Rattle.ca_base.specs.objects.QueuePair.{QueuePair}
use Rattle.ca_base.specs.objects.WorkQueue.{item_at}
use Rattle.ca_model.specs.Requests.{psns_of}
use Rattle.ca_requester_sends.proofs.NumberingLemmas.{is_numbered, no-numbers}
use Rattle.ca_requester_sends.proofs.numbering.numbered_at.Goals as goal

pub returns-in-None-clause-none : goal.returns-in-None-clause-none
returns-in-None-clause-none c =
    let P : QueuePair → Type 0 = λ q. None ≡ item_at c.args.posting q.sends in
    no-numbers c.args.q.now c.args.posting c.args.first c.requires.posted (subst P c.q.view_is c.in-None.ensures)

pub returns-in-Some-clause-some : goal.returns-in-Some-clause-some
returns-in-Some-clause-some c =
    let P : QueuePair → Type 0 = λ q. Some c.in-Some.posted.now ≡ item_at c.args.posting q.sends in
    let Q : QueuePair → Type 0 = λ q. c.psns_of.result ≡ psns_of q.responder.mtu c.in-Some.posted.now.request.op in
    is_numbered c.args.q.now c.args.posting c.args.first c.psns_of.result c.in-Some.posted.now
    c.requires (subst P c.q.view_is c.in-Some.ensures)
    (subst Q c.q.view_is c.psns_of.ensures.value)
    c.psns_of.ensures.few (omega arith)

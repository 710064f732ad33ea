use Rattle.std.proofs.Common.{rules, arith, ◌+◌, ◌∙◌, ◌<◌}
use Rattle.ca_requester_sends.proofs.NumberingLemmas.{begins-behind, found-behind, one-begun}
use Rattle.ca_requester_sends.specs.Numbering.{numbers_from}
use Rattle.ca_requester_sends.proofs.numbering.next_from.Goals as goal

pub loop-request-preserved : goal.loop-request-preserved
loop-request-preserved c =
    let before : c.loop-request.posting < c.args.q.now.requester.next = search rules in (
      search rules,
      (
        found-behind c.args.q.now c.loop-request.posting (c.loop-request.posting + 1) c.loop-request.first (c.loop-request.first + c.from-first.result) c.args.q.now.requester.cursor c.in-Some.request
            (omega arith) (search rules) before (search rules) (search rules)
            ∙ c.loop-request.invariant.1.0,
        (
          begins-behind c.args.q.now c.loop-request.posting (c.loop-request.posting + 1) c.loop-request.first (c.loop-request.first + c.from-first.result) c.in-Some.request
              (omega arith) (search rules) before (search rules)
              ∙ c.loop-request.invariant.1.1.0,
          one-begun c.args.q.now.requester.next c.loop-request.posting (c.loop-request.posting + 1) c.loop-request.first (c.loop-request.first + c.from-first.result) (λ i n. numbers_from i n c.args.q.now)
              (numbers_from c.loop-request.posting c.loop-request.first c.args.q.now) c.in-Some.request (omega arith) (search rules) (search rules) before
              ∙ c.loop-request.invariant.1.1.1,
        ),
      ),
    )

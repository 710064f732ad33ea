use Rattle.std.proofs.Common.{rules, arith, ◌≡◌, ◌+◌, ◌∙◌, None, Some, ap, length, max, sum_by, sym}
use Rattle.ca_model.specs.machine.Numbering.{Numbered}
use Rattle.ca_requester.proofs.ProgressLemmas.{behind-earlier, ends-before, ends-behind, finished-none, finished-past, finished-places, finished-psns, unanswered-behind, unanswered-here, unanswered-none}
use Rattle.ca_requester.specs.Progress.{una_behind}
use Rattle.ca_requester.proofs.progress.reached_by.Goals as goal

pub returns-then-is_unanswered : goal.returns-then-is_unanswered
returns-then-is_unanswered c =
    let e : c.max.result ≡ max c.args.una c.in-Some.n.first = search rules in
    record {
      back =
          ap Some e
          ∙ sym (unanswered-here c.args.q.now c.loop-n.posting c.loop-n.first c.args.una c.args.psn c.in-Some.n (search rules) (search rules) (search rules))
          ∙ c.loop-n.invariant.1.1.1.0;
      behind = (omega (arith, e), omega (arith, e, c.in-Some.ensures.some.first));
      posting =
          omega (
            arith,
            (c.loop-n.invariant.1.1.1.1 (Some c.max.result) (omega (arith, e), omega (arith, e, c.in-Some.ensures.some.first))).0,
            ap length (finished-none c.args.q.now c.loop-n.posting c.loop-n.first c.max.result c.in-Some.n (search rules) (search rules)
                (ends-behind c.args.q.now.responder.mtu c.args.una c.args.psn c.max.result c.in-Some.n e (search rules) (search rules))),
          );
      at =
          omega (
            arith,
            (c.loop-n.invariant.1.1.1.1 (Some c.max.result) (omega (arith, e), omega (arith, e, c.in-Some.ensures.some.first))).1,
            ap (sum_by (λ (n : Numbered). n.count)) (finished-none c.args.q.now c.loop-n.posting c.loop-n.first c.max.result c.in-Some.n (search rules) (search rules)
                (ends-behind c.args.q.now.responder.mtu c.args.una c.args.psn c.max.result c.in-Some.n e (search rules) (search rules))),
          );
      within = search rules;
      begun = search rules;
      request = (c.in-Some.ensures.some, c.in-Some.ensures.begun);
      ends = λ e. cc;
    }

pub loop-n-preserved : goal.loop-n-preserved
loop-n-preserved c = (
  search rules,
  (
    (λ le. omega (arith, c.in-Some.ensures.begun)),
    (
      omega (arith, c.loop-n.invariant.1.1.0),
      (
        sym (unanswered-behind c.args.q.now c.loop-n.posting (c.loop-n.posting + 1) c.loop-n.first (c.loop-n.first + c.from-first.result) c.args.una c.args.psn c.in-Some.n
            (omega arith) (search rules) (search rules) (search rules) (search rules)) ∙ c.loop-n.invariant.1.1.1.0,
        λ back behind. (
          sym (finished-places c.args.q.now c.loop-n.posting (c.loop-n.posting + 1) c.loop-n.first (c.loop-n.first + c.from-first.result) (una_behind c.args.una c.args.psn back) c.in-Some.n
              (omega arith) (search rules) (search rules) (search rules)
              (ends-before c.args.una c.args.psn c.loop-n.first (c.loop-n.first + c.from-first.result) c.end.result c.in-Some.n back (search rules) (search rules) (search rules) (omega arith) behind))
              ∙ (c.loop-n.invariant.1.1.1.1 back (behind-earlier c.args.una c.loop-n.first (c.loop-n.first + c.from-first.result) back (omega arith) behind)).0,
          sym (finished-psns c.args.q.now c.loop-n.posting (c.loop-n.posting + 1) c.loop-n.first (c.loop-n.first + c.from-first.result) (una_behind c.args.una c.args.psn back) c.in-Some.n
              (omega arith) (search rules) (search rules) (search rules)
              (ends-before c.args.una c.args.psn c.loop-n.first (c.loop-n.first + c.from-first.result) c.end.result c.in-Some.n back (search rules) (search rules) (search rules) (omega arith) behind))
              ∙ (c.loop-n.invariant.1.1.1.1 back (behind-earlier c.args.una c.loop-n.first (c.loop-n.first + c.from-first.result) back (omega arith) behind)).1,
        ),
      ),
    ),
  ),
)

pub returns-then-end-max : goal.returns-then-end-max
returns-then-end-max c = record {
  back =
      unanswered-none c.args.q.now c.loop-n.posting c.loop-n.first c.args.una c.args.psn c.in-Some.n
      (search rules) (search rules) (search rules) (search rules) c.end.result (search rules) (omega arith)
      ∙ c.loop-n.invariant.1.1.1.0;
  behind = tt;
  posting =
      omega (
        arith,
        (c.loop-n.invariant.1.1.1.1 None tt).0,
        ap length (finished-none c.args.q.now c.loop-n.posting c.loop-n.first (max c.args.una c.args.psn) c.in-Some.n (search rules) (search rules) (search rules)),
      );
  at =
      omega (
        arith,
        (c.loop-n.invariant.1.1.1.1 None tt).1,
        ap (sum_by (λ (n : Numbered). n.count)) (finished-none c.args.q.now c.loop-n.posting c.loop-n.first (max c.args.una c.args.psn) c.in-Some.n (search rules) (search rules) (search rules)),
      );
  within = search rules;
  begun = search rules;
  request = (c.in-Some.ensures.some, c.in-Some.ensures.begun);
  ends = λ e. search rules;
}

pub returns : goal.returns
returns c = record {
  back = search rules;
  behind = tt;
  posting =
      omega (
        arith,
        (c.loop-n.invariant.1.1.1.1 None tt).0,
        ap length (finished-past c.args.q.now c.loop-n.posting c.loop-n.first (max c.args.una c.args.psn) (search rules)),
      );
  at =
      omega (
        arith,
        (c.loop-n.invariant.1.1.1.1 None tt).1,
        ap (sum_by (λ (n : Numbered). n.count)) (finished-past c.args.q.now c.loop-n.posting c.loop-n.first (max c.args.una c.args.psn) (search rules)),
      );
  within = search rules;
  begun = search rules;
  request = search rules;
  ends = λ e. tt;
}

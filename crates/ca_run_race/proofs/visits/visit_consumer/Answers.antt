use Rattle.std.proofs.Common.{◌≡◌, ◌∙◌, ◌+◌, ◌%◌, ◌<◌, ap, arith, length, slice_index, slice_set, subst, suc}
use Rattle.std.specs.Vec.{with_item}
use Rattle.ca_script_order.specs.Order.{lines_of}
use Rattle.ca_run_race.proofs.TryLemmas.{called, same-number}
use Rattle.ca_run_race.specs.Calls.{IsNextCall}
use Rattle.ca_run_race.specs.declared.work.Work.{Work}
use Rattle.ca_script.specs.Script.{script_value}
use Rattle.ca_verbs.specs.Passes.{known_of, settings_in}
use Rattle.ca_run_race.proofs.visits.visit_consumer.Goals as goal

pub returns-in-Ok-clause-work : goal.returns-in-Ok-clause-work
returns-in-Ok-clause-work g c =
    let f = c.args.fabric.now in
    let s = script_value c.args.script.now in
    let w = c.args.worker.now in
    let next = c.in-Some.next in
    let u : Work = record { pass = c.try_verb.new.pass; done = with_item c.ask.new.self.work.done c.args.consumer (next.at + 1) } in
    let own : c.args.consumer % w.workers ≡ w.number = c.is_own.ensures c.if-not-is_own.false in
    same-number f s w c.ask.new.self u c.ask.ensures.worker
    (called f s w.number (suc w.number) w.workers w.work c.requires.work c.ask.new.self.work.pass u (settings_in f) c.args.consumer c.clock-now.result next.at next.clock next.verb.now c.in-Ok.field-0
    (ap (λ v. known_of v.pass) c.ask.ensures.work ∙ c.clock-now.ensures.noted) (omega (arith, c.if-now-next.false))
    (subst (λ done. IsNextCall (lines_of c.args.consumer s.consumers) (slice_index done c.args.consumer) next.at next.clock next.verb.now) c.as_slice.ensures.value c.in-Some.ensures.call)
    (subst (λ done. c.args.consumer < length done) c.as_slice.ensures.value c.in-Some.ensures.there) (omega (arith, own)) (omega (arith, own))
    (ap (λ v. slice_set v.done.items c.args.consumer (next.at + 1)) c.ask.ensures.work) c.in-Ok.ensures.of c.in-Ok.ensures.made)

use Rattle.std.proofs.Common.{rules, ◌≡◌, ◌∙◌, ◌≤◌, ◌<◌, ap, sym, length, Some}
use Rattle.ca_base.specs.declared.limits.TheConstants.{MAX_POLLED}
use Rattle.ca_adapter_parts.specs.HeldView.{holding}
use Rattle.ca_adapter_acts.specs.Calls.{call_of}
use Rattle.ca_adapter_polls.proofs.PollLemmas.{poll_acts, poll_places_held}
use Rattle.ca_adapter_polls.proofs.polls.poll.Goals as goal

pub free_all-requires-clause-held : goal.free_all-requires-clause-held
free_all-requires-clause-held c =
    let is : (holding c.args.held.now).world.cq c.args.slot ≡ Some c.in-Some.cq = search rules in
    let some : 0 < c.args.n = search rules in
    let few : c.args.n ≤ MAX_POLLED = search rules in
    let within : c.args.least ≤ c.args.n = search rules in
    let enough : c.args.least ≤ length c.as_slice.result.now = search rules in
    let read : c.as_slice.result.now ≡ c.in_ok-polled.polled = search rules in
    let same : c.polled_in.result.now ≡ c.in_ok-polled.polled = search rules in
    poll_places_held (holding c.args.held.now).has (holding c.args.held.now).world (call_of c.args.call.now) c.args.slot c.args.n c.args.least
    (length c.as_slice.result.now) c.in-Some.cq c.in_ok-polled.polled c.polled_in.result.now
    is some few within enough (ap length (read ∙ sym same)) same (search rules) c.requires.suffices

pub returns : goal.returns
returns c =
    let is : (holding c.args.held.now).world.cq c.args.slot ≡ Some c.in-Some.cq = search rules in
    let some : 0 < c.args.n = search rules in
    let few : c.args.n ≤ MAX_POLLED = search rules in
    let within : c.args.least ≤ c.args.n = search rules in
    let enough : c.args.least ≤ length c.as_slice.result.now = search rules in
    let read : c.as_slice.result.now ≡ c.in_ok-polled.polled = search rules in
    let same : c.polled_in.result.now ≡ c.in_ok-polled.polled = search rules in
    record {
      act = poll_acts (holding c.args.held.now) (holding c.free_all.new.held) (holding c.take_first.new.held) (call_of c.args.call.now) c.args.slot c.args.n c.args.least
          (length c.as_slice.result.now) c.in-Some.cq c.in_ok-polled.polled c.polled_in.result.now c.in_ok-marks.marks
          is c.requires.apart some few within enough (ap length (read ∙ sym same)) same (search rules) (search rules) (search rules) (search rules);
    }

use Rattle.std.proofs.Common.{rules}
use Rattle.ca_adapter_parts.proofs.HoldLemmas.{put_srq}
use Rattle.ca_adapter_parts.specs.HeldView.{holding}
use Rattle.ca_adapter_pairs.proofs.DepartureLemmas.{all_left}
use Rattle.ca_adapter_pairs.proofs.departure.depart.Goals as goal

pub returns-in-Some : goal.returns-in-Some
returns-in-Some c = all_left c.args.departure c.args.around.now (holding c.args.held.now) (holding c.leave_both-places.new.held) _
    c.in-Some.srq c.srq_mut.result.now c.leave_shared.new.slot c.leave_both-places.result.items (search rules) c.leave_both-places.ensures.held
    c.leave_both-places.ensures.places c.srq_mut.ensures.value (search rules)
    (put_srq c.leave_both-places.new.held c.in-Some.srq c.leave_shared.new.slot (search rules))

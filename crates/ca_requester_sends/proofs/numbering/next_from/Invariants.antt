use Rattle.std.proofs.Common.{◌≡◌, ◌+◌, ◌-◌, find, length, slice_get, sum_by}
use Rattle.ca_model.specs.machine.Numbering.{has_psn}
use Rattle.ca_requester_sends.specs.Numbering.{IsWithin, begun_from, numbers_from}
use Rattle.ca_requester_sends.proofs.numbering.next_from.Given as goal

-- the request that goes on, or the one that begins, is among those to come
abbrev pub invariant-loop-request : goal.invariant-loop-request
invariant-loop-request l =
    IsWithin l.posting l.first l.q
    × ((find (has_psn l.q.requester.cursor) (begun_from l.posting l.first l.q) ≡ find (has_psn l.q.requester.cursor) (begun_from l.initial.posting l.initial.first l.q))
    × ((slice_get (numbers_from l.posting l.first l.q) (l.q.requester.next - l.posting) ≡ slice_get (numbers_from l.initial.posting l.initial.first l.q) (l.q.requester.next - l.initial.posting))
    × (l.first + sum_by (λ m. m.count) (begun_from l.posting l.first l.q) ≡ l.initial.first + sum_by (λ m. m.count) (begun_from l.initial.posting l.initial.first l.q))))

abbrev pub decreases-loop-request : goal.decreases-loop-request
decreases-loop-request l = length (numbers_from l.posting l.first l.q)

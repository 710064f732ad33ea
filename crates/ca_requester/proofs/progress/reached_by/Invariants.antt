use Rattle.std.proofs.Common.{◌≡◌, ℕ, ◌+◌, ◌-◌, ◌≤◌, Option, IfSome, length, sum_by}
use Rattle.ca_model.specs.machine.Acknowledgements.{first_unanswered}
use Rattle.ca_requester_sends.specs.Numbering.{IsWithin, begun_from}
use Rattle.ca_requester.specs.Progress.{finished_from, una_behind}
use Rattle.ca_requester.proofs.progress.reached_by.Given as goal

-- what is unanswered is among the requests to come, and those before them are finished
abbrev pub invariant-loop-n : goal.invariant-loop-n
invariant-loop-n l =
    IsWithin l.posting l.first l.q
    × ((l.initial.posting ≤ l.q.requester.next → l.posting ≤ l.q.requester.next)
    × ((l.initial.first ≤ l.first)
    × ((first_unanswered l.una l.psn (begun_from l.posting l.first l.q) ≡ first_unanswered l.una l.psn (begun_from l.initial.posting l.initial.first l.q))
    × ((back : Option ℕ) → IfSome back (λ b. (l.una ≤ b) × (l.first ≤ b)) →
    (l.posting + length (finished_from l.posting l.first (una_behind l.una l.psn back) l.q) ≡ l.initial.posting + length (finished_from l.initial.posting l.initial.first (una_behind l.una l.psn back) l.q))
    × (l.first + sum_by (λ n. n.count) (finished_from l.posting l.first (una_behind l.una l.psn back) l.q) ≡ l.initial.first + sum_by (λ n. n.count) (finished_from l.initial.posting l.initial.first (una_behind l.una l.psn back) l.q))))))

abbrev pub decreases-loop-n : goal.decreases-loop-n
decreases-loop-n l = l.q.requester.next - l.posting

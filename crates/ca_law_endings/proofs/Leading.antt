-- Plans that lead to worlds and marks: rules beside those of the crate below. For proofs only.
use Rattle.std.proofs.Common.{Bool, true, false, List, [], ◌∷◌, sym, true≢false}
use Rattle.ca_law_endings.specs.Runs.{Comes, Leads}
use Rattle.ca_keys.specs.Memory.{bytes_at}
use Rattle.ca_keys.specs.Refusals.{AllFail}
use Rattle.ca_model.specs.declared.mark.Mark.{Mark}
use Rattle.ca_model.specs.machine.Plan.{Plan, Stuck, Look, Read, If, Finish, perform, unless_refused}
use Rattle.ca_model.specs.machine.World.{World, get}

-- a plan leads where it comes to
pub leads-from : (w : World) (P : World → List Mark → Type 0) (p : Plan) → Comes P (perform w p) → Leads w P p
leads-from w P (Stuck reason) all = record {}
leads-from w P (Look n k) all = leads-from w P (k (get w n)) all
leads-from w P (Read runs k) all = leads-from w P (k (bytes_at w.byte runs)) all
leads-from w P (If true p q) all = (λ is. leads-from w P p all, λ is. absurd (true≢false is))
leads-from w P (If false p q) all = (λ is. absurd (true≢false (sym is)), λ is. leads-from w P q all)
leads-from w P (Finish changes writes marks) all = all

-- the tests of a plan that goes on all fail
pub leads-unless-all : {R : Type 0} (w : World) (P : World → List Mark → Type 0) (tests : List (Bool × R)) (refuse : R → Plan) (p : Plan) → ((r : R) → Leads w P (refuse r)) → (AllFail tests → Leads w P p)
    → Leads w P (unless_refused tests refuse p)
leads-unless-all w P [] refuse p refused more = more (record {})
leads-unless-all w P (t ∷ ts) refuse p refused more = (λ is. refused t.1, λ is. leads-unless-all w P ts refuse p refused (λ fails. more (is, fails)))

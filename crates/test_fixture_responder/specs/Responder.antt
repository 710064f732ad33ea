-- What holds of a responder's queue pair, of what it reaches, and of its shared receive queue, before and after each call.
-- Contracts cite it.
use Rattle.std.specs.Prelude.{ℕ, ◌≤◌, IfSome}
use Rattle.ca_base.specs.objects.SharedReceives.{SharedReceives}
use Rattle.ca_model.specs.machine.Invariants.{IsSharedReceives}
use Rattle.test_fixture_requester.specs.Bed as beds
use Rattle.test_fixture_responder.specs.declared.responder.Responder.{Responder}

-- a shared receive queue that comes up, to which so many receives were posted at most
pub record IsPosted (posted : ℕ) (s : SharedReceives) : Type 0 where
  pub shared : IsSharedReceives s
  pub few : s.next ≤ posted

-- the queue pair and the shared receive queue are some that come up, and the parts that are reached fit each other
pub record Stands (r : Responder) : Type 0 where
  pub bed : beds.Stands r.bed
  pub shared : IfSome r.srq (IsPosted r.posted)

-- Steady queue pairs: which requests are unfinished, and from which PSN on. Laws cite it.
use Rattle.std.specs.Prelude.{◌≡◌, ℕ, ◌≤◌, ◌<◌, true, false, List, [], ◌∷◌}
use Rattle.std.specs.List.{AllByRecursion}
use Rattle.ca_base.specs.objects.QueuePair.{QueuePair, QueueSlot, NoQueue, Present}
use Rattle.ca_keys.specs.declared.names.QueueId.{QueueId}
use Rattle.ca_model.specs.Requests.{is_local}
use Rattle.ca_model.specs.machine.Invariants.{is_sending}
use Rattle.ca_model.specs.machine.Numbering.{Numbered, begun_requests, psn_end, unfinished_requests}
use Rattle.ca_model.specs.machine.World.{World}

-- the first of these requests has a PSN from `una` on
abbrev pub EndsBehind : ℕ → List Numbered → Type 0
EndsBehind una [] = Unit {0}
EndsBehind una (n ∷ ns) = una < psn_end n

-- A queue pair as it comes up. Requests are unfinished in Rts and Sqd alone. There the PSNs of the first of them
-- begin no later than at `una`, and a READ or an atomic may be outstanding. None that has begun and is unfinished
-- is a local operation, and the first of these has a PSN from `una` on.
pub record IsSteadyQueue (q : QueuePair) : Type 0 where
  pub unfinished : is_sending q.state ≡ false → unfinished_requests q ≡ []
  pub oldest : is_sending q.state ≡ true → q.requester.oldest_psn ≤ q.requester.una
  pub reads : is_sending q.state ≡ true → 0 < q.requester.reads
  pub ends : EndsBehind q.requester.una (begun_requests q)
  pub packets : AllByRecursion (λ n. is_local n.request.op ≡ false) (begun_requests q)

abbrev pub IsSteadySlot : QueueSlot → Type 0
IsSteadySlot (NoQueue incarnation timers) = Unit {0}
IsSteadySlot (Present q) = IsSteadyQueue q

-- a world in which all queue pairs are so
abbrev pub IsSteadyWorld : World → Type 0
IsSteadyWorld w = (q : QueueId) → IsSteadySlot (w.queue q)

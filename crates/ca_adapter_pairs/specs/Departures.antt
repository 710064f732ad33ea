-- What a queue pair leaves around it when it is reset or destroyed. Contracts cite it.
use Rattle.std.specs.Prelude.{◌≡◌, ℕ, ◌-◌, ◌==◌, ◌&&◌, ◌≤◌, Bool, true, not, List, [], ◌∷◌, ◌++◌, filter, length, Option, IfSome}
use Rattle.std.specs.Option.{option_map, option_map_or}
use Rattle.ca_base.specs.declared.limits.TheConstants.{MAX_DEPTH}
use Rattle.ca_base.specs.objects.CompletionQueue.{CompletionQueue, receives_of, without_completions, without_reservations}
use Rattle.ca_base.specs.objects.SharedReceives.{SrqSlot, after_receives_retire}
use Rattle.ca_adapter_parts.specs.HeldView.{Holding}
use Rattle.ca_keys.specs.declared.names.QueueId.{QueueId}
use Rattle.ca_model.specs.machine.Plan.{Update, ◌:=◌}
use Rattle.ca_model.specs.machine.World.{Cq_of, Srq_of, World}
use Rattle.ca_srq.specs.Taken.{stands_once}
use Rattle.ca_adapter_pairs.specs.declared.around.Around.{Around}
use Rattle.ca_adapter_pairs.specs.declared.departure.Departure.{Departure}
use Rattle.ca_adapter_pairs.specs.declared.departure.Departure.TheVariants.{Reset, Destruction}

-- where it is gone, what it reserved is free again
abbrev pub without_reservations_at : Departure → QueueId → CompletionQueue → CompletionQueue
without_reservations_at Reset queue q = q
without_reservations_at Destruction queue q = without_reservations queue q

-- a completion queue that it left
abbrev pub after_departure : Departure → QueueId → CompletionQueue → CompletionQueue
after_departure d queue q = without_reservations_at d queue (without_completions queue q)

-- both completion queues
abbrev pub cq_updates : Departure → Around → World → List Update
cq_updates d a w =
    (Cq_of a.send := option_map (after_departure d a.queue) (w.cq a.send))
    ∷ (Cq_of a.recv := option_map (after_departure d a.queue) (w.cq a.recv))
    ∷ []

-- the place that its message in progress holds
abbrev pub places_left : Option ℕ → List ℕ
places_left in_use = option_map_or (λ place. place ∷ []) in_use []

-- the places of a shared receive queue that it holds
abbrev pub places_of : Around → World → List ℕ
places_of a w = option_map_or (receives_of a.queue) (w.cq a.recv) [] ++ places_left a.in_use

-- so many queue pairs use a shared receive queue that one has left
abbrev pub users_after : Departure → ℕ → ℕ
users_after Reset users = users
users_after Destruction users = users - 1

-- a shared receive queue with these places free
abbrev pub shared_after : Departure → List ℕ → SrqSlot → SrqSlot
shared_after d places slot = record {
  srq = option_map (after_receives_retire places) slot.srq;
  users = users_after d slot.users;
}

abbrev pub shared_updates : Departure → Around → World → List Update
shared_updates d a w = option_map_or (λ s. (Srq_of s := shared_after d (places_of a w) (w.srq s)) ∷ []) a.srq []

-- all that stands around it
abbrev pub departure_updates : Departure → Around → World → List Update
departure_updates d a w = cq_updates d a w ++ shared_updates d a w

-- all that stands around it is held
abbrev pub is_around_held : Around → Holding → Bool
is_around_held a h = h.has (Cq_of a.send) && h.has (Cq_of a.recv) && option_map_or (λ s. h.has (Srq_of s)) a.srq true

-- each of these places stands once among those that were taken, and none is among them twice
abbrev pub StandOnce : List ℕ → List ℕ → Type 0
StandOnce [] taken = Unit {0}
StandOnce (place ∷ places) taken =
    (stands_once place taken ≡ true) × StandOnce places (filter (λ p. not (p == place)) taken)

-- few of its receives wait in a completion queue
abbrev pub AreFew : QueueId → Option CompletionQueue → Type 0
AreFew queue cq = IfSome cq (λ q. length (receives_of queue q) ≤ MAX_DEPTH)

-- it can leave what stands around it: few of its receives wait, and each place that it holds stands once
pub record CanDepart (a : Around) (w : World) : Type 0 where
  pub send : AreFew a.queue (w.cq a.send)
  pub recv : AreFew a.queue (w.cq a.recv)
  pub places : IfSome a.srq (λ s. IfSome (w.srq s).srq (λ v. StandOnce (places_of a w) v.taken))

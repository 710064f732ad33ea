-- What a poll asks of the parts in hand, from what its caller shows of them. For proofs only.
use Rattle.std.proofs.Common.{◌≡◌, refl, sym, ℕ, suc, ◌<◌, ◌^◌, Bool, true, false, List, [], ◌∷◌, Option, None, Some, IfSome, is_some, if◌then◌else◌, true≢false}
use Rattle.std.specs.List.{AllByRecursion}
use Rattle.ca_adapter_polls.specs.Polling.{AreApart, AreOfOwnPlaces, CanFreeEach, CanFreeOf, CanRetire, IsApart, shared_at}
use Rattle.ca_adapter.proofs.WorldLemmas.{cq-is, queue-is, srq-is}
use Rattle.ca_adapter.specs.Ready.{ArePartsOfWorld, IsReady}
use Rattle.ca_base.specs.Configuration.{Configuration}
use Rattle.ca_base.specs.declared.completion.Completion.{Completion}
use Rattle.ca_base.specs.declared.request.RecvRequest.{RecvRequest}
use Rattle.ca_base.specs.objects.CompletionQueue.{CompletionQueue, source_in}
use Rattle.ca_base.specs.objects.QueuePair.{NoQueue, Present, QueueSlot, queue_in}
use Rattle.ca_base.specs.objects.SharedReceives.{SharedReceives}
use Rattle.ca_base.specs.objects.WorkQueue.{WorkQueue}
use Rattle.ca_adapter_parts.specs.declared.held.Held.{Held}
use Rattle.ca_adapter_parts.specs.HeldView.{holding}
use Rattle.ca_keys.specs.declared.names.QueueId.{QueueId}
use Rattle.ca_keys.specs.declared.names.Slot.{Slot}
use Rattle.ca_law_parts.proofs.Numbers.LimitLemmas.{places-free}
use Rattle.ca_law_parts.specs.Raised.{CanFree}
use Rattle.ca_law_parts.proofs.Room.FreedLemmas.{apart-waiting, freed-once, sharing-none}
use Rattle.ca_model.specs.declared.event.Event.{Event}
use Rattle.ca_model.specs.machine.CompletionVerbs.{source_of_completion}
use Rattle.ca_model.specs.machine.World.{World}
use Rattle.ca_srq.specs.Taken.{stands_once}

-- the place of a completion of a queue pair's own can be freed there
retires : (x : Completion) (o : QueueSlot) → CanFree o x → IfSome (queue_in o) (CanRetire x)
retires x (NoQueue incarnation timers) free = record {}
retires x (Present q) free = by x.receive q.receives free
  where
    by : (receive : Bool) (o : Option (WorkQueue RecvRequest)) → ((receive ≡ true → is_some o ≡ true) → suc x.place < 2 ^ 64)
        → CanRetire (record x { receive = receive }) (record q { receives = o })
    by true None free = record {}
    by true (Some r) free = free (λ is. refl)
    by false o free = free (λ is. absurd (true≢false (sym is)))

module _ (c : Configuration) (event : Event) (h : Held) (s : Slot) (ready : IsReady c event h) where
  abbrev are : ArePartsOfWorld c h
  are = ready.parts

  abbrev w : World
  w = are.world

  -- the place of a completion that waits stands once in the shared receive queue of which its receive was
  abbrev StandsOnce : CompletionQueue → Completion → Type 0
  StandsOnce v x = (t : ℕ) (z : SharedReceives) → (w.srq (shared_at s t)).srq ≡ Some z → x.receive ≡ true → source_in v.reservations x.queue ≡ Some t
      → stands_once x.place z.taken ≡ true

  each-stands : (v : CompletionQueue) (xs : List Completion)
      → ((t : ℕ) (z : SharedReceives) → (w.srq (shared_at s t)).srq ≡ Some z
      → AllByRecursion (λ x. x.receive ≡ true → source_in v.reservations x.queue ≡ Some t → stands_once x.place z.taken ≡ true) xs)
      → AllByRecursion (StandsOnce v) xs
  each-stands v [] all = record {}
  each-stands v (x ∷ xs) all = (λ t z is. (all t z is).0, each-stands v xs (λ t z is. (all t z is).1))

  frees : (v : CompletionQueue) (x : Completion) → CanFree (w.queue x.queue) x → StandsOnce v x → CanFreeOf s (source_of_completion v x) x (holding h).world
  frees v x free once = by x.receive refl (source_in v.reservations x.queue) refl
    where
      own : CanFreeOf s None x (holding h).world
      own = queue-is h w are.shows x.queue (λ o. IfSome (queue_in o) (CanRetire x)) (record {}) (retires x (w.queue x.queue) free)

      shared : (t : ℕ) → x.receive ≡ true → source_in v.reservations x.queue ≡ Some t → (o : Option SharedReceives) → (w.srq (shared_at s t)).srq ≡ o
          → IfSome o (λ z. stands_once x.place z.taken ≡ true)
      shared t is from None there = record {}
      shared t is from (Some z) there = once t z there is from

      by : (receive : Bool) → x.receive ≡ receive → (o : Option ℕ) → source_in v.reservations x.queue ≡ o
          → CanFreeOf s (if receive then o else None) x (holding h).world
      by false is o from = own
      by true is None from = own
      by true is (Some t) from = srq-is h w are.shows (shared_at s t) (λ z. IfSome z.srq (λ z. stands_once x.place z.taken ≡ true)) (record {})
          (shared t is from (w.srq (shared_at s t)).srq refl)

  all-free : (v : CompletionQueue) (xs : List Completion) → AllByRecursion (λ x. CanFree (w.queue x.queue) x) xs → AllByRecursion (StandsOnce v) xs
      → AllByRecursion (λ x. CanFreeOf s (source_of_completion v x) x (holding h).world) xs
  all-free v [] free once = record {}
  all-free v (x ∷ xs) free once = (frees v x free.0 once.0, all-free v xs free.1 once.1)

  pub waiting_can_be_freed : IfSome ((holding h).world.cq s) (CanFreeEach s (holding h).world)
  waiting_can_be_freed = cq-is h w are.shows s (λ o. IfSome o (CanFreeEach s (holding h).world)) (record {})
      (by (w.cq s) refl (places-free c are.count w s are.after.few are.after.sound are.after.numbers))
    where
      by : (o : Option CompletionQueue) → w.cq s ≡ o → IfSome o (λ v. AllByRecursion (λ x. CanFree (w.queue x.queue) x) v.waiting)
          → IfSome o (CanFreeEach s (holding h).world)
      by None there free = record {}
      by (Some v) there free = all-free v v.waiting free
          (each-stands v v.waiting (λ t z is. freed-once c w s v t z are.after.sound are.after.room there is))

  pub waiting_are_of_own_places : IfSome ((holding h).world.cq s) AreOfOwnPlaces
  waiting_are_of_own_places = cq-is h w are.shows s (λ o. IfSome o AreOfOwnPlaces) (record {}) (by (w.cq s) refl)
    where
      by : (o : Option CompletionQueue) → w.cq s ≡ o → IfSome o AreOfOwnPlaces
      by None there = record {}
      by (Some v) there = λ t. apart-waiting c w s v t are.after.sound are.after.room there

  pub waiting_are_apart : IfSome ((holding h).world.cq s) (AreApart (holding h).world)
  waiting_are_apart = cq-is h w are.shows s (λ o. IfSome o (AreApart (holding h).world)) (record {}) (by (w.cq s) refl)
    where
      of-slot : (v : CompletionQueue) (q : QueueId) → w.cq s ≡ Some v → (z : QueueSlot) → w.queue q ≡ z → IsApart v q z
      of-slot v q there (NoQueue incarnation timers) is = λ has. record {}
      of-slot v q there (Present p) is = λ has. sharing-none c w s v q p are.after.sound are.after.room there is has

      by : (o : Option CompletionQueue) → w.cq s ≡ o → IfSome o (AreApart (holding h).world)
      by None there = record {}
      by (Some v) there = λ q. queue-is h w are.shows q (IsApart v q) (λ has. record {}) (of-slot v q there (w.queue q) refl)

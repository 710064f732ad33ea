-- Before 2^32 - 1 events no number that only events raise is near the end of its type.
use Rattle.std.proofs.Common.{zero, ◌≡◌, ℕ, suc, ◌-◌, ◌^◌, ◌≤◌, ◌<◌, nat_lt, arith, Bool, true, false, List, [], ◌∷◌, Option, None, Some, IfSome, IsTrue, ◌&&◌, not, ap, sym, subst, true≢false, if◌then◌else◌, is_some, slice_get, refl}
use Rattle.std.proofs.lemmas.Bool.{lt-ltb}
use Rattle.std.specs.List.{AllByRecursion}
use Rattle.std.specs.Option.{option_and_then, option_map_or}
use Rattle.ca_base.specs.Configuration.{Configuration}
use Rattle.ca_base.specs.declared.completion.Completion.{Completion}
use Rattle.ca_base.specs.declared.mail_envelope.MailEnvelope.{MailEnvelope}
use Rattle.ca_base.specs.declared.request.RecvRequest.{RecvRequest}
use Rattle.ca_base.specs.objects.Mailbox.{Mailbox, bytes_lent, envelope_at, is_lost, later_than}
use Rattle.ca_base.specs.objects.QueuePair.{QueuePair, QueueSlot, NoQueue, Present, incarnation_of}
use Rattle.ca_base.specs.objects.SharedReceives.{SharedReceives}
use Rattle.ca_base.specs.objects.WorkQueue.{WorkQueue, next_place}
use Rattle.ca_keys.specs.declared.names.QueueId.{QueueId}
use Rattle.ca_keys.specs.declared.names.Slot.{Slot}
use Rattle.ca_mailbox.specs.Counting.{has_count_left, is_countable}
use Rattle.ca_model.specs.declared.event.Event.{Event}
use Rattle.ca_model.specs.machine.CanStep.{AreNarrow, CanStep}
use Rattle.ca_model.specs.machine.Frame.{Afterwards}
use Rattle.ca_model.specs.machine.Invariants.{IsQueue, IsReceives}
use Rattle.ca_model.specs.machine.Plan.{Outcome, NotReady, Did}
use Rattle.ca_model.specs.machine.Sound.{AreLimited, CanBeMade, IsFinished, IsQueueOf, IsSettled, IsSoundWorld}
use Rattle.ca_model.specs.machine.Step.{step}
use Rattle.ca_model.specs.machine.World.{World, Queue_of}
use Rattle.ca_law_parts.specs.Raised.{AreNumbersWithin, AreWorldsWithin, CanFree, IsSlotWithin, IsWorldWithin, psn_bound}
use Rattle.ca_law_parts.proofs.Numbers.EventNumberLemmas.{event-within}
use Rattle.ca_law_parts.proofs.Numbers.NumberLemmas.{AreReceivesWithin, oldest-within}
use Rattle.ca_law_world.proofs.Sound.SettledLemmas.{wait-map}
use Rattle.ca_law_world.proofs.Sound.SoundLemmas.{event-sound}

-- a world, sound and within so many events, and all that events lead to from there
pub worlds-within : (c : Configuration) (n : ℕ) (w : World) (events : List Event) → AreLimited c → AllByRecursion CanBeMade events → IsSoundWorld c w → IsWorldWithin n w → AreWorldsWithin c n w events
worlds-within c n w [] limited made sound within = (sound, within)
worlds-within c n w (event ∷ events) limited made sound within = (
  (sound, within),
  by (step c w event) (event-sound c event w limited sound made.0) (event-within c event n w sound within)
      (λ v one other. worlds-within c (suc n) v events limited made.1 one other),
)
  where
    by : (o : Outcome) → Afterwards (IsSoundWorld c) o → Afterwards (IsWorldWithin (suc n)) o
        → ((v : World) → IsSoundWorld c v → IsWorldWithin (suc n) v → AreWorldsWithin c (suc n) v events) → Afterwards (λ v. AreWorldsWithin c (suc n) v events) o
    by (NotReady reason) one other on = record {}
    by (Did v ms) one other on = on v one other

-- the numbers of a queue pair that is there
pub there-within : (n : ℕ) (w : World) (name : QueueId) (q : QueuePair) → IsWorldWithin n w → w.queue name ≡ Present q → AreNumbersWithin (psn_bound n) n q
there-within n w name q within is = subst (IsSlotWithin n) is (within (Queue_of name))

-- and it can come up
pub there-sound : (c : Configuration) (w : World) (name : QueueId) (q : QueuePair) → IsSoundWorld c w → w.queue name ≡ Present q → IsQueue q
there-sound c w name q sound is = (subst (IsQueueOf name) is (sound.things (Queue_of name))).2

pub narrow-queue : (n : ℕ) (w : World) (name : QueueId) (q : QueuePair) → n < 2 ^ 32 - 1 → IsWorldWithin n w → w.queue name ≡ Present q → AreNarrow q
narrow-queue n w name q few within is = record {
  una = omega (arith, numbers.una, few);
  cursor = omega (arith, numbers.cursor, few);
  oldest_psn = omega (arith, oldest-within (psn_bound n) n q numbers, few);
  rnrs = omega (arith, numbers.rnrs, few);
  timers = omega (arith, numbers.timers, few);
  expected = omega (arith, numbers.expected, few);
}
  where
    numbers : AreNumbersWithin (psn_bound n) n q
    numbers = there-within n w name q within is

pub can-step : (c : Configuration) (n : ℕ) (w : World) (name : QueueId) (q : QueuePair) → n < 2 ^ 32 - 1 → IsSoundWorld c w → IsWorldWithin n w → w.queue name ≡ Present q → CanStep q
can-step c n w name q few sound within is = record { queue = there-sound c w name q sound is; narrow = narrow-queue n w name q few within is }

pub taken-places : (n : ℕ) (o : Option (WorkQueue RecvRequest)) → IfSome o IsReceives → AreReceivesWithin n o → IfSome o (λ r. r.next_taken ≤ n)
taken-places n None good within = record {}
taken-places n (Some r) good within = omega (arith, good.waiting, within)

pub slot-incarnation : (n : ℕ) (w : World) (name : QueueId) → n < 2 ^ 32 - 1 → IsWorldWithin n w → incarnation_of (w.queue name) < 2 ^ 32 - 1
slot-incarnation n w name few within = by (w.queue name) (within (Queue_of name))
  where
    by : (s : QueueSlot) → IsSlotWithin n s → incarnation_of s < 2 ^ 32 - 1
    by (NoQueue incarnation timers) within = omega (arith, within.0, few)
    by (Present q) within = omega (arith, within.incarnation, few)

pub own-places : (n : ℕ) (o : Option (WorkQueue RecvRequest)) → n < 2 ^ 32 - 1 → AreReceivesWithin n o → IfSome o (λ r. suc (next_place r) < 2 ^ 64)
own-places n None few within = record {}
own-places n (Some r) few within = omega (arith, within, few)

pub shared-places : (n : ℕ) (o : Option SharedReceives) → n < 2 ^ 32 - 1 → IfSome o (λ r. r.next ≤ n) → IfSome o (λ r. suc r.next < 2 ^ 64)
shared-places n None few within = record {}
shared-places n (Some r) few within = omega (arith, within, few)

-- a completion that is settled has a place that was posted
can-free : (n : ℕ) (name : QueueId) (s : Slot) (slot : QueueSlot) (x : Completion) → n < 2 ^ 32 - 1 → IsQueueOf name slot → IsSlotWithin n slot → IsSettled s slot x → CanFree slot x
can-free n name s (NoQueue incarnation timers) x few sound within settled = record {}
can-free n name s (Present q) x few sound within settled = λ own. by x.receive settled.1 own
  where
    receive : (o : Option (WorkQueue RecvRequest)) → IfSome o IsReceives → AreReceivesWithin n o → IfSome o (λ r. x.place < r.next_taken) → is_some o ≡ true → suc x.place < 2 ^ 64
    receive None good within done some = absurd (true≢false (sym some))
    receive (Some r) good within done some = omega (arith, good.waiting, within, done, few)

    by : (receive_side : Bool) → IsFinished q receive_side x.place → (receive_side ≡ true → is_some q.receives ≡ true) → suc x.place < 2 ^ 64
    by true done own = receive q.receives sound.2.receives within.receives done (own refl)
    by false done own = omega (arith, sound.2.requester.begun, sound.2.requester.waiting, within.sends, done, few)

pub places-free : (c : Configuration) (n : ℕ) (w : World) (s : Slot) → n < 2 ^ 32 - 1 → IsSoundWorld c w → IsWorldWithin n w
    → IfSome (w.cq s) (λ v. AllByRecursion (λ x. CanFree (w.queue x.queue) x) v.waiting)
places-free c n w s few sound within = wait-map (λ x. IsSettled s (w.queue x.queue) x) (λ x. CanFree (w.queue x.queue) x)
    (λ x settled. can-free n x.queue s (w.queue x.queue) x few (sound.things (Queue_of x.queue)) (within (Queue_of x.queue)) settled) (w.cq s) (sound.settled s)

-- the envelope at an index was delivered so often at most
few-at : (n k : ℕ) (es : List MailEnvelope) → AllByRecursion (λ e. e.delivered ≤ n) es → IfSome (slice_get es k) (λ e. e.delivered ≤ n)
few-at n k [] all = record {}
few-at n zero (e ∷ es) all = all.0
few-at n (suc k) (e ∷ es) all = few-at n k es all.1

few-of : (n index : ℕ) (m : Mailbox) → AllByRecursion (λ e. e.delivered ≤ n) m.envelopes → IfSome (envelope_at index m) (λ e. e.delivered ≤ n)
few-of n index m all = by (nat_lt index m.next)
  where
    by : (z : Bool) → IfSome (if z then slice_get m.envelopes (later_than index m) else None) (λ e. e.delivered ≤ n)
    by true = few-at n (later_than index m) m.envelopes all
    by false = record {}

pub lent-countable : (n index : ℕ) (m : Mailbox) (bytes : List ℕ) → n < 2 ^ 32 - 1 → AllByRecursion (λ e. e.delivered ≤ n) m.envelopes → bytes_lent index m ≡ Some bytes → IsTrue (is_countable index m)
lent-countable n index m bytes few all lent = by (envelope_at index m) lent (few-of n index m all)
  where
    by : (o : Option MailEnvelope) → option_and_then (λ e. if is_lost e.lot then None else Some e.bytes) o ≡ Some bytes → IfSome o (λ e. e.delivered ≤ n)
        → IsTrue (option_map_or (λ e. not (is_lost e.lot) && has_count_left e) o false)
    by None lent at = absurd (true≢false (sym (ap is_some lent)))
    by (Some e) lent at = kept (is_lost e.lot) lent
      where
        kept : (z : Bool) → (if z then None else Some e.bytes) ≡ Some bytes → IsTrue (not z && has_count_left e)
        kept true lent = absurd (true≢false (sym (ap is_some lent)))
        kept false lent = lt-ltb (suc e.delivered) (2 ^ 64) (omega (arith, at, few))

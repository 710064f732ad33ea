-- What the act of a turn asks of the parts in hand, from what its caller shows of them. For proofs only.
use Rattle.std.proofs.Common.{◌≡◌, ◌∙◌, refl, sym, ap, subst, suc, ◌<◌, ◌-◌, ◌^◌, arith, ℕ, Bool, true, false, List, Option, None, Some, IfSome, IsTrue, is_some, true≢false}
use Rattle.ca_adapter_acts.specs.Act.{Suffices}
use Rattle.ca_adapter_acts.specs.Room.{FitsDone}
use Rattle.ca_adapter_arrivals.specs.ca_adapter_turns.Shown.{AreShown}
use Rattle.ca_adapter.proofs.ReadyLemmas.{queues_can_step, ready-suffices, verb_named}
use Rattle.ca_adapter.proofs.WorldLemmas.{shown, sound-thing, vacant-there, within}
use Rattle.ca_adapter.specs.Ready.{ArePartsOfWorld, IsReady}
use Rattle.ca_base.specs.Configuration.{Configuration}
use Rattle.ca_base.specs.objects.CompletionQueue.{CompletionQueue}
use Rattle.ca_base.specs.objects.Mailbox.{bytes_lent}
use Rattle.ca_base.specs.objects.QueuePair.{NoQueue, Present, QueueSlot, queue_in}
use Rattle.ca_adapter_parts.specs.declared.held.Held.{Held}
use Rattle.ca_adapter_parts.specs.HeldView.{holding}
use Rattle.ca_keys.specs.declared.names.QueueId.{QueueId}
use Rattle.ca_keys.specs.declared.names.Slot.{Slot}
use Rattle.ca_law_parts.proofs.Numbers.LimitLemmas.{lent-countable}
use Rattle.ca_law_parts.specs.Raised.{IsSlotWithin}
use Rattle.ca_law_parts.proofs.Room.EventRoomLemmas.{together-fit}
use Rattle.ca_mailbox.specs.Counting.{is_countable}
use Rattle.ca_model.proofs.FrameLemmas.{event-agrees}
use Rattle.ca_model.specs.declared.event.Event.{Event}
use Rattle.ca_model.specs.declared.part_name.PartName.TheVariants as names
use Rattle.ca_model.specs.declared.event.Event.TheVariants as events
use Rattle.ca_model.specs.declared.verb.Verb.{Verb}
use Rattle.ca_model.specs.machine.CanStep.{CanStep}
use Rattle.ca_model.specs.machine.Frame.{SameOutcomeWhere}
use Rattle.ca_model.specs.machine.Plan.{Did, NotReady, Outcome, perform}
use Rattle.ca_model.specs.machine.Sound.{CanBeMade, IsQueueOf}
use Rattle.ca_model.specs.machine.Step.{is_named, plan, step, verb_plan}
use Rattle.ca_model.specs.machine.World.{Cq_of, Mailbox_of, Queue_of, Region_of, Window_of}

has-cq : (h : Held) (s : Slot) → (holding h).parts (names.Cq s) ≡ true → (holding h).has (Cq_of s) ≡ true
unfolding holding
has-cq h s held = held

module _ (c : Configuration) (event : Event) (h : Held) (ready : IsReady c event h) where
  are : ArePartsOfWorld c h
  are = ready.parts

  pub turn_suffices : Suffices h (plan c event)
  turn_suffices = ready-suffices c event h ready

  pub turn_parts : AreShown c h
  turn_parts = record {
    world = are.world;
    sound = are.after.sound;
    bound = are.after.counted;
    outside = record { regions = λ s no. are.after.placed.vacant (Region_of s) no; windows = λ s no. are.after.placed.vacant (Window_of s) no };
    shows = are.shows;
  }

  pub turn_steps : (q : QueueId) → IfSome (queue_in ((holding h).world.queue q)) CanStep
  turn_steps q = queues_can_step c h are q

  pub turn_named : (n : QueueId) → IfSome (queue_in ((holding h).world.queue n)) (λ q. q.queue ≡ n)
  turn_named n = by ((holding h).world.queue n) (sound-thing c h are (Queue_of n))
    where
      by : (s : QueueSlot) → IsQueueOf n s → IfSome (queue_in s) (λ q. q.queue ≡ n)
      by (NoQueue incarnation timers) of = record {}
      by (Present q) of = of.0

  pub turn_mail : (n : QueueId) → suc ((holding h).world.mailbox n).next < 2 ^ 64
  turn_mail n = omega (arith, (within c h are (Mailbox_of n)).0, are.after.few)

  pub turn_windows : (n : QueueId) → IfSome (queue_in ((holding h).world.queue n)) (λ q. q.windows < 2 ^ 32 - 1)
  turn_windows n = by ((holding h).world.queue n) (within c h are (Queue_of n))
    where
      by : (s : QueueSlot) → IsSlotWithin are.count s → IfSome (queue_in s) (λ q. q.windows < 2 ^ 32 - 1)
      by (NoQueue incarnation timers) small = record {}
      by (Present q) small = omega (arith, small.windows, are.after.few)

  pub turn_bound : (s : Slot) → ((holding h).world.region s).bound < 2 ^ 32 - 1
  turn_bound s = omega (arith, within c h are (Region_of s), are.after.few)

  pub turn_counts : (n : QueueId) (index : ℕ)
      → IfSome (bytes_lent index ((holding h).world.mailbox n)) (λ bytes. IsTrue (is_countable index ((holding h).world.mailbox n)))
  turn_counts n index = by (bytes_lent index ((holding h).world.mailbox n)) refl
    where
      by : (o : Option (List ℕ)) → bytes_lent index ((holding h).world.mailbox n) ≡ o
          → IfSome o (λ bytes. IsTrue (is_countable index ((holding h).world.mailbox n)))
      by None lent = record {}
      by (Some bytes) lent = lent-countable are.count index ((holding h).world.mailbox n) bytes are.after.few (within c h are (Mailbox_of n)).1 lent

  -- a completion queue that is there is held
  cq-held : (s : Slot) (q : CompletionQueue) → (holding h).world.cq s ≡ Some q → (holding h).parts (names.Cq s) ≡ true
  cq-held s q there = by ((holding h).parts (names.Cq s)) refl
    where
      by : (b : Bool) → (holding h).parts (names.Cq s) ≡ b → b ≡ true
      by true e = refl
      by false e = absurd (true≢false (sym (ap is_some there) ∙ ap is_some (vacant-there h (Cq_of s) e)))

  pub turn_fits : CanBeMade event → FitsDone (holding h).world (perform (holding h).world (plan c event))
  turn_fits made = by (perform (holding h).world (plan c event)) (step c are.world event) refl
      (event-agrees (holding h).has c event (holding h).world are.world (shown c h are) (ready-suffices c event h ready))
    where
      by : (a b : Outcome) → step c are.world event ≡ b → SameOutcomeWhere (holding h).has a b → FitsDone (holding h).world a
      by (NotReady reason) b is same = record {}
      by (Did v ms) (NotReady reason) is same = absurd same
      by (Did v ms) (Did u ns) is same = λ s q put there puts.
          let held : (holding h).parts (names.Cq s) ≡ true = cq-held s q there
          in together-fit c event are.world u ns s q put are.after.limited are.after.sound are.after.room made is
          (sym (same.1 (Cq_of s) (has-cq h s held)) ∙ puts)

-- what is in hand is ready for the event that it is
pub of-event : {c : Configuration} {event e : Event} {h : Held} → event ≡ e → IsReady c event h → IsReady c e h
of-event {c} {event} {e} {h} is ready = subst (λ x. IsReady c x h) is ready

-- what a verb completes fits, where its names are configured
pub verb_fits : (c : Configuration) (by : ℕ) (verb v : Verb) (h : Held) → verb ≡ v → IsReady c (events.Verb by verb) h → CanBeMade (events.Verb by verb)
    → is_named c verb ≡ true → FitsDone (holding h).world (perform (holding h).world (verb_plan c (record { by = by; verb = verb }) v))
verb_fits c by verb v h is ready made named =
    subst (λ x. FitsDone (holding h).world (perform (holding h).world (verb_plan c (record { by = by; verb = verb }) x))) is
    (subst (FitsDone (holding h).world) (verb_named c by verb (holding h).world named) (turn_fits c (events.Verb by verb) h ready made))

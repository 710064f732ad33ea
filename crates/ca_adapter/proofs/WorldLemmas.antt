-- The small world of parts in hand that are those of a world which comes up. For proofs only.
use Rattle.std.proofs.Common.{◌≡◌, refl, sym, ap, subst, ℕ, arith, nat_lt, Bool, true, false, List, length, Option, None, Some, is_some, true≢false}
use Rattle.std.specs.Option.{option_map, option_map_or}
use Rattle.ca_adapter_acts.specs.Steps.{Shows}
use Rattle.ca_base.specs.Configuration.{Configuration}
use Rattle.ca_base.specs.objects.Domain.{free_domain}
use Rattle.ca_base.specs.objects.Mailbox.{empty_mailbox}
use Rattle.ca_base.specs.objects.CompletionQueue.{CompletionQueue}
use Rattle.ca_base.specs.objects.QueuePair.{QueueSlot, vacant_queue}
use Rattle.ca_base.specs.objects.Region.{vacant_region}
use Rattle.ca_base.specs.objects.SharedReceives.{SrqSlot, vacant_srq}
use Rattle.ca_base.specs.objects.Window.{vacant_window}
use Rattle.ca_adapter_parts.specs.declared.held.Held.{Held}
use Rattle.ca_adapter_parts.specs.HeldView.{holding}
use Rattle.ca_adapter_parts.specs.Parts.{slot_of}
use Rattle.ca_keys.specs.declared.names.QueueId.{QueueId}
use Rattle.ca_keys.specs.declared.names.Slot.{Slot}
use Rattle.ca_model.specs.declared.part_name.PartName.TheVariants as names
use Rattle.ca_keys.specs.Equal.{domain_eq, queue_eq, slot_eq}
use Rattle.ca_adapter_reach.specs.Names.{buffer_eq, buffer_of}
use Rattle.ca_adapter_reach.specs.Seen.{or_vacant}
use Rattle.ca_law_parts.specs.Placed.{is_configured}
use Rattle.ca_law_parts.specs.Raised.{IsThingWithin, IsWorldWithin}
use Rattle.ca_memory.specs.Buffer.{memory_of}
use Rattle.ca_model.specs.machine.Parts.{ShowsHeld, part_of}
use Rattle.ca_model.specs.machine.Sound.{IsSoundThing}
use Rattle.ca_model.specs.machine.World.{World, Name, Domain_of, Region_of, Window_of, Cq_of, Srq_of, Queue_of, Mailbox_of, Byte_at, Thing, get, opening_world}
use Rattle.ca_adapter_parts.proofs.of_ca_law_world.Sound.SoundLemmas.{opening-sound}
use Rattle.ca_adapter_reach.specs.Shelved.{thing_under}
use Rattle.ca_adapter.specs.Ready.{ArePartsOfWorld}

-- the world in which nothing stands
abbrev pub vacant_world : World
vacant_world = opening_world (λ p. 0)

-- no thing is there
absent : {A : Type 0} (o : Option A) → is_some o ≡ false → o ≡ None
absent None none = refl
absent (Some a) none = absurd (true≢false none)

-- where a part is not held, what stands in it is vacant
pub vacant-there : (h : Held) (n : Name) → (holding h).parts (part_of n) ≡ false → get (holding h).world n ≡ get vacant_world n
unfolding holding
vacant-there h (Domain_of d) none = ap (or_vacant free_domain) (absent (thing_under domain_eq d h.controls.things) none)
vacant-there h (Region_of s) none = ap (or_vacant vacant_region) (absent (thing_under slot_eq s h.reached.regions.things) none)
vacant-there h (Window_of s) none = ap (or_vacant (vacant_window s)) (absent (thing_under slot_eq s h.reached.windows.things) none)
vacant-there h (Cq_of s) none = ap (or_vacant None) (absent (thing_under slot_eq s h.cqs.things) none)
vacant-there h (Srq_of s) none = ap (or_vacant vacant_srq) (absent (thing_under slot_eq s h.srqs.things) none)
vacant-there h (Queue_of q) none = ap (λ o. or_vacant vacant_queue (option_map (λ b. slot_of b.value) o)) (absent (thing_under queue_eq q h.queues.things) none)
vacant-there h (Mailbox_of q) none = ap (or_vacant empty_mailbox) (absent (thing_under queue_eq q h.mailboxes.things) none)
vacant-there h (Byte_at p) none = ap (λ o. option_map_or (λ bytes. memory_of bytes p) o 0) (absent (thing_under buffer_eq (buffer_of p) h.reached.buffers.things) none)

-- a thing other than a byte is held exactly where its part is
pub has-thing : (c : Configuration) (h : Held) (are : ArePartsOfWorld c h) (n : Name) → (holding h).parts (part_of n) ≡ true → is_configured c n ≡ true
    → (holding h).has n ≡ true
unfolding holding
has-thing c h are (Domain_of d) held configured = held
has-thing c h are (Region_of s) held configured = held
has-thing c h are (Window_of s) held configured = held
has-thing c h are (Cq_of s) held configured = held
has-thing c h are (Srq_of s) held configured = held
has-thing c h are (Queue_of q) held configured = held
has-thing c h are (Mailbox_of q) held configured = held
has-thing c h are (Byte_at p) held configured = are.whole p held configured

-- what is held stands in a part that is held
pub part-of-held : (h : Held) (n : Name) → (holding h).has n ≡ true → (holding h).parts (part_of n) ≡ true
unfolding holding
part-of-held h (Domain_of d) has = has
part-of-held h (Region_of s) has = has
part-of-held h (Window_of s) has = has
part-of-held h (Cq_of s) has = has
part-of-held h (Srq_of s) has = has
part-of-held h (Queue_of q) has = has
part-of-held h (Mailbox_of q) has = has
part-of-held h (Byte_at p) has = by (thing_under buffer_eq (buffer_of p) h.reached.buffers.things) has
  where
    by : (o : Option (List ℕ)) → option_map_or (λ bytes. nat_lt p.offset (length bytes)) o false ≡ true → is_some o ≡ true
    by None has = absurd (true≢false (sym has))
    by (Some bytes) has = refl

-- a world shows all that is held of its parts
pub shown : (c : Configuration) (h : Held) (are : ArePartsOfWorld c h) → Shows are.world (holding h)
shown c h are n has = are.shows n (part-of-held h n has)

-- what holds of a vacant thing and of the world's holds of what is held
pub thing-is : (P : (n : Name) → Thing n → Type 0) (h : Held) (w : World) → ShowsHeld (holding h).parts (holding h).world w
    → (n : Name) → P n (get vacant_world n) → P n (get w n) → P n (get (holding h).world n)
thing-is P h w shows n vacant there = by ((holding h).parts (part_of n)) refl
  where
    by : (b : Bool) → (holding h).parts (part_of n) ≡ b → P n (get (holding h).world n)
    by true e = subst (P n) (sym (shows n e)) there
    by false e = subst (P n) (sym (vacant-there h n e)) vacant

vacant-within : (count : ℕ) (n : Name) → IsThingWithin count n (get vacant_world n)
vacant-within count (Domain_of d) = omega arith
vacant-within count (Region_of s) = omega arith
vacant-within count (Window_of s) = record {}
vacant-within count (Cq_of s) = record {}
vacant-within count (Srq_of s) = (omega arith, record {})
vacant-within count (Queue_of q) = (omega arith, omega arith)
vacant-within count (Mailbox_of q) = (omega arith, record {})
vacant-within count (Byte_at p) = record {}

-- the numbers of what is held are within as many events as led to its world
pub within : (c : Configuration) (h : Held) (are : ArePartsOfWorld c h) → IsWorldWithin are.count (holding h).world
within c h are n = thing-is (IsThingWithin are.count) h are.world are.shows n (vacant-within are.count n) (are.after.numbers n)

-- each thing that is held is sound
pub sound-thing : (c : Configuration) (h : Held) (are : ArePartsOfWorld c h) (n : Name) → IsSoundThing c n (get (holding h).world n)
sound-thing c h are n = thing-is (IsSoundThing c) h are.world are.shows n ((opening-sound c (λ p. 0)).things n) (are.after.sound.things n)

-- the same of a completion queue, of a shared receive queue and of a queue pair's slot
module _ (h : Held) (w : World) (shows : ShowsHeld (holding h).parts (holding h).world w) where
  pub cq-is : (s : Slot) (P : Option CompletionQueue → Type 0) → P None → P (w.cq s) → P ((holding h).world.cq s)
  cq-is s P vacant there = by ((holding h).parts (names.Cq s)) refl
    where
      by : (b : Bool) → (holding h).parts (names.Cq s) ≡ b → P ((holding h).world.cq s)
      by true e = subst P (sym (shows (Cq_of s) e)) there
      by false e = subst P (sym (vacant-there h (Cq_of s) e)) vacant

  pub srq-is : (s : Slot) (P : SrqSlot → Type 0) → P vacant_srq → P (w.srq s) → P ((holding h).world.srq s)
  srq-is s P vacant there = by ((holding h).parts (names.Srq s)) refl
    where
      by : (b : Bool) → (holding h).parts (names.Srq s) ≡ b → P ((holding h).world.srq s)
      by true e = subst P (sym (shows (Srq_of s) e)) there
      by false e = subst P (sym (vacant-there h (Srq_of s) e)) vacant

  pub queue-is : (q : QueueId) (P : QueueSlot → Type 0) → P vacant_queue → P (w.queue q) → P ((holding h).world.queue q)
  queue-is q P vacant there = by ((holding h).parts (names.Queue q)) refl
    where
      by : (b : Bool) → (holding h).parts (names.Queue q) ≡ b → P ((holding h).world.queue q)
      by true e = subst P (sym (shows (Queue_of q) e)) there
      by false e = subst P (sym (vacant-there h (Queue_of q) e)) vacant

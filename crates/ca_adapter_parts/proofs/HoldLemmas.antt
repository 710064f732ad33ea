-- Changing a held thing changes the thing of its name in the small world, and nothing else. For proofs only.
use Rattle.std.proofs.Common.{◌≡◌, ◌∙◌, refl, sym, ap, Bool, true, false, List, Option, None, Some, Box, is_some, if◌then◌else◌, true≢false}
use Rattle.std.proofs.Math.Path.{fun_ext}
use Rattle.std.specs.Option.{option_map, option_map_or}
use Rattle.std.specs.declared.alloc.Global.{Global}
use Rattle.ca_keys.specs.declared.names.DomainId.{DomainId}
use Rattle.ca_keys.specs.declared.names.QueueId.{QueueId}
use Rattle.ca_keys.specs.declared.names.Slot.{Slot}
use Rattle.ca_keys.specs.Equal.{domain_eq, queue_eq, slot_eq}
use Rattle.ca_base.specs.objects.CompletionQueue.{CompletionQueue}
use Rattle.ca_base.specs.objects.Domain.{Domain, free_domain}
use Rattle.ca_base.specs.objects.Mailbox.{Mailbox, empty_mailbox}
use Rattle.ca_base.specs.objects.QueuePair.{vacant_queue}
use Rattle.ca_base.specs.objects.Region.{Region, vacant_region}
use Rattle.ca_base.specs.objects.SharedReceives.{SrqSlot, vacant_srq}
use Rattle.ca_base.specs.objects.Window.{Window, vacant_window}
use Rattle.ca_qpstate.specs.ca_model.machine.World.{Name, Domain_of, Region_of, Window_of, Cq_of, Srq_of, Queue_of, Mailbox_of, Byte_at}
use Rattle.ca_qpstate.specs.ca_model.declared.part_name.PartName.{PartName}
use Rattle.ca_qpstate.specs.ca_model.declared.part_name.PartName.TheVariants as names
use Rattle.ca_qpstate.proofs.of_ca_model.ThingLemmas.{domain-path, queue-path, slot-path}
use Rattle.ca_adapter_reach.specs.declared.shelf.Named.{Named}
use Rattle.ca_adapter_reach.specs.Shelved.{has_thing, thing_under, with_thing}
use Rattle.ca_adapter_parts.specs.declared.held.Held.{Held}
use Rattle.ca_adapter_parts.specs.declared.part.QueueSlot.{QueueSlot}
use Rattle.ca_adapter_parts.specs.HeldView.{Holding, hold, holding, held_world, is_held_name, is_held_part, with_control, with_cq, with_mailbox, with_queue, with_region, with_srq, with_window}
use Rattle.ca_adapter_parts.specs.Parts.{slot_of}
use Rattle.ca_adapter_reach.specs.Laws.{has-with, plain-with, thing-with}
use Rattle.ca_adapter_reach.specs.Seen.{or_vacant}

module _ {N T : Type 0} (same : N → N → Bool) (path : (a b : N) → same a b ≡ true → a ≡ b) where
  -- what stands there, or else what is vacant
  pub or-with : {A : Type 0} (f : T → A) (vacant : N → A) (xs : List (Named N T)) (n m : N) (v : T) → has_thing same n xs ≡ true
      → or_vacant (vacant m) (option_map f (thing_under same m (with_thing same n v xs)))
      ≡ (if same n m then f v else or_vacant (vacant m) (option_map f (thing_under same m xs)))
  or-with f vacant xs n m v has = ap (λ o. or_vacant (vacant m) (option_map f o)) (thing-with same path xs n m v has) ∙ by (same n m)
    where
      by : (b : Bool) → or_vacant (vacant m) (option_map f (if b then Some v else thing_under same m xs)) ≡ (if b then f v else or_vacant (vacant m) (option_map f (thing_under same m xs)))
      by true = refl
      by false = refl

pub put_control : (h : Held) (name : DomainId) (thing : Domain) → (holding h).has (Domain_of name) ≡ true → holding (with_control h name thing) ≡ hold (holding h) (Domain_of name) thing
unfolding holding with_control
put_control h name thing has = λ i. record {
  world = record (held_world h) { domain = fun_ext (λ m. plain-with domain_eq domain-path (λ d. free_domain) h.controls.things name m thing has) i };
  has = fun_ext kept i;
  parts = fun_ext parts i;
}
  where
    kept : (n : Name) → is_held_name (with_control h name thing) n ≡ is_held_name h n
    kept (Domain_of m) = has-with domain_eq domain-path h.controls.things name m thing has
    kept (Region_of m) = refl
    kept (Window_of m) = refl
    kept (Cq_of m) = refl
    kept (Srq_of m) = refl
    kept (Queue_of m) = refl
    kept (Mailbox_of m) = refl
    kept (Byte_at m) = refl

    parts : (p : PartName) → is_held_part (with_control h name thing) p ≡ is_held_part h p
    parts (names.Control m) = has-with domain_eq domain-path h.controls.things name m thing has
    parts (names.Region m) = refl
    parts (names.Window m) = refl
    parts (names.Cq m) = refl
    parts (names.Srq m) = refl
    parts (names.Queue m) = refl
    parts (names.Mailbox m) = refl
    parts (names.Buffer a x) = refl

pub put_mailbox : (h : Held) (name : QueueId) (thing : Mailbox) → (holding h).has (Mailbox_of name) ≡ true → holding (with_mailbox h name thing) ≡ hold (holding h) (Mailbox_of name) thing
unfolding holding with_mailbox
put_mailbox h name thing has = λ i. record {
  world = record (held_world h) { mailbox = fun_ext (λ m. plain-with queue_eq queue-path (λ q. empty_mailbox) h.mailboxes.things name m thing has) i };
  has = fun_ext kept i;
  parts = fun_ext parts i;
}
  where
    kept : (n : Name) → is_held_name (with_mailbox h name thing) n ≡ is_held_name h n
    kept (Domain_of m) = refl
    kept (Region_of m) = refl
    kept (Window_of m) = refl
    kept (Cq_of m) = refl
    kept (Srq_of m) = refl
    kept (Queue_of m) = refl
    kept (Mailbox_of m) = has-with queue_eq queue-path h.mailboxes.things name m thing has
    kept (Byte_at m) = refl

    parts : (p : PartName) → is_held_part (with_mailbox h name thing) p ≡ is_held_part h p
    parts (names.Control m) = refl
    parts (names.Region m) = refl
    parts (names.Window m) = refl
    parts (names.Cq m) = refl
    parts (names.Srq m) = refl
    parts (names.Queue m) = refl
    parts (names.Mailbox m) = has-with queue_eq queue-path h.mailboxes.things name m thing has
    parts (names.Buffer a x) = refl

pub put_cq : (h : Held) (name : Slot) (thing : Option CompletionQueue) → (holding h).has (Cq_of name) ≡ true → holding (with_cq h name thing) ≡ hold (holding h) (Cq_of name) thing
unfolding holding with_cq
put_cq h name thing has = λ i. record {
  world = record (held_world h) { cq = fun_ext (λ m. plain-with slot_eq slot-path (λ s. None) h.cqs.things name m thing has) i };
  has = fun_ext kept i;
  parts = fun_ext parts i;
}
  where
    kept : (n : Name) → is_held_name (with_cq h name thing) n ≡ is_held_name h n
    kept (Domain_of m) = refl
    kept (Region_of m) = refl
    kept (Window_of m) = refl
    kept (Cq_of m) = has-with slot_eq slot-path h.cqs.things name m thing has
    kept (Srq_of m) = refl
    kept (Queue_of m) = refl
    kept (Mailbox_of m) = refl
    kept (Byte_at m) = refl

    parts : (p : PartName) → is_held_part (with_cq h name thing) p ≡ is_held_part h p
    parts (names.Control m) = refl
    parts (names.Region m) = refl
    parts (names.Window m) = refl
    parts (names.Cq m) = has-with slot_eq slot-path h.cqs.things name m thing has
    parts (names.Srq m) = refl
    parts (names.Queue m) = refl
    parts (names.Mailbox m) = refl
    parts (names.Buffer a x) = refl

pub put_srq : (h : Held) (name : Slot) (thing : SrqSlot) → (holding h).has (Srq_of name) ≡ true → holding (with_srq h name thing) ≡ hold (holding h) (Srq_of name) thing
unfolding holding with_srq
put_srq h name thing has = λ i. record {
  world = record (held_world h) { srq = fun_ext (λ m. plain-with slot_eq slot-path (λ s. vacant_srq) h.srqs.things name m thing has) i };
  has = fun_ext kept i;
  parts = fun_ext parts i;
}
  where
    kept : (n : Name) → is_held_name (with_srq h name thing) n ≡ is_held_name h n
    kept (Domain_of m) = refl
    kept (Region_of m) = refl
    kept (Window_of m) = refl
    kept (Cq_of m) = refl
    kept (Srq_of m) = has-with slot_eq slot-path h.srqs.things name m thing has
    kept (Queue_of m) = refl
    kept (Mailbox_of m) = refl
    kept (Byte_at m) = refl

    parts : (p : PartName) → is_held_part (with_srq h name thing) p ≡ is_held_part h p
    parts (names.Control m) = refl
    parts (names.Region m) = refl
    parts (names.Window m) = refl
    parts (names.Cq m) = refl
    parts (names.Srq m) = has-with slot_eq slot-path h.srqs.things name m thing has
    parts (names.Queue m) = refl
    parts (names.Mailbox m) = refl
    parts (names.Buffer a x) = refl

pub put_window : (h : Held) (name : Slot) (thing : Window) → (holding h).has (Window_of name) ≡ true → holding (with_window h name thing) ≡ hold (holding h) (Window_of name) thing
unfolding holding with_window
put_window h name thing has = λ i. record {
  world = record (held_world h) { window = fun_ext (λ m. plain-with slot_eq slot-path (vacant_window) h.reached.windows.things name m thing has) i };
  has = fun_ext kept i;
  parts = fun_ext parts i;
}
  where
    kept : (n : Name) → is_held_name (with_window h name thing) n ≡ is_held_name h n
    kept (Domain_of m) = refl
    kept (Region_of m) = refl
    kept (Window_of m) = has-with slot_eq slot-path h.reached.windows.things name m thing has
    kept (Cq_of m) = refl
    kept (Srq_of m) = refl
    kept (Queue_of m) = refl
    kept (Mailbox_of m) = refl
    kept (Byte_at m) = refl

    parts : (p : PartName) → is_held_part (with_window h name thing) p ≡ is_held_part h p
    parts (names.Control m) = refl
    parts (names.Region m) = refl
    parts (names.Window m) = has-with slot_eq slot-path h.reached.windows.things name m thing has
    parts (names.Cq m) = refl
    parts (names.Srq m) = refl
    parts (names.Queue m) = refl
    parts (names.Mailbox m) = refl
    parts (names.Buffer a x) = refl

pub put_region : (h : Held) (name : Slot) (thing : Region) → (holding h).has (Region_of name) ≡ true → holding (with_region h name thing) ≡ hold (holding h) (Region_of name) thing
unfolding holding with_region
put_region h name thing has = λ i. record {
  world = record (held_world h) { region = fun_ext (λ m. plain-with slot_eq slot-path (λ s. vacant_region) h.reached.regions.things name m thing has) i };
  has = fun_ext kept i;
  parts = fun_ext parts i;
}
  where
    kept : (n : Name) → is_held_name (with_region h name thing) n ≡ is_held_name h n
    kept (Domain_of m) = refl
    kept (Region_of m) = has-with slot_eq slot-path h.reached.regions.things name m thing has
    kept (Window_of m) = refl
    kept (Cq_of m) = refl
    kept (Srq_of m) = refl
    kept (Queue_of m) = refl
    kept (Mailbox_of m) = refl
    kept (Byte_at m) = refl

    parts : (p : PartName) → is_held_part (with_region h name thing) p ≡ is_held_part h p
    parts (names.Control m) = refl
    parts (names.Region m) = has-with slot_eq slot-path h.reached.regions.things name m thing has
    parts (names.Window m) = refl
    parts (names.Cq m) = refl
    parts (names.Srq m) = refl
    parts (names.Queue m) = refl
    parts (names.Mailbox m) = refl
    parts (names.Buffer a x) = refl

pub put_queue : (h : Held) (name : QueueId) (thing : QueueSlot) → (holding h).has (Queue_of name) ≡ true
    → holding (with_queue h name thing) ≡ hold (holding h) (Queue_of name) (slot_of thing)
unfolding holding with_queue
put_queue h name thing has = by (thing_under queue_eq name h.queues.things) refl
  where
    with_box : Box QueueSlot Global → Held
    with_box b = record h { queues = record h.queues { things = with_thing queue_eq name (record b { value = thing }) h.queues.things } }

    kept : (b : Box QueueSlot Global) (n : Name) → is_held_name (with_box b) n ≡ is_held_name h n
    kept b (Domain_of m) = refl
    kept b (Region_of m) = refl
    kept b (Window_of m) = refl
    kept b (Cq_of m) = refl
    kept b (Srq_of m) = refl
    kept b (Queue_of m) = has-with queue_eq queue-path h.queues.things name m (record b { value = thing }) has
    kept b (Mailbox_of m) = refl
    kept b (Byte_at m) = refl

    parts : (b : Box QueueSlot Global) (p : PartName) → is_held_part (with_box b) p ≡ is_held_part h p
    parts b (names.Control m) = refl
    parts b (names.Region m) = refl
    parts b (names.Window m) = refl
    parts b (names.Cq m) = refl
    parts b (names.Srq m) = refl
    parts b (names.Queue m) = has-with queue_eq queue-path h.queues.things name m (record b { value = thing }) has
    parts b (names.Mailbox m) = refl
    parts b (names.Buffer a x) = refl

    there : (b : Box QueueSlot Global) → holding (with_box b) ≡ hold (holding h) (Queue_of name) (slot_of thing)
    there b = λ i. record {
      world = record (held_world h) { queue = fun_ext (λ m. or-with queue_eq queue-path (λ x. slot_of x.value) (λ q. vacant_queue) h.queues.things name m (record b { value = thing }) has) i };
      has = fun_ext (kept b) i;
      parts = fun_ext (parts b) i;
    }

    by : (o : Option (Box QueueSlot Global)) → thing_under queue_eq name h.queues.things ≡ o
        → holding (option_map_or with_box o h) ≡ hold (holding h) (Queue_of name) (slot_of thing)
    by (Some b) is = there b
    by None is = absurd (true≢false (sym has ∙ ap is_some is))

-- a thing that is put where it stands changes nothing
pub same_region : (h : Holding) (s : Slot) (r : Region) → r ≡ h.world.region s → hold h (Region_of s) r ≡ h
same_region h s r is = λ i. record h { world = record h.world { region = fun_ext (λ t. by t (slot_eq s t) refl) i } }
  where
    by : (t : Slot) (b : Bool) → slot_eq s t ≡ b → (if b then r else h.world.region t) ≡ h.world.region t
    by t true same = is ∙ ap h.world.region (slot-path s t same)
    by t false same = refl

pub kept_region : (h : Held) (s : Slot) (r : Region) → (holding h).has (Region_of s) ≡ true → r ≡ (holding h).world.region s
    → holding (with_region h s r) ≡ holding h
kept_region h s r has is = put_region h s r has ∙ same_region (holding h) s r is

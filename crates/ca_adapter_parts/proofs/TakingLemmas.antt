-- A part that is added stands in the small world, and one that is removed leaves its place vacant. For proofs only.
use Rattle.std.proofs.Common.{◌≡◌, ◌∙◌, refl, sym, ap, ℕ, nat_lt, Bool, true, false, List, [], ◌∷◌, ◌++◌, Option, None, Some, Box, is_some, length, if◌then◌else◌, true≢false}
use Rattle.std.proofs.Math.Path.{fun_ext}
use Rattle.std.specs.Option.{option_map, option_map_or}
use Rattle.std.specs.declared.alloc.Global.{Global}
use Rattle.ca_keys.specs.declared.names.DomainId.{DomainId}
use Rattle.ca_keys.specs.declared.names.QueueId.{QueueId}
use Rattle.ca_keys.specs.declared.names.Slot.{Slot}
use Rattle.ca_keys.specs.Equal.{domain_eq, queue_eq, slot_eq}
use Rattle.ca_base.specs.objects.CompletionQueue.{CompletionQueue}
use Rattle.ca_base.specs.objects.Domain.{Domain, free_domain}
use Rattle.ca_base.specs.objects.Mailbox.{Mailbox, empty_mailbox}
use Rattle.ca_base.specs.objects.QueuePair.{vacant_queue}
use Rattle.ca_base.specs.objects.Region.{Region, vacant_region}
use Rattle.ca_base.specs.objects.SharedReceives.{SrqSlot, vacant_srq}
use Rattle.ca_base.specs.objects.Window.{Window, vacant_window}
use Rattle.ca_adapter_reach.specs.ca_memory.Buffer.{memory_of}
use Rattle.ca_qpstate.specs.ca_model.declared.part_name.PartName.{PartName}
use Rattle.ca_qpstate.specs.ca_model.declared.part_name.PartName.TheVariants as names
use Rattle.ca_qpstate.specs.ca_model.machine.Parts.{part_eq, part_of}
use Rattle.ca_qpstate.specs.ca_model.machine.World.{Name, World, put}
use Rattle.ca_qpstate.specs.ca_model.machine.World.{Domain_of, Region_of, Window_of, Cq_of, Srq_of, Queue_of, Mailbox_of, Byte_at}
use Rattle.ca_qpstate.proofs.of_ca_model.ThingLemmas.{domain-path, queue-path, slot-path}
use Rattle.ca_adapter_reach.specs.declared.shelf.Named.{Named}
use Rattle.ca_adapter_reach.specs.Shelved.{Shelved, has_thing, thing_under, without_thing}
use Rattle.ca_adapter_parts.specs.declared.held.Held.{Held}
use Rattle.ca_adapter_reach.specs.declared.reached.BufferId.{BufferId}
use Rattle.ca_adapter_parts.specs.declared.part.Part.TheVariants as parts
use Rattle.ca_adapter_parts.specs.declared.part.QueueSlot.{QueueSlot}
use Rattle.ca_adapter_parts.specs.HeldView.{Holding, holding, held_world, is_held_name, is_held_part}
use Rattle.ca_adapter_reach.specs.Names.{buffer_eq, buffer_of, buffer_path}
use Rattle.ca_adapter_reach.specs.Seen.{or_vacant}
use Rattle.ca_adapter_parts.specs.Parts.{slot_of}
use Rattle.ca_adapter_parts.specs.Taking.{has_in, with_part, with_places, without_part}

-- the things under names are those that stood there, but for one name
abbrev pub IsUnder : {N T : Type 0} → (N → N → Bool) → N → Option T → List (Named N T) → List (Named N T) → Type 0
IsUnder {N} same n o xs ys = (m : N) → thing_under same m ys ≡ (if same n m then o else thing_under same m xs)

module _ {N T : Type 0} (same : N → N → Bool) (path : (a b : N) → same a b ≡ true → a ≡ b) where
  -- a thing that is added behind the others, under a name that had none
  under-added : (xs : List (Named N T)) (n m : N) (v : T) → has_thing same n xs ≡ false
      → thing_under same m (xs ++ record { name = n; thing = v } ∷ []) ≡ (if same n m then Some v else thing_under same m xs)
  under-added [] n m v free = refl
  under-added (x ∷ xs) n m v free = by (same x.name m) (same n m) refl refl (under-added xs n m v (behind (same x.name n) free))
    where
      behind : (b : Bool) → is_some (if b then Some x.thing else thing_under same n xs) ≡ false → has_thing same n xs ≡ false
      behind true is = absurd (true≢false is)
      behind false is = is

      apart : (b : Bool) → is_some (if b then Some x.thing else thing_under same n xs) ≡ false → b ≡ false
      apart true is = absurd (true≢false is)
      apart false is = refl

      by : (b z : Bool) → same x.name m ≡ b → same n m ≡ z
          → thing_under same m (xs ++ record { name = n; thing = v } ∷ []) ≡ (if z then Some v else thing_under same m xs)
          → (if b then Some x.thing else thing_under same m (xs ++ record { name = n; thing = v } ∷ []))
          ≡ (if z then Some v else if b then Some x.thing else thing_under same m xs)
      by true true is at rest = absurd (true≢false (sym is ∙ ap (same x.name) (sym (path n m at)) ∙ apart (same x.name n) free))
      by true false is at rest = refl
      by false z is at rest = rest

  -- without the only thing of a name
  under-without : (xs : List (Named N T)) (n m : N) → has_thing same n (without_thing same n xs) ≡ false
      → thing_under same m (without_thing same n xs) ≡ (if same n m then None else thing_under same m xs)
  under-without xs n m gone = by (same n m) refl
    where
      none : (o : Option T) → is_some o ≡ false → o ≡ None
      none None is = refl
      none (Some v) is = absurd (true≢false is)

      others : (xs : List (Named N T)) → same n m ≡ false → thing_under same m (without_thing same n xs) ≡ thing_under same m xs
      others [] other = refl
      others (x ∷ xs) other = at (same x.name n) refl (others xs other)
        where
          at : (b : Bool) → same x.name n ≡ b → thing_under same m (without_thing same n xs) ≡ thing_under same m xs
              → thing_under same m (if b then xs else x ∷ without_thing same n xs) ≡ (if same x.name m then Some x.thing else thing_under same m xs)
          at true is rest = let e : same x.name m ≡ false = ap (λ k. same k m) (path x.name n is) ∙ other in rw e refl
          at false is rest = rw rest refl

      by : (b : Bool) → same n m ≡ b → thing_under same m (without_thing same n xs) ≡ (if b then None else thing_under same m xs)
      by true is = rw (← path n m is) (none (thing_under same n (without_thing same n xs)) gone)
      by false is = others xs is

  -- with the thing that was taken
  under-back : (xs : List (Named N T)) (n m : N) (v : T) → has_thing same n (without_thing same n xs) ≡ false → Some v ≡ thing_under same n xs
      → thing_under same m xs ≡ (if same n m then Some v else thing_under same m (without_thing same n xs))
  under-back xs n m v gone is = by (same n m) refl (under-without xs n m gone)
    where
      by : (b : Bool) → same n m ≡ b → thing_under same m (without_thing same n xs) ≡ (if b then None else thing_under same m xs)
          → thing_under same m xs ≡ (if b then Some v else thing_under same m (without_thing same n xs))
      by true e rest = rw (← path n m e) (sym is)
      by false e rest = sym rest

  -- what is seen of it, or else what is vacant
  or-under : {A : Type 0} (f : T → A) (vacant : N → A) (xs ys : List (Named N T)) (n m : N) (o : Option T) → IsUnder same n o xs ys
      → or_vacant (vacant m) (option_map f (thing_under same m ys))
      ≡ (if same n m then or_vacant (vacant n) (option_map f o) else or_vacant (vacant m) (option_map f (thing_under same m xs)))
  or-under f vacant xs ys n m o under = ap (λ o. or_vacant (vacant m) (option_map f o)) (under m) ∙ by (same n m) refl
    where
      by : (b : Bool) → same n m ≡ b → or_vacant (vacant m) (option_map f (if b then o else thing_under same m xs))
          ≡ (if b then or_vacant (vacant n) (option_map f o) else or_vacant (vacant m) (option_map f (thing_under same m xs)))
      by true is = ap (λ k. or_vacant (vacant k) (option_map f o)) (sym (path n m is))
      by false is = refl

  plain-under : (vacant : N → T) (xs ys : List (Named N T)) (n m : N) (o : Option T) → IsUnder same n o xs ys
      → or_vacant (vacant m) (thing_under same m ys) ≡ (if same n m then or_vacant (vacant n) o else or_vacant (vacant m) (thing_under same m xs))
  plain-under vacant xs ys n m o under = ap (or_vacant (vacant m)) (under m) ∙ by (same n m) refl
    where
      by : (b : Bool) → same n m ≡ b → or_vacant (vacant m) (if b then o else thing_under same m xs)
          ≡ (if b then or_vacant (vacant n) o else or_vacant (vacant m) (thing_under same m xs))
      by true is = ap (λ k. or_vacant (vacant k) o) (sym (path n m is))
      by false is = refl

  -- a value of what stands there
  value-under : {A : Type 0} (f : T → A) (d : A) (xs ys : List (Named N T)) (n m : N) (o : Option T) → IsUnder same n o xs ys
      → option_map_or f (thing_under same m ys) d ≡ (if same n m then option_map_or f o d else option_map_or f (thing_under same m xs) d)
  value-under f d xs ys n m o under = ap (λ o. option_map_or f o d) (under m) ∙ by (same n m)
    where
      by : (b : Bool) → option_map_or f (if b then o else thing_under same m xs) d ≡ (if b then option_map_or f o d else option_map_or f (thing_under same m xs) d)
      by true = refl
      by false = refl

  has-under : (xs ys : List (Named N T)) (n m : N) (o : Option T) → IsUnder same n o xs ys → has_thing same m ys ≡ (if same n m then is_some o else has_thing same m xs)
  has-under xs ys n m o under = ap is_some (under m) ∙ by (same n m)
    where
      by : (b : Bool) → is_some (if b then o else thing_under same m xs) ≡ (if b then is_some o else has_thing same m xs)
      by true = refl
      by false = refl

-- what is held, with another world, and with a part or without it
with_world : PartName → Bool → World → Holding → Holding
with_world name there w h = record {
  world = w;
  has = λ n. if part_eq name (part_of n) then there else h.has n;
  parts = λ p. if part_eq name p then there else h.parts p;
}

at-control : (h : Held) (n : DomainId) (o : Option Domain) (s : Shelved DomainId Domain) → IsUnder domain_eq n o h.controls.things s.things
    → holding (record h { controls = s }) ≡ with_world (names.Control n) (is_some o) (put (holding h).world (Domain_of n) (or_vacant free_domain o)) (holding h)
unfolding holding with_world
at-control h n o s under = λ i. record {
  world = record (held_world h) { domain = fun_ext (λ m. plain-under domain_eq domain-path (λ d. free_domain) h.controls.things s.things n m o under) i };
  has = fun_ext kept i;
  parts = fun_ext parts i;
}
  where
    kept : (k : Name) → is_held_name (record h { controls = s }) k ≡ (if part_eq (names.Control n) (part_of k) then is_some o else is_held_name h k)
    kept (Domain_of m) = has-under domain_eq domain-path h.controls.things s.things n m o under
    kept (Region_of m) = refl
    kept (Window_of m) = refl
    kept (Cq_of m) = refl
    kept (Srq_of m) = refl
    kept (Queue_of m) = refl
    kept (Mailbox_of m) = refl
    kept (Byte_at p) = refl

    parts : (p : PartName) → is_held_part (record h { controls = s }) p ≡ (if part_eq (names.Control n) p then is_some o else is_held_part h p)
    parts (names.Control m) = has-under domain_eq domain-path h.controls.things s.things n m o under
    parts (names.Region m) = refl
    parts (names.Window m) = refl
    parts (names.Cq m) = refl
    parts (names.Srq m) = refl
    parts (names.Queue m) = refl
    parts (names.Mailbox m) = refl
    parts (names.Buffer a x) = refl

pub added_control : (h : Held) (n : DomainId) (v : Domain) (s : Shelved DomainId Domain) → (holding h).parts (names.Control n) ≡ false
    → s.things ≡ h.controls.things ++ record { name = n; thing = v } ∷ [] → holding (record h { controls = s }) ≡ with_part (names.Control n) (parts.Control v) (holding h)
unfolding holding with_world
added_control h n v s free is = at-control h n (Some v) s (rw is (λ m. under-added domain_eq domain-path h.controls.things n m v free))

pub removed_control : (h : Held) (n : DomainId) (s : Shelved DomainId Domain) → has_thing domain_eq n s.things ≡ false → s.things ≡ without_thing domain_eq n h.controls.things
    → holding (record h { controls = s }) ≡ without_part (names.Control n) (holding h)
unfolding holding with_world
removed_control h n s gone is = at-control h n None s (rw is (λ m. under-without domain_eq domain-path h.controls.things n m (rw (← is) gone)))

pub back_control : (h : Held) (n : DomainId) (v : Domain) (s : Shelved DomainId Domain) → has_thing domain_eq n s.things ≡ false → s.things ≡ without_thing domain_eq n h.controls.things
    → Some v ≡ thing_under domain_eq n h.controls.things → with_part (names.Control n) (parts.Control v) (holding (record h { controls = s })) ≡ holding h
unfolding holding with_world
back_control h n v s gone is there = sym (at-control (record h { controls = s }) n (Some v) h.controls (rw is (λ m. under-back domain_eq domain-path h.controls.things n m v (rw (← is) gone) there)))

at-mailbox : (h : Held) (n : QueueId) (o : Option Mailbox) (s : Shelved QueueId Mailbox) → IsUnder queue_eq n o h.mailboxes.things s.things
    → holding (record h { mailboxes = s }) ≡ with_world (names.Mailbox n) (is_some o) (put (holding h).world (Mailbox_of n) (or_vacant empty_mailbox o)) (holding h)
unfolding holding with_world
at-mailbox h n o s under = λ i. record {
  world = record (held_world h) { mailbox = fun_ext (λ m. plain-under queue_eq queue-path (λ q. empty_mailbox) h.mailboxes.things s.things n m o under) i };
  has = fun_ext kept i;
  parts = fun_ext parts i;
}
  where
    kept : (k : Name) → is_held_name (record h { mailboxes = s }) k ≡ (if part_eq (names.Mailbox n) (part_of k) then is_some o else is_held_name h k)
    kept (Domain_of m) = refl
    kept (Region_of m) = refl
    kept (Window_of m) = refl
    kept (Cq_of m) = refl
    kept (Srq_of m) = refl
    kept (Queue_of m) = refl
    kept (Mailbox_of m) = has-under queue_eq queue-path h.mailboxes.things s.things n m o under
    kept (Byte_at p) = refl

    parts : (p : PartName) → is_held_part (record h { mailboxes = s }) p ≡ (if part_eq (names.Mailbox n) p then is_some o else is_held_part h p)
    parts (names.Control m) = refl
    parts (names.Region m) = refl
    parts (names.Window m) = refl
    parts (names.Cq m) = refl
    parts (names.Srq m) = refl
    parts (names.Queue m) = refl
    parts (names.Mailbox m) = has-under queue_eq queue-path h.mailboxes.things s.things n m o under
    parts (names.Buffer a x) = refl

pub added_mailbox : (h : Held) (n : QueueId) (v : Mailbox) (s : Shelved QueueId Mailbox) → (holding h).parts (names.Mailbox n) ≡ false
    → s.things ≡ h.mailboxes.things ++ record { name = n; thing = v } ∷ [] → holding (record h { mailboxes = s }) ≡ with_part (names.Mailbox n) (parts.Mailbox v) (holding h)
unfolding holding with_world
added_mailbox h n v s free is = at-mailbox h n (Some v) s (rw is (λ m. under-added queue_eq queue-path h.mailboxes.things n m v free))

pub removed_mailbox : (h : Held) (n : QueueId) (s : Shelved QueueId Mailbox) → has_thing queue_eq n s.things ≡ false → s.things ≡ without_thing queue_eq n h.mailboxes.things
    → holding (record h { mailboxes = s }) ≡ without_part (names.Mailbox n) (holding h)
unfolding holding with_world
removed_mailbox h n s gone is = at-mailbox h n None s (rw is (λ m. under-without queue_eq queue-path h.mailboxes.things n m (rw (← is) gone)))

pub back_mailbox : (h : Held) (n : QueueId) (v : Mailbox) (s : Shelved QueueId Mailbox) → has_thing queue_eq n s.things ≡ false → s.things ≡ without_thing queue_eq n h.mailboxes.things
    → Some v ≡ thing_under queue_eq n h.mailboxes.things → with_part (names.Mailbox n) (parts.Mailbox v) (holding (record h { mailboxes = s })) ≡ holding h
unfolding holding with_world
back_mailbox h n v s gone is there = sym (at-mailbox (record h { mailboxes = s }) n (Some v) h.mailboxes (rw is (λ m. under-back queue_eq queue-path h.mailboxes.things n m v (rw (← is) gone) there)))

at-cq : (h : Held) (n : Slot) (o : Option (Option CompletionQueue)) (s : Shelved Slot (Option CompletionQueue)) → IsUnder slot_eq n o h.cqs.things s.things
    → holding (record h { cqs = s }) ≡ with_world (names.Cq n) (is_some o) (put (holding h).world (Cq_of n) (or_vacant None o)) (holding h)
unfolding holding with_world
at-cq h n o s under = λ i. record {
  world = record (held_world h) { cq = fun_ext (λ m. plain-under slot_eq slot-path (λ s. None) h.cqs.things s.things n m o under) i };
  has = fun_ext kept i;
  parts = fun_ext parts i;
}
  where
    kept : (k : Name) → is_held_name (record h { cqs = s }) k ≡ (if part_eq (names.Cq n) (part_of k) then is_some o else is_held_name h k)
    kept (Domain_of m) = refl
    kept (Region_of m) = refl
    kept (Window_of m) = refl
    kept (Cq_of m) = has-under slot_eq slot-path h.cqs.things s.things n m o under
    kept (Srq_of m) = refl
    kept (Queue_of m) = refl
    kept (Mailbox_of m) = refl
    kept (Byte_at p) = refl

    parts : (p : PartName) → is_held_part (record h { cqs = s }) p ≡ (if part_eq (names.Cq n) p then is_some o else is_held_part h p)
    parts (names.Control m) = refl
    parts (names.Region m) = refl
    parts (names.Window m) = refl
    parts (names.Cq m) = has-under slot_eq slot-path h.cqs.things s.things n m o under
    parts (names.Srq m) = refl
    parts (names.Queue m) = refl
    parts (names.Mailbox m) = refl
    parts (names.Buffer a x) = refl

pub added_cq : (h : Held) (n : Slot) (v : (Option CompletionQueue)) (s : Shelved Slot (Option CompletionQueue)) → (holding h).parts (names.Cq n) ≡ false
    → s.things ≡ h.cqs.things ++ record { name = n; thing = v } ∷ [] → holding (record h { cqs = s }) ≡ with_part (names.Cq n) (parts.Cq v) (holding h)
unfolding holding with_world
added_cq h n v s free is = at-cq h n (Some v) s (rw is (λ m. under-added slot_eq slot-path h.cqs.things n m v free))

pub removed_cq : (h : Held) (n : Slot) (s : Shelved Slot (Option CompletionQueue)) → has_thing slot_eq n s.things ≡ false → s.things ≡ without_thing slot_eq n h.cqs.things
    → holding (record h { cqs = s }) ≡ without_part (names.Cq n) (holding h)
unfolding holding with_world
removed_cq h n s gone is = at-cq h n None s (rw is (λ m. under-without slot_eq slot-path h.cqs.things n m (rw (← is) gone)))

pub back_cq : (h : Held) (n : Slot) (v : (Option CompletionQueue)) (s : Shelved Slot (Option CompletionQueue)) → has_thing slot_eq n s.things ≡ false → s.things ≡ without_thing slot_eq n h.cqs.things
    → Some v ≡ thing_under slot_eq n h.cqs.things → with_part (names.Cq n) (parts.Cq v) (holding (record h { cqs = s })) ≡ holding h
unfolding holding with_world
back_cq h n v s gone is there = sym (at-cq (record h { cqs = s }) n (Some v) h.cqs (rw is (λ m. under-back slot_eq slot-path h.cqs.things n m v (rw (← is) gone) there)))

at-srq : (h : Held) (n : Slot) (o : Option SrqSlot) (s : Shelved Slot SrqSlot) → IsUnder slot_eq n o h.srqs.things s.things
    → holding (record h { srqs = s }) ≡ with_world (names.Srq n) (is_some o) (put (holding h).world (Srq_of n) (or_vacant vacant_srq o)) (holding h)
unfolding holding with_world
at-srq h n o s under = λ i. record {
  world = record (held_world h) { srq = fun_ext (λ m. plain-under slot_eq slot-path (λ s. vacant_srq) h.srqs.things s.things n m o under) i };
  has = fun_ext kept i;
  parts = fun_ext parts i;
}
  where
    kept : (k : Name) → is_held_name (record h { srqs = s }) k ≡ (if part_eq (names.Srq n) (part_of k) then is_some o else is_held_name h k)
    kept (Domain_of m) = refl
    kept (Region_of m) = refl
    kept (Window_of m) = refl
    kept (Cq_of m) = refl
    kept (Srq_of m) = has-under slot_eq slot-path h.srqs.things s.things n m o under
    kept (Queue_of m) = refl
    kept (Mailbox_of m) = refl
    kept (Byte_at p) = refl

    parts : (p : PartName) → is_held_part (record h { srqs = s }) p ≡ (if part_eq (names.Srq n) p then is_some o else is_held_part h p)
    parts (names.Control m) = refl
    parts (names.Region m) = refl
    parts (names.Window m) = refl
    parts (names.Cq m) = refl
    parts (names.Srq m) = has-under slot_eq slot-path h.srqs.things s.things n m o under
    parts (names.Queue m) = refl
    parts (names.Mailbox m) = refl
    parts (names.Buffer a x) = refl

pub added_srq : (h : Held) (n : Slot) (v : SrqSlot) (s : Shelved Slot SrqSlot) → (holding h).parts (names.Srq n) ≡ false
    → s.things ≡ h.srqs.things ++ record { name = n; thing = v } ∷ [] → holding (record h { srqs = s }) ≡ with_part (names.Srq n) (parts.Srq v) (holding h)
unfolding holding with_world
added_srq h n v s free is = at-srq h n (Some v) s (rw is (λ m. under-added slot_eq slot-path h.srqs.things n m v free))

pub removed_srq : (h : Held) (n : Slot) (s : Shelved Slot SrqSlot) → has_thing slot_eq n s.things ≡ false → s.things ≡ without_thing slot_eq n h.srqs.things
    → holding (record h { srqs = s }) ≡ without_part (names.Srq n) (holding h)
unfolding holding with_world
removed_srq h n s gone is = at-srq h n None s (rw is (λ m. under-without slot_eq slot-path h.srqs.things n m (rw (← is) gone)))

pub back_srq : (h : Held) (n : Slot) (v : SrqSlot) (s : Shelved Slot SrqSlot) → has_thing slot_eq n s.things ≡ false → s.things ≡ without_thing slot_eq n h.srqs.things
    → Some v ≡ thing_under slot_eq n h.srqs.things → with_part (names.Srq n) (parts.Srq v) (holding (record h { srqs = s })) ≡ holding h
unfolding holding with_world
back_srq h n v s gone is there = sym (at-srq (record h { srqs = s }) n (Some v) h.srqs (rw is (λ m. under-back slot_eq slot-path h.srqs.things n m v (rw (← is) gone) there)))

at-window : (h : Held) (n : Slot) (o : Option Window) (s : Shelved Slot Window) → IsUnder slot_eq n o h.reached.windows.things s.things
    → holding (record h { reached = record h.reached { windows = s } }) ≡ with_world (names.Window n) (is_some o) (put (holding h).world (Window_of n) (or_vacant (vacant_window n) o)) (holding h)
unfolding holding with_world
at-window h n o s under = λ i. record {
  world = record (held_world h) { window = fun_ext (λ m. plain-under slot_eq slot-path vacant_window h.reached.windows.things s.things n m o under) i };
  has = fun_ext kept i;
  parts = fun_ext parts i;
}
  where
    kept : (k : Name) → is_held_name (record h { reached = record h.reached { windows = s } }) k ≡ (if part_eq (names.Window n) (part_of k) then is_some o else is_held_name h k)
    kept (Domain_of m) = refl
    kept (Region_of m) = refl
    kept (Window_of m) = has-under slot_eq slot-path h.reached.windows.things s.things n m o under
    kept (Cq_of m) = refl
    kept (Srq_of m) = refl
    kept (Queue_of m) = refl
    kept (Mailbox_of m) = refl
    kept (Byte_at p) = refl

    parts : (p : PartName) → is_held_part (record h { reached = record h.reached { windows = s } }) p ≡ (if part_eq (names.Window n) p then is_some o else is_held_part h p)
    parts (names.Control m) = refl
    parts (names.Region m) = refl
    parts (names.Window m) = has-under slot_eq slot-path h.reached.windows.things s.things n m o under
    parts (names.Cq m) = refl
    parts (names.Srq m) = refl
    parts (names.Queue m) = refl
    parts (names.Mailbox m) = refl
    parts (names.Buffer a x) = refl

pub added_window : (h : Held) (n : Slot) (v : Window) (s : Shelved Slot Window) → (holding h).parts (names.Window n) ≡ false
    → s.things ≡ h.reached.windows.things ++ record { name = n; thing = v } ∷ [] → holding (record h { reached = record h.reached { windows = s } }) ≡ with_part (names.Window n) (parts.Window v) (holding h)
unfolding holding with_world
added_window h n v s free is = at-window h n (Some v) s (rw is (λ m. under-added slot_eq slot-path h.reached.windows.things n m v free))

pub removed_window : (h : Held) (n : Slot) (s : Shelved Slot Window) → has_thing slot_eq n s.things ≡ false → s.things ≡ without_thing slot_eq n h.reached.windows.things
    → holding (record h { reached = record h.reached { windows = s } }) ≡ without_part (names.Window n) (holding h)
unfolding holding with_world
removed_window h n s gone is = at-window h n None s (rw is (λ m. under-without slot_eq slot-path h.reached.windows.things n m (rw (← is) gone)))

pub back_window : (h : Held) (n : Slot) (v : Window) (s : Shelved Slot Window) → has_thing slot_eq n s.things ≡ false → s.things ≡ without_thing slot_eq n h.reached.windows.things
    → Some v ≡ thing_under slot_eq n h.reached.windows.things → with_part (names.Window n) (parts.Window v) (holding (record h { reached = record h.reached { windows = s } })) ≡ holding h
unfolding holding with_world
back_window h n v s gone is there = sym (at-window (record h { reached = record h.reached { windows = s } }) n (Some v) h.reached.windows (rw is (λ m. under-back slot_eq slot-path h.reached.windows.things n m v (rw (← is) gone) there)))

at-region : (h : Held) (n : Slot) (o : Option Region) (s : Shelved Slot Region) → IsUnder slot_eq n o h.reached.regions.things s.things
    → holding (record h { reached = record h.reached { regions = s } }) ≡ with_world (names.Region n) (is_some o) (put (holding h).world (Region_of n) (or_vacant vacant_region o)) (holding h)
unfolding holding with_world
at-region h n o s under = λ i. record {
  world = record (held_world h) { region = fun_ext (λ m. plain-under slot_eq slot-path (λ s. vacant_region) h.reached.regions.things s.things n m o under) i };
  has = fun_ext kept i;
  parts = fun_ext parts i;
}
  where
    kept : (k : Name) → is_held_name (record h { reached = record h.reached { regions = s } }) k ≡ (if part_eq (names.Region n) (part_of k) then is_some o else is_held_name h k)
    kept (Domain_of m) = refl
    kept (Region_of m) = has-under slot_eq slot-path h.reached.regions.things s.things n m o under
    kept (Window_of m) = refl
    kept (Cq_of m) = refl
    kept (Srq_of m) = refl
    kept (Queue_of m) = refl
    kept (Mailbox_of m) = refl
    kept (Byte_at p) = refl

    parts : (p : PartName) → is_held_part (record h { reached = record h.reached { regions = s } }) p ≡ (if part_eq (names.Region n) p then is_some o else is_held_part h p)
    parts (names.Control m) = refl
    parts (names.Region m) = has-under slot_eq slot-path h.reached.regions.things s.things n m o under
    parts (names.Window m) = refl
    parts (names.Cq m) = refl
    parts (names.Srq m) = refl
    parts (names.Queue m) = refl
    parts (names.Mailbox m) = refl
    parts (names.Buffer a x) = refl

pub added_region : (h : Held) (n : Slot) (v : Region) (s : Shelved Slot Region) → (holding h).parts (names.Region n) ≡ false
    → s.things ≡ h.reached.regions.things ++ record { name = n; thing = v } ∷ [] → holding (record h { reached = record h.reached { regions = s } }) ≡ with_part (names.Region n) (parts.Region v) (holding h)
unfolding holding with_world
added_region h n v s free is = at-region h n (Some v) s (rw is (λ m. under-added slot_eq slot-path h.reached.regions.things n m v free))

pub removed_region : (h : Held) (n : Slot) (s : Shelved Slot Region) → has_thing slot_eq n s.things ≡ false → s.things ≡ without_thing slot_eq n h.reached.regions.things
    → holding (record h { reached = record h.reached { regions = s } }) ≡ without_part (names.Region n) (holding h)
unfolding holding with_world
removed_region h n s gone is = at-region h n None s (rw is (λ m. under-without slot_eq slot-path h.reached.regions.things n m (rw (← is) gone)))

pub back_region : (h : Held) (n : Slot) (v : Region) (s : Shelved Slot Region) → has_thing slot_eq n s.things ≡ false → s.things ≡ without_thing slot_eq n h.reached.regions.things
    → Some v ≡ thing_under slot_eq n h.reached.regions.things → with_part (names.Region n) (parts.Region v) (holding (record h { reached = record h.reached { regions = s } })) ≡ holding h
unfolding holding with_world
back_region h n v s gone is there = sym (at-region (record h { reached = record h.reached { regions = s } }) n (Some v) h.reached.regions (rw is (λ m. under-back slot_eq slot-path h.reached.regions.things n m v (rw (← is) gone) there)))

at-queue : (h : Held) (n : QueueId) (o : Option (Box QueueSlot Global)) (s : Shelved QueueId (Box QueueSlot Global)) → IsUnder queue_eq n o h.queues.things s.things
    → holding (record h { queues = s }) ≡ with_world (names.Queue n) (is_some o) (put (holding h).world (Queue_of n) (or_vacant vacant_queue (option_map (λ b. slot_of b.value) o))) (holding h)
unfolding holding with_world
at-queue h n o s under = λ i. record {
  world = record (held_world h) { queue = fun_ext (λ m. or-under queue_eq queue-path (λ b. slot_of b.value) (λ q. vacant_queue) h.queues.things s.things n m o under) i };
  has = fun_ext kept i;
  parts = fun_ext parts i;
}
  where
    kept : (k : Name) → is_held_name (record h { queues = s }) k ≡ (if part_eq (names.Queue n) (part_of k) then is_some o else is_held_name h k)
    kept (Domain_of m) = refl
    kept (Region_of m) = refl
    kept (Window_of m) = refl
    kept (Cq_of m) = refl
    kept (Srq_of m) = refl
    kept (Queue_of m) = has-under queue_eq queue-path h.queues.things s.things n m o under
    kept (Mailbox_of m) = refl
    kept (Byte_at p) = refl

    parts : (p : PartName) → is_held_part (record h { queues = s }) p ≡ (if part_eq (names.Queue n) p then is_some o else is_held_part h p)
    parts (names.Control m) = refl
    parts (names.Region m) = refl
    parts (names.Window m) = refl
    parts (names.Cq m) = refl
    parts (names.Srq m) = refl
    parts (names.Queue m) = has-under queue_eq queue-path h.queues.things s.things n m o under
    parts (names.Mailbox m) = refl
    parts (names.Buffer a x) = refl

pub added_queue : (h : Held) (n : QueueId) (v : (Box QueueSlot Global)) (s : Shelved QueueId (Box QueueSlot Global)) → (holding h).parts (names.Queue n) ≡ false
    → s.things ≡ h.queues.things ++ record { name = n; thing = v } ∷ [] → holding (record h { queues = s }) ≡ with_part (names.Queue n) (parts.Queue v) (holding h)
unfolding holding with_world
added_queue h n v s free is = at-queue h n (Some v) s (rw is (λ m. under-added queue_eq queue-path h.queues.things n m v free))

pub removed_queue : (h : Held) (n : QueueId) (s : Shelved QueueId (Box QueueSlot Global)) → has_thing queue_eq n s.things ≡ false → s.things ≡ without_thing queue_eq n h.queues.things
    → holding (record h { queues = s }) ≡ without_part (names.Queue n) (holding h)
unfolding holding with_world
removed_queue h n s gone is = at-queue h n None s (rw is (λ m. under-without queue_eq queue-path h.queues.things n m (rw (← is) gone)))

pub back_queue : (h : Held) (n : QueueId) (v : (Box QueueSlot Global)) (s : Shelved QueueId (Box QueueSlot Global)) → has_thing queue_eq n s.things ≡ false → s.things ≡ without_thing queue_eq n h.queues.things
    → Some v ≡ thing_under queue_eq n h.queues.things → with_part (names.Queue n) (parts.Queue v) (holding (record h { queues = s })) ≡ holding h
unfolding holding with_world
back_queue h n v s gone is there = sym (at-queue (record h { queues = s }) n (Some v) h.queues (rw is (λ m. under-back queue_eq queue-path h.queues.things n m v (rw (← is) gone) there)))

-- what is held, with the bytes of a buffer, or without it
with_bytes_of : BufferId → Option (List ℕ) → Holding → Holding
with_bytes_of b o h = record {
  world = record h.world { byte = with_places b (λ p. option_map_or (λ bytes. memory_of bytes p) o 0) h.world.byte };
  has = λ n. if part_eq (names.Buffer b.adapter b.index) (part_of n) then option_map_or (λ bytes. has_in (parts.Buffer bytes) n) o false else h.has n;
  parts = λ p. if part_eq (names.Buffer b.adapter b.index) p then is_some o else h.parts p;
}

at-buffer : (h : Held) (b : BufferId) (o : Option (List ℕ)) (s : Shelved BufferId (List ℕ)) → IsUnder buffer_eq b o h.reached.buffers.things s.things
    → holding (record h { reached = record h.reached { buffers = s } }) ≡ with_bytes_of b o (holding h)
unfolding holding with_bytes_of
at-buffer h b o s under = λ i. record {
  world = record (held_world h) { byte = fun_ext (λ p. value-under buffer_eq buffer_path (λ bytes. memory_of bytes p) 0 h.reached.buffers.things s.things b (buffer_of p) o under) i };
  has = fun_ext kept i;
  parts = fun_ext parts i;
}
  where
    kept : (k : Name) → is_held_name (record h { reached = record h.reached { buffers = s } }) k
        ≡ (if part_eq (names.Buffer b.adapter b.index) (part_of k) then option_map_or (λ bytes. has_in (parts.Buffer bytes) k) o false else is_held_name h k)
    kept (Domain_of m) = refl
    kept (Region_of m) = refl
    kept (Window_of m) = refl
    kept (Cq_of m) = refl
    kept (Srq_of m) = refl
    kept (Queue_of m) = refl
    kept (Mailbox_of m) = refl
    kept (Byte_at p) = value-under buffer_eq buffer_path (λ bytes. nat_lt p.offset (length bytes)) false h.reached.buffers.things s.things b (buffer_of p) o under

    parts : (p : PartName) → is_held_part (record h { reached = record h.reached { buffers = s } }) p ≡ (if part_eq (names.Buffer b.adapter b.index) p then is_some o else is_held_part h p)
    parts (names.Control m) = refl
    parts (names.Region m) = refl
    parts (names.Window m) = refl
    parts (names.Cq m) = refl
    parts (names.Srq m) = refl
    parts (names.Queue m) = refl
    parts (names.Mailbox m) = refl
    parts (names.Buffer a x) = has-under buffer_eq buffer_path h.reached.buffers.things s.things b (record { adapter = a; index = x }) o under

pub added_buffer : (h : Held) (a i : ℕ) (v : List ℕ) (s : Shelved BufferId (List ℕ)) → (holding h).parts (names.Buffer a i) ≡ false
    → s.things ≡ h.reached.buffers.things ++ record { name = record { adapter = a; index = i }; thing = v } ∷ []
    → holding (record h { reached = record h.reached { buffers = s } }) ≡ with_part (names.Buffer a i) (parts.Buffer v) (holding h)
unfolding holding with_bytes_of
added_buffer h a i v s free is = at-buffer h (record { adapter = a; index = i }) (Some v) s
    (rw is (λ m. under-added buffer_eq buffer_path h.reached.buffers.things (record { adapter = a; index = i }) m v free))

pub removed_buffer : (h : Held) (a i : ℕ) (s : Shelved BufferId (List ℕ)) → has_thing buffer_eq (record { adapter = a; index = i }) s.things ≡ false
    → s.things ≡ without_thing buffer_eq (record { adapter = a; index = i }) h.reached.buffers.things
    → holding (record h { reached = record h.reached { buffers = s } }) ≡ without_part (names.Buffer a i) (holding h)
unfolding holding with_bytes_of
removed_buffer h a i s gone is = at-buffer h (record { adapter = a; index = i }) None s
    (rw is (λ m. under-without buffer_eq buffer_path h.reached.buffers.things (record { adapter = a; index = i }) m (rw (← is) gone)))

pub back_buffer : (h : Held) (a i : ℕ) (v : List ℕ) (s : Shelved BufferId (List ℕ)) → has_thing buffer_eq (record { adapter = a; index = i }) s.things ≡ false
    → s.things ≡ without_thing buffer_eq (record { adapter = a; index = i }) h.reached.buffers.things
    → Some v ≡ thing_under buffer_eq (record { adapter = a; index = i }) h.reached.buffers.things
    → with_part (names.Buffer a i) (parts.Buffer v) (holding (record h { reached = record h.reached { buffers = s } })) ≡ holding h
unfolding holding with_bytes_of
back_buffer h a i v s gone is there = sym (at-buffer (record h { reached = record h.reached { buffers = s } }) (record { adapter = a; index = i }) (Some v) h.reached.buffers
    (rw is (λ m. under-back buffer_eq buffer_path h.reached.buffers.things (record { adapter = a; index = i }) m v (rw (← is) gone) there)))

module _ (h k : Held) where
  -- what stands on shelves of the same things is the same
  pub holds_same : k.controls.things ≡ h.controls.things → k.queues.things ≡ h.queues.things → k.mailboxes.things ≡ h.mailboxes.things
      → k.cqs.things ≡ h.cqs.things → k.srqs.things ≡ h.srqs.things → k.reached.windows.things ≡ h.reached.windows.things
      → k.reached.regions.things ≡ h.reached.regions.things → k.reached.buffers.things ≡ h.reached.buffers.things → holding k ≡ holding h
  unfolding holding
  holds_same controls queues mailboxes cqs srqs windows regions buffers = λ i. record {
    world = record {
      domain = λ d. or_vacant free_domain (thing_under domain_eq d (controls i));
      region = λ s. or_vacant vacant_region (thing_under slot_eq s (regions i));
      window = λ s. or_vacant (vacant_window s) (thing_under slot_eq s (windows i));
      cq = λ s. or_vacant None (thing_under slot_eq s (cqs i));
      srq = λ s. or_vacant vacant_srq (thing_under slot_eq s (srqs i));
      queue = λ q. or_vacant vacant_queue (option_map (λ b. slot_of b.value) (thing_under queue_eq q (queues i)));
      mailbox = λ q. or_vacant empty_mailbox (thing_under queue_eq q (mailboxes i));
      byte = λ p. option_map_or (λ bytes. memory_of bytes p) (thing_under buffer_eq (buffer_of p) (buffers i)) 0;
    };
    has = fun_ext kept i;
    parts = fun_ext parts i;
  }
    where
      kept : (n : Name) → is_held_name k n ≡ is_held_name h n
      kept (Domain_of d) = ap (has_thing domain_eq d) controls
      kept (Region_of s) = ap (has_thing slot_eq s) regions
      kept (Window_of s) = ap (has_thing slot_eq s) windows
      kept (Cq_of s) = ap (has_thing slot_eq s) cqs
      kept (Srq_of s) = ap (has_thing slot_eq s) srqs
      kept (Queue_of q) = ap (has_thing queue_eq q) queues
      kept (Mailbox_of q) = ap (has_thing queue_eq q) mailboxes
      kept (Byte_at p) = ap (λ xs. option_map_or (λ bytes. nat_lt p.offset (length bytes)) (thing_under buffer_eq (buffer_of p) xs) false) buffers

      parts : (p : PartName) → is_held_part k p ≡ is_held_part h p
      parts (names.Control d) = ap (has_thing domain_eq d) controls
      parts (names.Region s) = ap (has_thing slot_eq s) regions
      parts (names.Window s) = ap (has_thing slot_eq s) windows
      parts (names.Cq s) = ap (has_thing slot_eq s) cqs
      parts (names.Srq s) = ap (has_thing slot_eq s) srqs
      parts (names.Queue q) = ap (has_thing queue_eq q) queues
      parts (names.Mailbox q) = ap (has_thing queue_eq q) mailboxes
      parts (names.Buffer a x) = ap (has_thing buffer_eq (record { adapter = a; index = x })) buffers

-- a part is held where its kind's shelf has it
module _ (h : Held) where
  pub free_control : (n : DomainId) → (holding h).parts (names.Control n) ≡ false → has_thing domain_eq n h.controls.things ≡ false
  unfolding holding
  free_control n is = is

  pub there_control : (n : DomainId) (o : Option Domain) → o ≡ thing_under domain_eq n h.controls.things → is_some o ≡ (holding h).parts (names.Control n)
  unfolding holding
  there_control n o is = ap is_some is

  pub free_queue : (n : QueueId) → (holding h).parts (names.Queue n) ≡ false → has_thing queue_eq n h.queues.things ≡ false
  unfolding holding
  free_queue n is = is

  pub there_queue : (n : QueueId) (o : Option (Box QueueSlot Global)) → o ≡ thing_under queue_eq n h.queues.things → is_some o ≡ (holding h).parts (names.Queue n)
  unfolding holding
  there_queue n o is = ap is_some is

  pub free_mailbox : (n : QueueId) → (holding h).parts (names.Mailbox n) ≡ false → has_thing queue_eq n h.mailboxes.things ≡ false
  unfolding holding
  free_mailbox n is = is

  pub there_mailbox : (n : QueueId) (o : Option Mailbox) → o ≡ thing_under queue_eq n h.mailboxes.things → is_some o ≡ (holding h).parts (names.Mailbox n)
  unfolding holding
  there_mailbox n o is = ap is_some is

  pub free_cq : (n : Slot) → (holding h).parts (names.Cq n) ≡ false → has_thing slot_eq n h.cqs.things ≡ false
  unfolding holding
  free_cq n is = is

  pub there_cq : (n : Slot) (o : Option (Option CompletionQueue)) → o ≡ thing_under slot_eq n h.cqs.things → is_some o ≡ (holding h).parts (names.Cq n)
  unfolding holding
  there_cq n o is = ap is_some is

  pub free_srq : (n : Slot) → (holding h).parts (names.Srq n) ≡ false → has_thing slot_eq n h.srqs.things ≡ false
  unfolding holding
  free_srq n is = is

  pub there_srq : (n : Slot) (o : Option SrqSlot) → o ≡ thing_under slot_eq n h.srqs.things → is_some o ≡ (holding h).parts (names.Srq n)
  unfolding holding
  there_srq n o is = ap is_some is

  pub free_window : (n : Slot) → (holding h).parts (names.Window n) ≡ false → has_thing slot_eq n h.reached.windows.things ≡ false
  unfolding holding
  free_window n is = is

  pub there_window : (n : Slot) (o : Option Window) → o ≡ thing_under slot_eq n h.reached.windows.things → is_some o ≡ (holding h).parts (names.Window n)
  unfolding holding
  there_window n o is = ap is_some is

  pub free_region : (n : Slot) → (holding h).parts (names.Region n) ≡ false → has_thing slot_eq n h.reached.regions.things ≡ false
  unfolding holding
  free_region n is = is

  pub there_region : (n : Slot) (o : Option Region) → o ≡ thing_under slot_eq n h.reached.regions.things → is_some o ≡ (holding h).parts (names.Region n)
  unfolding holding
  there_region n o is = ap is_some is

  pub free_buffer : (a i : ℕ) → (holding h).parts (names.Buffer a i) ≡ false → has_thing buffer_eq (record { adapter = a; index = i }) h.reached.buffers.things ≡ false
  unfolding holding
  free_buffer a i is = is

  pub there_buffer : (a i : ℕ) (o : Option (List ℕ)) → o ≡ thing_under buffer_eq (record { adapter = a; index = i }) h.reached.buffers.things
      → is_some o ≡ (holding h).parts (names.Buffer a i)
  unfolding holding
  there_buffer a i o is = ap is_some is

pub ruleset adding = (added_control, added_queue, added_mailbox, added_cq, added_srq, added_window, added_region, added_buffer, free_control, free_queue, free_mailbox, free_cq, free_srq, free_window, free_region, free_buffer)

pub ruleset removing = (removed_control, removed_queue, removed_mailbox, removed_cq, removed_srq, removed_window, removed_region, removed_buffer, back_control, back_queue, back_mailbox, back_cq, back_srq, back_window, back_region, back_buffer, there_control, there_queue, there_mailbox, there_cq, there_srq, there_window, there_region, there_buffer)

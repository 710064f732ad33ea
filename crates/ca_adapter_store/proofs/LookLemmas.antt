-- What stands at the place of a queue pair and of its mailbox in a row, beside the world for which the row stands. For
-- proofs only.
use Rattle.std.proofs.Common.{◌≡◌, ◌∙◌, refl, sym, ap, subst, Bool, true, false, if◌then◌else◌, Option, None, Some, true≢false}
use Rattle.ca_base.specs.Configuration.{Configuration, configuration_in}
use Rattle.ca_base.specs.objects.Slices.{has_queue}
use Rattle.ca_adapter_parts.specs.declared.part.Part.{Part}
use Rattle.ca_adapter_parts.specs.declared.part.Part.TheVariants as parts
use Rattle.ca_adapter_parts.specs.Parts.{slot_of}
use Rattle.ca_keys.specs.Equal.{queue_eq}
use Rattle.ca_keys.specs.declared.names.QueueId.{QueueId}
use Rattle.ca_model.proofs.ThingLemmas.{queue-refl}
use Rattle.ca_model.specs.declared.part_name.PartName.{PartName}
use Rattle.ca_model.specs.declared.part_name.PartName.TheVariants as names
use Rattle.ca_model.specs.machine.World.{World, Queue_of, Mailbox_of}
use Rattle.ca_adapter_store.specs.Looks.{IsMailboxIn, IsQueueIn, mail_in, slot_in}
use Rattle.ca_adapter_store.specs.Rows.{IsRowOf, IsThere, part_at}
use Rattle.ca_adapter_store.specs.declared.row.Row.{Row}

-- the first of two, by a test that holds
chosen : {A : Type 0} (x y z : A) (b : Bool) → b ≡ true → (if b then x else y) ≡ z → x ≡ z
chosen x y z true e is = is
chosen x y z false e is = absurd (true≢false (sym e))

-- a name that is not configured has no part
no-part : (c : Configuration) (row : Row) (q : QueueId) → has_queue c q ≡ false
    → (part_at c row.parts.items (names.Queue q) ≡ None) × (part_at c row.parts.items (names.Mailbox q) ≡ None)
no-part c row q outside = (rw outside refl, rw outside refl)

module _ (row : Row) (q : QueueId) (c : Configuration) (w : World) (of : IsRowOf c w row) where
  here : (name : PartName) → part_at (configuration_in row.settings) row.parts.items name ≡ part_at c row.parts.items name
  here name = ap (λ k. part_at k row.parts.items name) of.settings

  queue-there : (o : Option Part) → IsThere c w (names.Queue q) o → IsQueueIn w q (slot_in o)
  queue-there None there = absurd there
  queue-there (Some (parts.Queue x)) there =
      chosen (slot_of x.value) (w.queue q) (w.queue q) (queue_eq q q) (queue-refl q) (there.things w (Queue_of q) refl)
  queue-there (Some (parts.Control x)) there = absurd (true≢false (sym there.kind))
  queue-there (Some (parts.Mailbox x)) there = absurd (true≢false (sym there.kind))
  queue-there (Some (parts.Cq x)) there = absurd (true≢false (sym there.kind))
  queue-there (Some (parts.Srq x)) there = absurd (true≢false (sym there.kind))
  queue-there (Some (parts.Window x)) there = absurd (true≢false (sym there.kind))
  queue-there (Some (parts.Region x)) there = absurd (true≢false (sym there.kind))
  queue-there (Some (parts.Buffer x)) there = absurd (true≢false (sym there.kind))

  pub queue_seen : (o : Option Part) → o ≡ part_at (configuration_in row.settings) row.parts.items (names.Queue q) → IsQueueIn w q (slot_in o)
  queue_seen o is = subst (λ o. IsQueueIn w q (slot_in o)) (sym (is ∙ here (names.Queue q))) (by (has_queue c q) refl)
    where
      by : (b : Bool) → has_queue c q ≡ b → IsQueueIn w q (slot_in (part_at c row.parts.items (names.Queue q)))
      by true has = queue-there (part_at c row.parts.items (names.Queue q)) (of.together.home (names.Queue q) has (of.empty (names.Queue q)))
      by false outside = subst (λ o. IsQueueIn w q (slot_in o)) (sym (no-part c row q outside).0) (of.after.placed.vacant (Queue_of q) outside)

  mail-there : (o : Option Part) → IsThere c w (names.Mailbox q) o → IsMailboxIn w q (mail_in o)
  mail-there None there = absurd there
  mail-there (Some (parts.Mailbox x)) there =
      chosen x (w.mailbox q) (w.mailbox q) (queue_eq q q) (queue-refl q) (there.things w (Mailbox_of q) refl)
  mail-there (Some (parts.Control x)) there = absurd (true≢false (sym there.kind))
  mail-there (Some (parts.Queue x)) there = absurd (true≢false (sym there.kind))
  mail-there (Some (parts.Cq x)) there = absurd (true≢false (sym there.kind))
  mail-there (Some (parts.Srq x)) there = absurd (true≢false (sym there.kind))
  mail-there (Some (parts.Window x)) there = absurd (true≢false (sym there.kind))
  mail-there (Some (parts.Region x)) there = absurd (true≢false (sym there.kind))
  mail-there (Some (parts.Buffer x)) there = absurd (true≢false (sym there.kind))

  pub mailbox_seen : (o : Option Part) → o ≡ part_at (configuration_in row.settings) row.parts.items (names.Mailbox q) → IsMailboxIn w q (mail_in o)
  mailbox_seen o is = subst (λ o. IsMailboxIn w q (mail_in o)) (sym (is ∙ here (names.Mailbox q))) (by (has_queue c q) refl)
    where
      by : (b : Bool) → has_queue c q ≡ b → IsMailboxIn w q (mail_in (part_at c row.parts.items (names.Mailbox q)))
      by true has = mail-there (part_at c row.parts.items (names.Mailbox q)) (of.together.home (names.Mailbox q) has (of.empty (names.Mailbox q)))
      by false outside = subst (λ o. IsMailboxIn w q (mail_in o)) (sym (no-part c row q outside).1) (of.after.placed.vacant (Mailbox_of q) outside)

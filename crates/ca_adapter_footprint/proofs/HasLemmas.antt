-- A part that is held has its thing. For proofs only.
use Rattle.std.proofs.Common.{◌≡◌, true}
use Rattle.ca_keys.specs.declared.names.QueueId.{QueueId}
use Rattle.ca_keys.specs.declared.names.Slot.{Slot}
use Rattle.ca_model.specs.declared.part_name.PartName.TheVariants as names
use Rattle.ca_model.specs.machine.World.{Region_of, Window_of, Cq_of, Srq_of, Queue_of, Mailbox_of}
use Rattle.ca_adapter_parts.specs.declared.held.Held.{Held}
use Rattle.ca_adapter_parts.specs.HeldView.{holding}

module _ (h : Held) where
  pub holds_queue : (q : QueueId) → (holding h).parts (names.Queue q) ≡ true → (holding h).has (Queue_of q) ≡ true
  unfolding holding
  holds_queue q is = is

  pub holds_mailbox : (q : QueueId) → (holding h).parts (names.Mailbox q) ≡ true → (holding h).has (Mailbox_of q) ≡ true
  unfolding holding
  holds_mailbox q is = is

  pub holds_cq : (s : Slot) → (holding h).parts (names.Cq s) ≡ true → (holding h).has (Cq_of s) ≡ true
  unfolding holding
  holds_cq s is = is

  pub holds_srq : (s : Slot) → (holding h).parts (names.Srq s) ≡ true → (holding h).has (Srq_of s) ≡ true
  unfolding holding
  holds_srq s is = is

  pub holds_window : (s : Slot) → (holding h).parts (names.Window s) ≡ true → (holding h).has (Window_of s) ≡ true
  unfolding holding
  holds_window s is = is

  pub holds_region : (s : Slot) → (holding h).parts (names.Region s) ≡ true → (holding h).has (Region_of s) ≡ true
  unfolding holding
  holds_region s is = is

pub ruleset holds = (holds_queue, holds_mailbox, holds_cq, holds_srq, holds_window, holds_region)

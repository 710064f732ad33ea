-- What a queue pair is before it sends and receives. Laws cite it.
use Rattle.std.specs.Prelude.{◌≡◌, true, [], None}
use Rattle.ca_law_endings.specs.Agreement.{peer_in}
use Rattle.ca_base.specs.objects.QueuePair.{QueuePair, QueueSlot, NoQueue, Present}
use Rattle.ca_keys.specs.declared.names.QueueId.{QueueId}
use Rattle.ca_model.specs.machine.Invariants.{is_fresh, is_idle}
use Rattle.ca_model.specs.machine.World.{World}

-- Until Rts no request is posted to a queue pair, and until Rtr it has named no peer and saved no result.
pub record BeginsEmpty (q : QueuePair) : Type 0 where
  pub posted : is_fresh q.state ≡ true → q.sends.items ≡ []
  pub oldest : is_fresh q.state ≡ true → q.requester.oldest ≡ 0
  pub peer : is_idle q.state ≡ true → q.peer ≡ None
  pub saved : is_idle q.state ≡ true → q.saved ≡ []

abbrev pub SlotBeginsEmpty : QueueSlot → Type 0
SlotBeginsEmpty (NoQueue incarnation timers) = Unit {0}
SlotBeginsEmpty (Present q) = BeginsEmpty q

-- All queue pairs do so, and no envelope is under way to one that has no peer.
pub record AllBeginEmpty (w : World) : Type 0 where
  pub queues : (n : QueueId) → SlotBeginsEmpty (w.queue n)
  pub mail : (n : QueueId) → peer_in (w.queue n) ≡ None → (w.mailbox n).envelopes ≡ []

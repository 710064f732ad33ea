-- The lists of posted atomics. Laws cite it.
use Rattle.std.specs.Prelude.{◌≡◌, true}
use Rattle.std.specs.List.{AllByRecursion}
use Rattle.ca_base.specs.declared.limits.TheConstants.{ATOMIC_BYTES}
use Rattle.ca_base.specs.declared.request.PostedSend.{PostedSend}
use Rattle.ca_base.specs.objects.QueuePair.{QueueSlot, NoQueue, Present}
use Rattle.ca_keys.specs.declared.names.QueueId.{QueueId}
use Rattle.ca_model.specs.Requests.{list_length, list_of}
use Rattle.ca_model.specs.machine.Numbering.{is_atomic_op}
use Rattle.ca_model.specs.machine.World.{World}

-- the list of a posted atomic has the bytes of an atomic
abbrev pub ListFits : PostedSend → Type 0
ListFits p = is_atomic_op p.request.op ≡ true → list_length (list_of p.request.op) ≡ ATOMIC_BYTES

abbrev pub SlotListsFit : QueueSlot → Type 0
SlotListsFit (NoQueue incarnation timers) = Unit {0}
SlotListsFit (Present q) = AllByRecursion ListFits q.sends.items

-- all atomics that occupy send queues have such lists
abbrev pub AtomicListsFit : World → Type 0
AtomicListsFit w = (n : QueueId) → SlotListsFit (w.queue n)

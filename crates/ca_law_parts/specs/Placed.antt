-- Placed worlds: what is not configured is vacant, and what things name is configured. Laws cite it.
use Rattle.std.specs.Prelude.{◌≡◌, nat_lt, Bool, true, false, None, IfSome}
use Rattle.std.specs.List.{AllByRecursion}
use Rattle.ca_keys.specs.declared.names.Slot.{Slot}
use Rattle.ca_base.specs.declared.request.PostedSend.{PostedSend}
use Rattle.ca_base.specs.declared.reserve.Reservation.{Reservation}
use Rattle.ca_base.specs.Configuration.{Configuration}
use Rattle.ca_base.specs.objects.CompletionQueue.{CompletionQueue, source_of, user_of}
use Rattle.ca_base.specs.objects.Domain.{free_domain}
use Rattle.ca_base.specs.objects.Mailbox.{empty_mailbox}
use Rattle.ca_base.specs.objects.QueuePair.{QueuePair, QueueSlot, NoQueue, Present, recv_cq_of, send_cq_of, srq_of, vacant_queue}
use Rattle.ca_base.specs.objects.Region.{vacant_region}
use Rattle.ca_base.specs.objects.SharedReceives.{vacant_srq}
use Rattle.ca_base.specs.objects.Slices.{has_domain, has_queue, has_slot}
use Rattle.ca_base.specs.objects.Window.{Binding, vacant_window}
use Rattle.ca_model.specs.machine.Step.{bytes_of_buffer, has_named_slot}
use Rattle.ca_model.specs.machine.World.{World, Name, Domain_of, Region_of, Window_of, Cq_of, Srq_of, Queue_of, Mailbox_of, Byte_at, Thing, get}

-- the thing of this name is configured: its domain, its slot, or the buffer of its byte, which has the byte
abbrev pub is_configured : Configuration → Name → Bool
is_configured c (Domain_of d) = has_domain c d
is_configured c (Region_of s) = has_slot c (λ a. a.regions) s
is_configured c (Window_of s) = has_slot c (λ a. a.windows) s
is_configured c (Cq_of s) = has_slot c (λ a. a.cqs) s
is_configured c (Srq_of s) = has_slot c (λ a. a.srqs) s
is_configured c (Queue_of q) = has_queue c q
is_configured c (Mailbox_of q) = has_queue c q
is_configured c (Byte_at p) = nat_lt p.offset (bytes_of_buffer c p.adapter p.buffer)

abbrev pub IsConfigured : Configuration → Name → Type 0
IsConfigured c n = is_configured c n ≡ true

-- a thing is as it was before the first event; of bytes nothing is said
abbrev pub IsVacant : (n : Name) → Thing n → Type 0
IsVacant (Domain_of d) v = v ≡ free_domain
IsVacant (Region_of s) v = v ≡ vacant_region
IsVacant (Window_of s) v = v ≡ vacant_window s
IsVacant (Cq_of s) v = v ≡ None
IsVacant (Srq_of s) v = v ≡ vacant_srq
IsVacant (Queue_of q) v = v ≡ vacant_queue
IsVacant (Mailbox_of q) v = v ≡ empty_mailbox
IsVacant (Byte_at p) v = Unit {0}

-- a queue pair of which all that it names is configured: its completion queues, its shared receive queue, its peer, and
-- the slots of the local operations that are posted
pub record IsPlacedQueue (c : Configuration) (q : QueuePair) : Type 0 where
  pub send : IsConfigured c (Cq_of (send_cq_of q))
  pub recv : IsConfigured c (Cq_of (recv_cq_of q))
  pub shared : IfSome q.srq (λ srq. IsConfigured c (Srq_of (srq_of q srq)))
  pub peer : IfSome q.peer (λ peer. IsConfigured c (Queue_of peer.queue))
  pub posted : AllByRecursion (λ (p : PostedSend). has_named_slot c q.domain p.request.op ≡ true) q.sends.items

abbrev pub IsPlacedSlot : Configuration → QueueSlot → Type 0
IsPlacedSlot c (NoQueue incarnation timers) = Unit {0}
IsPlacedSlot c (Present q) = IsPlacedQueue c q

-- the binding of a window in a slot: its region is configured, and so is its queue pair
pub record IsPlacedBinding (c : Configuration) (s : Slot) (b : Binding) : Type 0 where
  pub region : IsConfigured c (Region_of (record { domain = s.domain; slot = b.region }))
  pub queue : IfSome b.queue (λ q. IsConfigured c (Queue_of q))

-- a reservation in a completion queue: its queue pair is configured, and so is its shared receive queue
pub record IsPlacedReservation (c : Configuration) (s : Slot) (r : Reservation) : Type 0 where
  pub queue : IsConfigured c (Queue_of (user_of r.who))
  pub source : IfSome (source_of r.who) (λ srq. IsConfigured c (Srq_of (record { domain = s.domain; slot = srq })))

-- what a thing names is configured
abbrev pub IsPlacedThing : Configuration → (n : Name) → Thing n → Type 0
IsPlacedThing c (Domain_of d) v = Unit {0}
IsPlacedThing c (Region_of s) v = Unit {0}
IsPlacedThing c (Window_of s) v = IfSome v.binding (IsPlacedBinding c s)
IsPlacedThing c (Cq_of s) v = IfSome v (λ (q : CompletionQueue). AllByRecursion (IsPlacedReservation c s) q.reservations)
IsPlacedThing c (Srq_of s) v = Unit {0}
IsPlacedThing c (Queue_of q) v = IsPlacedSlot c v
IsPlacedThing c (Mailbox_of q) v = Unit {0}
IsPlacedThing c (Byte_at p) v = Unit {0}

-- a world in which all that things name is configured, and all that is not configured is vacant
pub record IsPlacedWorld (c : Configuration) (w : World) : Type 0 where
  pub things : (n : Name) → IsPlacedThing c n (get w n)
  pub vacant : (n : Name) → is_configured c n ≡ false → IsVacant n (get w n)

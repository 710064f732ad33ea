-- A turn that performs a local operation does not depend on what becomes of a packet. For proofs only.
use Rattle.std.proofs.Common.{◌≡◌, ◌∙◌, sym, ap, [], ◌∷◌, Option, if◌then◌else◌}
use Rattle.std.proofs.Math.Path.{fun_ext}
use Rattle.ca_base.specs.Configuration.{Configuration}
use Rattle.ca_base.specs.declared.correspondent.Correspondent.{Correspondent}
use Rattle.ca_base.specs.declared.lot.Lot.{Lot}
use Rattle.ca_base.specs.declared.step.Reason.TheVariants as reasons
use Rattle.ca_base.specs.objects.QueuePair.{NoQueue, Present, QueuePair, QueueSlot}
use Rattle.ca_base.specs.objects.Slices.{has_queue}
use Rattle.ca_keys.specs.declared.names.QueueId.{QueueId}
use Rattle.ca_model.specs.machine.Around.{Around, With_around}
use Rattle.ca_model.specs.machine.Numbering.{Numbered}
use Rattle.ca_model.specs.machine.Plan.{NotReady, Plan, Stuck, perform, touches}
use Rattle.ca_model.specs.machine.Requester.{Performs, turn_of}
use Rattle.ca_model.specs.machine.Turns.{Request_around, request_plan}
use Rattle.ca_model.specs.machine.World.{Queue_of, World}

module _ (c : Configuration) (w : World) (name : QueueId) (lot other : Lot) (q : QueuePair) (n : Numbered) (there : w.queue name ≡ Present q) (turn : turn_of q ≡ Performs n) where
  around-any : (a : Around) (o : Option Correspondent) → Request_around c lot q a o (turn_of q) ≡ Request_around c other q a o (turn_of q)
  around-any a o = ap (Request_around c lot q a o) turn ∙ sym (ap (Request_around c other q a o) turn)

  abbrev slot : Lot → QueueSlot → Plan
  slot lot (NoQueue incarnation timers) = Stuck reasons.State
  slot lot (Present q) = With_around q (λ a. Request_around c lot q a q.peer (turn_of q))

  slot-any : slot lot (w.queue name) ≡ slot other (w.queue name)
  slot-any = ap (slot lot) there ∙ ap (With_around q) (fun_ext (λ a. around-any a q.peer)) ∙ sym (ap (slot other) there)

  pub performs-any : perform w (request_plan c name lot) ≡ perform w (request_plan c name other)
  performs-any = ap (λ p. if has_queue c name then perform w p else NotReady reasons.State) slot-any

  pub touches-any : touches w (request_plan c name lot) ≡ touches w (request_plan c name other)
  touches-any = ap (λ p. if has_queue c name then Queue_of name ∷ touches w p else []) slot-any

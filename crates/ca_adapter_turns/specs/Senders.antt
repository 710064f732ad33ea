-- Which engine of a queue pair sends a packet: the row of its turn, and the turn's plan. Contracts cite it.
use Rattle.std.specs.Prelude.{ℕ, Bool, if◌then◌else◌, [], ◌∷◌, Option}
use Rattle.ca_adapter_turns.specs.declared.sending.Sender.{Sender}
use Rattle.ca_adapter_turns.specs.declared.sending.Sender.TheVariants.{Requester, Responder}
use Rattle.ca_base.specs.Configuration.{Configuration}
use Rattle.ca_base.specs.declared.change.State.TheVariants as states
use Rattle.ca_base.specs.declared.correspondent.Correspondent.{Correspondent}
use Rattle.ca_base.specs.declared.lot.Lot.{Lot}
use Rattle.ca_base.specs.declared.step.Reason.{Reason}
use Rattle.ca_base.specs.declared.step.Reason.TheVariants as reasons
use Rattle.ca_base.specs.objects.QueuePair.{QueuePair}
use Rattle.ca_base.specs.objects.StateTable.{is_among}
use Rattle.ca_keys.specs.declared.names.QueueId.{QueueId}
use Rattle.ca_model.specs.machine.Around.{Around, With_around, With_queue}
use Rattle.ca_model.specs.machine.CanStep.{CanStep}
use Rattle.ca_model.specs.machine.Plan.{Plan}
use Rattle.ca_model.specs.machine.Requester.{turn_of}
use Rattle.ca_model.specs.machine.Respond.{respond_row}
use Rattle.ca_model.specs.machine.Row.{Row}
use Rattle.ca_model.specs.machine.Turns.{Request_around, Respond_around}
use Rattle.ca_wire.specs.Packet.{most_of_response, most_spelt}
use Rattle.ca_requester.specs.ca_requester_sends.Turn.{SendsFound, turn_row}

-- the row of a sender's turn, where the peer has room for a packet or not
abbrev pub row_of : Sender → Bool → QueuePair → Row
row_of Responder room q = respond_row room q
row_of (Requester found) room q = turn_row q room

-- what a sender's turn does, with what stands around the queue pair
abbrev pub Turn_around : Sender → Configuration → Lot → QueuePair → Around → Option Correspondent → Plan
Turn_around Responder c lot q a peer = Respond_around c lot q a peer
Turn_around (Requester found) c lot q a peer = Request_around c lot q a peer (turn_of q)

-- a sender's turn
abbrev pub turn_plan : Sender → Configuration → QueueId → Lot → Plan
turn_plan sender c name lot =
    With_queue c name reasons.State (λ q. With_around q (λ a. Turn_around sender c lot q a q.peer))

-- a sender may take its turn: the requester sends a packet of the request that was found
abbrev pub CanSend : Sender → QueuePair → Type 0
CanSend Responder q = CanStep q
CanSend (Requester found) q = SendsFound q found

-- why a sender whose queue pair has no peer does not send
abbrev pub reason_alone : Sender → QueuePair → Reason
reason_alone Responder q = if is_among (states.Reset ∷ states.Init ∷ []) q.state then reasons.State else reasons.Empty
reason_alone (Requester found) q = reasons.State

-- the most bytes that a sender's packet is spelt in, by how many its asks touch
abbrev pub most_by : Sender → ℕ → ℕ
most_by Responder count = most_of_response count
most_by (Requester found) count = most_spelt count

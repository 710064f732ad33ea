-- What a requester's turn comes to that waits. For proofs only.
use Rattle.std.proofs.Common.{◌≡◌, ◌∙◌, refl, sym, ap, Bool, true, false, not, ◌&&◌, ◌||◌, [], ◌∷◌, Option, None, Some, is_none, if◌then◌else◌, true≢false}
use Rattle.ca_base.specs.Configuration.{Configuration}
use Rattle.ca_base.specs.declared.change.State.TheVariants as states
use Rattle.ca_base.specs.declared.correspondent.Correspondent.{Correspondent}
use Rattle.ca_base.specs.declared.lot.Lot.{Lot}
use Rattle.ca_base.specs.declared.step.Reason.{Reason}
use Rattle.ca_base.specs.declared.step.Reason.TheVariants as reasons
use Rattle.ca_base.specs.objects.QueuePair.{Present, QueuePair}
use Rattle.ca_base.specs.objects.Slices.{has_queue}
use Rattle.ca_base.specs.objects.StateTable.{state_eq}
use Rattle.ca_keys.specs.Refusals.{first_of}
use Rattle.ca_keys.specs.declared.names.QueueId.{QueueId}
use Rattle.ca_model.proofs.PerformLemmas.{around-performs, around_at, queue-performs}
use Rattle.ca_model.specs.Requests.{is_local}
use Rattle.ca_model.specs.machine.Around.{With_around}
use Rattle.ca_model.specs.machine.CanStep.{CanStep}
use Rattle.ca_model.specs.machine.Invariants.{is_sending}
use Rattle.ca_model.specs.machine.Numbering.{Numbered}
use Rattle.ca_model.specs.machine.Plan.{NotReady, perform}
use Rattle.ca_model.specs.machine.Requester.{Performs, RequestTurn, Sends, Waits, begins, is_fenced, next_request, packet_row, turn_of}
use Rattle.ca_model.specs.machine.Row.{NotPossible, Row_plan, plain_row}
use Rattle.ca_model.specs.machine.Turns.{Leave_plan, Request_around, has_room_for, request_plan}
use Rattle.ca_model.specs.machine.World.{World}
use Rattle.ca_adapter_local.specs.ca_requester_sends.Turn.{IsWaiting, is_performing, turn_row}
use Rattle.ca_adapter_local.proofs.of_ca_adapter_turns.TimerLemmas.{not-sending}

-- a packet is sent in Rts and Sqd alone
abbrev is_packet : RequestTurn → Bool
is_packet (Sends n) = true
is_packet turn = false

packet-sending : (q : QueuePair) (n : Numbered) → turn_of q ≡ Sends n → is_sending q.state ≡ true
packet-sending q n is = by (is_sending q.state) refl
  where
    found : Option Reason → Option Numbered → RequestTurn
    found (Some reason) n = Waits reason
    found None None = Waits reasons.Empty
    found None (Some n) = if is_local n.request.op then Performs n else Sends n

    turn : Bool → RequestTurn
    turn sending = found (first_of (
        (not sending || (state_eq q.state states.Sqd && begins q), reasons.State)
        ∷ (q.requester.waiting, reasons.RnrWait)
        ∷ (is_none (next_request q), reasons.Empty)
        ∷ (is_fenced q, reasons.Fence)
        ∷ [])) (next_request q)

    by : (b : Bool) → is_sending q.state ≡ b → is_sending q.state ≡ true
    by true sending = sending
    by false silent = absurd (true≢false (sym (ap is_packet is) ∙ ap (λ b. is_packet (turn b)) silent))

module _ (c : Configuration) (w : World) (lot : Lot) (q : QueuePair) (reason : Reason) (can : CanStep q) (waits : IsWaiting q reason) where
  waits-around : (t : RequestTurn) → turn_of q ≡ t → (o : Option Correspondent) → q.peer ≡ o
      → perform w (Request_around c lot q (around_at w q) o t) ≡ NotReady reason
  waits-around (Waits r) is o peer =
      let same : turn_row q true ≡ plain_row (NotPossible r) = rw is refl
      in ap (λ row. perform w (Row_plan c row (λ e changes writes. Request_around c lot q (around_at w q) o (Waits r)))) (sym same ∙ waits.row true)
  waits-around (Performs n) is o peer = absurd (true≢false (ap is_performing (sym is) ∙ waits.performs))
  waits-around (Sends n) is None peer = absurd (true≢false (sym (packet-sending q n is) ∙ not-sending q can peer))
  waits-around (Sends n) is (Some p) peer =
      let room : Bool = has_room_for q p (w.mailbox p.queue)
      in let same : turn_row q room ≡ packet_row q room n = rw is refl
      in ap (λ row. perform w (Row_plan c row (Leave_plan q (around_at w q) p (w.mailbox p.queue) lot))) (sym same ∙ waits.row room)

  pub waits-performs : (name : QueueId) → has_queue c name ≡ true → w.queue name ≡ Present q → perform w (request_plan c name lot) ≡ NotReady reason
  waits-performs name has there =
      queue-performs c w name reasons.State (λ q. With_around q (λ a. Request_around c lot q a q.peer (turn_of q))) q has there
      ∙ around-performs w q (λ a. Request_around c lot q a q.peer (turn_of q))
      ∙ waits-around (turn_of q) refl q.peer refl

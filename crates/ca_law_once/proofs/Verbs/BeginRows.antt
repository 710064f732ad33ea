-- The rows leave a queue pair that begins empty so. For proofs only.
use Rattle.std.proofs.Common.{◌≡◌, ℕ, ◌⊎◌, inl, inr, Bool, true, false, not, if◌then◌else◌, List, Option, None, Some, Result, Ok, Err, refl, ap, sym, subst, ◌∙◌, true≢false}
use Rattle.std.proofs.lemmas.Bool.{not-false}
use Rattle.ca_base.specs.declared.change.State.{State}
use Rattle.ca_base.specs.declared.change.State.TheVariants as states
use Rattle.ca_base.specs.declared.queue_numbers.RequesterNumbers.{RequesterNumbers}
use Rattle.ca_base.specs.declared.request.PostedSend.{PostedSend}
use Rattle.ca_base.specs.objects.QueuePair.{QueuePair}
use Rattle.ca_base.specs.objects.SharedReceives.{SharedReceives}
use Rattle.ca_base.specs.objects.WorkQueue.{WorkQueue}
use Rattle.ca_keys.specs.Refusals.{AllFail, first_of}
use Rattle.ca_law_world.proofs.Sound.TurnLemmas.{all-fail}
use Rattle.ca_model.specs.Packets.{is_response}
use Rattle.ca_model.specs.declared.mark.Drop1.{Drop1}
use Rattle.ca_model.specs.declared.mark.Drop1.TheVariants as drops
use Rattle.ca_model.specs.machine.Delivery.{arrival_drops, arrival_row, packet_arrived}
use Rattle.ca_model.specs.machine.Duplicates.{request_row}
use Rattle.ca_model.specs.machine.Invariants.{is_connected, is_fresh, is_idle, is_sending}
use Rattle.ca_model.specs.machine.Responses.{drop_effects, outstanding_row, is_outstanding_at, response_psn, response_row}
use Rattle.ca_model.specs.machine.Row.{Does, Effects, Row, plain_row}
use Rattle.ca_wire.specs.Decoding.{packet_in}
use Rattle.ca_wire.specs.Packet.{Fields}
use Rattle.ca_wire.specs.Table.{shape_of}
use Rattle.ca_wire.specs.declared.shape.Shape.{Shape}
use Rattle.ca_wire.specs.declared.wire_error.WireError.{WireError}
use Rattle.ca_law_once.proofs.Rows.ArrivalLemmas.{weaker}
use Rattle.ca_law_once.proofs.Rows.ForgetLemmas.{Forgets, forgets-state, response-forgets}
use Rattle.ca_law_once.proofs.Rows.RequestRowLemmas.{plain}
use Rattle.ca_law_once.proofs.Rows.StayLemmas.{Stays, request-stays}
use Rattle.ca_law_once.proofs.Rows.StayLemmas.Stays.{still, ended}
use Rattle.ca_law_once.specs.Moves.{LeavesState, RowLeads}
use Rattle.ca_law_once.specs.Beginnings.{BeginsEmpty}

fresh-idle : (t : State) → is_fresh t ≡ false → is_idle t ≡ true → ⊥
fresh-idle states.Reset none is = true≢false none
fresh-idle states.Init none is = true≢false none
fresh-idle states.Rtr none is = true≢false none
fresh-idle states.Rts none is = true≢false (sym is)
fresh-idle states.Sqd none is = true≢false (sym is)
fresh-idle states.Error none is = true≢false (sym is)

connected-idle : (t : State) → is_connected t ≡ true → is_idle t ≡ true → ⊥
connected-idle states.Reset is idle = true≢false (sym is)
connected-idle states.Init is idle = true≢false (sym is)
connected-idle states.Rtr is idle = true≢false (sym idle)
connected-idle states.Rts is idle = true≢false (sym idle)
connected-idle states.Sqd is idle = true≢false (sym idle)
connected-idle states.Error is idle = true≢false (sym is)

sending-begun : (t : State) → is_sending t ≡ true → is_fresh t ≡ false
sending-begun states.Reset is = absurd (true≢false (sym is))
sending-begun states.Init is = absurd (true≢false (sym is))
sending-begun states.Rtr is = absurd (true≢false (sym is))
sending-begun states.Rts is = refl
sending-begun states.Sqd is = refl
sending-begun states.Error is = refl

-- nothing is asked of a queue pair that has begun
pub begun-begins : (p : QueuePair) → is_fresh p.state ≡ false → BeginsEmpty p
begun-begins p begun = record {
  posted = λ is. absurd (true≢false (sym is ∙ begun));
  oldest = λ is. absurd (true≢false (sym is ∙ begun));
  peer = λ is. absurd (fresh-idle p.state begun is);
  saved = λ is. absurd (fresh-idle p.state begun is);
}

pub error-begins : (p : QueuePair) → p.state ≡ states.Error → BeginsEmpty p
error-begins p error = begun-begins p (ap is_fresh error)

-- one that sends has begun after its turn
pub sent-begins : (q : QueuePair) (e : Effects) → is_sending q.state ≡ true → LeavesState q e → BeginsEmpty e.queue
sent-begins q e sends leaves = by leaves.0
  where
    by : (e.queue.state ≡ q.state) ⊎ (e.queue.state ≡ states.Error) → BeginsEmpty e.queue
    by (inl same) = begun-begins e.queue (ap is_fresh same ∙ sending-begun q.state sends)
    by (inr error) = error-begins e.queue error

-- what stays in its requester begins as it did, once it has named a peer
pub stays-begins : (q p : QueuePair) → (is_idle q.state ≡ true → ⊥) → BeginsEmpty q → Stays q p → BeginsEmpty p
stays-begins q p connected begins (still requester sends state mtu) = record {
  posted = λ is. ap (λ (s : WorkQueue PostedSend). s.items) sends ∙ begins.posted (sym (ap is_fresh state) ∙ is);
  oldest = λ is. ap (λ (r : RequesterNumbers). r.oldest) requester ∙ begins.oldest (sym (ap is_fresh state) ∙ is);
  peer = λ is. absurd (connected (sym (ap is_idle state) ∙ is));
  saved = λ is. absurd (connected (sym (ap is_idle state) ∙ is));
}
stays-begins q p connected begins (ended una cursor error mtu) = error-begins p error

-- a response meets one that sends, or is dropped
response-begins : (p : Fields) (q : QueuePair) → BeginsEmpty q → RowLeads (λ e. BeginsEmpty e.queue) (response_row p q)
response-begins p q begins = by (is_sending q.state) refl
  where
    P : Effects → Type 0
    P e = BeginsEmpty e.queue

    rest : Row
    rest = if not (is_outstanding_at (response_psn q p) q) then plain_row (Does (drop_effects q drops.Stale)) else outstanding_row (response_psn q p) p q

    by : (b : Bool) → is_sending q.state ≡ b → RowLeads P (response_row p q)
    by true is = weaker (λ e. Forgets q e.queue) P (response_row p q) (λ e does. sent-begins q e is (forgets-state q e does)) (response-forgets p q)
    by false none = subst (λ b. RowLeads P (if not b then plain_row (Does (drop_effects q drops.State)) else rest)) (sym none) (plain P (drop_effects q drops.State) begins)

packet-begins : (p : Fields) (envelope : Option ℕ) (shared : Option SharedReceives) (q : QueuePair) → is_connected q.state ≡ true → BeginsEmpty q → RowLeads (λ e. BeginsEmpty e.queue) (packet_arrived p envelope shared q)
packet-begins p envelope shared q connected begins = by (is_response p.opcode)
  where
    P : Effects → Type 0
    P e = BeginsEmpty e.queue

    shaped : Option Shape → Row
    shaped (Some shape) = request_row p envelope shared shape q
    shaped None = plain_row (Does (drop_effects q drops.State))

    request : (o : Option Shape) → RowLeads P (shaped o)
    request (Some shape) = weaker (λ e. Stays q e.queue) P (request_row p envelope shared shape q) (λ e does. stays-begins q e.queue (connected-idle q.state connected) begins does) (request-stays p envelope shared shape q)
    request None = plain P (drop_effects q drops.State) begins

    by : (b : Bool) → RowLeads P (if b then response_row p q else shaped (shape_of p.opcode))
    by true = response-begins p q begins
    by false = request (shape_of p.opcode)

-- whatever arrives
pub arrival-begins : (bytes : List ℕ) (envelope : Option ℕ) (shared : Option SharedReceives) (q : QueuePair) → BeginsEmpty q → RowLeads (λ e. BeginsEmpty e.queue) (arrival_row bytes envelope shared q)
arrival-begins bytes envelope shared q begins = by (packet_in bytes)
  where
    P : Effects → Type 0
    P e = BeginsEmpty e.queue

    unless : Fields → Option Drop1 → Row
    unless p (Some cause) = plain_row (Does (drop_effects q cause))
    unless p None = packet_arrived p envelope shared q

    row : Result Fields WireError → Row
    row (Err error) = plain_row (Does (drop_effects q (drops.Wire error)))
    row (Ok p) = unless p (first_of (arrival_drops q p))

    of_packet : (p : Fields) (o : Option Drop1) → first_of (arrival_drops q p) ≡ o → RowLeads P (unless p o)
    of_packet p (Some cause) is = plain P (drop_effects q cause) begins
    of_packet p None is = taken (all-fail (arrival_drops q p) is)
      where
        taken : AllFail (arrival_drops q p) → RowLeads P (packet_arrived p envelope shared q)
        taken fails = packet-begins p envelope shared q (not-false (is_connected q.state) fails.1.1.0) begins

    by : (r : Result Fields WireError) → RowLeads P (row r)
    by (Err error) = plain P (drop_effects q (drops.Wire error)) begins
    by (Ok p) = of_packet p (first_of (arrival_drops q p)) refl

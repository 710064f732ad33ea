-- What is always possible: a row that does something however its keys and bytes are, and every arrival. For proofs only.
use Rattle.std.proofs.Common.{◌≡◌, ℕ, ◌+◌, ◌==◌, ◌&&◌, Bool, true, false, not, nat_lt, if◌then◌else◌, List, [], ◌∷◌, length, map, Option, None, Some, is_none, Result, Ok, Err, refl, ap, sym, ◌∙◌, true≢false}
use Rattle.std.specs.Option.{option_and_then}
use Rattle.ca_base.specs.Configuration.{Configuration}
use Rattle.ca_base.specs.Sight.{Sight, bytes_in, first_denied}
use Rattle.ca_base.specs.declared.denied_ask.DeniedAsk.{DeniedAsk}
use Rattle.ca_base.specs.declared.refusals.OpRefusal.{OpRefusal}
use Rattle.ca_base.specs.declared.request.PlacedReceive.{PlacedReceive}
use Rattle.ca_base.specs.objects.QueuePair.{QueuePair}
use Rattle.ca_base.specs.objects.SharedReceives.{SharedReceives}
use Rattle.ca_base.specs.objects.StateTable.{is_among}
use Rattle.ca_base.specs.declared.change.State.TheVariants as states
use Rattle.ca_keys.specs.Refusals.{first_of}
use Rattle.ca_wire.specs.Decoding.{packet_in}
use Rattle.ca_wire.specs.Packet.{Fields}
use Rattle.ca_wire.specs.Table.{shape_of}
use Rattle.ca_wire.specs.declared.atomic_eth.AtomicEth.{AtomicEth}
use Rattle.ca_wire.specs.declared.opcode.TheConstants.{ACKNOWLEDGE}
use Rattle.ca_wire.specs.declared.reth.Reth.{Reth}
use Rattle.ca_wire.specs.declared.shape.Shape.{Shape}
use Rattle.ca_wire.specs.declared.shape.Shape.TheVariants as shapes
use Rattle.ca_wire.specs.declared.wire_error.WireError.{WireError}
use Rattle.ca_wire.specs.declared.syndrome.NakCode.TheVariants.{InvalidRequest}
use Rattle.ca_base.specs.declared.completion.WcStatus.TheVariants.{BadResponse}
use Rattle.ca_model.proofs.PerformLemmas.{row-performs}
use Rattle.ca_model.specs.declared.mark.Drop1.{Drop1}
use Rattle.ca_model.specs.declared.mark.Drop1.TheVariants as drops
use Rattle.ca_model.specs.declared.receiving.Receiving.{Receiving}
use Rattle.ca_model.specs.declared.write_reach.WriteReach.{WriteReach}
use Rattle.ca_model.specs.machine.Acknowledgements.{Acknowledgement, acknowledgement_below, and_then, failure_effects}
use Rattle.ca_model.specs.machine.Arrivals.{next_receive, refusal_effects, with_flag}
use Rattle.ca_model.specs.machine.Delivery.{arrival_drops, arrival_row, packet_arrived}
use Rattle.ca_model.specs.machine.Duplicates.{request_row}
use Rattle.ca_model.specs.Packets.{is_response}
use Rattle.ca_model.specs.Requests.{list_length}
use Rattle.ca_psn.specs.Psn.{widened}
use Rattle.ca_model.specs.machine.Expected.{atomic_row, is_invalid, read_queued, receiving_of, send_row, takes_receive, valid_row, write_reach, write_row}
use Rattle.ca_model.specs.machine.Numbering.{Numbered, request_at}
use Rattle.ca_model.specs.machine.Plan.{Did, NotReady, Outcome, Plan, Update, Write, perform}
use Rattle.ca_model.specs.machine.Responses.{answer_row, drop_effects, fits_request, fitting_row, is_outstanding_at, response_psn, response_row}
use Rattle.ca_model.specs.machine.Row.{Does, Effects, Ending, NotPossible, Row, Row_plan, ending_of, plain_row}
use Rattle.ca_model.specs.machine.Seen.{perform_ending, row_changes, sight_in}
use Rattle.ca_model.specs.machine.World.{World}

-- ---- what is possible

abbrev pub is_done : Outcome → Bool
is_done (NotReady reason) = false
is_done (Did w ms) = true

-- a plan is carried out in a world
abbrev pub Happens : World → Plan → Type 0
Happens w p = is_done (perform w p) ≡ true

abbrev pub does : Ending → Bool
does (NotPossible reason) = false
does (Does e) = true

-- a row does something, whatever is denied and whatever the bytes are
pub record AlwaysDoes (r : Row) : Type 0 where
  pub denied : (d : DeniedAsk) → does (r.denied d) ≡ true
  pub allowed : (bytes : List (List ℕ)) (refusal : Option OpRefusal) → does (r.allowed bytes refusal) ≡ true

ends-does : (s : Sight) (r : Row) → AlwaysDoes r → does (ending_of s r) ≡ true
ends-does s r all = by (first_denied s r.asks)
  where
    pick : Option DeniedAsk → Ending
    pick (Some d) = r.denied d
    pick None = r.allowed (map (bytes_in s) r.asks) (option_and_then s.refusal r.invalidation)

    by : (o : Option DeniedAsk) → does (pick o) ≡ true
    by (Some d) = all.denied d
    by None = all.allowed _ _

pub happens-row : (c : Configuration) (w : World) (row : Row) (finish : Effects → List Update → List Write → Plan) → AlwaysDoes row
    → ((e : Effects) (changes : List Update) (writes : List Write) → Happens w (finish e changes writes)) → Happens w (Row_plan c row finish)
happens-row c w row finish all done = ap is_done (row-performs c w row finish) ∙ by (ending_of (sight_in c w) row) (ends-does (sight_in c w) row all)
  where
    by : (e : Ending) → does e ≡ true → is_done (perform_ending w (sight_in c w) finish (row_changes c w row) e) ≡ true
    by (NotPossible reason) is = absurd (true≢false (sym is))
    by (Does e) is = done e (row_changes c w row) _

-- ---- arrivals

cond-does : (b : Bool) (r s : Row) → AlwaysDoes r → AlwaysDoes s → AlwaysDoes (if b then r else s)
cond-does true r s one other = one
cond-does false r s one other = other

answer-does : (psn : ℕ) (p : Fields) (a : Acknowledgement) → AlwaysDoes (fitting_row psn p a)
answer-does psn p a = cond-does a.went_back _ _ (record { denied = λ d. refl; allowed = λ bytes refusal. refl }) (by (request_at psn a.effects.queue))
  where
    row : Option Numbered → Row
    row None = plain_row (Does (and_then a.effects (failure_effects BadResponse None)))
    row (Some n) =
        if fits_request psn p a.effects.queue n then answer_row psn p a.effects n
        else plain_row (Does (and_then a.effects (failure_effects BadResponse None)))

    by : (o : Option Numbered) → AlwaysDoes (row o)
    by None = record { denied = λ d. refl; allowed = λ bytes refusal. refl }
    by (Some n) = cond-does (fits_request psn p a.effects.queue n) _ _ (record { denied = λ d. refl; allowed = λ bytes refusal. refl }) (record { denied = λ d. refl; allowed = λ bytes refusal. refl })

response-does : (p : Fields) (q : QueuePair) → AlwaysDoes (response_row p q)
response-does p q = cond-does (not (is_among (states.Rts ∷ states.Sqd ∷ []) q.state)) _ _ (record { denied = λ d. refl; allowed = λ bytes refusal. refl }) (cond-does (not (is_outstanding_at (response_psn q p) q)) _ _ (record { denied = λ d. refl; allowed = λ bytes refusal. refl })
    (cond-does (p.opcode == ACKNOWLEDGE) _ _ (record { denied = λ d. refl; allowed = λ bytes refusal. refl }) (answer-does (response_psn q p) p (acknowledgement_below (response_psn q p) q))))

valid-does : (q : QueuePair) (p : Fields) (envelope : Option ℕ) (next : Option PlacedReceive) (shape : Shape) → AlwaysDoes (valid_row q p envelope next shape)
valid-does q p envelope next (shapes.Send position) = by (receiving_of q next q.responder.message)
  where
    row : Option Receiving → Row
    row (Some r) = send_row q p position r
    row None = plain_row (Does (refusal_effects InvalidRequest q))

    by : (o : Option Receiving) → AlwaysDoes (row o)
    by (Some r) = cond-does (nat_lt (list_length r.receive.receive.list.items) (r.before + length p.payload)) _ _ (record { denied = λ d. refl; allowed = λ bytes refusal. refl }) (record { denied = λ d. refl; allowed = λ bytes refusal. refl })
    by None = record { denied = λ d. refl; allowed = λ bytes refusal. refl }
valid-does q p envelope next (shapes.Write position) = by (write_reach q p)
  where
    row : Option WriteReach → Row
    row (Some r) = write_row q p envelope position next r
    row None = plain_row (Does (refusal_effects InvalidRequest q))

    by : (o : Option WriteReach) → AlwaysDoes (row o)
    by (Some r) = record { denied = λ d. refl; allowed = λ bytes refusal. refl }
    by None = record { denied = λ d. refl; allowed = λ bytes refusal. refl }
valid-does q p envelope next shapes.Read = by p.reth
  where
    row : Option Reth → Row
    row (Some h) = plain_row (Does (read_queued q p envelope h))
    row None = plain_row (Does (refusal_effects InvalidRequest q))

    by : (o : Option Reth) → AlwaysDoes (row o)
    by (Some h) = record { denied = λ d. refl; allowed = λ bytes refusal. refl }
    by None = record { denied = λ d. refl; allowed = λ bytes refusal. refl }
valid-does q p envelope next (shapes.Atomic kind) = by p.atomic
  where
    row : Option AtomicEth → Row
    row (Some a) = atomic_row q p envelope kind a
    row None = plain_row (Does (refusal_effects InvalidRequest q))

    by : (o : Option AtomicEth) → AlwaysDoes (row o)
    by (Some a) = record { denied = λ d. refl; allowed = λ bytes refusal. refl }
    by None = record { denied = λ d. refl; allowed = λ bytes refusal. refl }

request-does : (p : Fields) (envelope : Option ℕ) (shared : Option SharedReceives) (shape : Shape) (q : QueuePair) → AlwaysDoes (request_row p envelope shared shape q)
request-does p envelope shared shape q = cond-does (nat_lt q.responder.expected psn) _ _ (record { denied = λ d. refl; allowed = λ bytes refusal. refl }) (cond-does (nat_lt psn q.responder.expected) _ _ (record { denied = λ d. refl; allowed = λ bytes refusal. refl })
    (cond-does (is_invalid (with_flag false q) p shape) _ _ (record { denied = λ d. refl; allowed = λ bytes refusal. refl }) (cond-does (takes_receive p shape && is_none (next_receive (with_flag false q) shared)) _ _ (record { denied = λ d. refl; allowed = λ bytes refusal. refl }) (valid-does (with_flag false q) p envelope (next_receive (with_flag false q) shared) shape))))
  where
    psn : ℕ
    psn = widened q.responder.expected p.psn

packet-does : (p : Fields) (envelope : Option ℕ) (shared : Option SharedReceives) (q : QueuePair) → AlwaysDoes (packet_arrived p envelope shared q)
packet-does p envelope shared q = cond-does (is_response p.opcode) _ _ (response-does p q) (by (shape_of p.opcode))
  where
    row : Option Shape → Row
    row (Some shape) = request_row p envelope shared shape q
    row None = plain_row (Does (drop_effects q drops.State))

    by : (o : Option Shape) → AlwaysDoes (row o)
    by (Some shape) = request-does p envelope shared shape q
    by None = record { denied = λ d. refl; allowed = λ bytes refusal. refl }

pub arrival-does : (bytes : List ℕ) (envelope : Option ℕ) (shared : Option SharedReceives) (q : QueuePair) → AlwaysDoes (arrival_row bytes envelope shared q)
arrival-does bytes envelope shared q = by (packet_in bytes)
  where
    unless : Fields → Option Drop1 → Row
    unless p (Some cause) = plain_row (Does (drop_effects q cause))
    unless p None = packet_arrived p envelope shared q

    row : Result Fields WireError → Row
    row (Err error) = plain_row (Does (drop_effects q (drops.Wire error)))
    row (Ok p) = unless p (first_of (arrival_drops q p))

    dropped : (p : Fields) (o : Option Drop1) → AlwaysDoes (unless p o)
    dropped p (Some cause) = record { denied = λ d. refl; allowed = λ bytes refusal. refl }
    dropped p None = packet-does p envelope shared q

    by : (o : Result Fields WireError) → AlwaysDoes (row o)
    by (Err error) = record { denied = λ d. refl; allowed = λ bytes refusal. refl }
    by (Ok p) = dropped p (first_of (arrival_drops q p))

-- The requester's responses: what each makes of a queue pair. Contracts cite it.
use Rattle.std.specs.Prelude.{ℕ, suc, ◌-◌, ◌*◌, ◌==◌, ◌&&◌, ◌||◌, nat_le, nat_lt, Bool, true, false, not, if◌then◌else◌, List, [], ◌∷◌, ◌++◌, length, take, drop, Option, None, Some}
use Rattle.std.specs.Option.{option_map_or, option_and_then}
use Rattle.ca_keys.specs.declared.access.Ask.{Ask}
use Rattle.ca_keys.specs.declared.access.Kind.TheVariants as kinds
use Rattle.ca_base.specs.declared.change.State.TheVariants as states
use Rattle.ca_base.specs.declared.completion.WcStatus.TheVariants.{BadResponse, LocalProtection, RemoteAccess, RemoteInvalidRequest, RemoteOperation, RnrRetryExceeded}
use Rattle.ca_base.specs.declared.limits.TheConstants.{MAX_RETRY}
use Rattle.ca_keys.specs.declared.verdict.Verdict.TheVariants as verdicts
use Rattle.ca_keys.specs.Memory.{little_endian_bytes}
use Rattle.ca_base.specs.objects.QueuePair.{QueuePair}
use Rattle.ca_base.specs.objects.StateTable.{is_among}
use Rattle.ca_psn.specs.Psn.{widened}
use Rattle.ca_wire.specs.declared.opcode.TheConstants.{RDMA_READ_RESPONSE_LAST, RDMA_READ_RESPONSE_ONLY, ACKNOWLEDGE, ATOMIC_ACKNOWLEDGE}
use Rattle.ca_wire.specs.declared.syndrome.NakCode.{NakCode}
use Rattle.ca_wire.specs.declared.syndrome.NakCode.TheVariants.{PsnSequenceError, InvalidRequest, RemoteAccessError, RemoteOperationalError}
use Rattle.ca_wire.specs.declared.syndrome.Syndrome.{Syndrome}
use Rattle.ca_wire.specs.declared.syndrome.Syndrome.TheVariants.{Ack, RnrNak, Nak}
use Rattle.ca_wire.specs.Packet.{Fields}
use Rattle.ca_wire.specs.Syndrome.{syndrome_in}
use Rattle.ca_model.specs.declared.mark.Drop1.{Drop1}
use Rattle.ca_model.specs.declared.mark.Drop1.TheVariants as drops
use Rattle.ca_model.specs.declared.mark.Mark.{Mark}
use Rattle.ca_model.specs.declared.mark.Mark.TheVariants as marks
use Rattle.ca_model.specs.Requests.{list_length, list_of, segment_bytes}
use Rattle.ca_model.specs.machine.Acknowledgements.{Acknowledgement, acknowledgement_below, progress_to, and_then, failure_effects, one_retry, with_requester}
use Rattle.ca_model.specs.machine.Numbering.{Numbered, is_atomic_op, is_read, list_asks, psn_end, request_at}
use Rattle.ca_model.specs.machine.Requester.{local_denial}
use Rattle.ca_model.specs.machine.Row.{Effects, queue_and_marks, Row, plain_row, Does}

-- the packet is dropped
abbrev pub drop_effects : QueuePair → Drop1 → Effects
drop_effects q cause = queue_and_marks q (marks.Dropped q.queue cause ∷ [])

-- the whole number of a response's PSN
abbrev pub response_psn : QueuePair → Fields → ℕ
response_psn q p = widened q.requester.una p.psn

-- the PSN is outstanding
abbrev pub is_outstanding_at : ℕ → QueuePair → Bool
is_outstanding_at psn q = nat_le q.requester.una psn && nat_lt psn q.requester.cursor

-- what comes after all below the response's PSN is acknowledged, unless that went back
abbrev pub unless_back : Acknowledgement → (QueuePair → Effects) → Effects
unless_back a f = if a.went_back then a.effects else and_then a.effects f

-- an RNR NAK: where the count is used up the request fails, and else it is sent again after a wake
abbrev pub rnr_nak_effects : ℕ → QueuePair → Effects
rnr_nak_effects psn q =
    if nat_lt q.requester.rnr_retry MAX_RETRY && nat_le q.requester.rnr_retry q.requester.rnrs
    then failure_effects RnrRetryExceeded None (counted q)
    else queue_and_marks (with_requester (record (counted q).requester { cursor = psn; waiting = true }) q) []
  where
    counted : QueuePair → QueuePair
    counted q = with_requester (record q.requester { rnrs = suc q.requester.rnrs }) q

-- a NAK: 0 asks for the packets again, the others fail the request
abbrev pub nak_effects : ℕ → NakCode → QueuePair → Effects
nak_effects psn PsnSequenceError q = one_retry psn q
nak_effects psn InvalidRequest q = failure_effects RemoteInvalidRequest None q
nak_effects psn RemoteAccessError q = failure_effects RemoteAccess None q
nak_effects psn RemoteOperationalError q = failure_effects RemoteOperation None q

-- an Acknowledge packet, by its syndrome
abbrev pub acknowledge_row : ℕ → Option Syndrome → QueuePair → Effects
acknowledge_row psn (Some (Ack credits)) q = (acknowledgement_below (suc psn) q).effects
acknowledge_row psn (Some (RnrNak timer)) q = unless_back (acknowledgement_below psn q) (rnr_nak_effects psn)
acknowledge_row psn (Some (Nak code)) q = unless_back (acknowledgement_below psn q) (nak_effects psn code)
acknowledge_row psn None q = drop_effects q drops.Stale

-- First and Middle do not end a READ, Last and Only do
abbrev pub ends_read : ℕ → Bool
ends_read opcode = (opcode == RDMA_READ_RESPONSE_LAST) || (opcode == RDMA_READ_RESPONSE_ONLY)

-- the segment's place in a READ's message: where it begins, and how long it is
abbrev pub segment_at : ℕ → QueuePair → Numbered → ℕ
segment_at psn q n = (psn - n.first) * q.responder.mtu

abbrev pub segment_length : ℕ → QueuePair → Numbered → ℕ
segment_length psn q n = segment_bytes q.responder.mtu (list_length (list_of n.request.op)) (psn - n.first)

-- the response fits the request: a READ's segment by its length and by whether it is the last, an atomic's answer an
-- atomic
abbrev pub fits_request : ℕ → Fields → QueuePair → Numbered → Bool
fits_request psn p q n =
    if p.opcode == ATOMIC_ACKNOWLEDGE then is_atomic_op n.request.op
    else is_read n.request.op && (length p.payload == segment_length psn q n) && same (ends_read p.opcode) (suc psn == psn_end n)
  where
    same : Bool → Bool → Bool
    same true b = b
    same false b = not b

-- the bytes that an answer brings
abbrev pub answer_bytes : Fields → List ℕ
answer_bytes p = if p.opcode == ATOMIC_ACKNOWLEDGE then little_endian_bytes (option_map_or (λ n. n) p.«result» 0) else p.payload

-- where they go in the request's list
abbrev pub answer_asks : ℕ → Fields → QueuePair → Numbered → List Ask
answer_asks psn p q n = list_asks q.queue q.domain kinds.Write (segment_at psn q n) (length (answer_bytes p)) (list_of n.request.op)

-- the bytes, cut for these asks in order
abbrev pub writes_by : List Ask → List ℕ → List (Ask × List ℕ)
writes_by [] bytes = []
writes_by (ask ∷ asks) bytes = (ask, take ask.touch bytes) ∷ writes_by asks (drop ask.touch bytes)

-- a mark for each piece that was written
abbrev pub local_writes : List (Ask × List ℕ) → List Mark
local_writes [] = []
local_writes (x ∷ xs) =
    marks.Local x.0.queue x.0.domain x.0.key x.0.kind x.0.address x.0.length (verdicts.Wrote x.1) ∷ local_writes xs

-- the bytes of an answer go to the list of their request
abbrev pub answer_row : ℕ → Fields → Effects → Numbered → Row
answer_row psn p before n = record {
  asks = asks;
  invalidation = None;
  denied = λ d. Does (and_then before (λ q.
      record (failure_effects LocalProtection None q) { marks = local_denial d ∷ (failure_effects LocalProtection None q).marks }));
  allowed = λ bytes refusal. Does (record (and_then before (λ q.
      record (progress_to (suc psn) q) { marks = local_writes writes ++ (progress_to (suc psn) q).marks })) { writes = writes });
}
  where
    asks : List Ask
    asks = answer_asks psn p before.queue n

    writes : List (Ask × List ℕ)
    writes = writes_by asks (answer_bytes p)

-- an answer: an implied NAK, one that does not fit its request, or one whose bytes go to its list
abbrev pub fitting_row : ℕ → Fields → Acknowledgement → Row
fitting_row psn p a = if a.went_back then plain_row (Does a.effects) else by (request_at psn a.effects.queue)
  where
    by : Option Numbered → Row
    by None = plain_row (Does (and_then a.effects (failure_effects BadResponse None)))
    by (Some n) =
        if fits_request psn p a.effects.queue n then answer_row psn p a.effects n
        else plain_row (Does (and_then a.effects (failure_effects BadResponse None)))

-- a response for a PSN that is outstanding
abbrev pub outstanding_row : ℕ → Fields → QueuePair → Row
outstanding_row psn p q =
    if p.opcode == ACKNOWLEDGE
    then plain_row (Does (acknowledge_row psn (option_and_then (λ a. syndrome_in a.syndrome) p.aeth) q))
    else fitting_row psn p (acknowledgement_below psn q)

-- a response that arrived: dropped in the wrong state, or where its PSN is not outstanding
abbrev pub response_row : Fields → QueuePair → Row
response_row p q =
    if not (is_among (states.Rts ∷ states.Sqd ∷ []) q.state) then plain_row (Does (drop_effects q drops.State))
    else if not (is_outstanding_at (response_psn q p) q) then plain_row (Does (drop_effects q drops.Stale))
    else outstanding_row (response_psn q p) p q

-- The requester's turn: what stands against it, and what it sends. Contracts cite it.
use Rattle.std.specs.Prelude.{ℕ, suc, ◌-◌, ◌*◌, ◌%◌, ◌^◌, ◌&&◌, ◌||◌, nat_lt, min, max, Bool, false, not, if◌then◌else◌, List, [], ◌∷◌, sum_by, Option, None, Some, is_some, is_none}
use Rattle.std.specs.List.{flat_map, list_any}
use Rattle.std.specs.Option.{option_map_or, option_or}
use Rattle.ca_keys.specs.declared.access.Ask.{Ask}
use Rattle.ca_keys.specs.declared.access.Kind.TheVariants as kinds
use Rattle.ca_base.specs.declared.change.State.TheVariants as states
use Rattle.ca_base.specs.declared.completion.WcStatus.TheVariants.{LocalProtection}
use Rattle.ca_base.specs.declared.limits.TheConstants.{MAX_OUTSTANDING_PACKETS, MAX_OUTSTANDING_PSNS}
use Rattle.ca_base.specs.declared.step.Reason.{Reason}
use Rattle.ca_base.specs.declared.step.Reason.TheVariants as reasons
use Rattle.ca_base.specs.declared.step.Sent.TheVariants.{Spelt}
use Rattle.ca_keys.specs.declared.verdict.Verdict.TheVariants as verdicts
use Rattle.ca_keys.specs.Refusals.{first_of}
use Rattle.ca_base.specs.declared.denied_ask.DeniedAsk.{DeniedAsk}
use Rattle.ca_base.specs.objects.QueuePair.{QueuePair}
use Rattle.ca_base.specs.objects.StateTable.{is_among, state_eq}
use Rattle.ca_wire.specs.Packet.{spelling}
use Rattle.ca_model.specs.declared.mark.Mark.{Mark}
use Rattle.ca_model.specs.declared.mark.Mark.TheVariants as marks
use Rattle.ca_model.specs.Requests.{carried_bytes, is_local, list_of, request_packet}
use Rattle.ca_model.specs.machine.Acknowledgements.{failure_effects, with_requester}
use Rattle.ca_model.specs.machine.Numbering.{Numbered, unfinished_requests, begun_requests, next_to_begin, psn_end, request_at, is_read, is_answered_op, list_asks}
use Rattle.ca_model.specs.machine.Row.{Effects, Row, plain_row, NotPossible, Does}

-- the next thing begins a request: nothing that has begun is left to send
abbrev pub begins : QueuePair → Bool
begins q = is_none (request_at q.requester.cursor q) && is_some (next_to_begin q)

-- the request of which the next thing is: one that goes on, or the one that begins
abbrev pub next_request : QueuePair → Option Numbered
next_request q = option_or (request_at q.requester.cursor q) (next_to_begin q)

-- a request that begins has to wait for earlier ones: a local operation for all, one with the fence for READs and atomics
abbrev pub is_fenced : QueuePair → Bool
is_fenced q = begins q && option_map_or waits (next_to_begin q) false
  where
    waits : Numbered → Bool
    waits n =
        (is_local n.request.op && nat_lt q.requester.oldest q.requester.next)
        || (n.request.fence && list_any (λ m. is_answered_op m.request.op) (begun_requests q))

-- why a requester's turn is not possible, in order, before it is known whether a packet would be too much
abbrev pub turn_refusals : QueuePair → List (Bool × Reason)
turn_refusals q =
    (not (is_among (states.Rts ∷ states.Sqd ∷ []) q.state) || (state_eq q.state states.Sqd && begins q), reasons.State)
    ∷ (q.requester.waiting, reasons.RnrWait)
    ∷ (is_none (next_request q), reasons.Empty)
    ∷ (is_fenced q, reasons.Fence)
    ∷ []

-- what a requester's turn would do: nothing, for a reason; perform a local operation; or send a packet of a request
pub data RequestTurn : Type 0 where
  Waits : Reason → RequestTurn
  Performs : Numbered → RequestTurn
  Sends : Numbered → RequestTurn

abbrev pub turn_of : QueuePair → RequestTurn
turn_of q = by (first_of (turn_refusals q)) (next_request q)
  where
    by : Option Reason → Option Numbered → RequestTurn
    by (Some reason) n = Waits reason
    by None None = Waits reasons.Empty
    by None (Some n) = if is_local n.request.op then Performs n else Sends n

-- which packet of its request is sent: of a READ that goes on, the request for the rest from there
abbrev pub index_of_packet : QueuePair → Numbered → ℕ
index_of_packet q n = q.requester.cursor - n.first

-- the PSN behind the packet: a READ Request takes those of all its responses
abbrev pub end_of_packet : QueuePair → Numbered → ℕ
end_of_packet q n = if is_read n.request.op then psn_end n else suc q.requester.cursor

-- how many PSNs of a request lie from one PSN on and below another
abbrev pub psns_between : ℕ → ℕ → Numbered → ℕ
psns_between from upto n = min upto (psn_end n) - max from n.first

-- how many request packets of a request are outstanding there; a READ counts once
abbrev pub packets_between : ℕ → ℕ → Numbered → ℕ
packets_between from upto n =
    if is_read n.request.op then min 1 (psns_between from upto n) else psns_between from upto n

-- READs and atomics count once
abbrev pub answers_between : ℕ → ℕ → Numbered → ℕ
answers_between from upto n = if is_answered_op n.request.op then min 1 (psns_between from upto n) else 0

-- with the packet too much would be outstanding: PSNs, request packets, or READs and atomics
abbrev pub is_too_much : QueuePair → Numbered → Bool
is_too_much q n =
    nat_lt MAX_OUTSTANDING_PSNS (upto - una)
    || nat_lt MAX_OUTSTANDING_PACKETS (sum_by (packets_between una upto) (unfinished_requests q))
    || nat_lt q.requester.reads (sum_by (answers_between una upto) (unfinished_requests q))
  where
    una : ℕ
    una = q.requester.una

    upto : ℕ
    upto = end_of_packet q n

-- something is outstanding
abbrev pub is_outstanding : QueuePair → Bool
is_outstanding q = nat_lt q.requester.una q.requester.cursor

-- the asks of a packet: the bytes that it carries of the request's list
abbrev pub packet_asks : QueuePair → Numbered → List Ask
packet_asks q n =
    list_asks q.queue q.domain kinds.Read (index_of_packet q n * q.responder.mtu) (carried_bytes q.responder.mtu n.request.op (index_of_packet q n))
    (list_of n.request.op)

-- a mark for each piece that was read
abbrev pub local_reads : List Ask → List (List ℕ) → List Mark
local_reads (ask ∷ asks) (bytes ∷ rest) =
    marks.Local ask.queue ask.domain ask.key ask.kind ask.address ask.length (verdicts.Read bytes) ∷ local_reads asks rest
local_reads asks rest = []

-- the one mark of a piece that was denied
abbrev pub local_denial : DeniedAsk → Mark
local_denial d =
    marks.Local d.ask.queue d.ask.domain d.ask.key d.ask.kind d.ask.address d.ask.length (verdicts.Denied d.denial)

-- the number of the peer
abbrev pub peer_number : QueuePair → ℕ
peer_number q = option_map_or (λ p. p.queue.number) q.peer 0

-- the 24 bits of a whole number of a packet
abbrev pub psn_bits : ℕ → ℕ
psn_bits psn = psn % 2 ^ 24

-- the bytes that spell a packet of a request
abbrev pub spelt_packet : QueuePair → Numbered → List ℕ → List ℕ
spelt_packet q n payload =
    option_map_or spelling
    (request_packet q.responder.mtu n.request (index_of_packet q n) (peer_number q) (psn_bits q.requester.cursor) payload) []

-- a packet is sent
abbrev pub sent_packet : QueuePair → Numbered → List (List ℕ) → Effects
sent_packet q n bytes = record {
  queue = with_requester (record q.requester {
    cursor = end_of_packet q n;
    next = if begins q then suc q.requester.next else q.requester.next;
  }) q;
  takes_shared = false;
  marks = local_reads (packet_asks q n) bytes;
  sent = Spelt (Some n.place);
  spelt = spelt_packet q n (flat_map (λ b. b) bytes);
  writes = [];
}

-- a denied list with nothing outstanding: the request fails
abbrev pub denied_list_effects : QueuePair → DeniedAsk → Effects
denied_list_effects q d = record (failure_effects LocalProtection None q) { marks = local_denial d ∷ (failure_effects LocalProtection None q).marks }

-- a packet: too much outstanding, no room at the peer, a denied list, or it is sent
abbrev pub packet_row : QueuePair → Bool → Numbered → Row
packet_row q room n = if is_too_much q n then plain_row (NotPossible reasons.Outstanding) else record {
  asks = packet_asks q n;
  invalidation = None;
  denied = λ d.
      if is_outstanding q then NotPossible reasons.Outstanding
      else if not room then NotPossible reasons.NoRoom
      else Does (denied_list_effects q d);
  allowed = λ bytes refusal. if not room then NotPossible reasons.NoRoom else Does (sent_packet q n bytes);
}

-- How a requester's turn ends: what it sends is a packet of its request, with what the turn read from the request's list.
-- For proofs only.
use Rattle.std.proofs.Common.{Bool, IfSome, List, None, Option, Some, [], ap, append-nil, append_assoc, ap₂, arith, eq-eqb, eqb-true, false, if◌then◌else◌, leb-false, leb-true, length, length-append, lt-ltb, map, min, nat_le, nat_lt, not, refl, slice_get, sum_by, sym, true, true≢false, ℕ, ◌%◌, ◌&&◌, ◌*◌, ◌++◌, ◌+◌, ◌-◌, ◌<◌, ◌==◌, ◌^◌, ◌∙◌, ◌∷◌, ◌≡◌, ◌≤◌}
use Rattle.std.proofs.lemmas.List.Sums.{sum_by-cons}
use Rattle.std.specs.List.{AllByRecursion, flat_map}
use Rattle.std.specs.Option.{option_map_or}
use Rattle.std.specs.Str.{bytes_eq}
use Rattle.ca_law_endings.proofs.LeadsLemmas.{leads-around, leads-queue}
use Rattle.ca_law_endings.proofs.PathLemmas.{marks-append}
use Rattle.ca_law_endings.specs.Runs.{Leads}
use Rattle.ca_law_carried.proofs.Accesses.EndLemmas.{RowSees, leads-seen}
use Rattle.ca_law_carried.proofs.Accesses.TurnLemmas.{told-mtu}
use Rattle.ca_law_keys.proofs.Keys.KeyTurnLemmas.{found}
use Rattle.ca_law_keys.proofs.Keys.KeyFrame.{IsUp}
use Rattle.ca_law_keys.proofs.Keys.SightLemmas.{grant-seen}
use Rattle.ca_law_keys.specs.Posts.{life}
use Rattle.ca_law_carried.proofs.Starts.NumberLemmas.{Linked}
use Rattle.ca_law_carried.proofs.Starts.PerformLemmas.{leads-local}
use Rattle.ca_law_carried.proofs.Starts.StartTurnLemmas.{posted_of, posts-at, start-at}
use Rattle.ca_law_carried.specs.Starts.{AgreeOnStart, HasBegun, psns_before, start_in}
use Rattle.ca_base.specs.Configuration.{Configuration}
use Rattle.ca_base.specs.Sight.{Sight, bytes_in, first_denied}
use Rattle.ca_base.specs.declared.completion.WcStatus.TheVariants.{LocalProtection, MemoryManagement}
use Rattle.ca_base.specs.declared.correspondent.Correspondent.{Correspondent}
use Rattle.ca_base.specs.declared.denied_ask.DeniedAsk.{DeniedAsk}
use Rattle.ca_base.specs.declared.limits.TheConstants.{MAX_PAYLOAD_BYTES}
use Rattle.ca_base.specs.declared.lot.Lot.{Lot}
use Rattle.ca_base.specs.declared.refusals.OpRefusal.{OpRefusal}
use Rattle.ca_base.specs.declared.request.Piece.{Piece}
use Rattle.ca_base.specs.declared.request.PostedSend.{PostedSend}
use Rattle.ca_base.specs.declared.request.SendOp.{SendOp}
use Rattle.ca_base.specs.declared.request.SendRequest.{SendRequest}
use Rattle.ca_base.specs.declared.step.Reason.{Reason}
use Rattle.ca_base.specs.objects.LocalRequest.{LocalMarks}
use Rattle.ca_base.specs.objects.Mailbox.{Mailbox}
use Rattle.ca_base.specs.objects.QueuePair.{QueuePair}
use Rattle.ca_law_carried.proofs.Carried.AnsweredLemmas.{AreUnsent, failing-unsent, unsent-append}
use Rattle.ca_law_carried.proofs.Carried.EndLemmas.{IsBare, bare-begin, bare-end, bare-marks, sent-end, sent_by}
use Rattle.ca_law_carried.proofs.Carried.FailingLemmas.{failure-failing, reads-failing}
use Rattle.ca_law_carried.proofs.Carried.NumberedLemmas.{WasPosted, IsSending, packet-index, posted-so, sends-turn}
use Rattle.ca_law_carried.proofs.Carried.RespondEndLemmas.{EndsSo, Ends, IsWhole, small-path, small-psn}
use Rattle.ca_law_carried.proofs.Carried.SpeltLemmas.{IsSpelt, shortened, spelt-again}
use Rattle.ca_law_keys.proofs.Judged.JudgeLemmas.{Sees, both-true, bytes-refl, none-denied, seen-bytes}
use Rattle.ca_law_keys.proofs.Judged.WholeLemmas.{agreed-whole, bytes-count, reached}
use Rattle.ca_keys.specs.Allowed.{denial_of}
use Rattle.ca_keys.specs.Memory.{ByteMap, runs_for}
use Rattle.ca_keys.specs.declared.access.Ask.{Ask}
use Rattle.ca_keys.specs.declared.grant.Grant.{Grant}
use Rattle.ca_keys.specs.declared.key.Key.{Key}
use Rattle.ca_keys.specs.declared.names.DomainId.{DomainId}
use Rattle.ca_keys.specs.declared.names.QueueId.{QueueId}
use Rattle.ca_law_world.proofs.Sound.WorldLemmas.{EndingDoes, IsThere, around_in, shared_of}
use Rattle.ca_law_world.proofs.Steady.TurnLemmas.{there-kept}
use Rattle.ca_model.specs.Carried.{are_carried, has_its_cause, is_carried_at_end, is_packet_of, packet_index}
use Rattle.ca_model.specs.Packets.{answers_read, packet_of}
use Rattle.ca_model.specs.Past.{Naming, Past, Posted, Start, after_mark, after_marks, at_begin, first_psn, mtu_of, posted_at, start_of, whole_start}
use Rattle.ca_model.specs.Requests.{carried_bytes, is_local, list_length, list_of, psns_of, request_packet, reth_behind, segment}
use Rattle.ca_model.specs.declared.event.Event.{Event}
use Rattle.ca_model.specs.declared.mark.Mark.{Mark}
use Rattle.ca_model.specs.machine.Acknowledgements.{failure_effects}
use Rattle.ca_model.specs.machine.Around.{With_around, updates_of}
use Rattle.ca_model.specs.machine.Completions.{success_marks}
use Rattle.ca_model.specs.machine.Invariants.{IsQueue}
use Rattle.ca_model.specs.machine.LocalOperations.{local_marks, operation_effects}
use Rattle.ca_model.specs.machine.Numbering.{Numbered, cut_list, piece_ask, piece_part}
use Rattle.ca_model.specs.machine.Plan.{Finish}
use Rattle.ca_model.specs.machine.Requester.{Performs, RequestTurn, Sends, Waits, denied_list_effects, index_of_packet, is_outstanding, is_too_much, local_reads, packet_asks, packet_row, peer_number, psn_bits, sent_packet, spelt_packet, turn_of}
use Rattle.ca_model.specs.machine.Row.{Does, Effects, NotPossible, Row, plain_row}
use Rattle.ca_model.specs.machine.Seen.{sight_in}
use Rattle.ca_model.specs.machine.Turns.{Leave_plan, Packet, Request_around, has_room_for, packet_sent, request_plan, sent_marks}
use Rattle.ca_model.specs.machine.World.{World}
use Rattle.ca_wire.specs.Packet.{Fields, spelling}
use Rattle.ca_wire.specs.Table.{row_of}
use Rattle.ca_wire.specs.declared.shape.Position.{Position}
use Rattle.ca_wire.specs.declared.shape.Position.TheVariants.{First, Last, Middle, Only}
use Rattle.ca_wire.proofs.BuilderLaws.{cmp_swap_fits, fetch_add_fits, read_request_fits, send_fits, write_fits}
use Rattle.ca_wire.specs.Builders.{cmp_swap, fetch_add, read_request, send_opcode, send_packet, write_opcode, write_packet}
use Rattle.ca_wire.specs.Segment.{position_of}
use Rattle.ca_wire.specs.declared.requests.SendKind.{SendKind}
use Rattle.ca_wire.specs.declared.requests.SendKind.TheVariants.{Plain, WithImmediate, WithInvalidate}
use Rattle.ca_model.specs.declared.event.Event.TheVariants as events
use Rattle.ca_keys.specs.declared.access.Kind.TheVariants as kinds
use Rattle.ca_model.specs.declared.mark.Mark.TheVariants as marks
use Rattle.ca_base.specs.declared.request.SendOp.TheVariants as ops
use Rattle.ca_base.specs.declared.step.Reason.TheVariants as reasons
use Rattle.ca_keys.specs.Spelling.{rights_text as rights}
use Rattle.ca_keys.specs.declared.verdict.Verdict.TheVariants as verdicts

-- ---- what is read from lists

-- how many bytes a part of a list has
cut-sum : (skip count : ℕ) (ps : List Piece) → sum_by (λ p. p.length) (cut_list skip count ps) ≡ min count (sum_by (λ p. p.length) ps - skip)
cut-sum skip count [] = omega arith
cut-sum skip count (p ∷ ps) = by (nat_le p.length skip) refl (count == 0) refl (cut-sum (skip - p.length) count ps) (cut-sum 0 (count - (p.length - skip)) ps)
  where
    whole : sum_by (λ (p : Piece). p.length) (p ∷ ps) ≡ p.length + sum_by (λ (p : Piece). p.length) ps
    whole = sum_by-cons (λ (p : Piece). p.length) p ps

    by : (b : Bool) → nat_le p.length skip ≡ b → (z : Bool) → (count == 0) ≡ z → sum_by (λ (p : Piece). p.length) (cut_list (skip - p.length) count ps) ≡ min count (sum_by (λ (p : Piece). p.length) ps - (skip - p.length))
        → sum_by (λ (p : Piece). p.length) (cut_list 0 (count - (p.length - skip)) ps) ≡ min (count - (p.length - skip)) (sum_by (λ (p : Piece). p.length) ps - 0)
        → sum_by (λ (p : Piece). p.length) (if b then cut_list (skip - p.length) count ps else if z then [] else piece_part p skip (min count (p.length - skip)) ∷ cut_list 0 (count - (p.length - skip)) ps)
        ≡ min count (sum_by (λ (p : Piece). p.length) (p ∷ ps) - skip)
    by true e z f rest others = omega (arith, rest, whole, leb-true p.length skip e)
    by false e true f rest others = omega (arith, eqb-true count 0 f)
    by false e false f rest others = omega (arith, others, whole, leb-false p.length skip e, sum_by-cons (λ (p : Piece). p.length) (piece_part p skip (min count (p.length - skip))) (cut_list 0 (count - (p.length - skip)) ps))

-- a packet carries no more of a list than is left of it
carried-left : (mtu : ℕ) (op : SendOp) (index : ℕ) → min (carried_bytes mtu op index) (list_length (list_of op) - index * mtu) ≡ carried_bytes mtu op index
carried-left mtu op index = by op
  where
    within : (m x : ℕ) → min (min m x) x ≡ min m x
    within m x = omega arith

    none : (x : ℕ) → min 0 x ≡ 0
    none x = omega arith

    by : (op : SendOp) → min (carried_bytes mtu op index) (list_length (list_of op) - index * mtu) ≡ carried_bytes mtu op index
    by (ops.Send list) = within mtu (list_length list.items - index * mtu)
    by (ops.SendImm imm list) = within mtu (list_length list.items - index * mtu)
    by (ops.SendInv key list) = within mtu (list_length list.items - index * mtu)
    by (ops.Write address key list) = within mtu (list_length list.items - index * mtu)
    by (ops.WriteImm address key imm list) = within mtu (list_length list.items - index * mtu)
    by (ops.Read address key list) = none (list_length list.items - index * mtu)
    by (ops.CmpSwap address key compare swap list) = none (list_length list.items - index * mtu)
    by (ops.FetchAdd address key add list) = none (list_length list.items - index * mtu)
    by (ops.Bind1 window region address count rights) = within mtu (0 - index * mtu)
    by (ops.Bind2 window region low address count rights) = within mtu (0 - index * mtu)
    by (ops.FastReg region low buffer address count rights pages) = within mtu (0 - index * mtu)
    by (ops.LocalInv key) = within mtu (0 - index * mtu)

-- a packet carries at most the path MTU
carried-few : (mtu : ℕ) (op : SendOp) (index : ℕ) → carried_bytes mtu op index ≤ mtu
carried-few mtu op index = by op
  where
    within : (m x : ℕ) → min m x ≤ m
    within m x = omega arith

    by : (op : SendOp) → carried_bytes mtu op index ≤ mtu
    by (ops.Send list) = within mtu (list_length list.items - index * mtu)
    by (ops.SendImm imm list) = within mtu (list_length list.items - index * mtu)
    by (ops.SendInv key list) = within mtu (list_length list.items - index * mtu)
    by (ops.Write address key list) = within mtu (list_length list.items - index * mtu)
    by (ops.WriteImm address key imm list) = within mtu (list_length list.items - index * mtu)
    by (ops.Read address key list) = omega arith
    by (ops.CmpSwap address key compare swap list) = omega arith
    by (ops.FetchAdd address key add list) = omega arith
    by (ops.Bind1 window region address count rights) = within mtu (0 - index * mtu)
    by (ops.Bind2 window region low address count rights) = within mtu (0 - index * mtu)
    by (ops.FastReg region low buffer address count rights pages) = within mtu (0 - index * mtu)
    by (ops.LocalInv key) = within mtu (0 - index * mtu)

-- the bytes that asks see, one behind the other
abbrev pub all_seen : Sight → List Ask → List ℕ
all_seen s asks = flat_map (λ b. b) (map (bytes_in s) asks)

-- pieces that are allowed are seen whole
seen-whole : (s : Sight) (g : List Grant) (m : ByteMap) (queue : QueueId) (domain : DomainId) (ps : List Piece) → Sees s g m → AllByRecursion (λ a. denial_of a g ≡ None) (map (piece_ask queue domain kinds.Read) ps)
    → length (all_seen s (map (piece_ask queue domain kinds.Read) ps)) ≡ sum_by (λ p. p.length) ps
seen-whole s g m queue domain [] sees all = refl
seen-whole s g m queue domain (p ∷ ps) sees all = omega (
  arith,
  length-append (bytes_in s ask) (all_seen s (map (piece_ask queue domain kinds.Read) ps)),
  seen-whole s g m queue domain ps sees all.1,
  sum_by-cons (λ (p : Piece). p.length) p ps,
  ap length (seen-bytes s g m ask sees) ∙ bytes-count m (runs_for ask g p.length) ∙ reached g ask p.length sees.whole all.0 (omega arith),
)
  where
    ask : Ask
    ask = piece_ask queue domain kinds.Read p

-- what local reads leave
pub record IsRead (p r : Past) (bytes : List ℕ) : Type 0 where
  pub incarnation : r.incarnation ≡ p.incarnation
  pub naming : r.naming ≡ p.naming
  pub starts : r.starts ≡ p.starts
  pub posted : r.posted ≡ p.posted
  pub read : r.at_hand.read_locally ≡ p.at_hand.read_locally ++ bytes

reads-leave : (s : Sight) (asks : List Ask) (p : Past) → IsRead p (after_marks (local_reads asks (map (bytes_in s) asks)) p) (all_seen s asks)
reads-leave s [] p = record { incarnation = refl; naming = refl; starts = refl; posted = refl; read = sym (append-nil p.at_hand.read_locally) }
reads-leave s (ask ∷ asks) p = behind (reads-leave s asks q)
  where
    q : Past
    q = after_mark (marks.Local ask.queue ask.domain ask.key ask.kind ask.address ask.length (verdicts.Read (bytes_in s ask))) p

    behind : IsRead q (after_marks (local_reads asks (map (bytes_in s) asks)) q) (all_seen s asks) → IsRead p (after_marks (local_reads asks (map (bytes_in s) asks)) q) (all_seen s (ask ∷ asks))
    behind rest = record {
      incarnation = rest.incarnation;
      naming = rest.naming;
      starts = rest.starts;
      posted = rest.posted;
      read = rest.read ∙ append_assoc p.at_hand.read_locally (bytes_in s ask) (all_seen s asks);
    }

-- ---- packets of requests

-- a packet that can be spelt, at this PSN, which is no READ response
pub record IsRequestPacket (psn : ℕ) (o : Option Fields) : Type 0 where
  pub fields : Fields
  pub is : o ≡ Some fields
  pub spelt : IsSpelt fields
  pub none : answers_read fields.opcode ≡ false
  pub place : fields.psn ≡ psn

send-no : (kind : SendKind) (p : Position) → answers_read (send_opcode kind p) ≡ false
unfolding row_of
send-no kind First = refl
send-no kind Middle = refl
send-no Plain Last = refl
send-no Plain Only = refl
send-no (WithImmediate imm) Last = refl
send-no (WithImmediate imm) Only = refl
send-no (WithInvalidate key) Last = refl
send-no (WithInvalidate key) Only = refl

write-no : (imm : Option ℕ) (p : Position) → answers_read (write_opcode imm p) ≡ false
unfolding row_of
write-no imm First = refl
write-no imm Middle = refl
write-no None Last = refl
write-no None Only = refl
write-no (Some imm) Last = refl
write-no (Some imm) Only = refl

read-no : answers_read (read_request (record { address = 0; key = record { 0 = 0 }; length = 0 }) 0 0).opcode ≡ false
unfolding row_of
read-no = refl

swap-no : answers_read (cmp_swap (record { address = 0; key = record { 0 = 0 }; swap = 0; compare = 0 }) 0 0).opcode ≡ false
unfolding row_of
swap-no = refl

add-no : answers_read (fetch_add 0 (record { 0 = 0 }) 0 0 0).opcode ≡ false
unfolding row_of
add-no = refl

request-spelt : (mtu : ℕ) (request : SendRequest) (index queue psn : ℕ) (payload : List ℕ) → is_local request.op ≡ false → queue < 2 ^ 24 → psn < 2 ^ 24 → length payload ≤ MAX_PAYLOAD_BYTES
    → IsRequestPacket psn (request_packet mtu request index queue psn payload)
request-spelt mtu request index queue psn payload packet small place few = of request.op packet
  where
    send : SendKind → ℕ → Option Fields
    send kind count = Some (send_packet kind (segment mtu count index) request.solicited queue psn payload)

    write : ℕ → Key → Option ℕ → ℕ → Option Fields
    write address key imm count = Some (write_packet (segment mtu count index) (record { address = address; key = key; length = count }) imm request.solicited queue psn payload)

    by : SendOp → Option Fields
    by (ops.Send list) = send Plain (list_length list.items)
    by (ops.SendImm imm list) = send (WithImmediate imm) (list_length list.items)
    by (ops.SendInv key list) = send (WithInvalidate key) (list_length list.items)
    by (ops.Write address key list) = write address key None (list_length list.items)
    by (ops.WriteImm address key imm list) = write address key (Some imm) (list_length list.items)
    by (ops.Read address key list) = Some (read_request (reth_behind (index * mtu) address key (list_length list.items)) queue psn)
    by (ops.CmpSwap address key compare swap list) = Some (cmp_swap (record { address = address; key = key; swap = swap; compare = compare }) queue psn)
    by (ops.FetchAdd address key add list) = Some (fetch_add address key add queue psn)
    by op = None

    sends : (kind : SendKind) (count : ℕ) → IsRequestPacket psn (send kind count)
    sends kind count = record {
      fields = send_packet kind (segment mtu count index) request.solicited queue psn payload;
      is = refl;
      spelt = record { well = send_fits kind (segment mtu count index) request.solicited queue psn payload small place few; pkey = omega arith; syndrome = record {} };
      none = send-no kind (position_of (segment mtu count index));
      place = refl;
    }

    writes : (address : ℕ) (key : Key) (imm : Option ℕ) (count : ℕ) → IsRequestPacket psn (write address key imm count)
    writes address key imm count = record {
      fields = write_packet (segment mtu count index) (record { address = address; key = key; length = count }) imm request.solicited queue psn payload;
      is = refl;
      spelt = record {
        well = write_fits (segment mtu count index) (record { address = address; key = key; length = count }) imm request.solicited queue psn payload small place few;
        pkey = omega arith;
        syndrome = record {};
      };
      none = write-no imm (position_of (segment mtu count index));
      place = refl;
    }

    of : (op : SendOp) → is_local op ≡ false → IsRequestPacket psn (by op)
    of (ops.Send list) packet = sends Plain (list_length list.items)
    of (ops.SendImm imm list) packet = sends (WithImmediate imm) (list_length list.items)
    of (ops.SendInv key list) packet = sends (WithInvalidate key) (list_length list.items)
    of (ops.Write address key list) packet = writes address key None (list_length list.items)
    of (ops.WriteImm address key imm list) packet = writes address key (Some imm) (list_length list.items)
    of (ops.Read address key list) packet = record {
      fields = read_request (reth_behind (index * mtu) address key (list_length list.items)) queue psn;
      is = refl;
      spelt = record { well = read_request_fits (reth_behind (index * mtu) address key (list_length list.items)) queue psn small place; pkey = omega arith; syndrome = record {} };
      none = read-no;
      place = refl;
    }
    of (ops.CmpSwap address key compare swap list) packet = record {
      fields = cmp_swap (record { address = address; key = key; swap = swap; compare = compare }) queue psn;
      is = refl;
      spelt = record { well = cmp_swap_fits (record { address = address; key = key; swap = swap; compare = compare }) queue psn small place; pkey = omega arith; syndrome = record {} };
      none = swap-no;
      place = refl;
    }
    of (ops.FetchAdd address key add list) packet = record {
      fields = fetch_add address key add queue psn;
      is = refl;
      spelt = record { well = fetch_add_fits address key add queue psn small place; pkey = omega arith; syndrome = record {} };
      none = add-no;
      place = refl;
    }
    of (ops.Bind1 window region address count rights) packet = absurd (true≢false packet)
    of (ops.Bind2 window region low address count rights) packet = absurd (true≢false packet)
    of (ops.FastReg region low buffer address count rights pages) packet = absurd (true≢false packet)
    of (ops.LocalInv key) packet = absurd (true≢false packet)

-- ---- a packet that is sent

-- the packet of a request, by what the relation asks of it
abbrev is_such : ℕ → SendRequest → ℕ → ℕ → ℕ → List ℕ → List ℕ → Bool
is_such mtu request index number psn payload bytes =
    nat_lt index (psns_of mtu request.op) && (length payload == carried_bytes mtu request.op index)
    && option_map_or (λ f. bytes_eq bytes (spelling f)) (request_packet mtu request index number psn payload) false

module _ (past : Past) (event : Event) (s : Sight) (lot : Lot) (q : QueuePair) (peer : Correspondent) (m : Mailbox) (n : Numbered) (names : q.peer ≡ Some peer) (sound : IsQueue q) (sends : IsSending q n)
    (mtu : mtu_of past q.queue ≡ q.responder.mtu) (whole : length (all_seen s (packet_asks q n)) ≡ carried_bytes q.responder.mtu n.request.op (index_of_packet q n)) where
  abbrev pub payload : List ℕ
  payload = all_seen s (packet_asks q n)

  abbrev pub told : List Mark
  told = local_reads (packet_asks q n) (map (bytes_in s) (packet_asks q n))

  abbrev pub r : Past
  r = after_marks told (at_begin event past)

  abbrev pub x : Packet
  x = record { request = Some n.place; bytes = spelt_packet q n payload }

  left : IsRead (at_begin event past) r payload
  left = reads-leave s (packet_asks q n) (at_begin event past)

  unsent : AreUnsent told
  unsent = failing-unsent told (reads-failing (packet_asks q n) (map (bytes_in s) (packet_asks q n)))

  bare : IsBare event r
  bare = bare-marks told unsent event (at_begin event past) (bare-begin event past)

  number : peer_number q ≡ peer.queue.number
  number = ap (λ o. option_map_or (λ (p : Correspondent). p.queue.number) o 0) names

  small : peer_number q < 2 ^ 24
  small = by q.peer sound.peer
    where
      by : (o : Option Correspondent) → IfSome o (λ p. p.queue.number < 2 ^ 24) → option_map_or (λ p. p.queue.number) o 0 < 2 ^ 24
      by None none = omega arith
      by (Some p) few = few

  spelt : IsRequestPacket (psn_bits q.requester.cursor) (request_packet q.responder.mtu n.request (index_of_packet q n) (peer_number q) (psn_bits q.requester.cursor) payload)
  spelt = request-spelt q.responder.mtu n.request (index_of_packet q n) (peer_number q) (psn_bits q.requester.cursor) payload sends.packet small (small-psn q.requester.cursor)
      (omega (arith, whole, carried-few q.responder.mtu n.request.op (index_of_packet q n), small-path q.responder.mtu sound.responder.mtu))

  bytes : spelt_packet q n payload ≡ spelling spelt.fields
  bytes = ap (λ o. option_map_or spelling o []) spelt.is

  again : packet_of x.bytes ≡ Some (shortened spelt.fields)
  again = ap packet_of bytes ∙ spelt-again spelt.fields spelt.spelt

  such : (start : Start) → WasPosted (posted_of past q.queue) (whole_start start) q n → start_of past q.queue ≡ Some start → has_its_cause r (sent_by q peer x) ≡ true
  such start posted is = (λ i. caused (again i) (starts i) (places i))
      ∙ (λ i. is_such (size i) (request i) (index i) (sym number i) (spelt.place i) (left.read i) x.bytes)
      ∙ both-true _ _ (both-true _ _ (lt-ltb (index_of_packet q n) (psns_of q.responder.mtu n.request.op) (omega (arith, sends.low, sends.high, posted.count)))
      (eq-eqb (length payload) (carried_bytes q.responder.mtu n.request.op (index_of_packet q n)) whole))
      (ap (λ o. option_map_or (λ f. bytes_eq x.bytes (spelling f)) o false) spelt.is ∙ ap (λ b. bytes_eq b (spelling spelt.fields)) bytes ∙ bytes-refl (spelling spelt.fields))
    where
      caused : Option Fields → Option Start → Option Posted → Bool
      caused (Some p) (Some start) (Some posted) = is_packet_of r (sent_by q peer x) posted p.psn (packet_index r q.queue n.place start p.psn)
      caused p start posted = false

      starts : start_of r q.queue ≡ Some start
      starts = (λ i. start_in (left.starts i) (life q.queue (left.incarnation i q.queue))) ∙ is

      places : posted_at r q.queue n.place ≡ Some posted.at.posted
      places = (λ i. slice_get (left.posted i (life q.queue (left.incarnation i q.queue))) n.place) ∙ posted.at.is

      size : mtu_of r q.queue ≡ q.responder.mtu
      size = ap (λ f. option_map_or (λ (n : Naming). n.mtu) (f q.queue) 0) left.naming ∙ mtu

      request : posted.at.posted.request ≡ n.request
      request = ap (λ (y : PostedSend). y.request) posted.at.same

      firsts : first_psn r q.queue start n.place ≡ n.first
      firsts = (λ i. whole_start start + psns_before (size i) (left.posted i (life q.queue (left.incarnation i q.queue))) n.place) ∙ sym posted.first

      index : packet_index r q.queue n.place start spelt.fields.psn ≡ index_of_packet q n
      index = (λ i. (spelt.place i + 2 ^ 24 - firsts i % 2 ^ 24) % 2 ^ 24) ∙ packet-index n.first q.requester.cursor n.count sends.low sends.high posted.few

  begun : (o : Option Start) → start_of past q.queue ≡ o → HasBegun o (posted_of past q.queue) q → Linked (posted_of past q.queue) q.sends → has_its_cause r (sent_by q peer x) ≡ true
  begun None is stands linked = absurd stands
  begun (Some start) is stands linked = such start (posted-so (posted_of past q.queue) (whole_start start) q n sound linked stands sends) is

  pub sent-ends : HasBegun (start_of past q.queue) (posted_of past q.queue) q → Linked (posted_of past q.queue) q.sends → Ends past event (told ++ sent_marks q peer m lot x)
  sent-ends stands linked asked = ap is_carried_at_end (marks-append told (sent_marks q peer m lot x) (at_begin event past))
      ∙ sent-end q peer m lot x r bare.pathless bare.sent (begun (start_of past q.queue) refl stands linked)
      (ap₂ (λ rs b. are_carried rs (if b then sent_by q peer x ∷ [] else [])) bare.reads (ap (λ o. option_map_or (λ (p : Fields). answers_read p.opcode) o false) again ∙ spelt.none))

-- ---- a requester's turn

-- marks that send nothing and read nothing remotely
pub unsent-ends : (past : Past) (event : Event) (ms : List Mark) → AreUnsent ms → Ends past event ms
unsent-ends past event ms unsent asked = bare-end event (after_marks ms (at_begin event past)) (bare-marks ms unsent event (at_begin event past) (bare-begin event past))

operation-unsent : (q after : QueuePair) (n : Numbered) (m : LocalMarks) (refusal : Option OpRefusal) → AreUnsent (operation_effects q n after m refusal).marks
operation-unsent q after n m (Some cause) = failing-unsent (failure_effects MemoryManagement (Some cause) q).marks (failure-failing MemoryManagement (Some cause) q refl)
operation-unsent q after n m None = unsent-append (local_marks q m) (success_marks q.queue n.place n.request) (locals m.revoked m.granted) (success n.request.signalled)
  where
    locals : (k : Option Key) (g : Option Grant) → AreUnsent (option_map_or (λ key. marks.Revoked q.queue.adapter key ∷ []) k [] ++ option_map_or (λ g. marks.Granted g ∷ []) g [])
    locals None None = record {}
    locals None (Some g) = (record {}, record {})
    locals (Some k) None = (record {}, record {})
    locals (Some k) (Some g) = (record {}, (record {}, record {}))

    success : (b : Bool) → AreUnsent (if b then success_marks q.queue n.place (record n.request { signalled = true }) else [])
    success true = (record {}, record {})
    success false = record {}

-- what is seen of keys and memory
sees : (c : Configuration) (past : Past) (w : World) → IsUp c past w → Sees (sight_in c w) past.grants past.memory
sees c past w up = record {
  grant = λ ask. grant-seen c w past.grants ask up.sound up.placed up.agree.keys;
  byte = up.agree.bytes;
  whole = agreed-whole c w past.grants up.sound up.bound up.agree.keys;
}

-- what effects of a turn tell
abbrev pub TellsWhole : Past → Event → QueuePair → Correspondent → Mailbox → Lot → Effects → Type 0
TellsWhole past event q peer m lot e = Ends past event (e.marks ++ option_map_or (sent_marks q peer m lot) (packet_sent e) [])

packet-ends : (c : Configuration) (past : Past) (event : Event) (w : World) (q : QueuePair) (peer : Correspondent) (m : Mailbox) (lot : Lot) (room : Bool) (n : Numbered) → IsWhole c past w → IsThere w q → q.peer ≡ Some peer → turn_of q ≡ Sends n
    → RowSees (sight_in c w) (TellsWhole past event q peer m lot) (packet_row q room n)
packet-ends c past event w q peer m lot room n whole there names turn = by (is_too_much q n)
  where
    s : Sight
    s = sight_in c w

    row : Row
    row = record {
      asks = packet_asks q n;
      invalidation = None;
      denied = λ d. if is_outstanding q then NotPossible reasons.Outstanding else if not room then NotPossible reasons.NoRoom else Does (denied_list_effects q d);
      allowed = λ bytes refusal. if not room then NotPossible reasons.NoRoom else Does (sent_packet q n bytes);
    }

    E : Effects → Type 0
    E = TellsWhole past event q peer m lot

    sending : IsSending q n
    sending = sends-turn q n there.sound (there-kept w q whole.ready.steady there).is turn

    skip : ℕ
    skip = index_of_packet q n * q.responder.mtu

    count : ℕ
    count = carried_bytes q.responder.mtu n.request.op (index_of_packet q n)

    read : first_denied s (packet_asks q n) ≡ None → length (all_seen s (packet_asks q n)) ≡ count
    read is = seen-whole s past.grants past.memory q.queue q.domain (cut_list skip count (list_of n.request.op)) (sees c past w whole.up)
        (none-denied s past.grants past.memory (packet_asks q n) (sees c past w whole.up) is)
        ∙ cut-sum skip count (list_of n.request.op) ∙ carried-left q.responder.mtu n.request.op (index_of_packet q n)

    start : AgreeOnStart (start_of past q.queue) (posted_of past q.queue) q
    start = start-at past w q whole.starts there.present

    sent : first_denied s (packet_asks q n) ≡ None → E (sent_packet q n (map (bytes_in s) (packet_asks q n)))
    sent is = sent-ends past event s lot q peer m n names there.sound sending (told-mtu past w q peer whole.ready.paths whole.accesses there.present names) (read is) (start.begun sending.sending)
        (posts-at past w q whole.ready.posts there.present).items

    failed : (d : DeniedAsk) → E (denied_list_effects q d)
    failed d = unsent-ends past event ((denied_list_effects q d).marks ++ []) (unsent-append (denied_list_effects q d).marks [] (record {}, failing-unsent (failure_effects LocalProtection None q).marks (failure-failing LocalProtection None q refl)) (record {}))

    possible : (b : Bool) (reason : Reason) (e : Effects) → E e → EndingDoes E (if b then NotPossible reason else Does e)
    possible true reason e does = record {}
    possible false reason e does = does

    denials : (b z : Bool) (d : DeniedAsk) → EndingDoes E (if b then NotPossible reasons.Outstanding else if z then NotPossible reasons.NoRoom else Does (denied_list_effects q d))
    denials true z d = record {}
    denials false z d = possible z reasons.NoRoom (denied_list_effects q d) (failed d)

    by : (b : Bool) → RowSees s E (if b then plain_row (NotPossible reasons.Outstanding) else row)
    by true = record { denied = λ d is. record {}; allowed = λ is refusal. record {} }
    by false = record {
      denied = λ d is. denials (is_outstanding q) (not room) d;
      allowed = λ is refusal. possible (not room) reasons.NoRoom (sent_packet q n (map (bytes_in s) (packet_asks q n))) (sent is);
    }

pub ends-request : (c : Configuration) (past : Past) (w : World) (name : QueueId) (lot : Lot) → IsWhole c past w → Leads w (EndsSo past (events.Request name lot)) (request_plan c name lot)
ends-request c past w name lot whole = leads-queue c w P name reasons.State (λ q. With_around q (λ a. Request_around c lot q a q.peer (turn_of q)))
    (λ q is. leads-around w P q (λ a. Request_around c lot q a q.peer (turn_of q)) (by q (found c w name q whole.ready.sound is) q.peer refl (turn_of q) refl))
  where
    event : Event
    event = events.Request name lot

    P : World → List Mark → Type 0
    P = EndsSo past event

    by : (q : QueuePair) → IsThere w q → (peer : Option Correspondent) → q.peer ≡ peer → (turn : RequestTurn) → turn_of q ≡ turn → Leads w P (Request_around c lot q (around_in w q (shared_of w q)) peer turn)
    by q there peer names (Waits reason) is = record {}
    by q there peer names (Performs n) is = leads-local c w P (λ e. AreUnsent e.marks) q n (λ e changes writes. Finish (updates_of q (around_in w q (shared_of w q)) e ++ changes) writes e.marks) n.request.op
        (λ after m refusal alike. operation-unsent q after n m refusal) (record {}) (λ e cs ws unsent aside. unsent-ends past event e.marks unsent)
    by q there None names (Sends n) is = record {}
    by q there (Some peer) names (Sends n) is = leads-seen c w P (TellsWhole past event q peer (w.mailbox peer.queue) lot) (packet_row q (has_room_for q peer (w.mailbox peer.queue)) n)
        (Leave_plan q (around_in w q (shared_of w q)) peer (w.mailbox peer.queue) lot) whole.ended
        (packet-ends c past event w q peer (w.mailbox peer.queue) lot (has_room_for q peer (w.mailbox peer.queue)) n whole there names is) (λ e cs ws told safe. told)

-- What the rows of requests that arrive leave of the message in progress; a SEND packet puts its bytes into the list of its
-- receive. For proofs only.
use Rattle.std.proofs.Common.{Bool, List, None, Option, Some, [], ap, append_assoc, arith, false, if◌then◌else◌, is_none, is_some, length, length-append, length-drop, length-take, map, min, nat_le, nat_lt, not, option_map, refl, sym, take, drop, true, true≢false, ℕ, ◌&&◌, ◌||◌, ◌++◌, ◌+◌, ◌-◌, ◌==◌, ◌≤◌, ◌<◌, ◌∙◌, ◌∷◌, ◌≡◌, Result, Ok, Err}
use Rattle.std.proofs.lemmas.Bool.{not-false, or_parts}
use Rattle.std.proofs.lemmas.Bool.Decides.{nat_tests}
use Rattle.std.proofs.lemmas.List.Sums.{sum_by-cons}
use Rattle.ca_base.specs.declared.request.Piece.{Piece}
use Rattle.ca_base.specs.objects.SharedReceives.{SharedReceives}
use Rattle.ca_base.specs.objects.StateTable.{is_path_mtu}
use Rattle.ca_base.specs.objects.QueuePair.{receive_in_use}
use Rattle.ca_keys.specs.Refusals.{first_of}
use Rattle.ca_keys.specs.declared.access.Kind.{Kind}
use Rattle.ca_keys.specs.declared.access.Kind.TheVariants as kinds
use Rattle.ca_keys.specs.declared.names.DomainId.{DomainId}
use Rattle.ca_keys.specs.declared.names.QueueId.{QueueId}
use Rattle.ca_law_world.proofs.Sound.ExpectedLemmas.{valid-goes}
use Rattle.ca_model.specs.Packets.{begins_send, is_response, is_send, is_send_at}
use Rattle.ca_model.specs.declared.write_reach.WriteReach.{WriteReach}
use Rattle.ca_model.specs.machine.Arrivals.{next_receive}
use Rattle.ca_model.specs.machine.Delivery.{arrival_drops, arrival_row, packet_arrived}
use Rattle.ca_model.specs.machine.Duplicates.{request_row}
use Rattle.ca_model.specs.machine.Expected.{atomic_row, continues, fits_payload, fits_position, fits_write, has_no_place, is_invalid, is_misaligned, message_left, read_queued, takes_receive, write_reach, write_row}
use Rattle.ca_model.specs.machine.Invariants.{IsQueue}
use Rattle.ca_model.specs.machine.Numbering.{cut_list, list_asks, piece_ask, piece_part}
use Rattle.ca_model.specs.machine.Row.{Ending}
use Rattle.ca_wire.specs.Decoding.{packet_in}
use Rattle.ca_wire.specs.Packet.{Fields}
use Rattle.ca_wire.specs.Shapes.{begins}
use Rattle.ca_wire.specs.Table.{operation_of, request_shape, shape_of}
use Rattle.ca_wire.specs.declared.shape.Operation.{Operation}
use Rattle.ca_wire.specs.declared.shape.Operation.TheVariants.{Acknowledge, AtomicAcknowledge, ReadResponse, Request}
use Rattle.std.proofs.lemmas.Option.{same_Some}
use Rattle.ca_base.specs.declared.limits.TheConstants.{MAX_MESSAGE_BYTES}
use Rattle.ca_wire.specs.declared.atomic_eth.AtomicEth.{AtomicEth}
use Rattle.ca_wire.specs.declared.shape.Position.TheVariants.{First, Middle, Last, Only}
use Rattle.ca_wire.specs.declared.wire_error.WireError.{WireError}
use Rattle.ca_psn.specs.Psn.{widened}
use Rattle.std.specs.Result.{result_ok}
use Rattle.std.specs.Option.{option_map_or}
use Rattle.ca_base.specs.Sight.{Invalidation}
use Rattle.ca_base.specs.declared.completion.WcStatus.TheVariants.{LocalLength, LocalProtection, MemoryManagement, Success}
use Rattle.ca_base.specs.declared.limits.TheConstants.{MAX_DUPLICATES}
use Rattle.ca_base.specs.declared.queue_numbers.Message.{Message}
use Rattle.ca_base.specs.declared.refusals.OpRefusal.{OpRefusal}
use Rattle.ca_base.specs.declared.request.PlacedReceive.{PlacedReceive}
use Rattle.ca_base.specs.objects.Answers.{duplicate_count}
use Rattle.ca_base.specs.objects.QueuePair.{QueuePair}
use Rattle.ca_base.specs.objects.Saved.{saved_at}
use Rattle.ca_keys.specs.declared.access.Ask.{Ask}
use Rattle.ca_keys.specs.declared.key.Key.{Key}
use Rattle.ca_law_world.proofs.Sound.WorldLemmas.{EndingDoes, RowDoes}
use Rattle.ca_model.specs.Requests.{list_length, segments}
use Rattle.ca_model.specs.declared.mark.Drop1.{Drop1}
use Rattle.ca_model.specs.declared.mark.Mark.{Mark}
use Rattle.ca_model.specs.declared.receiving.Receiving.{Receiving}
use Rattle.ca_model.specs.machine.Arrivals.{refusal_effects, with_answer, with_flag, with_message, with_receive_taken}
use Rattle.ca_model.specs.machine.Completions.{receive_mark}
use Rattle.ca_model.specs.machine.Duplicates.{ack_again, ahead_effects, answer_again, atomic_again, duplicate_effects, read_again}
use Rattle.ca_model.specs.machine.Expected.{after_send_packet, behind_marks, invalidation_of, queue_after_packet, receive_asks, receive_failure_effects, receiving_of, revoked_marks, send_row, valid_row, with_shared_receive, with_window_gone}
use Rattle.ca_model.specs.machine.Requester.{local_denial}
use Rattle.ca_model.specs.machine.Responses.{drop_effects, local_writes, writes_by}
use Rattle.ca_model.specs.machine.Row.{Does, Effects, NotPossible, Row, plain_row, queue_and_marks}
use Rattle.ca_wire.specs.Packet.{Fields}
use Rattle.ca_wire.specs.Shapes.{ends}
use Rattle.ca_wire.specs.declared.reth.Reth.{Reth}
use Rattle.ca_wire.specs.declared.shape.Position.{Position}
use Rattle.ca_wire.specs.declared.shape.Shape.{Shape}
use Rattle.ca_wire.specs.Syndrome.{nak_code}
use Rattle.ca_wire.specs.declared.syndrome.NakCode.TheVariants.{InvalidRequest, PsnSequenceError, RemoteOperationalError}
use Rattle.ca_model.specs.declared.mark.Drop1.TheVariants as drops
use Rattle.ca_base.specs.declared.queue_numbers.Message.TheVariants as messages
use Rattle.ca_base.specs.declared.completion.WcOp.TheVariants as operations
use Rattle.ca_base.specs.declared.queue_numbers.Queued.TheVariants as queued
use Rattle.ca_wire.specs.declared.shape.Shape.TheVariants as shapes
use Rattle.ca_law_order.proofs.Lists.HeldLemmas.{Held, drops_in, gone, grows, held, keeps, kept, plainly, put_by, puts_in, response-held}

cond-does : (E : Effects → Type 0) (b : Bool) (x y : Row) → (b ≡ true → RowDoes E x) → (b ≡ false → RowDoes E y) → RowDoes E (if b then x else y)
cond-does E true x y one other = one refl
cond-does E false x y one other = other refl

-- ---- bytes that are put

pub puts-append : (ms ns : List Mark) → puts_in (ms ++ ns) ≡ puts_in ms ++ puts_in ns
puts-append [] ns = refl
puts-append (m ∷ ms) ns = ap (λ xs. put_by m ++ xs) (puts-append ms ns) ∙ sym (append_assoc (put_by m) (puts_in ms) (puts_in ns))

-- a payload that a list has room for is put whole
placed-length : (name : QueueId) (domain : DomainId) (kind : Kind) (skip count : ℕ) (ps : List Piece) (bytes : List ℕ) (rest : List Mark) → length bytes ≡ count → skip + count ≤ list_length ps → puts_in rest ≡ []
    → length (puts_in (local_writes (writes_by (list_asks name domain kind skip count ps) bytes) ++ rest)) ≡ count
placed-length name domain kind skip count [] bytes rest whole room none = ap length none ∙ omega (arith, room)
placed-length name domain kind skip count (p ∷ ps) bytes rest whole room none = by (nat_le p.length skip) (count == 0) refl refl
    (λ skip bytes whole room. placed-length name domain kind skip count ps bytes rest whole room none)
    (λ bytes whole room. placed-length name domain kind 0 (count - (p.length - skip)) ps bytes rest whole room none)
  where
    cut : Bool → Bool → List Piece
    cut b z = if b then cut_list (skip - p.length) count ps else if z then [] else piece_part p skip (min count (p.length - skip)) ∷ cut_list 0 (count - (p.length - skip)) ps

    size : ℕ
    size = list_length ps

    all : skip + count ≤ p.length + size
    all = omega (arith, room, sum_by-cons (λ (x : Piece). x.length) p ps)

    over : nat_le p.length skip ≡ true → p.length ≤ skip
    over e = grind (arith, nat_tests, e)

    under : nat_le p.length skip ≡ false → skip < p.length
    under e = grind (arith, nat_tests, e)

    zero-is : (count == 0) ≡ true → count ≡ 0
    zero-is e = grind (arith, nat_tests, e)

    by : (b z : Bool) → nat_le p.length skip ≡ b → (count == 0) ≡ z
        → ((skip : ℕ) (bytes : List ℕ) → length bytes ≡ count → skip + count ≤ size → length (puts_in (local_writes (writes_by (list_asks name domain kind skip count ps) bytes) ++ rest)) ≡ count)
        → ((bytes : List ℕ) → length bytes ≡ count - (p.length - skip) → 0 + (count - (p.length - skip)) ≤ size
        → length (puts_in (local_writes (writes_by (list_asks name domain kind 0 (count - (p.length - skip)) ps) bytes) ++ rest)) ≡ count - (p.length - skip))
        → length (puts_in (local_writes (writes_by (map (piece_ask name domain kind) (cut b z)) bytes) ++ rest)) ≡ count
    by true z e f later more = later (skip - p.length) bytes whole (omega (arith, all, over e))
    by false true e f later more = ap length none ∙ sym (zero-is f)
    by false false e f later more = length-append (take touch bytes) _
        ∙ ap (λ n. n + length (puts_in (local_writes (writes_by (list_asks name domain kind 0 (count - (p.length - skip)) ps) (drop touch bytes)) ++ rest))) (length-take touch bytes)
        ∙ ap (λ n. min touch (length bytes) + n) (more (drop touch bytes) (length-drop touch bytes ∙ omega (arith, whole, under e)) (omega (arith, all, under e)))
        ∙ omega (arith, whole, under e)
      where
        touch : ℕ
        touch = min count (p.length - skip)

-- ---- what a packet that is not invalid keeps to

pub valid-fits : (q : QueuePair) (p : Fields) (shape : Shape) → is_invalid q p shape ≡ false → fits_payload q p shape ≡ true
valid-fits q p shape e = not-false (fits_payload q p shape) (or_parts (not (continues q.responder.message shape)) (not (fits_payload q p shape))
    (or_parts (not (continues q.responder.message shape) || not (fits_payload q p shape)) (not (fits_write q p shape))
    (or_parts front (option_map_or (λ h. nat_lt MAX_MESSAGE_BYTES h.length) p.reth false)
    (or_parts (front || option_map_or (λ h. nat_lt MAX_MESSAGE_BYTES h.length) p.reth false) (is_misaligned p)
    (or_parts (front || option_map_or (λ h. nat_lt MAX_MESSAGE_BYTES h.length) p.reth false || is_misaligned p) (has_no_place q shape) e).0).0).0).0).1
  where
    front : Bool
    front = not (continues q.responder.message shape) || not (fits_payload q p shape) || not (fits_write q p shape)

-- a packet that does not end its message has bytes
fits-some : (mtu : ℕ) (place : Position) (count : ℕ) → 0 < mtu → fits_position mtu place count ≡ true → ends place ≡ false → 0 < count
fits-some mtu First count some fits e = grind (arith, nat_tests, fits, some)
fits-some mtu Middle count some fits e = grind (arith, nat_tests, fits, some)
fits-some mtu Last count some fits e = absurd (true≢false e)
fits-some mtu Only count some fits e = absurd (true≢false e)

mtu-some : (mtu : ℕ) → is_path_mtu mtu ≡ true → 0 < mtu
mtu-some mtu is = grind (arith, nat_tests, is)

-- ---- a SEND packet

module _ (p : Fields) (next : Option PlacedReceive) where
  took-held : (q x : QueuePair) (b : Bool) (e : Effects) → Held (Some p) next q e → Held (Some p) next q (if b then with_shared_receive x e else e)
  took-held q x true e (gone none) = gone none
  took-held q x true e (kept same puts) = kept same puts
  took-held q x true e (grows f r is sends receiving starts placed some stays message) = grows f r is sends receiving starts placed some stays message
  took-held q x false e held = held

  revoked-none : (q : QueuePair) (o : Option Invalidation) → (puts_in (revoked_marks q o ++ []) ≡ []) × (drops_in (revoked_marks q o ++ []) ≡ false)
  revoked-none q None = (refl, refl)
  revoked-none q (Some i) = (refl, refl)

  writes-stay : (xs : List (Ask × List ℕ)) (rest : List Mark) → drops_in rest ≡ false → drops_in (local_writes xs ++ rest) ≡ false
  writes-stay [] rest none = none
  writes-stay (x ∷ xs) rest none = writes-stay xs rest none

  send-held : (q before : QueuePair) (place : Position) (r : Receiving) → is_send p.opcode ≡ true → receiving_of q next q.responder.message ≡ Some r → begins_send p.opcode ≡ r.taken → (ends place ≡ false → 0 < length p.payload)
      → RowDoes (Held (Some p) next q) (send_row before p place r)
  send-held q before place r sends receiving starts some = by (nat_lt size (r.before + length p.payload)) refl
    where
      size : ℕ
      size = list_length r.receive.receive.list.items

      x : QueuePair
      x = if r.taken then with_receive_taken before else before

      took : Effects → Effects
      took e = if r.taken then with_shared_receive x e else e

      ended : Option OpRefusal → Effects
      ended (Some cause) = receive_failure_effects x r.receive MemoryManagement (Some cause) RemoteOperationalError
      ended None = behind_marks (revoked_marks x (invalidation_of x p)) (after_send_packet (with_window_gone (invalidation_of x p) x) p place r)

      writes : List (Ask × List ℕ)
      writes = writes_by (receive_asks x p r) p.payload

      row_of : Bool → Row
      row_of b =
          if b then plain_row (Does (took (receive_failure_effects x r.receive LocalLength None InvalidRequest)))
          else record {
            asks = receive_asks x p r;
            invalidation = invalidation_of x p;
            denied = λ d. Does (took (behind_marks (local_denial d ∷ []) (receive_failure_effects x r.receive LocalProtection None RemoteOperationalError)));
            allowed = λ bytes refusal. Does (took (record (behind_marks (local_writes writes) (ended refusal)) { writes = writes }));
          }

      fits : nat_lt size (r.before + length p.payload) ≡ false → r.before + length p.payload ≤ size
      fits e = grind (arith, nat_tests, e)

      y : QueuePair
      y = with_window_gone (invalidation_of x p) x

      packet : Bool → Effects
      packet b = if b
          then queue_and_marks (with_message None (queue_after_packet p 1 true true y))
          (receive_mark y.queue r.receive.place r.receive.receive Success operations.Recv (r.before + length p.payload) p.imm (option_map {U = Key} (λ key. record { 0 = key }) p.ieth) ∷ [])
          else queue_and_marks (with_message (Some (messages.Send r.receive.place r.receive.receive (r.before + length p.payload))) (queue_after_packet p 1 false true y)) []

      placed : nat_lt size (r.before + length p.payload) ≡ false → (refusal : Option OpRefusal) → Held (Some p) next q (record (behind_marks (local_writes writes) (ended refusal)) { writes = writes })
      placed e (Some cause) = gone refl
      placed e None = at (ends place) refl
        where
          at : (b : Bool) → ends place ≡ b → Held (Some p) next q (record (behind_marks (local_writes writes) (behind_marks (revoked_marks x (invalidation_of x p)) (packet b))) { writes = writes })
          at true is = gone refl
          at false is = grows p r refl sends receiving starts
              (placed-length x.queue x.domain kinds.Write r.before (length p.payload) r.receive.receive.list.items p.payload (revoked_marks x (invalidation_of x p) ++ []) refl (fits e) (revoked-none x (invalidation_of x p)).0)
              (some is) (writes-stay writes (revoked_marks x (invalidation_of x p) ++ []) (revoked-none x (invalidation_of x p)).1) refl

      by : (b : Bool) → nat_lt size (r.before + length p.payload) ≡ b → RowDoes (Held (Some p) next q) (row_of b)
      by true e = record { denied = λ d. took-held q x r.taken _ (gone refl); allowed = λ bytes refusal. took-held q x r.taken _ (gone refl) }
      by false e = record { denied = λ d. took-held q x r.taken _ (gone refl); allowed = λ bytes refusal. took-held q x r.taken _ (placed e refusal) }

  -- ---- requests

  -- effects that leave the message and put nothing
  still : (q : QueuePair) (e : Effects) → e.queue.responder.message ≡ q.responder.message → puts_in e.marks ≡ [] → RowDoes (Held (Some p) next q) (plain_row (Does e))
  still q e same none = record { denied = λ d. kept same (λ f is sends. none); allowed = λ bytes refusal. kept same (λ f is sends. none) }

  ended_so : (q : QueuePair) (e : Effects) → receive_in_use e.queue.responder.message ≡ None → RowDoes (Held (Some p) next q) (plain_row (Does e))
  ended_so q e none = record { denied = λ d. gone none; allowed = λ bytes refusal. gone none }

  write-held : (q : QueuePair) (envelope : Option ℕ) (place : Position) (found : Option PlacedReceive) (r : WriteReach) → RowDoes (Held (Some p) next q) (write_row q p envelope place found r)
  write-held q envelope place found r = record { denied = λ d. gone refl; allowed = λ bytes refusal. gone (lost (ends place)) }
    where
      done : QueuePair → QueuePair
      done q = with_message None (queue_after_packet p 1 true true q)

      by : Option ℕ → Option PlacedReceive → Effects
      by (Some imm) (Some receive) = with_shared_receive q (queue_and_marks (done (with_receive_taken q))
          (receive_mark q.queue receive.place receive.receive Success operations.RecvImm r.whole (Some imm) None ∷ []))
      by imm next = queue_and_marks (done q) []

      immediate : (imm : Option ℕ) (found : Option PlacedReceive) → receive_in_use (by imm found).queue.responder.message ≡ None
      immediate (Some imm) (Some receive) = refl
      immediate (Some imm) None = refl
      immediate None found = refl

      effects : Bool → Effects
      effects b = if b then by p.imm found else queue_and_marks (with_message (Some (message_left r (length p.payload))) (queue_after_packet p 1 false true q)) []

      lost : (b : Bool) → receive_in_use (effects b).queue.responder.message ≡ None
      lost true = immediate p.imm found
      lost false = refl

  -- what asks for no SEND, and goes on with no message that has a receive
  valid-held : (q : QueuePair) (envelope : Option ℕ) (shape : Shape) → shape_of p.opcode ≡ Some shape → continues q.responder.message shape ≡ true → fits_payload q p shape ≡ true → 0 < q.responder.mtu
      → RowDoes (Held (Some p) next q) (valid_row q p envelope next shape)
  valid-held q envelope (shapes.Send place) shaped goes fits some = at q.responder.message refl goes
    where
      row : Option Receiving → Row
      row (Some r) = send_row q p place r
      row None = plain_row (Does (refusal_effects InvalidRequest q))

      sends : is_send p.opcode ≡ true
      sends = ap (is_send_at (λ place. true)) shaped

      start : (o : Option PlacedReceive) (m : Option Message) → q.responder.message ≡ m → begins place ≡ true → next ≡ o → receiving_of q next m ≡ option_map (λ r. record { receive = r; before = 0; taken = true }) next
          → RowDoes (Held (Some p) next q) (row (option_map (λ r. record { receive = r; before = 0; taken = true }) o))
      start None m is first found same = ended_so q _ refl
      start (Some r) m is first found same = send-held q q place (record { receive = r; before = 0; taken = true }) sends
          (ap (receiving_of q next) is ∙ same ∙ ap (option_map {U = Receiving} (λ r. record { receive = r; before = 0; taken = true })) found) (ap (is_send_at begins) shaped ∙ first) (fits-some q.responder.mtu place (length p.payload) some fits)

      at : (m : Option Message) → q.responder.message ≡ m → continues m (shapes.Send place) ≡ true → RowDoes (Held (Some p) next q) (row (receiving_of q next m))
      at None is goes = start next None is goes refl refl
      at (Some (messages.Write key address left count)) is goes = absurd (true≢false (sym goes))
      at (Some (messages.Send place_at receive count)) is goes = send-held q q place (record { receive = record { place = place_at; receive = receive }; before = count; taken = false }) sends
          (ap (receiving_of q next) is) (ap (is_send_at begins) shaped ∙ middle (begins place) goes) (fits-some q.responder.mtu place (length p.payload) some fits)
        where
          middle : (b : Bool) → not b ≡ true → b ≡ false
          middle true e = absurd (true≢false (sym e))
          middle false e = refl
  valid-held q envelope (shapes.Write place) shaped goes fits some = at (write_reach q p)
    where
      row : Option WriteReach → Row
      row (Some r) = write_row q p envelope place next r
      row None = plain_row (Does (refusal_effects InvalidRequest q))

      at : (r : Option WriteReach) → RowDoes (Held (Some p) next q) (row r)
      at (Some r) = write-held q envelope place next r
      at None = ended_so q _ refl
  valid-held q envelope shapes.Read shaped goes fits some = at p.reth
    where
      row : Option Reth → Row
      row (Some h) = plain_row (Does (read_queued q p envelope h))
      row None = plain_row (Does (refusal_effects InvalidRequest q))

      at : (h : Option Reth) → RowDoes (Held (Some p) next q) (row h)
      at (Some h) = still q _ refl refl
      at None = ended_so q _ refl
  valid-held q envelope (shapes.Atomic kind) shaped goes fits some = at p.atomic
    where
      row : Option AtomicEth → Row
      row (Some a) = atomic_row q p envelope kind a
      row None = plain_row (Does (refusal_effects InvalidRequest q))

      at : (a : Option AtomicEth) → RowDoes (Held (Some p) next q) (row a)
      at (Some a) = record { denied = λ d. gone refl; allowed = λ bytes refusal. kept refl (λ f is sends. refl) }
      at None = ended_so q _ refl

  ahead-held : (q : QueuePair) → RowDoes (Held (Some p) next q) (plain_row (Does (ahead_effects q)))
  ahead-held q = by q.responder.nak_sent
    where
      by : (b : Bool) → RowDoes (Held (Some p) next q) (plain_row (Does (if b then drop_effects q drops.Stale
          else queue_and_marks (with_flag true (with_answer (queued.Nak q.responder.expected (nak_code PsnSequenceError)) q)) [])))
      by true = still q _ refl refl
      by false = still q _ refl refl

  duplicate-held : (psn : ℕ) (envelope : Option ℕ) (shape : Shape) (q : QueuePair) → RowDoes (Held (Some p) next q) (plain_row (Does (duplicate_effects psn p envelope shape q)))
  duplicate-held psn envelope shape q = at (nat_le MAX_DUPLICATES (duplicate_count q.responder.answers))
    where
      Still : Effects → Type 0
      Still e = RowDoes (Held (Some p) next q) (plain_row (Does e))

      acks : (b : Bool) → Still (if b then queue_and_marks (with_answer (queued.Ack (q.responder.expected - 1)) q) [] else drop_effects q drops.Unsaved)
      acks true = still q _ refl refl
      acks false = still q _ refl refl

      within : (h : Reth) (b : Bool) → Still (if b then answer_again psn (queued.Read psn h.key h.address h.length true envelope true) q else drop_effects q drops.Unsaved)
      within h true = still q _ refl refl
      within h false = still q _ refl refl

      reads : (o : Option Reth) → Still (option_map_or (λ h. read_again psn envelope h q) o (drop_effects q drops.Unsaved))
      reads None = still q _ refl refl
      reads (Some h) = within h (nat_le (psn + segments q.responder.mtu h.length) q.responder.expected)

      atomics : (o : Option ℕ) → Still (atomic_again psn o q)
      atomics None = still q _ refl refl
      atomics (Some found) = still q _ refl refl

      effects : Shape → Effects
      effects (shapes.Send place) = ack_again q
      effects (shapes.Write place) = ack_again q
      effects shapes.Read = option_map_or (λ h. read_again psn envelope h q) p.reth (drop_effects q drops.Unsaved)
      effects (shapes.Atomic kind) = atomic_again psn (saved_at psn q.saved) q

      by : (s : Shape) → Still (effects s)
      by (shapes.Send place) = acks (length q.responder.answers == 0)
      by (shapes.Write place) = acks (length q.responder.answers == 0)
      by shapes.Read = reads p.reth
      by (shapes.Atomic kind) = atomics (saved_at psn q.saved)

      at : (b : Bool) → Still (if b then drop_effects q drops.Unsaved else effects shape)
      at true = still q _ refl refl
      at false = by shape

-- the same of a queue pair whose flag is cleared
flag-held : (o : Option Fields) (next : Option PlacedReceive) (b : Bool) (q : QueuePair) (e : Effects) → Held o next (with_flag b q) e → Held o next q e
flag-held o next b q e (gone none) = gone none
flag-held o next b q e (kept same puts) = kept same puts
flag-held o next b q e (grows p r is sends receiving starts placed some stays message) = grows p r is sends (flagged q.responder.message receiving) starts placed some stays message
  where
    flagged : (m : Option Message) → receiving_of (with_flag b q) next m ≡ Some r → receiving_of q next m ≡ Some r
    flagged None is = is
    flagged (Some (messages.Write key address left count)) is = is
    flagged (Some (messages.Send place receive count)) is = is

does-weaker : (E F : Effects → Type 0) (row : Row) → ((e : Effects) → E e → F e) → RowDoes E row → RowDoes F row
does-weaker E F row weaker does = record { denied = λ d. ending (row.denied d) (does.denied d); allowed = λ bytes refusal. ending (row.allowed bytes refusal) (does.allowed bytes refusal) }
  where
    ending : (x : Ending) → EndingDoes E x → EndingDoes F x
    ending (NotPossible reason) does = record {}
    ending (Does e) does = weaker e does

request-held : (p : Fields) (envelope : Option ℕ) (shared : Option SharedReceives) (shape : Shape) (q : QueuePair) → IsQueue q → shape_of p.opcode ≡ Some shape → RowDoes (Held (Some p) (next_receive q shared) q) (request_row p envelope shared shape q)
request-held p envelope shared shape q sound shaped = cond-does E (nat_lt q.responder.expected psn) _ _ (λ ahead. ahead-held p next q)
    (λ none. cond-does E (nat_lt psn q.responder.expected) _ _ (λ again. duplicate-held p next psn envelope shape q)
    (λ none. does-weaker (Held (Some p) next f) E _ (λ e. flag-held (Some p) next false q e) (cond-does (Held (Some p) next f) (is_invalid f p shape) _ _ (λ invalid. ended_so p next f _ refl)
    (λ valid. cond-does (Held (Some p) next f) (takes_receive p shape && is_none (next_receive f shared)) _ _ (λ none. still p next f _ refl refl)
    (λ there. valid-held p next f envelope shape shaped (valid-goes f p shape valid) (valid-fits f p shape valid) (mtu-some q.responder.mtu sound.responder.mtu))))))
  where
    next : Option PlacedReceive
    next = next_receive q shared

    E : Effects → Type 0
    E = Held (Some p) next q

    psn : ℕ
    psn = widened q.responder.expected p.psn

    f : QueuePair
    f = with_flag false q

-- ---- arrivals

-- a response is no SEND
no-send : (p : Fields) → is_response p.opcode ≡ true → is_send p.opcode ≡ false
no-send p is = by (operation_of p.opcode) is
  where
    responds : Option Operation → Bool
    responds (Some (Request shape)) = false
    responds (Some operation) = true
    responds None = false

    by : (o : Option Operation) → responds o ≡ true → is_send_at (λ place. true) (request_shape o) ≡ false
    by None is = refl
    by (Some (Request shape)) is = absurd (true≢false (sym is))
    by (Some (ReadResponse place)) is = refl
    by (Some Acknowledge) is = refl
    by (Some AtomicAcknowledge) is = refl

pub arrival-held : (bytes : List ℕ) (envelope : Option ℕ) (shared : Option SharedReceives) (q : QueuePair) → IsQueue q → RowDoes (Held (result_ok (packet_in bytes)) (next_receive q shared) q) (arrival_row bytes envelope shared q)
arrival-held bytes envelope shared q sound = by (packet_in bytes)
  where
    next : Option PlacedReceive
    next = next_receive q shared

    unless : Fields → Option Drop1 → Row
    unless p (Some cause) = plain_row (Does (drop_effects q cause))
    unless p None = packet_arrived p envelope shared q

    row : Result Fields WireError → Row
    row (Err error) = plain_row (Does (drop_effects q (drops.Wire error)))
    row (Ok p) = unless p (first_of (arrival_drops q p))

    shaped : (p : Fields) → Option Shape → Row
    shaped p (Some shape) = request_row p envelope shared shape q
    shaped p None = plain_row (Does (drop_effects q drops.State))

    of_shape : (p : Fields) (s : Option Shape) → shape_of p.opcode ≡ s → RowDoes (Held (Some p) next q) (shaped p s)
    of_shape p (Some shape) is = request-held p envelope shared shape q sound is
    of_shape p None is = still p next q _ refl refl

    of_packet : (p : Fields) (d : Option Drop1) → RowDoes (Held (Some p) next q) (unless p d)
    of_packet p (Some cause) = still p next q _ refl refl
    of_packet p None = cond-does (Held (Some p) next q) (is_response p.opcode) _ _ (λ is. response-held (Some p) next (λ f same. ap (λ (x : Fields). is_send x.opcode) (sym (same_Some p f same)) ∙ no-send p is) p q) (λ request. of_shape p (shape_of p.opcode) refl)

    by : (r : Result Fields WireError) → RowDoes (Held (result_ok r) next q) (row r)
    by (Err error) = plainly None next (λ p is. absurd (true≢false (sym (ap is_some is)))) q _ (keeps refl)
    by (Ok p) = of_packet p (first_of (arrival_drops q p))

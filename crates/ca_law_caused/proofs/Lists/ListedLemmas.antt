-- A receive that fails for its length or by its list has the cause that speaks of its list. For proofs only.
use Rattle.std.proofs.Common.{Bool, List, None, Option, Some, [], ap, false, if◌then◌else◌, is_none, length, nat_le, nat_lt, not, option_map, refl, sym, true, true≢false, ℕ, ◌&&◌, ◌||◌, ◌++◌, ◌+◌, ◌-◌, ◌==◌, ◌∙◌, ◌∷◌, ◌≡◌, Result, Ok, Err, slice_get, subst}
use Rattle.std.specs.List.{list_any}
use Rattle.std.specs.Option.{option_map_or}
use Rattle.std.specs.Result.{result_ok}
use Rattle.ca_law_order.proofs.Lists.PlanLemmas.{receiving-known}
use Rattle.ca_law_order.specs.Lists.{ListsAgree, life_of, receive_by}
use Rattle.ca_law_keys.proofs.Posts.GrantLemmas.{both-true}
use Rattle.ca_base.specs.Sight.{Invalidation}
use Rattle.ca_base.specs.declared.completion.Completion.{Completion}
use Rattle.ca_base.specs.declared.completion.WcOp.TheVariants as operations
use Rattle.ca_base.specs.declared.completion.WcStatus.TheVariants.{LocalLength, LocalProtection, MemoryManagement, Success}
use Rattle.ca_base.specs.declared.completion.WcStatus.{WcStatus}
use Rattle.ca_base.specs.declared.denied_ask.DeniedAsk.{DeniedAsk}
use Rattle.ca_base.specs.declared.limits.TheConstants.{MAX_DUPLICATES}
use Rattle.ca_base.specs.declared.queue_numbers.Message.TheVariants as messages
use Rattle.ca_base.specs.declared.queue_numbers.Message.{Message}
use Rattle.ca_base.specs.declared.queue_numbers.Queued.TheVariants as queued
use Rattle.ca_base.specs.declared.refusals.OpRefusal.{OpRefusal}
use Rattle.ca_base.specs.declared.request.Piece.{Piece}
use Rattle.ca_base.specs.declared.request.PlacedReceive.{PlacedReceive}
use Rattle.ca_base.specs.declared.request.RecvRequest.{RecvRequest}
use Rattle.ca_base.specs.objects.Answers.{duplicate_count}
use Rattle.ca_base.specs.objects.QueuePair.{QueuePair}
use Rattle.ca_base.specs.objects.Saved.{saved_at}
use Rattle.ca_law_caused.proofs.Caused.AskLemmas.{asked-by, is_by_list}
use Rattle.ca_law_caused.proofs.Caused.SuchLemmas.{RowSuch}
use Rattle.ca_law_caused.proofs.Lists.UsualLemmas.{AreUsual, Usual, flush-usual, plainly-usual, response-usual, usual-append, usual-passes, writes-usual}
use Rattle.ca_law_caused.specs.Listed.{completes_by_list}
use Rattle.ca_keys.specs.Equal.{queue_eq}
use Rattle.ca_keys.specs.Refusals.{first_of}
use Rattle.ca_keys.specs.declared.access.Ask.{Ask}
use Rattle.ca_keys.specs.declared.access.Kind.TheVariants as kinds
use Rattle.ca_keys.specs.declared.key.Key.{Key}
use Rattle.ca_keys.specs.declared.names.Slot.{Slot}
use Rattle.ca_law_world.proofs.Sound.ExpectedLemmas.{valid-goes}
use Rattle.ca_law_world.proofs.Sound.WorldLemmas.{EndingDoes, RowDoes, IsThere, around_in, shared_of}
use Rattle.ca_model.specs.Caused.{is_by_piece, list_at, receive_at}
use Rattle.ca_model.specs.Packets.{begins_send, is_response, is_send, is_send_at}
use Rattle.ca_model.specs.Past.{Past, after_mark, arrived_at_hand, bytes_before, each_mark, present_incarnation}
use Rattle.ca_model.specs.Requests.{list_length, segments}
use Rattle.ca_model.specs.declared.mark.Drop1.TheVariants as drops
use Rattle.ca_model.specs.declared.mark.Drop1.{Drop1}
use Rattle.ca_model.specs.declared.receiving.Receiving.{Receiving}
use Rattle.ca_model.specs.declared.write_reach.WriteReach.{WriteReach}
use Rattle.ca_model.specs.machine.Around.{shared_in}
use Rattle.ca_model.specs.machine.Arrivals.{next_receive, refusal_effects, with_answer, with_flag, with_message, with_receive_taken}
use Rattle.ca_model.specs.machine.Completions.{receive_mark, flush_marks, receive_completion, receive_failure}
use Rattle.ca_model.specs.machine.Delivery.{arrival_drops, arrival_row, packet_arrived}
use Rattle.ca_model.specs.machine.Duplicates.{request_row, ack_again, ahead_effects, answer_again, atomic_again, duplicate_effects, read_again}
use Rattle.ca_model.specs.machine.Expected.{atomic_row, continues, is_invalid, message_left, read_queued, takes_receive, write_reach, write_row, after_send_packet, behind_marks, invalidation_of, queue_after_packet, receive_asks, receive_failure_effects, receiving_of, revoked_marks, send_row, valid_row, with_shared_receive, with_window_gone, rnr_effects}
use Rattle.ca_model.specs.machine.Requester.{local_denial}
use Rattle.ca_model.specs.machine.Responses.{drop_effects, local_writes, writes_by, response_row}
use Rattle.ca_model.specs.machine.Row.{Ending, Does, Effects, NotPossible, Row, plain_row, queue_and_marks}
use Rattle.ca_model.specs.machine.World.{World}
use Rattle.ca_wire.specs.Decoding.{packet_in}
use Rattle.ca_wire.specs.Packet.{Fields}
use Rattle.ca_wire.specs.Shapes.{begins, ends}
use Rattle.ca_wire.specs.Table.{shape_of}
use Rattle.ca_wire.specs.declared.atomic_eth.AtomicEth.{AtomicEth}
use Rattle.ca_wire.specs.declared.reth.Reth.{Reth}
use Rattle.ca_wire.specs.declared.shape.Position.{Position}
use Rattle.ca_wire.specs.declared.shape.Shape.TheVariants as shapes
use Rattle.ca_wire.specs.declared.shape.Shape.{Shape}
use Rattle.ca_wire.specs.declared.wire_error.WireError.{WireError}
use Rattle.ca_psn.specs.Psn.{widened}
use Rattle.ca_wire.specs.Syndrome.{nak_code}
use Rattle.ca_wire.specs.declared.syndrome.NakCode.TheVariants.{InvalidRequest, PsnSequenceError, RemoteOperationalError}
use Rattle.ca_wire.specs.declared.syndrome.NakCode.{NakCode}

-- the next receive of a queue pair
abbrev next_of : World → QueuePair → Option PlacedReceive
next_of w q = next_receive q (shared_in (around_in w q (shared_of w q)))

-- effects whose completions have their lists
abbrev pub Listed : Past → Effects → Type 0
Listed r e = each_mark completes_by_list r e.marks ≡ true

usual-row : (r : Past) (row : Row) → RowDoes Usual row → RowSuch (Listed r) row
usual-row r row does = record { denied = λ d among. ending (row.denied d) (does.denied d); allowed = λ bytes refusal named. ending (row.allowed bytes refusal) (does.allowed bytes refusal) }
  where
    ending : (x : Ending) → EndingDoes Usual x → EndingDoes (Listed r) x
    ending (NotPossible reason) usual = record {}
    ending (Does e) usual = usual-passes e.marks usual r

cond-such : (r : Past) (b : Bool) (x y : Row) → (b ≡ true → RowSuch (Listed r) x) → (b ≡ false → RowSuch (Listed r) y) → RowSuch (Listed r) (if b then x else y)
cond-such r true x y one other = one refl
cond-such r false x y one other = other refl

-- the receive of a completion
receive-same : (r : Past) (c : Completion) → receive_at r c ≡ receive_by (r.receives (present_incarnation r c.queue)) (r.srq c.queue) r.shared c.place
receive-same r c = by (r.srq c.queue)
  where
    at : Option Slot → Option RecvRequest
    at (Some srq) = slice_get (r.shared srq) c.place
    at None = slice_get (r.receives (present_incarnation r c.queue)) c.place

    by : (o : Option Slot) → at o ≡ receive_by (r.receives (present_incarnation r c.queue)) o r.shared c.place
    by None = refl
    by (Some srq) = refl

module _ (r : Past) (w : World) (q : QueuePair) (p : Fields) (agree : ListsAgree r w) (there : IsThere w q) (arrived : arrived_at_hand r q.queue ≡ Some p) where
  send-listed : (f before : QueuePair) (place : Position) (x : Receiving) → f.queue ≡ q.queue → before.queue ≡ q.queue → is_send p.opcode ≡ true → receiving_of q (next_of w q) q.responder.message ≡ Some x → begins_send p.opcode ≡ x.taken
      → RowSuch (Listed r) (send_row before p place x)
  send-listed f before place x own_f own sends receiving starts = of x.taken
    where
      items : List Piece
      items = x.receive.receive.list.items

      known : (receive_by (r.receives (life_of q.queue (r.incarnation q.queue))) (r.srq q.queue) r.shared x.receive.place ≡ Some x.receive.receive) × (bytes_before r q.queue p ≡ x.before)
      known = receiving-known r r w q p x agree there refl receiving starts

      failed : QueuePair → WcStatus → Completion
      failed q status = receive_completion q.queue x.receive.place x.receive.receive.id status operations.Recv 0 None None

      listed : (status : WcStatus) → list_at r (failed q status) ≡ Some items
      listed status = ap (option_map (λ (y : RecvRequest). y.list.items)) (receive-same r (failed q status) ∙ known.0)

      exceeded : Fields → List Piece → Bool
      exceeded f pieces = nat_lt (list_length pieces) (bytes_before r q.queue f + length f.payload)

      longer : nat_lt (list_length items) (x.before + length p.payload) ≡ true → completes_by_list r (receive_failure q.queue x.receive.place x.receive.receive LocalLength None) ≡ true
      longer e = ap (λ o. option_map_or (λ (f : Fields). is_send f.opcode && option_map_or (exceeded f) (list_at r (failed q LocalLength)) false) o false) arrived
          ∙ ap (λ b. b && option_map_or (exceeded p) (list_at r (failed q LocalLength)) false) sends ∙ ap (λ o. option_map_or (exceeded p) o false) (listed LocalLength)
          ∙ ap (λ n. nat_lt (list_length items) (n + length p.payload)) known.1 ∙ e

      denied : (d : DeniedAsk) → is_by_list q.queue items d.ask ≡ true → completes_by_list (after_mark (local_denial d) r) (receive_failure q.queue x.receive.place x.receive.receive LocalProtection None) ≡ true
      denied d is = ap (λ o. option_map_or (λ pieces. list_any (λ (ask : Ask). queue_eq ask.queue q.queue && list_any (is_by_piece ask) pieces) (after_mark (local_denial d) r).at_hand.denied_locally) o false) (listed LocalProtection)
          ∙ ap (λ b. b || list_any (λ (ask : Ask). queue_eq ask.queue q.queue && list_any (is_by_piece ask) items) r.at_hand.denied_locally) is

      from : Bool → QueuePair
      from b = if b then with_receive_taken before else before

      named : (b : Bool) → (from b).queue ≡ q.queue
      named true = own
      named false = own

      took : Bool → Effects → Effects
      took b e = if b then with_shared_receive (from b) e else e

      taken : (b : Bool) (e : Effects) → Listed r e → Listed r (took b e)
      taken true e is = is
      taken false e is = is

      end : QueuePair → Option OpRefusal → Effects
      end f (Some cause) = receive_failure_effects f x.receive MemoryManagement (Some cause) RemoteOperationalError
      end f None = behind_marks (revoked_marks f (invalidation_of f p)) (after_send_packet (with_window_gone (invalidation_of f p) f) p place x)

      writes : QueuePair → List (Ask × List ℕ)
      writes f = writes_by (receive_asks f p x) p.payload

      row_of : Bool → Bool → Row
      row_of b long =
          if long then plain_row (Does (took b (receive_failure_effects (from b) x.receive LocalLength None InvalidRequest)))
          else record {
            asks = receive_asks (from b) p x;
            invalidation = invalidation_of (from b) p;
            denied = λ d. Does (took b (behind_marks (local_denial d ∷ []) (receive_failure_effects (from b) x.receive LocalProtection None RemoteOperationalError)));
            allowed = λ bytes refusal. Does (took b (record (behind_marks (local_writes (writes (from b))) (end (from b) refusal)) { writes = writes (from b) }));
          }

      revoked : (f : QueuePair) (o : Option Invalidation) → AreUsual (revoked_marks f o)
      revoked f None = record {}
      revoked f (Some i) = (record {}, record {})

      packet : (f : QueuePair) (b : Bool) → AreUsual (if b
          then queue_and_marks (with_message None (queue_after_packet p 1 true true f)) (receive_mark f.queue x.receive.place x.receive.receive Success operations.Recv (x.before + length p.payload) p.imm (option_map {U = Key} (λ key. record { 0 = key }) p.ieth) ∷ [])
          else queue_and_marks (with_message (Some (messages.Send x.receive.place x.receive.receive (x.before + length p.payload))) (queue_after_packet p 1 false true f)) []).marks
      packet f true = (record {}, record {})
      packet f false = record {}

      ended : (f : QueuePair) (refusal : Option OpRefusal) → AreUsual (local_writes (writes f) ++ (end f refusal).marks)
      ended f (Some cause) = usual-append (local_writes (writes f)) _ (writes-usual (writes f)) (record {}, flush-usual (with_message None f))
      ended f None = usual-append (local_writes (writes f)) _ (writes-usual (writes f)) (usual-append (revoked_marks f (invalidation_of f p)) _ (revoked f (invalidation_of f p)) (packet (with_window_gone (invalidation_of f p) f) (ends place)))

      fails : (b : Bool) → nat_lt (list_length items) (x.before + length p.payload) ≡ true → Listed r (receive_failure_effects (from b) x.receive LocalLength None InvalidRequest)
      fails b e = both-true _ _ (subst (λ n. completes_by_list r (receive_failure n x.receive.place x.receive.receive LocalLength None) ≡ true) (sym (named b)) (longer e)) (usual-passes (flush_marks (with_message None (from b))) (flush-usual (with_message None (from b))) _)

      refuses : (b : Bool) (d : DeniedAsk) → is_by_list q.queue items d.ask ≡ true → Listed r (behind_marks (local_denial d ∷ []) (receive_failure_effects (from b) x.receive LocalProtection None RemoteOperationalError))
      refuses b d is = both-true true _ refl (both-true _ _ (subst (λ n. completes_by_list (after_mark (local_denial d) r) (receive_failure n x.receive.place x.receive.receive LocalProtection None) ≡ true) (sym (named b)) (denied d is))
          (usual-passes (flush_marks (with_message None (from b))) (flush-usual (with_message None (from b))) _))

      by : (b long : Bool) → nat_lt (list_length items) (x.before + length p.payload) ≡ long → RowSuch (Listed r) (row_of b long)
      by b true e = record { denied = λ d among. taken b _ (fails b e); allowed = λ bytes refusal named. taken b _ (fails b e) }
      by b false e = record {
        denied = λ d among. taken b _ (refuses b d (subst (λ n. is_by_list n items d.ask ≡ true) (named b) (among (is_by_list (from b).queue items) (asked-by (from b).queue (from b).domain kinds.Write x.before (length p.payload) items))));
        allowed = λ bytes refusal invalidates. taken b _ (usual-passes (local_writes (writes (from b)) ++ (end (from b) refusal).marks) (ended (from b) refusal) r);
      }

      of : (b : Bool) → RowSuch (Listed r) (row_of b (nat_lt (list_length items) (x.before + length p.payload)))
      of b = by b (nat_lt (list_length items) (x.before + length p.payload)) refl

  plain-listed : (e : Effects) → AreUsual e.marks → RowSuch (Listed r) (plain_row (Does e))
  plain-listed e usual = usual-row r (plain_row (Does e)) (plainly-usual e usual)

  refused-listed : (f : QueuePair) (code : NakCode) → RowSuch (Listed r) (plain_row (Does (refusal_effects code f)))
  refused-listed f code = plain-listed (refusal_effects code f) (flush-usual f)

  write-listed : (f : QueuePair) (envelope : Option ℕ) (place : Position) (found : Option PlacedReceive) (x : WriteReach) → RowDoes Usual (write_row f p envelope place found x)
  write-listed f envelope place found x = record { denied = λ d. (record {}, flush-usual f); allowed = λ bytes refusal. (record {}, told (ends place)) }
    where
      done : QueuePair → QueuePair
      done q = with_message None (queue_after_packet p 1 true true q)

      by : Option ℕ → Option PlacedReceive → Effects
      by (Some imm) (Some receive) = with_shared_receive f (queue_and_marks (done (with_receive_taken f))
          (receive_mark f.queue receive.place receive.receive Success operations.RecvImm x.whole (Some imm) None ∷ []))
      by imm next = queue_and_marks (done f) []

      immediate : (imm : Option ℕ) (found : Option PlacedReceive) → AreUsual (by imm found).marks
      immediate (Some imm) (Some receive) = (record {}, record {})
      immediate (Some imm) None = record {}
      immediate None found = record {}

      told : (b : Bool) → AreUsual (if b then by p.imm found else queue_and_marks (with_message (Some (message_left x (length p.payload))) (queue_after_packet p 1 false true f)) []).marks
      told true = immediate p.imm found
      told false = record {}

  valid-listed : (f : QueuePair) (envelope : Option ℕ) (shape : Shape) → f.queue ≡ q.queue → f.responder.message ≡ q.responder.message → shape_of p.opcode ≡ Some shape → continues f.responder.message shape ≡ true
      → RowSuch (Listed r) (valid_row f p envelope (next_of w q) shape)
  valid-listed f envelope (shapes.Send place) own message shaped goes = at f.responder.message refl goes
    where
      row : Option Receiving → Row
      row (Some x) = send_row f p place x
      row None = plain_row (Does (refusal_effects InvalidRequest f))

      sends : is_send p.opcode ≡ true
      sends = ap (is_send_at (λ place. true)) shaped

      fresh : PlacedReceive → Receiving
      fresh z = record { receive = z; before = 0; taken = true }

      start : (o : Option PlacedReceive) → next_of w q ≡ o → f.responder.message ≡ None → begins place ≡ true → RowSuch (Listed r) (row (option_map fresh o))
      start None found none first = refused-listed f InvalidRequest
      start (Some z) found none first = send-listed f f place (fresh z) own own sends (ap (receiving_of q (next_of w q)) (sym message ∙ none) ∙ ap (option_map fresh) found) (ap (is_send_at begins) shaped ∙ first)

      middle : (b : Bool) → not b ≡ true → b ≡ false
      middle true e = absurd (true≢false (sym e))
      middle false e = refl

      at : (m : Option Message) → f.responder.message ≡ m → continues m (shapes.Send place) ≡ true → RowSuch (Listed r) (row (receiving_of f (next_of w q) m))
      at None is goes = start (next_of w q) refl is goes
      at (Some (messages.Write key address left count)) is goes = absurd (true≢false (sym goes))
      at (Some (messages.Send at_place receive count)) is goes = send-listed f f place (record { receive = record { place = at_place; receive = receive }; before = count; taken = false }) own own sends
          (ap (receiving_of q (next_of w q)) (sym message ∙ is)) (ap (is_send_at begins) shaped ∙ middle (begins place) goes)
  valid-listed f envelope (shapes.Write place) own message shaped goes = at (write_reach f p)
    where
      row : Option WriteReach → Row
      row (Some x) = write_row f p envelope place (next_of w q) x
      row None = plain_row (Does (refusal_effects InvalidRequest f))

      at : (x : Option WriteReach) → RowSuch (Listed r) (row x)
      at (Some x) = usual-row r (write_row f p envelope place (next_of w q) x) (write-listed f envelope place (next_of w q) x)
      at None = refused-listed f InvalidRequest
  valid-listed f envelope shapes.Read own message shaped goes = at p.reth
    where
      row : Option Reth → Row
      row (Some h) = plain_row (Does (read_queued f p envelope h))
      row None = plain_row (Does (refusal_effects InvalidRequest f))

      at : (h : Option Reth) → RowSuch (Listed r) (row h)
      at (Some h) = plain-listed (read_queued f p envelope h) (record {})
      at None = refused-listed f InvalidRequest
  valid-listed f envelope (shapes.Atomic kind) own message shaped goes = at p.atomic
    where
      row : Option AtomicEth → Row
      row (Some a) = atomic_row f p envelope kind a
      row None = plain_row (Does (refusal_effects InvalidRequest f))

      at : (a : Option AtomicEth) → RowSuch (Listed r) (row a)
      at (Some a) = usual-row r (atomic_row f p envelope kind a) (record { denied = λ d. (record {}, flush-usual f); allowed = λ bytes refusal. (record {}, record {}) })
      at None = refused-listed f InvalidRequest

  ahead-usual : (f : QueuePair) → AreUsual (ahead_effects f).marks
  ahead-usual f = by f.responder.nak_sent
    where
      by : (b : Bool) → AreUsual (if b then drop_effects f drops.Stale
          else queue_and_marks (with_flag true (with_answer (queued.Nak f.responder.expected (nak_code PsnSequenceError)) f)) []).marks
      by true = (record {}, record {})
      by false = record {}

  duplicate-usual : (psn : ℕ) (envelope : Option ℕ) (shape : Shape) (f : QueuePair) → AreUsual (duplicate_effects psn p envelope shape f).marks
  duplicate-usual psn envelope shape f = at (nat_le MAX_DUPLICATES (duplicate_count f.responder.answers))
    where
      acks : (b : Bool) → AreUsual (if b then queue_and_marks (with_answer (queued.Ack (f.responder.expected - 1)) f) [] else drop_effects f drops.Unsaved).marks
      acks true = record {}
      acks false = (record {}, record {})

      within : (h : Reth) (b : Bool) → AreUsual (if b then answer_again psn (queued.Read psn h.key h.address h.length true envelope true) f else drop_effects f drops.Unsaved).marks
      within h true = record {}
      within h false = (record {}, record {})

      reads : (o : Option Reth) → AreUsual (option_map_or (λ h. read_again psn envelope h f) o (drop_effects f drops.Unsaved)).marks
      reads None = (record {}, record {})
      reads (Some h) = within h (nat_le (psn + segments f.responder.mtu h.length) f.responder.expected)

      atomics : (o : Option ℕ) → AreUsual (atomic_again psn o f).marks
      atomics None = (record {}, record {})
      atomics (Some found) = record {}

      effects : Shape → Effects
      effects (shapes.Send place) = ack_again f
      effects (shapes.Write place) = ack_again f
      effects shapes.Read = option_map_or (λ h. read_again psn envelope h f) p.reth (drop_effects f drops.Unsaved)
      effects (shapes.Atomic kind) = atomic_again psn (saved_at psn f.saved) f

      by : (s : Shape) → AreUsual (effects s).marks
      by (shapes.Send place) = acks (length f.responder.answers == 0)
      by (shapes.Write place) = acks (length f.responder.answers == 0)
      by shapes.Read = reads p.reth
      by (shapes.Atomic kind) = atomics (saved_at psn f.saved)

      at : (b : Bool) → AreUsual (if b then drop_effects f drops.Unsaved else effects shape).marks
      at true = (record {}, record {})
      at false = by shape

  request-listed : (envelope : Option ℕ) (shape : Shape) → shape_of p.opcode ≡ Some shape → RowSuch (Listed r) (request_row p envelope (shared_in (around_in w q (shared_of w q))) shape q)
  request-listed envelope shape shaped = cond-such r (nat_lt q.responder.expected psn) _ _ (λ ahead. plain-listed (ahead_effects q) (ahead-usual q))
      (λ none. cond-such r (nat_lt psn q.responder.expected) _ _ (λ again. plain-listed _ (duplicate-usual psn envelope shape q))
      (λ none. cond-such r (is_invalid f p shape) _ _ (λ invalid. refused-listed f InvalidRequest)
      (λ valid. cond-such r (takes_receive p shape && is_none (next_receive f (shared_in (around_in w q (shared_of w q))))) _ _ (λ none. plain-listed (rnr_effects f) (record {}))
      (λ found. valid-listed f envelope shape refl refl shaped (valid-goes f p shape valid)))))
    where
      psn : ℕ
      psn = widened q.responder.expected p.psn

      f : QueuePair
      f = with_flag false q

  packet-listed : (envelope : Option ℕ) → RowSuch (Listed r) (packet_arrived p envelope (shared_in (around_in w q (shared_of w q))) q)
  packet-listed envelope = cond-such r (is_response p.opcode) _ _ (λ is. usual-row r (response_row p q) (response-usual p q)) (λ none. by (shape_of p.opcode) refl)
    where
      row : Option Shape → Row
      row (Some shape) = request_row p envelope (shared_in (around_in w q (shared_of w q))) shape q
      row None = plain_row (Does (drop_effects q drops.State))

      by : (s : Option Shape) → shape_of p.opcode ≡ s → RowSuch (Listed r) (row s)
      by (Some shape) shaped = request-listed envelope shape shaped
      by None shaped = plain-listed (drop_effects q drops.State) (record {}, record {})

pub arrival-listed : (r : Past) (w : World) (q : QueuePair) (bytes : List ℕ) (envelope : Option ℕ) → ListsAgree r w → IsThere w q → arrived_at_hand r q.queue ≡ result_ok (packet_in bytes) → RowSuch (Listed r) (arrival_row bytes envelope (shared_in (around_in w q (shared_of w q))) q)
arrival-listed r w q bytes envelope agree there = by (packet_in bytes)
  where
    dropped : (cause : Drop1) → RowSuch (Listed r) (plain_row (Does (drop_effects q cause)))
    dropped cause = usual-row r _ (plainly-usual (drop_effects q cause) (record {}, record {}))

    unless : Fields → Option Drop1 → Row
    unless p (Some cause) = plain_row (Does (drop_effects q cause))
    unless p None = packet_arrived p envelope (shared_in (around_in w q (shared_of w q))) q

    row : Result Fields WireError → Row
    row (Err error) = plain_row (Does (drop_effects q (drops.Wire error)))
    row (Ok p) = unless p (first_of (arrival_drops q p))

    of_packet : (p : Fields) → arrived_at_hand r q.queue ≡ Some p → (d : Option Drop1) → RowSuch (Listed r) (unless p d)
    of_packet p arrived (Some cause) = dropped cause
    of_packet p arrived None = packet-listed r w q p agree there arrived envelope

    by : (x : Result Fields WireError) → arrived_at_hand r q.queue ≡ result_ok x → RowSuch (Listed r) (row x)
    by (Err error) arrived = dropped (drops.Wire error)
    by (Ok p) arrived = of_packet p arrived (first_of (arrival_drops q p))

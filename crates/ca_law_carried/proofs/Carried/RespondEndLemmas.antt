-- How a responder's turn ends: what it sends is a response, and a READ response carries what its READ gave. For proofs only.
use Rattle.std.proofs.Common.{Bool, IfSome, List, None, Option, Some, [], ap, ap₂, arith, eq-eqb, false, if◌then◌else◌, leb-true, length, nat_le, refl, slice_get, subst, sym, true, ℕ, ◌&&◌, ◌++◌, ◌<◌, ◌==◌, ◌^◌, ◌∙◌, ◌∷◌, ◌≡◌, ◌≤◌}
use Rattle.std.proofs.lemmas.Bool.{and_parts}
use Rattle.std.proofs.lemmas.Bool.Decides.{nat_tests}
use Rattle.std.specs.List.{flat_map}
use Rattle.std.specs.Option.{option_map_or}
use Rattle.std.specs.Str.{bytes_eq}
use Rattle.ca_law_endings.proofs.LeadsLemmas.{leads-around, leads-queue, leads-row, leads-unless}
use Rattle.ca_law_endings.proofs.PathLemmas.{marks-append}
use Rattle.ca_law_endings.specs.Runs.{Leads}
use Rattle.ca_law_carried.proofs.Accesses.TurnLemmas.{told-mtu}
use Rattle.ca_law_carried.specs.Accesses.{AccessesAgree, IsEndedWorld}
use Rattle.ca_law_carried.specs.Asked.{has_its_request}
use Rattle.ca_law_keys.proofs.Keys.KeyTurnLemmas.{found}
use Rattle.ca_law_keys.proofs.Keys.KeyFrame.{IsUp}
use Rattle.ca_law_carried.specs.Starts.{StartsAgree}
use Rattle.ca_base.specs.Configuration.{Configuration}
use Rattle.ca_base.specs.declared.correspondent.Correspondent.{Correspondent}
use Rattle.ca_base.specs.declared.limits.TheConstants.{MAX_PAYLOAD_BYTES}
use Rattle.ca_base.specs.declared.lot.Lot.{Lot}
use Rattle.ca_base.specs.declared.queue_numbers.Queued.{Queued}
use Rattle.ca_base.specs.declared.step.Reason.{Reason}
use Rattle.ca_base.specs.objects.Mailbox.{Mailbox}
use Rattle.ca_base.specs.objects.QueuePair.{Present, QueuePair}
use Rattle.ca_base.specs.objects.StateTable.{is_path_mtu}
use Rattle.ca_law_carried.proofs.Carried.AnsweredLemmas.{AreUnsent, IsReady, failing-unsent}
use Rattle.ca_law_carried.proofs.Carried.EndLemmas.{IsBare, bare-begin, bare-marks, sent-end, sent_by}
use Rattle.ca_law_carried.proofs.Carried.FailingLemmas.{flush-failing}
use Rattle.ca_law_carried.proofs.Carried.SpeltLemmas.{IsSpelt, spelling-same, spelt-again}
use Rattle.ca_law_keys.proofs.Judged.JudgeLemmas.{both-true, bytes-refl}
use Rattle.ca_keys.specs.Equal.{queue_eq}
use Rattle.ca_keys.specs.Refusals.{first_of}
use Rattle.ca_keys.specs.declared.key.Key.{Key}
use Rattle.ca_keys.specs.declared.names.QueueId.{QueueId}
use Rattle.ca_law_world.proofs.Sound.SettledLemmas.{queue-refl}
use Rattle.ca_law_world.proofs.Sound.WorldLemmas.{IsThere, RowDoes, around_in, shared_of}
use Rattle.ca_model.specs.Carried.{are_carried, has_its_cause, is_carried_at_end, is_carried_by_request, is_respond_of, reads_at_most}
use Rattle.ca_model.specs.Packets.{answers_read, is_response, packet_of}
use Rattle.ca_model.specs.Past.{Past, RemoteRead, after_mark, after_marks, at_begin, each_mark, mtu_of, remote_ask}
use Rattle.ca_model.specs.declared.event.Event.{Event}
use Rattle.ca_model.specs.declared.mark.Mark.{Mark}
use Rattle.ca_model.specs.declared.read_left.ReadLeft.{ReadLeft}
use Rattle.ca_model.specs.machine.Around.{With_around}
use Rattle.ca_model.specs.machine.Arrivals.{remote_mark}
use Rattle.ca_model.specs.machine.Completions.{flush_marks}
use Rattle.ca_model.specs.machine.Invariants.{IsQueue}
use Rattle.ca_model.specs.machine.Plan.{Stuck}
use Rattle.ca_model.specs.machine.Requester.{peer_number, psn_bits}
use Rattle.ca_model.specs.machine.Respond.{answer_turn, is_last_response, nak_of, respond_refusals, respond_row, response_segment}
use Rattle.ca_model.specs.machine.Row.{Effects, NotPossible, Row, plain_row}
use Rattle.ca_model.specs.machine.Sound.{IsQueueOf}
use Rattle.ca_model.specs.machine.Turns.{Leave_plan, Packet, Respond_around, has_room_for, packet_sent, respond_plan, sent_marks}
use Rattle.ca_model.specs.machine.World.{Queue_of, World}
use Rattle.ca_wire.specs.Packet.{Fields, spelling}
use Rattle.ca_wire.specs.Table.{row_of}
use Rattle.ca_wire.specs.declared.shape.Position.{Position}
use Rattle.ca_wire.specs.declared.shape.Position.TheVariants.{First, Last, Middle, Only}
use Rattle.ca_wire.proofs.BuilderLaws.{acknowledge_fits, atomic_acknowledge_fits, read_response_fits}
use Rattle.ca_wire.specs.Builders.{acknowledge, atomic_acknowledge, read_response, read_response_aeth, read_response_opcode}
use Rattle.ca_wire.specs.Segment.{position_of}
use Rattle.ca_wire.specs.Syndrome.{syndrome_byte}
use Rattle.ca_wire.specs.declared.segment.Segment.{Segment}
use Rattle.ca_wire.specs.declared.syndrome.NakCode.{NakCode}
use Rattle.ca_wire.specs.declared.syndrome.NakCode.TheVariants.{InvalidRequest, PsnSequenceError, RemoteAccessError, RemoteOperationalError}
use Rattle.ca_wire.specs.declared.syndrome.Syndrome.{Syndrome}
use Rattle.ca_wire.specs.declared.syndrome.Syndrome.TheVariants.{Ack, Nak, RnrNak}
use Rattle.ca_wire.specs.declared.syndrome.TheConstants.{UNLIMITED_CREDITS}
use Rattle.ca_model.specs.declared.event.Event.TheVariants as events
use Rattle.ca_keys.specs.declared.access.Kind.TheVariants as kinds
use Rattle.ca_model.specs.declared.mark.Mark.TheVariants as marks
use Rattle.ca_base.specs.declared.queue_numbers.Queued.TheVariants as queued
use Rattle.ca_base.specs.declared.step.Reason.TheVariants as reasons
use Rattle.ca_keys.specs.declared.verdict.Verdict.TheVariants as verdicts

-- marks whose READs have their requests end as the relation has it
abbrev pub Ends : Past → Event → List Mark → Type 0
Ends past event ms = each_mark has_its_request (at_begin event past) ms ≡ true → is_carried_at_end (after_marks ms (at_begin event past)) ≡ true

-- the same, whatever the world
abbrev pub EndsSo : Past → Event → World → List Mark → Type 0
EndsSo past event v ms = Ends past event ms

-- a packet that can be spelt, and is a response for this queue pair
pub record IsResponseTo (number : ℕ) (f : Fields) : Type 0 where
  pub spelt : IsSpelt f
  pub response : is_response f.opcode ≡ true
  pub queue : f.queue ≡ number

pub small-path : (mtu : ℕ) → is_path_mtu mtu ≡ true → mtu ≤ 4096
small-path mtu e = grind (arith, nat_tests, e)

pub small-psn : (psn : ℕ) → psn_bits psn < 2 ^ 24
small-psn psn = omega arith

small-nak : (code : NakCode) → syndrome_byte (Nak code) < 2 ^ 8
small-nak PsnSequenceError = omega arith
small-nak InvalidRequest = omega arith
small-nak RemoteAccessError = omega arith
small-nak RemoteOperationalError = omega arith

acknowledges : (s : Syndrome) (queue psn msn : ℕ) → queue < 2 ^ 24 → psn < 2 ^ 24 → msn < 2 ^ 24 → syndrome_byte s < 2 ^ 8 → IsResponseTo queue (acknowledge s queue psn msn)
unfolding row_of
acknowledges s queue psn msn number place messages byte = record {
  spelt = record { well = acknowledge_fits s queue psn msn number place messages; pkey = omega arith; syndrome = byte };
  response = refl;
  queue = refl;
}

answers-atomic : (found queue psn msn : ℕ) → queue < 2 ^ 24 → psn < 2 ^ 24 → msn < 2 ^ 24 → IsResponseTo queue (atomic_acknowledge found queue psn msn)
unfolding row_of
answers-atomic found queue psn msn number place messages = record {
  spelt = record { well = atomic_acknowledge_fits found queue psn msn number place messages; pkey = omega arith; syndrome = omega arith };
  response = refl;
  queue = refl;
}

answers-reading : (segment : Segment) (queue psn msn : ℕ) (payload : List ℕ) → queue < 2 ^ 24 → psn < 2 ^ 24 → msn < 2 ^ 24 → length payload ≤ MAX_PAYLOAD_BYTES
    → IsResponseTo queue (read_response segment queue psn msn payload) × (answers_read (read_response segment queue psn msn payload).opcode ≡ true)
unfolding row_of
answers-reading segment queue psn msn payload number place messages few = (
  record {
    spelt = record { well = read_response_fits segment queue psn msn payload number place messages few; pkey = omega arith; syndrome = syndrome (position_of segment) };
    response = (opcodes (position_of segment)).0;
    queue = refl;
  },
  (opcodes (position_of segment)).1,
)
  where
    syndrome : (p : Position) → IfSome (read_response_aeth msn p) (λ a. a.syndrome < 2 ^ 8)
    syndrome First = omega arith
    syndrome Middle = record {}
    syndrome Last = omega arith
    syndrome Only = omega arith

    opcodes : (p : Position) → (is_response (read_response_opcode p) ≡ true) × (answers_read (read_response_opcode p) ≡ true)
    opcodes First = (refl, refl)
    opcodes Middle = (refl, refl)
    opcodes Last = (refl, refl)
    opcodes Only = (refl, refl)

acknowledge-no : (s : Syndrome) (queue psn msn : ℕ) → answers_read (acknowledge s queue psn msn).opcode ≡ false
unfolding row_of
acknowledge-no s queue psn msn = refl

atomic-no : (found queue psn msn : ℕ) → answers_read (atomic_acknowledge found queue psn msn).opcode ≡ false
unfolding row_of
atomic-no found queue psn msn = refl

-- ---- a responder's turn

module _ (past : Past) (name : QueueId) (lot : Lot) (q : QueuePair) (peer : Correspondent) (m : Mailbox) (own : queue_eq name q.queue ≡ true) (names : q.peer ≡ Some peer) (sound : IsQueue q) (mtu : mtu_of past q.queue ≡ q.responder.mtu) where
  abbrev pub event : Event
  event = events.Respond name lot

  number : peer_number q ≡ peer.queue.number
  number = ap (λ o. option_map_or (λ (p : Correspondent). p.queue.number) o 0) names

  small : peer_number q < 2 ^ 24
  small = by q.peer sound.peer
    where
      by : (o : Option Correspondent) → IfSome o (λ p. p.queue.number < 2 ^ 24) → option_map_or (λ p. p.queue.number) o 0 < 2 ^ 24
      by None none = omega arith
      by (Some p) few = few

  -- the packet as it is told
  abbrev pub packet : Fields → Packet
  packet f = record { request = None; bytes = spelling f }

  cause : (f : Fields) (r : Past) → IsResponseTo (peer_number q) f → r.at_hand.event ≡ event → has_its_cause r (sent_by q peer (packet f)) ≡ true
  cause f r answer at = both-true (is_respond_of q.queue r.at_hand.event) _ (ap (is_respond_of q.queue) at ∙ own) (ap (λ o. option_map_or is_response_to o false) (spelt-again f answer.spelt)
      ∙ both-true (is_response f.opcode && (f.queue == peer.queue.number)) _ (both-true (is_response f.opcode) _ answer.response (eq-eqb f.queue peer.queue.number (answer.queue ∙ number)))
      (ap (bytes_eq (spelling f)) (spelling-same f) ∙ bytes-refl (spelling f)))
    where
      is_response_to : Fields → Bool
      is_response_to p = is_response p.opcode && (p.queue == peer.queue.number) && bytes_eq (spelling f) (spelling p)

  -- which packets are READ responses
  asked : (f : Fields) → IsResponseTo (peer_number q) f → option_map_or (λ p. answers_read p.opcode) (packet_of (spelling f)) false ≡ answers_read f.opcode
  asked f answer = ap (λ o. option_map_or (λ (p : Fields). answers_read p.opcode) o false) (spelt-again f answer.spelt)

  -- a response that answers no READ, behind marks that read nothing
  plainly : (f : Fields) (ms : List Mark) → IsResponseTo (peer_number q) f → answers_read f.opcode ≡ false → AreUnsent ms → is_carried_at_end (after_marks (ms ++ sent_marks q peer m lot (packet f)) (at_begin event past)) ≡ true
  plainly f ms answer none unsent = ap is_carried_at_end (marks-append ms (sent_marks q peer m lot (packet f)) (at_begin event past))
      ∙ sent-end q peer m lot (packet f) r bare.pathless bare.sent (cause f r answer bare.of)
      (ap₂ (λ rs b. are_carried rs (if b then sent_by q peer (packet f) ∷ [] else [])) bare.reads (asked f answer ∙ none))
    where
      r : Past
      r = after_marks ms (at_begin event past)

      bare : IsBare event r
      bare = bare-marks ms unsent event (at_begin event past) (bare-begin event past)

  -- a READ response, behind the mark of its READ
  reading : (segment : Segment) (psn : ℕ) (key : Key) (address count : ℕ) (envelope : Option ℕ) (payload : List ℕ)
      → Ends past event (marks.Remote q.queue q.domain envelope key kinds.Read address count (verdicts.Read payload) ∷ sent_marks q peer m lot (packet (read_response segment (peer_number q) (psn_bits psn) q.responder.msn payload)))
  reading segment psn key address count envelope payload told = sent-end q peer m lot (packet f) r refl refl (cause f r answer.0 refl)
      (ap (λ b. are_carried (gave ∷ []) (if b then sent_by q peer (packet f) ∷ [] else [])) (asked f answer.0 ∙ answer.1) ∙ both-true _ true
      (both-true (queue_eq q.queue q.queue) _ (queue-refl q.queue) (ap (λ o. option_map_or (λ (p : Fields). bytes_eq p.payload payload) o false) (spelt-again f answer.0.spelt) ∙ bytes-refl payload)) refl)
    where
      f : Fields
      f = read_response segment (peer_number q) (psn_bits psn) q.responder.msn payload

      gave : RemoteRead
      gave = record { queue = q.queue; bytes = payload }

      r : Past
      r = after_mark (marks.Remote q.queue q.domain envelope key kinds.Read address count (verdicts.Read payload)) (at_begin event past)

      p : Past
      p = at_begin event past

      few : nat_le (length payload) (mtu_of past q.queue) ≡ true
      few = (and_parts _ (reads_at_most (mtu_of p q.queue) (verdicts.Read payload)) (and_parts (is_carried_by_request p (remote_ask q.queue q.domain key kinds.Read address count) envelope (verdicts.Read payload)) _ told).0).1

      most : length payload ≤ MAX_PAYLOAD_BYTES
      most = omega (arith, leb-true (length payload) (mtu_of past q.queue) few, mtu, small-path q.responder.mtu sound.responder.mtu)

      answer : IsResponseTo (peer_number q) f × (answers_read f.opcode ≡ true)
      answer = answers-reading segment (peer_number q) (psn_bits psn) q.responder.msn payload small (small-psn psn) sound.responder.msn most

  -- what effects tell, with the packet that they send
  abbrev pub Tell : Effects → Type 0
  Tell e = Ends past event (e.marks ++ option_map_or (sent_marks q peer m lot) (packet_sent e) [])

  acknowledging : (s : Syndrome) (psn : ℕ) (ms : List Mark) → syndrome_byte s < 2 ^ 8 → AreUnsent ms → Ends past event (ms ++ sent_marks q peer m lot (packet (acknowledge s (peer_number q) (psn_bits psn) q.responder.msn)))
  acknowledging s psn ms byte unsent = λ told. plainly (acknowledge s (peer_number q) (psn_bits psn) q.responder.msn) ms
      (acknowledges s (peer_number q) (psn_bits psn) q.responder.msn small (small-psn psn) sound.responder.msn byte) (acknowledge-no s (peer_number q) (psn_bits psn) q.responder.msn) unsent

  turn : (a : Queued) → RowDoes Tell (answer_turn q a)
  turn (queued.Ack psn) = record { denied = λ d. tell; allowed = λ bytes refusal. tell }
    where
      tell : Ends past event (sent_marks q peer m lot (packet (acknowledge (Ack UNLIMITED_CREDITS) (peer_number q) (psn_bits psn) q.responder.msn)))
      tell = acknowledging (Ack UNLIMITED_CREDITS) psn [] (omega arith) (record {})
  turn (queued.Rnr psn) = record { denied = λ d. tell; allowed = λ bytes refusal. tell }
    where
      tell : Ends past event (sent_marks q peer m lot (packet (acknowledge (RnrNak q.responder.rnr_code) (peer_number q) (psn_bits psn) q.responder.msn)))
      tell = acknowledging (RnrNak q.responder.rnr_code) psn [] (omega (arith, sound.responder.rnr_code)) (record {})
  turn (queued.Nak psn code) = record { denied = λ d. tell; allowed = λ bytes refusal. tell }
    where
      tell : Ends past event (sent_marks q peer m lot (packet (acknowledge (Nak (nak_of code)) (peer_number q) (psn_bits psn) q.responder.msn)))
      tell = acknowledging (Nak (nak_of code)) psn [] (small-nak (nak_of code)) (record {})
  turn (queued.Read psn key address left first envelope duplicate) = record {
    denied = λ d. acknowledging (Nak RemoteAccessError) psn (remote_mark d.ask envelope (verdicts.Denied d.denial) ∷ flush_marks q) (small-nak RemoteAccessError) (refl, failing-unsent (flush_marks q) (flush-failing q));
    allowed = λ bytes refusal. reading (response_segment first (is_last_response q r)) psn key address left envelope (flat_map (λ b. b) bytes);
  }
    where
      r : ReadLeft
      r = record { psn = psn; key = key; address = address; left = left; first = first; envelope = envelope; duplicate = duplicate }
  turn (queued.Atomic psn found duplicate) = record { denied = λ d. tell; allowed = λ bytes refusal. tell }
    where
      tell : Ends past event (sent_marks q peer m lot (packet (atomic_acknowledge found (peer_number q) (psn_bits psn) q.responder.msn)))
      tell = λ told. plainly (atomic_acknowledge found (peer_number q) (psn_bits psn) q.responder.msn) []
          (answers-atomic found (peer_number q) (psn_bits psn) q.responder.msn small (small-psn psn) sound.responder.msn) (atomic-no found (peer_number q) (psn_bits psn) q.responder.msn) (record {})

  pub respond-tells : (room : Bool) → RowDoes Tell (respond_row room q)
  respond-tells room = by (first_of (respond_refusals room q)) (slice_get q.responder.answers 0)
    where
      row : Option Reason → Option Queued → Row
      row (Some reason) answer = plain_row (NotPossible reason)
      row None None = plain_row (NotPossible reasons.Empty)
      row None (Some answer) = answer_turn q answer

      by : (r : Option Reason) (o : Option Queued) → RowDoes Tell (row r o)
      by (Some reason) answer = record { denied = λ d. record {}; allowed = λ bytes refusal. record {} }
      by None None = record { denied = λ d. record {}; allowed = λ bytes refusal. record {} }
      by None (Some answer) = turn answer

-- a world that comes up, and a past that agrees with it
pub record IsWhole (c : Configuration) (past : Past) (w : World) : Type 0 where
  pub ready : IsReady c past w
  pub up : IsUp c past w
  pub ended : IsEndedWorld w
  pub accesses : AccessesAgree past w
  pub starts : StartsAgree past w

pub ends-respond : (c : Configuration) (past : Past) (w : World) (name : QueueId) (lot : Lot) → IsWhole c past w → Leads w (EndsSo past (events.Respond name lot)) (respond_plan c name lot)
ends-respond c past w name lot whole = leads-queue c w P name reasons.State (λ q. With_around q (λ a. Respond_around c lot q a q.peer))
    (λ q is. leads-around w P q (λ a. Respond_around c lot q a q.peer) (by q (found c w name q whole.ready.sound is) (is-own q is) q.peer refl))
  where
    P : World → List Mark → Type 0
    P = EndsSo past (events.Respond name lot)

    is-own : (q : QueuePair) → w.queue name ≡ Present q → queue_eq name q.queue ≡ true
    is-own q is = subst (λ k. queue_eq name k ≡ true) (sym (subst (IsQueueOf name) is (whole.ready.sound.things (Queue_of name))).0) (queue-refl name)

    by : (q : QueuePair) → IsThere w q → queue_eq name q.queue ≡ true → (peer : Option Correspondent) → q.peer ≡ peer → Leads w P (Respond_around c lot q (around_in w q (shared_of w q)) peer)
    by q there own None names = leads-unless w P (respond_refusals true q) Stuck (Stuck reasons.Empty) (λ r. record {}) (record {})
    by q there own (Some peer) names = leads-row c w P (Tell past name lot q peer (w.mailbox peer.queue) own names there.sound mtu) (respond_row (has_room_for q peer (w.mailbox peer.queue)) q)
        (Leave_plan q (around_in w q (shared_of w q)) peer (w.mailbox peer.queue) lot)
        (respond-tells past name lot q peer (w.mailbox peer.queue) own names there.sound mtu (has_room_for q peer (w.mailbox peer.queue))) (λ e cs ws told aside. told)
      where
        mtu : mtu_of past q.queue ≡ q.responder.mtu
        mtu = told-mtu past w q peer whole.ready.paths whole.accesses there.present names

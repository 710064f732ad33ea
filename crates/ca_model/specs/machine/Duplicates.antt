-- The responder's packets ahead of the expected one and before it, and the row of a request that arrived. Contracts cite
-- it.
use Rattle.std.specs.Prelude.{ℕ, ◌+◌, ◌-◌, ◌==◌, nat_le, nat_lt, true, false, if◌then◌else◌, [], length, Option, None, Some}
use Rattle.std.specs.Option.{option_map_or}
use Rattle.ca_base.specs.declared.limits.TheConstants.{MAX_DUPLICATES}
use Rattle.ca_base.specs.declared.queue_numbers.Queued.{Queued}
use Rattle.ca_base.specs.declared.queue_numbers.Queued.TheVariants as queued
use Rattle.ca_base.specs.objects.Answers.{answers_before, duplicate_count, has_nak_from}
use Rattle.ca_base.specs.objects.QueuePair.{QueuePair}
use Rattle.ca_base.specs.objects.Saved.{saved_at}
use Rattle.ca_base.specs.objects.SharedReceives.{SharedReceives}
use Rattle.ca_psn.specs.Psn.{widened}
use Rattle.ca_wire.specs.declared.reth.Reth.{Reth}
use Rattle.ca_wire.specs.declared.syndrome.NakCode.TheVariants.{PsnSequenceError}
use Rattle.ca_wire.specs.Packet.{Fields}
use Rattle.ca_wire.specs.Syndrome.{nak_code}
use Rattle.ca_model.specs.declared.mark.Drop1.TheVariants as drops
use Rattle.ca_model.specs.Requests.{segments}
use Rattle.ca_model.specs.machine.Arrivals.{with_answer, with_flag, with_responder}
use Rattle.ca_model.specs.machine.Expected.{expected_row}
use Rattle.ca_model.specs.machine.Responses.{drop_effects}
use Rattle.ca_model.specs.machine.Row.{Effects, queue_and_marks, Row, plain_row, Does}
use Rattle.ca_wire.specs.declared.shape.Shape.{Shape}
use Rattle.ca_wire.specs.declared.shape.Shape.TheVariants as shapes

-- a packet ahead: the first asks for what is missing, the others are dropped
abbrev pub ahead_effects : QueuePair → Effects
ahead_effects q =
    if q.responder.nak_sent then drop_effects q drops.Stale
    else queue_and_marks (with_flag true (with_answer (queued.Nak q.responder.expected (nak_code PsnSequenceError)) q)) []

-- the queued answers at a PSN or later are removed; with a NAK or an RNR NAK the flag goes
abbrev pub with_answers_before : ℕ → QueuePair → QueuePair
with_answers_before psn q = with_responder (record q.responder {
  answers = answers_before psn q.responder.answers;
  nak_sent =
      if has_nak_from psn q.responder.answers then false else q.responder.nak_sent;
}) q

-- an answer that is given once more
abbrev pub answer_again : ℕ → Queued → QueuePair → Effects
answer_again psn answer q = queue_and_marks (with_answer answer (with_answers_before psn q)) []

-- a SEND or a WRITE once more: an ACK of all that came, where nothing waits to be answered
abbrev pub ack_again : QueuePair → Effects
ack_again q =
    if length q.responder.answers == 0 then queue_and_marks (with_answer (queued.Ack (q.responder.expected - 1)) q) []
    else drop_effects q drops.Unsaved

-- a READ once more, where all its PSNs lie before the expected one
abbrev pub read_again : ℕ → Option ℕ → Reth → QueuePair → Effects
read_again psn envelope h q =
    if nat_le (psn + segments q.responder.mtu h.length) q.responder.expected
    then answer_again psn (queued.Read psn h.key h.address h.length true envelope true) q
    else drop_effects q drops.Unsaved

-- an atomic once more: what it found is saved, or not any more
abbrev pub atomic_again : ℕ → Option ℕ → QueuePair → Effects
atomic_again psn (Some found) q = answer_again psn (queued.Atomic psn found true) q
atomic_again psn None q = drop_effects q drops.Unsaved

-- a duplicate, by its whole PSN
abbrev pub duplicate_effects : ℕ → Fields → Option ℕ → Shape → QueuePair → Effects
duplicate_effects psn p envelope shape q =
    if nat_le MAX_DUPLICATES (duplicate_count q.responder.answers) then drop_effects q drops.Unsaved else by shape
  where
    by : Shape → Effects
    by (shapes.Send position) = ack_again q
    by (shapes.Write position) = ack_again q
    by shapes.Read = option_map_or (λ h. read_again psn envelope h q) p.reth (drop_effects q drops.Unsaved)
    by (shapes.Atomic kind) = atomic_again psn (saved_at psn q.saved) q

-- a request that arrived: ahead, a duplicate, or the expected one
abbrev pub request_row : Fields → Option ℕ → Option SharedReceives → Shape → QueuePair → Row
request_row p envelope shared shape q = by (widened q.responder.expected p.psn)
  where
    by : ℕ → Row
    by psn =
        if nat_lt q.responder.expected psn then plain_row (Does (ahead_effects q))
        else if nat_lt psn q.responder.expected then plain_row (Does (duplicate_effects psn p envelope shape q))
        else expected_row q shared p envelope shape

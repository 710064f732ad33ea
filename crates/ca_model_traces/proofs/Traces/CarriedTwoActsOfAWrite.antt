-- Written by tools/check_traces from examples/traces/carried-two-acts-of-a-write.trace.
-- The history of the trace, and what holds of it. For proofs only.
use Rattle.std.proofs.Common.{◌≡◌, List, [], ◌∷◌, true, false, None, Some, refl}
use Rattle.ca_keys.specs.declared.access.Kind.TheVariants as kinds
use Rattle.ca_base.specs.declared.change.Change.TheVariants as changes
use Rattle.ca_base.specs.declared.lot.Lot.TheVariants as lots
use Rattle.ca_base.specs.declared.request.SendOp.TheVariants as ops
use Rattle.ca_keys.specs.declared.verdict.Verdict.TheVariants as verdicts
use Rattle.ca_model.specs.declared.answer.Answer.TheVariants as answers
use Rattle.ca_model.specs.declared.event.Event.TheVariants as events
use Rattle.ca_model.specs.declared.mark.Mark.TheVariants as marks
use Rattle.ca_model.specs.declared.verb.Verb.TheVariants as verbs
use Rattle.ca_keys.specs.Memory.{zeros}
use Rattle.ca_wire.specs.Decoding.{number_at, bth_at, front_at, reth_from, atomic_from, aeth_from, number_from, payload_at, payload_behind, body_in, packet_in}
use Rattle.ca_wire.specs.Packet.{be_bytes, packet_bytes}
use Rattle.ca_wire.specs.Table.{row_of}
use Rattle.ca_model.specs.Entries.{EntryValue}
use Rattle.ca_model.specs.Judged.{is_judged_history}
use Rattle.ca_model.specs.Licensed.{is_licensed_history}
use Rattle.ca_model.specs.Once.{is_once_history}
use Rattle.ca_law_once.specs.Written.{is_written_history, is_written_once_history}
use Rattle.ca_model.specs.Ordered.{is_ordered_history}
use Rattle.ca_model.specs.Caused.{is_caused_history}
use Rattle.ca_model.specs.Carried.{is_carried_history}
use Rattle.ca_model.proofs.Literals.{d, s, q, k, r, run, list, request, grant, entry}
use Rattle.ca_model_traces.proofs.Entries.{called, hex}

abbrev history : List EntryValue
history =
    called 0 0 0 (verbs.RegMr (s 0 0 0) 0 0 64 (r true true true true true)) (answers.Key (k 1)) (marks.Granted (grant (k 1) (d 0 0) None true 4294967296 64 (r true true true true true) ((run 0 0 0 64) ∷ [])) ∷ [])
    ∷ called 1 0 1 (verbs.RegMr (s 1 0 0) 0 0 64 (r true true true true true)) (answers.Key (k 1)) (marks.Granted (grant (k 1) (d 1 0) None true 4294967296 64 (r true true true true true) ((run 1 0 0 64) ∷ [])) ∷ [])
    ∷ called 2 0 0 (verbs.CreateQp (s 0 0 0) 0 0 4 4 None) (answers.Queue 256 1) []
    ∷ called 3 0 1 (verbs.CreateQp (s 1 0 0) 0 0 4 4 None) (answers.Queue 256 1) []
    ∷ called 4 0 0 (verbs.ModifyQp (s 0 0 0) (changes.Rtr (q 1 256) 1 0 256 12)) answers.Fine []
    ∷ called 5 0 1 (verbs.ModifyQp (s 1 0 0) (changes.Rtr (q 0 256) 1 0 256 12)) answers.Fine []
    ∷ called 6 0 0 (verbs.ModifyQp (s 0 0 0) (changes.Rts 0 7 7 16)) answers.Fine []
    ∷ called 7 0 1 (verbs.ModifyQp (s 1 0 0) (changes.Rts 0 7 7 16)) answers.Fine []
    ∷ called 8 0 0 (verbs.PostSend (s 0 0 0) (request 0 true false false (ops.Write 4294967296 (k 1) (list ([]))))) (answers.Posted None) []
    ∷ entry 9 0 (events.Request (q 0 256) lots.Pass) (marks.Sent (q 0 256) (q 1 256) (Some 0) (Some 0) (hex "1400ffff000001008000000000000001000000000000000100000000000000050000000000000000") ∷ [])
    ∷ entry 10 0 (events.Deliver (q 1 256) 0) (marks.Remote (q 1 256) (d 1 0) (Some 0) (k 1) kinds.FetchAdd 4294967296 8 (verdicts.Swapped 0 5) ∷ [])
    ∷ entry 11 0 (events.Deliver (q 1 256) 0) (marks.Remote (q 1 256) (d 1 0) (Some 0) (k 1) kinds.FetchAdd 4294967296 8 (verdicts.Swapped 5 10) ∷ [])
    ∷ []

judged : is_judged_history zeros history ≡ true
unfolding row_of be_bytes packet_bytes number_at bth_at front_at reth_from atomic_from aeth_from number_from payload_at payload_behind body_in packet_in
judged = refl

licensed : is_licensed_history zeros history ≡ true
unfolding row_of be_bytes packet_bytes number_at bth_at front_at reth_from atomic_from aeth_from number_from payload_at payload_behind body_in packet_in
licensed = refl

once : is_once_history zeros history ≡ true
unfolding row_of be_bytes packet_bytes number_at bth_at front_at reth_from atomic_from aeth_from number_from payload_at payload_behind body_in packet_in
once = refl

written : is_written_history zeros history ≡ true
unfolding row_of be_bytes packet_bytes number_at bth_at front_at reth_from atomic_from aeth_from number_from payload_at payload_behind body_in packet_in
written = refl

written_once : is_written_once_history zeros history ≡ true
unfolding row_of be_bytes packet_bytes number_at bth_at front_at reth_from atomic_from aeth_from number_from payload_at payload_behind body_in packet_in
written_once = refl

ordered : is_ordered_history zeros history ≡ true
unfolding row_of be_bytes packet_bytes number_at bth_at front_at reth_from atomic_from aeth_from number_from payload_at payload_behind body_in packet_in
ordered = refl

caused : is_caused_history zeros history ≡ true
unfolding row_of be_bytes packet_bytes number_at bth_at front_at reth_from atomic_from aeth_from number_from payload_at payload_behind body_in packet_in
caused = refl

carried : is_carried_history zeros history ≡ false
unfolding row_of be_bytes packet_bytes number_at bth_at front_at reth_from atomic_from aeth_from number_from payload_at payload_behind body_in packet_in
carried = refl

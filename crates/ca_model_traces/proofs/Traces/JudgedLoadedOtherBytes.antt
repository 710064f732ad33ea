-- Written by tools/check_traces from examples/traces/judged-loaded-other-bytes.trace.
-- The history of the trace, and what holds of it. For proofs only.
use Rattle.std.proofs.Common.{◌≡◌, List, [], ◌∷◌, true, false, None, Some, refl}
use Rattle.ca_base.specs.declared.request.SendOp.TheVariants as ops
use Rattle.ca_model.specs.declared.answer.Answer.TheVariants as answers
use Rattle.ca_model.specs.declared.answer.Refusal.TheVariants as refusals
use Rattle.ca_model.specs.declared.mark.Mark.TheVariants as marks
use Rattle.ca_model.specs.declared.verb.Verb.TheVariants as verbs
use Rattle.ca_keys.specs.Memory.{zeros}
use Rattle.ca_wire.specs.Decoding.{number_at, bth_at, front_at, reth_from, atomic_from, aeth_from, number_from, payload_at, payload_behind, body_in, packet_in}
use Rattle.ca_wire.specs.Packet.{be_bytes, packet_bytes}
use Rattle.ca_wire.specs.Table.{row_of}
use Rattle.ca_model.specs.Entries.{EntryValue}
use Rattle.ca_model.specs.Licensed.{is_licensed_history}
use Rattle.ca_model.specs.Carried.{is_carried_history}
use Rattle.ca_model.specs.Once.{is_once_history}
use Rattle.ca_law_once.specs.Written.{is_written_history, is_written_once_history}
use Rattle.ca_model.specs.Ordered.{is_ordered_history}
use Rattle.ca_model.specs.Caused.{is_caused_history}
use Rattle.ca_model.specs.Judged.{is_judged_history}
use Rattle.ca_model.proofs.Literals.{d, s, k, r, run, piece, list, request, receive, grant}
use Rattle.ca_model_traces.proofs.Entries.{called, hex}

abbrev history : List EntryValue
history =
    called 0 0 0 (verbs.AllocPd (d 0 0)) answers.Fine []
    ∷ called 1 0 0 (verbs.CreateCq (s 0 0 0) 18) answers.Fine []
    ∷ called 2 0 0 (verbs.CreateCq (s 0 0 1) 9) answers.Fine []
    ∷ called 3 0 0 (verbs.CreateSrq (s 0 0 0) 2) answers.Fine []
    ∷ called 4 0 0 (verbs.CreateQp (s 0 0 0) 0 1 2 0 (Some 0)) (answers.Queue 256 1) []
    ∷ called 5 0 0 (verbs.RegMr (s 0 0 0) 0 0 4096 (r true true true true true)) (answers.Key (k 1)) (marks.Granted (grant (k 1) (d 0 0) None true 4294967296 4096 (r true true true true true) ((run 0 0 0 4096) ∷ [])) ∷ [])
    ∷ called 6 0 0 (verbs.RegMr (s 0 0 1) 0 0 4096 (r true true true true true)) (answers.Key (k 257)) (marks.Granted (grant (k 257) (d 0 0) None true 4294967296 4096 (r true true true true true) ((run 0 0 0 4096) ∷ [])) ∷ [])
    ∷ called 7 0 0 (verbs.AllocMw (s 0 0 0) 1) answers.Fine []
    ∷ called 8 0 0 (verbs.AllocMw (s 0 0 1) 1) answers.Fine []
    ∷ called 9 0 0 (verbs.PostSrq (s 0 0 0) (receive 1001 (list ((piece 257 4294967296 8000) ∷ [])))) (answers.Posted None) []
    ∷ called 10 0 0 (verbs.Poll (s 0 0 1) 16 0) (answers.Polled ([])) []
    ∷ called 11 0 0 (verbs.PostSend (s 0 0 0) (request 2 true false true (ops.SendImm 1658109992 (list ((piece 1 4294969663 512) ∷ []))))) (answers.Refused refusals.QueueState) []
    ∷ called 12 0 0 (verbs.Poll (s 0 0 0) 1 0) (answers.Polled ([])) []
    ∷ called 13 0 0 (verbs.Load 0 0 3619 1) (answers.Loaded (hex "01")) []
    ∷ []

licensed : is_licensed_history zeros history ≡ true
unfolding row_of be_bytes packet_bytes number_at bth_at front_at reth_from atomic_from aeth_from number_from payload_at payload_behind body_in packet_in
licensed = refl

carried : is_carried_history zeros history ≡ true
unfolding row_of be_bytes packet_bytes number_at bth_at front_at reth_from atomic_from aeth_from number_from payload_at payload_behind body_in packet_in
carried = refl

once : is_once_history zeros history ≡ true
unfolding row_of be_bytes packet_bytes number_at bth_at front_at reth_from atomic_from aeth_from number_from payload_at payload_behind body_in packet_in
once = refl

written : is_written_history zeros history ≡ true
unfolding row_of be_bytes packet_bytes number_at bth_at front_at reth_from atomic_from aeth_from number_from payload_at payload_behind body_in packet_in
written = refl

written_once : is_written_once_history zeros history ≡ true
unfolding row_of be_bytes packet_bytes number_at bth_at front_at reth_from atomic_from aeth_from number_from payload_at payload_behind body_in packet_in
written_once = refl

ordered : is_ordered_history zeros history ≡ true
unfolding row_of be_bytes packet_bytes number_at bth_at front_at reth_from atomic_from aeth_from number_from payload_at payload_behind body_in packet_in
ordered = refl

caused : is_caused_history zeros history ≡ true
unfolding row_of be_bytes packet_bytes number_at bth_at front_at reth_from atomic_from aeth_from number_from payload_at payload_behind body_in packet_in
caused = refl

judged : is_judged_history zeros history ≡ false
unfolding row_of be_bytes packet_bytes number_at bth_at front_at reth_from atomic_from aeth_from number_from payload_at payload_behind body_in packet_in
judged = refl
